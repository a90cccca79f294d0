-- What the lister's functions promise of their answers and of the lent buffer. Assumes nothing.
use Rattle.std.specs.Prelude.{ℕ, min, ◌≡◌, Bool, cond, List, ◌++◌, leb, length, drop}
use Rattle.std.specs.declared.result.Result.{Result}
use Rattle.std.specs.declared.result.Result.TheVariants.{Ok, Err}
use Rattle.written.specs.Page.{farthest}
use Rattle.listing.specs.declared.NoRoom.{NoRoom}

-- the text's length, or the room that it needs
abbrev pub Listed : Type 0
Listed = Result ℕ NoRoom

-- the paper's number of an answer: 9, a "buffer too short for all that call writes", 0 for a text
abbrev pub listed_number : Listed → ℕ
listed_number (Ok n) = 0
listed_number (Err e) = 9

-- the length of the text, and the room that it needs
abbrev pub listed_value : Listed → ℕ
listed_value (Ok n) = n
listed_value (Err e) = e.needed

abbrev pub text_has_room : List ℕ → List ℕ → Bool
text_has_room all text = leb (length all) (length text)

-- a text's length as it is counted: up to a number that no buffer's length reaches
abbrev pub counted : List ℕ → ℕ
counted all = min (length all) farthest

-- the text, of so many bytes, stands in front and the rest is as it was; where it has no room, all is as it was
pub record TextSays (all : List ℕ) (size : ℕ) (text : List ℕ) (r : Listed) (text' : List ℕ) : Type 0 where
  pub number : listed_number r ≡ cond (text_has_room all text) 0 9
  pub value : listed_value r ≡ size
  pub bytes : text' ≡ cond (text_has_room all text) (all ++ drop (length all) text) text

-- of an input of the lister, whose text is never so long that its length is not counted whole
abbrev pub ListSays : List ℕ → List ℕ → Listed → List ℕ → Type 0
ListSays all text r text' = TextSays all (length all) text r text'

-- of any number of bytes
abbrev pub LongSays : List ℕ → List ℕ → Listed → List ℕ → Type 0
LongSays all text r text' = TextSays all (counted all) text r text'

-- the same of an answer that is the length alone
pub record LengthSays (all text : List ℕ) (r : ℕ) (text' : List ℕ) : Type 0 where
  pub size : r ≡ counted all
  pub bytes : text' ≡ cond (text_has_room all text) (all ++ drop (length all) text) text
