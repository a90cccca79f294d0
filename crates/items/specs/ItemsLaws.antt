-- The words of lists of records, and the laws of writing said of records. Assumes nothing.
use Rattle.std.specs.Prelude.{ℕ, suc, ◌+◌, ◌≤◌, ◌<◌, ◌≡◌, refl, Bool, true, List, [], ◌∷◌, ◌++◌, length}
use Rattle.std.proofs.Common.{ap, ◌∙◌, append-nil, arith, length-append}
use Rattle.ground.specs.Splice.{Written, WrittenIf}
use Rattle.ground.specs.SpliceLaws.{length_splice}
use Rattle.ground.specs.WritingLaws.{Left, left_room, left_less, left_none, written_then, wrote, written, no_room}
use Rattle.items.specs.Items.{word_of, words_of}
use Rattle.items.specs.declared.Item.{Item}

pub length_words : (xs : List Item) → length (words_of xs) ≡ length xs
length_words [] = refl
length_words (x ∷ xs) = ap suc (length_words xs)

pub words_append : (xs ys : List Item) → words_of (xs ++ ys) ≡ words_of xs ++ words_of ys
words_append [] ys = refl
words_append (x ∷ xs) ys = ap (λ ws. word_of x ∷ ws) (words_append xs ys)

-- ---- one writer after another

-- the first has room
pub first_room : (k n : ℕ) (xs ys : List Item) → k + length (xs ++ ys) ≤ n → k + length xs ≤ n
first_room k n xs ys h = omega (arith, length-append xs ys)

-- what the first leaves has room for the second
pub then_room : (b : List ℕ) (at : ℕ) (xs ys : List Item) (k : ℕ) (b₁ : List ℕ) → at + length (xs ++ ys) ≤ length b
    → Written b at (words_of xs) k b₁ → k + length ys ≤ length b₁
then_room b at xs ys k b₁ h w =
    let n = length_words xs in
    let s : length b₁ ≡ length b = ap length w.words ∙ length_splice b at (words_of xs) (omega (arith, n, length-append xs ys)) in
    omega (arith, s, w.place, n, length-append xs ys)

pub then_written : (b : List ℕ) (at : ℕ) (xs : List Item) (k : ℕ) (b₁ : List ℕ) (ys : List Item) (n : ℕ) (b₂ : List ℕ) → at ≤ length b
    → Written b at (words_of xs) k b₁ → Written b₁ k (words_of ys) n b₂ → Written b at (words_of (xs ++ ys)) n b₂
then_written b at xs k b₁ ys n b₂ h p q = rw (words_append xs ys) (written_then b at (words_of xs) k b₁ (words_of ys) n b₂ h p q)

-- a writer that may be lent anything: one that has room writes, one that has none does not
module _ {b : List ℕ} {at : ℕ} (xs : List Item) where
  pub put_written : {good : Bool} {next : ℕ} {b' : List ℕ} → good ≡ true → at + length xs ≤ length b → WrittenIf good b at (words_of xs) next b'
      → Written b at (words_of xs) next b'
  put_written g h w = written g (rw (length_words xs) h) w

  pub put_wrote : {good : Bool} {next : ℕ} {b' : List ℕ} → good ≡ true → at + length xs ≤ length b → Written b at (words_of xs) next b'
      → WrittenIf good b at (words_of xs) next b'
  put_wrote g h w = wrote g (rw (length_words xs) h) w

  pub put_nothing : {good : Bool} → length b < at + length xs → WrittenIf good b at (words_of xs) at b
  put_nothing h = no_room (rw (length_words xs) h)

-- ---- a loop of writers

module _ (buf₀ : List ℕ) (at : ℕ) (all : List Item) (fits : at + length all ≤ length buf₀) where
  room : at + length (words_of all) ≤ length buf₀
  room = rw (length_words all) fits

  -- what is left begins with xs: they have room
  pub loop_room : (buf : List ℕ) (k : ℕ) (xs rest : List Item) → Left buf₀ at (words_of all) buf k (words_of (xs ++ rest)) → k + length xs ≤ length buf
  loop_room buf k xs rest i =
      let r = left_room buf₀ at (words_of all) room buf k (words_of xs) (words_of rest) (rw (words_append xs rest) at i) in
      rw (length_words xs) at r

  -- they are written
  pub loop_less : (buf : List ℕ) (k : ℕ) (xs rest : List Item) (k' : ℕ) (buf' : List ℕ) → Left buf₀ at (words_of all) buf k (words_of (xs ++ rest))
      → Written buf k (words_of xs) k' buf' → Left buf₀ at (words_of all) buf' k' (words_of rest)
  loop_less buf k xs rest k' buf' i w = left_less buf₀ at (words_of all) room buf k (words_of xs) (words_of rest) k' buf' (rw (words_append xs rest) at i) w

  -- nothing is left
  pub loop_none : (buf : List ℕ) (k : ℕ) → Left buf₀ at (words_of all) buf k [] → Written buf₀ at (words_of all) k buf
  loop_none buf k i = left_none buf₀ at (words_of all) room buf k i

  -- the last ones are written
  pub loop_last : (buf : List ℕ) (k : ℕ) (xs : List Item) (k' : ℕ) (buf' : List ℕ) → Left buf₀ at (words_of all) buf k (words_of xs)
      → Written buf k (words_of xs) k' buf' → Written buf₀ at (words_of all) k' buf'
  loop_last buf k xs k' buf' i w = loop_none buf' k' (loop_less buf k xs [] k' buf' (rw (append-nil xs) i) w)
