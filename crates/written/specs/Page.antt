-- A page: the bytes of a lent buffer, and the place of the next byte. What has no room is counted and not written. Assumes nothing.
use Rattle.std.specs.Prelude.{ℕ, ◌+◌, cond, List, [], ◌∷◌, ltb, set}

abbrev pub Page : Type 0
Page = List ℕ × ℕ

-- no buffer is this long: a place stays here
abbrev pub farthest : ℕ
farthest = 9223372036854775808

-- the place after the next byte
abbrev pub past : ℕ → ℕ
past at = cond (ltb at farthest) (at + 1) at

-- one byte more (`set` past the end of a list leaves it)
abbrev pub put_byte : Page → ℕ → Page
put_byte p b = (set p.0 p.1 b, past p.1)

-- bytes in their order
unfoldable pub put : Page → List ℕ → Page
put p [] = p
put p (b ∷ bs) = put (put_byte p b) bs
