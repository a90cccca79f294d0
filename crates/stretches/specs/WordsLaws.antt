-- The words of bytes by their number. Assumes nothing.
use Rattle.std.specs.Prelude.{ℕ, ◌+◌, ◌*◌, ◌/◌, ◌≤◌, ◌<◌, ◌≡◌, refl, List, [], ◌∷◌, length, get_or, take, drop}
use Rattle.std.proofs.Common.{sym, ap, ◌∙◌, arith, length-take, length-drop, get_or-drop, get_or-take}
use Rattle.std.proofs.Math.ListN.{get_or-eq_default}
use Rattle.fields.specs.Bytes.{word_of_bytes, words_of_bytes}
use Rattle.fields.proofs.BytesLaws.{words_some, words_drop}

-- as many words as fours of bytes
pub words_count : (bytes : List ℕ) → length (words_of_bytes bytes) ≡ length bytes / 4
words_count [] = refl
words_count (a ∷ []) = refl
words_count (a ∷ b ∷ []) = refl
words_count (a ∷ b ∷ c ∷ []) = refl
words_count (a ∷ b ∷ c ∷ d ∷ bytes) = omega (arith, words_count bytes)

-- the word of that number
pub word_is : (bytes : List ℕ) (k : ℕ) → 4 * k + 4 ≤ length bytes
    → get_or (words_of_bytes bytes) k 0 ≡ word_of_bytes (get_or bytes (4 * k) 0) (get_or bytes (4 * k + 1) 0) (get_or bytes (4 * k + 2) 0) (get_or bytes (4 * k + 3) 0)
word_is bytes k h =
    let z : k + 0 ≡ k = omega arith in
    let y : 4 * k + 0 ≡ 4 * k = omega arith in
    ap (λ (n : ℕ). get_or (words_of_bytes bytes) n 0) (sym z)
    ∙ sym (get_or-drop k (words_of_bytes bytes) 0 0)
    ∙ ap (λ (l : List ℕ). get_or l 0 0) (sym (words_drop k bytes) ∙ words_some (drop (4 * k) bytes) (omega (arith, length-drop (4 * k) bytes)))
    ∙ rw (get_or-drop (4 * k) bytes 0 0, get_or-drop (4 * k) bytes 1 0, get_or-drop (4 * k) bytes 2 0, get_or-drop (4 * k) bytes 3 0, y)

-- past the end there is none
pub word_none : (bytes : List ℕ) (k : ℕ) → length bytes / 4 ≤ k → get_or (words_of_bytes bytes) k 0 ≡ 0
word_none bytes k h = get_or-eq_default (words_of_bytes bytes) 0 (omega (arith, words_count bytes))

-- a word of a part of the bytes is one of theirs
module _ (bytes : List ℕ) {from size : ℕ} (j : ℕ) (whole : from ≡ 4 * j) (inside : from + size ≤ length bytes) where
  byte : (i : ℕ) → i < size → get_or (take size (drop from bytes)) i 0 ≡ get_or bytes (from + i) 0
  byte i h = rw (get_or-take, get_or-drop)

  pub part_length : length (take size (drop from bytes)) ≡ size
  part_length = simp (length-take, length-drop) (omega arith)

  pub word_part : (i : ℕ) → 4 * i + 4 ≤ size → get_or (words_of_bytes (take size (drop from bytes))) i 0 ≡ get_or (words_of_bytes bytes) (j + i) 0
  word_part i h =
      let a : from + 4 * i ≡ 4 * (j + i) = omega arith in
      let b : from + (4 * i + 1) ≡ 4 * (j + i) + 1 = omega arith in
      let c : from + (4 * i + 2) ≡ 4 * (j + i) + 2 = omega arith in
      let d : from + (4 * i + 3) ≡ 4 * (j + i) + 3 = omega arith in
      word_is (take size (drop from bytes)) i (omega (arith, part_length))
      ∙ rw (byte (4 * i) (omega arith), byte (4 * i + 1) (omega arith), byte (4 * i + 2) (omega arith), byte (4 * i + 3) (omega arith), a, b, c, d)
      (sym (word_is bytes (j + i) (omega arith)))

  pub part_first : 4 ≤ size → get_or (words_of_bytes (take size (drop from bytes))) 0 0 ≡ get_or (words_of_bytes bytes) j 0
  part_first h = let z : j + 0 ≡ j = omega arith in word_part 0 (omega arith) ∙ ap (λ (n : ℕ). get_or (words_of_bytes bytes) n 0) z
