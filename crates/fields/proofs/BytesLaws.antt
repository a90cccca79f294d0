-- Words and bytes, there and back. Assumes nothing.
use Rattle.std.specs.Prelude.{ℕ, zero, suc, ◌*◌, ◌≤◌, ◌<◌, ◌^◌, ◌≡◌, refl, List, [], ◌∷◌, length, drop, get_or}
use Rattle.std.proofs.Common.{ap, ◌∙◌, arith, le-leb}
use Rattle.fields.specs.Word.{read}
use Rattle.fields.proofs.WordLaws.{reads_pack, built}
use Rattle.fields.specs.Bytes.{four_bytes, word_of_bytes, bytes_of, words_of_bytes}

pub bytes_there : (a b c d : ℕ) → a ≤ 255 → b ≤ 255 → c ≤ 255 → d ≤ 255 → bytes_of (word_of_bytes a b c d) ≡ a ∷ b ∷ c ∷ d ∷ []
bytes_there a b c d ha hb hc hd =
    reads_pack 32 (four_bytes a b c d) tt (rw (le-leb a 255 ha, le-leb b 255 hb, le-leb c 255 hc, le-leb d 255 hd) tt)

pub bytes_back : (word : ℕ) → word < 2 ^ 32 → word_of_bytes (read 31 24 word) (read 23 16 word) (read 15 8 word) (read 7 0 word) ≡ word
bytes_back word l = built (four_bytes (read 31 24 word) (read 23 16 word) (read 15 8 word) (read 7 0 word)) word l tt refl

-- ---- words in a row

pub words_none : (bytes : List ℕ) → length bytes < 4 → words_of_bytes bytes ≡ []
words_none [] h = refl
words_none (a ∷ []) h = refl
words_none (a ∷ b ∷ []) h = refl
words_none (a ∷ b ∷ c ∷ []) h = refl
words_none (a ∷ b ∷ c ∷ d ∷ bytes) h = absurd (omega arith)

pub words_some : (bytes : List ℕ) → 4 ≤ length bytes → words_of_bytes bytes ≡ word_of_bytes (get_or bytes 0 0) (get_or bytes 1 0) (get_or bytes 2 0) (get_or bytes 3 0) ∷ words_of_bytes (drop 4 bytes)
words_some [] h = absurd (omega arith)
words_some (a ∷ []) h = absurd (omega arith)
words_some (a ∷ b ∷ []) h = absurd (omega arith)
words_some (a ∷ b ∷ c ∷ []) h = absurd (omega arith)
words_some (a ∷ b ∷ c ∷ d ∷ bytes) h = refl

pub words_drop : (n : ℕ) (bytes : List ℕ) → words_of_bytes (drop (4 * n) bytes) ≡ drop n (words_of_bytes bytes)
words_drop zero bytes = refl
words_drop (suc n) bytes = ap (λ (k : ℕ). words_of_bytes (drop k bytes)) four ∙ go bytes (λ rest. words_drop n rest)
  where
    four : 4 * suc n ≡ suc (suc (suc (suc (4 * n))))
    four = omega arith

    go : (bytes : List ℕ) → ((rest : List ℕ) → words_of_bytes (drop (4 * n) rest) ≡ drop n (words_of_bytes rest)) → words_of_bytes (drop (suc (suc (suc (suc (4 * n))))) bytes) ≡ drop (suc n) (words_of_bytes bytes)
    go [] r = refl
    go (a ∷ []) r = refl
    go (a ∷ b ∷ []) r = refl
    go (a ∷ b ∷ c ∷ []) r = refl
    go (a ∷ b ∷ c ∷ d ∷ rest) r = r rest

pub words_le : (bytes : List ℕ) → 4 * length (words_of_bytes bytes) ≤ length bytes
words_le [] = omega arith
words_le (a ∷ []) = omega arith
words_le (a ∷ b ∷ []) = omega arith
words_le (a ∷ b ∷ c ∷ []) = omega arith
words_le (a ∷ b ∷ c ∷ d ∷ bytes) = omega (arith, words_le bytes)
