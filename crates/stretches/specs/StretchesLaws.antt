-- Words in a row: a turn of a search, its end, and what its answer says. Each law is over the test. Assumes nothing.
use Prim.Native.Nat.{ℕ, zero, suc, ◌+◌, ◌-◌, ◌*◌, ◌/◌, ◌≤◌, ◌<◌}
use Rattle.std.specs.Prelude.{◌≡◌, Bool, false, ◌&&◌, cond, length, get_or, take, drop}
use Rattle.std.proofs.Math.Path.{refl}
use Rattle.std.proofs.Common.{sym, ap, ◌∙◌, true≢false, arith}
use Rattle.std.proofs.Math.Bool.{true}
use mathlib.Core.List.{List, [], ◌∷◌}
use Rattle.std.proofs.Math.Decide.{dec_le}
use Rattle.ground.specs.TestsLaws.{and_left, and_right}
use Rattle.fields.specs.Bytes.{words_of_bytes}
use Rattle.stretches.specs.Stretches.{leading, every, Row, Told, All}
use Rattle.stretches.specs.WordsLaws.{words_count, word_part, part_length}

and_false : (a : Bool) {b : Bool} → b ≡ false → a && b ≡ false
and_false true e = e
and_false false e = refl

-- ---- what is leading

module _ (p : ℕ → Bool) where
  -- all before such a place pass, and the word there does not, or there is none
  leading_at : (words : List ℕ) (k : ℕ) → k ≤ length words → ((i : ℕ) → i < k → p (get_or words i 0) ≡ true) → (k < length words → p (get_or words k 0) ≡ false) → k ≡ leading p words
  unfolding leading
  leading_at [] zero l f g = refl
  leading_at [] (suc k) l f g = absurd (omega arith)
  leading_at (word ∷ words) zero l f g = rw (g (omega arith))
  leading_at (word ∷ words) (suc k) l f g =
      rw (f 0 (omega arith)) (ap suc (leading_at words k (omega arith) (λ i h. f (suc i) (omega arith)) (λ h. g (omega arith))))

  record Leads (words : List ℕ) (n : ℕ) : Type 0 where
    within : n ≤ length words
    each : (i : ℕ) → i < n → p (get_or words i 0) ≡ true

  leads : (words : List ℕ) → Leads words (leading p words)
  unfolding leading
  leads [] = record { within = omega arith; each = λ i h. absurd (omega arith) }
  leads (word ∷ words) = go (p word) refl (leads words)
    where
      at : p word ≡ true → Leads words (leading p words) → (i : ℕ) → i < suc (leading p words) → p (get_or (word ∷ words) i 0) ≡ true
      at e r zero h = e
      at e r (suc i) h = r.each i (omega arith)

      go : (b : Bool) → p word ≡ b → Leads words (leading p words) → Leads (word ∷ words) (cond b (suc (leading p words)) 0)
      go true e r = record { within = omega (arith, r.within); each = at e r }
      go false e r = record { within = omega arith; each = λ i h. absurd (omega arith) }

  -- ---- all of them

  every_yes : (words : List ℕ) → ((i : ℕ) → i < length words → p (get_or words i 0) ≡ true) → every p words ≡ true
  unfolding every
  every_yes [] f = refl
  every_yes (word ∷ words) f = rw (f 0 (omega arith)) (every_yes words (λ i h. f (suc i) (omega arith)))

  every_no : (words : List ℕ) (k : ℕ) → k < length words → p (get_or words k 0) ≡ false → every p words ≡ false
  unfolding every
  every_no [] k l e = absurd (omega arith)
  every_no (word ∷ words) zero l e = rw e
  every_no (word ∷ words) (suc k) l e = and_false (p word) (every_no words k (omega arith) e)

  every_each : (words : List ℕ) → every p words ≡ true → (i : ℕ) → i < length words → p (get_or words i 0) ≡ true
  unfolding every
  every_each [] e i l = absurd (omega arith)
  every_each (word ∷ words) e zero l = and_left (p word) (every p words) e
  every_each (word ∷ words) e (suc i) l = every_each words (and_right (p word) (every p words) e) i (omega arith)

-- ---- a search

module _ {p : ℕ → Bool} {bytes : List ℕ} where
  pub row_none : Row p bytes 0
  row_none = record { within = omega arith; each = λ i h. absurd (omega arith) }

  pub row_one : {k : ℕ} → Row p bytes k → 4 * k + 4 ≤ length bytes → p (get_or (words_of_bytes bytes) k 0) ≡ true → Row p bytes (k + 1)
  row_one {k} r l e = record { within = omega arith; each = at }
    where
      at : (i : ℕ) → i < k + 1 → p (get_or (words_of_bytes bytes) i 0) ≡ true
      at i h =
          elim (dec_le k i) [
            | yes g ↦ (let z : i ≡ k = omega arith in ap (λ (n : ℕ). p (get_or (words_of_bytes bytes) n 0)) z ∙ e)
            | no g ↦ r.each i (omega arith)
          ]

  pub row_turn : {k : ℕ} {good test : Bool} → (good ≡ true → Row p bytes k) → 4 * k + 4 ≤ length bytes → test ≡ p (get_or (words_of_bytes bytes) k 0)
      → good && test ≡ true → Row p bytes (k + 1)
  row_turn {good = good} {test = test} r l e h = row_one (r (and_left good test h)) l (sym e ∙ and_right good test h)

  -- the same of a chunk that may say no
  pub told_none : {k : ℕ} → Row p bytes k → Told p bytes k true
  told_none r = record { yes = λ h. r; no = λ h. absurd (true≢false h) }

  -- a turn of a chunk, whose answer is joined to those so far
  pub told_turn : {k : ℕ} {good test : Bool} → Told p bytes k good → 4 * k + 4 ≤ length bytes → test ≡ p (get_or (words_of_bytes bytes) k 0) → Told p bytes (k + 1) (good && test)
  told_turn {k} {good} {test} t l e = record { yes = row_turn t.yes l e; no = not_all good refl }
    where
      not_all : (b : Bool) → good ≡ b → good && test ≡ false → every p (words_of_bytes bytes) ≡ false
      not_all false g h = t.no g
      not_all true g h = every_no p (words_of_bytes bytes) k (omega (arith, words_count bytes)) (sym e ∙ (rw g at h))

  -- all words, seen through
  pub row_all : {k : ℕ} → Row p bytes k → length bytes / 4 ≤ k → true ≡ every p (words_of_bytes bytes)
  row_all r l = sym (every_yes p (words_of_bytes bytes) (λ i h. r.each i (omega (arith, words_count bytes))))

  pub row_less : {j k : ℕ} → j ≤ k → Row p bytes k → Row p bytes j
  row_less l r = record { within = omega (arith, r.within); each = λ i h. r.each i (omega arith) }

  -- the first word that does not pass
  pub row_stop : {k : ℕ} → Row p bytes k → p (get_or (words_of_bytes bytes) k 0) ≡ false → k ≡ leading p (words_of_bytes bytes)
  row_stop {k} r e = leading_at p (words_of_bytes bytes) k (omega (arith, r.within, words_count bytes)) r.each (λ h. e)

  -- or there is none
  pub row_end : {k : ℕ} → Row p bytes k → length bytes / 4 ≤ k → k ≡ leading p (words_of_bytes bytes)
  row_end {k} r l =
      leading_at p (words_of_bytes bytes) k (omega (arith, r.within, words_count bytes)) r.each (λ h. absurd (omega (arith, words_count bytes)))

-- ---- what an answer says

module _ {p : ℕ → Bool} {words : List ℕ} where
  pub all_none : (k : ℕ) → All p words k k
  all_none k = record { ahead = omega arith; each = λ i l h. absurd (omega arith) }

  pub all_one : {k : ℕ} → p (get_or words k 0) ≡ true → All p words k (k + 1)
  all_one {k} e = record { ahead = omega arith; each = λ i l h. (let z : i ≡ k = omega arith in ap (λ (n : ℕ). p (get_or words n 0)) z ∙ e) }

-- of a part of the bytes, said of the words of all
all_part : {p : ℕ → Bool} (bytes : List ℕ) {from size n : ℕ} (j : ℕ) → from ≡ 4 * j → from + size ≤ length bytes → 4 * n ≤ size
    → ((i : ℕ) → i < n → p (get_or (words_of_bytes (take size (drop from bytes))) i 0) ≡ true) → All p (words_of_bytes bytes) j (j + n)
all_part {p} bytes j w l h f =
    record {
      ahead = omega arith;
      each = λ i a b.
          (let z : j + (i - j) ≡ i = omega arith in
          ap (λ (m : ℕ). p (get_or (words_of_bytes bytes) m 0)) (sym z) ∙ ap p (sym (word_part bytes j w l (i - j) (omega arith))) ∙ f (i - j) (omega arith));
    }

pub record Counted (p : ℕ → Bool) (bytes : List ℕ) (j size n : ℕ) : Type 0 where
  pub within : 4 * n ≤ size
  pub all : All p (words_of_bytes bytes) j (j + n)

pub counted : {p : ℕ → Bool} (bytes : List ℕ) {from size n : ℕ} (j : ℕ) → from ≡ 4 * j → from + size ≤ length bytes
    → n ≡ leading p (words_of_bytes (take size (drop from bytes))) → Counted p bytes j size n
counted {p} bytes {from} {size} {n} j w l e =
    let part = take size (drop from bytes) in
    let r : Leads p (words_of_bytes part) n = rw e (leads p (words_of_bytes part)) in
    let h : 4 * n ≤ size = omega (arith, r.within, words_count part, part_length bytes {size = size} j w l) in
    record { within = h; all = all_part bytes j w l h r.each }

pub all_passed : {p : ℕ → Bool} (bytes : List ℕ) {from size : ℕ} (j n : ℕ) → every p (words_of_bytes (take size (drop from bytes))) ≡ true
    → from ≡ 4 * j → from + size ≤ length bytes → 4 * n ≤ size → All p (words_of_bytes bytes) j (j + n)
all_passed {p} bytes {from} {size} j n e w l h =
    let part = take size (drop from bytes) in
    all_part bytes j w l h (λ i g. every_each p (words_of_bytes part) e i (omega (arith, words_count part, part_length bytes {size = size} j w l)))
