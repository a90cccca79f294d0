-- Words in a row that are passed. Assumes nothing.
use Prim.Native.Nat.{ℕ, zero, suc, ◌+◌, ◌-◌, ◌/◌, ◌%◌, ◌≤◌, ◌<◌}
use Rattle.std.specs.Prelude.{◌≡◌, Bool, true, false, not, cond, ◌&&◌, List, ◌∷◌, leb, length, drop}
use Rattle.std.proofs.Math.Path.{refl}
use Rattle.std.proofs.Common.{sym, ap, ap₂, ◌∙◌, arith, le-leb, eqb-true, ne_eqb}
use Rattle.std.proofs.Math.Bool.{and-false}
use Rattle.std.proofs.lemmas.Bool.{lt-leb}
use Rattle.std.proofs.Math.Dec.{eqb}
use Rattle.std.proofs.Math.ListN.{get_or}
use Rattle.ground.specs.TestsLaws.{and_left, and_right}
use Rattle.fields.specs.Word.{read}
use Rattle.fields.specs.Tag.{is_defining, is_continuation}
use Rattle.limits.specs.Limits.{most_samples, pairs_of}
use Rattle.framing.specs.Words.{trigger_time_high_fixed}
use Rattle.raw.specs.Words.{window_of, window_fixed, window_within}
use Rattle.scan.specs.declared.Stage.{Stage}
use Rattle.scan.specs.declared.Stage.TheVariants as P
use Rattle.scan.specs.declared.Scan.{Scan}
use Rattle.reader.specs.Reader.{check_from}
use Rattle.reader.specs.RunLaws.{cons_at}
use Rattle.raw.specs.Plain.{plain}
use Rattle.stretches.specs.Stretches.{single, measure, All}
use Rattle.stretches.specs.StretchesLaws.{all_none, all_one}
use Rattle.runs.specs.Runs.{window_head, raw_head, head_size, standing, Behind, Passed, PassedTo, HeadTo}
use Rattle.runs.specs.StepsLaws.{measure_passed, window_passed, raw_passed, event_passed, clock_passed, high_passed, plain_passed, plain_raw, single_passed, single_raw, raw_end, timed_end, opened_end}

-- nothing passed, and one run behind another
pub passed_none : (words : List ℕ) (k : ℕ) → Passed words k k
passed_none words k = record { ahead = omega arith; same = λ place slot left h. (let z : place + (k - k) ≡ place = omega arith in rw z) }

pub passed_more : {words : List ℕ} {k m r : ℕ} → Passed words k m → Passed words m r → Passed words k r
passed_more {words} {k} {m} {r} a b =
    record {
      ahead = omega arith;
      same = λ place slot left h.
          (let z : place + (m - k) + (r - m) ≡ place + (r - k) = omega arith in
          a.same place slot left (omega arith) ∙ b.same (place + (m - k)) slot left (omega arith) ∙ ap (λ (n : ℕ). check_from (standing n slot left P.Items) (drop r words)) z);
    }

at_word : (words : List ℕ) (k : ℕ) (s : Scan) → k < length words → check_from s (drop k words) ≡ check_from s (get_or words k 0 ∷ drop (k + 1) words)
at_word words k s l = ap (check_from s) (cons_at words k (k + 1) l (omega arith))

pub measures_passed : {words : List ℕ} {k r : ℕ} → All measure words k r → r ≤ length words → Passed words k r
measures_passed {words} {k} {r} a l = record { ahead = a.ahead; same = λ place slot left h. go (r - k) k place slot left (omega arith) (omega arith) h }
  where
    go : (n j place slot left : ℕ) → k ≤ j → j + n ≡ r → place + n ≤ 4194303
        → check_from (standing place slot left P.Items) (drop j words) ≡ check_from (standing (place + n) slot left P.Items) (drop r words)
    go zero j place slot left i e h =
        let y : place + 0 ≡ place = omega arith in
        let z : j ≡ r = omega arith in
        rw (y, z)
    go (suc n) j place slot left i e h =
        let z : place + 1 + n ≡ place + suc n = omega arith in
        at_word words j (standing place slot left P.Items) (omega arith)
        ∙ measure_passed place slot left (drop (j + 1) words) (omega arith) (get_or words j 0) (a.each j i (omega arith))
        ∙ go n (j + 1) (place + 1) slot left (omega arith) (omega arith) (omega arith)
        ∙ ap (λ (m : ℕ). check_from (standing m slot left P.Items) (drop r words)) z

-- ---- a window

-- with n pairs to come
abbrev to_come : ℕ → Bool → Stage
to_come zero odd = P.Items
to_come (suc n) odd = P.Window (suc n) odd

one_less : (n : ℕ) (odd : Bool) → cond (leb (suc n) 1) P.Items (P.Window (suc n - 1) odd) ≡ to_come n odd
one_less zero odd = refl
one_less (suc n) odd =
    let z : suc (suc n) - 1 ≡ suc n = omega arith in
    rw (lt-leb (suc (suc n)) 1 (omega arith), z)

not_last : (n t : ℕ) (odd : Bool) → eqb t 0 && odd ≡ false → eqb (suc (n + t)) 1 && odd ≡ false
not_last n zero odd h = rw h (and-false (eqb (suc (n + 0)) 1))
not_last n (suc t) odd h = rw (ne_eqb (suc (n + suc t)) 1 (omega arith))

-- pairs of two samples, up to the last one or two
pairs_passed : (words : List ℕ) (t : ℕ) (odd : Bool) → eqb t 0 && odd ≡ false → (n k : ℕ) → All plain words k (k + n) → k + n ≤ length words
    → (place slot left : ℕ) → place + n ≤ 4194303
    → check_from (standing place slot left (to_come (n + t) odd)) (drop k words) ≡ check_from (standing (place + n) slot left (to_come t odd)) (drop (k + n) words)
pairs_passed words t odd d zero k a l place slot left h =
    let x : 0 + t ≡ t = omega arith in
    let y : place + 0 ≡ place = omega arith in
    let z : k + 0 ≡ k = omega arith in
    rw (x, y, z)
pairs_passed words t odd d (suc n) k a l place slot left h =
    let x : suc n + t ≡ suc (n + t) = omega arith in
    let y : place + 1 + n ≡ place + suc n = omega arith in
    let z : k + 1 + n ≡ k + suc n = omega arith in
    rw x
    (at_word words k (standing place slot left (P.Window (suc (n + t)) odd)) (omega arith)
    ∙ plain_passed place slot left (drop (k + 1) words) (omega arith) (get_or words k 0) (a.each k (omega arith) (omega arith)) (suc (n + t)) odd (not_last n t odd d)
    ∙ ap (λ (p : Stage). check_from (standing (place + 1) slot left p) (drop (k + 1) words)) (one_less (n + t) odd)
    ∙ pairs_passed words t odd d n (k + 1) (record { ahead = omega arith; each = λ i g j. a.each i (omega arith) (omega arith) }) (omega arith) (place + 1) slot left (omega arith)
    ∙ ap₂ (λ (i j : ℕ). check_from (standing i slot left (to_come t odd)) (drop j words)) y z)

-- behind the pairs of two samples: the last of an odd width
end_passed : (words : List ℕ) (t : ℕ) → t < 2 → (k : ℕ) → All single words k (k + t) → k + t ≤ length words → (place slot left : ℕ) → place + t ≤ 4194303
    → check_from (standing place slot left (to_come t (eqb t 1))) (drop k words) ≡ check_from (standing (place + t) slot left P.Items) (drop (k + t) words)
end_passed words zero u k a l place slot left h =
    let y : place + 0 ≡ place = omega arith in
    let z : k + 0 ≡ k = omega arith in
    rw (y, z)
end_passed words (suc zero) u k a l place slot left h =
    at_word words k (standing place slot left (P.Window 1 true)) (omega arith)
    ∙ single_passed place slot left (drop (k + 1) words) (omega arith) (get_or words k 0) (a.each k (omega arith) (omega arith))
end_passed words (suc (suc t)) u k a l place slot left h = absurd (omega arith)

to_come_lem : (n : ℕ) (odd : Bool) → 1 ≤ n → P.Window n odd ≡ to_come n odd
to_come_lem zero odd h = absurd (omega arith)
to_come_lem (suc n) odd h = refl

even_or_odd : (t : ℕ) → eqb t 0 && eqb t 1 ≡ false
even_or_odd zero = refl
even_or_odd (suc t) = rw (ne_eqb (suc t) 0 (omega arith))

-- its width is asked for by itself
window_head_lem : (word width : ℕ) → is_defining 4 word && window_fixed word ≡ true → width ≡ read 11 0 word → 1 ≤ width → width ≤ 500 → window_head word ≡ true
unfolding window_head window_within window_of most_samples
window_head_lem word width d w l h = rw (d, ← w, le-leb 1 width l, le-leb width 500 h)

odd_single : {words : List ℕ} (m t : ℕ) → t < 2 → (t ≡ 1 → single (get_or words m 0) ≡ true) → All single words m (m + t)
odd_single m zero h f = let z : m + 0 ≡ m = omega arith in rw z (all_none m)
odd_single m (suc zero) h f = all_one (f refl)
odd_single m (suc (suc t)) h f = absurd (omega arith)

-- a header, its pairs of two samples, and the last of an odd width
pub window_run : {words : List ℕ} {k : ℕ} (width : ℕ) → is_defining 4 (get_or words k 0) && window_fixed (get_or words k 0) ≡ true → width ≡ read 11 0 (get_or words k 0)
    → 1 ≤ width → width ≤ 500 → All plain words (k + 1) (k + 1 + width / 2) → (width % 2 ≡ 1 → single (get_or words (k + 1 + width / 2) 0) ≡ true)
    → k + 1 + width / 2 + width % 2 ≤ length words → Passed words k (k + 1 + width / 2 + width % 2)
unfolding pairs_of
window_run {words} {k} width d w some most pairs odd l =
    let n = width / 2 in
    let t = width % 2 in
    let half : (width + 1) / 2 ≡ width / 2 + width % 2 = omega arith in
    record {
      ahead = omega arith;
      same = λ place slot left h.
          (let z : place + 1 + n + t ≡ place + (k + 1 + n + t - k) = omega arith in
          at_word words k (standing place slot left P.Items) (omega arith)
          ∙ window_passed place slot left (drop (k + 1) words) (omega arith) (get_or words k 0) (window_head_lem (get_or words k 0) width d w some most)
          ∙ ap (λ (p : Stage). check_from (standing (place + 1) slot left p) (drop (k + 1) words))
          (ap (λ (x : ℕ). P.Window (pairs_of x) (eqb (x % 2) 1)) (sym w) ∙ ap (λ (x : ℕ). P.Window x (eqb t 1)) half ∙ to_come_lem (n + t) (eqb t 1) (omega arith))
          ∙ pairs_passed words t (eqb t 1) (even_or_odd t) n (k + 1) pairs (omega arith) (place + 1) slot left (omega arith)
          ∙ end_passed words t (omega arith) (k + 1 + n) (odd_single (k + 1 + n) t (omega arith) odd) l (place + 1 + n) slot left (omega arith)
          ∙ ap (λ (m : ℕ). check_from (standing m slot left P.Items) (drop (k + 1 + n + t) words)) z);
    }

-- ---- a data set

-- pairs of two samples: as many fewer may come
raw_pairs : (words : List ℕ) (t : ℕ) (n k : ℕ) (some : Bool) → All plain words k (k + n) → k + n ≤ length words
    → (place slot left : ℕ) → place + n ≤ 4194303
    → check_from (standing place slot left (P.Raw (n + t) some)) (drop k words) ≡ check_from (standing (place + n) slot left (P.Raw t (cond (eqb n 0) some true))) (drop (k + n) words)
raw_pairs words t zero k some a l place slot left h =
    let x : 0 + t ≡ t = omega arith in
    let y : place + 0 ≡ place = omega arith in
    let z : k + 0 ≡ k = omega arith in
    rw (x, y, z)
raw_pairs words t (suc n) k some a l place slot left h =
    let x : suc n + t - 1 ≡ n + t = omega arith in
    let y : place + 1 + n ≡ place + suc n = omega arith in
    let z : k + 1 + n ≡ k + suc n = omega arith in
    at_word words k (standing place slot left (P.Raw (suc n + t) some)) (omega arith)
    ∙ plain_raw place slot left (drop (k + 1) words) (omega arith) (get_or words k 0) (a.each k (omega arith) (omega arith)) (suc n + t) some (omega arith)
    ∙ ap (λ (m : ℕ). check_from (standing (place + 1) slot left (P.Raw m true)) (drop (k + 1) words)) x
    ∙ raw_pairs words t n (k + 1) true (record { ahead = omega arith; each = λ i g j. a.each i (omega arith) (omega arith) }) (omega arith) (place + 1) slot left (omega arith)
    ∙ ap (λ (b : Bool). check_from (standing (place + 1 + n) slot left (P.Raw t b)) (drop (k + 1 + n) words)) (either (eqb n 0) ∙ sym (ap (λ (b : Bool). cond b some true) (ne_eqb (suc n) 0 (omega arith))))
    ∙ ap₂ (λ (i j : ℕ). check_from (standing i slot left (P.Raw t (cond (eqb (suc n) 0) some true))) (drop j words)) y z
  where
    either : (b : Bool) → cond b true true ≡ true
    either true = refl
    either false = refl

-- behind them one of one sample, or none
raw_single : (words : List ℕ) (u : ℕ) → u < 2 → (t k : ℕ) (some : Bool) → u ≤ t → (u ≡ 0 → some ≡ true) → All single words k (k + u) → k + u < length words
    → is_continuation (get_or words (k + u) 0) ≡ false → (place slot left : ℕ) → place + u ≤ 4194303
    → check_from (standing place slot left (P.Raw t some)) (drop k words) ≡ check_from (standing (place + u) slot left P.Items) (drop (k + u) words)
raw_single words zero v t k some w e a l d place slot left h =
    let y : place + 0 ≡ place = omega arith in
    let z : k + 0 ≡ k = omega arith in
    rw (y, z, e refl) (at_word words k (standing place slot left (P.Raw t true)) (omega arith) ∙ raw_end place slot left (get_or words k 0) (drop (k + 1) words) (rw z at d) t ∙ sym (at_word words k (standing place slot left P.Items) (omega arith)))
raw_single words (suc zero) v t k some w e a l d place slot left h =
    at_word words k (standing place slot left (P.Raw t some)) (omega arith)
    ∙ single_raw place slot left (drop (k + 1) words) (omega arith) (get_or words k 0) (a.each k (omega arith) (omega arith)) t some w
    ∙ at_word words (k + 1) (standing (place + 1) slot left (P.Raw 0 true)) l
    ∙ raw_end (place + 1) slot left (get_or words (k + 1) 0) (drop (k + 1 + 1) words) d 0
    ∙ sym (at_word words (k + 1) (standing (place + 1) slot left P.Items) l)
raw_single words (suc (suc u)) v t k some w e a l d place slot left h = absurd (omega arith)

-- a header, at least one pair and at most 250, and a defining word behind them
pub raw_run : {words : List ℕ} {k m r : ℕ} → raw_head (get_or words k 0) ≡ true → All plain words (k + 1) m → All single words m r → r ≤ m + 1
    → k + 1 < r → r ≤ k + 251 → r < length words → is_continuation (get_or words r 0) ≡ false → Passed words k r
raw_run {words} {k} {m} {r} d a b u s t l e =
    let n = m - (k + 1) in
    let x : k + 1 + n ≡ m = omega arith in
    let y : m + (r - m) ≡ r = omega arith in
    let w : n + (250 - n) ≡ 250 = omega arith in
    record {
      ahead = omega arith;
      same = λ place slot left h.
          (let z : place + 1 + n + (r - m) ≡ place + (r - k) = omega arith in
          at_word words k (standing place slot left P.Items) (omega arith)
          ∙ raw_passed place slot left (drop (k + 1) words) (omega arith) (get_or words k 0) d
          ∙ ap (λ (i : ℕ). check_from (standing (place + 1) slot left (P.Raw i false)) (drop (k + 1) words)) (sym w)
          ∙ raw_pairs words (250 - n) n (k + 1) false (rw (← x) at a) (omega arith) (place + 1) slot left (omega arith)
          ∙ ap (λ (i : ℕ). check_from (standing (place + 1 + n) slot left (P.Raw (250 - n) (cond (eqb n 0) false true))) (drop i words)) x
          ∙ raw_single words (r - m) (omega arith) (250 - n) m (cond (eqb n 0) false true) (omega arith) (λ q. ap (λ (b : Bool). cond b false true) (ne_eqb n 0 (omega arith))) (rw (← y) at b) (omega arith) (rw (← y) at e) (place + 1 + n) slot left (omega arith)
          ∙ ap₂ (λ (i j : ℕ). check_from (standing i slot left P.Items) (drop j words)) z y);
    }

-- ---- events

pub items_passed : {words : List ℕ} {slot k left r : ℕ} → Passed words k r → PassedTo words slot k left r left
items_passed {slot = slot} {left = left} a = record { ahead = a.ahead; same = λ place h. a.same place slot left h }

pub events_none : {words : List ℕ} {slot k left : ℕ} → PassedTo words slot k left k left
events_none {words} {slot} {k} {left} = items_passed (record { ahead = omega arith; same = λ place s l h. (let z : place + (k - k) ≡ place = omega arith in rw z) })

pub events_more : {words : List ℕ} {slot k left m some r rest : ℕ} → PassedTo words slot k left m some → PassedTo words slot m some r rest → PassedTo words slot k left r rest
events_more {words} {slot} {k} {left} {m} {some} {r} {rest} a b =
    record {
      ahead = omega arith;
      same = λ place h.
          (let z : place + (m - k) + (r - m) ≡ place + (r - k) = omega arith in
          a.same place (omega arith) ∙ b.same (place + (m - k)) (omega arith) ∙ ap (λ (n : ℕ). check_from (standing n slot rest P.Items) (drop r words)) z);
    }

-- by the second time word
pub size_high : (low high : ℕ) {b : Bool} → is_continuation low ≡ false → is_defining 3 low ≡ true → is_continuation high ≡ true
    → trigger_time_high_fixed high && eqb (read 23 0 high % 8) (read 26 24 low) ≡ b → cond b 3 0 ≡ head_size low high
unfolding head_size
size_high low high p q r e = rw (p, q, r, e)

pub head_none : (words : List ℕ) (slot k : ℕ) → HeadTo words slot k k
head_none words slot k = record { ahead = omega arith; event = λ h. absurd (omega arith) }

-- an event's head: the header alone, or with one time word, before a defining word; or with both
module _ (words : List ℕ) (slot k left : ℕ) (some : 1 ≤ left) (head : is_defining 2 (get_or words k 0) ≡ true) (same : read 26 22 (get_or words k 0) ≡ slot) where
  header : k < length words → (place : ℕ) → place < 4194303
      → check_from (standing place slot left P.Items) (drop k words) ≡ check_from (standing (place + 1) slot (left - 1) P.Opened) (drop (k + 1) words)
  header l place h = at_word words k (standing place slot left P.Items) l ∙ event_passed place slot left (drop (k + 1) words) h (get_or words k 0) head same some

  clock : k + 1 < length words → is_defining 3 (get_or words (k + 1) 0) ≡ true → (place : ℕ) → place + 1 < 4194303
      → check_from (standing place slot left P.Items) (drop k words) ≡ check_from (standing (place + 1 + 1) slot (left - 1) (P.Timed (read 26 24 (get_or words (k + 1) 0)))) (drop (k + 2) words)
  clock l low place h =
      let z : k + 1 + 1 ≡ k + 2 = omega arith in
      header (omega arith) place (omega arith)
      ∙ at_word words (k + 1) (standing (place + 1) slot (left - 1) P.Opened) l
      ∙ clock_passed (place + 1) slot (left - 1) (drop (k + 1 + 1) words) h (get_or words (k + 1) 0) low
      ∙ ap (λ (i : ℕ). check_from (standing (place + 1 + 1) slot (left - 1) (P.Timed (read 26 24 (get_or words (k + 1) 0)))) (drop i words)) z

  head_alone : k + 1 < length words → is_continuation (get_or words (k + 1) 0) ≡ false → is_defining 3 (get_or words (k + 1) 0) ≡ false
      → PassedTo words slot k left (k + 1) (left - 1)
  head_alone l next low =
      record {
        ahead = omega arith;
        same = λ place h.
            (let z : place + 1 ≡ place + (k + 1 - k) = omega arith in
            header (omega arith) place (omega arith)
            ∙ at_word words (k + 1) (standing (place + 1) slot (left - 1) P.Opened) l
            ∙ opened_end (place + 1) slot (left - 1) (get_or words (k + 1) 0) (drop (k + 1 + 1) words) next low
            ∙ sym (at_word words (k + 1) (standing (place + 1) slot (left - 1) P.Items) l)
            ∙ ap (λ (i : ℕ). check_from (standing i slot (left - 1) P.Items) (drop (k + 1) words)) z);
      }

  head_low : k + 2 < length words → is_defining 3 (get_or words (k + 1) 0) ≡ true → is_continuation (get_or words (k + 2) 0) ≡ false
      → PassedTo words slot k left (k + 2) (left - 1)
  head_low l low next =
      let middle = read 26 24 (get_or words (k + 1) 0) in
      record {
        ahead = omega arith;
        same = λ place h.
            (let z : place + 1 + 1 ≡ place + (k + 2 - k) = omega arith in
            clock (omega arith) low place (omega arith)
            ∙ at_word words (k + 2) (standing (place + 1 + 1) slot (left - 1) (P.Timed middle)) l
            ∙ timed_end (place + 1 + 1) slot (left - 1) (get_or words (k + 2) 0) (drop (k + 2 + 1) words) next middle
            ∙ sym (at_word words (k + 2) (standing (place + 1 + 1) slot (left - 1) P.Items) l)
            ∙ ap (λ (i : ℕ). check_from (standing i slot (left - 1) P.Items) (drop (k + 2) words)) z);
      }

  head_high : k + 2 < length words → is_defining 3 (get_or words (k + 1) 0) ≡ true → is_continuation (get_or words (k + 2) 0) ≡ true → trigger_time_high_fixed (get_or words (k + 2) 0) ≡ true
      → read 23 0 (get_or words (k + 2) 0) % 8 ≡ read 26 24 (get_or words (k + 1) 0) → PassedTo words slot k left (k + 3) (left - 1)
  head_high l low high fixed e =
      let middle = read 26 24 (get_or words (k + 1) 0) in
      record {
        ahead = omega arith;
        same = λ place h.
            (let z : place + 1 + 1 + 1 ≡ place + (k + 3 - k) = omega arith in
            let y : k + 2 + 1 ≡ k + 3 = omega arith in
            clock (omega arith) low place (omega arith)
            ∙ at_word words (k + 2) (standing (place + 1 + 1) slot (left - 1) (P.Timed middle)) l
            ∙ high_passed (place + 1 + 1) slot (left - 1) (drop (k + 2 + 1) words) (omega arith) middle (get_or words (k + 2) 0) high fixed e
            ∙ ap₂ (λ (i j : ℕ). check_from (standing i slot (left - 1) P.Items) (drop j words)) z y);
      }

  pub head_run : k + 2 < length words → (n : ℕ) → n ≡ head_size (get_or words (k + 1) 0) (get_or words (k + 2) 0) → 0 < n → PassedTo words slot k left (k + n) (left - 1)
  unfolding head_size
  head_run l n e h = go (is_continuation low) (is_defining 3 low) (is_continuation high) (trigger_time_high_fixed high && eqb (read 23 0 high % 8) (read 26 24 low)) refl refl refl refl e
    where
      low : ℕ
      low = get_or words (k + 1) 0

      high : ℕ
      high = get_or words (k + 2) 0

      go : (a b c d : Bool) → is_continuation low ≡ a → is_defining 3 low ≡ b → is_continuation high ≡ c → trigger_time_high_fixed high && eqb (read 23 0 high % 8) (read 26 24 low) ≡ d
          → n ≡ cond a 0 (cond (not b) 1 (cond (not c) 2 (cond d 3 0))) → PassedTo words slot k left (k + n) (left - 1)
      go true b c d i j m o e = absurd (omega arith)
      go false false c d i j m o e = rw e (head_alone (omega arith) i j)
      go false true false d i j m o e = rw e (head_low l j m)
      go false true true true i j m o e = rw e (head_high l j m (and_left _ (eqb (read 23 0 high % 8) (read 26 24 low)) o) (eqb-true _ _ (and_right (trigger_time_high_fixed high) _ o)))
      go false true true false i j m o e = absurd (omega arith)

-- ---- the scan that they begin at, and the one behind them

by_stage : (s : Scan) (word : ℕ) {p : Stage} → s.stage ≡ p
    → ((words : List ℕ) → check_from (standing s.place s.slot s.left p) (word ∷ words) ≡ check_from (standing s.place s.slot s.left P.Items) (word ∷ words))
    → Behind s word
by_stage s word e f = record { same = λ words. ap (λ (q : Stage). check_from (standing s.place s.slot s.left q) (word ∷ words)) e ∙ f words }

pub behind_header : (s : Scan) (word : ℕ) → s.stage ≡ P.Opened → is_continuation word ≡ false → is_defining 3 word ≡ false → Behind s word
behind_header s word e d n = by_stage s word e (λ words. opened_end s.place s.slot s.left word words d n)

pub behind_time : (s : Scan) (word : ℕ) {middle : ℕ} → s.stage ≡ P.Timed middle → is_continuation word ≡ false → Behind s word
behind_time s word {middle} e d = by_stage s word e (λ words. timed_end s.place s.slot s.left word words d middle)

pub behind_item : (s : Scan) (word : ℕ) → s.stage ≡ P.Items → Behind s word
behind_item s word e = by_stage s word e (λ words. refl)

pub onward_by : {words : List ℕ} {k r rest : ℕ} (s : Scan) {t : Scan} → k < length words → Behind s (get_or words k 0) → PassedTo words s.slot k s.left r rest
    → s.place + (r - k) ≤ 4194303 → t ≡ standing (s.place + (r - k)) s.slot rest P.Items → check_from s (drop k words) ≡ check_from t (drop r words)
onward_by {words} {k} {r} s l b a h i =
    at_word words k s l
    ∙ b.same (drop (k + 1) words)
    ∙ sym (at_word words k (standing s.place s.slot s.left P.Items) l)
    ∙ a.same s.place h
    ∙ ap (λ (u : Scan). check_from u (drop r words)) (sym i)
