-- An amplitude's limit, over by the amplitude, and a window tested in parts. Assumes nothing.
use Rattle.std.specs.Prelude.{ℕ, ◌+◌, ◌-◌, ◌≤◌, ◌<◌, ◌≡◌, refl, Bool, true, false, ◌&&◌, List, [], ◌∷◌, ◌++◌, leb, ltb, length, take, drop, get_or}
use Rattle.std.proofs.Common.{sym, ap, ◌∙◌, append_assoc, length-append, length-drop, take_all, take-append-drop, drop-drop, arith}
use Rattle.std.proofs.Math.Bool.{and-false, and_assoc, and-true}
use Rattle.std.proofs.lemmas.List.{take_more, drop-append-le}
use Rattle.ground.specs.Tests.{all_le}
use Rattle.ground.specs.TestsLaws.{and_right}
use Rattle.samples.specs.Sample.{most_sample, samples_ok, amp, most_amp, is_over}

pub amp_le : (x : ℕ) → amp x ≤ most_amp
unfolding amp
amp_le x = omega arith

pub over_amp : (t x : ℕ) → is_over t x ≡ ltb t (amp x)
unfolding is_over
over_amp t x = refl

-- ---- a window in parts

samples_parts : (a b : List ℕ) → samples_ok (a ++ b) ≡ samples_ok a && samples_ok b
unfolding samples_ok all_le
samples_parts [] b = refl
samples_parts (x ∷ a) b = rw (samples_parts a b) (sym (and_assoc (leb x most_sample) (all_le most_sample a) (all_le most_sample b)))

cut_at : (n : ℕ) (w : List ℕ) → samples_ok w ≡ samples_ok (take n w) && samples_ok (drop n w)
cut_at n w = ap samples_ok (sym (take-append-drop n w)) ∙ samples_parts (take n w) (drop n w)

-- from k on: the part up to e, and from e on
pub part_then : (k e : ℕ) (w : List ℕ) (r : Bool) → k ≤ e → r ≡ samples_ok (take (e - k) (drop k w)) → samples_ok (drop k w) ≡ r && samples_ok (drop e w)
part_then k e w r l h =
    let z : k + (e - k) ≡ e = omega arith in
    rw h (rw (drop-drop (e - k) k w, z) at (cut_at (e - k) (drop k w)))

-- where all up to k passed, the part from l on, which may begin before k, tells of the whole
pub part_last : (k l : ℕ) (w : List ℕ) (r : Bool) → samples_ok w ≡ samples_ok (drop k w) → l ≤ k → r ≡ samples_ok (take (length w - l) (drop l w)) → r ≡ samples_ok w
part_last k l w r i g h =
    let all = take_all (length w - l) (drop l w) (rw length-drop (omega arith)) in
    let after = rw (← i) at (part_then l k w (samples_ok (take (k - l) (drop l w))) g refl) in
    h ∙ rw all (same (samples_ok (take (k - l) (drop l w))) (samples_ok (take l w)) (samples_ok (drop l w)) (samples_ok w) after (cut_at l w))
  where
    same : (a b x y : Bool) → x ≡ a && y → y ≡ b && x → x ≡ y
    same a b true y p q = sym (and_right a y (sym p))
    same a b false y p q = sym (q ∙ and-false b)

one_sample : (x : ℕ) → samples_ok (x ∷ []) ≡ leb x most_sample
unfolding samples_ok all_le
one_sample x = and-true (leb x most_sample)

-- the samples so far, and one more
pub no_samples : samples_ok [] ≡ true
unfolding samples_ok all_le
no_samples = refl

pub samples_more : (w : List ℕ) (i : ℕ) → i < length w → samples_ok (take (i + 1) w) ≡ samples_ok (take i w) && leb (get_or w i 0) most_sample
samples_more w i h = ap samples_ok (take_more w i 0 h) ∙ samples_parts (take i w) (get_or w i 0 ∷ []) ∙ ap (λ (b : Bool). samples_ok (take i w) && b) (one_sample (get_or w i 0))

-- rest is what is left of the window, but for at most one sample behind it; what is before it passed
pub record Passed (window rest : List ℕ) : Type 0 where
  pub front : List ℕ
  pub behind : List ℕ
  pub whole : window ≡ front ++ (rest ++ behind)
  pub good : samples_ok front ≡ true
  pub short : length behind ≤ 1

pub none_passed : (w rest : List ℕ) → rest ≡ take (length w - 1) w → Passed w rest
unfolding samples_ok all_le
none_passed w rest e =
    rw e record { front = []; behind = drop (length w - 1) w; whole = sym (take-append-drop (length w - 1) w); good = refl; short = simp length-drop (omega arith) }

module _ {w : List ℕ} {rest : List ℕ} (p : Passed w rest) (x more : List ℕ) (next : rest ≡ x ++ more) where
  cut : w ≡ p.front ++ (x ++ (more ++ p.behind))
  cut = p.whole ∙ ap (λ (l : List ℕ). p.front ++ l) (ap (λ (l : List ℕ). l ++ p.behind) next ∙ append_assoc x more p.behind)

  pub more_passed : samples_ok x ≡ true → Passed w more
  more_passed g =
      record {
        front = p.front ++ x;
        behind = p.behind;
        whole = cut ∙ sym (append_assoc p.front x (more ++ p.behind));
        good = samples_parts p.front x ∙ rw (p.good, g);
        short = p.short;
      }

  pub one_fails : samples_ok x ≡ false → samples_ok w ≡ false
  one_fails b = rw (cut, samples_parts, samples_parts, p.good, b)

-- the part from place l on tells of the whole where it begins no later than the rest
pub all_passed : {w rest : List ℕ} (p : Passed w rest) (l : ℕ) (r : Bool) → l + length rest + 1 ≤ length w → r ≡ samples_ok (take (length w - l) (drop l w)) → r ≡ samples_ok w
all_passed {w} {rest} p l r h e =
    let long : l ≤ length p.front = omega (arith, ap length p.whole, length-append p.front (rest ++ p.behind), length-append rest p.behind, p.short) in
    let part : drop l w ≡ drop l p.front ++ (rest ++ p.behind) = rw p.whole (drop-append-le l p.front (rest ++ p.behind) long) in
    let kept : samples_ok (drop l p.front) ≡ true = and_right (samples_ok (take l p.front)) _ (sym (samples_parts (take l p.front) (drop l p.front)) ∙ ap samples_ok (take-append-drop l p.front) ∙ p.good) in
    e
    ∙ ap samples_ok (take_all (length w - l) (drop l w) (rw length-drop (omega arith)) ∙ part)
    ∙ samples_parts (drop l p.front) (rest ++ p.behind)
    ∙ ap (λ (b : Bool). b && samples_ok (rest ++ p.behind)) (kept ∙ sym p.good)
    ∙ sym (samples_parts p.front (rest ++ p.behind))
    ∙ ap samples_ok (sym p.whole)
