-- What is counted, as numbers: held by their fields, loaded and stored. Assumes nothing.
use Rattle.std.specs.Prelude.{ℕ, zero, suc, ◌+◌, ◌%◌, ◌^◌, ◌≤◌, ◌<◌, ◌≡◌, refl, Bool, true, length}
use Rattle.std.proofs.Math.Path.{sym, ap, subst}
use Rattle.std.proofs.Common.{ap₂, ◌∙◌, mod-eq_of_lt, arith, length-append, length-take, length-drop, take-append-drop, drop-drop, get_or-take, get_or-drop}
use mathlib.Core.List.{List, [], ◌∷◌, ◌++◌, append_assoc}
use borrow.Author.Tests.{le-leb}
use Rattle.std.proofs.Math.ListN.{get_or, take, drop, replicate}
use Rattle.std.proofs.Math.Seq.{take_at, drop_at}
use Rattle.ground.specs.Splice.{splice}
use Rattle.ground.specs.SpliceLaws.{splice_splice, length_splice}
use Rattle.ground.specs.TestsLaws.{Under, under_all}
use Rattle.copies.specs.Copies.{pasted}
use Rattle.copies.specs.CopiesLaws.{pasted_fits, pasted_none}
use Rattle.scalers.specs.declared.Scalers.{Scalers}
use Rattle.places.specs.Places.{most32, counts_at, timer_at, triggers_at, part_at, over_at, latched_at, head_count, scaler_limits, front_limits, front_count, held_in, thresholds_at, is_settings, is_state}
use Rattle.places.specs.PlacesLaws.{held_parts, held_same, thresholds-16, threshold_at, state_count_lem, front_held, front-32}
use Rattle.numbers.specs.Numbers.{table, marks_from, scalers_from, marks_number, scaler_numbers, scalers_stored}
use Rattle.numbers.specs.NumbersLaws.{marks_small}
use Rattle.numbers.specs.MarksLaws.{marks_back, marks_there, from_place}

-- ---- numbers in a row

-- those from a place on, where the limits are so
pub row_under : (m : ℕ) (xs : List ℕ) → ((i : ℕ) → i < length xs → get_or xs i 0 ≤ m) → Under m xs
row_under m [] h = tt
row_under m (x ∷ xs) h = (h 0 (omega arith), row_under m xs (λ i k. h (suc i) (omega arith)))

-- the thresholds of settings, each of 32 bits
pub thresholds_small : (n : List ℕ) → is_settings n ≡ true → Under most32 (take 16 (drop thresholds_at n))
thresholds_small n e =
    row_under most32 (take 16 (drop thresholds_at n)) (λ i h.
    let less : i < 16 = omega (arith, h, thresholds-16 n e) in
    omega (arith, threshold_at n e i less))

-- a row of a state's numbers: so many, each of 32 bits
module _ (n : List ℕ) (e : is_state n ≡ true) (at k : ℕ) (fits : at + k ≤ front_count) (wide : (i : ℕ) → i < k → get_or front_limits (at + i) 0 ≡ most32) where
  pub row_size : length (take k (drop at n)) ≡ k
  row_size = omega (arith, fits, state_count_lem n e, length-take k (drop at n), length-drop at n)

  pub row_small : Under most32 (take k (drop at n))
  row_small = row_under most32 (take k (drop at n)) small
    where
      small : (i : ℕ) → i < length (take k (drop at n)) → get_or (take k (drop at n)) i 0 ≤ most32
      small i h =
          let less : i < k = omega (arith, row_size) in
          let same = get_or-take k (drop at n) i 0 less ∙ get_or-drop at n i 0 in
          omega (arith, same, front_held n e (at + i) (omega (arith, fits)), wide i less)

-- ---- the limits of what is counted

most_at : (k i : ℕ) → i < k → get_or (replicate k most32) i 0 ≡ most32
most_at zero i h = absurd (omega arith)
most_at (suc k) zero h = refl
most_at (suc k) (suc i) h = most_at k i (omega arith)

pub counts_wide : (i : ℕ) → i < 16 → get_or front_limits (counts_at + i) 0 ≡ most32
counts_wide i h = sym (get_or-drop counts_at front_limits i 0) ∙ first i (omega arith)
  where
    first : (i : ℕ) → i < 19 → get_or (replicate 19 most32 ++ (65535 ∷ replicate 18 most32)) i 0 ≡ most32
    first i h = append_at i 19 h
      where
        append_at : (i k : ℕ) → i < k → get_or (replicate k most32 ++ (65535 ∷ replicate 18 most32)) i 0 ≡ most32
        append_at i zero h = absurd (omega arith)
        append_at zero (suc k) h = refl
        append_at (suc i) (suc k) h = append_at i k (omega arith)

pub latched_wide : (i : ℕ) → i < 18 → get_or front_limits (latched_at + i) 0 ≡ most32
latched_wide i h = sym (get_or-drop latched_at front_limits i 0) ∙ most_at 18 i h

-- ---- loading

pub scalers_loaded : (n : List ℕ) → is_state n ≡ true → {counts latched : List ℕ} {timer triggers part marks : ℕ} {over : List Bool}
    → counts ≡ take 16 (drop counts_at n)
    → latched ≡ take 18 (drop latched_at n)
    → marks ≡ get_or n over_at 0
    → over ≡ marks_from marks
    → timer ≡ get_or n timer_at 0 % 4294967296
    → triggers ≡ get_or n triggers_at 0 % 4294967296
    → part ≡ get_or n part_at 0 % 4294967296
    → record { counts = counts; timer = timer; triggers = triggers; part = part; over = over; latched = latched } ≡ scalers_from n
unfolding scalers_from
scalers_loaded n e c l m o t g p =
    let f = front-32 n e in
    rw (c, l, o, m, t, g, p, f.timer, f.triggers, f.part)

-- ---- there: what was loaded is stored again

-- behind the head stand the numbers of what is counted, then the settings
pub scalers_there : (n : List ℕ) → is_state n ≡ true → scaler_numbers (scalers_from n) ++ drop front_count n ≡ drop head_count n
unfolding scaler_numbers scalers_from marks_from table
scalers_there n e =
    let at : ℕ → ℕ = λ i. get_or n i 0 in
    let small : at over_at < 2 ^ 16 = omega (arith, front_held n e over_at (omega arith)) in
    let over : marks_number (marks_from (at over_at)) ≡ at over_at = marks_there 16 (at over_at) ∙ mod-eq_of_lt small in
    let last : take 18 (drop latched_at n) ++ drop front_count n ≡ drop latched_at n = ap (λ (l : List ℕ). take 18 (drop latched_at n) ++ l) (sym (drop-drop 18 latched_at n)) ∙ take-append-drop 18 (drop latched_at n) in
    let between : at timer_at ∷ at triggers_at ∷ at part_at ∷ at over_at ∷ drop latched_at n ≡ drop timer_at n = sym (from_place n 4 timer_at (omega (arith, state_count_lem n e))) in
    let first : take 16 (drop counts_at n) ++ drop timer_at n ≡ drop counts_at n = ap (λ (l : List ℕ). take 16 (drop counts_at n) ++ l) (sym (drop-drop 16 counts_at n)) ∙ take-append-drop 16 (drop counts_at n) in
    append_assoc (take 16 (drop counts_at n)) _ (drop front_count n)
    ∙ ap (λ (l : List ℕ). take 16 (drop counts_at n) ++ l)
    (ap₂ (λ (m : ℕ) (l : List ℕ). at timer_at ∷ at triggers_at ∷ at part_at ∷ m ∷ l) over last ∙ between)
    ∙ first

-- ---- how many they are

pub sizes : (c : Scalers) → length c.counts ≡ 16 → length c.latched ≡ 18 → length (scaler_numbers c) ≡ 38
unfolding scaler_numbers
sizes c h k = omega (arith, length-append c.counts (c.timer ∷ c.triggers ∷ c.part ∷ marks_number c.over ∷ c.latched), h, k)

-- ---- back: what is of its sizes and within its fields loads as it was

pub record Sized (c : Scalers) : Type 0 where
  pub counts : (length c.counts ≡ 16) × Under most32 c.counts
  pub timer : c.timer ≤ most32
  pub triggers : c.triggers ≤ most32
  pub part : c.part ≤ most32
  pub over : length c.over ≡ 16
  pub latched : (length c.latched ≡ 18) × Under most32 c.latched

module _ (c : Scalers) (z : Sized c) where
  pub scaler_size : length (scaler_numbers c) ≡ 38
  scaler_size = sizes c z.counts.0 z.latched.0

  pub scalers_held : held_in scaler_limits (scaler_numbers c) ≡ true
  unfolding scaler_numbers held_in
  scalers_held =
      let marks : marks_number c.over < 2 ^ 16 = subst (λ (j : ℕ). marks_number c.over < 2 ^ j) z.over (marks_small c.over) in
      let rest = c.timer ∷ c.triggers ∷ c.part ∷ marks_number c.over ∷ c.latched in
      held_parts (replicate 16 most32) (most32 ∷ most32 ∷ most32 ∷ 65535 ∷ replicate 18 most32) c.counts rest (omega (arith, z.latched.0))
      ∙ rw (
        held_same most32 16 c.counts z.counts.0,
        under_all most32 c.counts z.counts.1,
        le-leb c.timer most32 z.timer,
        le-leb c.triggers most32 z.triggers,
        le-leb c.part most32 z.part,
        le-leb (marks_number c.over) 65535 (omega (arith, marks)),
        held_same most32 18 c.latched z.latched.0,
        under_all most32 c.latched z.latched.1,
      )

  -- behind any eight numbers, before any others
  pub scalers_back : (head rest : List ℕ) → length head ≡ 8 → scalers_from (head ++ (scaler_numbers c ++ rest)) ≡ c
  unfolding scalers_from scaler_numbers
  scalers_back head rest h =
      let b = c.timer ∷ c.triggers ∷ c.part ∷ marks_number c.over ∷ c.latched in
      let all = head ++ ((c.counts ++ b) ++ rest) in
      let one : drop 8 all ≡ c.counts ++ (b ++ rest) = drop_at head ((c.counts ++ b) ++ rest) 8 h ∙ append_assoc c.counts b rest in
      let two : drop 24 all ≡ b ++ rest = sym (drop-drop 16 8 all) ∙ ap (drop 16) one ∙ drop_at c.counts (b ++ rest) 16 z.counts.0 in
      let counts : take 16 (drop 8 all) ≡ c.counts = ap (take 16) one ∙ take_at c.counts (b ++ rest) 16 z.counts.0 in
      let timer : get_or all 24 0 ≡ c.timer = sym (get_or-drop 24 all 0 0) ∙ ap (λ (l : List ℕ). get_or l 0 0) two in
      let triggers : get_or all 25 0 ≡ c.triggers = sym (get_or-drop 24 all 1 0) ∙ ap (λ (l : List ℕ). get_or l 1 0) two in
      let part : get_or all 26 0 ≡ c.part = sym (get_or-drop 24 all 2 0) ∙ ap (λ (l : List ℕ). get_or l 2 0) two in
      let marks : get_or all 27 0 ≡ marks_number c.over = sym (get_or-drop 24 all 3 0) ∙ ap (λ (l : List ℕ). get_or l 3 0) two in
      let latched : take 18 (drop 28 all) ≡ c.latched = ap (take 18) (sym (drop-drop 4 24 all) ∙ ap (drop 4) two) ∙ take_at c.latched rest 18 z.latched.0 in
      let over : marks_from (get_or all 27 0) ≡ c.over = ap marks_from marks ∙ marks_back c.over z.over in
      λ i. record { counts = counts i; timer = timer i; triggers = triggers i; part = part i; over = over i; latched = latched i }

-- ---- storing

-- in three goes
pub scalers_stored_lem : (n : List ℕ) (c : Scalers) {marks : ℕ} {x y w : List ℕ} → length c.counts ≡ 16 → length c.latched ≡ 18 → front_count ≤ length n → marks ≡ marks_number c.over
    → x ≡ pasted n counts_at c.counts → y ≡ pasted x timer_at (c.timer ∷ c.triggers ∷ c.part ∷ marks ∷ []) → w ≡ pasted y latched_at c.latched → w ≡ scalers_stored n c
unfolding scaler_numbers
scalers_stored_lem n c {marks} {x} {y} {w} h k l m p q r =
    let b = c.timer ∷ c.triggers ∷ c.part ∷ marks ∷ [] in
    let one : x ≡ splice n counts_at c.counts = p ∙ pasted_fits n counts_at c.counts (omega (arith, h, l)) in
    let size : length x ≡ length n = ap length one ∙ length_splice n counts_at c.counts (omega (arith, h, l)) in
    let at : timer_at ≡ counts_at + length c.counts = omega (arith, h) in
    let two : y ≡ splice n counts_at (c.counts ++ b) =
    q ∙ pasted_fits x timer_at b (omega (arith, size, l)) ∙ ap₂ (λ (v : List ℕ) (i : ℕ). splice v i b) one at ∙ splice_splice n counts_at c.counts b (omega (arith, l)) in
    let both = length-append c.counts b in
    let size2 : length y ≡ length n = ap length two ∙ length_splice n counts_at (c.counts ++ b) (omega (arith, both, h, l)) in
    let at2 : latched_at ≡ counts_at + length (c.counts ++ b) = omega (arith, both, h) in
    let all : (c.counts ++ b) ++ c.latched ≡ scaler_numbers c = append_assoc c.counts b c.latched ∙ ap (λ (i : ℕ). c.counts ++ (c.timer ∷ c.triggers ∷ c.part ∷ i ∷ c.latched)) m in
    let three = length-append (c.counts ++ b) c.latched in
    r
    ∙ pasted_fits y latched_at c.latched (omega (arith, size2, k, l))
    ∙ ap₂ (λ (v : List ℕ) (i : ℕ). splice v i c.latched) two at2
    ∙ splice_splice n counts_at (c.counts ++ b) c.latched (omega (arith, l))
    ∙ ap (splice n counts_at) all
    ∙ sym (pasted_fits n head_count (scaler_numbers c) (omega (arith, ap length all, three, both, h, k, l)))

-- fewer numbers stay
pub scalers_short : (n : List ℕ) (c : Scalers) → length c.counts ≡ 16 → length c.latched ≡ 18 → length n < front_count → n ≡ scalers_stored n c
scalers_short n c h k l = sym (pasted_none n head_count (scaler_numbers c) (omega (arith, sizes c h k, l)))
