-- Numbers that their fields hold, and the loops over them. Assumes nothing.
use Rattle.std.specs.Prelude.{ℕ, zero, suc, ◌+◌, ◌%◌, ◌-◌, ◌≤◌, ◌<◌, ◌≡◌, refl, Bool, true, false, ◌&&◌, List, [], ◌∷◌, ◌++◌, leb, length, get_or, take, drop, replicate, fold}
use Rattle.std.specs.List.{zip}
use Rattle.std.proofs.Math.Path.{sym}
use Rattle.std.proofs.Common.{ap, ap₂, ◌∙◌, arith, mod-eq_of_lt, leb-true, length-drop, length-take, length-append, take-append-drop, drop-cons, take_all, take-add, get_or-take, get_or-drop}
use Rattle.std.proofs.Math.Bool.{and_assoc, and-true}
use Rattle.std.proofs.lemmas.Bool.{false≢true}
use Rattle.ground.specs.Tests.{all_le}
use Rattle.ground.specs.TestsLaws.{and_left, and_right}
use Rattle.places.specs.Places.{mode_at, pl_at, slot_at, times_at, multiple_at, thresholds_at, most32, settings_limits, settings_count, block_at, events_at, event_at, closed_at, head_limits, head_count, timer_at, triggers_at, part_at, scaler_limits, front_limits, front_count, state_count, held_in, is_settings, is_state}

-- ---- held numbers

held_from : (good : Bool) (m n : List ℕ) → length n ≡ length m → fold (λ b p. b && leb p.0 p.1) good (zip n m) ≡ good && held_in m n
unfolding held_in
held_from good [] [] e = sym (and-true good)
held_from good [] (y ∷ n) e = absurd (omega arith)
held_from good (x ∷ m) [] e = absurd (omega arith)
held_from good (x ∷ m) (y ∷ n) e = held_from (good && leb y x) m n (omega arith) ∙ and_assoc good (leb y x) (held_in m n)

pub held_fold : (m n : List ℕ) → length n ≡ length m → fold (λ b p. b && leb p.0 p.1) true (zip n m) ≡ held_in m n
held_fold m n e = held_from true m n e

pub held_length : (m n : List ℕ) → held_in m n ≡ true → length n ≡ length m
unfolding held_in
held_length [] [] e = refl
held_length [] (y ∷ n) e = absurd (false≢true e)
held_length (x ∷ m) [] e = absurd (false≢true e)
held_length (x ∷ m) (y ∷ n) e = ap suc (held_length m n (and_right (leb y x) (held_in m n) e))

pub held_other : (m n : List ℕ) → (length n ≡ length m → ⊥) → held_in m n ≡ false
held_other m n f = go (held_in m n) refl
  where
    go : (b : Bool) → held_in m n ≡ b → b ≡ false
    go true e = absurd (f (held_length m n e))
    go false e = refl

pub held_at : (m n : List ℕ) → held_in m n ≡ true → (i : ℕ) → get_or n i 0 ≤ get_or m i 0
unfolding held_in
held_at [] [] e i = omega arith
held_at [] (y ∷ n) e i = absurd (false≢true e)
held_at (x ∷ m) [] e i = omega arith
held_at (x ∷ m) (y ∷ n) e zero = leb-true y x (and_left _ (held_in m n) e)
held_at (x ∷ m) (y ∷ n) e (suc i) = held_at m n (and_right (leb y x) _ e) i

-- held in two parts, the second as long as its limits
pub held_parts : (xs ys ms ns : List ℕ) → length ns ≡ length ys → held_in (xs ++ ys) (ms ++ ns) ≡ held_in xs ms && held_in ys ns
unfolding held_in
held_parts [] ys [] ns e = refl
held_parts [] ys (n ∷ ms) ns e = held_other ys (n ∷ ms ++ ns) (λ (f : suc (length (ms ++ ns)) ≡ length ys). omega (arith, length-append ms ns))
held_parts (x ∷ xs) ys [] ns e = held_other (x ∷ xs ++ ys) ns (λ (f : length ns ≡ suc (length (xs ++ ys))). omega (arith, length-append xs ys))
held_parts (x ∷ xs) ys (n ∷ ms) ns e = ap (λ (b : Bool). leb n x && b) (held_parts xs ys ms ns e) ∙ sym (and_assoc (leb n x) (held_in xs ms) (held_in ys ns))

pub held_same : (m k : ℕ) (bs : List ℕ) → length bs ≡ k → held_in (replicate k m) bs ≡ all_le m bs
unfolding held_in all_le
held_same m zero [] e = refl
held_same m zero (b ∷ bs) e = absurd (omega arith)
held_same m (suc k) [] e = absurd (omega arith)
held_same m (suc k) (b ∷ bs) e = ap (λ (c : Bool). leb b m && c) (held_same m k bs (omega arith))

-- ---- lengths

pub settings_count_lem : (n : List ℕ) → is_settings n ≡ true → length n ≡ settings_count
unfolding is_settings
settings_count_lem n e = held_length settings_limits n e

pub state_count_lem : (n : List ℕ) → is_state n ≡ true → length n ≡ state_count
unfolding is_state
state_count_lem n e =
    let h = held_length front_limits (take front_count n) (and_left _ (is_settings (drop front_count n)) e) in
    let k = settings_count_lem (drop front_count n) (and_right (held_in front_limits (take front_count n)) _ e) in
    omega (arith, h, k, length-take front_count n, length-drop front_count n)

pub short_none : (n : List ℕ) → length n < front_count → is_state n ≡ false
unfolding is_state
short_none n h = rw (held_other front_limits (take front_count n) (λ (e : length (take front_count n) ≡ front_count). omega (arith, length-take front_count n)))

pub state_settings_held : (n : List ℕ) → is_state n ≡ true → is_settings (drop front_count n) ≡ true
unfolding is_state
state_settings_held n e = and_right (held_in front_limits (take front_count n)) _ e

-- ---- 32-bit fields lose nothing

fits32 : {x y : ℕ} → x ≤ y → y ≡ most32 → x % 4294967296 ≡ x
fits32 h e = mod-eq_of_lt (omega arith)

pub record Settings32 (n : List ℕ) : Type 0 where
  pub mode : get_or n mode_at 0 % 4294967296 ≡ get_or n mode_at 0
  pub pl : get_or n pl_at 0 % 4294967296 ≡ get_or n pl_at 0
  pub slot : get_or n slot_at 0 % 4294967296 ≡ get_or n slot_at 0
  pub times : get_or n times_at 0 % 4294967296 ≡ get_or n times_at 0
  pub multiple : get_or n multiple_at 0 % 4294967296 ≡ get_or n multiple_at 0

pub settings-32 : (n : List ℕ) → is_settings n ≡ true → Settings32 n
unfolding is_settings
settings-32 n e =
    let at = held_at settings_limits n e in
    record {
      mode = fits32 (at mode_at) refl;
      pl = fits32 (at pl_at) refl;
      slot = fits32 (at slot_at) refl;
      times = fits32 (at times_at) refl;
      multiple = fits32 (at multiple_at) refl;
    }

get_d_same : (k x i : ℕ) → get_or (replicate k x) i 0 ≤ x
get_d_same zero x i = omega arith
get_d_same (suc k) x zero = omega arith
get_d_same (suc k) x (suc i) = get_d_same k x i

threshold-32 : (n : List ℕ) → is_settings n ≡ true → (i : ℕ) → get_or n (thresholds_at + i) 0 % 4294967296 ≡ get_or n (thresholds_at + i) 0
unfolding is_settings
threshold-32 n e i =
    let same : get_or settings_limits (thresholds_at + i) 0 ≡ get_or (replicate 16 most32) i 0 = sym (get_or-drop thresholds_at settings_limits i 0) in
    mod-eq_of_lt (omega (arith, held_at settings_limits n e (thresholds_at + i), same, get_d_same 16 most32 i))

-- the sixteen thresholds, and each of them
pub thresholds-16 : (n : List ℕ) → is_settings n ≡ true → length (take 16 (drop thresholds_at n)) ≡ 16
thresholds-16 n e = omega (arith, settings_count_lem n e, length-take 16 (drop thresholds_at n), length-drop thresholds_at n)

pub threshold_at : (n : List ℕ) → is_settings n ≡ true → (i : ℕ) → i < 16 → get_or n (thresholds_at + i) 0 % 4294967296 ≡ get_or (take 16 (drop thresholds_at n)) i 0
threshold_at n e i h = threshold-32 n e i ∙ sym (get_or-take 16 (drop thresholds_at n) i 0 h ∙ get_or-drop thresholds_at n i 0)

-- any number before the settings
pub front_held : (n : List ℕ) → is_state n ≡ true → (i : ℕ) → i < front_count → get_or n i 0 ≤ get_or front_limits i 0
unfolding is_state
front_held n e i h = rw (← get_or-take front_count n i 0 h) (held_at front_limits (take front_count n) (and_left _ (is_settings (drop front_count n)) e) i)

pub record Front32 (n : List ℕ) : Type 0 where
  pub block : get_or n block_at 0 % 4294967296 ≡ get_or n block_at 0
  pub events : get_or n events_at 0 % 4294967296 ≡ get_or n events_at 0
  pub event : get_or n event_at 0 % 4294967296 ≡ get_or n event_at 0
  pub closed : get_or n closed_at 0 % 4294967296 ≡ get_or n closed_at 0
  pub timer : get_or n timer_at 0 % 4294967296 ≡ get_or n timer_at 0
  pub triggers : get_or n triggers_at 0 % 4294967296 ≡ get_or n triggers_at 0
  pub part : get_or n part_at 0 % 4294967296 ≡ get_or n part_at 0

pub front-32 : (n : List ℕ) → is_state n ≡ true → Front32 n
front-32 n e =
    record {
      block = fits32 (front_held n e block_at (omega arith)) refl;
      events = fits32 (front_held n e events_at (omega arith)) refl;
      event = fits32 (front_held n e event_at (omega arith)) refl;
      closed = fits32 (front_held n e closed_at (omega arith)) refl;
      timer = fits32 (front_held n e timer_at (omega arith)) refl;
      triggers = fits32 (front_held n e triggers_at (omega arith)) refl;
      part = fits32 (front_held n e part_at (omega arith)) refl;
    }

-- a part to the end
pub tail_part : (l : List ℕ) (k : ℕ) → take (length l - k) (drop k l) ≡ drop k l
tail_part l k = take_all (length l - k) (drop k l) (rw (length-drop k l) (omega arith))

-- ---- asking

-- the fields and the thresholds of settings, as the code cuts them
pub settings_asked : (n : List ℕ) {f t : Bool} → 16 ≤ length n → f ≡ held_in (take thresholds_at settings_limits) (take (length n - 16) n)
    → t ≡ all_le most32 (take (length n - (length n - 16)) (drop (length n - 16) n))
    → f && t ≡ is_settings n
unfolding is_settings
settings_asked n h f g =
    let k : ℕ = length n - 16 in
    let long : length (drop k n) ≡ 16 = omega (arith, length-drop k n) in
    ap₂ ◌&&◌ f (g ∙ ap (all_le most32) (tail_part n k) ∙ sym (held_same most32 16 (drop k n) long))
    ∙ sym (held_parts (take thresholds_at settings_limits) (replicate 16 most32) (take k n) (drop k n) long)
    ∙ ap (held_in settings_limits) (take-append-drop k n)

pub settings_short : (n : List ℕ) → length n < 16 → is_settings n ≡ false
unfolding is_settings
settings_short n h = held_other settings_limits n (λ (e : length n ≡ settings_count). omega arith)

-- a run of equal limits among those before the settings: each number there is of 32 bits
pub front_32_at : (n : List ℕ) → is_state n ≡ true → (i : ℕ) → i < front_count → get_or front_limits i 0 ≡ most32 → get_or n i 0 % 4294967296 ≡ get_or n i 0
front_32_at n e i h k = fits32 (front_held n e i h) k

-- what is counted, as the code cuts it: 32 bits each, but for who was over
pub scalers_asked : (l : List ℕ) {a b : Bool} → length l ≡ 38 → a ≡ all_le most32 (take 19 l) → b ≡ all_le most32 (drop 20 l) → a && (leb (get_or l 19 0) 65535 && b) ≡ held_in scaler_limits l
unfolding held_in
scalers_asked l h e f =
    let first : length (take 19 l) ≡ 19 = omega (arith, length-take 19 l) in
    let rest : length (drop 19 l) ≡ 19 = omega (arith, length-drop 19 l) in
    let last : length (drop 20 l) ≡ 18 = omega (arith, length-drop 20 l) in
    let over : drop 19 l ≡ get_or l 19 0 ∷ drop 20 l = drop-cons l 19 0 (omega (arith, h)) in
    let high : held_in (65535 ∷ replicate 18 most32) (drop 19 l) ≡ leb (get_or l 19 0) 65535 && held_in (replicate 18 most32) (drop 20 l) = ap (held_in (65535 ∷ replicate 18 most32)) over in
    ap₂ (λ (x y : Bool). x && (leb (get_or l 19 0) 65535 && y)) (e ∙ sym (held_same most32 19 (take 19 l) first)) (f ∙ sym (held_same most32 18 (drop 20 l) last))
    ∙ ap (λ (x : Bool). held_in (replicate 19 most32) (take 19 l) && x) (sym high)
    ∙ sym (held_parts (replicate 19 most32) (65535 ∷ replicate 18 most32) (take 19 l) (drop 19 l) rest)
    ∙ ap (held_in scaler_limits) (take-append-drop 19 l)

-- the three parts of a state's numbers, as the code cuts them
pub state_asked : (n : List ℕ) {h c s : Bool} → front_count ≤ length n → h ≡ held_in head_limits (take head_count n) → c ≡ held_in scaler_limits (take 38 (drop head_count n))
    → s ≡ is_settings (take (length n - front_count) (drop front_count n)) → h && (c && s) ≡ is_state n
unfolding is_state
state_asked n {h} {c} {s} long f g k =
    let size : length (take 38 (drop head_count n)) ≡ 38 = omega (arith, long, length-take 38 (drop head_count n), length-drop head_count n) in
    let both : take head_count n ++ take 38 (drop head_count n) ≡ take front_count n = sym (take-add head_count 38 n) in
    let front : held_in front_limits (take front_count n) ≡ h && c =
    ap (held_in front_limits) (sym both) ∙ held_parts head_limits scaler_limits (take head_count n) (take 38 (drop head_count n)) size ∙ ap₂ ◌&&◌ (sym f) (sym g) in
    sym (and_assoc h c s) ∙ ap₂ ◌&&◌ (sym front) (k ∙ ap is_settings (tail_part n front_count))
