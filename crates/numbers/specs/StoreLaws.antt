-- Loading and storing, part by part. Assumes nothing.
use Rattle.std.specs.Prelude.{ℕ, ◌+◌, ◌%◌, ◌-◌, ◌≤◌, ◌≡◌, Bool, true, false, List, ◌∷◌, [], ◌++◌, eqb, length, get_or, take, drop}
use Rattle.std.proofs.Common.{sym, ap, ◌∙◌, arith, eq-eqb, ne_eqb, length-take, length-drop, take_all, drop_at}
use Rattle.ground.specs.Splice.{splice}
use Rattle.ground.specs.SpliceLaws.{splice_front, length_splice, row_same}
use Rattle.copies.specs.Copies.{pasted}
use Rattle.copies.specs.CopiesLaws.{pasted_fits}
use Rattle.settings.specs.declared.Settings.{Settings}
use Rattle.scalers.specs.declared.Scalers.{Scalers}
use Rattle.state.specs.declared.Phase.{Phase}
use Rattle.state.specs.declared.State.{State}
use Rattle.state.specs.State.{blank}
use Rattle.places.specs.Places.{mode_at, nw_at, pl_at, nsb_at, nsa_at, limit_at, slot_at, parameters_at, times_at, multiple_at, thresholds_at, settings_count, phase_at, block_at, events_at, event_at, trigger_time_at, marks_at, closed_at, words_at, head_count, front_count, state_count, is_settings, is_state}
use Rattle.numbers.specs.Numbers.{settings_from, phase_from, marks_from, scalers_from, state_from, settings_or_none, state_or_none, phase_number, marks_number, head_of, scaler_numbers, head_stored, scalers_stored, state_stored}
use Rattle.places.specs.PlacesLaws.{settings-32, front-32, tail_part}

-- ---- loading numbers that are held

pub settings_loaded : (n : List ℕ) → is_settings n ≡ true → {mode nw pl nsb nsa limit slot parameters times multiple : ℕ} {thresholds : List ℕ}
    → thresholds ≡ take 16 (drop thresholds_at n)
    → mode ≡ get_or n mode_at 0 % 4294967296
    → nw ≡ get_or n nw_at 0
    → pl ≡ get_or n pl_at 0 % 4294967296
    → nsb ≡ get_or n nsb_at 0
    → nsa ≡ get_or n nsa_at 0
    → limit ≡ get_or n limit_at 0
    → slot ≡ get_or n slot_at 0 % 4294967296
    → parameters ≡ get_or n parameters_at 0
    → times ≡ get_or n times_at 0 % 4294967296
    → multiple ≡ get_or n multiple_at 0 % 4294967296
    → record { mode = mode; nw = nw; pl = pl; nsb = nsb; nsa = nsa; limit = limit; thresholds = thresholds; slot = slot; parameters = eqb parameters 1; times = times; multiple = multiple } ≡ settings_from n
unfolding settings_from
settings_loaded n e ts m w p b a l s x i u =
    let f = settings-32 n e in
    rw (ts, m, w, p, b, a, l, s, x, i, u, f.mode, f.pl, f.slot, f.times, f.multiple)

pub state_loaded : (n : List ℕ) → is_state n ≡ true → {first block events event time marks closed words : ℕ} {phase : Phase} {posted : List Bool} {settings : Settings} {scalers : Scalers}
    → settings ≡ settings_from (take (length n - front_count) (drop front_count n))
    → scalers ≡ scalers_from n
    → first ≡ get_or n phase_at 0
    → phase ≡ phase_from first
    → marks ≡ get_or n marks_at 0
    → posted ≡ marks_from marks
    → block ≡ get_or n block_at 0 % 4294967296
    → events ≡ get_or n events_at 0 % 4294967296
    → event ≡ get_or n event_at 0 % 4294967296
    → time ≡ get_or n trigger_time_at 0
    → closed ≡ get_or n closed_at 0 % 4294967296
    → words ≡ get_or n words_at 0
    → record { settings = settings; phase = phase; block = block; events = events; event = event; time = time; posted = posted; closed = closed; words = words; scalers = scalers } ≡ state_from n
unfolding state_from
state_loaded n e s x p q m k b v w t c u =
    let f = front-32 n e in
    rw (s, x, q, p, k, m, b, v, w, t, c, u, tail_part n front_count, f.block, f.events, f.event, f.closed)

-- ---- loading any numbers

pub settings_held : (n : List ℕ) {s : Settings} → is_settings n ≡ true → s ≡ settings_from n → s ≡ settings_or_none n
settings_held n e f = rw e f

pub settings_none : (n : List ℕ) {s : State} → is_settings n ≡ false → s ≡ blank → s.settings ≡ settings_or_none n
settings_none n e f = rw e (ap (λ (x : State). x.settings) f)

pub state_held : (n : List ℕ) {s : State} → is_state n ≡ true → s ≡ state_from n → s ≡ state_or_none n
state_held n e f = rw e f

pub state_none : (n : List ℕ) {s : State} → is_state n ≡ false → s ≡ blank → s ≡ state_or_none n
state_none n e f = rw e f

-- ---- storing

pub head_made : (s : State) {phase marks : ℕ} → phase ≡ phase_number s.phase → marks ≡ marks_number s.posted
    → phase ∷ s.block ∷ s.events ∷ s.event ∷ s.time ∷ marks ∷ s.closed ∷ s.words ∷ [] ≡ head_of s
unfolding head_of
head_made s p m = rw (p, m)

pub head_stored_lem : (n : List ℕ) (s : State) {h n' : List ℕ} → h ≡ head_of s → n' ≡ pasted n 0 h → n' ≡ head_stored n s
head_stored_lem n s e f = f ∙ ap (pasted n 0) e

-- the head over the front of those that are long enough
pub head_over : (n : List ℕ) (s : State) → head_count ≤ length n → head_stored n s ≡ head_of s ++ drop head_count n
unfolding head_of
head_over n s h = pasted_fits n 0 (head_of s) h ∙ splice_front n (head_of s)

pub state_other : (n : List ℕ) (s : State) (m : List ℕ) → (length n ≡ state_count → ⊥) → n ≡ state_stored n s m
state_other n s m h = rw (ne_eqb _ _ h)

pub settings_other : (n : List ℕ) (s : State) (m : List ℕ) → length n ≡ state_count → (length m ≡ settings_count → ⊥) → n ≡ state_stored n s m
settings_other n s m h k = rw (eq-eqb _ _ h, ne_eqb _ _ k)

-- the settings last, what is counted before them, then the head over the front
pub state_stored_lem : (n : List ℕ) (s : State) (m : List ℕ) {p q n' : List ℕ} → length (scaler_numbers s.scalers) ≡ 38 → length n ≡ state_count → length m ≡ settings_count
    → p ≡ pasted n front_count m → q ≡ scalers_stored p s.scalers → n' ≡ head_stored q s → n' ≡ state_stored n s m
unfolding splice
state_stored_lem n s m {p = p} {q = q} z h k o c f =
    let cs = scaler_numbers s.scalers in
    let e : p ≡ splice n front_count m = o ∙ pasted_fits n front_count m (omega arith) in
    let long : length p ≡ length n = ap length e ∙ length_splice n front_count m (omega arith) in
    let last : drop front_count p ≡ m =
    sym (take_all (length m) (drop front_count p) (rw (length-drop front_count p) (omega arith)))
    ∙ ap (λ (l : List ℕ). take (length m) (drop front_count l)) e
    ∙ row_same n front_count m (omega arith) in
    let g : q ≡ splice p head_count cs = c ∙ pasted_fits p head_count cs (omega (arith, z, long)) in
    let size : length q ≡ length n = ap length g ∙ length_splice p head_count cs (omega (arith, z, long)) ∙ long in
    let at : head_count + length cs ≡ front_count = omega (arith, z) in
    let behind : drop head_count q ≡ cs ++ m =
    ap (drop head_count) g ∙ drop_spliced p cs (omega (arith, long)) ∙ ap (λ (l : List ℕ). cs ++ l) (ap (λ (i : ℕ). drop i p) at ∙ last) in
    rw (eq-eqb _ _ h, eq-eqb _ _ k) (f ∙ head_over q s (omega (arith, size)) ∙ ap (λ (l : List ℕ). head_of s ++ l) behind)
  where
    drop_spliced : (p cs : List ℕ) → head_count ≤ length p → drop head_count (splice p head_count cs) ≡ cs ++ drop (head_count + length cs) p
    drop_spliced p cs h = drop_at (take head_count p) (cs ++ drop (head_count + length cs) p) head_count (omega (arith, length-take head_count p))
