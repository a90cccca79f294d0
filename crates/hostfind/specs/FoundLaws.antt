-- What the finder's call stores: the pulses found, as numbers. Assumes nothing.
use Rattle.std.specs.Prelude.{ℕ, ◌+◌, ◌*◌, ◌<◌, ◌≤◌, ◌≡◌, refl, Bool, true, false, cond, List, [], ◌∷◌, ◌++◌, eqb, ltb, length, get_or, replicate}
use Rattle.std.proofs.Common.{sym, ap, ap₂, ◌∙◌, subst, append_assoc, arith, eqb-true, lt-ltb, le-ltb, length-append}
use Rattle.std.proofs.Math.Decide.{dec_le}
use Rattle.std.proofs.lemmas.Bool.{lt-leb}
use Rattle.limits.specs.Limits.{most_samples}
use Rattle.limits.proofs.LimitsLaws.{most_samples_lem}
use Rattle.ground.specs.Splice.{splice}
use Rattle.ground.specs.Tests.{first_of}
use Rattle.ground.specs.SpliceLaws.{splice_splice, length_splice}
use Rattle.copies.specs.Copies.{pasted}
use Rattle.copies.specs.CopiesLaws.{pasted_fits, pasted_none}
use Rattle.settings.specs.declared.Settings.{Settings}
use Rattle.refusals.specs.Refusal.{number_of, told, bad_array, if_accepted, or_else}
use Rattle.refusals.specs.RefusalLaws.{none_later}
use Rattle.refusals.specs.declared.Refusal.TheVariants as R
use Rattle.std.specs.declared.result.Result.{Result}
use Rattle.refusals.specs.declared.Refusal.{Refusal}
use Rattle.finder.specs.declared.Pulse.{Pulse}
use Rattle.finder.specs.declared.Pulses.{Pulses}
use Rattle.finder.specs.Find.{no_pulse, packed}
use Rattle.finder.specs.RangeLaws.{PulseFits, EachFits, fits_at, pulses_fit, pulses_count, packed_count, packed_at}
use Rattle.find.specs.Call.{find_table, find_number, channel_pulses, found_pulses, found_in, FindSays}
use Rattle.find.specs.CallLaws.{accepted, found_none, found_all}
use Rattle.state.specs.State.{blank}
use Rattle.places.specs.Places.{is_settings}
use Rattle.numbers.specs.Numbers.{settings_from, settings_or_none}
use Rattle.numbers.specs.On.{on_settings}
use Rattle.numbers.specs.OnLaws.{none_out, settings_number}
use Rattle.hostfind.specs.Found.{pulse_numbers, pulse_count, pulse_row, found_count, found_numbers, FindFace}
use Rattle.hostfind.specs.Inner.{Small, AllSmall}

-- ---- what is found is small

fits_small : (n : ℕ) (p : Pulse) → n ≤ most_samples → PulseFits n p → Small p
fits_small n p h f =
    record {
      tc = omega (arith, f.tc, h, most_samples_lem);
      first = omega (arith, f.tc, f.first, h, most_samples_lem);
      last = omega (arith, f.last, h, most_samples_lem);
      coarse = omega (arith, f.time.coarse, h, most_samples_lem);
    }

packed_small : (n : ℕ) (l : List Pulse) → n ≤ most_samples → length l ≤ 3 → EachFits n l → AllSmall (packed l)
packed_small n l h k e =
    record {
      count = rw (packed_count l) k;
      each = λ i less. let inside : i < length l = omega (arith, less, packed_count l) in rw (packed_at l i no_pulse k inside) (fits_small n (get_or l i no_pulse) h (fits_at n l i no_pulse e inside));
    }

pulses_small : (s : Settings) (c : ℕ) (w : List ℕ) → AllSmall (packed (found_pulses s c w))
unfolding channel_pulses
pulses_small s c w = go (eqb (find_number s c w) 0) refl
  where
    go : (b : Bool) → eqb (find_number s c w) 0 ≡ b → AllSmall (packed (found_pulses s c w))
    go true e =
        let a = accepted s c w (eqb-true _ 0 e) in
        let t = get_or s.thresholds c 0 in
        rw (found_all s c w e)
        (packed_small (length w) (channel_pulses s c w) (omega (arith, a.long, a.settings.nw)) (omega (arith, pulses_count w t s.nsb s.nsa s.limit 0, a.settings.limit)) (pulses_fit w t s.nsb s.nsa s.limit 0 a.settings.nsa.0))
    go false e = rw (found_none s c w e) (packed_small 0 [] (omega arith) (omega arith) tt)

pub found_small : (s : Settings) (c : ℕ) (w : List ℕ) (a : Result Pulses Refusal) → FindSays s c w a → AllSmall (found_in a)
found_small s c w a d = rw d.found (pulses_small s c w)

-- ---- the rows

pub row_full : (found : Pulses) (i : ℕ) → i < found.count → pulse_row found i ≡ pulse_numbers (get_or found.pulses i no_pulse)
unfolding pulse_row
row_full found i h = rw (lt-ltb _ _ h)

pub row_empty : (found : Pulses) (i : ℕ) → found.count ≤ i → pulse_row found i ≡ replicate pulse_count 0
unfolding pulse_row
row_empty found i h = rw (le-ltb _ _ h)

row_count : (found : Pulses) (i : ℕ) → length (pulse_row found i) ≡ pulse_count
unfolding pulse_row pulse_numbers
row_count found i = go (ltb i found.count)
  where
    go : (b : Bool) → length (cond b (pulse_numbers (get_or found.pulses i no_pulse)) (replicate pulse_count 0)) ≡ pulse_count
    go true = refl
    go false = refl

-- the numbers of no pulses are zeros, and a refused call has none
none_zeros : found_numbers (packed []) ≡ replicate found_count 0
unfolding found_numbers pulse_row packed
none_zeros = refl

pub found_or_zeros : (s : Settings) (c : ℕ) (w : List ℕ)
    → if_accepted (find_number s c w) (found_numbers (packed (found_pulses s c w))) (replicate found_count 0) ≡ found_numbers (packed (found_pulses s c w))
found_or_zeros s c w = go (eqb (find_number s c w) 0) refl
  where
    go : (b : Bool) → eqb (find_number s c w) 0 ≡ b → cond b (found_numbers (packed (found_pulses s c w))) (replicate found_count 0) ≡ found_numbers (packed (found_pulses s c w))
    go true e = refl
    go false e = sym (ap (λ (l : List Pulse). found_numbers (packed l)) (found_none s c w e) ∙ none_zeros)

-- a copy that has room
put_run : (l : List ℕ) (at : ℕ) (new : List ℕ) {x l' : List ℕ} → x ≡ new → l' ≡ pasted l at x → at + length new ≤ length l → (l' ≡ splice l at new) × (length l' ≡ length l)
put_run l at new e f h =
    let g = f ∙ ap (pasted l at) e ∙ pasted_fits l at new h in
    (g, ap length g ∙ length_splice l at new h)

-- zeros that have room are the numbers of no pulses
pub none_put : (out : List ℕ) {out' : List ℕ} → found_count ≤ length out → out' ≡ pasted out 0 (replicate found_count 0) → out' ≡ splice out 0 (found_numbers (packed []))
none_put out h f = f ∙ pasted_fits out 0 (replicate found_count 0) h ∙ ap (splice out 0) (sym none_zeros)

-- four writings behind each other are one
pub found_put : (out : List ℕ) (found : Pulses) {o p q r a b c : List ℕ} → found_count ≤ length out → a ≡ pulse_row found 0 → b ≡ pulse_row found 1 → c ≡ pulse_row found 2
    → o ≡ pasted out 0 (found.count ∷ []) → p ≡ pasted o 1 a → q ≡ pasted p (1 + pulse_count) b → r ≡ pasted q (1 + 2 * pulse_count) c → r ≡ splice out 0 (found_numbers found)
unfolding found_numbers
found_put out found {o = o} {p = p} {q = q} h ea eb ec eo ep eq er =
    let one = found.count ∷ [] in
    let a = pulse_row found 0 in
    let b = pulse_row found 1 in
    let c = pulse_row found 2 in
    let at_b : 1 + length a ≡ 1 + pulse_count = omega (arith, row_count found 0) in
    let at_c : 1 + length (a ++ b) ≡ 1 + 2 * pulse_count = omega (arith, length-append a b, row_count found 0, row_count found 1) in
    let put_o = put_run out 0 one refl eo (omega arith) in
    let put_p = put_run o 1 a ea ep (omega (arith, row_count found 0)) in
    let put_q = put_run p (1 + pulse_count) b eb eq (omega (arith, row_count found 1)) in
    let put_r = put_run q (1 + 2 * pulse_count) c ec er (omega (arith, row_count found 2)) in
    let first : splice (splice out 0 one) 1 (a ++ (b ++ c)) ≡ splice out 0 (one ++ (a ++ (b ++ c))) = splice_splice out 0 one (a ++ (b ++ c)) (omega arith) in
    let base = splice out 0 one in
    let room : 1 ≤ length base = omega (arith, length_splice out 0 one (omega arith)) in
    let second : splice (splice base 1 a) (1 + pulse_count) b ≡ splice base 1 (a ++ b) = ap (λ (k : ℕ). splice (splice base 1 a) k b) (sym at_b) ∙ splice_splice base 1 a b room in
    let third : splice (splice base 1 (a ++ b)) (1 + 2 * pulse_count) c ≡ splice base 1 ((a ++ b) ++ c) = ap (λ (k : ℕ). splice (splice base 1 (a ++ b)) k c) (sym at_c) ∙ splice_splice base 1 (a ++ b) c room in
    put_r.0
    ∙ ap (λ (x : List ℕ). splice x (1 + 2 * pulse_count) c) (put_q.0 ∙ ap (λ (x : List ℕ). splice x (1 + pulse_count) b) (put_p.0 ∙ ap (λ (x : List ℕ). splice x 1 a) put_o.0))
    ∙ ap (λ (x : List ℕ). splice x (1 + 2 * pulse_count) c) second
    ∙ third
    ∙ ap (λ (x : List ℕ). splice base 1 x) (append_assoc a b c)
    ∙ first

-- ---- the call

find_out : (c : ℕ) (w : List ℕ) → find_number blank.settings c w ≡ number_of R.Setting
unfolding find_number find_table first_of
find_out c w = rw none_out

module _ (m : List ℕ) (c : ℕ) (w out : List ℕ) {s : Settings} {a : Result Pulses Refusal} (f : s ≡ settings_or_none m) (d : FindSays s c w a) where
  first_number : (later : ℕ) → or_else (on_settings m (find_number (settings_from m) c w)) later ≡ or_else (told a) later
  first_number later = ap (λ (k : ℕ). or_else k later) (sym (d.refusal ∙ ap (λ (x : Settings). find_number x c w) f ∙ settings_number m (λ (x : Settings). find_number x c w) (find_out c w)))

  pub find_short : {r : ℕ} → r ≡ or_else (told a) bad_array → length out < found_count → FindFace m c w out r out
  find_short g k = record { number = rw (lt-ltb _ _ k) (g ∙ sym (first_number bad_array)); numbers = rw (lt-ltb _ _ k) }

  -- an accepted call's pulses are those of the numbers' settings, and a refused one has none
  found_told : found_numbers (found_in a) ≡ if_accepted (told a) (found_numbers (packed (found_pulses (settings_from m) c w))) (replicate found_count 0)
  found_told = ap found_numbers d.found ∙ sym (found_or_zeros s c w) ∙ go (is_settings m) f
    where
      numbers : Settings → List ℕ
      numbers x = found_numbers (packed (found_pulses x c w))

      go : (b : Bool) → s ≡ cond b (settings_from m) blank.settings
          → if_accepted (find_number s c w) (numbers s) (replicate found_count 0) ≡ if_accepted (told a) (numbers (settings_from m)) (replicate found_count 0)
      go true p = ap₂ (λ (k : ℕ) (x : Settings). if_accepted k (numbers x) (replicate found_count 0)) (sym d.refusal) p
      go false p = rw (d.refusal, ap (λ (x : Settings). find_number x c w) p ∙ find_out c w)

  pub find_face : {r : ℕ} {out' : List ℕ} → found_count ≤ length out → out' ≡ splice out 0 (found_numbers (found_in a)) → r ≡ told a → FindFace m c w out r out'
  find_face k e g =
      record {
        number = rw (le-ltb _ _ k) (g ∙ sym (first_number 0 ∙ none_later (told a)));
        numbers = rw (le-ltb _ _ k, g) (e ∙ ap (splice out 0) found_told);
      }

  -- a refused call: its number first, and no pulses where they have room
  pub find_refused : {r : ℕ} {out' : List ℕ} → eqb (told a) 0 ≡ false → found_in a ≡ packed [] → out' ≡ pasted out 0 (replicate found_count 0) → r ≡ told a → FindFace m c w out r out'
  find_refused {r} {out'} some none f g =
      elim (dec_le found_count (length out)) [
        | yes h ↦ find_face h (none_put out h f ∙ ap (λ (x : Pulses). splice out 0 (found_numbers x)) (sym none)) g
        | no h ↦ subst (λ (l : List ℕ). FindFace m c w out r l) (sym (f ∙ pasted_none out 0 (replicate found_count 0) (omega arith))) (find_short (g ∙ sym (rw some)) (omega arith))
      ]

-- numbers that are no settings: no pulses, where they have room
pub find_none : (m : List ℕ) (c : ℕ) (w out : List ℕ) {r : ℕ} {out' : List ℕ} → is_settings m ≡ false → out' ≡ pasted out 0 (replicate found_count 0) → r ≡ number_of R.Setting
    → FindFace m c w out r out'
find_none m c w out e f g =
    record {
      number = rw e g;
      numbers = rw g
          (elim (dec_le found_count (length out)) [
            | yes h ↦ rw (le-ltb _ _ h) (f ∙ pasted_fits out 0 (replicate found_count 0) h)
            | no h ↦ rw (lt-ltb (length out) found_count (omega arith)) (f ∙ rw (lt-leb found_count (length out) (omega arith)))
          ]);
    }
