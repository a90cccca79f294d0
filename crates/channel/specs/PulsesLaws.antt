-- A loop that writes the pulses as it finds them, with no more of each than the mode writes. Assumes nothing.
use Prim.Native.Nat.{ℕ, suc, ◌+◌, ◌-◌, ◌≤◌, ◌<◌}
use Rattle.std.specs.Prelude.{◌≡◌, Bool, Option, None, ◌&&◌, ◌||◌, length}
use Rattle.std.proofs.Math.Path.{refl, ap₂}
use Rattle.std.proofs.Common.{ap, ◌∙◌}
use Rattle.std.proofs.Math.Bool.{true, false, cond}
use mathlib.Core.List.{List, [], ◌++◌}
use native.Mathlib.Omega.{arith}
use borrow.Author.Tests.{ne_eqb}
use Rattle.ground.specs.Splice.{Written, WrittenIf}
use Rattle.ground.specs.WritingLaws.{Left}
use Rattle.search.specs.Search.{tc_from}
use Rattle.search.specs.Asked.{IsOver}
use Rattle.search.specs.SearchLaws.{tc_over}
use Rattle.timing.specs.Time.{time_at}
use Rattle.timing.specs.ByBase.{base_of, time_from}
use Rattle.timing.proofs.EdgeLaws.{base_time}
use Rattle.finder.specs.declared.Pulse.{Pulse}
use Rattle.finder.specs.Find.{pulse_at, pulses_from, no_pulse, searchable}
use Rattle.finder.specs.Wanted.{pulse_of, pulse_from, is_tc}
use Rattle.finder.specs.FindLaws.{Searched, can_search, tc_is}
use Rattle.finder.specs.RangeLaws.{from_fits}
use Rattle.items.specs.declared.Item.{Item}
use Rattle.items.specs.Items.{words_of, item_if}
use Rattle.items.specs.ItemsLaws.{put_written, loop_room, loop_less, loop_none}
use Rattle.pulse.specs.declared.Parts.{Parts}
use Rattle.pulse.specs.Pulse.{set_of, raw_items, integral_item, time_item, pedestal_item, pulse_items, fits_in}
use Rattle.pulse.specs.PulseLaws.{fits_in_lem}
use Rattle.modes.specs.Channel.{pulses_items}

-- the base of the times, where one is asked
abbrev pub base_if : Bool → List ℕ → ℕ → Option ℕ
base_if on w t = cond on (base_of w t) None

-- ---- what the mode writes of a pulse is what it writes of all that can be asked of it

module _ (m : Parts) (c : ℕ) (w : List ℕ) (t nsb nsa tc i : ℕ) (own : time_from w (base_of w t) tc ≡ time_at w t tc) where
  with : Bool → Bool → Pulse
  with sums times = pulse_from sums w (base_if times w t) nsb nsa tc

  whole : Pulse
  whole = pulse_at w t nsb nsa tc

  raw_same : (sums times : Bool) → raw_items c w i (with sums times) ≡ raw_items c w i whole
  unfolding with whole raw_items set_of pulse_of pulse_from pulse_at
  raw_same sums times = refl

  integral_same : (on times : Bool) → item_if on (integral_item c i (with on times)) ≡ item_if on (integral_item c i whole)
  unfolding with whole integral_item pulse_of pulse_from pulse_at
  integral_same true times = refl
  integral_same false times = refl

  time_same : (on high pedestal sums : Bool) → item_if on (time_item high c i (with sums (high || pedestal))) ≡ item_if on (time_item high c i whole)
  unfolding with whole time_item pulse_of pulse_from pulse_at
  time_same on true pedestal sums = rw own
  time_same on false pedestal sums = refl

  pedestal_same : (on high sums : Bool) → item_if on (pedestal_item c i (with sums (high || on))) ≡ item_if on (pedestal_item c i whole)
  unfolding with whole pedestal_item pulse_of pulse_from pulse_at
  pedestal_same true true sums = rw own
  pedestal_same true false sums = rw own
  pedestal_same false high sums = refl

  pub same_items : pulse_items m c w i (pulse_from m.integral w (base_if (m.high || m.pedestal) w t) nsb nsa tc) ≡ pulse_items m c w i (pulse_at w t nsb nsa tc)
  unfolding with whole pulse_items
  same_items =
      ap₂ (λ (x y : List Item). x ++ y) (ap (λ (x : List Item). cond m.raw x []) (raw_same m.integral (m.high || m.pedestal)))
      (ap₂ (λ (x y : List Item). x ++ y) (integral_same m.integral (m.high || m.pedestal))
      (ap₂ (λ (x y : List Item). x ++ y) (time_same m.time m.high m.pedestal m.integral) (pedestal_same m.pedestal m.high m.integral)))

-- ---- in turn

module _ (buf₀ : List ℕ) (at : ℕ) (m : Parts) (c : ℕ) (w : List ℕ) (t nsb nsa limit : ℕ) (r : Searched (length w) nsa limit)
    (fits : at + length (pulses_items m c w 0 (pulses_from w t nsb nsa limit 0)) ≤ length buf₀) where
  -- the pulses from s on, the i-th first, are still to be written, from place k of buf
  abbrev pub ToCome : List ℕ → ℕ → ℕ → ℕ → Type 0
  ToCome buf k i s =
      Left buf₀ at (words_of (pulses_items m c w 0 (pulses_from w t nsb nsa limit 0))) buf k (words_of (pulses_items m c w i (pulses_from w t nsb nsa (limit - i) s)))

  pub pulse_first : ToCome buf₀ at 0 0
  pulse_first =
      let e : limit - 0 ≡ limit = omega arith in
      rw e (record { size = refl; place = refl; words = refl })

  pub pulse_full : (buf : List ℕ) (k i s : ℕ) → limit ≤ i → ToCome buf k i s → Written buf₀ at (words_of (pulses_items m c w 0 (pulses_from w t nsb nsa limit 0))) k buf
  unfolding pulses_items pulses_from
  pulse_full buf k i s h l =
      let e : limit - i ≡ 0 = omega arith in
      loop_none buf₀ at (pulses_items m c w 0 (pulses_from w t nsb nsa limit 0)) fits buf k (rw (e, pulses_from, pulses_items) at l)

  module _ (buf : List ℕ) (k i s tc : ℕ) (left : i < limit) (found : tc ≡ tc_from w t s) where
    pub pulse_none : tc ≡ 0 → ToCome buf k i s → Written buf₀ at (words_of (pulses_items m c w 0 (pulses_from w t nsb nsa limit 0))) k buf
    unfolding pulses_items pulses_from
    pulse_none z l =
        let e : limit - i ≡ suc (limit - (i + 1)) = omega arith in
        loop_none buf₀ at (pulses_items m c w 0 (pulses_from w t nsb nsa limit 0)) fits buf k (rw (e, pulses_from, ← found, z, pulses_items) at l)

    module _ (some : tc ≡ 0 → ⊥) where
      turn : pulses_items m c w i (pulses_from w t nsb nsa (limit - i) s)
          ≡ pulse_items m c w i (pulse_at w t nsb nsa tc) ++ pulses_items m c w (i + 1) (pulses_from w t nsb nsa (limit - (i + 1)) (tc + nsa))
      unfolding pulses_items pulses_from
      turn =
          let e : limit - i ≡ suc (limit - (i + 1)) = omega arith in
          rw (e, pulses_from, ← found, ne_eqb tc 0 some, pulses_items)

      over : IsOver w t tc
      over = tc_over w t s tc found some

      pub pulse_less : (p : Pulse) → p ≡ cond (searchable (length w) nsa 0 && is_tc w t tc) (pulse_from m.integral w (base_if (m.high || m.pedestal) w t) nsb nsa tc) no_pulse
          → (k' : ℕ) (buf' : List ℕ) → WrittenIf (fits_in (length w) p) buf k (words_of (pulse_items m c w i p)) k' buf' → ToCome buf k i s → ToCome buf' k' (i + 1) (tc + nsa)
      pulse_less p hp k' buf' wr l =
          let can : searchable (length w) nsa 0 ≡ true = can_search _ _ _ (record { short = r.short; some = r.some; within = r.within; few = omega arith }) in
          let is : p ≡ pulse_from m.integral w (base_if (m.high || m.pedestal) w t) nsb nsa tc = rw (can, tc_is w t tc over) at hp in
          let same : pulse_items m c w i p ≡ pulse_items m c w i (pulse_at w t nsb nsa tc) = ap (pulse_items m c w i) is ∙ same_items m c w t nsb nsa tc i (base_time w t tc over) in
          let l' = rw turn at l in
          let room = loop_room buf₀ at (pulses_items m c w 0 (pulses_from w t nsb nsa limit 0)) fits buf k (pulse_items m c w i (pulse_at w t nsb nsa tc)) _ l' in
          let good : fits_in (length w) p ≡ true = rw is (fits_in_lem (length w) _ (from_fits _ (m.high || m.pedestal) w t nsb nsa tc over r.some) r.short) in
          loop_less buf₀ at (pulses_items m c w 0 (pulses_from w t nsb nsa limit 0)) fits buf k (pulse_items m c w i (pulse_at w t nsb nsa tc)) _ k' buf' l'
          (rw same at (put_written (pulse_items m c w i p) good (rw same room) wr))
