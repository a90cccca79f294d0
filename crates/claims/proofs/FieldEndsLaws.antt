-- The words of a pulse hold what was measured, at the ends of their fields too. Assumes nothing.
use Rattle.std.specs.Prelude.{ℕ, ◌≤◌, ◌<◌, ◌≡◌, List, length, get_or}
use Rattle.std.proofs.Math.Path.{ap}
use Rattle.std.proofs.Math.Bool.{true}
use Rattle.std.proofs.Common.{arith}
use Rattle.limits.specs.Limits.{most_samples}
use Rattle.settings.specs.declared.Settings.{Settings}
use Rattle.finder.specs.declared.Pulse.{Pulse}
use Rattle.finder.specs.Find.{pulses_from, no_pulse}
use Rattle.finder.specs.RangeLaws.{PulseFits, fits_at, pulses_fit, pulses_count}
use Rattle.find.specs.Call.{find_number, channel_pulses}
use Rattle.find.specs.CallLaws.{Accepted, accepted}
use Rattle.measures.specs.declared.integral.PulseIntegral.{PulseIntegral}
use Rattle.measures.specs.declared.pedestal.PulsePedestal.{PulsePedestal}
use Rattle.measures.specs.declared.time.PulseTime.{PulseTime}
use Rattle.measures.specs.Words.{integral_of, time_of, pedestal_of}
use Rattle.measures.specs.WordsLaws.{integral_there, time_there, pedestal_there}
use Rattle.items.specs.Items.{word_of, fits}
use Rattle.pulse.specs.Pulse.{integral_item, time_item, pedestal_item}
use Rattle.claims.specs.WrittenLaws.{integral_made, time_made, pedestal_made}
use Rattle.claims.specs.FieldEnds.{PulseEnds}

module _ (c i n : ℕ) (p : Pulse) (k : c ≤ 15) (j : i ≤ 3) (m : n ≤ most_samples) (f : PulseFits n p) where
  ends : PulseEnds c i p
  unfolding word_of fits integral_item time_item pedestal_item integral_of time_of pedestal_of
  ends =
      let a = integral_there _ (integral_made c i p k j).widths.0 in
      let b = time_there _ (time_made true c i n p k j m f).widths.0 in
      let d = pedestal_there _ (pedestal_made c i n p k j f).widths.0 in
      record {
        integral = record { written = ap (λ (r : PulseIntegral). r.sum) a; quality = ap (λ (r : PulseIntegral). r.quality) a };
        time = record { coarse_held = ap (λ (r : PulseTime). r.coarse) b; fine_held = ap (λ (r : PulseTime). r.fine) b };
        pedestal = record { cut = ap (λ (r : PulsePedestal). r.vmin) d; peak = ap (λ (r : PulsePedestal). r.vpeak) d };
      }

-- every pulse of every window that is not refused, with any settings, on any channel
pub field_ends : (s : Settings) (c : ℕ) (w : List ℕ) (i : ℕ) → find_number s c w ≡ 0 → i < length (channel_pulses s c w) → PulseEnds c i (get_or (channel_pulses s c w) i no_pulse)
unfolding channel_pulses
field_ends s c w i h l =
    let a : Accepted s c w = accepted s c w h in
    let t : ℕ = get_or s.thresholds c 0 in
    let few = pulses_count w t s.nsb s.nsa s.limit 0 in
    ends c i (length w) _ a.channel (omega (arith, few, a.settings.limit.1)) (omega (arith, a.long, a.settings.nw.1))
    (fits_at (length w) (pulses_from w t s.nsb s.nsa s.limit 0) i no_pulse (pulses_fit w t s.nsb s.nsa s.limit 0 a.settings.nsa.0) l)
