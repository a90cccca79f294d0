-- The finder as C calls it: settings are numbers that the host lends, and what is found is stored as numbers. Assumes nothing.
use Rattle.std.specs.Prelude.{ℕ, ◌+◌, ◌*◌, ◌≡◌, cond, List, [], ◌∷◌, ◌++◌, ltb, length, get_or, replicate}
use Rattle.ground.specs.Splice.{splice}
use Rattle.refusals.specs.Refusal.{bad_array, if_accepted, or_else}
use Rattle.finder.specs.declared.Pulse.{Pulse}
use Rattle.finder.specs.declared.Pulses.{Pulses}
use Rattle.timing.specs.Time.{rule_number}
use Rattle.finder.specs.Find.{no_pulse, packed}
use Rattle.find.specs.Call.{find_number, found_pulses}
use Rattle.numbers.specs.Numbers.{settings_from}
use Rattle.numbers.specs.On.{on_settings}

-- TC, first, last, sum before the cap, coarse, fine, VMIN, VPEAK, and the rule that gave the time
unfoldable pub pulse_numbers : Pulse → List ℕ
pulse_numbers p =
    p.tc ∷ p.first ∷ p.last ∷ p.sum ∷ p.time.coarse ∷ p.time.fine ∷ p.time.vmin ∷ p.time.vpeak ∷ rule_number p.time.rule ∷ []

-- how many they are
abbrev pub pulse_count : ℕ
pulse_count = 9

-- the numbers of a place, zeros past the count
unfoldable pub pulse_row : Pulses → ℕ → List ℕ
pulse_row found i = cond (ltb i found.count) (pulse_numbers (get_or found.pulses i no_pulse)) (replicate pulse_count 0)

-- the count, then the numbers of three places
abbrev pub found_count : ℕ
found_count = 1 + 3 * pulse_count

unfoldable pub found_numbers : Pulses → List ℕ
found_numbers found = found.count ∷ (pulse_row found 0 ++ (pulse_row found 1 ++ pulse_row found 2))

-- fewer lent stay; a refused call leaves zeros, "and then no pulses", so that no older window's are taken for this one's; what is past them stays
pub record FindFace (settings : List ℕ) (c : ℕ) (w out : List ℕ) (r : ℕ) (out' : List ℕ) : Type 0 where
  pub number : r ≡ or_else (on_settings settings (find_number (settings_from settings) c w)) (cond (ltb (length out) found_count) bad_array 0)
  pub numbers : out'
      ≡ cond (ltb (length out) found_count) out (splice out 0 (if_accepted r (found_numbers (packed (found_pulses (settings_from settings) c w))) (replicate found_count 0)))
