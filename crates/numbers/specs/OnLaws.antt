-- Numbers that are no settings are refused as what stands for none. Assumes nothing.
use Rattle.std.specs.Prelude.{ℕ, ◌≡◌, refl, Bool, true, false, cond, List}
use Rattle.std.proofs.Common.{arith}
use Rattle.settings.specs.declared.Settings.{Settings}
use Rattle.settings.specs.Ranges.{ranges, settings_ok}
use Rattle.refusals.specs.Refusal.{number_of}
use Rattle.refusals.specs.declared.Refusal.TheVariants as R
use Rattle.state.specs.State.{idle, blank}
use Rattle.places.specs.Places.{is_settings}
use Rattle.numbers.specs.Numbers.{settings_from, settings_or_none}
use Rattle.numbers.specs.On.{on_settings}

-- what stands for none is out of range
pub none_out : settings_ok blank.settings ≡ false
unfolding blank idle settings_ok ranges
none_out = refl

module _ (m : List ℕ) (number : Settings → ℕ) (none : number blank.settings ≡ number_of R.Setting) where
  -- so that numbers that are no settings are refused as it is
  pub settings_number : number (settings_or_none m) ≡ on_settings m (number (settings_from m))
  settings_number = go (is_settings m)
    where
      go : (b : Bool) → number (cond b (settings_from m) blank.settings) ≡ cond b (number (settings_from m)) (number_of R.Setting)
      go true = refl
      go false = none

  pub settings_accepted : number (settings_or_none m) ≡ 0 → is_settings m ≡ true
  settings_accepted e = go (is_settings m) e
    where
      go : (b : Bool) → number (cond b (settings_from m) blank.settings) ≡ 0 → b ≡ true
      go true p = refl
      go false p = absurd (omega (arith, p, none))
