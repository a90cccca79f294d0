-- The number of a call on numbers that the host lends. Assumes nothing.
use Rattle.std.specs.Prelude.{ℕ, cond, List}
use Rattle.refusals.specs.Refusal.{number_of}
use Rattle.refusals.specs.declared.Refusal.TheVariants as R
use Rattle.places.specs.Places.{is_settings, is_state}

-- for those that are no state, "state breaks its ranges"
abbrev pub on_state : List ℕ → ℕ → ℕ
on_state n number = cond (is_state n) number (number_of R.State)

-- the same for settings: for numbers that are none, "a setting out of range"
abbrev pub on_settings : List ℕ → ℕ → ℕ
on_settings n number = cond (is_settings n) number (number_of R.Setting)
