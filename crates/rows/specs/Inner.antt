-- What private functions ask of a store; no public contract cites it. Assumes nothing.
use Rattle.std.specs.Prelude.{ℕ, ◌*◌, ◌≤◌, ◌≡◌, Bool, true, List, length}
use Rattle.limits.specs.Limits.{channels}
use Rattle.settings.specs.declared.Settings.{Settings}
use Rattle.settings.specs.Ranges.{settings_ok}

-- settings in range, a mark for each of up to sixteen channels, and a store that has sixteen rows
pub record Lent (s : Settings) (posted : List Bool) (store : List ℕ) : Type 0 where
  pub settings : settings_ok s ≡ true
  pub marks : length posted ≤ channels
  pub rows : channels * s.nw ≤ length store
