-- What one word does, in document 01's own numbers, and what the step's answer is in them. Assumes nothing.
use Rattle.std.specs.Prelude.{ℕ, Option, Some, None}
use Rattle.std.specs.declared.result.Result.{Result}
use Rattle.std.specs.declared.result.Result.TheVariants.{Ok, Err}
use Rattle.refusals.specs.Refusal.{number_of}
use Rattle.items.specs.declared.Form.{Form}
use Rattle.scan.specs.declared.Scan.{Scan}
use Rattle.reader.specs.declared.Refused as D

-- it is of that form and the scan goes on, it is refused with a number at its place, or the block ends before it
pub data Step : Type 0 where
  Went : Form → Scan → Step
  Refused : ℕ → ℕ → Step
  Ended : Step

abbrev pub step_of : Result (Option (Form × Scan)) D.Refused → Step
step_of (Ok (Some went)) = Went went.0 went.1
step_of (Ok None) = Ended
step_of (Err r) = Refused (number_of r.refusal) r.place
