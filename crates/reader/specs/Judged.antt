-- The same with the word's record. Assumes nothing.
use Rattle.std.specs.Prelude.{ℕ, Option, Some, None}
use Rattle.std.specs.declared.result.Result.{Result}
use Rattle.std.specs.declared.result.Result.TheVariants.{Ok, Err}
use Rattle.refusals.specs.Refusal.{number_of}
use Rattle.items.specs.declared.Item.{Item}
use Rattle.scan.specs.declared.Scan.{Scan}
use Rattle.reader.specs.declared.Refused as D

pub data Judged : Type 0 where
  Took : Item → Scan → Judged
  Refused : ℕ → ℕ → Judged
  Ended : Judged

abbrev pub judged_of : Result (Option (Item × Scan)) D.Refused → Judged
judged_of (Ok (Some took)) = Took took.0 took.1
judged_of (Ok None) = Ended
judged_of (Err r) = Refused (number_of r.refusal) r.place
