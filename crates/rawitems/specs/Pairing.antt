-- The pairs of a raw item, or the words of an event's scalers, in document 01's own numbers, and what the answer is in them. Assumes nothing.
use Rattle.std.specs.Prelude.{ℕ}
use Rattle.std.specs.declared.result.Result.{Result}
use Rattle.std.specs.declared.result.Result.TheVariants.{Ok, Err}
use Rattle.refusals.specs.Refusal.{number_of}
use Rattle.scan.specs.declared.Scan.{Scan}
use Rattle.reader.specs.declared.Refused.{Refused}

-- all of them and the scan behind, or a refusal's number and its place
pub data Pairing : Type 0 where
  All : ℕ → Scan → Pairing
  Bad : ℕ → ℕ → Pairing

abbrev pub pairing_of : Result (ℕ × Scan) Refused → Pairing
pairing_of (Ok all) = All all.0 all.1
pairing_of (Err r) = Bad (number_of r.refusal) r.place
