-- What reading on answers, in document 01's own numbers, and what the call's answer is in them. Assumes nothing.
use Rattle.std.specs.Prelude.{ℕ}
use Rattle.std.specs.declared.result.Result.{Result}
use Rattle.std.specs.declared.result.Result.TheVariants.{Ok, Err}
use Rattle.refusals.specs.Refusal.{number_of}
use Rattle.scan.specs.declared.Scan.{Scan}
use Rattle.reader.specs.declared.Refused as E
use Rattle.rawitems.specs.declared.Pairs.{Pairs}
use Rattle.records.specs.declared.answer.Record.{Record}
use Rattle.records.specs.declared.answer.Next as D
use Rattle.records.specs.declared.answer.Next.TheVariants as V

-- a record and the scan behind it, the block's end and its words, or a refusal's number and its place
pub data Next : Type 0 where
  Took : Record → Scan → Next
  End : ℕ → Next
  Refused : ℕ → ℕ → Next

abbrev pub next_of : Result D.Next E.Refused → Next
next_of (Ok (V.Took x u)) = Took x u
next_of (Ok (V.End words)) = End words
next_of (Err r) = Refused (number_of r.refusal) r.place

-- the record that is made of a raw item's place and count
abbrev pub part_next : (Pairs → Record) → Result (Pairs × Scan) E.Refused → Next
part_next make (Ok q) = Took (make q.0) q.1
part_next make (Err r) = Refused (number_of r.refusal) r.place
