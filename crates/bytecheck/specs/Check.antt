-- The block check of the acquisition host: "It passes a block as bytes, big-endian, and gets one 64-bit number." Assumes nothing.
use Rattle.std.specs.Prelude.{ℕ, ◌+◌, ◌*◌, ◌%◌, ◌^◌, cond, List, eqb, length}
use Rattle.fields.specs.Bytes.{words_of_bytes}
use Rattle.refusals.specs.Refusal.{number_of}
use Rattle.refusals.specs.declared.Refusal.TheVariants.{Bytes}
use Rattle.reader.specs.Reader.{Out, Whole, Broken, check_from}
use Rattle.scan.specs.After.{start_of}

-- "refusal x 2^32 plus the place, or the words read"
abbrev pub number_of_out : Out → ℕ
number_of_out (Whole words) = words
number_of_out (Broken refusal place) = refusal * 2 ^ 32 + place

-- "for 16 the place is 0": a length that is no multiple of 4
unfoldable pub check_number : List ℕ → ℕ
check_number bytes = cond (eqb (length bytes % 4) 0) (number_of_out (check_from start_of (words_of_bytes bytes))) (number_of Bytes * 2 ^ 32)

-- a proof that computes opens this file and what it leans on by one name
unfoldable pub all_open : Unit {0}
unfolding check_number Rattle.fields.specs.Bytes.all_open Rattle.reader.specs.Reader.all_open Rattle.scan.specs.After.all_open
all_open = tt
