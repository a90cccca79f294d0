-- What stands for C where there is no record. Assumes nothing.
use Rattle.std.specs.Prelude.{ℕ, List, ◌∷◌, replicate}

-- how many numbers a record is: its kind, then its fields, each kind's at places of their own, the others 0
abbrev pub record_count : ℕ
record_count = 6

-- the kind of the block's end, which is no record's
abbrev pub end_kind : ℕ
end_kind = 16

-- at the block's end
abbrev pub end_numbers : List ℕ
end_numbers = end_kind ∷ replicate 5 0

-- for a refused call
abbrev pub no_numbers : List ℕ
no_numbers = replicate record_count 0
