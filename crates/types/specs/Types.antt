-- Document 01, "The words", by the number of a type: whether the list has it, whether it has a slot, what its words show zero. Assumes nothing.
use Rattle.std.specs.Prelude.{ℕ, ◌≡◌, Bool, true, cond, List, [], ◌∷◌, eqb}
use Rattle.std.specs.Int.Bits.{bit_and}
use Rattle.ground.specs.Tests.{one_of}
use Rattle.framing.specs.Words.{scalers_fixed}
use Rattle.raw.specs.Words.{window_fixed, pulse_raw_fixed}
use Rattle.measures.specs.Words.{time_fixed}
use Rattle.types.specs.declared.Row.{Row}

-- "0 block header" to "15 filler", and 02's type 12
abbrev pub listed : List ℕ
listed = 0 ∷ 1 ∷ 2 ∷ 3 ∷ 4 ∷ 6 ∷ 7 ∷ 8 ∷ 10 ∷ 12 ∷ 14 ∷ 15 ∷ []

abbrev pub is_allowed : ℕ → Bool
is_allowed type = one_of type listed

-- "26-22 slot"
abbrev pub slotted : List ℕ
slotted = 0 ∷ 1 ∷ 2 ∷ 14 ∷ 15 ∷ []

abbrev pub has_slot : ℕ → Bool
has_slot type = one_of type slotted

-- "22-12 zero", "20-10 zero", "18-15 zero", 02: "bits 26-6 zero"; of any other type no bit is asked
abbrev pub zeros_clear : ℕ → ℕ → Bool
zeros_clear type word =
    cond (eqb type 4) (window_fixed word) (cond (eqb type 6) (pulse_raw_fixed word) (cond (eqb type 8) (time_fixed word) (cond (eqb type 12) (scalers_fixed word) true)))

-- a row says of its type what these say
pub record RowSays (type : ℕ) (row : Row) : Type 0 where
  pub allowed : row.0 ≡ is_allowed type
  pub slot : row.1 ≡ has_slot type
  pub zeros : (word : ℕ) → eqb (bit_and word row.2) 0 ≡ zeros_clear type word
