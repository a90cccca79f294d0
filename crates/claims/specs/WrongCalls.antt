-- Demand 2: "A block that breaks the layout is refused at its first wrong word": the calls that answer a refusal and its place. Assumes nothing.
use Rattle.std.specs.Prelude.{ℕ, ◌%◌, ◌≡◌, Bool, not, List, ◌∷◌, eqb, length}
use Rattle.fields.specs.Bytes.{words_of_bytes}
use Rattle.scan.specs.declared.Scan.{Scan}
use Rattle.scan.specs.After.{start_of}
use Rattle.records.specs.declared.answer.Record.{Record}
use Rattle.records.specs.NextOf as N
use Rattle.records.specs.Next.{next_at}
use Rattle.layout.specs.Wrong.{questions, WrongAt, stop_of}

-- the C check: 16, "byte input: length no multiple of 4", "for 16 the place is 0"; else the first wrong word
pub data CheckWrong (bytes : List ℕ) : ℕ → ℕ → Type 0 where
  odd_length : (length bytes % 4 ≡ 0 → ⊥) → CheckWrong bytes 16 0
  wrong_word : {n p : ℕ} → length bytes % 4 ≡ 0 → WrongAt start_of (words_of_bytes bytes) n p → CheckWrong bytes n p

-- what it asks, in one table: 16, "byte input: length no multiple of 4", then what is asked where the reading stops
unfoldable pub check_questions : List ℕ → List (ℕ × Bool)
check_questions bytes =
    let t : Scan × List ℕ = stop_of start_of (words_of_bytes bytes) in
    (16, not (eqb (length bytes % 4) 0)) ∷ questions t.0 t.1

-- reading on with `next`, each call from the scan that the last one answered, to a refusal
pub data NextWrong (words : List ℕ) : Scan → ℕ → ℕ → Type 0 where
  refused : {s : Scan} {n p : ℕ} → next_at words s ≡ N.Refused n p → NextWrong words s n p
  took : {s t : Scan} (r : Record) {n p : ℕ} → next_at words s ≡ N.Took r t → NextWrong words t n p → NextWrong words s n p
