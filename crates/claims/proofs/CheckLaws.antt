-- Demand 2 over the C check: a block made by our calls, passed as bytes, gets its length as the number. Assumes nothing.
use Rattle.std.specs.Prelude.{ℕ, zero, suc, ◌*◌, ◌%◌, ◌≡◌, refl, Bool, cond, List, [], ◌∷◌, length, take}
use Rattle.std.proofs.Common.{ap, ap₂, ◌∙◌, arith, eq-eqb}
use Rattle.refusals.specs.Refusal.{told}
use Rattle.fields.specs.Bytes.{words_of_bytes}
use Rattle.fields.proofs.BytesLaws.{bytes_back}
use Rattle.items.specs.declared.Item.{Item}
use Rattle.scan.specs.After.{start_of}
use Rattle.reader.specs.Reader.{check_from}
use Rattle.bytecheck.specs.Check.{number_of_out, check_number}
use Rattle.state.specs.declared.State.{State}
use Rattle.writer.specs.Answer.{Finished}
use Rattle.writer.specs.Calls.{FinishSays}
use Rattle.layout.specs.NothingLost.{AllWords}
use Rattle.claims.specs.Bytes.{bytes_of_words}
use Rattle.claims.specs.Run.{Run}
use Rattle.claims.proofs.RunLaws.{run_checks}

pub words_back : (ws : List ℕ) → AllWords ws → words_of_bytes (bytes_of_words ws) ≡ ws
words_back [] h = refl
words_back (w ∷ ws) h = ap₂ (λ (v : ℕ) (l : List ℕ). v ∷ l) (bytes_back w h.0) (words_back ws h.1)

pub four : (ws : List ℕ) → length (bytes_of_words ws) ≡ 4 * length ws
four [] = refl
four (w ∷ ws) = omega (arith, four ws)

words_take : (n : ℕ) (ws : List ℕ) → AllWords ws → AllWords (take n ws)
words_take zero ws h = tt
words_take (suc n) [] h = tt
words_take (suc n) (w ∷ ws) h = (h.0, words_take n ws h.1)

-- the number of the bytes is that of the words
pub check_bytes : (ws : List ℕ) → AllWords ws → check_number (bytes_of_words ws) ≡ number_of_out (check_from start_of ws)
unfolding check_number
check_bytes ws h =
    let z : length (bytes_of_words ws) % 4 ≡ 0 = omega (arith, four ws) in
    ap (λ (b : Bool). cond b (number_of_out (check_from start_of (words_of_bytes (bytes_of_words ws)))) (16 * 4294967296)) (eq-eqb _ _ z)
    ∙ ap (λ (l : List ℕ). number_of_out (check_from start_of l)) (words_back ws h)

-- any run of calls, then an accepted finish; the buffer holds 32-bit words
pub run_checked : {s : State} {words : List ℕ} {xs : List Item} → Run s words xs → (f : Finished) (words' : List ℕ) → FinishSays s words f words' → told f.refusal ≡ 0
    → AllWords words' → check_number (bytes_of_words (take f.length words')) ≡ f.length
run_checked run f words' h e w =
    check_bytes (take f.length words') (words_take f.length words' w) ∙ ap number_of_out (run_checks run f words' h e)
