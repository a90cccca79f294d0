-- Demand 2: "A block that breaks the layout is refused at its first wrong word", both ways, for the C check, and for `next`. Assumes nothing.
use Rattle.std.specs.Prelude.{ℕ, ◌+◌, ◌-◌, ◌*◌, ◌/◌, ◌%◌, ◌^◌, ◌<◌, ◌≡◌, refl, Bool, true, false, not, cond, List, [], ◌∷◌, ◌↔◌, eqb, length, drop}
use Rattle.std.proofs.Common.{sym, ap, ap₂, ◌∙◌, subst, arith, eqb-true, eq-eqb, ne_eqb, drop-drop}
use Rattle.std.proofs.lemmas.Bool.{eqb-false}
use Rattle.ground.specs.Tests.{first_of}
use Rattle.fields.specs.Bytes.{words_of_bytes}
use Rattle.items.specs.declared.Item.{Item}
use Rattle.scan.specs.declared.Scan.{Scan}
use Rattle.scan.specs.After.{start_of}
use Rattle.reader.specs.Reader.{Out, Whole, Broken, out_of, Reading, read_from, check_from}
use Rattle.reader.specs.RunLaws.{before, check_reads}
use Rattle.records.specs.NextOf as N
use Rattle.records.specs.Next.{next_at}
use Rattle.records.specs.NextLaws.{Taken, SaysNext, next_says}
use Rattle.bytecheck.specs.Check.{number_of_out, check_number}
use Rattle.layout.specs.FirstWrong.{place_of, place_counts, place_small}
use Rattle.layout.specs.Wrong.{questions, stop_of, WrongAt, WrongBy}
use Rattle.layout.proofs.WrongLaws.{wrong_from, first_wrong, stop_says}
use Rattle.claims.specs.Tables.{Exactly, exactly}
use Rattle.claims.specs.WrongCalls.{check_questions, CheckWrong, odd_length, wrong_word, NextWrong, refused, took}

-- ---- the C check

-- its number is a refusal's and a place exactly if they are the first wrong word's, or 16 and 0
pub check_wrong : (bytes : List ℕ) (n p : ℕ) → (n ≡ 0 → ⊥) → p < 2 ^ 32 → (check_number bytes ≡ n * 2 ^ 32 + p) ↔ CheckWrong bytes n p
unfolding check_number
check_wrong bytes n p some small = (there (eqb (length bytes % 4) 0) refl, back)
  where
    ws : List ℕ
    ws = words_of_bytes bytes

    by_out : length bytes % 4 ≡ 0 → (o : Out) → (read_from start_of ws).out ≡ o → place_of o < 2 ^ 32 - 1 → number_of_out o ≡ n * 2 ^ 32 + p → CheckWrong bytes n p
    by_out h (Whole k) q l e = absurd (omega (arith, some, l, e))
    by_out h (Broken m k) q l e =
        let i : m ≡ n = omega (arith, l, small, e) in
        let j : k ≡ p = omega (arith, l, small, e) in
        wrong_word h ((first_wrong ws n p).0 (q ∙ ap₂ (λ (a b : ℕ). Broken a b) i j))

    there : (b : Bool) → eqb (length bytes % 4) 0 ≡ b → cond b (number_of_out (check_from start_of ws)) (16 * 2 ^ 32) ≡ n * 2 ^ 32 + p → CheckWrong bytes n p
    there true h e = by_out (eqb-true _ 0 h) (check_from start_of ws) (check_reads start_of ws) (subst (λ (o : Out). place_of o < 2 ^ 32 - 1) (check_reads start_of ws) (place_small ws)) e
    there false h e =
        let i : 16 ≡ n = omega (arith, small, e) in
        let j : 0 ≡ p = omega (arith, small, e) in
        subst (λ (a : ℕ). CheckWrong bytes a p) i (subst (CheckWrong bytes 16) j (odd_length (eqb-false _ 0 h)))

    back : {m k : ℕ} → CheckWrong bytes m k → cond (eqb (length bytes % 4) 0) (number_of_out (check_from start_of ws)) (16 * 2 ^ 32) ≡ m * 2 ^ 32 + k
    back (odd_length h) = rw (ne_eqb _ 0 h)
    back (wrong_word h a) = rw (eq-eqb _ 0 h) (ap number_of_out (sym (check_reads start_of ws) ∙ (first_wrong ws _ _).1 a))

-- 16, and 11 to 15: the refusal in its number is the first of the table's rows that holds
pub check_refusal_exactly : (bytes : List ℕ) → Exactly (check_questions bytes) (check_number bytes / 2 ^ 32)
unfolding check_number check_questions first_of
check_refusal_exactly bytes = exactly (check_questions bytes) (go (eqb (length bytes % 4) 0))
  where
    ws : List ℕ
    ws = words_of_bytes bytes

    t : Scan × List ℕ
    t = stop_of start_of ws

    n : ℕ
    n = first_of (questions t.0 t.1)

    high : (p : ℕ) → check_from start_of ws ≡ out_of n p → place_of (out_of n p) < 2 ^ 32 - 1 → number_of_out (check_from start_of ws) / 2 ^ 32 ≡ n
    high p e l = ap (λ (o : Out). number_of_out o / 2 ^ 32) e ∙ by (eqb n 0) refl l
      where
        by : (b : Bool) → eqb n 0 ≡ b → place_of (cond b (Whole p) (Broken n p)) < 2 ^ 32 - 1 → number_of_out (cond b (Whole p) (Broken n p)) / 2 ^ 32 ≡ n
        by true h l = omega (arith, eqb-true n 0 h)
        by false h l = omega arith

    go : (b : Bool) → cond b (number_of_out (check_from start_of ws)) (16 * 2 ^ 32) / 2 ^ 32 ≡ cond (not b) 16 n
    go true =
        let e : check_from start_of ws ≡ out_of n t.0.place = sym (check_reads start_of ws) ∙ stop_says start_of ws in
        high t.0.place e (subst (λ (o : Out). place_of o < 2 ^ 32 - 1) (stop_says start_of ws) (place_small ws))
    go false = refl

-- ---- record by record

before_says : (xs : List Item) (r : Reading) → ((before xs r).out ≡ r.out) × (length (before xs r).items ≡ length xs + length r.items)
before_says [] r = (refl, omega arith)
before_says (x ∷ xs) r = let i = before_says xs r in (i.0, omega (arith, i.1))

-- each record that `next` takes leaves how the run ends
next_ends : (words : List ℕ) {s : Scan} {n p : ℕ} → NextWrong words s n p → (o : Out) → (read_from s (drop s.place words)).out ≡ o → place_of o < 2 ^ 32 - 1 → o ≡ Broken n p
unfolding next_at
next_ends words {s} {n} {p} (refused e) o q l = sym q ∙ subst (SaysNext s (drop s.place words)) e (next_says s (drop s.place words))
next_ends words (took {s} {t} r {n} {p} e rest) o q l =
    let ws : List ℕ = drop s.place words in
    let k : Taken s ws r t = subst (SaysNext s ws) e (next_says s ws) in
    let behind : Reading = read_from t (drop (length k.items) ws) in
    let parts = before_says k.items behind in
    let out : behind.out ≡ o = sym parts.0 ∙ ap (λ (r : Reading). r.out) (sym k.run) ∙ q in
    let count : length (read_from s ws).items ≡ length k.items + length behind.items = ap (λ (r : Reading). length r.items) k.run ∙ parts.1 in
    let here : place_of o ≡ s.place + length (read_from s ws).items = rw q at (place_counts s ws (rw q l)) in
    let there : place_of o ≡ t.place + length behind.items = rw out at (place_counts t (drop (length k.items) ws) (rw out l)) in
    let place : s.place + length k.items ≡ t.place = omega (arith, here, there, count) in
    let at : drop (length k.items) ws ≡ drop t.place words = drop-drop (length k.items) s.place words ∙ ap (λ (i : ℕ). drop i words) place in
    next_ends words rest o (ap (λ (l : List ℕ). (read_from t l).out) (sym at) ∙ out) l

-- a refusal that `next` comes to is the first wrong word
pub next_wrong : (words : List ℕ) (n p : ℕ) → NextWrong words start_of n p → WrongAt start_of words n p
next_wrong words n p a = (first_wrong words n p).0 (next_ends words a _ refl (place_small words))

-- and at any one call, from a forged scan too
pub next_refused : (words : List ℕ) (s : Scan) (n p : ℕ) → next_at words s ≡ N.Refused n p → WrongBy s (drop s.place words) n p
unfolding next_at
next_refused words s n p e = (wrong_from s (drop s.place words) n p).0 (subst (SaysNext s (drop s.place words)) e (next_says s (drop s.place words)))
