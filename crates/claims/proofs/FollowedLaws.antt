-- Blocks one after another: what the C check and the lister make of a block that is followed by other words. Assumes nothing.
use Rattle.std.specs.Prelude.{ℕ, ◌+◌, ◌*◌, ◌%◌, ◌^◌, ◌≤◌, ◌<◌, ◌≡◌, refl, Bool, true, false, cond, List, [], ◌∷◌, ◌++◌, ◌↔◌, eqb, length, take, drop}
use Rattle.std.proofs.Common.{sym, ap, ap₂, ◌∙◌, arith, eqb-true, eq-eqb, length-append, length-drop, take-append-drop, length-take-le}
use Rattle.fields.specs.Bytes.{words_of_bytes}
use Rattle.fields.proofs.BytesLaws.{words_drop, words_le}
use Rattle.scan.specs.After.{start_of}
use Rattle.reader.specs.Reader.{Out, Whole, Broken, Reading, read_from, check_from}
use Rattle.reader.specs.RunLaws.{check_reads}
use Rattle.bytecheck.specs.Check.{number_of_out, check_number}
use Rattle.written.specs.Line.{text_of}
use Rattle.written.specs.LineLaws.{text_append}
use Rattle.listing.specs.Listing.{lines_from, listing_of, long_listing_of}
use Rattle.layout.specs.NothingLost.{AllWords}
use Rattle.layout.specs.Grammar.{SpeltTree, Ends, Front}
use Rattle.layout.proofs.WrongLaws.{first_wrong}
use Rattle.layout.proofs.ExactLaws.{followed, accepted_exactly}
use Rattle.claims.specs.Bytes.{bytes_of_words}
use Rattle.claims.proofs.CheckLaws.{four, check_bytes}
use Rattle.claims.proofs.LongLaws.{long_same, words_append, bytes_append, words_cut, long_whole, lines_followed, long_followed}

-- ---- the C check

bytes_words : (bytes : List ℕ) → AllWords (words_of_bytes bytes)
bytes_words [] = tt
bytes_words (a ∷ []) = tt
bytes_words (a ∷ b ∷ []) = tt
bytes_words (a ∷ b ∷ c ∷ []) = tt
bytes_words (a ∷ b ∷ c ∷ d ∷ bytes) = (omega arith, bytes_words bytes)

-- its number is one of words exactly if the bytes are whole words, and the first so many are a block that ends there
pub check_exactly : (bytes : List ℕ) (n : ℕ) → n < 2 ^ 32 → (check_number bytes ≡ n) ↔ ((length bytes % 4 ≡ 0) × Front (words_of_bytes bytes) n)
unfolding check_number
check_exactly bytes n small = (there (eqb (length bytes % 4) 0) refl, back)
  where
    ws : List ℕ
    ws = words_of_bytes bytes

    by_out : (o : Out) → (read_from start_of ws).out ≡ o → number_of_out o ≡ n → (read_from start_of ws).out ≡ Whole n
    by_out (Whole k) q e = q ∙ ap Whole e
    by_out (Broken m k) q e =
        let some : m ≡ 0 → ⊥ = ((first_wrong ws m k).0 q).some in
        absurd (omega (arith, some, e, small))

    there : (b : Bool) → eqb (length bytes % 4) 0 ≡ b → cond b (number_of_out (check_from start_of ws)) (16 * 2 ^ 32) ≡ n → (length bytes % 4 ≡ 0) × Front ws n
    there true h e = (eqb-true _ 0 h, (accepted_exactly ws n (bytes_words bytes)).0 (by_out (check_from start_of ws) (check_reads start_of ws) e))
    there false h e = absurd (omega (arith, e, small))

    back : (length bytes % 4 ≡ 0) × Front ws n → cond (eqb (length bytes % 4) 0) (number_of_out (check_from start_of ws)) (16 * 2 ^ 32) ≡ n
    back (h, f) = rw (eq-eqb _ 0 h) (ap number_of_out (sym (check_reads start_of ws) ∙ (accepted_exactly ws n (bytes_words bytes)).1 f))

-- a block's bytes and others behind: its own length
pub check_followed : (us rest : List ℕ) → AllWords us → AllWords rest → (t : SpeltTree us) → Ends t.tree rest → check_number (bytes_of_words us ++ bytes_of_words rest) ≡ length us
check_followed us rest a b t e =
    ap check_number (sym (bytes_append us rest)) ∙ check_bytes (us ++ rest) (words_append us rest a b)
    ∙ ap number_of_out (sym (check_reads start_of (us ++ rest)) ∙ ap (λ (r : Reading). r.out) (followed us rest t e))

-- ---- the lister

-- "Blocks follow each other to the end of input": the text of a block's bytes, then that of the bytes behind it, within the lister's 65,536 bytes
pub listing_followed : (us rest : List ℕ) → AllWords us → AllWords rest → length us + length rest ≤ 16384 → (t : SpeltTree us) → Ends t.tree rest
    → listing_of (bytes_of_words us ++ bytes_of_words rest) ≡ listing_of (bytes_of_words us) ++ listing_of (bytes_of_words rest)
listing_followed us rest a b l t e =
    sym (long_same (bytes_of_words us ++ bytes_of_words rest) (omega (arith, length-append (bytes_of_words us) (bytes_of_words rest), four us, four rest)))
    ∙ long_followed us rest a b t e
    ∙ ap₂ (λ (x y : List ℕ). x ++ y) (long_same (bytes_of_words us) (omega (arith, four us))) (long_same (bytes_of_words rest) (omega (arith, four rest)))

-- the text of a block that the C check accepts, then that of the bytes behind it: a file may be listed block by block, cut where the check says
pub long_cut : (bytes : List ℕ) (n : ℕ) → n < 2 ^ 32 → check_number bytes ≡ n → long_listing_of bytes ≡ long_listing_of (take (4 * n) bytes) ++ long_listing_of (drop (4 * n) bytes)
long_cut bytes n small e =
    let ws : List ℕ = words_of_bytes bytes in
    let x = (check_exactly bytes n small).0 e in
    let f : Front ws n = x.1 in
    let fours : length bytes % 4 ≡ 0 = x.0 in
    let k : 4 * n ≤ length bytes = omega (arith, f.within, words_le bytes) in
    let first : long_listing_of (take (4 * n) bytes) ≡ text_of (lines_from 0 (take n ws)) = long_whole (take (4 * n) bytes) (omega (arith, length-take-le (4 * n) bytes k)) ∙ ap (λ (l : List ℕ). text_of (lines_from 0 l)) (words_cut n bytes) in
    let rest : long_listing_of (drop (4 * n) bytes) ≡ text_of (lines_from 0 (drop n ws)) = long_whole (drop (4 * n) bytes) (omega (arith, length-drop (4 * n) bytes)) ∙ ap (λ (l : List ℕ). text_of (lines_from 0 l)) (words_drop n bytes) in
    long_whole bytes fours
    ∙ ap (λ (l : List ℕ). text_of (lines_from 0 l)) (sym (take-append-drop n ws))
    ∙ ap text_of (lines_followed (take n ws) (drop n ws) f.first f.ends)
    ∙ text_append (lines_from 0 (take n ws)) (lines_from 0 (drop n ws))
    ∙ ap₂ (λ (x y : List ℕ). x ++ y) (sym first) (sym rest)
