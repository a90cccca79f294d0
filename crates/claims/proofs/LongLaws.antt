-- The lister's text without its limit: within the limit it is the lister's, and blocks follow each other. Assumes nothing.
use Rattle.std.specs.Prelude.{ℕ, zero, suc, ◌-◌, ◌*◌, ◌%◌, ◌≤◌, ◌≡◌, refl, Bool, true, false, ◌||◌, List, [], ◌∷◌, ◌++◌, length, take}
use Rattle.std.proofs.Common.{sym, ap, ap₂, ◌∙◌, append-nil, arith, eq-eqb, le-ltb}
use Rattle.fields.specs.Bytes.{bytes_of, word_of_bytes, words_of_bytes}
use Rattle.items.specs.declared.Item.{Item}
use Rattle.reader.specs.Reader.{Whole, Reading}
use Rattle.written.specs.Line.{Line, text_of}
use Rattle.written.specs.LineLaws.{text_append}
use Rattle.blocklines.specs.BlockLines.{block_lines}
use Rattle.listing.specs.Listing.{block_then, lines_from, cut_wrong, lines_unless, listing_of, long_listing_of}
use Rattle.layout.specs.NothingLost.{AllWords}
use Rattle.layout.specs.Grammar.{Tree, block, empty, records_of, Spelt, SpeltTree, Ends}
use Rattle.layout.proofs.ExactLaws.{spelt_length, alone, followed}
use Rattle.claims.specs.Bytes.{bytes_of_words}
use Rattle.claims.proofs.CheckLaws.{words_back, four}

-- ---- the limit

-- of at most 65,536 bytes both texts are the same
pub long_same : (bytes : List ℕ) → length bytes ≤ 65536 → long_listing_of bytes ≡ listing_of bytes
unfolding long_listing_of listing_of
long_same bytes h = ap (λ (b : Bool). text_of (lines_unless b bytes)) (go (cut_wrong (length bytes)) ∙ ap (λ (b : Bool). cut_wrong (length bytes) || b) (sym (le-ltb 65536 (length bytes) h)))
  where
    go : (b : Bool) → b ≡ (b || false)
    go true = refl
    go false = refl

-- ---- words and bytes

pub words_append : (us rest : List ℕ) → AllWords us → AllWords rest → AllWords (us ++ rest)
words_append [] rest a b = b
words_append (u ∷ us) rest a b = (a.0, words_append us rest a.1 b)

pub bytes_append : (us rest : List ℕ) → bytes_of_words (us ++ rest) ≡ bytes_of_words us ++ bytes_of_words rest
bytes_append [] rest = refl
bytes_append (u ∷ us) rest = ap (λ (l : List ℕ). bytes_of u ++ l) (bytes_append us rest)

pub words_cut : (n : ℕ) (bytes : List ℕ) → words_of_bytes (take (4 * n) bytes) ≡ take n (words_of_bytes bytes)
words_cut zero bytes = refl
words_cut (suc n) bytes = ap (λ (k : ℕ). words_of_bytes (take k bytes)) more ∙ go bytes (λ rest. words_cut n rest)
  where
    more : 4 * suc n ≡ suc (suc (suc (suc (4 * n))))
    more = omega arith

    go : (bytes : List ℕ) → ((rest : List ℕ) → words_of_bytes (take (4 * n) rest) ≡ take n (words_of_bytes rest)) → words_of_bytes (take (suc (suc (suc (suc (4 * n))))) bytes) ≡ take (suc n) (words_of_bytes bytes)
    go [] r = refl
    go (a ∷ []) r = refl
    go (a ∷ b ∷ []) r = refl
    go (a ∷ b ∷ c ∷ []) r = refl
    go (a ∷ b ∷ c ∷ d ∷ rest) r = ap (λ (l : List ℕ). word_of_bytes a b c d ∷ l) (r rest)

-- the text of whole words
pub long_whole : (bytes : List ℕ) → length bytes % 4 ≡ 0 → long_listing_of bytes ≡ text_of (lines_from 0 (words_of_bytes bytes))
unfolding long_listing_of lines_unless
long_whole bytes h = rw (eq-eqb (length bytes % 4) 0 h)

long_words : (ws : List ℕ) → AllWords ws → long_listing_of (bytes_of_words ws) ≡ text_of (lines_from 0 ws)
long_words ws a = long_whole (bytes_of_words ws) (omega (arith, four ws)) ∙ ap (λ (l : List ℕ). text_of (lines_from 0 l)) (words_back ws a)

-- ---- blocks one after another

skip_all : (us rest : List ℕ) → lines_from (length us) (us ++ rest) ≡ lines_from 0 rest
unfolding lines_from
skip_all [] rest = refl
skip_all (u ∷ us) rest = skip_all us rest

some_words : (t : Tree) → Spelt (records_of t) [] → ⊥
some_words (block b) p = p
some_words (empty r) p = p

lines_first : (us rest : List ℕ) (t : SpeltTree us) → Ends t.tree rest → lines_from 0 (us ++ rest) ≡ block_lines (record { items = records_of t.tree; out = Whole (length us) }) ++ lines_from 0 rest
unfolding lines_from
lines_first [] rest t e = absurd (some_words t.tree t.spelt)
lines_first (u ∷ us) rest t e =
    let xs : List Item = records_of t.tree in
    let all : Reading = record { items = xs; out = Whole (length (u ∷ us)) } in
    let k : length xs - 1 ≡ length us = omega (arith, spelt_length xs (u ∷ us) t.spelt) in
    ap (λ (r : Reading). block_then r (λ skip. lines_from skip (us ++ rest))) (followed (u ∷ us) rest t e)
    ∙ ap (λ (ls : List Line). block_lines all ++ ls) (ap (λ (n : ℕ). lines_from n (us ++ rest)) k ∙ skip_all us rest)

-- the lines of a block and of what follows it
pub lines_followed : (us rest : List ℕ) (t : SpeltTree us) → Ends t.tree rest → lines_from 0 (us ++ rest) ≡ lines_from 0 us ++ lines_from 0 rest
unfolding lines_from
lines_followed us rest t e =
    let own : List Line = block_lines (record { items = records_of t.tree; out = Whole (length us) }) in
    let is : lines_from 0 us ≡ own = ap (lines_from 0) (sym (append-nil us)) ∙ lines_first us [] t (alone t.tree) ∙ append-nil own in
    lines_first us rest t e ∙ ap (λ (ls : List Line). ls ++ lines_from 0 rest) (sym is)

-- "Blocks follow each other to the end of input": the text of a block's bytes, then that of the bytes behind it
pub long_followed : (us rest : List ℕ) → AllWords us → AllWords rest → (t : SpeltTree us) → Ends t.tree rest
    → long_listing_of (bytes_of_words us ++ bytes_of_words rest) ≡ long_listing_of (bytes_of_words us) ++ long_listing_of (bytes_of_words rest)
long_followed us rest a b t e =
    ap long_listing_of (sym (bytes_append us rest)) ∙ long_words (us ++ rest) (words_append us rest a b) ∙ ap text_of (lines_followed us rest t e)
    ∙ text_append (lines_from 0 us) (lines_from 0 rest) ∙ ap₂ (λ (x y : List ℕ). x ++ y) (sym (long_words us a)) (sym (long_words rest b))
