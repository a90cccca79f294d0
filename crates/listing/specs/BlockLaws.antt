-- Blocks one after another. Assumes nothing.
use Rattle.std.specs.Prelude.{ℕ, zero, suc, ◌-◌, ◌*◌, ◌≤◌, ◌<◌, ◌≡◌, refl, Bool, true, false, take, drop}
use Rattle.std.proofs.Common.{sym, ◌∙◌, arith}
use Rattle.std.proofs.Math.Path.{ap}
use Rattle.std.proofs.Math.Bool.{cond}
use mathlib.Core.List.{List, [], ◌∷◌, ◌++◌, append-nil}
use Rattle.std.proofs.Math.ListN.{length, length-drop}
use Rattle.fields.specs.Bytes.{words_of_bytes}
use Rattle.fields.proofs.BytesLaws.{words_none, words_some, words_drop, words_le}
use Rattle.scan.specs.After.{start_of}
use Rattle.reader.specs.Reader.{Reading, read_from}
use Rattle.reader.specs.RunLaws.{items_le}
use Rattle.written.specs.Page.{Page, put}
use Rattle.written.specs.PageLaws.{put_append}
use Rattle.written.specs.Line.{Line, text_of}
use Rattle.written.specs.LineLaws.{text_append}
use Rattle.blocklines.specs.declared.Block.{Block}
use Rattle.blocklines.specs.BlockLines.{is_whole, block_lines, ReadingSays}
use Rattle.entries.specs.AheadLaws.{tail_is}
use Rattle.blocklines.specs.BlockLaws.{whole_some}
use Rattle.listing.specs.Listing.{lines_from}

skipped : (n : ℕ) (words : List ℕ) → lines_from n words ≡ lines_from 0 (drop n words)
unfolding lines_from
skipped zero words = refl
skipped (suc n) [] = refl
skipped (suc n) (word ∷ words) = skipped n words

-- the lines of an input are those of its first block, and of what stands behind it
blocks_cons : (word : ℕ) (words : List ℕ) → let r = read_from start_of (word ∷ words) in lines_from 0 (word ∷ words) ≡ block_lines r ++ cond (is_whole r.out) (lines_from 0 (drop (length r.items) (word ∷ words))) []
unfolding lines_from
blocks_cons word words = go (is_whole r.out) (length r.items) (whole_some word words)
  where
    r : Reading
    r = read_from start_of (word ∷ words)

    go : (b : Bool) (n : ℕ) → (b ≡ true → 0 < n) → block_lines r ++ cond b (lines_from (n - 1) words) [] ≡ block_lines r ++ cond b (lines_from 0 (drop n (word ∷ words))) []
    go true zero h = absurd (omega (arith, h refl))
    go true (suc n) h = ap (λ (ls : List Line). block_lines r ++ ls) (ap (λ (k : ℕ). lines_from k words) (omega arith) ∙ skipped n words)
    go false n h = refl

-- no word is left
pub blocks_none : (bytes : List ℕ) → length bytes < 4 → lines_from 0 (words_of_bytes bytes) ≡ []
unfolding lines_from
blocks_none bytes h = ap (lines_from 0) (words_none bytes h)

-- the first block of the bytes is listed
module _ (bytes : List ℕ) (h : 4 ≤ length bytes) where
  here : Reading
  here = read_from start_of (words_of_bytes bytes)

  blocks_at : lines_from 0 (words_of_bytes bytes) ≡ block_lines here ++ cond (is_whole here.out) (lines_from 0 (words_of_bytes (drop (4 * length here.items) bytes))) []
  unfolding here
  blocks_at = first ∙ ap (λ (l : List ℕ). block_lines here ++ cond (is_whole here.out) (lines_from 0 l) []) (sym (words_drop (length here.items) bytes))
    where
      first : lines_from 0 (words_of_bytes bytes) ≡ block_lines here ++ cond (is_whole here.out) (lines_from 0 (drop (length here.items) (words_of_bytes bytes))) []
      first = rw (words_some bytes h) (blocks_cons _ _)

  -- it has a word where it is whole, and lies in the bytes
  some : is_whole here.out ≡ true → 0 < length here.items
  unfolding here
  some = rw (words_some bytes h) (whole_some _ _)

  module _ {text : List ℕ} {k : ℕ} {b : Block} {text' : List ℕ} (told : ReadingSays text k (read_from start_of (words_of_bytes bytes)) b text') where
    pub block_within : b.bytes ≤ length bytes
    block_within = omega (arith, told.taken, items_le start_of (words_of_bytes bytes), words_le bytes)

    abbrev behind : List ℕ
    behind = take (length bytes - b.bytes) (drop b.bytes bytes)

    pub block_shorter : b.whole ≡ true → length behind < length bytes
    unfolding here
    block_shorter e = omega (arith, told.taken, some (sym told.ended ∙ e), block_within, ap length (tail_is bytes b.bytes), length-drop b.bytes bytes)

    pub block_next : b.whole ≡ true → put (text, k) (text_of (lines_from 0 (words_of_bytes bytes))) ≡ put (text', b.at) (text_of (lines_from 0 (words_of_bytes behind)))
    unfolding here
    block_next e =
        let rest = lines_from 0 (words_of_bytes (drop b.bytes bytes)) in
        ap (λ (ls : List Line). put (text, k) (text_of ls)) (blocks_at ∙ rw (sym told.ended ∙ e, ← told.taken))
        ∙ ap (put (text, k)) (text_append (block_lines here) rest)
        ∙ put_append (text, k) (text_of (block_lines here)) (text_of rest)
        ∙ ap (λ (q : Page). put q (text_of rest)) (sym told.page)
        ∙ ap (λ (l : List ℕ). put (text', b.at) (text_of (lines_from 0 (words_of_bytes l)))) (sym (tail_is bytes b.bytes))

    pub block_last : b.whole ≡ false → ◌≡◌ {A = Page} (text', b.at) (put (text, k) (text_of (lines_from 0 (words_of_bytes bytes))))
    unfolding here
    block_last e = told.page ∙ ap (λ (ls : List Line). put (text, k) (text_of ls)) (sym (blocks_at ∙ rw (sym told.ended ∙ e) (append-nil (block_lines here))))
