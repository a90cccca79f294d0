-- Samples taken two by two, how many pairs they are, and the word of two. Assumes nothing.
use Rattle.std.specs.Prelude.{ℕ, suc, ◌+◌, ◌*◌, ◌/◌, ◌≤◌, ◌<◌, ◌≡◌, refl, Bool, true, false, cond, List, [], ◌∷◌, length, drop, get_or}
use Rattle.std.specs.Simd.{first_chunks}
use Rattle.std.proofs.Common.{sym, ◌∙◌, arith, drop-cons}
use Rattle.ground.specs.ChunkLaws.{chunk_at}
use Rattle.std.specs.Int.Bits.{bit_and}
use Rattle.std.proofs.lemmas.Nat.{and_block, and_mask}
use Rattle.limits.specs.Limits.{most_samples, pairs_of, most_raw}
use Rattle.limits.proofs.LimitsLaws.{pairs_is, pairs_most, raw_is}
use Rattle.raw.specs.Words as Raw
use Rattle.items.specs.Items.{word_of}
use Rattle.items.specs.declared.Item.{Item}
use Rattle.items.specs.declared.Item.TheVariants as I
use Rattle.pairs.specs.Pairs.{pair_items}

abbrev pub pair : ℕ → ℕ → ℕ → Item
pair n x y = I.Pair (record { nofirst = 0; first = x; nosecond = n; second = y })

-- the i-th chunk of two is the next pair
pub pairs_two : (w : List ℕ) (chunks : List (List ℕ)) (i : ℕ) → chunks ≡ first_chunks 2 (length w / 2) w → i < length w / 2
    → pair_items (drop (i * 2) w) ≡ pair 0 (get_or (get_or chunks i []) 0 0) (get_or (get_or chunks i []) 1 0) ∷ pair_items (drop ((i + 1) * 2) w)
pairs_two w chunks i e h =
    let first : i * 2 < length w = omega arith in
    let second : suc (i * 2) < length w = omega arith in
    let after : (i + 1) * 2 ≡ suc (suc (i * 2)) = omega arith in
    rw (e, chunk_at 2 (length w / 2) i w [] h, drop-cons w (i * 2) 0 first, drop-cons w (suc (i * 2)) 0 second, after)

-- what is left behind the chunks is the odd end
pub pairs_one : (odd : List ℕ) (last : ℕ) → 0 < length odd → length odd < 2 → last ≡ get_or odd 0 last → pair_items odd ≡ pair 1 last 0 ∷ []
pairs_one [] last h l e = absurd (omega arith)
pairs_one (x ∷ []) last h l e = rw e
pairs_one (x ∷ y ∷ r) last h l e = absurd (omega arith)

-- or none
pub pairs_none : (odd : List ℕ) → length odd ≤ 0 → pair_items odd ≡ []
pairs_none [] l = refl
pairs_none (x ∷ r) l = absurd (omega arith)

-- ---- how many

pub length_pairs : (w : List ℕ) → length (pair_items w) ≡ pairs_of (length w)
length_pairs w = halves w ∙ sym (pairs_is (length w))
  where
    halves : (l : List ℕ) → length (pair_items l) ≡ (length l + 1) / 2
    halves [] = refl
    halves (x ∷ []) = refl
    halves (x ∷ y ∷ r) = omega (arith, halves r)

-- no run is longer than the longest
pub run_most : (on : Bool) (n : ℕ) → n ≤ most_samples → cond on (1 + pairs_of n) 0 ≤ most_raw
run_most true n h = omega (arith, raw_is, pairs_most n h)
run_most false n h = omega arith

-- ---- the word of two samples

-- what is over thirteen bits is cut off both at once
pub pair_cut : (x y : ℕ) → y < 65536 → bit_and (x * 65536 + y) 536813567 ≡ word_of (I.Pair (record { nofirst = 0; first = x; nosecond = 0; second = y }))
unfolding word_of Raw.pair
pair_cut x y h =
    let both : bit_and (x * 65536 + y) 536813567 ≡ bit_and x 8191 * 65536 + bit_and y 8191 = and_block 16 x 8191 y 8191 h (omega arith) in
    omega (arith, both, and_mask x 13, and_mask y 13)
