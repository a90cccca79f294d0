-- How many words a block's head and its end are. Assumes nothing.
use Rattle.std.specs.Prelude.{ℕ, zero, suc, ◌+◌, ◌-◌, ◌%◌, ◌≤◌, ◌<◌, ◌≡◌, refl, Bool, true, false, cond, [], ◌∷◌, length}
use Rattle.std.proofs.lemmas.Bool.{false≢true}
use Rattle.std.proofs.Common.{mod-lt, one-add, arith}
use Rattle.std.proofs.lemmas.List.{length-replicate}
use Rattle.ground.specs.Tests.{one_of}
use Rattle.settings.specs.declared.Settings.{Settings}
use Rattle.settings.specs.Ranges.{settings_ok}
use Rattle.settings.specs.RangesLaws.{settings_in_range}
use Rattle.items.specs.Items.{item_if}
use Rattle.items.specs.declared.Item.{Item}
use Rattle.items.specs.declared.Item.TheVariants as I
use Rattle.state.specs.State.{head_words}
use Rattle.block.specs.Block.{block_items, fillers_to, end_items}

one_more : (b : Bool) (x : Item) → suc (length (item_if b x)) ≡ cond b 2 1
one_more true x = refl
one_more false x = refl

pub block_length : (s : Settings) (number events : ℕ) → length (block_items s number events) ≡ head_words s
unfolding block_items
block_length s number events = one_more s.parameters (I.Parameters (record { pl = s.pl; nsb = s.nsb; nsa = s.nsa }))

pub end_length : (s : Settings) (words : ℕ) → length (end_items s words) ≡ 1 + fillers_to s.multiple (words + 1)
unfolding end_items
end_length s words = rw (one-add, length-replicate)

-- a multiple in range divides
pub multiple_positive : (s : Settings) → settings_ok s ≡ true → 0 < s.multiple
multiple_positive s h = go s.multiple (settings_in_range s h).multiple
  where
    go : (m : ℕ) → one_of m (1 ∷ 2 ∷ 4 ∷ []) ≡ true → 0 < m
    go zero e = absurd (false≢true e)
    go (suc m) e = omega arith

pub fillers_lt : (multiple count : ℕ) → 0 < multiple → fillers_to multiple count < multiple
unfolding fillers_to
fillers_lt multiple count h = mod-lt _ h

-- nothing is brought to a multiple of 0
pub fillers_none : (count : ℕ) → fillers_to 0 count ≡ 0
unfolding fillers_to
fillers_none count =
    let e : 0 - count % 0 ≡ 0 = omega arith in
    rw e

pub fillers_le : (multiple count : ℕ) → fillers_to multiple count ≤ multiple
fillers_le zero count = omega (arith, fillers_none count)
fillers_le (suc m) count = omega (arith, fillers_lt (suc m) count (omega arith))
