-- How many words an event's tail has. Assumes nothing.
use Rattle.std.specs.Prelude.{ℕ, ◌+◌, ◌≤◌, ◌<◌, ◌≡◌, refl, Bool, true, false, cond, List, ◌∷◌, length, get_or, drop}
use Rattle.std.proofs.Common.{arith, add-one, drop-cons}
use Rattle.std.proofs.lemmas.List.{length-map}
use Rattle.items.specs.declared.Item.TheVariants as I
use Rattle.limits.specs.Limits.{tail_words}
use Rattle.limits.proofs.LimitsLaws.{tail_words_lem}
use Rattle.tail.specs.Tail.{word_items, scaler_items, tail_items}

pub length_items : (latched : List ℕ) → length (word_items latched) ≡ length latched
length_items latched = length-map latched (λ (n : ℕ). I.Scaler (record { value = n }))

-- the next count, and those behind it
pub items_step : (latched : List ℕ) (i : ℕ) → i < length latched → word_items (drop i latched) ≡ I.Scaler (record { value = get_or latched i 0 }) ∷ word_items (drop (i + 1) latched)
items_step latched i h = rw (add-one, drop-cons latched i 0 h)

pub length_scalers : (latched : List ℕ) → length (scaler_items latched) ≡ 1 + length latched
unfolding scaler_items
length_scalers latched = omega (arith, length_items latched)

-- eighteen counts and the word that says so, or nothing
pub length_tail : (asked : Bool) (latched : List ℕ) → length latched ≡ 18 → length (tail_items asked latched) ≡ cond asked tail_words 0
unfolding tail_items
length_tail true latched h = omega (arith, length_scalers latched, tail_words_lem)
length_tail false latched h = refl

pub tail_le : (asked : Bool) (latched : List ℕ) → length latched ≡ 18 → length (tail_items asked latched) ≤ tail_words
tail_le asked latched h = omega (arith, length_tail asked latched h, most asked)
  where
    most : (b : Bool) → cond b tail_words 0 ≤ tail_words
    most true = omega arith
    most false = omega arith
