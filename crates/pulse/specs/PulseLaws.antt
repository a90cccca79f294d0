-- How many words a pulse takes, and what a pulse of a window is known by. Assumes nothing.
use Rattle.std.specs.Prelude.{ℕ, ◌+◌, ◌-◌, ◌≤◌, ◌≡◌, refl, Bool, true, false, cond, List, [], ◌∷◌, leb, length, take, drop}
use Rattle.std.specs.Int.{from_bool}
use Rattle.std.proofs.Common.{ap, arith, leb-true, le-leb, length-append, length-take, length-drop}
use Rattle.ground.specs.Splice.{Written}
use Rattle.ground.specs.TestsLaws.{every, all_of_lem}
use Rattle.limits.specs.Limits.{most_samples, pairs_of}
use Rattle.finder.specs.declared.Pulse.{Pulse}
use Rattle.finder.specs.RangeLaws.{PulseFits}
use Rattle.pairs.specs.PairsLaws.{length_pairs}
use Rattle.items.specs.declared.Item.{Item}
use Rattle.items.specs.Items.{word_of, words_of, item_if}
use Rattle.pulse.specs.declared.Parts.{Parts}
use Rattle.pulse.specs.Pulse.{set_of, raw_items, integral_item, time_item, pedestal_item, pulse_items, one_if, set_length, pulse_length, fits_in}
use Rattle.pulse.specs.Inner.{Fitting, word_if}

-- ---- how many words

-- one word where it is wanted, as the code converts it
pub one_is : (on : Bool) → from_bool on ≡ one_if on
one_is true = refl
one_is false = refl

pub length_set : (w : List ℕ) (p : Pulse) → 1 ≤ p.first → p.last ≤ length w → length (set_of w p) ≡ p.last + 1 - p.first
unfolding set_of
length_set w p f l = simp (length-take, length-drop) (omega arith)

-- the part of the window from the set's first sample to its last
pub part_set : (w : List ℕ) (p : Pulse) → 1 ≤ p.first → take (p.last - (p.first - 1)) (drop (p.first - 1) w) ≡ set_of w p
unfolding set_of
part_set w p h =
    let e : p.last - (p.first - 1) ≡ p.last + 1 - p.first = omega arith in
    rw e

pub length_if : (on : Bool) (xs : List Item) (n : ℕ) → length xs ≡ n → length (cond on xs []) ≡ cond on n 0
length_if true xs n e = e
length_if false xs n e = refl

length_raw : (c : ℕ) (w : List ℕ) (i : ℕ) (p : Pulse) → 1 ≤ p.first → p.last ≤ length w → length (raw_items c w i p) ≡ 1 + pairs_of (p.last + 1 - p.first)
unfolding raw_items
length_raw c w i p f l = omega (arith, length_pairs (set_of w p), ap pairs_of (length_set w p f l))

pub length_pulse : (m : Parts) (c : ℕ) (w : List ℕ) (i : ℕ) (p : Pulse) → 1 ≤ p.first → p.last ≤ length w → length (pulse_items m c w i p) ≡ pulse_length m p
unfolding pulse_items set_length pulse_length
length_pulse m c w i p f l =
    let a = length_if m.raw (raw_items c w i p) (1 + pairs_of (p.last + 1 - p.first)) (length_raw c w i p f l) in
    let b = length_if m.integral (integral_item c i p ∷ []) 1 refl in
    let d = length_if m.time (time_item m.high c i p ∷ []) 1 refl in
    let e = length_if m.pedestal (pedestal_item c i p ∷ []) 1 refl in
    rw (length-append, length-append, length-append, a, b, d, e)

-- ---- a word for a record, each where it is wanted

pub word_room : (on : Bool) (x : Item) (word k n : ℕ) → k + length (item_if on x) ≤ n → k + length (word_if on word) ≤ n
unfolding word_if
word_room true x word k n h = h
word_room false x word k n h = h

pub word_written : (on : Bool) (x : Item) (word : ℕ) {b : List ℕ} {at : ℕ} {next : ℕ} {b' : List ℕ} → word ≡ word_of x → Written b at (word_if on word) next b'
    → Written b at (words_of (item_if on x)) next b'
unfolding word_if
word_written true x word e w = rw e at w
word_written false x word e w = w

-- ---- of which window

tests : ℕ → Pulse → List Bool
tests n p = leb p.tc n ∷ leb 1 p.first ∷ leb p.first p.last ∷ leb p.last n ∷ leb p.time.coarse n ∷ leb n most_samples ∷ []

pub fitting : (n : ℕ) (p : Pulse) → fits_in n p ≡ true → Fitting n p
unfolding fits_in tests
fitting n p h =
    let e = every (tests n p) h in
    record {
      tc = leb-true _ _ e.0;
      from = leb-true _ _ e.1.0;
      some = leb-true _ _ e.1.1.0;
      to = leb-true _ _ e.1.1.1.0;
      coarse = leb-true _ _ e.1.1.1.1.0;
      short = leb-true _ _ e.1.1.1.1.1.0;
    }

-- a pulse that the finder gives fits in its window
pub fits_in_lem : (n : ℕ) (p : Pulse) → PulseFits n p → n ≤ most_samples → fits_in n p ≡ true
unfolding fits_in tests
fits_in_lem n p o h =
    all_of_lem (tests n p) (
      le-leb _ _ o.tc.1,
      (
        le-leb _ _ o.first.0,
        (
          le-leb p.first p.last (omega (arith, o.first.1, o.last.0)),
          (le-leb _ _ o.last.1, (le-leb _ _ o.time.coarse.1, (le-leb _ _ h, tt))),
        ),
      ),
    )
