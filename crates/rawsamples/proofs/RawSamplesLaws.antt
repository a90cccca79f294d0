-- The samples of pairs put in an array, pair by pair. Assumes nothing.
use Rattle.std.specs.Prelude.{ℕ, ◌+◌, ◌*◌, ◌^◌, ◌≤◌, ◌<◌, min, ◌≡◌, Bool, true, false, cond, List, [], ◌∷◌, ◌++◌, eqb, leb, length, drop, take, get_or}
use Rattle.std.proofs.Common.{◌∙◌, arith, add-one, drop_of_length-le, length-append, length-take, drop-cons}
use Rattle.std.proofs.Math.Path.{ap}
use Rattle.ground.specs.ResultLaws.{one_result}
use Rattle.fields.specs.Word.{read}
use Rattle.fields.proofs.WordLaws.{field_lt}
use Rattle.raw.specs.declared.pair.SamplePair.{SamplePair}
use Rattle.raw.specs.Words.{pair_of}
use Rattle.rawitems.specs.declared.Pairs.{Pairs}
use Rattle.rawitems.specs.Pairs.{part_of}
use Rattle.written.specs.Page.{Page, farthest, put}
use Rattle.written.specs.PageLaws.{put_nil, put_append, put_then, none_put, none_count, short, fitting, put_here, put_past, put_stay}
use Rattle.rawsamples.specs.RawSamples.{if_valid, samples_of_pair, samples_of}
use Rattle.rawsamples.specs.Says.{SamplesSay}

-- ---- one sample

pub ruleset one_sample = (put_here, put_past, put_stay, put_nil)

-- ---- one pair

module _ (word : ℕ) {r : SamplePair} (h : r ≡ pair_of word) where
  -- a sample has thirteen bits
  pub first_small : r.first < 65536
  unfolding pair_of
  first_small = omega (arith, ap (λ (p : SamplePair). p.first) h, field_lt word 16 13)

  pub second_small : r.second < 65536
  unfolding pair_of
  second_small = omega (arith, ap (λ (p : SamplePair). p.second) h, field_lt word 0 13)

  pub both_put : (a b c : Page) → b ≡ put a (if_valid r.nofirst r.first) → c ≡ put b (if_valid r.nosecond r.second) → c ≡ put a (samples_of_pair word)
  unfolding pair_of
  both_put a b c e f = put_then a b c _ _ e f ∙ ap (λ (p : SamplePair). put a (if_valid p.nofirst p.first ++ if_valid p.nosecond p.second)) h

pub ruleset one_pair = (first_small, second_small, both_put)

-- ---- pairs: a turn, and the end

pub pairs_turn : (p q : Page) (words : List ℕ) (i : ℕ) → i < length words → q ≡ put p (samples_of_pair (get_or words i 0)) → put p (samples_of (drop i words)) ≡ put q (samples_of (drop (i + 1) words))
unfolding samples_of
pairs_turn p q words i h e =
    ap (λ (l : List ℕ). put p (samples_of l)) (drop-cons words i 0 h)
    ∙ put_append p (samples_of_pair (get_or words i 0)) _
    ∙ rw (add-one i, e)

pub pairs_done : (p : Page) (words : List ℕ) (i : ℕ) → length words ≤ i → put p (samples_of (drop i words)) ≡ p
unfolding samples_of
pairs_done p words i h = ap (λ (l : List ℕ). put p (samples_of l)) (drop_of_length-le words h) ∙ put_nil p

pub ruleset pair_by_pair = (pairs_turn, pairs_done)

-- ---- how many

valid_most : (flag sample : ℕ) → length (if_valid flag sample) ≤ 1
valid_most flag sample = go (eqb flag 0)
  where
    go : (b : Bool) → length (cond b (sample ∷ []) []) ≤ 1
    go true = omega arith
    go false = omega arith

pub samples_most : (words : List ℕ) → length (samples_of words) ≤ 2 * length words
unfolding samples_of
samples_most [] = omega arith
samples_most (word ∷ words) =
    let a = if_valid (read 29 29 word) (read 28 16 word) in
    let b = if_valid (read 13 13 word) (read 12 0 word) in
    omega (arith, length-append (a ++ b) (samples_of words), length-append a b, valid_most (read 29 29 word) (read 28 16 word), valid_most (read 13 13 word) (read 12 0 word), samples_most words)

pub part_most : (words : List ℕ) (p : Pairs) → length (part_of words p) ≤ p.count
unfolding part_of
part_most words p = go (leb (p.place + p.count) (length words))
  where
    go : (b : Bool) → length (cond b (take p.count (drop p.place words)) []) ≤ p.count
    go true = simp length-take (omega arith)
    go false = omega arith

-- ---- counted in no array, then put where they fit

module _ (words : List ℕ) (pairs : Pairs) (out : List ℕ) {part none : List ℕ} {n : ℕ} (h : part ≡ part_of words pairs) (few : pairs.count < 2 ^ 32) (e : ◌≡◌ {A = Page} (none, n) (put ([], 0) (samples_of part))) where
  all_counted : min (length (samples_of part)) farthest ≡ length (samples_of part)
  all_counted = omega (arith, samples_most part, ap length h, part_most words pairs)

  pub no_room : length (none ++ out) < n → SamplesSay (samples_of (part_of words pairs)) out n (none ++ out)
  no_room k =
      rw (← h)
      (record { count = none_count (samples_of part) out none n e ∙ all_counted; array = rw (short (samples_of part) out none n e k, none_put (samples_of part) out none n e) })

  pub room : (r : ℕ) (out' : List ℕ) → n ≤ length (none ++ out) → length out < farthest → ◌≡◌ {A = Page} (out', r) (put (none ++ out, 0) (samples_of part))
      → SamplesSay (samples_of (part_of words pairs)) out r out'
  room r out' k m g =
      let p = fitting (samples_of part) out none n e r out' k m g in
      rw (← h) (record { count = p.0 ∙ all_counted; array = rw p.1 p.2 })

-- two answers that the statement allows are equal, and so is what they leave
pub one_unpacking : {all out : List ℕ} {r r' : ℕ} {b b' : List ℕ} → SamplesSay all out r b → SamplesSay all out r' b' → (r ≡ r') × (b ≡ b')
one_unpacking p q = (one_result p.count q.count, one_result p.array q.array)
