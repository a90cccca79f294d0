-- Laws of the search by chunks: many samples are passed at once. Assumes nothing.
use Rattle.std.specs.Prelude.{ℕ, zero, suc, ◌+◌, ◌-◌, ◌*◌, ◌/◌, ◌%◌, ◌≤◌, ◌<◌, ◌≡◌, refl, max, Bool, true, false, List, [], ◌∷◌, length, get_or, take, drop, fold}
use Rattle.std.specs.Simd.{first_chunks}
use Rattle.std.proofs.Common.{sym, ◌∙◌, arith, le-ltb, suc-mul, drop-drop, add-one, mul-le-mul_right, div-mul-le_self, mod-lt, length-take, length-drop}
use Rattle.std.proofs.Math.Nat.{mod-eq-sub-div-mul}
use Rattle.std.proofs.lemmas.List.{get_or-take, get_or-drop, get_or_past, take_rest}
use Rattle.std.proofs.lemmas.List.Elements.{All-nil, All-cons}
use Rattle.samples.specs.Sample.{amp, is_over}
use Rattle.std.proofs.Math.Bool.{and-true, and-false}
use Rattle.std.proofs.Math.Decide.{dec_le}
use Rattle.ground.specs.Search.{least}
use Rattle.ground.specs.ChunkLaws.{chunk_at}
use Rattle.ground.specs.SearchLaws.{IsLeast, least_pass, least_here, least_end, least_found, least_none}
use Rattle.search.specs.Search.{over, starts}
use Rattle.search.specs.SearchLaws.{starts_after}
use Rattle.search.specs.Chunk.{NoneOver, Passed}

-- ---- numbers that all fail are passed at once

pass_by : (p : ℕ → Bool) (s n e : ℕ) → s + n ≤ e → ((j : ℕ) → s < j → j ≤ s + n → p j ≡ false) → least p s e ≡ least p (s + n) e
pass_by p s zero e l f = let z : s + 0 ≡ s = omega arith in rw z
pass_by p s (suc n) e l f =
    let z : s + suc n ≡ s + 1 + n = omega arith in
    rw z (least_pass p s e (omega arith) (f (s + 1) (omega arith) (omega arith)) ∙ pass_by p (s + 1) n e (omega arith) (λ j a b. f j (omega arith) (omega arith)))

least_to : (p : ℕ → Bool) (s r e : ℕ) → s ≤ r → r ≤ e → ((j : ℕ) → s < j → j ≤ r → p j ≡ false) → least p s e ≡ least p r e
least_to p s r e l m f =
    let z : r ≡ s + (r - s) = omega arith in
    rw z (pass_by p s (r - s) e (omega arith) (λ j a b. f j a (omega arith)))

-- ---- a search that goes on

pub passed_none : (p : ℕ → Bool) (s e : ℕ) → s ≤ e → Passed p s e s
passed_none p s e l = record { from = omega arith; to = l; same = refl }

pub passed_then : (p : ℕ → Bool) (s e k m : ℕ) → Passed p s e k → Passed p k e m → Passed p s e m
passed_then p s e k m i j = record { from = omega arith; to = j.to; same = i.same ∙ j.same }

pub passed_all : (p : ℕ → Bool) (s e k : ℕ) → Passed p s e k → e ≤ k → 0 ≡ least p s e
passed_all p s e k i l = sym (i.same ∙ least_end p k e l)

-- ---- samples looked at one by one: one is found, or none is

pub one_found : (p : ℕ → Bool) (s k m e r : ℕ) → Passed p s e k → r ≡ least p k m → (r ≡ 0 → ⊥) → m ≤ e → r ≡ least p s e
one_found p s k m e r i h g l =
    let f : IsLeast p k m r = least_found p k m r h (omega arith) in
    let z : r - 1 + 1 ≡ r = omega arith in
    let before = least_to p k (r - 1) e (omega arith) (omega arith) (λ j a b. f.none j a (omega arith)) in
    sym (i.same ∙ (before ∙ (least_here p (r - 1) e (omega arith) (rw z f.holds) ∙ z)))

pub none_found : (p : ℕ → Bool) (s k m e r q : ℕ) → Passed p s e k → r ≡ least p k m → r ≡ 0 → k ≤ m → Passed p m e q → Passed p s e q
none_found p s k m e r q i h z l n =
    let pass = least_to p k m e l (omega arith) (least_none p k m (sym h ∙ z)) in
    record { from = omega arith; to = n.to; same = i.same ∙ (pass ∙ n.same) }

-- ---- a chunk

-- none is over where the highest is not
pub fold_none_over : (t high : ℕ) (chunk : List ℕ) → fold (λ (h x : ℕ). max h (amp x)) high chunk ≤ t → (high ≤ t) × NoneOver t chunk
fold_none_over t high [] l = (l, All-nil _)
fold_none_over t high (x ∷ xs) l =
    let r = fold_none_over t (max high (amp x)) xs l in
    (omega (arith, r.0), All-cons (λ (x : ℕ). amp x ≤ t) x xs (omega (arith, r.0)) r.1)

-- where no sample of a chunk from a on is over, the search goes on to its end; the chunk may begin before the search stands
pub chunk_none : (w : List ℕ) (t s k e a n m : ℕ) → Passed (over w t) s e k → NoneOver t (take n (drop a w)) → a ≤ k → k ≤ m → m ≤ a + n → m ≤ e
    → Passed (over w t) s e m
unfolding over is_over amp
chunk_none w t s k e a n m i h g l q f =
    let pass = least_to (over w t) k m e l f (λ j x y. le-ltb t (amp (get_or w (j - 1) 0)) (low j (omega arith) (omega arith))) in
    record { from = omega arith; to = f; same = i.same ∙ pass }
  where
    -- behind the window there is no sample, whose amplitude would be 0
    low : (j : ℕ) → a < j → j ≤ a + n → amp (get_or w (j - 1) 0) ≤ t
    low j x y =
        elim (dec_le j (length w)) [
          | yes u ↦
              (let z : a + (j - 1 - a) ≡ j - 1 = omega arith in
              let long : j - 1 - a < length (take n (drop a w)) = simp (length-take, length-drop) (omega arith) in
              rw (get_or-take n (drop a w) (j - 1 - a) 0 (omega arith), get_or-drop a w (j - 1 - a) 0, z) at (h (j - 1 - a) 0 long))
          | no u ↦ rw (get_or_past w (j - 1) 0 (omega arith)) (omega arith)
        ]

-- the samples after s in chunks: the search may go on behind the i-th, and so behind the next
pub chunk_next : (w : List ℕ) (t s n i : ℕ) (chunk : List ℕ) → let v : List ℕ = take (length w - s) (drop s w) in s ≤ length w → i < length v / n
    → chunk ≡ get_or (first_chunks n (length v / n) v) i chunk → NoneOver t chunk → Passed (over w t) s (length w) (s + i * n) → Passed (over w t) s (length w) (s + (i + 1) * n)
chunk_next w t s n i chunk h l e q p =
    let v : List ℕ = take (length w - s) (drop s w) in
    let z : (i + 1) * n ≡ n + i * n = rw add-one (omega (arith, suc-mul i n)) in
    let all : length v ≡ length w - s = rw take_rest (length-drop s w) in
    let below : (i + 1) * n ≤ length v / n * n = mul-le-mul_right n (omega arith) in
    let fit : (i + 1) * n ≤ length w - s = omega (arith, below, all, div-mul-le_self (length v) n) in
    let here = rw (take_rest w s, drop-drop (i * n) s w) at (e ∙ chunk_at n (length v / n) i v chunk l) in
    chunk_none w t s (s + i * n) (length w) (s + i * n) n _ p (rw here at q) (omega arith) (omega arith) (omega arith) (omega arith)

-- and behind all of them to the end, where the last n samples are quiet
pub chunk_last : (w : List ℕ) (t s n : ℕ) (last : List ℕ) → let v : List ℕ = take (length w - s) (drop s w) in 1 ≤ n → s ≤ length w → n ≤ length w
    → last ≡ drop (length w - n) w → NoneOver t last → Passed (over w t) s (length w) (s + length v / n * n) → Passed (over w t) s (length w) (length w)
chunk_last w t s n last a h l e q p =
    let v : List ℕ = take (length w - s) (drop s w) in
    let z : length w - (length w - n) ≡ n = omega arith in
    let here = rw z at (take_rest w (length w - n)) in
    let all : length v ≡ length w - s = rw take_rest (length-drop s w) in
    let few : length v % n < n = mod-lt (length v) a in
    let left = mod-eq-sub-div-mul (length v) n in
    chunk_none w t s (s + length v / n * n) (length w) (length w - n) n (length w) p (rw here (rw e at q)) (omega arith) p.to (omega arith) (omega arith)

-- or where nothing is left behind them
pub chunk_all : (w : List ℕ) (t s n : ℕ) → let v : List ℕ = take (length w - s) (drop s w) in s ≤ length w → length v % n ≡ 0
    → Passed (over w t) s (length w) (s + length v / n * n) → Passed (over w t) s (length w) (length w)
chunk_all w t s n h z p =
    let v : List ℕ = take (length w - s) (drop s w) in
    let all : length v ≡ length w - s = rw take_rest (length-drop s w) in
    let e : s + length v / n * n ≡ length w = omega (arith, p.to, z, mod-eq-sub-div-mul (length v) n, div-mul-le_self (length v) n) in
    rw e at p

-- ---- the search for a next pulse

-- behind a sample that is over, none starts
pub starts_not : (w : List ℕ) (t k : ℕ) → over w t k ≡ true → starts w t (k + 1) ≡ false
starts_not w t k h = starts_after w t k true h ∙ and-false (over w t (k + 1))

starts_is : (w : List ℕ) (t k : ℕ) → over w t k ≡ false → starts w t (k + 1) ≡ over w t (k + 1)
starts_is w t k h = starts_after w t k false h ∙ and-true (over w t (k + 1))

quiet_by : (w : List ℕ) (t k n e : ℕ) → e - k ≡ n → over w t k ≡ false → least (starts w t) k e ≡ least (over w t) k e
quiet_by w t k zero e q h = least_end _ k e (omega arith) ∙ sym (least_end _ k e (omega arith))
quiet_by w t k (suc n) e q h = go (over w t (k + 1)) refl (quiet_by w t (k + 1) n e (omega arith))
  where
    go : (b : Bool) → over w t (k + 1) ≡ b → (over w t (k + 1) ≡ false → least (starts w t) (k + 1) e ≡ least (over w t) (k + 1) e)
        → least (starts w t) k e ≡ least (over w t) k e
    go true g f = least_here _ k e (omega arith) (starts_is w t k h ∙ g) ∙ sym (least_here _ k e (omega arith) g)
    go false g f = least_pass _ k e (omega arith) (starts_is w t k h ∙ g) ∙ (f g ∙ sym (least_pass _ k e (omega arith) g))

-- from a sample that is not over on, the first that is over is the first that starts
pub starts_quiet : (w : List ℕ) (t k e : ℕ) → over w t k ≡ false → least (starts w t) k e ≡ least (over w t) k e
starts_quiet w t k e h = quiet_by w t k (e - k) e refl h
