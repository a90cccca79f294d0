-- Pulses in three places, read in turn; and how many words a channel takes. Assumes nothing.
use Rattle.std.specs.Prelude.{ℕ, zero, suc, ◌+◌, ◌≤◌, ◌<◌, ◌≡◌, refl, Bool, true, false, cond, ◌&&◌, List, [], ◌∷◌, ◌++◌, ltb, get_or, drop, replicate}
use Rattle.std.proofs.Common.{sym, ap, ap₂, ◌∙◌, arith, add-one, lt-ltb, drop_of_length-le, length-append, drop-cons, length-take-le}
use Rattle.std.proofs.Math.ListN.{length}
use Rattle.std.proofs.lemmas.List.Edits.{sets-eq}
use Rattle.ground.specs.TestsLaws.{or_none}
use Rattle.limits.specs.Limits.{most_samples, pairs_of}
use Rattle.settings.specs.Ranges.{most_limit}
use Rattle.finder.specs.declared.Pulse.{Pulse}
use Rattle.finder.specs.declared.Pulses.{Pulses}
use Rattle.search.specs.Search.{over_in, any_over, tc_from}
use Rattle.finder.specs.Find.{pulses_from, no_pulse, packed, find_all}
use Rattle.finder.specs.FindLaws.{find_all_lem, Searched, can_search}
use Rattle.finder.specs.RangeLaws.{EachFits, fits_at, pulses_fit, pulses_count, packed_back}
use Rattle.pulse.specs.declared.Parts.{Parts}
use Rattle.pulse.specs.Pulse.{pulse_items, set_length, pulse_length, fits_in}
use Rattle.pulse.specs.PulseLaws.{length_if, length_pulse, fits_in_lem}
use Rattle.pairs.specs.PairsLaws.{length_pairs}
use Rattle.items.specs.declared.Item.{Item}
use Rattle.modes.specs.declared.Common.{Common}
use Rattle.modes.specs.Channel.{window_items, parts_of, of_pulses, limit_for, pulses_items, pulses_of, channel_items}
use Rattle.modes.specs.Inner.{listed, InWindow, pulses_length, channel_length}

-- ---- the three places

pub length_listed : (found : Pulses) → found.count ≤ length found.pulses → length (listed found) ≡ found.count
length_listed found h = length-take-le found.count found.pulses h

pub listed_packed : (l : List Pulse) → length l ≤ 3 → listed (packed l) ≡ l
listed_packed l h = packed_back l h

pub in_window_lem : (n : ℕ) (l : List Pulse) → EachFits n l → length l ≤ 3 → InWindow n (packed l)
unfolding packed
in_window_lem n l e h =
    record {
      few = h;
      stored = rw (sets-eq l (replicate 3 no_pulse) 0 (omega arith)) (simp length-append (omega arith));
      each = rw (listed_packed l h) e;
    }

pub place_in : (n : ℕ) (l : List Pulse) (i : ℕ) (d : Pulse) → EachFits n l → n ≤ most_samples → i < length l → fits_in n (get_or l i d) ≡ true
place_in n l i d e m h = fits_in_lem n _ (fits_at n l i d e h) m

-- ---- how many words

pub length_window : (c : ℕ) (w : List ℕ) → length (window_items c w) ≡ 1 + pairs_of (length w)
unfolding window_items
length_window c w = omega (arith, length_pairs w)

pub length_pulses : (m : Parts) (c : ℕ) (w : List ℕ) (i : ℕ) (l : List Pulse) → EachFits (length w) l → length (pulses_items m c w i l) ≡ pulses_length m l
unfolding pulses_items pulses_length
length_pulses m c w i [] o = refl
length_pulses m c w i (p ∷ l) o =
    length-append (pulse_items m c w i p) (pulses_items m c w (i + 1) l)
    ∙ ap₂ (λ (a b : ℕ). a + b) (length_pulse m c w i p o.0.first.0 o.0.last.1) (length_pulses m c w (i + 1) l o.1)

pub length_channel : (s : Common) (t c : ℕ) (w : List ℕ) → 1 ≤ s.nsa → length (channel_items s t c w) ≡ channel_length s t w
unfolding channel_items channel_length
length_channel s t c w h =
    let on : Bool = (parts_of s.mode).window && any_over w t in
    length-append (cond on (window_items c w) []) (pulses_items (parts_of s.mode) c w 0 (pulses_of s t w))
    ∙ ap₂ (λ (a b : ℕ). a + b) (length_if on (window_items c w) (1 + pairs_of (length w)) (length_window c w))
    (length_pulses (parts_of s.mode) c w 0 (pulses_of s t w) (pulses_fit w t s.nsb s.nsa s.limit 0 h))

-- the channel's number does not count
pub any_channel : (s : Common) (t c d : ℕ) (w : List ℕ) → 1 ≤ s.nsa → length (channel_items s t c w) ≡ length (channel_items s t d w)
any_channel s t c d w h = length_channel s t c w h ∙ sym (length_channel s t d w h)

-- the count in turns: what is counted and what is left are the whole
module _ (m : Parts) (l : List Pulse) where
  pub count_turn : (i n r all : ℕ) (d : Pulse) → r ≡ pulse_length m (get_or l i d) → i < length l
      → n + pulses_length m (drop i l) ≡ all → n + r + pulses_length m (drop (i + 1) l) ≡ all
  unfolding pulses_length
  count_turn i n r all d e g h = let k = rw (drop-cons l i d g) at h in rw (add-one i) (omega (arith, k, e))

  pub count_end : (i n all : ℕ) → length l ≤ i → n + pulses_length m (drop i l) ≡ all → n ≡ all
  unfolding pulses_length
  count_end i n all g h = let k = rw (drop_of_length-le l g) at h in omega (arith, k)

-- ---- a mode that writes nothing of a pulse

parts_off : (m : Parts) → of_pulses m ≡ false → (m.raw ≡ false) × ((m.integral ≡ false) × ((m.time ≡ false) × (m.pedestal ≡ false)))
unfolding of_pulses
parts_off m h =
    let a = or_none _ m.pedestal h in
    let b = or_none _ m.time a.0 in
    let c = or_none m.raw m.integral b.0 in
    (c.0, (c.1, (b.1, a.1)))

pulse_none : (m : Parts) (c : ℕ) (w : List ℕ) (i : ℕ) (p : Pulse) → of_pulses m ≡ false → (pulse_items m c w i p ≡ []) × (pulse_length m p ≡ 0)
unfolding pulse_items set_length pulse_length
pulse_none m c w i p h = let o = parts_off m h in rw (o.0, o.1.0, o.1.1.0, o.1.1.1) (refl, refl)

items_none : (m : Parts) (c : ℕ) (w : List ℕ) (i : ℕ) (l : List Pulse) → of_pulses m ≡ false → pulses_items m c w i l ≡ []
unfolding pulses_items
items_none m c w i [] h = refl
items_none m c w i (p ∷ l) h = ap₂ (λ (x y : List Item). x ++ y) (pulse_none m c w i p h).0 (items_none m c w (i + 1) l h)

length_none : (m : Parts) (l : List Pulse) → of_pulses m ≡ false → pulses_length m l ≡ 0
unfolding pulses_length
length_none m [] h = refl
length_none m (p ∷ l) h = ap₂ (λ (x y : ℕ). x + y) (pulse_none m 0 [] 0 p h).1 (length_none m l h)

-- ---- what the finder gives

-- the pulses found are of the window, and their length is that of all pulses
pub record IsFound (s : Common) (t : ℕ) (w : List ℕ) (m : Parts) (found : Pulses) : Type 0 where
  pub inside : InWindow (length w) found
  pub size : pulses_length m (listed found) ≡ pulses_length m (pulses_of s t w)

found_to : (s : Common) (t : ℕ) (w : List ℕ) (n : ℕ) (found : Pulses) → Searched (length w) s.nsa n → found ≡ find_all w t s.nsb s.nsa n
    → InWindow (length w) found × (listed found ≡ pulses_from w t s.nsb s.nsa n 0)
found_to s t w n found r e =
    let few : length (pulses_from w t s.nsb s.nsa n 0) ≤ 3 = omega (arith, pulses_count w t s.nsb s.nsa n 0, r.few) in
    rw (e, find_all_lem w t s.nsb s.nsa n (can_search _ _ _ r)) (in_window_lem (length w) _ (pulses_fit w t s.nsb s.nsa n 0 r.some) few, listed_packed _ few)

-- a limit that is not passed
pub search_less : (m : Parts) (n nsa limit most : ℕ) → Searched n nsa limit → most ≡ limit_for m limit → Searched n nsa most
search_less m n nsa limit most r e = record { short = r.short; some = r.some; within = r.within; few = rw e (less (of_pulses m)) }
  where
    less : (b : Bool) → cond b limit 0 ≤ most_limit
    less true = r.few
    less false = omega arith

pub is_found : (s : Common) (t : ℕ) (w : List ℕ) (m : Parts) (found : Pulses) → Searched (length w) s.nsa s.limit
    → found ≡ find_all w t s.nsb s.nsa (limit_for m s.limit) → IsFound s t w m found
is_found s t w m found r e =
    let f = found_to s t w (limit_for m s.limit) found (search_less m _ _ _ _ r refl) e in
    record { inside = f.0; size = ap (pulses_length m) f.1 ∙ go (of_pulses m) refl }
  where
    go : (b : Bool) → of_pulses m ≡ b → pulses_length m (pulses_from w t s.nsb s.nsa (cond b s.limit 0) 0) ≡ pulses_length m (pulses_of s t w)
    go true on = refl
    go false off = length_none m _ off ∙ sym (length_none m (pulses_of s t w) off)

-- ---- by the first TC

from_none : (w : List ℕ) (t nsb nsa n : ℕ) → tc_from w t 0 ≡ 0 → pulses_from w t nsb nsa n 0 ≡ []
unfolding pulses_from
from_none w t nsb nsa zero h = refl
from_none w t nsb nsa (suc n) h = rw h

pub any_first : (w : List ℕ) (t : ℕ) → any_over w t ≡ ltb 0 (tc_from w t 0)
unfolding over_in tc_from
any_first w t = refl

any_over_lem : (w : List ℕ) (t : ℕ) → 1 ≤ tc_from w t 0 → any_over w t ≡ true
any_over_lem w t h = any_first w t ∙ lt-ltb 0 (tc_from w t 0) h

and_on : {A : Type 0} (b : Bool) (x y : A) → cond (b && true) x y ≡ cond b x y
and_on true x y = refl
and_on false x y = refl

-- without one the channel has no words
pub channel_quiet : (s : Common) (t c : ℕ) (w : List ℕ) → tc_from w t 0 ≡ 0 → channel_items s t c w ≡ []
unfolding channel_items pulses_items
channel_quiet s t c w h = rw (any_first w t, h, from_none w t s.nsb s.nsa s.limit h) (off (parts_of s.mode).window)
  where
    off : (b : Bool) → cond (b && false) (window_items c w) [] ++ [] ≡ []
    off true = refl
    off false = refl

-- with one it has its window where the mode writes it, and the pulses of which the mode writes
pub channel_busy : (s : Common) (t c : ℕ) (w : List ℕ) (m : Parts) (most : ℕ) → 1 ≤ tc_from w t 0 → m ≡ parts_of s.mode → most ≡ limit_for m s.limit
    → channel_items s t c w ≡ cond m.window (window_items c w) [] ++ pulses_items m c w 0 (pulses_from w t s.nsb s.nsa most 0)
unfolding channel_items
channel_busy s t c w m most h p q = rw (any_over_lem w t h, ← p, q) (ap₂ (λ (x y : List Item). x ++ y) (and_on m.window (window_items c w) []) (go (of_pulses m) refl))
  where
    go : (b : Bool) → of_pulses m ≡ b → pulses_items m c w 0 (pulses_of s t w) ≡ pulses_items m c w 0 (pulses_from w t s.nsb s.nsa (cond b s.limit 0) 0)
    go true on = refl
    go false off = items_none m c w 0 (pulses_of s t w) off ∙ sym (items_none m c w 0 _ off)

-- the count from the numbers that the code has
pub channel_counted : (s : Common) (t : ℕ) (w : List ℕ) (m : Parts) (found : Pulses) (a b : ℕ) → 1 ≤ tc_from w t 0 → m ≡ parts_of s.mode → IsFound s t w m found
    → a ≡ cond m.window (1 + pairs_of (length w)) 0 → b ≡ pulses_length m (listed found) → a + b ≡ channel_length s t w
unfolding channel_length
channel_counted s t w m found a b h p f ha hb = rw (any_over_lem w t h, ← p, ha, hb, f.size) (ap (λ (x : ℕ). x + pulses_length m (pulses_of s t w)) (sym (and_on m.window (1 + pairs_of (length w)) 0)))
