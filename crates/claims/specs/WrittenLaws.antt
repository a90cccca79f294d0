-- What a channel and an event write are the records of a tree of the layout. Assumes nothing.
use Rattle.std.specs.Prelude.{ℕ, zero, suc, ◌+◌, ◌-◌, ◌*◌, ◌/◌, ◌%◌, ◌^◌, ◌≤◌, min, ◌≡◌, refl, Bool, true, false, not, cond, ◌&&◌, ◌||◌, List, [], ◌∷◌, ◌++◌, leb, ltb, length, get_or, take, drop}
use Rattle.std.proofs.Common.{sym, ap, ap₂, ◌∙◌, append_assoc, append-nil, arith, le-leb, length-take, length-drop}
use Rattle.limits.specs.Limits.{most_samples}
use Rattle.limits.proofs.LimitsLaws.{most_samples_lem, most_pairs_lem}
use Rattle.ground.specs.TestsLaws.{Under, under, and_left, and_right}
use Rattle.settings.specs.declared.Settings.{Settings}
use Rattle.settings.specs.Ranges.{settings_ok}
use Rattle.settings.specs.RangesLaws.{InRange, settings_in_range}
use Rattle.samples.specs.Sample.{samples_ok}
use Rattle.finder.specs.declared.Pulse.{Pulse}
use Rattle.search.specs.Search.{any_over}
use Rattle.finder.specs.RangeLaws.{PulseFits, EachFits, pulses_fit, pulses_count}
use Rattle.framing.specs.declared.event_header.EventHeader.{EventHeader}
use Rattle.framing.specs.declared.scalers.ScalerHeader.{ScalerHeader}
use Rattle.framing.specs.declared.scaler.ScalerWord.{ScalerWord}
use Rattle.framing.specs.Words as W
use Rattle.raw.specs.declared.pair.SamplePair.{SamplePair}
use Rattle.raw.specs.Words as R
use Rattle.measures.specs.Words as M
use Rattle.items.specs.Items.{fits}
use Rattle.items.specs.declared.Item.{Item}
use Rattle.items.specs.declared.Item.TheVariants as I
use Rattle.pulse.specs.declared.Parts.{Parts}
use Rattle.pairs.specs.Pairs.{pair_items}
use Rattle.modes.specs.Channel.{window_items, parts_of, pulses_items, common_of, pulses_of, channel_items}
use Rattle.pulse.specs.Pulse.{set_of, raw_items, integral_item, time_item, pedestal_item, pulse_items}
use Rattle.pulse.specs.PulseLaws.{length_set}
use Rattle.rows.specs.Rows.{row, rows_ok}
use Rattle.event.specs.Event.{time_items, channels_items, event_items}
use Rattle.rows.specs.RowsLaws.{row_end}
use Rattle.tail.specs.Tail.{word_items, scaler_items, tail_items}
use Rattle.places.specs.Places.{most32}
use Rattle.layout.specs.PassLaws.{both}
use Rattle.layout.specs.Grammar.{Piece, window, raw, integral, time, pedestal, no_clock, clock27, clock48, no_scalers, scalers, each_pair, piece_of, pieces_of, clock_of, each_scaler, tail_of, event_of, Each, BothValid, OddEnd, full, short, WindowPairs, RawPairs, PieceOk, ClockOk, TailOk, EventOk, Widths}

-- the records of a tree that is as asked, every field within its bits
pub record TreeOf {A : Type 0} (of : A → List Item) (ok : A → Type 0) (xs : List Item) : Type 0 where
  pub tree : A
  pub fine : ok tree
  pub are : of tree ≡ xs
  pub widths : Widths xs

pub each_append : {A : Type 0} (P : A → Type 0) (xs ys : List A) → Each P xs → Each P ys → Each P (xs ++ ys)
each_append P [] ys p q = q
each_append P (x ∷ xs) ys p q = (p.0, each_append P xs ys p.1 q)

-- ---- pieces, one after the other

abbrev pub Pieces : List Item → Type 0
Pieces xs = TreeOf pieces_of (Each PieceOk) xs

none : Pieces []
none = record { tree = []; fine = tt; are = refl; widths = tt }

one : {xs : List Item} (x : Piece) → PieceOk x → piece_of x ≡ xs → Widths xs → Pieces xs
one x k e w = record { tree = x ∷ []; fine = (k, tt); are = append-nil (piece_of x) ∙ e; widths = w }

pieces_append : (xs ys : List Piece) → pieces_of (xs ++ ys) ≡ pieces_of xs ++ pieces_of ys
pieces_append [] ys = refl
pieces_append (x ∷ xs) ys = ap (λ (l : List Item). piece_of x ++ l) (pieces_append xs ys) ∙ sym (append_assoc (piece_of x) (pieces_of xs) (pieces_of ys))

join : {xs ys : List Item} → Pieces xs → Pieces ys → Pieces (xs ++ ys)
join {xs} {ys} a b =
    record {
      tree = a.tree ++ b.tree;
      fine = each_append PieceOk a.tree b.tree a.fine b.fine;
      are = pieces_append a.tree b.tree ∙ ap₂ (λ (l m : List Item). l ++ m) a.are b.are;
      widths = each_append _ xs ys a.widths b.widths;
    }

given : (on : Bool) {xs : List Item} → Pieces xs → Pieces (cond on xs [])
given true a = a
given false a = none

-- ---- samples

under_drop : (n : ℕ) (w : List ℕ) → Under 8191 w → Under 8191 (drop n w)
under_drop zero w u = u
under_drop (suc n) [] u = u
under_drop (suc n) (x ∷ w) u = under_drop n w u.1

under_take : (n : ℕ) (w : List ℕ) → Under 8191 w → Under 8191 (take n w)
under_take zero w u = tt
under_take (suc n) [] u = u
under_take (suc n) (x ∷ w) u = (u.0, under_take n w u.1)

pub under_set : (w : List ℕ) (p : Pulse) → Under 8191 w → Under 8191 (set_of w p)
unfolding set_of
under_set w p u = under_take (p.last + 1 - p.first) (drop (p.first - 1) w) (under_drop (p.first - 1) w u)

-- n samples in pairs, after type 4 and after type 6
abbrev pub PairsOk : ℕ → List SamplePair → Type 0
PairsOk n ps = WindowPairs n ps × (length ps ≡ (n + 1) / 2) × (1 ≤ n → RawPairs ps)

raw_first : (p : SamplePair) (n : ℕ) (ps : List SamplePair) → BothValid p → PairsOk n ps → RawPairs (p ∷ ps)
raw_first p n [] b k = full b
raw_first p n (q ∷ ps) b k = (b, k.2 (omega (arith, k.1)))

pub pairs : (w : List ℕ) → Under 8191 w → TreeOf each_pair (PairsOk (length w)) (pair_items w)
unfolding fits R.pair
pairs [] u = record { tree = []; fine = (tt, refl, λ l. absurd (omega arith)); are = refl; widths = tt }
pairs (x ∷ []) u =
    let p : SamplePair = record { nofirst = 0; first = x; nosecond = 1; second = 0 } in
    let o : OddEnd p = record { first = refl; second = refl; zero = refl } in
    record { tree = p ∷ []; fine = (o, refl, λ l. short o); are = refl; widths = (both (le-leb x 8191 u.0) refl, tt) }
pairs (x ∷ y ∷ r) u =
    let p : SamplePair = record { nofirst = 0; first = x; nosecond = 0; second = y } in
    let b : BothValid p = record { first = refl; second = refl } in
    let m = pairs r u.1.1 in
    record {
      tree = p ∷ m.tree;
      fine = ((b, m.fine.0), omega (arith, m.fine.1), λ l. raw_first p (length r) m.tree b m.fine);
      are = ap (λ (l : List Item). I.Pair p ∷ l) m.are;
      widths = (both (le-leb x 8191 u.0) (le-leb y 8191 u.1.0), m.widths);
    }

window_made : (c : ℕ) (w : List ℕ) → c ≤ 15 → Under 8191 w → 1 ≤ length w → length w ≤ most_samples → Pieces (window_items c w)
unfolding window_items fits R.window
window_made c w k u m n =
    let q = pairs w u in
    one (window (record { channel = c; width = length w }) q.tree) (m, (n, q.fine.0)) (ap (λ (l : List Item). I.Window (record { channel = c; width = length w }) ∷ l) q.are)
    (both (le-leb c 15 k) (le-leb (length w) 4095 (omega (arith, n, most_samples_lem))), q.widths)

raw_made : (c : ℕ) (w : List ℕ) (i : ℕ) (p : Pulse) → c ≤ 15 → i ≤ 3 → Under 8191 w → length w ≤ most_samples → PulseFits (length w) p → Pieces (raw_items c w i p)
unfolding raw_items fits R.pulse_raw
raw_made c w i p k j u n f =
    let z : length (set_of w p) ≡ p.last + 1 - p.first = length_set w p f.first.0 f.last.1 in
    let q = pairs (set_of w p) (under_set w p u) in
    one (raw (record { channel = c; pulse = i; tc = p.tc }) q.tree)
    (omega (arith, z, q.fine.1, f.first.0, f.last.1, n, most_samples_lem, most_pairs_lem), q.fine.2 (omega (arith, z, f.first.1, f.last.0)))
    (ap (λ (l : List Item). I.Raw (record { channel = c; pulse = i; tc = p.tc }) ∷ l) q.are)
    (both (le-leb c 15 k) (both (le-leb i 3 j) (le-leb p.tc 1023 (omega (arith, f.tc.1, n, most_samples_lem)))), q.widths)

-- ---- what is measured

pub integral_made : (c i : ℕ) (p : Pulse) → c ≤ 15 → i ≤ 3 → Pieces (integral_item c i p ∷ [])
unfolding integral_item fits M.integral
integral_made c i p k j =
    one (integral _) tt refl (both (le-leb c 15 k) (both (le-leb i 3 j) (both (quality (ltb 524287 p.sum)) (le-leb (min p.sum 524287) 524287 (omega arith)))), tt)
  where
    quality : (b : Bool) → leb (cond b 1 0) 3 ≡ true
    quality true = refl
    quality false = refl

pub time_made : (high : Bool) (c i n : ℕ) (p : Pulse) → c ≤ 15 → i ≤ 3 → n ≤ most_samples → PulseFits n p → Pieces (time_item high c i p ∷ [])
unfolding time_item fits M.time
time_made high c i n p k j m f = one (time _) tt refl (both (le-leb c 15 k) (both (le-leb i 3 j) (both (coarse high) (fine high))), tt)
  where
    coarse : (b : Bool) → leb (cond b p.time.coarse p.tc) 511 ≡ true
    coarse true = le-leb p.time.coarse 511 (omega (arith, f.time.coarse.1, m, most_samples_lem))
    coarse false = le-leb p.tc 511 (omega (arith, f.tc.1, m, most_samples_lem))

    fine : (b : Bool) → leb (cond b p.time.fine 0) 63 ≡ true
    fine true = le-leb p.time.fine 63 f.time.fine
    fine false = refl

pub pedestal_made : (c i n : ℕ) (p : Pulse) → c ≤ 15 → i ≤ 3 → PulseFits n p → Pieces (pedestal_item c i p ∷ [])
unfolding pedestal_item fits M.pedestal
pedestal_made c i n p k j f =
    one (pedestal _) tt refl
    (both (le-leb c 15 k) (both (le-leb i 3 j) (both (le-leb (min p.time.vmin 511) 511 (omega arith)) (le-leb p.time.vpeak 4095 f.time.vpeak))), tt)

-- ---- a pulse, pulses, a channel

pulse_made : (m : Parts) (c : ℕ) (w : List ℕ) (i : ℕ) (p : Pulse) → c ≤ 15 → i ≤ 3 → Under 8191 w → length w ≤ most_samples → PulseFits (length w) p → Pieces (pulse_items m c w i p)
unfolding pulse_items
pulse_made m c w i p k j u n f =
    join (given m.raw (raw_made c w i p k j u n f))
    (join (given m.integral (integral_made c i p k j))
    (join (given m.time (time_made m.high c i (length w) p k j n f)) (given m.pedestal (pedestal_made c i (length w) p k j f))))

pulses_made : (m : Parts) (c : ℕ) (w : List ℕ) (i : ℕ) (l : List Pulse) → c ≤ 15 → i + length l ≤ 4 → Under 8191 w → length w ≤ most_samples → EachFits (length w) l → Pieces (pulses_items m c w i l)
unfolding pulses_items
pulses_made m c w i [] k j u n f = none
pulses_made m c w i (p ∷ l) k j u n f = join (pulse_made m c w i p k (omega arith) u n f.0) (pulses_made m c w (i + 1) l k (omega arith) u n f.1)

channel_made : (s : Settings) (t c : ℕ) (w : List ℕ) → settings_ok s ≡ true → c ≤ 15 → Under 8191 w → 1 ≤ length w → length w ≤ most_samples → Pieces (channel_items (common_of s) t c w)
unfolding channel_items
channel_made s t c w ok k u m n =
    let r : InRange s = settings_in_range s ok in
    join (given ((parts_of s.mode).window && any_over w t) (window_made c w k u m n))
    (pulses_made (parts_of s.mode) c w 0 (pulses_of (common_of s) t w) k (omega (arith, pulses_count w t s.nsb s.nsa s.limit 0, r.limit.1)) u n
    (pulses_fit w t s.nsb s.nsa s.limit 0 r.nsa.0))

-- ---- an event

row_length : (nw c : ℕ) (store : List ℕ) → c * nw + nw ≤ length store → length (row nw c store) ≡ nw
unfolding row
row_length nw c store h = length-take nw (drop (c * nw) store) ∙ omega (arith, length-drop (c * nw) store)

channels_made : (s : Settings) (store : List ℕ) (c : ℕ) (posted : List Bool) → settings_ok s ≡ true → c + length posted ≤ 16 → 16 * s.nw ≤ length store → rows_ok s.nw store c posted ≡ true
    → Pieces (channels_items s store c posted)
unfolding channels_items rows_ok samples_ok
channels_made s store c [] ok n m h = none
channels_made s store c (b ∷ posted) ok n m h =
    join (here b (and_left (not b || samples_ok (row s.nw c store)) _ h))
    (channels_made s store (c + 1) posted ok (omega arith) m (and_right (not b || samples_ok (row s.nw c store)) _ h))
  where
    r : InRange s
    r = settings_in_range s ok

    z : length (row s.nw c store) ≡ s.nw
    z = row_length s.nw c store (omega (arith, row_end c 16 s.nw (omega arith)))

    here : (b : Bool) → (not b || samples_ok (row s.nw c store)) ≡ true → Pieces (cond b (channel_items (common_of s) (get_or s.thresholds c 0) c (row s.nw c store)) [])
    here true e =
        channel_made s (get_or s.thresholds c 0) c (row s.nw c store) ok (omega arith) (under 8191 (row s.nw c store) e) (omega (arith, z, r.nw.0)) (omega (arith, z, r.nw.1))
    here false e = none

clock_made : (times t : ℕ) → times ≤ 2 → t ≤ 2 ^ 48 - 1 → TreeOf clock_of ClockOk (time_items times t)
unfolding time_items fits W.trigger_time W.trigger_time_high
clock_made times t m h = go times m
  where
    low : fits (I.Clock (record { middle = t / 2 ^ 24 % 2 ^ 3; low = t % 2 ^ 24 })) ≡ true
    low = both (le-leb (t / 2 ^ 24 % 2 ^ 3) 7 (omega arith)) (le-leb (t % 2 ^ 24) 16777215 (omega arith))

    go : (times : ℕ) → times ≤ 2 → TreeOf clock_of ClockOk (time_items times t)
    go zero m = record { tree = no_clock; fine = tt; are = refl; widths = tt }
    go (suc zero) m = record { tree = clock27 _; fine = tt; are = refl; widths = (low, tt) }
    go (suc (suc zero)) m = record { tree = clock48 _ _; fine = refl; are = refl; widths = (low, (le-leb (t / 2 ^ 24) 16777215 (omega arith), tt)) }
    go (suc (suc (suc n))) m = absurd (omega arith)

-- the latched words, a record each
words_made : (latched : List ℕ) → Under most32 latched → TreeOf each_scaler (λ (ws : List ScalerWord). length ws ≡ length latched) (word_items latched)
unfolding fits W.scaler
words_made [] u = record { tree = []; fine = refl; are = refl; widths = tt }
words_made (n ∷ latched) u =
    let m = words_made latched u.1 in
    let w : ScalerWord = record { value = n } in
    record { tree = w ∷ m.tree; fine = ap suc m.fine; are = ap (λ (l : List Item). I.Scaler w ∷ l) m.are; widths = (le-leb n most32 u.0, m.widths) }

-- what an event ends with
tail_made : (asked : Bool) (latched : List ℕ) → length latched ≡ 18 → Under most32 latched → TreeOf tail_of TailOk (tail_items asked latched)
unfolding tail_items scaler_items fits W.scalers
tail_made true latched z u =
    let m = words_made latched u in
    let h : ScalerHeader = record { count = 18 } in
    record { tree = scalers h m.tree; fine = m.fine ∙ z; are = ap (λ (l : List Item). I.Scalers h ∷ l) m.are; widths = (refl, m.widths) }
tail_made false latched z u = record { tree = no_scalers; fine = tt; are = refl; widths = tt }

-- what a close writes, its scalers asked for or not
pub event_made : (c : Settings) (number t : ℕ) (posted : List Bool) (store : List ℕ) (asked : Bool) (latched : List ℕ) → settings_ok c ≡ true → number ≤ 4194303 → t ≤ 2 ^ 48 - 1 → length posted ≤ 16
    → 16 * c.nw ≤ length store → rows_ok c.nw store 0 posted ≡ true → length latched ≡ 18 → Under most32 latched
    → TreeOf event_of (EventOk c.slot) (event_items c number t posted store ++ tail_items asked latched)
unfolding event_items fits W.event_header
event_made c number t posted store asked latched ok n m k z q size u =
    let r : InRange c = settings_in_range c ok in
    let a = clock_made c.times t r.times m in
    let b = channels_made c store 0 posted ok (omega arith) z q in
    let d = tail_made asked latched size u in
    let h : EventHeader = record { slot = c.slot; number = number } in
    let times = time_items c.times t in
    let rest = channels_items c store 0 posted in
    let last = tail_items asked latched in
    let parts : clock_of a.tree ++ (pieces_of b.tree ++ tail_of d.tree) ≡ (times ++ rest) ++ last =
    ap₂ (λ (l m : List Item). l ++ m) a.are (ap₂ (λ (l m : List Item). l ++ m) b.are d.are) ∙ sym (append_assoc times rest last) in
    record {
      tree = record { header = h; clock = a.tree; pieces = b.tree; tail = d.tree };
      fine = record { slot = refl; clock = a.fine; pieces = b.fine; tail = d.fine };
      are = ap (λ (l : List Item). I.Event h ∷ l) parts;
      widths = (both (le-leb c.slot 31 r.slot) (le-leb number 4194303 n), each_append _ (times ++ rest) last (each_append _ times rest a.widths b.widths) d.widths);
    }
