-- Frames in a row: seen in parts, added up, and counted from one frame on. Assumes nothing.
use Rattle.std.specs.Prelude.{◌≡◌, ℕ, zero, suc, ◌+◌, ◌-◌, ◌*◌, ◌/◌, ◌%◌, ◌^◌, ◌<◌, ◌≤◌, min, Bool, List, [], ◌∷◌, ◌++◌, map, length, take, drop, replicate, refl}
use Rattle.std.proofs.Math.Path.{sym, ap, ap₂}
use Rattle.std.proofs.Common.{◌∙◌, append-nil, append_assoc, arith, length-append, take-take, take-append-drop, take_at, drop_at, drop-drop}
use Rattle.std.proofs.Math.ListN.{length-take, length-drop}
use Rattle.ground.specs.Splice.{splice}
use Rattle.ground.specs.SpliceLaws.{length_splice, splice_splice, splice_all}
use Rattle.ground.specs.TestsLaws.{Under}
use Rattle.copies.specs.Copies.{pasted}
use Rattle.copies.specs.CopiesLaws.{pasted_fits}
use Rattle.scalers.specs.declared.Scalers.{Scalers}
use Rattle.scalers.specs.Scalers.{wrapped, group_frames, frame_samples, overs_of, rises_of, added_to, count_frame, frames_in, frames_of, count_frames}
use Rattle.scalers.specs.Inner.{narrow_of, plus_of, seen_from, over_from, counts_from}
use Rattle.scalers.specs.FrameLaws.{length_overs, length_rises, length_plus, under_more, added_twice, overs_narrow}

-- ---- one frame more

pub frame_first : (frame rest : List ℕ) → length frame ≡ frame_samples → frames_of (frame ++ rest) ≡ frame ∷ frames_of rest
unfolding frames_of frames_in
frame_first frame rest e =
    let n : length (frame ++ rest) / frame_samples ≡ suc (length rest / frame_samples) = omega (arith, length-append frame rest) in
    rw (n, take_at frame rest 16 e, drop_at frame rest 16 e)

pub frames_more : (samples : List ℕ) (at n : ℕ) → frames_in (suc n) (drop at samples) ≡ take frame_samples (drop at samples) ∷ frames_in n (drop (at + frame_samples) samples)
unfolding frames_in
frames_more samples at n = ap (λ (l : List ℕ). take frame_samples (drop at samples) ∷ frames_in n l) (drop-drop frame_samples at samples)

-- so many frames in two parts
pub frames_parts : (m n : ℕ) (samples : List ℕ) → frames_in (m + n) samples ≡ frames_in m samples ++ frames_in n (drop (frame_samples * m) samples)
unfolding frames_in
frames_parts zero n samples =
    let e : 0 + n ≡ n = omega arith in
    rw e
frames_parts (suc m) n samples =
    let e : suc m + n ≡ suc (m + n) = omega arith in
    let k : frame_samples + frame_samples * m ≡ frame_samples * suc m = omega arith in
    let d : drop (frame_samples * m) (drop frame_samples samples) ≡ drop (frame_samples * suc m) samples = drop-drop (frame_samples * m) frame_samples samples ∙ ap (λ (j : ℕ). drop j samples) k in
    ap (λ (j : ℕ). frames_in j samples) e
    ∙ ap (λ (l : List (List ℕ)). take frame_samples samples ∷ l)
    (frames_parts m n (drop frame_samples samples) ∙ ap (λ (l : List ℕ). frames_in m (drop frame_samples samples) ++ frames_in n l) d)

-- frames in two parts, the first of them whole
pub frames_joined : (many : ℕ) (part rest : List ℕ) → length part ≡ frame_samples * many → frames_of (part ++ rest) ≡ frames_of part ++ frames_of rest
unfolding frames_of frames_in
frames_joined zero [] rest e = refl
frames_joined zero (x ∷ part) rest e = absurd (omega arith)
frames_joined (suc many) part rest e =
    let f = take frame_samples part in
    let p = drop frame_samples part in
    let size : length f ≡ frame_samples = omega (arith, length-take frame_samples part) in
    let parts : part ≡ f ++ p = sym (take-append-drop frame_samples part) in
    ap (λ (l : List ℕ). frames_of (l ++ rest)) parts
    ∙ ap frames_of (append_assoc f p rest)
    ∙ frame_first f (p ++ rest) size
    ∙ ap (λ (fs : List (List ℕ)). f ∷ fs) (frames_joined many p rest (omega (arith, length-drop frame_samples part)))
    ∙ sym (ap (λ (l : List ℕ). frames_of l ++ frames_of rest) parts ∙ ap (λ (fs : List (List ℕ)). fs ++ frames_of rest) (frame_first f p size))

drop_take : (n m : ℕ) (l : List ℕ) → drop n (take m l) ≡ take (m - n) (drop n l)
drop_take zero m l =
    let e : m - 0 ≡ m = omega arith in
    rw e
drop_take (suc n) zero l =
    let e : 0 - suc n ≡ 0 = omega arith in
    rw e
drop_take (suc n) (suc m) [] = empty (suc m - suc n)
  where
    empty : (k : ℕ) → ◌≡◌ {A = List ℕ} [] (take k [])
    empty zero = refl
    empty (suc k) = refl
drop_take (suc n) (suc m) (x ∷ xs) =
    let e : suc m - suc n ≡ m - n = omega arith in
    rw e (drop_take n m xs)

-- frames of a part that has them
pub frames_part : (m : ℕ) (samples : List ℕ) (size : ℕ) → frame_samples * m ≤ size → frames_in m (take size samples) ≡ frames_in m samples
unfolding frames_in
frames_part zero samples size h = refl
frames_part (suc m) samples size h =
    ap₂ (λ (f : List ℕ) (fs : List (List ℕ)). f ∷ fs) (take-take frame_samples size samples (omega arith))
    (ap (frames_in m) (drop_take frame_samples size samples) ∙ frames_part m (drop frame_samples samples) (size - frame_samples) (omega arith))

-- the frames of a part that is lent
pub part_frames : (samples : List ℕ) (at size m : ℕ) → size ≡ frame_samples * m → at + size ≤ length samples → frames_of (take size (drop at samples)) ≡ frames_in m (drop at samples)
unfolding frames_of
part_frames samples at size m e h =
    let n : length (take size (drop at samples)) / frame_samples ≡ m = omega (arith, length-take size (drop at samples), length-drop at samples) in
    rw n (frames_part m (drop at samples) size (omega arith))

-- the samples that are seen before what they add is added up
abbrev most_seen : ℕ
most_seen = 65536

-- ---- frames seen one by one

-- what is left to see of frames: those of `left`; at most as many rises as frames before it
pub record ToSee (ts : List ℕ) (before : List Bool) (samples rises : List ℕ) (over : List Bool) (left : List ℕ) : Type 0 where
  pub done : ℕ
  pub within : frame_samples * done + length left ≡ length samples
  pub lanes : (length rises ≡ 16) × (length over ≡ 16)
  pub few : Under done rises
  pub seen : seen_from ts rises over (frames_of left) ≡ seen_from ts (replicate 16 0) before (frames_of samples)
  pub last : over_from ts over (frames_of left) ≡ over_from ts before (frames_of samples)

under_zeros : (n : ℕ) → Under 0 (replicate n 0)
under_zeros zero = tt
under_zeros (suc n) = (omega arith, under_zeros n)

pub to_see : (ts : List ℕ) (before : List Bool) (samples left : List ℕ) → length before ≡ 16 → left ≡ samples → ToSee ts before samples (replicate 16 0) before left
to_see ts before samples left h e = rw e record { done = 0; within = omega arith; lanes = (refl, h); few = under_zeros 16; seen = refl; last = refl }

module _ {ts : List ℕ} {before : List Bool} {samples rises : List ℕ} {over : List Bool} {left : List ℕ} (c : ToSee ts before samples rises over left) where
  -- a frame more
  pub see_turn : (frame : List ℕ) {rest rises' : List ℕ} {over' : List Bool} → length ts ≡ 16 → left ≡ frame ++ rest → length frame ≡ frame_samples
      → rises' ≡ plus_of rises (rises_of over (overs_of ts frame)) → over' ≡ overs_of ts frame → ToSee ts before samples rises' over' rest
  unfolding seen_from over_from
  see_turn frame {rest} {rises'} {over'} t e size p q =
      let overs = length_overs ts frame (omega (arith, size)) in
      let more = length_rises over (overs_of ts frame) (omega (arith, overs, size, c.lanes.1)) in
      let sums = length_plus rises (rises_of over (overs_of ts frame)) (omega (arith, more, overs, size, c.lanes.0)) in
      let next : frames_of left ≡ frame ∷ frames_of rest = ap frames_of e ∙ frame_first frame rest size in
      record {
        done = c.done + 1;
        within = omega (arith, c.within, ap length e, length-append frame rest, size);
        lanes = (ap length p ∙ omega (arith, sums, c.lanes.0), ap length q ∙ omega (arith, overs, size));
        few = rw p (under_more c.done rises over (overs_of ts frame) c.few);
        seen = rw (p, q) (sym (ap (seen_from ts rises over) next) ∙ c.seen);
        last = rw q (sym (ap (over_from ts over) next) ∙ c.last);
      }

  -- none is left
  pub see_end : length left < frame_samples → (rises ≡ seen_from ts (replicate 16 0) before (frames_of samples)) × (over ≡ over_from ts before (frames_of samples))
  unfolding seen_from over_from frames_of frames_in
  see_end h =
      let n : length left / frame_samples ≡ 0 = omega arith in
      (rw n at c.seen, rw n at c.last)

-- ---- the counts of many frames

-- seen first and then added
pub counts_seen : (ts counts seen : List ℕ) (over : List Bool) (fs : List (List ℕ)) → counts_from ts (added_to counts seen) over fs ≡ added_to counts (seen_from ts seen over fs)
unfolding counts_from seen_from
counts_seen ts counts seen over [] = refl
counts_seen ts counts seen over (f ∷ fs) =
    ap (λ (l : List ℕ). counts_from ts l (overs_of ts f) fs) (added_twice counts seen (rises_of over (overs_of ts f)))
    ∙ counts_seen ts counts (plus_of seen (rises_of over (overs_of ts f))) (overs_of ts f) fs

pub counts_append : (ts counts : List ℕ) (over : List Bool) (fs gs : List (List ℕ)) → counts_from ts counts over (fs ++ gs) ≡ counts_from ts (counts_from ts counts over fs) (over_from ts over fs) gs
unfolding counts_from over_from
counts_append ts counts over [] gs = refl
counts_append ts counts over (f ∷ fs) gs = counts_append ts (added_to counts (rises_of over (overs_of ts f))) (overs_of ts f) fs gs

pub over_append : (ts : List ℕ) (over : List Bool) (fs gs : List (List ℕ)) → over_from ts over (fs ++ gs) ≡ over_from ts (over_from ts over fs) gs
unfolding over_from
over_append ts over [] gs = refl
over_append ts over (f ∷ fs) gs = over_append ts (overs_of ts f) fs gs

-- the thresholds in sixteen bits
pub counts_narrow : (ts counts : List ℕ) (over : List Bool) (fs : List (List ℕ)) → counts_from (map narrow_of ts) counts over fs ≡ counts_from ts counts over fs
unfolding counts_from
counts_narrow ts counts over [] = refl
counts_narrow ts counts over (f ∷ fs) =
    ap (λ (o : List Bool). counts_from (map narrow_of ts) (added_to counts (rises_of over o)) o fs) (overs_narrow ts f)
    ∙ counts_narrow ts (added_to counts (rises_of over (overs_of ts f))) (overs_of ts f) fs

pub over_narrow : (ts : List ℕ) (over : List Bool) (fs : List (List ℕ)) → over_from (map narrow_of ts) over fs ≡ over_from ts over fs
unfolding over_from
over_narrow ts over [] = refl
over_narrow ts over (f ∷ fs) = ap (λ (o : List Bool). over_from (map narrow_of ts) o fs) (overs_narrow ts f) ∙ over_narrow ts (overs_of ts f) fs

-- ---- a part of the frames

plus_zeros : (n : ℕ) (xs : List ℕ) → length xs ≤ n → plus_of (replicate n 0) xs ≡ xs
unfolding plus_of
plus_zeros zero [] h = refl
plus_zeros zero (x ∷ xs) h = absurd (omega arith)
plus_zeros (suc n) [] h = refl
plus_zeros (suc n) (x ∷ xs) h = ap₂ (λ (y : ℕ) (ys : List ℕ). y ∷ ys) (omega arith) (plus_zeros n xs (omega arith))

rises_le : (bs ns : List Bool) → length (rises_of bs ns) ≤ length bs
unfolding rises_of
rises_le [] ns = omega arith
rises_le (b ∷ bs) [] = omega arith
rises_le (b ∷ bs) (n ∷ ns) = omega (arith, rises_le bs ns)

-- what was seen of some frames, added up, are the counts behind them
part_counts : (ts counts rises : List ℕ) (over : List Bool) (fs : List (List ℕ)) → length over ≡ 16 → 1 ≤ length fs
    → rises ≡ seen_from ts (replicate 16 0) over fs → added_to counts rises ≡ counts_from ts counts over fs
unfolding counts_from seen_from
part_counts ts counts rises over [] o h e = absurd (omega arith)
part_counts ts counts rises over (f ∷ fs) o h e =
    let r = rises_of over (overs_of ts f) in
    ap (added_to counts) (e ∙ ap (λ (x : List ℕ). seen_from ts x (overs_of ts f) fs) (plus_zeros 16 r (omega (arith, o, rises_le over (overs_of ts f)))))
    ∙ sym (counts_seen ts counts r (overs_of ts f) fs)

length_frames : (n : ℕ) (l : List ℕ) → length (frames_in n l) ≡ n
unfolding frames_in
length_frames zero l = refl
length_frames (suc n) l = ap suc (length_frames n (drop frame_samples l))

pub many_frames : (samples : List ℕ) → length (frames_of samples) ≡ length samples / frame_samples
unfolding frames_of
many_frames samples = length_frames (length samples / frame_samples) samples

-- the frames of all samples but those of no whole frame
whole_frames : (samples : List ℕ) → frames_of (take (length samples / frame_samples * frame_samples) samples) ≡ frames_of samples
unfolding frames_of
whole_frames samples =
    let size : ℕ = length samples / frame_samples * frame_samples in
    let n : length (take size samples) / frame_samples ≡ length samples / frame_samples = omega (arith, length-take size samples) in
    rw n (frames_part (length samples / frame_samples) samples size (omega arith))

-- what is left to count of all frames: those of `left`
pub record ToCount (ts : List ℕ) (s : Scalers) (samples : List ℕ) (counts : List ℕ) (over : List Bool) (left : List ℕ) : Type 0 where
  pub many : ℕ
  pub size : length left ≡ frame_samples * many
  pub lanes : length over ≡ 16
  pub counted : counts_from ts counts over (frames_of left) ≡ counts_from ts s.counts s.over (frames_of samples)
  pub last : over_from ts over (frames_of left) ≡ over_from ts s.over (frames_of samples)

pub to_count : (ts : List ℕ) (s : Scalers) (samples left : List ℕ) → length s.over ≡ 16 → left ≡ take (length samples / frame_samples * frame_samples) samples → ToCount ts s samples s.counts s.over left
to_count ts s samples left o e =
    let w = ap frames_of e ∙ whole_frames samples in
    record {
      many = length samples / frame_samples;
      size = ap length e ∙ omega (arith, length-take (length samples / frame_samples * frame_samples) samples);
      lanes = o;
      counted = ap (counts_from ts s.counts s.over) w;
      last = ap (over_from ts s.over) w;
    }

module _ {ts : List ℕ} {s : Scalers} {samples counts : List ℕ} {over : List Bool} {left : List ℕ} (c : ToCount ts s samples counts over left) where
  -- a part of them is counted
  pub count_turn : (part rest : List ℕ) {rises : List ℕ} {now : List Bool} → left ≡ part ++ rest → length part ≡ min most_seen (length left) → 0 < length left → length now ≡ 16
      → rises ≡ seen_from ts (replicate 16 0) over (frames_of part) → now ≡ over_from ts over (frames_of part) → ToCount ts s samples (added_to counts rises) now rest
  count_turn part rest {rises} {now} e size some n p q =
      let whole : length part ≡ frame_samples * min 4096 c.many = omega (arith, size, c.size) in
      let joined : frames_of left ≡ frames_of part ++ frames_of rest = ap frames_of e ∙ frames_joined (min 4096 c.many) part rest whole in
      record {
        many = c.many - min 4096 c.many;
        size = omega (arith, whole, c.size, ap length e, length-append part rest);
        lanes = n;
        counted =
            ap₂ (λ (x : List ℕ) (o : List Bool). counts_from ts x o (frames_of rest)) (part_counts ts counts rises over (frames_of part) c.lanes (omega (arith, many_frames part, whole, some, c.size)) p) q
            ∙ sym (counts_append ts counts over (frames_of part) (frames_of rest))
            ∙ ap (counts_from ts counts over) (sym joined)
            ∙ c.counted;
        last = ap (λ (o : List Bool). over_from ts o (frames_of rest)) q ∙ sym (over_append ts over (frames_of part) (frames_of rest)) ∙ ap (over_from ts over) (sym joined) ∙ c.last;
      }

  -- none is left
  pub count_end : length left ≡ 0 → (counts ≡ counts_from ts s.counts s.over (frames_of samples)) × (over ≡ over_from ts s.over (frames_of samples))
  unfolding counts_from over_from frames_of frames_in
  count_end h = (rw h at c.counted, rw h at c.last)

-- ---- all that is counted, at once

abbrev pub counted_all : List ℕ → Scalers → List (List ℕ) → Scalers
counted_all ts s fs =
    record {
      counts = counts_from ts s.counts s.over fs;
      timer = wrapped (s.timer + (s.part + length fs) / group_frames);
      triggers = s.triggers;
      part = (s.part + length fs) % group_frames;
      over = over_from ts s.over fs;
      latched = s.latched;
    }

-- one frame behind others
more : (ts : List ℕ) (s : Scalers) (gs : List (List ℕ)) (f : List ℕ) → count_frame ts (counted_all ts s gs) f ≡ counted_all ts s (gs ++ (f ∷ []))
unfolding count_frame wrapped counts_from over_from
more ts s gs f =
    let n : length (gs ++ (f ∷ [])) ≡ length gs + 1 = length-append gs (f ∷ []) in
    let timer : ((s.timer + (s.part + length gs) / 512) % 2 ^ 32 + ((s.part + length gs) % 512 + 1) / 512) % 2 ^ 32 ≡ (s.timer + (s.part + length (gs ++ (f ∷ []))) / 512) % 2 ^ 32 = omega (arith, n) in
    let part : ((s.part + length gs) % 512 + 1) % 512 ≡ (s.part + length (gs ++ (f ∷ []))) % 512 = omega (arith, n) in
    let counts = sym (counts_append ts s.counts s.over gs (f ∷ [])) in
    let over = sym (over_append ts s.over gs (f ∷ [])) in
    λ i. record { counts = counts i; timer = timer i; triggers = s.triggers; part = part i; over = over i; latched = s.latched }

behind : (ts : List ℕ) (s : Scalers) (gs fs : List (List ℕ)) → count_frames ts (counted_all ts s gs) fs ≡ counted_all ts s (gs ++ fs)
unfolding count_frames
behind ts s gs [] = ap (counted_all ts s) (sym (append-nil gs))
behind ts s gs (f ∷ fs) =
    ap (λ (x : Scalers). count_frames ts x fs) (more ts s gs f)
    ∙ behind ts s (gs ++ (f ∷ [])) fs
    ∙ ap (counted_all ts s) (append_assoc gs (f ∷ []) fs)

some_counted : (ts : List ℕ) (s : Scalers) (f : List ℕ) (fs : List (List ℕ)) → count_frames ts s (f ∷ fs) ≡ counted_all ts s (f ∷ fs)
unfolding count_frames count_frame counts_from over_from
some_counted ts s f fs = behind ts s (f ∷ []) fs

-- at least one frame is counted
pub counted_all_lem : (ts : List ℕ) (s : Scalers) (samples : List ℕ) → 1 ≤ length samples / frame_samples → count_frames ts s (frames_of samples) ≡ counted_all ts s (frames_of samples)
unfolding frames_of frames_in
counted_all_lem ts s samples h = go (length samples / frame_samples) h
  where
    go : (n : ℕ) → 1 ≤ n → count_frames ts s (frames_in n samples) ≡ counted_all ts s (frames_in n samples)
    go zero h = absurd (omega arith)
    go (suc n) h = some_counted ts s (take frame_samples samples) (frames_in n (drop frame_samples samples))

-- what the code leaves behind all frames is all that is counted
pub all_counted : (ts narrow : List ℕ) (s : Scalers) (samples counts : List ℕ) (timer : ℕ) (over : List Bool) → let groups = (s.part + length samples / 16) / 512 in 1 ≤ length samples / 16 → narrow ≡ map narrow_of ts
    → counts ≡ counts_from narrow s.counts s.over (frames_of samples) → over ≡ over_from narrow s.over (frames_of samples) → timer ≡ (s.timer + groups % 2 ^ 32) % 2 ^ 32
    → record { counts = counts; timer = timer; triggers = s.triggers; part = (s.part + length samples / 16) % 512; over = over; latched = s.latched } ≡ count_frames ts s (frames_of samples)
unfolding wrapped
all_counted ts narrow s samples counts timer over some e p q t =
    let n = many_frames samples in
    let timer' : timer ≡ (s.timer + (s.part + length (frames_of samples)) / 512) % 2 ^ 32 = t ∙ omega (arith, n) in
    let part : (s.part + length samples / 16) % 512 ≡ (s.part + length (frames_of samples)) % 512 = omega (arith, n) in
    let counts' = p ∙ ap (λ (l : List ℕ). counts_from l s.counts s.over (frames_of samples)) e ∙ counts_narrow ts s.counts s.over (frames_of samples) in
    let over' = q ∙ ap (λ (l : List ℕ). over_from l s.over (frames_of samples)) e ∙ over_narrow ts s.over (frames_of samples) in
    (λ i. record { counts = counts' i; timer = timer' i; triggers = s.triggers; part = part i; over = over' i; latched = s.latched })
    ∙ sym (counted_all_lem ts s samples some)

-- ---- latch

-- the counts, and two numbers behind them
pub latched_is : (counts front all : List ℕ) (timer triggers : ℕ) → length counts ≡ 16 → front ≡ pasted (replicate 18 0) 0 counts → all ≡ pasted front 16 (timer ∷ triggers ∷ []) → all ≡ counts ++ (timer ∷ triggers ∷ [])
latched_is counts front all timer triggers n p q =
    let behind = timer ∷ triggers ∷ [] in
    let zeros : List ℕ = replicate 18 0 in
    let first : front ≡ splice zeros 0 counts = p ∙ pasted_fits zeros 0 counts (omega (arith, n)) in
    let size : length front ≡ 18 = ap length first ∙ length_splice zeros 0 counts (omega (arith, n)) in
    let at : 16 ≡ 0 + length counts = omega (arith, n) in
    q
    ∙ pasted_fits front 16 behind (omega (arith, size))
    ∙ ap₂ (λ (l : List ℕ) (k : ℕ). splice l k behind) first at
    ∙ splice_splice zeros 0 counts behind (omega arith)
    ∙ splice_all zeros (counts ++ behind) (omega (arith, n, length-append counts behind))
