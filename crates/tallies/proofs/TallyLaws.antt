-- What the calls since a set up leave counted is the tally of all their frames and events. Assumes nothing.
use Prim.Native.Nat.{ℕ, zero, suc, ◌+◌, ◌*◌, ◌/◌, ◌%◌, ◌^◌, ◌≤◌, ◌<◌}
use Rattle.std.specs.Prelude.{◌≡◌, true, false, not, cond, ◌&&◌, eqb, get_or, set}
use Rattle.std.proofs.Math.Path.{refl, sym, ap}
use Rattle.std.proofs.Common.{ap₂, ◌∙◌, subst}
use Rattle.std.proofs.Math.Bool.{Bool}
use mathlib.Core.List.{List, [], ◌∷◌, ◌++◌, map, append-nil, append_assoc}
use native.Mathlib.Omega.{arith}
use Rattle.std.proofs.Math.ListN.{length, take, drop, replicate, length-append, length-take, length-drop}
use Rattle.ground.specs.Splice.{splice}
use Rattle.refusals.specs.Refusal.{told, if_accepted}
use Rattle.samples.specs.Sample.{is_over}
use Rattle.scalers.specs.declared.Scalers.{Scalers}
use Rattle.scalers.specs.Scalers.{wrapped, frame_samples, nothing_counted, overs_of, rises_of, added_to, count_frame, frames_in, frames_of, count_frames, triggered, latched_now, reset_now}
use Rattle.settings.specs.declared.Settings.{Settings}
use Rattle.state.specs.declared.State.{State}
use Rattle.state.specs.State.{idle, blank, with_block, with_event, with_mark, with_closed, with_scalers}
use Rattle.items.specs.Items.{words_of}
use Rattle.event.specs.Event.{event_items}
use Rattle.tail.specs.Tail.{scaler_items, tail_items}
use Rattle.block.specs.Block.{block_items}
use Rattle.refusing.specs.Tables.{set_up_number, open_block_number, open_event_number, post_number, closing_items, close_number, finish_number}
use Rattle.writer.specs.Answer.{Answer}
use Rattle.writer.specs.CallsLaws.{done, refused}
use Rattle.closing.specs.Closing.{CloseSays}
use Rattle.counting.specs.Counting.{count_number, with_frames, latch_number, reset_number}
use Rattle.tallies.specs.Tally.{column, last_over, edges, Moment, fresh, fed, one_more, anew, Uncounted, block, post, close, finish, no_frames, no_event, no_latch, no_reset, Tallied, set_up, frames, event, latch, reset, other, channels, over_in, edges_in, counts_at, timer_at, triggers_at, eighteen_at, tally_of}

-- ---- a channel's samples, one list behind another

column_append : (c : ℕ) (fs gs : List (List ℕ)) → column c (fs ++ gs) ≡ column c fs ++ column c gs
unfolding column
column_append c [] gs = refl
column_append c (f ∷ fs) gs = ap (λ (l : List ℕ). get_or f c 0 ∷ l) (column_append c fs gs)

last_append : (t : ℕ) (was : Bool) (xs ys : List ℕ) → last_over t was (xs ++ ys) ≡ last_over t (last_over t was xs) ys
unfolding last_over
last_append t was [] ys = refl
last_append t was (x ∷ xs) ys = last_append t (is_over t x) xs ys

edges_append : (t : ℕ) (was : Bool) (xs ys : List ℕ) → edges t was (xs ++ ys) ≡ edges t was xs + edges t (last_over t was xs) ys
unfolding edges last_over
edges_append t was [] ys = omega arith
edges_append t was (x ∷ xs) ys = omega (arith, edges_append t (is_over t x) xs ys)

-- over in the last of frames behind others
over_behind : (ts : List ℕ) (c : ℕ) (fs gs : List (List ℕ)) → over_in ts (fs ++ gs) c ≡ last_over (get_or ts c 0) (over_in ts fs c) (column c gs)
over_behind ts c fs gs = ap (last_over (get_or ts c 0) false) (column_append c fs gs) ∙ last_append (get_or ts c 0) false (column c fs) (column c gs)

-- a frame more: its sample decides
over_more : (ts : List ℕ) (c : ℕ) (fs : List (List ℕ)) (f : List ℕ) → over_in ts (fs ++ (f ∷ [])) c ≡ is_over (get_or ts c 0) (get_or f c 0)
unfolding last_over column
over_more ts c fs f = over_behind ts c fs (f ∷ [])

-- what a frame adds to a channel's count, over before it or not and over in it or not
abbrev rise : Bool → Bool → ℕ
rise was now = cond (now && not was) 1 0

-- a frame more
edges_more : (ts : List ℕ) (c : ℕ) (m : Moment) (f : List ℕ) → edges_in ts (fed m (f ∷ [])) c ≡ edges_in ts m c + rise (over_in ts (m.before ++ m.since) c) (is_over (get_or ts c 0) (get_or f c 0))
unfolding edges column
edges_more ts c m f =
    let t = get_or ts c 0 in
    let now = is_over t (get_or f c 0) in
    ap (edges t (over_in ts m.before c)) (column_append c m.since (f ∷ []))
    ∙ edges_append t (over_in ts m.before c) (column c m.since) (column c (f ∷ []))
    ∙ omega (arith, ap (λ (b : Bool). rise b now) (over_behind ts c m.before m.since))

-- ---- a frame, channel by channel

map_same : {A : Type 0} (f g : ℕ → A) (cs : List ℕ) → ((c : ℕ) → f c ≡ g c) → map f cs ≡ map g cs
map_same f g [] h = refl
map_same {A} f g (c ∷ cs) h = ap₂ (λ (x : A) (xs : List A). x ∷ xs) (h c) (map_same f g cs h)

rises_each : (was now : ℕ → Bool) (cs : List ℕ) → rises_of (map was cs) (map now cs) ≡ map (λ (c : ℕ). rise (was c) (now c)) cs
unfolding rises_of
rises_each was now [] = refl
rises_each was now (c ∷ cs) = ap (λ (l : List ℕ). rise (was c) (now c) ∷ l) (rises_each was now cs)

added_each : (f g : ℕ → ℕ) (cs : List ℕ) → added_to (map f cs) (map g cs) ≡ map (λ (c : ℕ). wrapped (f c + g c)) cs
unfolding added_to
added_each f g [] = refl
added_each f g (c ∷ cs) = ap (λ (l : List ℕ). wrapped (f c + g c) ∷ l) (added_each f g cs)

-- numbers in a row
abbrev up_from : ℕ → ℕ → List ℕ
up_from k zero = []
up_from k (suc n) = k ∷ up_from (suc k) n

shift : {A : Type 0} (f : ℕ → A) (k n : ℕ) → map f (up_from (suc k) n) ≡ map (λ (c : ℕ). f (suc c)) (up_from k n)
shift f k zero = refl
shift {A} f k (suc n) = ap (λ (l : List A). f (suc k) ∷ l) (shift f (suc k) n)

overs_each : (ts f : List ℕ) (n : ℕ) → length ts ≡ n → length f ≡ n → overs_of ts f ≡ map (λ (c : ℕ). is_over (get_or ts c 0) (get_or f c 0)) (up_from 0 n)
unfolding overs_of
overs_each [] f zero h k = refl
overs_each [] f (suc n) h k = absurd (omega arith)
overs_each (t ∷ ts) [] zero h k = absurd (omega arith)
overs_each (t ∷ ts) [] (suc n) h k = absurd (omega arith)
overs_each (t ∷ ts) (x ∷ xs) zero h k = absurd (omega arith)
overs_each (t ∷ ts) (x ∷ xs) (suc n) h k =
    ap (λ (l : List Bool). is_over t x ∷ l)
    (overs_each ts xs n (omega arith) (omega arith) ∙ sym (shift (λ (c : ℕ). is_over (get_or (t ∷ ts) c 0) (get_or (x ∷ xs) c 0)) 0 n))

-- ---- frames

module _ (ts : List ℕ) (size : length ts ≡ 16) (held : Moment) where
  -- a frame more
  frame_tally : (m : Moment) (f : List ℕ) → length f ≡ 16 → count_frame ts (tally_of ts m held) f ≡ tally_of ts (fed m (f ∷ [])) held
  unfolding count_frame tally_of wrapped
  frame_tally m f k =
      let was = over_in ts (m.before ++ m.since) in
      let now : ℕ → Bool = λ c. is_over (get_or ts c 0) (get_or f c 0) in
      let many = length-append m.since (f ∷ []) in
      let overs : overs_of ts f ≡ map now channels = overs_each ts f 16 size k in
      let one : (c : ℕ) → (edges_in ts m c % 2 ^ 32 + rise (was c) (now c)) % 2 ^ 32 ≡ edges_in ts (fed m (f ∷ [])) c % 2 ^ 32 = λ c. omega (arith, edges_more ts c m f) in
      let counts : added_to (counts_at ts m) (rises_of (map was channels) (overs_of ts f)) ≡ counts_at ts (fed m (f ∷ [])) =
      ap (λ (l : List Bool). added_to (counts_at ts m) (rises_of (map was channels) l)) overs
      ∙ ap (added_to (counts_at ts m)) (rises_each was now channels)
      ∙ added_each (λ (c : ℕ). edges_in ts m c % 2 ^ 32) (λ (c : ℕ). rise (was c) (now c)) channels
      ∙ map_same _ _ channels one in
      let over : overs_of ts f ≡ map (over_in ts (m.before ++ (m.since ++ (f ∷ [])))) channels =
      overs
      ∙ map_same _ _ channels (λ (c : ℕ). sym (over_more ts c (m.before ++ m.since) f) ∙ ap (λ (l : List (List ℕ)). over_in ts l c) (append_assoc m.before m.since (f ∷ []))) in
      let timer : (timer_at m + (length m.since % 512 + 1) / 512) % 2 ^ 32 ≡ timer_at (fed m (f ∷ [])) = omega (arith, many) in
      let part : (length m.since % 512 + 1) % 512 ≡ length (m.since ++ (f ∷ [])) % 512 = omega (arith, many) in
      λ i. record { counts = counts i; timer = timer i; triggers = triggers_at m; part = part i; over = over i; latched = eighteen_at ts held }

  -- frames in a row
  frames_tally : (m : Moment) (n : ℕ) (l : List ℕ) → frame_samples * n ≤ length l → count_frames ts (tally_of ts m held) (frames_in n l) ≡ tally_of ts (fed m (frames_in n l)) held
  unfolding count_frames frames_in
  frames_tally m zero l h = ap (λ (fs : List (List ℕ)). tally_of ts (record { before = m.before; since = fs; opened = m.opened }) held) (sym (append-nil m.since))
  frames_tally m (suc n) l h =
      let f = take frame_samples l in
      let rest = drop frame_samples l in
      ap (λ (c : Scalers). count_frames ts c (frames_in n rest)) (frame_tally m f (omega (arith, length-take frame_samples l)))
      ∙ frames_tally (fed m (f ∷ [])) n rest (omega (arith, length-drop frame_samples l))
      ∙ ap (λ (fs : List (List ℕ)). tally_of ts (record { before = m.before; since = fs; opened = m.opened }) held) (append_assoc m.since (f ∷ []) (frames_in n rest))

  samples_tally : (m : Moment) (samples : List ℕ) → count_frames ts (tally_of ts m held) (frames_of samples) ≡ tally_of ts (fed m (frames_of samples)) held
  unfolding frames_of
  samples_tally m samples = frames_tally m (length samples / frame_samples) samples (omega arith)

-- ---- set up, an event, a latch, a reset

fresh_tally : (ts : List ℕ) → nothing_counted ≡ tally_of ts fresh fresh
unfolding nothing_counted tally_of edges last_over column
fresh_tally ts = refl

module _ (ts : List ℕ) (m held : Moment) where
  event_tally : triggered (tally_of ts m held) ≡ tally_of ts (one_more m) held
  unfolding triggered wrapped tally_of
  event_tally =
      let triggers : (triggers_at m + 1) % 2 ^ 32 ≡ triggers_at (one_more m) = omega arith in
      λ i. record { counts = counts_at ts m; timer = timer_at m; triggers = triggers i; part = length m.since % 512; over = (tally_of ts m held).over; latched = eighteen_at ts held }

  latch_tally : latched_now (tally_of ts m held) ≡ tally_of ts m m
  unfolding latched_now tally_of
  latch_tally = refl

  -- only the marks stay
  reset_tally : reset_now (tally_of ts m held) ≡ tally_of ts (anew m) held
  unfolding reset_now tally_of edges column
  reset_tally =
      let over : map (over_in ts (m.before ++ m.since)) channels ≡ map (over_in ts ((m.before ++ m.since) ++ [])) channels =
      ap (λ (fs : List (List ℕ)). map (over_in ts fs) channels) (sym (append-nil (m.before ++ m.since))) in
      λ i. record { counts = replicate 16 0; timer = 0; triggers = 0; part = 0; over = over i; latched = eighteen_at ts held }

-- ---- a call that counts nothing

-- the settings and the counts stay
abbrev Alike : State → State → Type 0
Alike s t = (t.settings ≡ s.settings) × (t.scalers ≡ s.scalers)

-- refused, it leaves the state
stays : (n : ℕ) (new old : State) (r : Answer) → told r.refusal ≡ n → r.state ≡ if_accepted n new old → (told r.refusal ≡ 0 → ⊥)
    → Alike old r.state
stays n new old r e f ne =
    let s = f ∙ refused n new old (λ z. ne (e ∙ z)) in
    (ap (λ (x : State). x.settings) s, ap (λ (x : State). x.scalers) s)

-- accepted or refused
either : (n : ℕ) (new old : State) {left : State} → left ≡ if_accepted n new old → Alike old new → Alike old left
either n new old e a = subst (Alike old) (sym e) (go (eqb n 0))
  where
    go : (b : Bool) → Alike old (cond b new old)
    go true = a
    go false = (refl, refl)

uncounted : {s t : State} → Uncounted s t → Alike s t
unfolding with_block with_mark with_closed idle
uncounted {s} (block words number events r words' says) =
    let size = s.words + length (block_items s.settings number events) in
    either (open_block_number s (length words) number events) (with_block s number events size) s says.state (refl, refl)
uncounted {s} (post store c w r store' says) =
    either (post_number s (length store) c w) (with_mark s (set s.posted c true)) s says.state (refl, refl)
uncounted {s} (close store words asked r words' says) =
    let size = s.words + length (closing_items s asked store) in
    either (close_number s asked store (length words)) (with_closed s size) s says.state (refl, refl)
uncounted {s} (finish words r words' says) = either (finish_number s (length words)) (idle s.settings s.scalers) s says.state (refl, refl)
uncounted {s} (no_frames samples r says ne) = stays (count_number s samples) (with_frames s samples) s r says.refusal says.state ne
uncounted {s} (no_event number time r says ne) = stays (open_event_number s number time) (with_event s number time) s r says.refusal says.state ne
uncounted {s} (no_latch r says ne) = stays (latch_number s) (with_scalers s (latched_now s.scalers)) s r says.refusal says.state ne
uncounted {s} (no_reset r says ne) = stays (reset_number s) (with_scalers s (reset_now s.scalers)) s r says.refusal says.state ne

-- ---- the theorem

-- sixteen thresholds, and the counts are the tally
record Told (now held : Moment) (s : State) : Type 0 where
  sixteen : length s.settings.thresholds ≡ 16
  tally : s.scalers ≡ tally_of s.settings.thresholds now held

-- an accepted call leaves the new state
moves : {now held : Moment} (n : ℕ) (new old : State) (r : Answer) → told r.refusal ≡ n → r.state ≡ if_accepted n new old
    → told r.refusal ≡ 0 → Told now held new → Told now held r.state
moves {now} {held} n new old r e f z h = subst (Told now held) (sym (f ∙ done new old (sym e ∙ z))) h

tells : {s : State} {now held : Moment} → Tallied s now held → Told now held s
unfolding idle with_scalers with_event
tells (set_up settings r sixteen says z) =
    moves (set_up_number settings) (idle settings nothing_counted) blank r says.refusal says.state z (record { sixteen = sixteen; tally = fresh_tally settings.thresholds })
tells (frames {s} {now} {held} run samples r says z) =
    let h = tells run in
    let ts = s.settings.thresholds in
    let counts = ap (λ (c : Scalers). count_frames ts c (frames_of samples)) h.tally ∙ samples_tally ts h.sixteen held now samples in
    moves (count_number s samples) (with_frames s samples) s r says.refusal says.state z (record { sixteen = h.sixteen; tally = counts })
tells (event {s} {now} {held} run number time r says z) =
    let h = tells run in
    let counts = ap triggered h.tally ∙ event_tally s.settings.thresholds now held in
    moves (open_event_number s number time) (with_event s number time) s r says.refusal says.state z (record { sixteen = h.sixteen; tally = counts })
tells (latch {s} {now} {held} run r says z) =
    let h = tells run in
    let counts = ap latched_now h.tally ∙ latch_tally s.settings.thresholds now held in
    moves (latch_number s) (with_scalers s (latched_now s.scalers)) s r says.refusal says.state z (record { sixteen = h.sixteen; tally = counts })
tells (reset {s} {now} {held} run r says z) =
    let h = tells run in
    let counts = ap reset_now h.tally ∙ reset_tally s.settings.thresholds now held in
    moves (reset_number s) (with_scalers s (reset_now s.scalers)) s r says.refusal says.state z (record { sixteen = h.sixteen; tally = counts })
tells (other {s} {t} {now} {held} run call) =
    let h = tells run in
    let a = uncounted call in
    let thresholds = ap (λ (c : Settings). c.thresholds) a.0 in
    record { sixteen = ap length thresholds ∙ h.sixteen; tally = a.1 ∙ h.tally ∙ ap (λ (ts : List ℕ). tally_of ts now held) (sym thresholds) }

-- after any calls since a set up all that is counted is the tally of the frames fed and the events opened
pub tallies : {s : State} {now held : Moment} → Tallied s now held → s.scalers ≡ tally_of s.settings.thresholds now held
tallies run = (tells run).tally

-- ---- what follows

each_at : (f : ℕ → ℕ) (k n c : ℕ) → c < n → get_or (map f (up_from k n)) c 0 ≡ f (k + c)
each_at f k zero c h = absurd (omega arith)
each_at f k (suc n) zero h = ap f (omega arith)
each_at f k (suc n) (suc c) h = each_at f (suc k) n c (omega arith) ∙ ap f (omega arith)

-- with no frame before a reset, a channel's count is how often it went over in all its samples, the first as if it had been under
pub from_set_up : {s : State} {fs : List (List ℕ)} {opened : ℕ} {held : Moment} → Tallied s (record { before = []; since = fs; opened = opened }) held
    → (c : ℕ) → c < 16 → get_or s.scalers.counts c 0 ≡ edges (get_or s.settings.thresholds c 0) false (column c fs) % 2 ^ 32
unfolding tally_of last_over column
from_set_up {s} {fs} run c h =
    let each : ℕ → ℕ = λ d. edges (get_or s.settings.thresholds d 0) false (column d fs) % 2 ^ 32 in
    ap (λ (n : Scalers). get_or n.counts c 0) (tallies run) ∙ each_at each 0 16 c h ∙ ap each (omega arith)

-- the latched counts are those of the last latch, zero before any; an accepted latch makes it now
pub latched_tally : {s : State} {now held : Moment} → Tallied s now held → s.scalers.latched ≡ eighteen_at s.settings.thresholds held
unfolding tally_of
latched_tally run = ap (λ (n : Scalers). n.latched) (tallies run)

-- so an event closed on request ends with type 12 and the tally of the last latch
pub event_ends : {s : State} {now held : Moment} → Tallied s now held → (store words : List ℕ) (r : Answer) (words' : List ℕ) → CloseSays s store words true r words'
    → told r.refusal ≡ 0
    → words' ≡ splice words s.words (words_of (event_items s.settings s.event s.time s.posted store ++ scaler_items (eighteen_at s.settings.thresholds held)))
unfolding tail_items
event_ends {s} run store words r words' says z =
    let ends : List ℕ → List ℕ = λ l. splice words s.words (words_of (event_items s.settings s.event s.time s.posted store ++ scaler_items l)) in
    says.buffer ∙ done _ _ (sym says.refusal ∙ z) ∙ ap ends (latched_tally run)
