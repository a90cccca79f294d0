-- What a close after posts writes, in closed form: for each channel, rising, the records of its own posted window. Assumes nothing.
use Rattle.std.specs.Prelude.{ℕ, zero, suc, ◌+◌, ◌*◌, ◌≤◌, ◌<◌, ◌≡◌, ◌≢◌, Bool, not, cond, ◌&&◌, drop}
use Rattle.std.proofs.Math.Path.{refl, ap₂, subst}
use Rattle.std.proofs.Common.{sym, ap, ◌∙◌, arith, length-set, length-append, get_or-set_same, get_or-set_other}
use Rattle.std.proofs.Math.Bool.{true, false}
use mathlib.Core.List.{List, [], ◌∷◌, ◌++◌, map}
use borrow.Author.Tests.{eqb-true, eqb-false, eq-eqb, ne_eqb, not-true}
use Rattle.std.proofs.Math.Dec.{eqb}
use Rattle.std.proofs.Math.ListN.{length, get_or}
use Rattle.ground.specs.Order.{ToEach, steps}
use Rattle.ground.specs.SpliceLaws.{row_same, row_before, row_behind}
use Rattle.ground.specs.TestsLaws.{and_left, and_right}
use Rattle.settings.specs.declared.Settings.{Settings}
use Rattle.items.specs.declared.Item.{Item}
use Rattle.items.specs.declared.Item.TheVariants as I
use Rattle.modes.specs.Channel.{common_of, channel_items}
use Rattle.rows.specs.Rows.{row}
use Rattle.event.specs.Event.{time_items, channels_items, event_items}
use Rattle.rows.specs.RowsLaws.{row_end}
use Rattle.event.proofs.EventLaws.{channel_at, channels_step, channels_end}
use Rattle.state.specs.declared.State.{State}
use Rattle.scalers.specs.declared.Scalers.{Scalers}
use Rattle.scalers.specs.Scalers.{overs_of, rises_of, added_to, count_frame, frames_of, count_frames, triggered, latched_now, reset_now}
use Rattle.state.specs.State.{no_marks, with_event, with_mark, with_scalers}
use Rattle.writer.specs.CallsLaws.{done, refused}
use Rattle.refusing.specs.TablesLaws.{open_event_accepted}
use Rattle.state.specs.StateLaws.{block_says}
use Rattle.owners.specs.Order.{Bench, Post, Aside, frames, latch, reset, Differ, Apart}
use Rattle.owners.specs.AsideLaws.{zero_or, aside_number, counted, scalers_after, beside, asides}
use Rattle.owners.proofs.OrderLaws.{answer_of, after, posts, answered, either_way, marked, left, has, after_done, after_refused, fits, number_after}
use Rattle.owners.specs.Own.{JustOpened, posted_window}

-- the window that channel c posts of a list, each post answered as if it came first
abbrev pub window_for : Bench → List Post → ℕ → List (List ℕ)
window_for b l c = posted_window (map (answered b) l) c

-- what channel c writes for it: of the common settings, its own threshold, its number and that window
abbrev pub items_for : Settings → ℕ → List (List ℕ) → List Item
items_for s c [] = []
items_for s c (w ∷ more) = channel_items (common_of s) (get_or s.thresholds c 0) c w

-- n channels from c on, rising
unfoldable pub own_items : Settings → (ℕ → List (List ℕ)) → ℕ → ℕ → List Item
own_items s windows c zero = []
own_items s windows c (suc n) = items_for s c (windows c) ++ own_items s windows (c + 1) n

-- the header, the time words, and for each channel, rising, the records of its own window
abbrev pub own_event : Settings → ℕ → ℕ → (ℕ → List (List ℕ)) → List Item
own_event s number time windows = I.Event (record { slot = s.slot; number = number }) ∷ (time_items s.times time ++ own_items s windows 0 16)

-- the records of the event but its scalers, if it closed now
abbrev pub records_of : Bench → List Item
records_of b = event_items b.state.settings b.state.event b.state.time b.state.posted b.store

-- ---- what posts leave alone

-- what channel c would write if the event closed now
abbrev part_at : Bench → ℕ → List Item
part_at b c = channel_at b.state.settings b.store b.state.posted c

-- the settings, the event's number and time, what is counted
record Same (a b : Bench) : Type 0 where
  settings : a.state.settings ≡ b.state.settings
  event : a.state.event ≡ b.state.event
  time : a.state.time ≡ b.state.time
  scalers : a.state.scalers ≡ b.state.scalers
  marks : length a.state.posted ≡ length b.state.posted

same_after : (b : Bench) (p : Post) → Same (after b p) b
unfolding left marked with_mark
same_after b p =
    zero_or (answer_of b p)
    (λ e. rw (after_done b p e) (record { settings = refl; event = refl; time = refl; scalers = refl; marks = length-set b.state.posted p.channel true }))
    (λ e. rw (after_refused b p e) (record { settings = refl; event = refl; time = refl; scalers = refl; marks = refl }))

same_posts : (b : Bench) (l : List Post) → Same (posts b l) b
unfolding steps
same_posts b [] = record { settings = refl; event = refl; time = refl; scalers = refl; marks = refl }
same_posts b (p ∷ l) =
    let i = same_posts (after b p) l in
    let j = same_after b p in
    record { settings = i.settings ∙ j.settings; event = i.event ∙ j.event; time = i.time ∙ j.time; scalers = i.scalers ∙ j.scalers; marks = i.marks ∙ j.marks }

-- another channel's row and mark
other_row : (b : Bench) (p : Post) (c : ℕ) → c ≢ p.channel → answer_of b p ≡ 0
    → row b.state.settings.nw c (left b p).store ≡ row b.state.settings.nw c b.store
unfolding row left
other_row b p c h e =
    let n = b.state.settings.nw in
    let at = p.channel * n in
    let g : at ≤ length b.store = omega (arith, fits b p e) in
    either_way c p.channel h
    (λ k. row_before b.store at p.window (c * n) n g (row_end c p.channel n k))
    (λ k. row_behind b.store at p.window (c * n) n g (rw (has b p e).whole (row_end p.channel c n k)))

part_left : (b : Bench) (p : Post) (c : ℕ) → c ≢ p.channel → answer_of b p ≡ 0 → part_at (left b p) c ≡ part_at b c
unfolding left marked with_mark
part_left b p c h e =
    let s = b.state.settings in
    ap₂ (λ (m : Bool) (w : List ℕ). cond m (channel_items (common_of s) (get_or s.thresholds c 0) c w) [])
    (get_or-set_other b.state.posted p.channel c true false h) (other_row b p c h e)

part_after : (b : Bench) (p : Post) (c : ℕ) → c ≢ p.channel → part_at (after b p) c ≡ part_at b c
part_after b p c h =
    zero_or (answer_of b p)
    (λ e. ap (λ (t : Bench). part_at t c) (after_done b p e) ∙ part_left b p c h e)
    (λ e. ap (λ (t : Bench). part_at t c) (after_refused b p e))

-- no post of the list is for channel c
abbrev NoneFor : ℕ → List Post → Type 0
NoneFor c [] = Unit {0}
NoneFor c (p ∷ l) = (c ≢ p.channel) × NoneFor c l

none_for : (p : Post) (l : List Post) (c : ℕ) → p.channel ≡ c → ToEach Differ p l → NoneFor c l
none_for p [] c e t = tt
none_for p (q ∷ l) c e t = ((λ z. t.0 (e ∙ z)), none_for p l c e t.1)

part_kept : (b : Bench) (l : List Post) (c : ℕ) → NoneFor c l → part_at (posts b l) c ≡ part_at b c
unfolding steps
part_kept b [] c n = refl
part_kept b (p ∷ l) c n = part_kept (after b p) l c n.1 ∙ part_after b p c n.0

window_none : (b : Bench) (l : List Post) (c : ℕ) → NoneFor c l → window_for b l c ≡ []
unfolding posted_window
window_none b [] c n = refl
window_none b (p ∷ l) c n = rw (ne_eqb p.channel c (λ e. n.0 (sym e))) (window_none b l c n.1)

-- no post for a channel over 15 is accepted
pub window_out : (b : Bench) (l : List Post) (c : ℕ) → 16 ≤ c → window_for b l c ≡ []
unfolding posted_window
window_out b [] c h = refl
window_out b (p ∷ l) c h = go (eqb p.channel c) refl (window_out b l c h)
  where
    go : (t : Bool) → eqb p.channel c ≡ t → window_for b l c ≡ [] → cond (t && eqb (answer_of b p) 0) (p.window ∷ []) (window_for b l c) ≡ []
    go true e i = rw (ne_eqb (answer_of b p) 0 (λ z. omega (arith, eqb-true p.channel c e, (has b p z).channel))) i
    go false e i = i

window_after : (b : Bench) (p : Post) (l : List Post) (c : ℕ) → ToEach Differ p l → window_for (after b p) l c ≡ window_for b l c
unfolding posted_window
window_after b p [] c t = refl
window_after b p (q ∷ l) c t = rw (number_after b p q (λ e. t.0 (sym e)), window_after b p l c t.1)

-- ---- its own post

-- an accepted post stands in its row, and is marked
part_own : (b : Bench) (p : Post) → p.channel < length b.state.posted → answer_of b p ≡ 0
    → part_at (left b p) p.channel ≡ items_for b.state.settings p.channel (p.window ∷ [])
unfolding left marked with_mark row
part_own b p h e =
    let s = b.state.settings in
    let c = p.channel in
    let at : c * s.nw ≤ length b.store = omega (arith, fits b p e) in
    ap₂ (λ (m : Bool) (w : List ℕ). cond m (channel_items (common_of s) (get_or s.thresholds c 0) c w) [])
    (get_or-set_same b.state.posted c true false h)
    (rw (has b p e).whole at (row_same b.store (c * s.nw) p.window at))

mark_after : (b : Bench) (p : Post) (c : ℕ) → c ≢ p.channel → get_or (after b p).state.posted c false ≡ get_or b.state.posted c false
unfolding left marked with_mark
mark_after b p c h =
    zero_or (answer_of b p)
    (λ e. ap (λ (t : Bench). get_or t.state.posted c false) (after_done b p e) ∙ get_or-set_other b.state.posted p.channel c true false h)
    (λ e. ap (λ (t : Bench). get_or t.state.posted c false) (after_refused b p e))

-- the first post is for channel c
own_here : (b : Bench) (p : Post) (l : List Post) → let c = p.channel in c < length b.state.posted → get_or b.state.posted c false ≡ false → NoneFor c l
    → part_at (posts (after b p) l) c ≡ items_for b.state.settings c (window_for b (p ∷ l) c)
unfolding posted_window
own_here b p l h m n =
    part_kept (after b p) l p.channel n
    ∙ zero_or (answer_of b p)
    (λ z. ap (λ (t : Bench). part_at t p.channel) (after_done b p z) ∙ rw (eq-eqb p.channel p.channel refl, z) (part_own b p h z))
    (λ z. ap (λ (t : Bench). part_at t p.channel) (after_refused b p z)
    ∙ rw (m, eq-eqb p.channel p.channel refl, ne_eqb (answer_of b p) 0 z, window_none b l p.channel n))

module _ (c : ℕ) where
  own_part : (b : Bench) (l : List Post) → c < length b.state.posted → get_or b.state.posted c false ≡ false → Apart l
      → part_at (posts b l) c ≡ items_for b.state.settings c (window_for b l c)
  unfolding steps posted_window
  own_part b [] h m a = rw m
  own_part b (p ∷ l) h m a = go (eqb p.channel c) refl (λ h' m'. own_part (after b p) l h' m' a.1)
    where
      go : (t : Bool) → eqb p.channel c ≡ t
          → (c < length (after b p).state.posted → get_or (after b p).state.posted c false ≡ false
          → part_at (posts (after b p) l) c ≡ items_for (after b p).state.settings c (window_for (after b p) l c))
          → part_at (posts (after b p) l) c ≡ items_for b.state.settings c (window_for b (p ∷ l) c)
      go true e r = here c (eqb-true p.channel c e) h m
        where
          here : (d : ℕ) → p.channel ≡ d → d < length b.state.posted → get_or b.state.posted d false ≡ false
              → part_at (posts (after b p) l) d ≡ items_for b.state.settings d (window_for b (p ∷ l) d)
          here d q h m = subst (λ (k : ℕ). k < length b.state.posted → get_or b.state.posted k false ≡ false → part_at (posts (after b p) l) k ≡ items_for b.state.settings k (window_for b (p ∷ l) k)) q
              (λ h m. own_here b p l h m (none_for p l p.channel refl a.0)) h m
      go false e r =
          let d : c ≢ p.channel = λ z. eqb-false _ _ e (sym z) in
          let j = same_after b p in
          r (rw j.marks h) (mark_after b p c d ∙ m)
          ∙ ap₂ (λ (s : Settings) (ws : List (List ℕ)). items_for s c ws) j.settings (window_after b p l c a.0)
          ∙ rw e

-- ---- all channels

unmarked : (ms : List Bool) (c : ℕ) → no_marks ms ≡ true → get_or ms c false ≡ false
unfolding no_marks
unmarked [] c h = refl
unmarked (m ∷ ms) zero h = not-true m (and_left (not m) _ h)
unmarked (m ∷ ms) (suc c) h = unmarked ms c (and_right (not m) _ h)

-- nothing is posted in an event just opened
record Unposted (s : State) : Type 0 where
  sixteen : length s.posted ≡ 16
  none : no_marks s.posted ≡ true

unposted : {s : State} → JustOpened s → Unposted s
unfolding with_event
unposted o =
    let n = sym o.says.refusal ∙ o.accepted in
    let a = open_event_accepted o.before o.number o.time n in
    subst Unposted (sym (o.gave ∙ (o.says.state ∙ done _ _ n))) (record { sixteen = o.sixteen; none = (block_says o.before a.state a.turn).clear })

own_channels : (b : Bench) (l : List Post) → Unposted b.state → Apart l → (c n : ℕ) → c + n ≡ 16
    → channels_items (posts b l).state.settings (posts b l).store c (drop c (posts b l).state.posted) ≡ own_items b.state.settings (window_for b l) c n
unfolding own_items
own_channels b l o a c zero e =
    channels_end (posts b l).state.settings (posts b l).store (posts b l).state.posted c (omega (arith, (same_posts b l).marks, o.sixteen))
own_channels b l o a c (suc n) e =
    channels_step (posts b l).state.settings (posts b l).store (posts b l).state.posted c (omega (arith, (same_posts b l).marks, o.sixteen))
    ∙ ap₂ (λ (x y : List Item). x ++ y)
    (own_part c b l (omega (arith, o.sixteen)) (unmarked b.state.posted c o.none) a)
    (own_channels b l o a (c + 1) n (omega arith))

-- for each channel, rising, the records of its own window; whatever the store held before
pub own_records : (b : Bench) (l : List Post) → JustOpened b.state → Apart l
    → records_of (posts b l) ≡ own_event b.state.settings b.state.event b.state.time (window_for b l)
unfolding event_items
own_records b l o a =
    let s = same_posts b l in
    rw (own_channels b l (unposted o) a 0 16 refl, s.settings, s.event, s.time)

-- calls that count change none of them
pub records_asides : (b : Bench) (ks : List Aside) → records_of (asides b ks) ≡ records_of b
unfolding steps beside with_scalers
records_asides b [] = refl
records_asides b (k ∷ ks) = records_asides (beside b k) ks

-- the number and the time are those that the event was opened with
pub opened_as : {s : State} (o : JustOpened s) → (s.event ≡ o.number) × (s.time ≡ o.time)
unfolding with_event
opened_as o =
    let n = sym o.says.refusal ∙ o.accepted in
    let gave = o.gave ∙ (o.says.state ∙ done _ _ n) in
    (ap (λ (s : State). s.event) gave, ap (λ (s : State). s.time) gave)

-- ---- how much is counted

-- no more counts than the arrays hold
record Sized (c : Scalers) : Type 0 where
  counts : length c.counts ≤ 16
  latched : length c.latched ≤ 18

length_added : (xs ys : List ℕ) → length (added_to xs ys) ≤ length xs
unfolding added_to
length_added [] ys = omega arith
length_added (x ∷ xs) [] = omega arith
length_added (x ∷ xs) (y ∷ ys) = omega (arith, length_added xs ys)

sized_frames : (ts : List ℕ) (c : Scalers) (fs : List (List ℕ)) → Sized c → Sized (count_frames ts c fs)
unfolding count_frames count_frame
sized_frames ts c [] z = z
sized_frames ts c (f ∷ fs) z =
    let n = length_added c.counts (rises_of c.over (overs_of ts f)) in
    sized_frames ts (count_frame ts c f) fs (record { counts = omega (arith, n, z.counts); latched = z.latched })

sized_counted : (ts : List ℕ) (c : Scalers) (k : Aside) → Sized c → Sized (counted ts c k)
unfolding counted latched_now reset_now
sized_counted ts c (frames samples) z = sized_frames ts c (frames_of samples) z
sized_counted ts c latch z = record { counts = z.counts; latched = omega (arith, z.counts, length-append c.counts (c.timer ∷ c.triggers ∷ [])) }
sized_counted ts c reset z = record { counts = omega arith; latched = z.latched }

sized_beside : (s : State) (k : Aside) → Sized s.scalers → Sized (scalers_after s k)
unfolding scalers_after
sized_beside s k z =
    zero_or (aside_number s k)
    (λ e. subst Sized (sym (done _ _ e)) (sized_counted s.settings.thresholds s.scalers k z))
    (λ e. subst Sized (sym (refused (aside_number s k) _ _ e)) z)

sized_asides : (b : Bench) (ks : List Aside) → Sized b.state.scalers → Sized (asides b ks).state.scalers
unfolding steps beside with_scalers
sized_asides b [] z = z
sized_asides b (k ∷ ks) z = sized_asides (beside b k) ks (sized_beside b.state k z)

sized_opened : {s : State} → JustOpened s → Sized s.scalers
unfolding with_event triggered
sized_opened o =
    let n = sym o.says.refusal ∙ o.accepted in
    subst (λ (s : State). Sized s.scalers) (sym (o.gave ∙ (o.says.state ∙ done _ _ n))) (record { counts = omega (arith, o.counts); latched = omega (arith, o.eighteen) })

-- at most eighteen counts are latched
pub latched_le : (b : Bench) (l : List Post) (ks : List Aside) → JustOpened b.state → length (asides (posts b l) ks).state.scalers.latched ≤ 18
latched_le b l ks o = (sized_asides (posts b l) ks (subst Sized (sym (same_posts b l).scalers) (sized_opened o))).latched
