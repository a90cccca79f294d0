-- Demands 2 and 3 from C: a run of the C calls is a run of the calls, so what the calls write, and a channel's words, are what C gets. Assumes nothing.
use Rattle.std.specs.Prelude.{ℕ, ◌-◌, ◌^◌, ◌<◌, ◌≡◌, refl, Bool, true, false, cond, List, [], ◌∷◌, ◌++◌, length, get_or, take, drop}
use Rattle.std.proofs.Common.{sym, ap, ◌∙◌, subst, arith}
use Rattle.ground.specs.Order.{Perm}
use Rattle.refusals.specs.Refusal.{told}
use Rattle.items.specs.declared.Item.{Item}
use Rattle.modes.specs.Channel.{common_of, channel_words}
use Rattle.scan.specs.After.{start_of}
use Rattle.scalers.specs.declared.Scalers.{Scalers}
use Rattle.scalers.specs.Scalers.{nothing_counted}
use Rattle.state.specs.declared.State.{State}
use Rattle.state.specs.State.{with_scalers}
use Rattle.writer.specs.Answer.{Finished}
use Rattle.writer.specs.Calls.{OpenEventSays, FinishSays}
use Rattle.closing.specs.Closing.{CloseSays}
use Rattle.block.specs.Block.{end_items}
use Rattle.writer.specs.CallsLaws.{done}
use Rattle.bytecheck.specs.Check.{check_number}
use Rattle.places.specs.Places.{is_state}
use Rattle.numbers.specs.Numbers.{table, marks_from, state_from, numbers_of}
use Rattle.numbers.specs.On.{on_state}
use Rattle.host.specs.Face.{FinishFace}
use Rattle.hostcount.specs.FaceLaws.{loaded, thresholds}
use Rattle.numbers.specs.BackLaws.{Loads, numbers_back}
use Rattle.owners.specs.Order.{Bench, Post, Aside, PostRun, Apart}
use Rattle.owners.specs.Order as P
use Rattle.owners.proofs.OrderLaws.{order, order_alone}
use Rattle.owners.specs.Own.{EventRun, Alike, posted_window, closed_words, of_channel, words_for}
use Rattle.owners.proofs.AloneLaws.{own_words, no_window, own_alone, whole_event}
use Rattle.layout.specs.NothingLost.{AllWords}
use Rattle.claims.specs.Run.{Run}
use Rattle.claims.specs.Run as R
use Rattle.claims.proofs.RunLaws.{ReadBack, run_reads_back}
use Rattle.claims.specs.Reads.{Reads}
use Rattle.claims.proofs.ReadsLaws.{run_next}
use Rattle.claims.specs.Bytes.{bytes_of_words}
use Rattle.claims.proofs.CheckLaws.{run_checked}
use Rattle.claims.specs.FromC.{Call, CRun, IsRun, CPostRun, CEventRun, event_settings, c_closed_words, c_words_for, CAlike}
use Rattle.claims.specs.FromC as C
use Rattle.claims.specs.FromCLaws.{over, below, open_block_call, open_event_call, post_call, aside_call, close_call, finish_call}

-- ---- a run

-- a call that gave 0 was on a state
was_state : (n : List ℕ) (k : ℕ) → 0 ≡ on_state n k → is_state n ≡ true
was_state n k h = go (is_state n) h
  where
    go : (b : Bool) → 0 ≡ cond b k 10 → b ≡ true
    go true e = refl
    go false e = absurd (omega arith)

on_state_lem : (n : List ℕ) (k : ℕ) → is_state n ≡ true → on_state n k ≡ k
on_state_lem n k e = ap (λ (b : Bool). cond b k 10) e

sixteen : (n : List ℕ) → length (state_from n).posted ≡ 16
unfolding state_from marks_from table
sixteen n = refl

is_run : {n words : List ℕ} {xs : List Item} {s : State} → Loads n s → Run s words xs → IsRun n words xs
is_run {words = words} {xs = xs} l r = (l.state, subst (λ (s : State). Run s words xs) (sym l.back) r)

pub c_run : {n words : List ℕ} {xs : List Item} → CRun n words xs → IsRun n words xs
c_run (C.opened n words block events n' words' f) =
    let e = was_state n _ f.number in
    let k = open_block_call n words block events 0 n' words' e f in
    is_run k.state (R.opened (state_from n) words block events k.answer words' (thresholds n e) (loaded n e) k.said k.number)
c_run (C.begun {n} {words} {xs} run event time r n' f) =
    let i = c_run run in
    let k = open_event_call n event time r n' i.0 f in
    is_run k.state (R.begun i.1 event time k.answer k.said)
c_run (C.posted {n} {words} {xs} run store c w r n' store' f) =
    let i = c_run run in
    let k = post_call n store c w r n' store' i.0 f in
    is_run k.state (R.posted i.1 store c w k.answer store' k.said)
c_run (C.counted {n} {words} {xs} run a r n' f) =
    let i = c_run run in
    let k = aside_call n a r n' i.0 f in
    is_run k.state (R.counted i.1 a k.answer k.said)
c_run (C.closed {n} {words} {xs} run store asked n' words' f) =
    let i = c_run run in
    let k = close_call n store words asked 0 n' words' i.0 f in
    is_run k.state (R.closed i.1 store asked k.answer words' k.said k.number)
c_run (C.not_closed {n} {words} {xs} run store asked r n' words' f ne) =
    let i = c_run run in
    let k = close_call n store words asked r n' words' i.0 f in
    is_run k.state (R.not_closed i.1 store asked k.answer words' k.said (λ z. ne (sym k.number ∙ z)))
c_run (C.not_opened {n} {words} {xs} run block events r n' words' f ne) =
    let i = c_run run in
    let k = open_block_call n words block events r n' words' i.0 f in
    is_run k.state (R.not_opened i.1 block events k.answer words' k.said (λ z. ne (sym k.number ∙ z)))
c_run (C.not_finished {n} {words} {xs} run r n' words' f l) =
    let i = c_run run in
    let k = finish_call n words r n' words' i.0 f in
    is_run k.state (R.not_finished i.1 k.answer words' k.said (λ z. over n words r n' words' f l (on_state_lem n _ i.0 ∙ (sym k.said.refusal ∙ z))))

-- ---- the round trip

-- an accepted finish behind a run of C calls: the library's run, and its finish with that length
record Ended (n words : List ℕ) (xs : List Item) (r : ℕ) (words' : List ℕ) : Type 0 where
  run : Run (state_from n) words xs
  answer : Finished
  said : FinishSays (state_from n) words answer words'
  accepted : told answer.refusal ≡ 0
  length : answer.length ≡ r

ended : {n words : List ℕ} {xs : List Item} → CRun n words xs → (r : ℕ) (n' words' : List ℕ) → FinishFace n words r n' words' → r < 2 ^ 32 → Ended n words xs r words'
ended {n} {words} {xs} run r n' words' f l =
    let i = c_run run in
    let k = finish_call n words r n' words' i.0 f in
    let z : told k.answer.refusal ≡ 0 = k.said.refusal ∙ (sym (on_state_lem n _ i.0) ∙ below n words r n' words' f l) in
    record { run = i.1; answer = k.answer; said = k.said; accepted = z; length = sym (done k.answer.length _ z) ∙ k.number }

-- the words are those of the records, and the reader gives them back
pub c_run_reads_back : {n words : List ℕ} {xs : List Item} → CRun n words xs → (r : ℕ) (n' words' : List ℕ) → FinishFace n words r n' words' → r < 2 ^ 32
    → ReadBack (xs ++ end_items (state_from n).settings (state_from n).words) r words'
c_run_reads_back {n} {words} {xs} run r n' words' f l =
    let k = ended run r n' words' f l in
    subst (λ (i : ℕ). ReadBack (xs ++ end_items (state_from n).settings (state_from n).words) i words') k.length (run_reads_back k.run k.answer words' k.said k.accepted)

-- so does `next`, record by record
pub c_run_next : {n words : List ℕ} {xs : List Item} → CRun n words xs → (r : ℕ) (n' words' : List ℕ) → FinishFace n words r n' words' → r < 2 ^ 32
    → Reads (take r words') start_of (xs ++ end_items (state_from n).settings (state_from n).words) r
c_run_next {n} {words} {xs} run r n' words' f l =
    let k = ended run r n' words' f l in
    subst (λ (i : ℕ). Reads (take i words') start_of (xs ++ end_items (state_from n).settings (state_from n).words) i) k.length (run_next k.run k.answer words' k.said k.accepted)

-- and the C check of its bytes answers the number that the finish answered
pub c_run_checked : {n words : List ℕ} {xs : List Item} → CRun n words xs → (r : ℕ) (n' words' : List ℕ) → FinishFace n words r n' words' → r < 2 ^ 32 → AllWords words'
    → check_number (bytes_of_words (take r words')) ≡ r
c_run_checked run r n' words' f l w =
    let k = ended run r n' words' f l in
    subst (λ (i : ℕ). check_number (bytes_of_words (take i words')) ≡ i) k.length (run_checked k.run k.answer words' k.said k.accepted w)

-- ---- one event

abbrev bench : List ℕ → List ℕ → Bench
bench n store = record { state = state_from n; store = store }

c_posts : {n store m rows : List ℕ} {l : List Post} {ns : List (Post × ℕ)} {ks : List Aside} {is : List ℕ} → is_state n ≡ true → CPostRun n store l ns ks is m rows
    → (is_state m ≡ true) × PostRun (bench n store) l ns ks is (bench m rows)
c_posts e C.none = (e, P.none)
c_posts e (C.one {n} {store} {m} {rows} p {l} {ns} {ks} {is} r n' store' f rest) =
    let k = post_call n store p.channel p.window r n' store' e f in
    let i = c_posts k.state.state rest in
    let more : PostRun (record { state = k.answer.state; store = store' }) l ns ks is (bench m rows) =
    subst (λ (s : State). PostRun (record { state = s; store = store' }) l ns ks is (bench m rows)) k.state.back i.1 in
    (i.0, subst (λ (j : ℕ). PostRun (bench n store) (p ∷ l) ((p, j) ∷ ns) ks is (bench m rows)) k.number (P.one p k.answer store' k.said more))
c_posts e (C.aside {n} {store} {m} {rows} a {l} {ns} {ks} {is} r n' f rest) =
    let k = aside_call n a r n' e f in
    let i = c_posts k.state.state rest in
    let more : PostRun (record { state = k.answer.state; store = store }) l ns ks is (bench m rows) =
    subst (λ (s : State). PostRun (record { state = s; store = store }) l ns ks is (bench m rows)) k.state.back i.1 in
    (i.0, subst (λ (j : ℕ). PostRun (bench n store) l ns (a ∷ ks) (j ∷ is) (bench m rows)) k.number (P.aside a k.answer k.said more))

-- "Each post is accepted, or refused with the same number, alike in every order, and the state and store at the end are the same", number by number; the same
-- calls that count between any two of them are answered alike too
pub c_order : {n store m rows m' rows' : List ℕ} {l l' : List Post} {ns ms : List (Post × ℕ)} {ks : List Aside} {is js : List ℕ} → is_state n ≡ true → Apart l → Perm l l'
    → CPostRun n store l ns ks is m rows → CPostRun n store l' ms ks js m' rows' → Perm ns ms × ((is ≡ js) × ((m ≡ m') × (rows ≡ rows')))
c_order {m = m} {m' = m'} e a r x y =
    let i = c_posts e x in
    let j = c_posts e y in
    let o = order a r i.1 j.1 in
    let end = o.1.1 in
    (o.0, (o.1.0, (sym (numbers_back m i.0) ∙ (ap (λ (b : Bench). numbers_of b.state) end ∙ numbers_back m' j.0), ap (λ (b : Bench). b.store) end)))

-- where other calls count between them, or none, the posts are answered alike too, and the state and store at the end are the same but for what is counted
pub c_order_alone : {n store m rows m' rows' : List ℕ} {l l' : List Post} {ns ms : List (Post × ℕ)} {ks js : List Aside} {is hs : List ℕ} → is_state n ≡ true → Apart l → Perm l l'
    → CPostRun n store l ns ks is m rows → CPostRun n store l' ms js hs m' rows'
    → Perm ns ms × (((c : Scalers) → with_scalers (state_from m) c ≡ with_scalers (state_from m') c) × (rows ≡ rows'))
c_order_alone e a r x y =
    let o = order_alone a r (c_posts e x).1 (c_posts e y).1 in
    (o.0, (λ c. ap (λ (b : Bench). b.state) (o.1 c), ap (λ (b : Bench). b.store) (o.1 nothing_counted)))

-- an event by C calls is one by the calls
before_state : (e : CEventRun) → is_state e.before ≡ true
before_state e = was_state e.before _ e.opened.number

opening : (e : CEventRun) → Call (λ a. OpenEventSays (state_from e.before) e.number e.time a) 0 e.start
opening e = open_event_call e.before e.number e.time 0 e.start (before_state e) e.opened

between : (e : CEventRun)
    → (is_state e.end ≡ true) × PostRun (bench e.start e.store) e.posts e.answers e.asides e.told (bench e.end e.store')
between e = c_posts (opening e).state.state e.posted

closing : (e : CEventRun) → Call (λ a. CloseSays (state_from e.end) e.store' e.words e.asked a e.words') 0 e.after
closing e = close_call e.end e.store' e.words e.asked 0 e.after e.words' (between e).0 e.closed

abbrev event_of : CEventRun → EventRun
event_of e =
    let k = opening e in
    let sizes = loaded e.before (before_state e) in
    record {
      start = bench e.start e.store;
      opened =
          record {
            before = state_from e.before;
            number = e.number;
            time = e.time;
            answer = k.answer;
            says = k.said;
            accepted = k.number;
            sixteen = sixteen e.before;
            counts = sizes.counts.0;
            eighteen = sizes.latched.0;
            gave = k.state.back;
          };
      posts = e.posts;
      apart = e.apart;
      answers = e.answers;
      asides = e.asides;
      told = e.told;
      end = bench e.end e.store';
      posted = (between e).1;
      words = e.words;
      asked = e.asked;
      answer = (closing e).answer;
      words' = e.words';
      says = (closing e).said;
      accepted = (closing e).number;
    }

-- with the same words
same_closed : (e : CEventRun) → c_closed_words e ≡ closed_words (event_of e)
same_closed e =
    let at : ℕ = (state_from e.end).words in
    ap (λ (s : State). take (s.words - at) (drop at e.words')) (closing e).state.back

same_words : (e : CEventRun) (c : ℕ) → c_words_for e c ≡ words_for (event_of e) c
same_words e c = ap (of_channel c false 0) (same_closed e)

pub c_own_words : (e : CEventRun) (c : ℕ) (w : List ℕ) → posted_window e.answers c ≡ w ∷ []
    → c_words_for e c ≡ channel_words (common_of (event_settings e)) (get_or (event_settings e).thresholds c 0) c w
c_own_words e c w k = same_words e c ∙ own_words (event_of e) c w k

pub c_no_window : (e : CEventRun) (c : ℕ) → posted_window e.answers c ≡ [] → c_words_for e c ≡ []
c_no_window e c k = same_words e c ∙ no_window (event_of e) c k

pub c_own_alone : (e f : CEventRun) (c : ℕ)
    → common_of (event_settings e) ≡ common_of (event_settings f)
    → get_or (event_settings e).thresholds c 0 ≡ get_or (event_settings f).thresholds c 0
    → posted_window e.answers c ≡ posted_window f.answers c
    → c_words_for e c ≡ c_words_for f c
c_own_alone e f c s t k = same_words e c ∙ (own_alone (event_of e) (event_of f) c s t k ∙ sym (same_words f c))

-- "which holds with the latched counts as one more common input": two events that are alike have the same words
pub c_whole_event : (e f : CEventRun) → CAlike e f → c_closed_words e ≡ c_closed_words f
c_whole_event e f a = same_closed e ∙ (whole_event (event_of e) (event_of f) alike ∙ sym (same_closed f))
  where
    alike : Alike (event_of e) (event_of f)
    alike =
        record {
          common = a.common;
          slot = a.slot;
          times = a.times;
          number = a.number;
          time = a.time;
          thresholds = a.thresholds;
          windows = a.windows;
          asked = a.asked;
          latched = a.latched;
        }
