-- Posts for different channels may come in any order, and calls that count anywhere between them. Assumes nothing.
use Rattle.std.specs.Prelude.{ℕ, ◌+◌, ◌*◌, ◌≤◌, ◌<◌, ◌≡◌, refl, ◌≢◌, Bool, true, false, List, [], ◌∷◌, map, length, set}
use Rattle.std.proofs.Common.{sym, ap, ap₂, ◌∙◌, subst, arith, get_or-set_other}
use Rattle.std.proofs.lemmas.Bool.{false≢true}
use Rattle.std.proofs.Math.Decide.{dec_lt}
use Rattle.std.proofs.lemmas.List.{set_comm}
use Rattle.ground.specs.Order.{Perm, perm_nil, perm_cons, perm_swap, perm_trans, ToEach, steps}
use Rattle.ground.specs.OrderLaws.{pairwise_perm, steps_perm}
use Rattle.ground.specs.Splice.{splice}
use Rattle.ground.specs.SpliceLaws.{length_splice, splice_comm}
use Rattle.refusals.specs.Refusal.{told, if_accepted}
use Rattle.state.specs.declared.Phase.{Phase}
use Rattle.state.specs.declared.Phase.TheVariants as P
use Rattle.state.specs.declared.State.{State}
use Rattle.writer.specs.Answer.{Answer}
use Rattle.scalers.specs.declared.Scalers.{Scalers}
use Rattle.state.specs.State.{phase_ok, common_ok, state_ok, is_event, with_mark, with_scalers}
use Rattle.state.specs.StateLaws.{mark_kept}
use Rattle.writer.specs.Calls.{row_start, PostSays}
use Rattle.refusing.specs.Tables.{post_table, post_number}
use Rattle.writer.specs.CallsLaws.{done, refused, row_fits}
use Rattle.refusing.specs.TablesLaws.{PostAccepted, post_accepted}
use Rattle.rows.specs.RowsLaws.{row_end}
use Rattle.owners.specs.Order.{Bench, Post, Aside, PostRun, none, one, aside, Differ, Apart}
use Rattle.owners.specs.AsideLaws.{zero_or, aside_number, counted, scalers_after, beside, asides, aside_after, number_by, same_ranges, numbers_beside}

-- ---- posts by equations

-- the number that a post is answered
unfoldable pub answer_of : Bench → Post → ℕ
answer_of b p = post_number b.state (length b.store) p.channel p.window

-- what it leaves
unfoldable pub after : Bench → Post → Bench
after b p =
    record {
      state = if_accepted (answer_of b p) (with_mark b.state (set b.state.posted p.channel true)) b.state;
      store = if_accepted (answer_of b p) (splice b.store (row_start b.state p.channel) p.window) b.store;
    }

abbrev pub posts : Bench → List Post → Bench
posts b ps = steps after b ps

abbrev pub answered : Bench → Post → Post × ℕ
answered b p = (p, answer_of b p)

-- the contract of a post leaves exactly that
post_after : (b : Bench) (p : Post) (r : Answer) (store' : List ℕ) → PostSays b.state b.store p.channel p.window r store'
    → (told r.refusal ≡ answer_of b p) × (record { state = r.state; store = store' } ≡ after b p)
unfolding answer_of after
post_after b p r store' h = (h.refusal, ap₂ (λ (s : State) (l : List ℕ). record { state = s; store = l }) h.state h.rows)

-- ---- one post after another

-- one order or the other of two numbers that differ
pub either_way : {X : Type 0} (c d : ℕ) → c ≢ d → (c < d → X) → (d < c → X) → X
either_way c d h f g = elim (dec_lt c d) [ yes k ↦ f k | no k ↦ g (omega (arith, k, h)) ]

unfoldable pub marked : State → ℕ → State
marked s c = with_mark s (set s.posted c true)

-- in an open event the ranges ask nothing of the marks
phase_marked : (p : Phase) (s : State) (c : ℕ) → is_event p ≡ true → phase_ok p (marked s c) ≡ phase_ok p s
unfolding phase_ok marked with_mark
phase_marked P.Idle s c e = absurd (false≢true e)
phase_marked P.Block s c e = absurd (false≢true e)
phase_marked P.Event s c e = refl

-- a mark changes no other channel's answer
number_marked : (s : State) (room c d : ℕ) (v : List ℕ) → is_event s.phase ≡ true → d ≢ c → post_number (marked s c) room d v ≡ post_number s room d v
unfolding post_number post_table state_ok common_ok marked with_mark
number_marked s room c d v e h = rw (phase_marked s.phase s c e, get_or-set_other s.posted c d true false h)

-- what an accepted post leaves
unfoldable pub left : Bench → Post → Bench
left b p = record { state = marked b.state p.channel; store = splice b.store (row_start b.state p.channel) p.window }

pub has : (b : Bench) (p : Post) → answer_of b p ≡ 0 → PostAccepted b.state (length b.store) p.channel p.window
unfolding answer_of
has b p e = post_accepted b.state (length b.store) p.channel p.window e

pub after_done : (b : Bench) (p : Post) → answer_of b p ≡ 0 → after b p ≡ left b p
unfolding after left marked
after_done b p e = ap₂ (λ (s : State) (l : List ℕ). record { state = s; store = l }) (done _ _ e) (done _ _ e)

pub after_refused : (b : Bench) (p : Post) → (answer_of b p ≡ 0 → ⊥) → after b p ≡ b
unfolding after
after_refused b p e = ap₂ (λ (s : State) (l : List ℕ). record { state = s; store = l }) (refused (answer_of b p) _ _ e) (refused (answer_of b p) _ _ e)

-- an accepted post's row lies in the store
pub fits : (b : Bench) (p : Post) → answer_of b p ≡ 0 → row_start b.state p.channel + length p.window ≤ length b.store
fits b p e =
    let a = has b p e in
    rw a.whole (row_fits b.state (length b.store) p.channel p.window a)

number_left : (b : Bench) (p q : Post) → q.channel ≢ p.channel → answer_of b p ≡ 0 → answer_of (left b p) q ≡ answer_of b q
unfolding answer_of left
number_left b p q h e =
    rw (length_splice b.store (row_start b.state p.channel) p.window (fits b p e))
    (number_marked b.state (length b.store) p.channel q.channel q.window (has b p e).turn h)

-- a post changes the answer of no other channel's post
pub number_after : (b : Bench) (p q : Post) → q.channel ≢ p.channel → answer_of (after b p) q ≡ answer_of b q
number_after b p q h =
    zero_or (answer_of b p)
    (λ e. ap (λ (t : Bench). answer_of t q) (after_done b p e) ∙ number_left b p q h e)
    (λ e. ap (λ (t : Bench). answer_of t q) (after_refused b p e))

store_comm : (b : Bench) (p q : Post) → p.channel < q.channel → answer_of b p ≡ 0 → answer_of b q ≡ 0 → (left (left b p) q).store ≡ (left (left b q) p).store
unfolding left marked with_mark
store_comm b p q h e f =
    let n = b.state.settings.nw in
    splice_comm b.store (p.channel * n) p.window (q.channel * n) q.window (rw (has b p e).whole (row_end p.channel q.channel n h)) (fits b q f)

left_comm : (b : Bench) (p q : Post) → Differ p q → answer_of b p ≡ 0 → answer_of b q ≡ 0 → left (left b p) q ≡ left (left b q) p
unfolding left marked with_mark
left_comm b p q h e f =
    let m : set (set b.state.posted p.channel true) q.channel true ≡ set (set b.state.posted q.channel true) p.channel true =
    set_comm b.state.posted p.channel q.channel true true h in
    let t : (left (left b p) q).store ≡ (left (left b q) p).store = either_way p.channel q.channel h (λ k. store_comm b p q k e f) (λ k. sym (store_comm b q p k f e)) in
    ap₂ (λ (marks : List Bool) (l : List ℕ). record { state = with_mark b.state marks; store = l }) m t

-- two posts for different channels may be swapped
pub after_comm : (b : Bench) (p q : Post) → Differ p q → after (after b p) q ≡ after (after b q) p
after_comm b p q h =
    let np = number_after b q p h in
    let nq = number_after b p q (λ e. h (sym e)) in
    zero_or (answer_of b p)
    (λ e. zero_or (answer_of b q)
    (λ f. after_done (after b p) q (nq ∙ f) ∙ ap (λ (t : Bench). left t q) (after_done b p e) ∙ left_comm b p q h e f
    ∙ sym (after_done (after b q) p (np ∙ e) ∙ ap (λ (t : Bench). left t p) (after_done b q f)))
    (λ f. after_refused (after b p) q (λ z. f (sym nq ∙ z)) ∙ sym (ap (λ (t : Bench). after t p) (after_refused b q f))))
    (λ e. ap (λ (t : Bench). after t q) (after_refused b p e) ∙ sym (after_refused (after b q) p (λ z. e (sym np ∙ z))))

-- ---- posts and calls that count

number_scalers : (s : State) (c : Scalers) (room d : ℕ) (v : List ℕ) → state_ok (with_scalers s c) ≡ state_ok s → post_number (with_scalers s c) room d v ≡ post_number s room d v
unfolding post_number post_table with_scalers
number_scalers s c room d v e = rw e

-- a call that counts changes no post's answer
number_beside : (b : Bench) (k : Aside) (p : Post) → answer_of (beside b k) p ≡ answer_of b p
unfolding answer_of beside
number_beside b k p = number_scalers b.state (scalers_after b.state k) (length b.store) p.channel p.window (same_ranges b.state k)

ranges_left : (b : Bench) (p : Post) → answer_of b p ≡ 0 → state_ok (left b p).state ≡ state_ok b.state
unfolding left marked
ranges_left b p e =
    let a = has b p e in
    mark_kept b.state a.state (set b.state.posted p.channel true) a.turn ∙ sym a.state

-- nor a post the answer of a call that counts
aside_number_lem : (b : Bench) (p : Post) (k : Aside) → aside_number (after b p).state k ≡ aside_number b.state k
aside_number_lem b p k =
    zero_or (answer_of b p)
    (λ e. ap (λ (t : Bench). aside_number t.state k) (after_done b p e) ∙ number_by (left b p).state b.state k (ranges_left b p e))
    (λ e. ap (λ (t : Bench). aside_number t.state k) (after_refused b p e))

scalers_left : (b : Bench) (p : Post) (k : Aside) → answer_of b p ≡ 0 → scalers_after (left b p).state k ≡ scalers_after b.state k
unfolding scalers_after left marked with_mark
scalers_left b p k e =
    ap (λ (n : ℕ). if_accepted n (counted b.state.settings.thresholds b.state.scalers k) b.state.scalers) (number_by (left b p).state b.state k (ranges_left b p e))

left_beside : (b : Bench) (p : Post) (k : Aside) → answer_of b p ≡ 0 → left (beside b k) p ≡ beside (left b p) k
unfolding left marked with_mark beside with_scalers
left_beside b p k e = ap (λ (c : Scalers). record { state = with_scalers (left b p).state c; store = (left b p).store }) (sym (scalers_left b p k e))

-- a post and a call that counts may be swapped
beside_comm : (b : Bench) (p : Post) (k : Aside) → after (beside b k) p ≡ beside (after b p) k
beside_comm b p k =
    let n = number_beside b k p in
    zero_or (answer_of b p)
    (λ e. after_done (beside b k) p (n ∙ e) ∙ left_beside b p k e ∙ sym (ap (λ (t : Bench). beside t k) (after_done b p e)))
    (λ e. after_refused (beside b k) p (λ z. e (sym n ∙ z)) ∙ sym (ap (λ (t : Bench). beside t k) (after_refused b p e)))

posts_beside : (b : Bench) (l : List Post) (k : Aside) → posts (beside b k) l ≡ beside (posts b l) k
unfolding steps
posts_beside b [] k = refl
posts_beside b (p ∷ l) k = ap (λ (t : Bench). posts t l) (beside_comm b p k) ∙ posts_beside (after b p) l k

-- ---- the order theorem

back : (p q : Post) → Differ p q → Differ q p
back p q h e = h (sym e)

-- each post is answered as if it came first
answers_fresh : (b : Bench) (p : Post) (l : List Post) → ToEach Differ p l → map (answered (after b p)) l ≡ map (answered b) l
answers_fresh b p [] f = refl
answers_fresh b p (q ∷ l) f = ap₂ (λ (n : ℕ) (r : List (Post × ℕ)). (q, n) ∷ r) (number_after b p q (λ e. f.0 (sym e))) (answers_fresh b p l f.1)

answers_beside : (b : Bench) (k : Aside) (l : List Post) → map (answered (beside b k)) l ≡ map (answered b) l
answers_beside b k [] = refl
answers_beside b k (q ∷ l) = ap₂ (λ (n : ℕ) (r : List (Post × ℕ)). (q, n) ∷ r) (number_beside b k q) (answers_beside b k l)

-- and so is each call that counts
asides_fresh : (b : Bench) (p : Post) (ks : List Aside) → map (aside_number (after b p).state) ks ≡ map (aside_number b.state) ks
asides_fresh b p [] = refl
asides_fresh b p (k ∷ ks) = ap₂ (λ (n : ℕ) (r : List ℕ). n ∷ r) (aside_number_lem b p k) (asides_fresh b p ks)

-- what a run as its contracts say leaves and answers: as if its posts came first and its calls that count behind them
pub record Ran (b : Bench) (l : List Post) (ns : List (Post × ℕ)) (ks : List Aside) (is : List ℕ) (e : Bench) : Type 0 where
  pub end : e ≡ asides (posts b l) ks
  pub posted : ns ≡ map (answered b) l
  pub told : is ≡ map (aside_number b.state) ks

ran_post : {b e : Bench} (p : Post) {l : List Post} {ns : List (Post × ℕ)} {ks : List Aside} {is : List ℕ} → ToEach Differ p l → Ran (after b p) l ns ks is e
    → Ran b (p ∷ l) ((p, answer_of b p) ∷ ns) ks is e
unfolding steps
ran_post {b} p {l} {ks = ks} t i =
    record {
      end = i.end;
      posted = ap (λ (xs : List (Post × ℕ)). (p, answer_of b p) ∷ xs) (i.posted ∙ answers_fresh b p l t);
      told = i.told ∙ asides_fresh b p ks;
    }

ran_aside : {b e : Bench} (k : Aside) {l : List Post} {ns : List (Post × ℕ)} {ks : List Aside} {is : List ℕ} → Ran (beside b k) l ns ks is e
    → Ran b l ns (k ∷ ks) (aside_number b.state k ∷ is) e
unfolding steps
ran_aside {b} k {l} {ks = ks} i =
    record {
      end = i.end ∙ ap (λ (t : Bench). asides t ks) (posts_beside b l k);
      posted = i.posted ∙ answers_beside b k l;
      told = ap (λ (xs : List ℕ). aside_number b.state k ∷ xs) (i.told ∙ numbers_beside b k ks);
    }

pub run_posts : {b e : Bench} {l : List Post} {ns : List (Post × ℕ)} {ks : List Aside} {is : List ℕ} → Apart l → PostRun b l ns ks is e → Ran b l ns ks is e
unfolding steps
run_posts a none = record { end = refl; posted = refl; told = refl }
run_posts a (one {b} {e} p {l} {ns} {ks} {is} r store' h rest) =
    let k = post_after b p r store' h in
    subst (λ (n : ℕ). Ran b (p ∷ l) ((p, n) ∷ ns) ks is e) (sym k.0) (ran_post p a.0 (subst (λ (t : Bench). Ran t l ns ks is e) k.1 (run_posts a.1 rest)))
run_posts a (aside {b} {e} k {l} {ns} {ks} {is} r h rest) =
    let j = aside_after b k r h in
    subst (λ (n : ℕ). Ran b l ns (k ∷ ks) (n ∷ is) e) (sym j.0) (ran_aside k (subst (λ (t : Bench). Ran t l ns ks is e) j.1 (run_posts a rest)))

perm_map : {A B : Type 0} (f : A → B) {l m : List A} → Perm l m → Perm (map f l) (map f m)
perm_map f perm_nil = perm_nil
perm_map f (perm_cons x r) = perm_cons (f x) (perm_map f r)
perm_map f (perm_swap x y l) = perm_swap (f x) (f y) (map f l)
perm_map f (perm_trans r s) = perm_trans (perm_map f r) (perm_map f s)

same_answers : {b e f : Bench} {l m : List Post} {ns ms : List (Post × ℕ)} {ks js : List Aside} {is hs : List ℕ} → Perm l m → Ran b l ns ks is e → Ran b m ms js hs f → Perm ns ms
same_answers {b} {l = l} {ms = ms} r i j =
    subst (λ (xs : List (Post × ℕ)). Perm xs ms) (sym i.posted) (subst (λ (ys : List (Post × ℕ)). Perm (map (answered b) l) ys) (sym j.posted) (perm_map (answered b) r))

-- "Each post is accepted, or refused with the same number, alike in every order, and the state and store at the end are the same": the posts with
-- their numbers are the same in both orders, and the same calls that count, wherever they stand between the posts, are answered with the same numbers.
-- From any state and store, so from those of an event just opened
pub order : {b e f : Bench} {l m : List Post} {ns ms : List (Post × ℕ)} {ks : List Aside} {is js : List ℕ} → Apart l → Perm l m
    → PostRun b l ns ks is e → PostRun b m ms ks js f → Perm ns ms × ((is ≡ js) × (e ≡ f))
order {b} {e} {f} {l} {m} {ns} {ms} {ks} a r x y =
    let i = run_posts a x in
    let j = run_posts (pairwise_perm Differ back r a) y in
    let same = ap (λ (t : Bench). asides t ks) (steps_perm Differ after back after_comm b r a) in
    (same_answers r i j, (i.told ∙ sym j.told, i.end ∙ (same ∙ sym j.end)))

-- the state and store where so much is counted
abbrev pub recounted : Bench → Scalers → Bench
recounted b c = record { state = with_scalers b.state c; store = b.store }

recounted_asides : (b : Bench) (ks : List Aside) (c : Scalers) → recounted (asides b ks) c ≡ recounted b c
unfolding steps beside with_scalers
recounted_asides b [] c = refl
recounted_asides b (k ∷ ks) c = recounted_asides (beside b k) ks c

recounted_run : {b e : Bench} {l : List Post} {ns : List (Post × ℕ)} {ks : List Aside} {is : List ℕ} (c : Scalers) → Ran b l ns ks is e → recounted e c ≡ recounted (posts b l) c
recounted_run {b} {l = l} {ks = ks} c i = ap (λ (t : Bench). recounted t c) i.end ∙ recounted_asides (posts b l) ks c

-- where other calls count between them, or none, the posts are answered alike too, and the state and store at the end are the same but for what is counted
pub order_alone : {b e f : Bench} {l m : List Post} {ns ms : List (Post × ℕ)} {ks js : List Aside} {is hs : List ℕ} → Apart l → Perm l m
    → PostRun b l ns ks is e → PostRun b m ms js hs f → Perm ns ms × ((c : Scalers) → recounted e c ≡ recounted f c)
order_alone {b} a r x y =
    let i = run_posts a x in
    let j = run_posts (pairwise_perm Differ back r a) y in
    let same = steps_perm Differ after back after_comm b r a in
    (same_answers r i j, λ c. recounted_run c i ∙ (ap (λ (t : Bench). recounted t c) same ∙ sym (recounted_run c j)))
