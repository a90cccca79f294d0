-- Reading on answers what the run over the same words says: the records one after the other, with nothing left out. Assumes nothing.
use Rattle.std.specs.Prelude.{ℕ, suc, ◌+◌, ◌-◌, ◌^◌, ◌≤◌, ◌<◌, min, ◌≡◌, refl, Bool, true, false, not, cond, ◌||◌, List, [], ◌∷◌, map, eqb, leb, length, drop}
use Rattle.std.proofs.Common.{sym, ap, ◌∙◌, subst, arith, eqb-true}
use Rattle.std.proofs.lemmas.Bool.{false≢true, eqb-false, not-true, not-false}
use Rattle.std.proofs.lemmas.List.{length-map}
use Rattle.ground.specs.Tests.{first_of}
use Rattle.fields.specs.Word.{read}
use Rattle.fields.specs.Tag.{is_continuation}
use Rattle.fields.proofs.WordLaws.{field_lt}
use Rattle.framing.specs.Words.{block_header_of, parameters_of, trailer_of, event_header_of, trigger_time_of, trigger_time_high_of, scalers_of, scaler_of, empty_of, filler_of}
use Rattle.framing.specs.declared.trigger_time.TriggerTime.{TriggerTime}
use Rattle.framing.specs.declared.scaler.ScalerWord.{ScalerWord}
use Rattle.raw.specs.Words.{window_of, pulse_raw_of, pair_of}
use Rattle.raw.specs.declared.pair.SamplePair.{SamplePair}
use Rattle.measures.specs.Words.{integral_of, time_of, pedestal_of}
use Rattle.items.specs.Items.{item_from, type_of}
use Rattle.items.specs.declared.Form.{Form}
use Rattle.items.specs.declared.Form.TheVariants as F
use Rattle.items.specs.declared.Item.{Item}
use Rattle.items.specs.declared.Item.TheVariants as I
use Rattle.scan.specs.After.{onward, paired_by, filled_by, scaled_by, after}
use Rattle.meaning.specs.Meaning.{more_by, more_in, opening, edges, inner, allowed_by, allowed_in, other_by, other_in, meaning_in, meaning_at, unfinished_by, unfinished}
use Rattle.questions.specs.Questions.{at_limit}
use Rattle.reader.specs.Reader.{step_at, with_item, judge_at, Whole, Broken, end_of, end_number, just, then, Reading, read_from}
use Rattle.meaning.specs.MeaningLaws.{among_by, filler_tail}
use Rattle.reader.specs.ReaderLaws.{judge_by, Accepted, accepted, ended}
use Rattle.reader.specs.RunLaws.{before, read_at, end_by}
use Rattle.scan.specs.declared.Stage.{Stage}
use Rattle.scan.specs.declared.Stage.TheVariants as P
use Rattle.scan.specs.declared.Scan.{Scan}
use Rattle.meaning.specs.declared.Meaning.{Meaning}
use Rattle.meaning.specs.declared.Meaning.TheVariants as M
use Rattle.reader.specs.Step.{Step}
use Rattle.reader.specs.Step as S
use Rattle.reader.specs.Judged.{Judged}
use Rattle.reader.specs.Judged as J
use Rattle.rawitems.specs.declared.Pairs.{Pairs}
use Rattle.rawitems.specs.Pairing.{Pairing}
use Rattle.rawitems.specs.Pairing as G
use Rattle.rawitems.specs.AtLaws.{due_unfinished}
use Rattle.rawitems.specs.Pairs.{due_by, pair_due, on_pair, pairs_from}
use Rattle.follow.specs.declared.Fill.{Fill}
use Rattle.follow.specs.Follow.{high_of, on_high, high_from, on_filler, fill_from}
use Rattle.records.specs.declared.answer.Record.{Record}
use Rattle.records.specs.declared.answer.Record.TheVariants as R
use Rattle.records.specs.NextOf.{Next}
use Rattle.records.specs.NextOf as N
use Rattle.records.specs.Next.{most_count, filler_at, AllAre, PairsMade, Made, is_pair, starts_pair, OfRaw, with_pairs, with_high, time_from, fillers_from, scalers_from, record_from, from_judged, next_from}

-- ---- the form of an accepted word, by the scan

-- P holds of the form that a word has
abbrev OnForm : (Form → Type 0) → Meaning → Type 0
OnForm P (M.Form f) = P f
OnForm P M.Unallowed = Unit {0}
OnForm P M.End = Unit {0}

abbrev OnAll : (Form → Type 0) → List Form → Type 0
OnAll P [] = Unit {0}
OnAll P (f ∷ fs) = P f × OnAll P fs

on_listed : (P : Form → Type 0) (other : Meaning) (fs : List Form) (type : ℕ) → OnForm P other → OnAll P fs → OnForm P (meaning_in other fs type)
on_listed P other [] type h n = h
on_listed P other (f ∷ fs) type h n = go (eqb type (type_of f)) (on_listed P other fs type h n.1)
  where
    go : (b : Bool) → OnForm P (meaning_in other fs type) → OnForm P (cond b (M.Form f) (meaning_in other fs type))
    go true r = n.0
    go false r = r

-- the same of the word itself, by whether it is a continuation
on_word : (P : Form → Type 0) (t : Scan) (word : ℕ) {f : Form} → ((b : Bool) → is_continuation word ≡ b → OnForm P (cond b (more_in t) (meaning_in (other_in t) (allowed_in t) (read 30 27 word)))) → meaning_at t word ≡ M.Form f → P f
unfolding meaning_at is_continuation
on_word P t word h e = subst (OnForm P) e (h (eqb (read 31 31 word) 0) refl)

-- ---- where a pair is due, only a pair is taken; among an event's scalers none is due

pair_form : (p : Stage) (b : Bool) (type : ℕ) → among_by p ≡ false → due_by p b ≡ true → OnForm (λ f. f ≡ F.Pair) (cond b (more_by p) (meaning_in (other_by p) (allowed_by p) type))
pair_form P.Start b type off due = absurd (false≢true due)
pair_form P.Head b type off due = absurd (false≢true due)
pair_form P.Front b type off due = absurd (false≢true due)
pair_form P.Opened b type off due = absurd (false≢true due)
pair_form (P.Timed d) b type off due = absurd (false≢true due)
pair_form P.Items b type off due = absurd (false≢true due)
pair_form (P.Window n odd) true type off due = refl
pair_form (P.Window n odd) false type off due = tt
pair_form (P.Raw n some) true type off due = go (eqb n 0)
  where
    go : (b : Bool) → OnForm (λ f. f ≡ F.Pair) (cond b M.Unallowed (M.Form F.Pair))
    go true = tt
    go false = refl
pair_form (P.Raw n true) false type off due = absurd (false≢true due)
pair_form (P.Raw n false) false type off due = tt
pair_form (P.Tail n) b type off due = absurd (false≢true due)
pair_form (P.Scalers n) b type off due = absurd (false≢true (sym off ∙ due))

after_pair : (p : Stage) (flag : ℕ) → among_by (paired_by p flag) ≡ among_by p
after_pair P.Start flag = refl
after_pair P.Head flag = refl
after_pair P.Front flag = refl
after_pair P.Opened flag = refl
after_pair (P.Timed d) flag = refl
after_pair P.Items flag = refl
after_pair (P.Window n odd) flag = go (leb n 1)
  where
    go : (b : Bool) → among_by (cond b P.Items (P.Window (n - 1) odd)) ≡ false
    go true = refl
    go false = refl
after_pair (P.Raw n some) flag = refl
after_pair (P.Tail n) flag = refl
after_pair (P.Scalers n) flag = refl

record PairTaken (t : Scan) (word : ℕ) (u : Scan) : Type 0 where
  took : judge_at t word ≡ J.Took (I.Pair (pair_of word)) u
  off : among_by u.stage ≡ false

pair_taken : (t : Scan) (word : ℕ) {f : Form} {u : Scan} → among_by t.stage ≡ false → pair_due t (is_continuation word) ≡ true → step_at t word ≡ S.Went f u → PairTaken t word u
unfolding after
pair_taken t word {f} {u} off due e =
    let a = accepted t word e in
    let is : f ≡ F.Pair = on_word (λ g. g ≡ F.Pair) t word (λ b h. pair_form t.stage b (read 30 27 word) off (sym (ap (pair_due t) h) ∙ due)) a.form in
    let behind : u ≡ after t (I.Pair (pair_of word)) = a.scan ∙ ap (λ (g : Form). after t (item_from g word)) is in
    record {
      took = judge_by t word e ∙ ap (λ (g : Form). J.Took (item_from g word) u) is;
      off = ap (λ (x : Scan). among_by x.stage) behind ∙ after_pair t.stage _ ∙ off;
    }

-- ---- where no pair is due, none is taken

none_form : (p : Stage) (b : Bool) (type word : ℕ) → due_by p b ≡ false → OnForm (λ g. is_pair (item_from g word) ≡ false) (cond b (more_by p) (meaning_in (other_by p) (allowed_by p) type))
none_form P.Start true type word due = tt
none_form P.Start false type word due = on_listed (λ g. is_pair (item_from g word) ≡ false) M.Unallowed opening type tt (refl, (refl, tt))
none_form P.Head true type word due = refl
none_form P.Head false type word due = on_listed (λ g. is_pair (item_from g word) ≡ false) M.Unallowed edges type tt (refl, (refl, tt))
none_form P.Front true type word due = tt
none_form P.Front false type word due = on_listed (λ g. is_pair (item_from g word) ≡ false) M.Unallowed edges type tt (refl, (refl, tt))
none_form P.Opened true type word due = tt
none_form P.Opened false type word due = on_listed (λ g. is_pair (item_from g word) ≡ false) M.Unallowed (F.Clock ∷ inner) type tt (refl, (refl, (refl, (refl, (refl, (refl, (refl, (refl, (refl, tt)))))))))
none_form (P.Timed d) true type word due = refl
none_form (P.Timed d) false type word due = on_listed (λ g. is_pair (item_from g word) ≡ false) M.Unallowed inner type tt (refl, (refl, (refl, (refl, (refl, (refl, (refl, (refl, tt))))))))
none_form P.Items true type word due = tt
none_form P.Items false type word due = on_listed (λ g. is_pair (item_from g word) ≡ false) M.Unallowed inner type tt (refl, (refl, (refl, (refl, (refl, (refl, (refl, (refl, tt))))))))
none_form (P.Window n odd) b type word due = absurd (false≢true (sym due))
none_form (P.Raw n some) true type word due = absurd (false≢true (sym (always (not some) due)))
  where
    always : (a : Bool) → a || true ≡ false → true ≡ false
    always true h = h
    always false h = h
none_form (P.Raw n some) false type word due = on_listed (λ g. is_pair (item_from g word) ≡ false) M.Unallowed (cond some inner []) type tt (go some)
  where
    go : (b : Bool) → OnAll (λ g. is_pair (item_from g word) ≡ false) (cond b inner [])
    go true = (refl, (refl, (refl, (refl, (refl, (refl, (refl, (refl, tt))))))))
    go false = tt
none_form (P.Tail n) true type word due = tt
none_form (P.Tail n) false type word due = on_listed (λ g. is_pair (item_from g word) ≡ false) M.End (cond (eqb n 0) [] (F.Filler ∷ [])) type tt (go (eqb n 0))
  where
    go : (b : Bool) → OnAll (λ g. is_pair (item_from g word) ≡ false) (cond b [] (F.Filler ∷ []))
    go true = tt
    go false = (refl, tt)
none_form (P.Scalers n) b type word due = go b (eqb n 0)
  where
    go : (b z : Bool) → OnForm (λ g. is_pair (item_from g word) ≡ false) (cond b (cond z M.Unallowed (M.Form F.Scaler)) (meaning_in (cond z M.Unallowed (M.Form F.Scaler)) (cond z edges []) type))
    go true true = tt
    go true false = refl
    go false true = on_listed (λ g. is_pair (item_from g word) ≡ false) M.Unallowed edges type tt (refl, (refl, tt))
    go false false = refl

none_taken : (t : Scan) (word : ℕ) (words : List ℕ) → pair_due t (is_continuation word) ≡ false → starts_pair (read_from t (word ∷ words)).items ≡ false
none_taken t word words due = go (step_at t word) refl
  where
    go : (y : Step) → step_at t word ≡ y → starts_pair (read_from t (word ∷ words)).items ≡ false
    go (S.Went f u) e =
        ap (λ (x : Reading). starts_pair x.items) (read_at t word words (judge_by t word e))
        ∙ on_word (λ g. is_pair (item_from g word) ≡ false) t word (λ b h. none_form t.stage b (read 30 27 word) word (sym (ap (pair_due t) h) ∙ due)) (accepted t word e).form
    go (S.Refused n p) e = ap (λ (x : Reading). starts_pair x.items) (read_at t word words (judge_by t word e))
    go S.Ended e = ap (λ (x : Reading). starts_pair x.items) (read_at t word words (judge_by t word e))

-- ---- behind the trailer, only a filler of the block's slot is taken

filler_form : (p : Stage) (b : Bool) (type : ℕ) → unfinished_by p ≡ false → OnForm (λ f. f ≡ F.Filler) (cond b (more_by p) (meaning_in (other_by p) (allowed_by p) type))
filler_form P.Start b type end = absurd (false≢true (sym end))
filler_form P.Head b type end = absurd (false≢true (sym end))
filler_form P.Front b type end = absurd (false≢true (sym end))
filler_form P.Opened b type end = absurd (false≢true (sym end))
filler_form (P.Timed d) b type end = absurd (false≢true (sym end))
filler_form P.Items b type end = absurd (false≢true (sym end))
filler_form (P.Window n odd) b type end = absurd (false≢true (sym end))
filler_form (P.Raw n some) b type end = absurd (false≢true (sym end))
filler_form (P.Scalers n) b type end = absurd (false≢true (sym end))
filler_form (P.Tail n) true type end = tt
filler_form (P.Tail n) false type end = on_listed (λ f. f ≡ F.Filler) M.End (cond (eqb n 0) [] (F.Filler ∷ [])) type tt (go (eqb n 0))
  where
    go : (b : Bool) → OnAll (λ f. f ≡ F.Filler) (cond b [] (F.Filler ∷ []))
    go true = tt
    go false = (refl, tt)

filled_end : (p : Stage) → unfinished_by p ≡ false → unfinished_by (filled_by p) ≡ false
filled_end P.Start end = end
filled_end P.Head end = end
filled_end P.Front end = end
filled_end P.Opened end = end
filled_end (P.Timed d) end = end
filled_end P.Items end = end
filled_end (P.Window n odd) end = end
filled_end (P.Raw n some) end = end
filled_end (P.Tail n) end = refl
filled_end (P.Scalers n) end = end

record Filling (t : Scan) (word : ℕ) (u : Scan) : Type 0 where
  own : (filler_of word).slot ≡ t.slot
  tail : unfinished u ≡ false
  slot : u.slot ≡ t.slot

-- a filler that was taken
filling : (t : Scan) (word : ℕ) {u : Scan} → unfinished t ≡ false → Accepted t word F.Filler u → Filling t word u
unfolding filler_of after
filling t word {u} end a =
    let same : read 26 22 word ≡ t.slot = eqb-true _ _ (not-false _ a.off.1.1.0) in
    record {
      own = same;
      tail = ap unfinished a.scan ∙ filled_end t.stage end;
      slot = ap (λ (x : Scan). x.slot) a.scan;
    }

filler_taken : (t : Scan) (word : ℕ) {f : Form} {u : Scan} → unfinished t ≡ false → step_at t word ≡ S.Went f u → f ≡ F.Filler
filler_taken t word end e = on_word (λ g. g ≡ F.Filler) t word (λ b h. filler_form t.stage b (read 30 27 word) end) (accepted t word e).form

-- ---- the pairs and the fillers of a run

onward_le : (n : ℕ) → onward n ≤ most_count
unfolding onward
onward_le n = omega arith

onward_add : (n k m : ℕ) → m ≡ min (onward n + k) most_count → m ≡ min (n + suc k) most_count
unfolding onward
onward_add n k m e = omega arith

-- all pairs in a row, then the run from u
record Paired (t : Scan) (words : List ℕ) (n m : ℕ) (u : Scan) : Type 0 where
  pairs : List SamplePair
  many : m ≡ min (n + length pairs) most_count
  run : read_from t words ≡ before (map (λ x. I.Pair x) pairs) (read_from u (drop (length pairs) words))
  stop : starts_pair (read_from u (drop (length pairs) words)).items ≡ false

abbrev SaysPairs : Scan → ℕ → List ℕ → Pairing → Type 0
SaysPairs t n words (G.All m u) = Paired t words n m u
SaysPairs t n words (G.Bad r at) = (read_from t words).out ≡ Broken r at

no_pair : (t : Scan) (n : ℕ) (words : List ℕ) → n ≤ most_count → starts_pair (read_from t words).items ≡ false → Paired t words n n t
no_pair t n words h stop = record { pairs = []; many = omega arith; run = refl; stop = stop }

end_broken : (s : Scan) → unfinished s ≡ true → end_of s ≡ Broken (end_number s) s.place
unfolding end_of end_number first_of
end_broken s h = rw h (go (at_limit s))
  where
    go : (a : Bool) → cond a (Broken 14 s.place) (Broken 11 s.place) ≡ Broken (cond a 14 11) s.place
    go true = refl
    go false = refl

pairs_say : (t : Scan) (n : ℕ) (words : List ℕ) → n ≤ most_count → among_by t.stage ≡ false → SaysPairs t n words (pairs_from t n words)
unfolding pairs_from read_from
pairs_say t n [] h off = go (pair_due t false) refl
  where
    go : (b : Bool) → pair_due t false ≡ b → SaysPairs t n [] (cond b (G.Bad (end_number t) t.place) (G.All n t))
    go true due = end_broken t (due_unfinished t.stage false due)
    go false due = no_pair t n [] h refl
pairs_say t n (word ∷ words) h off = by_due (pair_due t (is_continuation word)) refl (λ u. pairs_say u (onward n) words (onward_le n))
  where
    by_step : (y : Step) → step_at t word ≡ y → pair_due t (is_continuation word) ≡ true → ((u : Scan) → among_by u.stage ≡ false → SaysPairs u (onward n) words (pairs_from u (onward n) words)) → SaysPairs t n (word ∷ words) (on_pair y t n (λ u. pairs_from u (onward n) words))
    by_step (S.Went f u) e due r = more (pairs_from u (onward n) words) (r u (pair_taken t word off due e).off)
      where
        run : read_from t (word ∷ words) ≡ then (I.Pair (pair_of word)) (read_from u words)
        run = read_at t word words (pair_taken t word off due e).took

        more : (q : Pairing) → SaysPairs u (onward n) words q → SaysPairs t n (word ∷ words) q
        more (G.All m v) a =
            record {
              pairs = pair_of word ∷ a.pairs;
              many = onward_add n (length a.pairs) m a.many;
              run = run ∙ ap (then (I.Pair (pair_of word))) a.run;
              stop = a.stop;
            }
        more (G.Bad k at) a = ap (λ (x : Reading). x.out) run ∙ a
    by_step (S.Refused k p) e due r = ap (λ (x : Reading). x.out) (read_at t word words (judge_by t word e))
    by_step S.Ended e due r = no_pair t n (word ∷ words) h (ap (λ (x : Reading). starts_pair x.items) (read_at t word words (judge_by t word e)))

    by_due : (b : Bool) → pair_due t (is_continuation word) ≡ b → ((u : Scan) → among_by u.stage ≡ false → SaysPairs u (onward n) words (pairs_from u (onward n) words)) → SaysPairs t n (word ∷ words) (cond b (on_pair (step_at t word) t n (λ u. pairs_from u (onward n) words)) (G.All n t))
    by_due true due r = by_step (step_at t word) refl due r
    by_due false due r = no_pair t n (word ∷ words) h (none_taken t word words due)

-- the n words of an event's scalers in a row, k words read before, then the run from u
record Scaled (t : Scan) (words : List ℕ) (n k m : ℕ) (u : Scan) : Type 0 where
  scalers : List ScalerWord
  all : length scalers ≡ n
  many : m ≡ k + n
  run : read_from t words ≡ before (map (λ x. I.Scaler x) scalers) (read_from u (drop (length scalers) words))

abbrev SaysScalers : Scan → ℕ → ℕ → List ℕ → Pairing → Type 0
SaysScalers t n k words (G.All m u) = Scaled t words n k m u
SaysScalers t n k words (G.Bad r at) = (read_from t words).out ≡ Broken r at

no_scaler : (t : Scan) (n k : ℕ) (words : List ℕ) → not (eqb n 0) ≡ false → Scaled t words n k k t
no_scaler t n k words z =
    let e : n ≡ 0 = eqb-true n 0 (not-false _ z) in
    record { scalers = []; all = sym e; many = omega (arith, e); run = refl }

record ScalerTaken (t : Scan) (n word : ℕ) (u : Scan) : Type 0 where
  took : judge_at t word ≡ J.Took (I.Scaler (scaler_of word)) u
  stage : u.stage ≡ P.Scalers (n - 1)

-- while words of the scalers are to come, only such a word is taken
scaler_taken : (t : Scan) (n word : ℕ) {f : Form} {u : Scan} → t.stage ≡ P.Scalers n → not (eqb n 0) ≡ true → step_at t word ≡ S.Went f u → ScalerTaken t n word u
unfolding after
scaler_taken t n word {f} {u} s z e =
    let a = accepted t word e in
    let is : f ≡ F.Scaler = on_word (λ g. g ≡ F.Scaler) t word (λ b h. rw (s, not-true (eqb n 0) z) (go b)) a.form in
    let behind : u ≡ after t (I.Scaler (scaler_of word)) = a.scan ∙ ap (λ (g : Form). after t (item_from g word)) is in
    record {
      took = judge_by t word e ∙ ap (λ (g : Form). J.Took (item_from g word) u) is;
      stage = ap (λ (x : Scan). x.stage) behind ∙ ap scaled_by s;
    }
  where
    go : (b : Bool) → OnForm (λ f. f ≡ F.Scaler) (cond b (M.Form F.Scaler) (M.Form F.Scaler))
    go true = refl
    go false = refl

scalers_say : (t : Scan) (n k : ℕ) (words : List ℕ) → t.stage ≡ P.Scalers n → k + n ≤ most_count → SaysScalers t n k words (pairs_from t k words)
unfolding pairs_from read_from onward
scalers_say t n k [] s h = rw (ap (λ (p : Stage). due_by p false) s) (go (not (eqb n 0)) refl)
  where
    go : (b : Bool) → not (eqb n 0) ≡ b → SaysScalers t n k [] (cond b (G.Bad (end_number t) t.place) (G.All k t))
    go true z = end_broken t (ap unfinished_by s)
    go false z = no_scaler t n k [] z
scalers_say t n k (word ∷ words) s h =
    rw (ap (λ (p : Stage). due_by p (is_continuation word)) s) (by_due (not (eqb n 0)) refl (λ u. scalers_say u (n - 1) (onward k) words))
  where
    Behind : Type 0
    Behind = (u : Scan) → u.stage ≡ P.Scalers (n - 1) → onward k + (n - 1) ≤ most_count → SaysScalers u (n - 1) (onward k) words (pairs_from u (onward k) words)

    by_step : (y : Step) → step_at t word ≡ y → not (eqb n 0) ≡ true → Behind → SaysScalers t n k (word ∷ words) (on_pair y t k (λ u. pairs_from u (onward k) words))
    by_step (S.Went f u) e z r = more (pairs_from u (onward k) words) (r u a.stage (omega (arith, some)))
      where
        a : ScalerTaken t n word u
        a = scaler_taken t n word s z e

        some : n ≡ 0 → ⊥
        some = eqb-false n 0 (not-true _ z)

        run : read_from t (word ∷ words) ≡ then (I.Scaler (scaler_of word)) (read_from u words)
        run = read_at t word words a.took

        more : (q : Pairing) → SaysScalers u (n - 1) (onward k) words q → SaysScalers t n k (word ∷ words) q
        more (G.All m v) b =
            record {
              scalers = scaler_of word ∷ b.scalers;
              all = omega (arith, b.all, some);
              many = omega (arith, b.many, some, h);
              run = run ∙ ap (then (I.Scaler (scaler_of word))) b.run;
            }
        more (G.Bad i at) b = ap (λ (x : Reading). x.out) run ∙ b
    by_step (S.Refused i p) e z r = ap (λ (x : Reading). x.out) (read_at t word words (judge_by t word e))
    by_step S.Ended e z r = absurd (false≢true (sym (ended t word e) ∙ ap unfinished_by s))

    by_due : (b : Bool) → not (eqb n 0) ≡ b → Behind → SaysScalers t n k (word ∷ words) (cond b (on_pair (step_at t word) t k (λ u. pairs_from u (onward k) words)) (G.All k t))
    by_due true z r = by_step (step_at t word) refl z r
    by_due false z r = no_scaler t n k (word ∷ words) z

-- fillers in a row, then the run from the scan behind them
record Filled (slot n : ℕ) (t : Scan) (words : List ℕ) (x : Fill) : Type 0 where
  items : List Item
  all : AllAre (filler_at slot) items
  many : x.count ≡ min (n + length items) most_count
  run : read_from t words ≡ before items (read_from x.scan (drop (length items) words))

no_filler : (slot n : ℕ) (t : Scan) (words : List ℕ) → n ≤ most_count → Filled slot n t words (record { count = n; scan = t })
no_filler slot n t words h = record { items = []; all = tt; many = omega arith; run = refl }

fill_says : (slot n : ℕ) (t : Scan) (words : List ℕ) → n ≤ most_count → unfinished t ≡ false → t.slot ≡ slot → Filled slot n t words (fill_from n t words)
unfolding fill_from filler_of
fill_says slot n t [] h end same = no_filler slot n t [] h
fill_says slot n t (word ∷ words) h end same = go (step_at t word) refl (λ u. fill_says slot (onward n) u words (onward_le n))
  where
    go : (y : Step) → step_at t word ≡ y → ((u : Scan) → unfinished u ≡ false → u.slot ≡ slot → Filled slot (onward n) u words (fill_from (onward n) u words)) → Filled slot n t (word ∷ words) (on_filler y n t (λ u. fill_from (onward n) u words))
    go (S.Went f u) e r =
        let is = filler_taken t word end e in
        let went : step_at t word ≡ S.Went F.Filler u = e ∙ ap (λ (g : Form). S.Went g u) is in
        let a = filling t word end (accepted t word went) in
        let b = r u a.tail (a.slot ∙ same) in
        record {
          items = item_from F.Filler word ∷ b.items;
          all = (ap (λ (k : ℕ). filler_at k) (a.own ∙ same), b.all);
          many = onward_add n (length b.items) _ b.many;
          run = read_at t word words (judge_by t word went) ∙ ap (then (item_from F.Filler word)) b.run;
        }
    go (S.Refused k p) e r = no_filler slot n t (word ∷ words) h
    go S.Ended e r = no_filler slot n t (word ∷ words) h

-- ---- what reading on answers

-- a record: its items stand first in the run, and the rest is the run from the scan behind it
pub record Taken (s : Scan) (words : List ℕ) (x : Record) (u : Scan) : Type 0 where
  pub items : List Item
  pub made : Made (onward s.place) x items
  pub run : read_from s words ≡ before items (read_from u (drop (length items) words))
  -- a raw item has all its pairs: none is left
  pub stop : OfRaw x (λ p. starts_pair (read_from u (drop (length items) words)).items ≡ false)

abbrev pub SaysNext : Scan → List ℕ → Next → Type 0
SaysNext s words (N.Took x u) = Taken s words x u
SaysNext s words (N.End n) = read_from s words ≡ just (Whole n)
SaysNext s words (N.Refused r place) = (read_from s words).out ≡ Broken r place

place_after : (s t : Scan) (x : Item) → t ≡ after s x → t.place ≡ onward s.place
unfolding after
place_after s t x e = ap (λ (y : Scan). y.place) e

-- a record of one word
one : (s t : Scan) (word : ℕ) (words : List ℕ) (x : Item) (y : Record) → Made (onward s.place) y (x ∷ []) → OfRaw y (λ p. starts_pair (read_from t words).items ≡ false) → judge_at s word ≡ J.Took x t
    → Taken s (word ∷ words) y t
one s t word words x y m stop e = record { items = x ∷ []; made = m; run = read_at s word words e; stop = stop }

time_says : (s t : Scan) (word : ℕ) (words : List ℕ) (r : TriggerTime) → judge_at s word ≡ J.Took (I.Clock r) t → SaysNext s (word ∷ words) (time_from r t words)
unfolding high_from
time_says s t word [] r e = one s t word [] (I.Clock r) (R.Time27 r) refl tt e
time_says s t word (next ∷ words) r e = by_judged (judge_at t next) refl
  where
    alone : Taken s (word ∷ next ∷ words) (R.Time27 r) t
    alone = one s t word (next ∷ words) (I.Clock r) (R.Time27 r) refl tt e

    by_judged : (j : Judged) → judge_at t next ≡ j → SaysNext s (word ∷ next ∷ words) (with_high r t (on_high j))
    by_judged (J.Took x u) f = by_item x f
      where
        by_item : (x : Item) → judge_at t next ≡ J.Took x u → SaysNext s (word ∷ next ∷ words) (with_high r t (high_of x u))
        by_item (I.Block x) f = alone
        by_item (I.Parameters x) f = alone
        by_item (I.Trailer x) f = alone
        by_item (I.Event x) f = alone
        by_item (I.Clock x) f = alone
        by_item (I.ClockHigh high) f =
            record {
              items = I.Clock r ∷ I.ClockHigh high ∷ [];
              made = refl;
              run = read_at s word (next ∷ words) e ∙ ap (then (I.Clock r)) (read_at t next words f);
              stop = tt;
            }
        by_item (I.Window x) f = alone
        by_item (I.Raw x) f = alone
        by_item (I.Pair x) f = alone
        by_item (I.Integral x) f = alone
        by_item (I.Time x) f = alone
        by_item (I.Pedestal x) f = alone
        by_item (I.Empty x) f = alone
        by_item (I.Filler x) f = alone
        by_item (I.Scalers x) f = alone
        by_item (I.Scaler x) f = alone
    by_judged (J.Refused n p) f = alone
    by_judged J.Ended f = alone

-- a raw item, by what its pairs say
raw_says : (s t : Scan) (word : ℕ) (words : List ℕ) (head : Item) (make : Pairs → Record) → ((p : Pairs) (items : List Item) → PairsMade head (onward s.place) p items → Made (onward s.place) (make p) items) → ((p : Pairs) (P : Pairs → Type 0) → P p → OfRaw (make p) P)
    → t.place ≡ onward s.place → among_by t.stage ≡ false → judge_at s word ≡ J.Took head t → SaysNext s (word ∷ words) (with_pairs make t.place (pairs_from t 0 words))
raw_says s t word words head make m o at off e = go (pairs_from t 0 words) (pairs_say t 0 words (omega arith) off)
  where
    run : read_from s (word ∷ words) ≡ then head (read_from t words)
    run = read_at s word words e

    go : (q : Pairing) → SaysPairs t 0 words q → SaysNext s (word ∷ words) (with_pairs make t.place q)
    go (G.All n u) a =
        record {
          items = head ∷ map (λ x. I.Pair x) a.pairs;
          made = m _ _ (record { at = at; pairs = a.pairs; all = refl; many = omega (arith, a.many) });
          run = run ∙ ap (then head) (a.run ∙ rw (length-map a.pairs (λ x. I.Pair x)));
          stop = o _ _ (rw (length-map a.pairs (λ x. I.Pair x)) a.stop);
        }
    go (G.Bad r place) a = ap (λ (x : Reading). x.out) run ∙ a

-- an event's scalers, as many as the six bits of their head state
scalers_make : (s t : Scan) (word : ℕ) (words : List ℕ) → t.place ≡ onward s.place → t.stage ≡ P.Scalers (read 5 0 word) → judge_at s word ≡ J.Took (I.Scalers (scalers_of word)) t
    → SaysNext s (word ∷ words) (scalers_from t words)
unfolding scalers_of
scalers_make s t word words at stage e =
    let few : read 5 0 word < 2 ^ 6 = field_lt word 0 6 in
    go (pairs_from t 0 words) (scalers_say t (read 5 0 word) 0 words stage (omega arith))
  where
    run : read_from s (word ∷ words) ≡ then (I.Scalers (scalers_of word)) (read_from t words)
    run = read_at s word words e

    go : (q : Pairing) → SaysScalers t (read 5 0 word) 0 words q → SaysNext s (word ∷ words) (with_pairs (λ p. R.Scalers p) t.place q)
    go (G.All n u) a =
        let same : read 5 0 word ≡ n = omega (arith, a.many) in
        let each : List Item = map (λ x. I.Scaler x) a.scalers in
        record {
          items = I.Scalers (scalers_of word) ∷ each;
          made = record { at = at; words = a.scalers; all = ap (λ (k : ℕ). I.Scalers (record { count = k }) ∷ each) same; many = sym same ∙ sym a.all };
          run = run ∙ ap (then (I.Scalers (scalers_of word))) (a.run ∙ rw (length-map a.scalers (λ x. I.Scaler x)));
          stop = tt;
        }
    go (G.Bad r place) a = ap (λ (x : Reading). x.out) run ∙ a

fillers_make : (s t : Scan) (word : ℕ) (words : List ℕ) → unfinished s ≡ false → Accepted s word F.Filler t → judge_at s word ≡ J.Took (item_from F.Filler word) t → SaysNext s (word ∷ words) (fillers_from (filler_of word).slot t words)
unfolding filler_of
fillers_make s t word words end a e =
    let b = filling s word end a in
    let same : t.slot ≡ (filler_of word).slot = b.slot ∙ sym b.own in
    let c = fill_says (filler_of word).slot 1 t words (omega arith) b.tail same in
    record {
      items = item_from F.Filler word ∷ c.items;
      made = record { some = omega arith; all = (refl, c.all); many = omega (arith, c.many) };
      run = read_at s word words e ∙ ap (then (item_from F.Filler word)) c.run;
      stop = tt;
    }

-- for every scan and all words
pub next_says : (s : Scan) (words : List ℕ) → SaysNext s words (next_from s words)
unfolding next_from read_from judge_at after scalers_of
next_says s [] = go (eqb (end_number s) 0) refl
  where
    go : (b : Bool) → eqb (end_number s) 0 ≡ b → SaysNext s [] (cond b (N.End s.place) (N.Refused (end_number s) s.place))
    go true h = ap just (end_by s ∙ rw h)
    go false h = end_by s ∙ rw h
next_says s (word ∷ words) = by_step (step_at s word) refl
  where
    by_form : (f : Form) (t : Scan) → step_at s word ≡ S.Went f t → Accepted s word f t → t.place ≡ onward s.place → SaysNext s (word ∷ words) (record_from (item_from f word) t words)
    by_form F.Block t e a at = one s t word words (I.Block (block_header_of word)) (R.Block (block_header_of word)) refl tt (judge_by s word e)
    by_form F.Parameters t e a at = one s t word words (I.Parameters (parameters_of word)) (R.Parameters (parameters_of word)) refl tt (judge_by s word e)
    by_form F.Trailer t e a at = one s t word words (I.Trailer (trailer_of word)) (R.Trailer (trailer_of word)) refl tt (judge_by s word e)
    by_form F.Event t e a at = one s t word words (I.Event (event_header_of word)) (R.Event (event_header_of word)) refl tt (judge_by s word e)
    by_form F.Clock t e a at = time_says s t word words (trigger_time_of word) (judge_by s word e)
    by_form F.ClockHigh t e a at = one s t word words (I.ClockHigh (trigger_time_high_of word)) (R.TimeHigh (trigger_time_high_of word)) refl tt (judge_by s word e)
    by_form F.Window t e a at = raw_says s t word words (I.Window (window_of word)) (λ p. R.Window (window_of word) p) (λ p items m. m) (λ p P x. x) at (ap (λ (x : Scan). among_by x.stage) a.scan) (judge_by s word e)
    by_form F.Raw t e a at = raw_says s t word words (I.Raw (pulse_raw_of word)) (λ p. R.Raw (pulse_raw_of word) p) (λ p items m. m) (λ p P x. x) at (ap (λ (x : Scan). among_by x.stage) a.scan) (judge_by s word e)
    by_form F.Pair t e a at = one s t word words (I.Pair (pair_of word)) (R.Pair (pair_of word)) refl tt (judge_by s word e)
    by_form F.Integral t e a at = one s t word words (I.Integral (integral_of word)) (R.Integral (integral_of word)) refl tt (judge_by s word e)
    by_form F.Time t e a at = one s t word words (I.Time (time_of word)) (R.Time (time_of word)) refl tt (judge_by s word e)
    by_form F.Pedestal t e a at = one s t word words (I.Pedestal (pedestal_of word)) (R.Pedestal (pedestal_of word)) refl tt (judge_by s word e)
    by_form F.Empty t e a at = one s t word words (I.Empty (empty_of word)) (R.Empty (empty_of word)) refl tt (judge_by s word e)
    by_form F.Filler t e a at = fillers_make s t word words (filler_tail s word a.form) a (judge_by s word e)
    by_form F.Scalers t e a at = scalers_make s t word words at (ap (λ (x : Scan). x.stage) a.scan) (judge_by s word e)
    by_form F.Scaler t e a at = one s t word words (I.Scaler (scaler_of word)) (R.Scaler (scaler_of word)) refl tt (judge_by s word e)

    by_step : (y : Step) → step_at s word ≡ y → SaysNext s (word ∷ words) (from_judged (with_item word y) s.place words)
    by_step (S.Went f t) e = let a = accepted s word e in by_form f t e a (place_after s t (item_from f word) a.scan)
    by_step (S.Refused n p) e = ap (λ (x : Reading). x.out) (read_at s word words (judge_by s word e))
    by_step S.Ended e = read_at s word words (judge_by s word e)
