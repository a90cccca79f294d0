-- Reading a block from C is the library's reading of it: call by call, and up to the block's end or the refusal that the check answers. Assumes nothing.
use Rattle.std.specs.Prelude.{ℕ, zero, suc, ◌+◌, ◌*◌, ◌-◌, ◌^◌, ◌≤◌, ◌<◌, ◌≡◌, refl, Bool, true, false, cond, List, [], ◌∷◌, ◌++◌, get_or, take, drop, replicate}
use Rattle.std.proofs.Common.{sym, ◌∙◌, arith, drop-drop, take_at}
use Rattle.std.proofs.Math.Path.{ap, subst}
use Rattle.std.proofs.Math.ListN.{length, length-append}
use Rattle.ground.specs.Splice.{splice}
use Rattle.ground.specs.SpliceLaws.{splice_front}
use Rattle.items.specs.declared.Item.{Item}
use Rattle.scan.specs.After.{onward, start_of}
use Rattle.scan.specs.declared.Scan.{Scan}
use Rattle.reader.specs.Reader.{Out, Whole, Broken, Reading, just, then, read_from}
use Rattle.reader.specs.RunLaws.{before, check_reads}
use Rattle.records.specs.declared.answer.Record.{Record}
use Rattle.records.specs.declared.answer.Record.TheVariants as R
use Rattle.records.specs.NextOf.{Next}
use Rattle.records.specs.NextOf as N
use Rattle.records.specs.Next.{Made, next_at}
use Rattle.records.specs.NextLaws.{Taken, SaysNext, next_says}
use Rattle.records.specs.AnswersLaws.{next_answers}
use Rattle.bytecheck.specs.Check.{number_of_out, check_number}
use Rattle.cursors.specs.Cursors.{cursor_of}
use Rattle.cursors.specs.CursorsLaws.{scan_over, scan_back, scan_is, start_zeros}
use Rattle.ends.specs.Ends.{record_count, end_kind, end_numbers, no_numbers}
use Rattle.cells.specs.Cells.{kind_of, field_numbers, record_numbers}
use Rattle.cells.specs.SoundLaws.{took_sound}
use Rattle.reading.specs.Reading.{bad_answer, room_for, told_by, scan_left, record_of, record_stored, NextFace}
use Rattle.layout.specs.NothingLost.{AllWords}
use Rattle.layout.specs.FirstWrong.{place_of, place_counts, place_small}
use Rattle.layout.proofs.WrongLaws.{first_wrong}
use Rattle.claims.specs.Bytes.{bytes_of_words}
use Rattle.claims.proofs.CheckLaws.{check_bytes}
use Rattle.claims.proofs.ReadsLaws.{made_some, before_items, before_out}
use Rattle.claims.specs.ReadFromC.{scan_after, NextCall, Gave, CReads, at_start, gave, gave_none, Recorded, none, another, ReadSoFar, ReadWhole, Stops}

-- ---- one call

scan_left_lem : (s : Scan) (x : Next) (room : Bool) → scan_left x room (cursor_of s) ≡ cursor_of (scan_after x room s)
scan_left_lem s (N.Took x u) true = scan_over (cursor_of s) u (scan_is s)
scan_left_lem s (N.Took x u) false = refl
scan_left_lem s (N.End words) room = refl
scan_left_lem s (N.Refused n place) room = refl

-- from the numbers of any scan a call answers as `next` does from that scan
pub next_call : (words : List ℕ) (s : Scan) (out : List ℕ) {r : ℕ} {n' out' : List ℕ} → NextFace (cursor_of s) words out r n' out' → NextCall words s out r n' out'
next_call words s out f =
    let x : Next = next_at words s in
    record {
      answer = x;
      said = next_answers words s refl;
      number = rw (scan_is s, scan_back s) at f.number;
      numbers = (rw (scan_is s, scan_back s) at f.numbers) ∙ scan_left_lem s x (room_for out);
      cells = rw (scan_is s, scan_back s) at f.cells;
    }

-- ---- a record's numbers

fields_five : (x : Record) → length (field_numbers x) ≡ 5
fields_five (R.Block r) = refl
fields_five (R.Parameters r) = refl
fields_five (R.Event r) = refl
fields_five (R.Time27 r) = refl
fields_five (R.Time48 r high) = refl
fields_five (R.TimeHigh r) = refl
fields_five (R.Window r p) = refl
fields_five (R.Raw r p) = refl
fields_five (R.Pair r) = refl
fields_five (R.Integral r) = refl
fields_five (R.Time r) = refl
fields_five (R.Pedestal r) = refl
fields_five (R.Trailer r) = refl
fields_five (R.Fillers slot n) = refl
fields_five (R.Empty r) = refl
fields_five (R.Scalers p) = refl
fields_five (R.Scaler r) = refl

-- no record's kind is that of the block's end
kind_other : (x : Record) → kind_of x ≡ end_kind → ⊥
kind_other (R.Block r) e = omega arith
kind_other (R.Parameters r) e = omega arith
kind_other (R.Event r) e = omega arith
kind_other (R.Time27 r) e = omega arith
kind_other (R.Time48 r high) e = omega arith
kind_other (R.TimeHigh r) e = omega arith
kind_other (R.Window r p) e = omega arith
kind_other (R.Raw r p) e = omega arith
kind_other (R.Pair r) e = omega arith
kind_other (R.Integral r) e = omega arith
kind_other (R.Time r) e = omega arith
kind_other (R.Pedestal r) e = omega arith
kind_other (R.Trailer r) e = omega arith
kind_other (R.Fillers slot n) e = omega arith
kind_other (R.Empty r) e = omega arith
kind_other (R.Scalers p) e = omega arith
kind_other (R.Scaler r) e = omega arith

-- what was filled in over the front, read back
filled_back : (x : Record) (out : List ℕ) {out' : List ℕ} → out' ≡ splice out 0 (record_numbers x) → take record_count out' ≡ record_numbers x
filled_back x out e = ap (take record_count) (e ∙ splice_front out (record_numbers x)) ∙ take_at (record_numbers x) _ record_count (omega (arith, fields_five x))

filled_kind : (k : ℕ) (fields out : List ℕ) {out' : List ℕ} → out' ≡ splice out 0 (k ∷ fields) → get_or out' 0 0 ≡ k
filled_kind k fields out e = ap (λ (l : List ℕ). get_or l 0 0) (e ∙ splice_front out (k ∷ fields))

-- ---- the reading behind a record

before_append : (xs ys : List Item) (r : Reading) → before (xs ++ ys) r ≡ before xs (before ys r)
before_append [] ys r = refl
before_append (x ∷ xs) ys r = ap (then x) (before_append xs ys r)

before_just : (xs : List Item) (o : Out) → before xs (just o) ≡ record { items = xs; out = o }
before_just [] o = refl
before_just (x ∷ xs) o = ap (then x) (before_just xs o)

-- the items xs were read, and s stands behind them
record Behind (words : List ℕ) (s : Scan) (xs : List Item) : Type 0 where
  place : s.place ≡ length xs
  run : read_from start_of words ≡ before xs (read_from s (drop s.place words))

module _ (words : List ℕ) (s : Scan) (xs : List Item) (b : Behind words s xs) where
  here : Reading
  here = read_from s (drop s.place words)

  same_out : (read_from start_of words).out ≡ here.out
  unfolding here
  same_out = ap (λ (r : Reading). r.out) b.run ∙ before_out xs _

  -- places stay far below the largest
  small : place_of here.out < 2 ^ 32 - 1
  unfolding here
  small = omega (arith, place_small words, ap place_of same_out)

  counts : place_of here.out ≡ s.place + length here.items
  unfolding here
  counts = place_counts s (drop s.place words) small

  place_below : s.place < 2 ^ 32
  place_below = omega (arith, small, counts)

  says : {x : Next} → next_at words s ≡ x → SaysNext s (drop s.place words) x
  unfolding next_at
  says e = subst (SaysNext s (drop s.place words)) e (next_says s (drop s.place words))

  refused_out : {n p : ℕ} → next_at words s ≡ N.Refused n p → (read_from start_of words).out ≡ Broken n p
  unfolding here
  refused_out e = same_out ∙ says e

  refused_some : {n p : ℕ} → next_at words s ≡ N.Refused n p → n ≡ 0 → ⊥
  refused_some {n} {p} e = ((first_wrong words n p).0 (refused_out e)).some

  ended_run : {n : ℕ} → next_at words s ≡ N.End n → read_from start_of words ≡ record { items = xs; out = Whole n }
  ended_run {n} e = b.run ∙ ap (before xs) (says e) ∙ before_just xs (Whole n)

  module _ {x : Record} {u : Scan} (e : next_at words s ≡ N.Took x u) where
    taken : Taken s (drop s.place words) x u
    taken = says e

    on : Reading
    on = read_from u (drop (length taken.items) (drop s.place words))

    there : u.place ≡ s.place + length taken.items
    unfolding here on
    there =
        let parts : length here.items ≡ length taken.items + length on.items =
        ap (λ (r : Reading). length r.items) taken.run ∙ ap length (before_items taken.items on) ∙ length-append taken.items on.items in
        let out : here.out ≡ on.out = ap (λ (r : Reading). r.out) taken.run ∙ before_out taken.items on in
        let few : place_of on.out < 2 ^ 32 - 1 = omega (arith, small, ap place_of out) in
        omega (arith, counts, place_counts u (drop (length taken.items) (drop s.place words)) few, ap place_of out, parts)

    behind : Behind words u (xs ++ taken.items)
    behind =
        let at : drop (length taken.items) (drop s.place words) ≡ drop u.place words = drop-drop (length taken.items) s.place words ∙ ap (λ (i : ℕ). drop i words) (sym there) in
        record {
          place = omega (arith, there, b.place, length-append xs taken.items);
          run = b.run ∙ ap (before xs) (taken.run ∙ ap (λ (l : List ℕ). before taken.items (read_from u l)) at) ∙ sym (before_append xs taken.items _);
        }

    made : Made (length xs + 1) x taken.items
    unfolding onward
    made =
        let p : onward s.place ≡ length xs + 1 = omega (arith, place_below, small, counts, b.place) in
        subst (λ (k : ℕ). Made k x taken.items) p taken.made

-- ---- a call behind the items read so far

-- what C sees, by the answer and whether there is room
abbrev Seen : Next → Bool → Scan → List ℕ → ℕ → List ℕ → List ℕ → Type 0
Seen x room s out r n' out' = (r ≡ told_by x room) × ((n' ≡ cursor_of (scan_after x room s)) × (out' ≡ cond room (splice out 0 (record_of x)) out))

seen : (words : List ℕ) (s : Scan) (out : List ℕ) {n n' out' : List ℕ} {r : ℕ} → n ≡ cursor_of s → NextFace n words out r n' out' → Seen (next_at words s) (room_for out) s out r n' out'
seen words s out {n} {n'} {out'} {r} e f =
    let c = next_call words s out (subst (λ (m : List ℕ). NextFace m words out r n' out') e f) in
    let same = c.said.answer in
    (rw same at c.number, (rw same at c.numbers, rw same at c.cells))

module _ (words : List ℕ) (s : Scan) (xs : List Item) (b : Behind words s xs) (cells : List (List ℕ)) (recorded : Recorded cells xs) (out : List ℕ) (r : ℕ) (n' out' : List ℕ) where
  -- a call that gave a record
  after_record : (x : Next) (room : Bool) → next_at words s ≡ x → Seen x room s out r n' out' → Gave r out' → ReadSoFar words n' (cells ++ (take record_count out' ∷ []))
  after_record (N.Took x u) true e (number, (numbers, filled)) g =
      let t = behind words s xs b e in
      record {
        scan = u;
        numbers = numbers;
        items = xs ++ (taken words s xs b e).items;
        records = subst (λ (c : List ℕ). Recorded (cells ++ (c ∷ [])) (xs ++ (taken words s xs b e).items)) (sym (filled_back x out filled)) (another recorded x (taken words s xs b e).items (made words s xs b e) (took_sound words s e));
        place = t.place;
        run = t.run;
      }
  after_record (N.Took x u) false e (number, rest) g = absurd (omega (arith, number, g.0))
  after_record (N.End m) true e (number, (numbers, filled)) g = absurd (g.1 (filled_kind end_kind _ out filled))
  after_record (N.End m) false e (number, rest) g = absurd (omega (arith, number, g.0))
  after_record (N.Refused m p) room e (number, rest) g = absurd (omega (arith, number, g.0, refused_some words s xs b e))

  -- a call that gave none
  after_none : (x : Next) (room : Bool) → next_at words s ≡ x → Seen x room s out r n' out' → (Gave r out' → ⊥) → n' ≡ cursor_of s
  after_none (N.Took x u) true e (number, (numbers, filled)) h =
      let t = behind words s xs b e in
      let low : r < 2 ^ 32 = omega (arith, number, place_below words u _ t) in
      absurd (h (low, λ k. kind_other x (sym (filled_kind (kind_of x) _ out filled) ∙ k)))
  after_none (N.Took x u) false e (number, (numbers, filled)) h = numbers
  after_none (N.End m) room e (number, (numbers, filled)) h = numbers
  after_none (N.Refused m p) room e (number, (numbers, filled)) h = numbers

  -- the block's end
  after_end : (x : Next) (room : Bool) → next_at words s ≡ x → Seen x room s out r n' out' → r < 2 ^ 32 → get_or out' 0 0 ≡ end_kind → ReadWhole words cells r
  after_end (N.Took x u) true e (number, (numbers, filled)) low k = absurd (kind_other x (sym (filled_kind (kind_of x) _ out filled) ∙ k))
  after_end (N.Took x u) false e (number, rest) low k = absurd (omega (arith, number, low))
  after_end (N.End m) true e (number, rest) low k =
      record { items = xs; records = recorded; read = ended_run words s xs b e ∙ ap (λ (i : ℕ). record { items = xs; out = Whole i }) (sym number) }
  after_end (N.End m) false e (number, rest) low k = absurd (omega (arith, number, low))
  after_end (N.Refused m p) room e (number, rest) low k = absurd (omega (arith, number, low, refused_some words s xs b e))

  -- a refusal
  after_refusal : (x : Next) (room : Bool) → next_at words s ≡ x → Seen x room s out r n' out' → 2 ^ 32 ≤ r → r < bad_answer → number_of_out (read_from start_of words).out ≡ r
  after_refusal (N.Took x u) true e (number, rest) high low = absurd (omega (arith, number, high, place_below words u _ (behind words s xs b e)))
  after_refusal (N.Took x u) false e (number, rest) high low = absurd (omega (arith, number, low))
  after_refusal (N.End m) true e (number, rest) high low =
      let m_is : place_of (read_from start_of words).out ≡ m = ap (λ (x : Reading). place_of x.out) (ended_run words s xs b e) in
      absurd (omega (arith, number, high, place_small words, m_is))
  after_refusal (N.End m) false e (number, rest) high low = absurd (omega (arith, number, low))
  after_refusal (N.Refused m p) room e (number, rest) high low = ap number_of_out (refused_out words s xs b e) ∙ sym number

-- ---- the calls from zeros on

so_far : {words n : List ℕ} {cells : List (List ℕ)} (a : ReadSoFar words n cells) → Behind words a.scan a.items
so_far a = record { place = a.place; run = a.run }

-- after any calls the items of the records given stand first in the reading, and it goes on from the scan that was left: nothing is left out between
pub c_reads : {words n : List ℕ} {cells : List (List ℕ)} → CReads words n cells → ReadSoFar words n cells
c_reads at_start = record { scan = start_of; numbers = sym start_zeros; items = []; records = none; place = refl; run = refl }
c_reads {words} (gave c out r n' out' f g) =
    let a = c_reads c in
    after_record words a.scan a.items (so_far a) _ a.records out r n' out' (next_at words a.scan) (room_for out) refl (seen words a.scan out a.numbers f) g
c_reads {words} (gave_none c out r n' out' f h) =
    let a = c_reads c in
    record {
      scan = a.scan;
      numbers = after_none words a.scan a.items (so_far a) _ a.records out r n' out' (next_at words a.scan) (room_for out) refl (seen words a.scan out a.numbers f) h;
      items = a.items;
      records = a.records;
      place = a.place;
      run = a.run;
    }

-- where a call then says that the block has ended, the records given are all of its records, and its answer is the block's length
pub c_reads_whole : {words n : List ℕ} {cells : List (List ℕ)} → CReads words n cells → (out : List ℕ) {r : ℕ} {n' out' : List ℕ} → NextFace n words out r n' out'
    → r < 2 ^ 32 → get_or out' 0 0 ≡ end_kind → ReadWhole words cells r
c_reads_whole {words} c out {r} {n'} {out'} f low k =
    let a = c_reads c in
    after_end words a.scan a.items (so_far a) _ a.records out r n' out' (next_at words a.scan) (room_for out) refl (seen words a.scan out a.numbers f) low k

-- which is what the check answers of the same block's bytes
pub c_end_checked : {words n : List ℕ} {cells : List (List ℕ)} → CReads words n cells → (out : List ℕ) {r : ℕ} {n' out' : List ℕ} → NextFace n words out r n' out'
    → r < 2 ^ 32 → get_or out' 0 0 ≡ end_kind → AllWords words → check_number (bytes_of_words words) ≡ r
c_end_checked {words} c out f low k w =
    let a = c_reads_whole c out f low k in
    check_bytes words w ∙ ap number_of_out (sym (check_reads start_of words) ∙ ap (λ (x : Reading). x.out) a.read)

-- where a call is refused, but not for its arrays, its answer is the refusal and the place that the check answers of the same block's bytes
pub c_refusal_checked : {words n : List ℕ} {cells : List (List ℕ)} → CReads words n cells → (out : List ℕ) {r : ℕ} {n' out' : List ℕ} → NextFace n words out r n' out'
    → 2 ^ 32 ≤ r → r < bad_answer → AllWords words → check_number (bytes_of_words words) ≡ r
c_refusal_checked {words} c out {r} {n'} {out'} f high low w =
    let a = c_reads c in
    check_bytes words w ∙ ap number_of_out (sym (check_reads start_of words))
    ∙ after_refusal words a.scan a.items (so_far a) _ a.records out r n' out' (next_at words a.scan) (room_for out) refl (seen words a.scan out a.numbers f) high low

-- ---- calls come to an end

-- what a call leaves, by the library's answer
face_of : (words : List ℕ) (s : Scan) (out : List ℕ) (x : Next) → next_at words s ≡ x
    → NextFace (cursor_of s) words out (told_by x (room_for out)) (cursor_of (scan_after x (room_for out) s)) (record_stored out (record_of x))
face_of words s out x e =
    record {
      number = rw (scan_is s, scan_back s, e);
      numbers = rw (scan_is s, scan_back s, e) (sym (scan_left_lem s x (room_for out)));
      cells = rw (scan_is s, scan_back s, e);
    }

zeros : List ℕ
zeros = replicate record_count 0

stops_from : (most : ℕ) (words : List ℕ) (s : Scan) (xs : List Item) → Behind words s xs → {cells : List (List ℕ)} → CReads words (cursor_of s) cells
    → length (read_from start_of words).items < most + length xs → Stops words
unfolding zeros
stops_from zero words s xs b c few =
    absurd (omega (arith, few, ap (λ (r : Reading). length r.items) b.run ∙ ap length (before_items xs _) ∙ length-append xs (read_from s (drop s.place words)).items))
stops_from (suc most) words s xs b {cells} c few = go (next_at words s) refl (λ u ys t given on. stops_from most words u ys t on)
  where
    go : (x : Next) → next_at words s ≡ x
        → ((u : Scan) (ys : List Item) → Behind words u ys → (given : List (List ℕ)) → CReads words (cursor_of u) given → length (read_from start_of words).items < most + length ys → Stops words)
        → Stops words
    go (N.Took x u) e again =
        let t = behind words s xs b e in
        let low : u.place < 2 ^ 32 = place_below words u _ t in
        let out : List ℕ = splice zeros 0 (record_numbers x) in
        let kind : get_or out 0 0 ≡ kind_of x = filled_kind (kind_of x) (field_numbers x) zeros refl in
        let on : CReads words (cursor_of u) _ = gave c zeros u.place (cursor_of u) out (face_of words s zeros (N.Took x u) e) (low, λ k. kind_other x (sym kind ∙ k)) in
        let items : List Item = (taken words s xs b e).items in
        again u (xs ++ items) t _ on (omega (arith, few, length-append xs items, made_some _ x items (taken words s xs b e).made))
    go (N.End m) e again =
        record {
          numbers = cursor_of s;
          cells = cells;
          calls = c;
          answer = m;
          out = splice zeros 0 end_numbers;
          last = face_of words s zeros (N.End m) e;
          checked = ap number_of_out (sym (check_reads start_of words) ∙ ap (λ (r : Reading). r.out) (ended_run words s xs b e));
        }
    go (N.Refused m p) e again =
        record {
          numbers = cursor_of s;
          cells = cells;
          calls = c;
          answer = m * 2 ^ 32 + p;
          out = splice zeros 0 no_numbers;
          last = face_of words s zeros (N.Refused m p) e;
          checked = ap number_of_out (sym (check_reads start_of words) ∙ refused_out words s xs b e);
        }

-- whatever the words
pub c_stops : (words : List ℕ) → Stops words
c_stops words =
    stops_from (suc (length (read_from start_of words).items)) words start_of [] (record { place = refl; run = refl })
    (subst (λ (n : List ℕ). CReads words n []) (sym start_zeros) at_start)
    (omega arith)
