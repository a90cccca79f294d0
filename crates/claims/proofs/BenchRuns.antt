-- "Run A and b to i are proved together, as rows of a single table under one theorem"; a last row is run A with scalers. Assumes nothing.
use Rattle.std.specs.Prelude.{ℕ, ◌*◌, ◌≡◌, refl, true, List, [], ◌∷◌, ◌++◌, map, length, get_or, take, set, replicate}
use Rattle.std.proofs.Common.{sym, ap, ◌∙◌, subst, arith}
use Rattle.ground.specs.Order.{perm_nil, perm_cons}
use Rattle.ground.specs.Splice.{splice}
use Rattle.ground.specs.Tests.{all_le}
use Rattle.ground.specs.TestsLaws.{Under, under}
use Rattle.settings.specs.declared.Settings.{Settings}
use Rattle.std.specs.declared.result.Result.TheVariants.{Ok}
use Rattle.find.specs.Call.{find_number, found_pulses}
use Rattle.reader.specs.Reader.{Whole, Reading, read_from}
use Rattle.scan.specs.After.{start_of}
use Rattle.reader.specs.RunLaws.{check_reads}
use Rattle.modes.specs.Channel.{common_of, channel_items}
use Rattle.scalers.specs.Scalers.{nothing_counted, latched_now}
use Rattle.state.specs.declared.State.{State}
use Rattle.writer.specs.Answer.{Answer}
use Rattle.writer.specs.Answer.{Finished}
use Rattle.state.specs.State.{idle, with_block, with_event, with_mark, with_closed, with_scalers}
use Rattle.writer.specs.Calls.{OpenBlockSays, OpenEventSays, FinishSays}
use Rattle.writer.specs.UniqueLaws.{set_up_unique, open_block_unique, open_event_unique, finish_unique}
use Rattle.closing.specs.Closing.{CloseSays}
use Rattle.closing.specs.ClosingLaws.{close_unique}
use Rattle.counting.specs.Counting.{with_frames}
use Rattle.owners.specs.Order.{Bench, Post, PostRun}
use Rattle.owners.specs.Order as P
use Rattle.owners.proofs.OrderLaws.{order}
use Rattle.listing.specs.Listing.{listing_of}
use Rattle.bytecheck.specs.Check.{number_of_out}
use Rattle.layout.specs.NothingLost.{AllWords}
use Rattle.layout.specs.Grammar.{Each}
use Rattle.claims.specs.Bytes.{bytes_of_words, bytes_of_lines}
use Rattle.claims.proofs.ReadsLaws.{reads_whole}
use Rattle.claims.proofs.CheckLaws.{check_bytes}
use Rattle.claims.specs.Runs.{all_open, BenchRun, BenchBlock, window_a, block_a, run_a, frames_s, block_s, run_s, rows, as_bench, CallsOf, run_records, BlockHolds, IfGiven, Holds}

-- ---- what the calls leave

-- two runs of the same calls end alike
calls_same : {r : BenchRun} {k : BenchBlock} (x y : CallsOf r k) → (x.finished ≡ y.finished) × (x.left ≡ y.left)
calls_same {r} {k} x y =
    let zeros : List ℕ = replicate (length k.words) 0 in
    let store : List ℕ = replicate (16 * r.settings.nw) 0 in
    let posts : List Post = record { channel = r.channel; window = r.window } ∷ [] in
    let a = set_up_unique r.settings x.ready y.ready x.set_up y.set_up in
    let b = open_block_unique y.ready.state zeros k.number 1 x.block y.block x.head y.head (subst (λ (i : Answer). OpenBlockSays i.state zeros k.number 1 x.block x.head) a x.open_block) y.open_block in
    let c = open_event_unique y.block.state k.event k.time x.event y.event (subst (λ (i : Answer). OpenEventSays i.state k.event k.time x.event) b.0 x.open_event) y.open_event in
    let d : x.end ≡ y.end =
    (order (tt, tt) (perm_cons _ perm_nil) (subst (λ (i : Answer). PostRun (record { state = i.state; store = store }) posts x.answers k.asides x.told x.end) c x.post) y.post).1.1 in
    let e = close_unique y.end.state y.end.store y.head k.asked x.closed y.closed x.written y.written
    (subst (λ (i : Bench). CloseSays i.state i.store y.head k.asked x.closed x.written) d (subst (λ (w : List ℕ). CloseSays x.end.state x.end.store w k.asked x.closed x.written) b.1 x.close)) y.close in
    finish_unique y.closed.state y.written x.finished y.finished x.left y.left
    (subst (λ (i : Answer). FinishSays i.state y.written x.finished x.left) e.0 (subst (λ (w : List ℕ). FinishSays x.closed.state w x.finished x.left) e.1 x.finish)) y.finish

-- so one run of them says what all leave
all_calls : {r : BenchRun} {k : BenchBlock} (y : CallsOf r k) → y.left ≡ k.words → y.finished.length ≡ length k.words
    → (x : CallsOf r k) → (x.left ≡ k.words) × (x.finished.length ≡ length k.words)
all_calls y w n x = let s = calls_same x y in (s.1 ∙ w, ap (λ (f : Finished). f.length) s.0 ∙ n)

abbrev answer : State → Answer
answer s = record { refusal = Ok tt; state = s }

-- ---- run A's block, without scalers and with them

abbrev settings_a : Settings
settings_a = run_a.settings

abbrev open_a : State
open_a = with_block (idle settings_a nothing_counted) 1 1 2

abbrev event_a : State
event_a = with_event open_a 9 256

abbrev posted_a : State
posted_a = with_mark event_a (set event_a.posted 3 true)

abbrev store_a : List ℕ
store_a = splice (replicate 256 0) 48 window_a

abbrev framed_a : State
framed_a = with_frames posted_a frames_s

abbrev latched_a : State
latched_a = with_scalers framed_a (latched_now framed_a.scalers)

calls_a : CallsOf run_a block_a
unfolding all_open
calls_a =
    record {
      ready = answer (idle settings_a nothing_counted);
      set_up = record { refusal = refl; state = refl };
      block = answer open_a;
      head = take 2 block_a.words ++ replicate 8 0;
      open_block = record { refusal = refl; state = refl; buffer = refl };
      event = answer event_a;
      open_event = record { refusal = refl; state = refl };
      answers = _;
      told = _;
      end = record { state = posted_a; store = store_a };
      post = P.one _ (answer posted_a) store_a (record { refusal = refl; state = refl; rows = refl }) P.none;
      closed = answer (with_closed posted_a 8);
      written = take 8 block_a.words ++ replicate 2 0;
      close = record { refusal = refl; state = refl; buffer = refl };
      finished = record { refusal = Ok tt; state = idle settings_a event_a.scalers; length = 10 };
      left = block_a.words;
      finish = record { refusal = refl; state = refl; size = refl; buffer = refl };
    }

calls_s : CallsOf run_s block_s
unfolding all_open
calls_s =
    record {
      ready = answer (idle settings_a nothing_counted);
      set_up = record { refusal = refl; state = refl };
      block = answer open_a;
      head = take 2 block_s.words ++ replicate 26 0;
      open_block = record { refusal = refl; state = refl; buffer = refl };
      event = answer event_a;
      open_event = record { refusal = refl; state = refl };
      answers = _;
      told = _;
      end = record { state = latched_a; store = store_a };
      post =
          P.one _ (answer posted_a) store_a (record { refusal = refl; state = refl; rows = refl })
          (P.aside (P.frames frames_s) (answer framed_a) (record { refusal = refl; state = refl }) (P.aside P.latch (answer latched_a) (record { refusal = refl; state = refl }) P.none));
      closed = answer (with_closed latched_a 27);
      written = take 27 block_s.words ++ replicate 1 0;
      close = record { refusal = refl; state = refl; buffer = refl };
      finished = record { refusal = Ok tt; state = idle settings_a latched_a.scalers; length = 28 };
      left = block_s.words;
      finish = record { refusal = refl; state = refl; size = refl; buffer = refl };
    }

read_a : read_from start_of block_a.words ≡ record { items = run_records run_a block_a; out = Whole 10 }
unfolding all_open
read_a = refl

read_s : read_from start_of block_s.words ≡ record { items = run_records run_s block_s; out = Whole 28 }
unfolding all_open
read_s = refl

listed_a : listing_of (bytes_of_words block_a.words) ≡ bytes_of_lines block_a.text
unfolding all_open
listed_a = refl

listed_s : listing_of (bytes_of_words block_s.words) ≡ bytes_of_lines block_s.text
unfolding all_open
listed_s = refl

-- words that compute to be of 32 bits are
small : (ws : List ℕ) → all_le 4294967295 ws ≡ true → AllWords ws
small ws h = go ws (under 4294967295 ws h)
  where
    go : (l : List ℕ) → Under 4294967295 l → AllWords l
    go [] u = tt
    go (w ∷ l) u = (omega (arith, u.0), go l u.1)

-- a block whose calls, reading and listing are as given
block_holds : (r : BenchRun) (k : BenchBlock) → ((x : CallsOf r k) → (x.left ≡ k.words) × (x.finished.length ≡ length k.words)) → AllWords k.words
    → read_from start_of k.words ≡ record { items = run_records r k; out = Whole (length k.words) } → listing_of (bytes_of_words k.words) ≡ bytes_of_lines k.text → BlockHolds r k
block_holds r k called words read listed =
    record {
      called = called;
      taken = read;
      answered = reads_whole k.words (run_records r k) (length k.words) words read;
      checked = check_bytes k.words words ∙ ap number_of_out (sym (check_reads start_of k.words) ∙ ap (λ (x : Reading). x.out) read);
      listed = listed;
    }

block_a_lem : BlockHolds run_a block_a
unfolding calls_a all_le
block_a_lem = block_holds run_a block_a (all_calls calls_a refl refl) (small block_a.words refl) read_a listed_a

block_s_lem : BlockHolds run_s block_s
unfolding calls_s all_le
block_s_lem = block_holds run_s block_s (all_calls calls_s refl refl) (small block_s.words refl) read_s listed_s

-- ---- the table

holds : (r : BenchRun) → find_number r.settings r.channel r.window ≡ 0 → map (as_bench r.window) (found_pulses r.settings r.channel r.window) ≡ r.pulses
    → channel_items (common_of r.settings) (get_or r.settings.thresholds r.channel 0) r.channel r.window ≡ r.written → IfGiven r r.block → Holds r
holds r a f w b = record { accepted = a; found = f; writes = w; in_block = b }

-- every row is as the bench says
pub bench_runs : Each Holds rows
unfolding all_open
bench_runs = (holds (at 0) refl refl refl block_a_lem, (holds (at 1) refl refl refl tt, (holds (at 2) refl refl refl tt, (holds (at 3) refl refl refl tt, (holds (at 4) refl refl refl tt, (holds (at 5) refl refl refl tt, (holds (at 6) refl refl refl tt, (holds (at 7) refl refl refl tt, (holds (at 8) refl refl refl tt, (holds (at 9) refl refl refl tt, (holds (at 10) refl refl refl tt, (holds (at 11) refl refl refl tt, (holds (at 12) refl refl refl tt, (holds (at 13) refl refl refl tt, (holds (at 14) refl refl refl tt, (holds (at 15) refl refl refl block_s_lem, tt))))))))))))))))
  where
    at : ℕ → BenchRun
    at n = get_or rows n run_a
