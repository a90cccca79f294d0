-- The demands' theorems suppose of a call what `PostSays` says, or that its answer is `next_at words scan`, and so on. Each is tied here to the code: it is what a caller
-- learns from the function's own `ensures` (`Reads.Learnt`, of the arguments, the answer `r`, and the arguments as the call leaves them). Assumes nothing.
use Rattle.std.specs.Prelude.{ℕ, ◌≡◌, Bool, true, false, Option, List}
use contract.Lifetimes.{Lfts}
use Rattle.std.specs.Borrow.{Bor, MutBor}
use Rattle.settings.specs.declared.Settings.{Settings}
use Rattle.find.proofs as find
use Rattle.std.specs.declared.result.Result.{Result}
use Rattle.refusals.specs.declared.Refusal.{Refusal}
use Rattle.refusals.specs.Refusal.{Outcome, told}
use Rattle.finder.specs.declared.Pulses.{Pulses}
use Rattle.find.specs.Call.{FindSays}
use Rattle.writer.proofs as writer
use Rattle.closing.proofs as closing
use Rattle.counting.proofs as counting
use Rattle.state.specs.declared.State.{State}
use Rattle.writer.specs.Answer.{answer, made, finished}
use Rattle.writer.specs.Calls.{SetUpSays, OpenBlockSays, OpenEventSays, PostSays, FinishSays}
use Rattle.closing.specs.Closing.{CloseSays}
use Rattle.counting.specs.Counting.{CountSays, LatchSays, ResetSays}
use Rattle.scan.proofs as scan
use Rattle.reader.proofs as reader
use Rattle.scan.specs.declared.Scan.{Scan}
use Rattle.items.specs.declared.Form.{Form}
use Rattle.items.specs.declared.Item.{Item}
use Rattle.reader.specs.declared.Refused.{Refused}
use Rattle.reader.specs.Step.{step_of}
use Rattle.reader.specs.Judged.{judged_of}
use Rattle.scan.specs.After.{start_of}
use Rattle.reader.specs.Reader.{end_number}
use Rattle.reader.specs.Answers.{StepSays, JudgedSays}
use Rattle.rawitems.proofs as rawitems
use Rattle.rawsamples.proofs as rawsamples
use Rattle.rawsamples.specs.RawSamples.{samples_of}
use Rattle.rawsamples.specs.Says.{SamplesSay}
use Rattle.records.proofs as records
use Rattle.records.specs.declared.answer.Next.{Next}
use Rattle.records.specs.NextOf.{next_of}
use Rattle.rawitems.specs.declared.Pairs.{Pairs}
use Rattle.rawitems.specs.Pairs.{part_of}
use Rattle.records.specs.Answers.{NextSays}
use Rattle.host.proofs as host
use Rattle.hostcheck.proofs as hostcheck
use Rattle.hostcount.proofs as hostcount
use Rattle.hostfind.proofs as hostfind
use Rattle.hostread.proofs as hostread
use Rattle.bytecheck.specs.Check.{check_number}
use Rattle.host.specs.Face.{SetUpFace, OpenBlockFace, OpenEventFace, PostFace, CloseFace, FinishFace}
use Rattle.hostcount.specs.Face.{CountFace, LatchFace, ResetFace}
use Rattle.hostfind.specs.Found.{FindFace}
use Rattle.reading.specs.Reading.{NextFace}
use Rattle.listing.proofs as listing
use Rattle.listing.specs.Listing.{listing_of, long_listing_of}
use Rattle.listing.specs.Says.{Listed, ListSays, LongSays, LengthSays}

-- a reference to lent words, samples, bytes or numbers: `now` are those it refers to
abbrev pub Reference : Type 0
Reference = Bor (List ℕ)

-- the same, where the call may write
abbrev pub Lent : Type 0
Lent = MutBor (List ℕ)

-- ---- the calls

pub set_up_tied : (settings : Settings) (r : Result State Refusal)
    → writer.set_up.Reads.Learnt tt (settings, tt) r (settings, tt) → SetUpSays settings (made r)
set_up_tied settings r p = p

pub open_block_tied : (κs : Lfts 2) (state state' : MutBor State) (words words' : Lent) (number events : ℕ) (r : Outcome)
    → writer.open_block.Reads.Learnt κs (state, (words, (number, (events, tt)))) r (state', (words', (number, (events, tt))))
    → OpenBlockSays state.now words.now number events (answer r state'.now) words'.now
open_block_tied κs state state' words words' number events r p = p

pub open_event_tied : (κs : Lfts 1) (state state' : MutBor State) (number time : ℕ) (r : Outcome)
    → writer.open_event.Reads.Learnt κs (state, (number, (time, tt))) r (state', (number, (time, tt))) → OpenEventSays state.now number time (answer r state'.now)
open_event_tied κs state state' number time r p = p

pub post_tied : (κs : Lfts 3) (state state' : MutBor State) (store store' : Lent) (channel : ℕ) (window : Reference) (r : Outcome)
    → writer.post.Reads.Learnt κs (state, (store, (channel, (window, tt)))) r (state', (store', (channel, (window, tt))))
    → PostSays state.now store.now channel window.now (answer r state'.now) store'.now
post_tied κs state state' store store' channel window r p = p

pub close_tied : (κs : Lfts 3) (state state' : MutBor State) (store : Reference) (words words' : Lent) (asked : Bool) (r : Outcome)
    → closing.close.Reads.Learnt κs (state, (store, (words, (asked, tt)))) r (state', (store, (words', (asked, tt))))
    → CloseSays state.now store.now words.now asked (answer r state'.now) words'.now
close_tied κs state state' store words words' asked r p = p

pub finish_tied : (κs : Lfts 2) (state state' : MutBor State) (words words' : Lent) (r : Result ℕ Refusal)
    → writer.finish.Reads.Learnt κs (state, (words, tt)) r (state', (words', tt)) → FinishSays state.now words.now (finished r state'.now) words'.now
finish_tied κs state state' words words' r p = p

pub count_tied : (κs : Lfts 2) (state state' : MutBor State) (samples : Reference) (r : Outcome)
    → counting.count.Reads.Learnt κs (state, (samples, tt)) r (state', (samples, tt)) → CountSays state.now samples.now (answer r state'.now)
count_tied κs state state' samples r p = p

pub latch_tied : (κs : Lfts 1) (state state' : MutBor State) (r : Outcome) → counting.latch.Reads.Learnt κs (state, tt) r (state', tt) → LatchSays state.now (answer r state'.now)
latch_tied κs state state' r p = p

pub reset_tied : (κs : Lfts 1) (state state' : MutBor State) (r : Outcome) → counting.reset.Reads.Learnt κs (state, tt) r (state', tt) → ResetSays state.now (answer r state'.now)
reset_tied κs state state' r p = p

pub find_tied : (κs : Lfts 1) (settings : Settings) (channel : ℕ) (window : Reference) (r : Result Pulses Refusal)
    → find.find.Reads.Learnt κs (settings, (channel, (window, tt))) r (settings, (channel, (window, tt))) → FindSays settings channel window.now r
find_tied κs settings channel window r p = p

-- ---- the same from C

pub fadc250_set_up_tied : (κs : Lfts 2) (settings : Reference) (state state' : Lent) (r : ℕ)
    → host.fadc250_set_up.Reads.Learnt κs (settings, (state, tt)) r (settings, (state', tt)) → SetUpFace settings.now state.now r state'.now
fadc250_set_up_tied κs settings state state' r p = p

pub fadc250_open_block_tied : (κs : Lfts 2) (state state' words words' : Lent) (number events r : ℕ)
    → host.fadc250_open_block.Reads.Learnt κs (state, (words, (number, (events, tt)))) r (state', (words', (number, (events, tt))))
    → OpenBlockFace state.now words.now number events r state'.now words'.now
fadc250_open_block_tied κs state state' words words' number events r p = p

pub fadc250_open_event_tied : (κs : Lfts 1) (state state' : Lent) (number time r : ℕ)
    → host.fadc250_open_event.Reads.Learnt κs (state, (number, (time, tt))) r (state', (number, (time, tt))) → OpenEventFace state.now number time r state'.now
fadc250_open_event_tied κs state state' number time r p = p

pub fadc250_post_tied : (κs : Lfts 3) (state state' store store' : Lent) (channel : ℕ) (window : Reference) (r : ℕ)
    → host.fadc250_post.Reads.Learnt κs (state, (store, (channel, (window, tt)))) r (state', (store', (channel, (window, tt))))
    → PostFace state.now store.now channel window.now r state'.now store'.now
fadc250_post_tied κs state state' store store' channel window r p = p

pub fadc250_close_tied : (κs : Lfts 3) (state state' : Lent) (store : Reference) (words words' : Lent) (r : ℕ)
    → host.fadc250_close.Reads.Learnt κs (state, (store, (words, tt))) r (state', (store, (words', tt))) → CloseFace state.now store.now words.now false r state'.now words'.now
fadc250_close_tied κs state state' store words words' r p = p

pub fadc250_close_with_scalers_tied : (κs : Lfts 3) (state state' : Lent) (store : Reference) (words words' : Lent) (r : ℕ)
    → host.fadc250_close_with_scalers.Reads.Learnt κs (state, (store, (words, tt))) r (state', (store, (words', tt)))
    → CloseFace state.now store.now words.now true r state'.now words'.now
fadc250_close_with_scalers_tied κs state state' store words words' r p = p

pub fadc250_finish_tied : (κs : Lfts 2) (state state' words words' : Lent) (r : ℕ)
    → host.fadc250_finish.Reads.Learnt κs (state, (words, tt)) r (state', (words', tt)) → FinishFace state.now words.now r state'.now words'.now
fadc250_finish_tied κs state state' words words' r p = p

pub fadc250_count_tied : (κs : Lfts 2) (state state' : Lent) (frames : Reference) (r : ℕ)
    → hostcount.fadc250_count.Reads.Learnt κs (state, (frames, tt)) r (state', (frames, tt)) → CountFace state.now frames.now r state'.now
fadc250_count_tied κs state state' frames r p = p

pub fadc250_latch_tied : (κs : Lfts 1) (state state' : Lent) (r : ℕ)
    → hostcount.fadc250_latch.Reads.Learnt κs (state, tt) r (state', tt) → LatchFace state.now r state'.now
fadc250_latch_tied κs state state' r p = p

pub fadc250_reset_tied : (κs : Lfts 1) (state state' : Lent) (r : ℕ)
    → hostcount.fadc250_reset.Reads.Learnt κs (state, tt) r (state', tt) → ResetFace state.now r state'.now
fadc250_reset_tied κs state state' r p = p

pub fadc250_find_tied : (κs : Lfts 3) (settings : Reference) (channel : ℕ) (window : Reference) (out out' : Lent) (r : ℕ)
    → hostfind.fadc250_find.Reads.Learnt κs (settings, (channel, (window, (out, tt)))) r (settings, (channel, (window, (out', tt))))
    → FindFace settings.now channel window.now out.now r out'.now
fadc250_find_tied κs settings channel window out out' r p = p

pub fadc250_check_tied : (κs : Lfts 1) (bytes : Reference) (r : ℕ)
    → hostcheck.fadc250_check.Reads.Learnt κs (bytes, tt) r (bytes, tt) → r ≡ check_number bytes.now
fadc250_check_tied κs bytes r p = p

-- ---- reading

pub scan_start_tied : (r : Scan) → scan.Scan.start.Reads.Learnt tt tt r tt → r ≡ start_of
scan_start_tied r p = p

pub scan_step_tied : (self : Scan) (word : ℕ) (r : Result (Option (Form × Scan)) Refused)
    → reader.step_at.Reads.Learnt tt (self, (word, tt)) r (self, (word, tt)) → StepSays self word (step_of r)
scan_step_tied self word r p = p

pub scan_judge_tied : (self : Scan) (word : ℕ) (r : Result (Option (Item × Scan)) Refused)
    → reader.judge_at.Reads.Learnt tt (self, (word, tt)) r (self, (word, tt)) → JudgedSays self word (judged_of r)
scan_judge_tied self word r p = p

pub scan_at_end_tied : (self : Scan) (r : Outcome) → reader.at_end.Reads.Learnt tt (self, tt) r (self, tt) → told r ≡ end_number self
scan_at_end_tied self r p = p

pub next_tied : (κs : Lfts 1) (words : Reference) (scan : Scan) (r : Result Next Refused) → records.next.Reads.Learnt κs (words, (scan, tt)) r (words, (scan, tt)) → NextSays words.now scan (next_of r)
next_tied κs words scan r p = p

pub part_tied : (κs : Lfts 1) (words : Reference) (p : Pairs) (r : Reference) → rawitems.part.Reads.Learnt κs (words, (p, tt)) r (words, (p, tt)) → r.now ≡ part_of words.now p
part_tied κs words p r e = e

pub list_tied : (κs : Lfts 2) (bytes : Reference) (text text' : Lent) (r : Listed) → listing.list.Reads.Learnt κs (bytes, (text, tt)) r (bytes, (text', tt)) → ListSays (listing_of bytes.now) text.now r text'.now
list_tied κs bytes text text' r p = p

pub list_long_tied : (κs : Lfts 2) (bytes : Reference) (text text' : Lent) (r : Listed)
    → listing.list_long.Reads.Learnt κs (bytes, (text, tt)) r (bytes, (text', tt)) → LongSays (long_listing_of bytes.now) text.now r text'.now
list_long_tied κs bytes text text' r p = p

pub fadc250_list_tied : (κs : Lfts 2) (bytes : Reference) (text text' : Lent) (r : ℕ)
    → hostread.fadc250_list.Reads.Learnt κs (bytes, (text, tt)) r (bytes, (text', tt)) → LengthSays (long_listing_of bytes.now) text.now r text'.now
fadc250_list_tied κs bytes text text' r p = p

pub samples_tied : (κs : Lfts 2) (words : Reference) (place pairs : ℕ) (out out' : Lent) (r : ℕ)
    → rawsamples.samples.Reads.Learnt κs (words, (place, (pairs, (out, tt)))) r (words, (place, (pairs, (out', tt))))
    → SamplesSay (samples_of (part_of words.now (record { place = place; count = pairs }))) out.now r out'.now
samples_tied κs words place pairs out out' r p = p

pub fadc250_samples_tied : (κs : Lfts 2) (words : Reference) (place pairs : ℕ) (out out' : Lent) (r : ℕ)
    → hostread.fadc250_samples.Reads.Learnt κs (words, (place, (pairs, (out, tt)))) r (words, (place, (pairs, (out', tt))))
    → SamplesSay (samples_of (part_of words.now (record { place = place; count = pairs }))) out.now r out'.now
fadc250_samples_tied κs words place pairs out out' r p = p

pub fadc250_next_tied : (κs : Lfts 3) (scan scan' : Lent) (words : Reference) (out out' : Lent) (r : ℕ)
    → hostread.fadc250_next.Reads.Learnt κs (scan, (words, (out, tt))) r (scan', (words, (out', tt))) → NextFace scan.now words.now out.now r scan'.now out'.now
fadc250_next_tied κs scan scan' words out out' r p = p
