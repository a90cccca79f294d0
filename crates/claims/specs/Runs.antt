-- The bench's runs A and b to i, and run A with scalers, as rows of one table, and what a row says. Assumes nothing.
use Rattle.std.specs.Prelude.{ℕ, ◌-◌, ◌*◌, ◌≡◌, Bool, true, false, cond, List, [], ◌∷◌, ◌++◌, map, eqb, length, get_or, set, replicate}
use Prim.Native.String.{String}
use Rattle.settings.specs.declared.Settings.{Settings}
use Rattle.finder.specs.declared.Pulse.{Pulse}
use Rattle.timing.specs.Time as T
use Rattle.find.specs.Call.{find_number, found_pulses}
use Rattle.items.specs.declared.Item.{Item}
use Rattle.items.specs.declared.Item.TheVariants as I
use Rattle.reader.specs.Reader.{Whole, read_from}
use Rattle.scan.specs.After.{start_of}
use Rattle.modes.specs.Channel.{common_of, channel_items}
use Rattle.event.specs.Event.{time_items}
use Rattle.tail.specs.Tail.{tail_items}
use Rattle.writer.specs.Answer.{Answer}
use Rattle.writer.specs.Answer.{Finished}
use Rattle.writer.specs.Calls.{SetUpSays, OpenBlockSays, OpenEventSays, FinishSays}
use Rattle.closing.specs.Closing.{CloseSays}
use Rattle.block.specs.Block.{block_items, end_items}
use Rattle.bytecheck.specs.Check.{check_number}
use Rattle.listing.specs.Listing.{listing_of}
use Rattle.owners.specs.Order.{Bench, Post, Aside, frames, latch, PostRun}
use Rattle.claims.specs.Bytes.{bytes_of_words, bytes_of_lines}
use Rattle.claims.specs.Reads.{Reads}

-- ---- a row

-- a pulse: TC, its data set and sum, what its time is made of, the time, and the number of the rule that gave it
pub record BenchPulse : Type 0 where
  pub tc : ℕ
  pub first : ℕ
  pub last : ℕ
  pub sum : ℕ
  pub vmin : ℕ
  pub vpeak : ℕ
  pub vmid : ℕ
  pub n1 : ℕ
  pub coarse : ℕ
  pub fine : ℕ
  pub rule : ℕ

-- a block of one event: its number, the event's number and time, the calls that count while it is open, whether its scalers are asked for and what was then
-- latched, the words that the calls leave, and the lines that the lister prints of them
pub record BenchBlock : Type 0 where
  pub number : ℕ
  pub event : ℕ
  pub time : ℕ
  pub asides : List Aside
  pub asked : Bool
  pub latched : List ℕ
  pub words : List ℕ
  pub text : List String

-- document 01 gives a block for run A alone; the one with scalers is made of it by document 02
pub data InBlock : Type 0 where
  not_given : InBlock
  given : BenchBlock → InBlock

-- a run: what is set and posted, the pulses that must be found, and the channel's records with their fields as written
pub record BenchRun : Type 0 where
  pub settings : Settings
  pub channel : ℕ
  pub window : List ℕ
  pub pulses : List BenchPulse
  pub written : List Item
  pub block : InBlock

-- ---- the table

-- "mode 7, slot 5, .. PL 20, parameters on, two time words, multiple 2", channel 3 at a threshold, the others at the highest
unfoldable pub settings_of : List ℕ → ℕ → ℕ → ℕ → ℕ → Settings
settings_of w t nsb nsa limit =
    record {
      mode = 7;
      nw = length w;
      pl = 20;
      nsb = nsb;
      nsa = nsa;
      limit = limit;
      thresholds = set (replicate 16 4095) 3 t;
      slot = 5;
      parameters = true;
      times = 2;
      multiple = 2;
    }

-- what a run does not name is run A's
abbrev run_in : InBlock → List ℕ → ℕ → ℕ → ℕ → ℕ → List BenchPulse → List Item → BenchRun
run_in block w t nsb nsa limit pulses written =
    record { settings = settings_of w t nsb nsa limit; channel = 3; window = w; pulses = pulses; written = written; block = block }

abbrev run : List ℕ → ℕ → ℕ → ℕ → ℕ → List BenchPulse → List Item → BenchRun
run w t nsb nsa limit pulses written = run_in not_given w t nsb nsa limit pulses written

-- TC, first, last, sum, VMIN, VPEAK, VMID, N1, coarse, fine and the rule; VMID and N1 are 0 where the rule is not 4
abbrev pulse : ℕ → ℕ → ℕ → ℕ → ℕ → ℕ → ℕ → ℕ → ℕ → ℕ → ℕ → BenchPulse
pulse tc first last sum vmin vpeak vmid n1 coarse fine rule =
    record { tc = tc; first = first; last = last; sum = sum; vmin = vmin; vpeak = vpeak; vmid = vmid; n1 = n1; coarse = coarse; fine = fine; rule = rule }

-- the integral, time and pedestal of pulse i: quality, sum, coarse, fine, VMIN and VPEAK as written
abbrev three : ℕ → ℕ → ℕ → ℕ → ℕ → ℕ → ℕ → List Item → List Item
three i quality sum coarse fine vmin vpeak more =
    I.Integral (record { channel = 3; pulse = i; quality = quality; sum = sum })
    ∷ I.Time (record { channel = 3; pulse = i; quality = 0; coarse = coarse; fine = fine })
    ∷ I.Pedestal (record { channel = 3; pulse = i; vmin = vmin; vpeak = vpeak })
    ∷ more

abbrev pub window_a : List ℕ
window_a = 10 ∷ 11 ∷ 12 ∷ 11 ∷ 10 ∷ 40 ∷ 120 ∷ 200 ∷ 180 ∷ 90 ∷ 60 ∷ 30 ∷ 12 ∷ 11 ∷ 10 ∷ 11 ∷ []

-- "block 1, one event number 9, time 256, .. the block is", and "The lister, fed those 40 bytes on standard input, prints"
abbrev pub block_a : BenchBlock
block_a =
    record {
      number = 1;
      event = 9;
      time = 256;
      asides = [];
      asked = false;
      latched = [];
      words =
          0x81440101 ∷ 0x00500405 ∷ 0x91400009 ∷ 0x98000100 ∷ 0x00000000 ∷ 0xB98002BC ∷ 0xC18001B4 ∷ 0xD180B0C8 ∷ 0x89400009 ∷ 0xF9400000 ∷ [];
      text =
          "block\t5\t1\t1"
          ∷ "setup\t20\t2\t5"
          ∷ "event\t9"
          ∷ "clock\t256"
          ∷ "integral\t3\t0\t0\t700"
          ∷ "time\t3\t0\t0\t6\t52"
          ∷ "ped\t3\t0\t11\t200"
          ∷ "end\t9"
          ∷ "fill\t1"
          ∷ [];
    }

-- A. "TC 7, set 5-11, sum 700, VMIN 11, VPEAK 200, VMID 105, N1 6, fine 52."
abbrev pub run_a : BenchRun
run_a = run_in (given block_a) window_a 100 2 5 3 (pulse 7 5 11 700 11 200 105 6 6 52 4 ∷ []) (three 0 0 700 6 52 11 200 [])

-- a frame: channel 3 at a value, the others at 0
abbrev frame : ℕ → List ℕ
frame x = set (replicate 16 0) 3 x

abbrev pub frames_s : List ℕ
frames_s = frame 150 ++ (frame 150 ++ (frame 50 ++ frame 150))

-- run A's block with scalers: channel 3 over in three of four frames, twice "over and was not in the frame before"; one opened event, no whole group
abbrev pub block_s : BenchBlock
block_s =
    record {
      number = 1;
      event = 9;
      time = 256;
      asides = frames frames_s ∷ latch ∷ [];
      asked = true;
      latched = 0 ∷ 0 ∷ 0 ∷ 2 ∷ 0 ∷ 0 ∷ 0 ∷ 0 ∷ 0 ∷ 0 ∷ 0 ∷ 0 ∷ 0 ∷ 0 ∷ 0 ∷ 0 ∷ 0 ∷ 1 ∷ [];
      words =
          0x81440101 ∷ 0x00500405 ∷ 0x91400009 ∷ 0x98000100 ∷ 0x00000000 ∷ 0xB98002BC ∷ 0xC18001B4 ∷ 0xD180B0C8
          ∷ 0xE0000012 ∷ 0 ∷ 0 ∷ 0 ∷ 2 ∷ 0 ∷ 0 ∷ 0 ∷ 0 ∷ 0 ∷ 0 ∷ 0 ∷ 0 ∷ 0 ∷ 0 ∷ 0 ∷ 0 ∷ 0 ∷ 1 ∷ 0x8940001C ∷ [];
      text =
          "block\t5\t1\t1"
          ∷ "setup\t20\t2\t5"
          ∷ "event\t9"
          ∷ "clock\t256"
          ∷ "integral\t3\t0\t0\t700"
          ∷ "time\t3\t0\t0\t6\t52"
          ∷ "ped\t3\t0\t11\t200"
          ∷ "scalers\t0\t0\t0\t2\t0\t0\t0\t0\t0\t0\t0\t0\t0\t0\t0\t0\t0\t1"
          ∷ "end\t28"
          ∷ [];
    }

abbrev pub run_s : BenchRun
run_s = run_in (given block_s) window_a 100 2 5 3 run_a.pulses run_a.written

unfoldable pub rows : List BenchRun
rows =
    run_a
    -- b. "V 100 at threshold 100: none; 101: pulse."
    ∷ run (100 ∷ []) 100 2 5 3 [] []
    ∷ run (101 ∷ []) 100 2 5 3 (pulse 1 1 1 101 0 0 0 0 1 0 1 ∷ []) (three 0 0 101 1 0 0 0 [])
    -- c. "Threshold 100, 150 50 150 50 150, NSA 2, limit 3: TC 1 and 5."
    ∷ run (150 ∷ 50 ∷ 150 ∷ 50 ∷ 150 ∷ []) 100 0 2 3
    (pulse 1 1 2 200 0 0 0 0 1 0 1 ∷ pulse 5 5 5 150 0 0 0 0 5 0 1 ∷ [])
    (three 0 0 200 1 0 0 0 (three 1 0 150 5 0 0 0 []))
    -- d. "NSA 1: TC 1, 3, 5; limit 2: 1, 3."
    ∷ run (150 ∷ 50 ∷ 150 ∷ 50 ∷ 150 ∷ []) 100 0 1 3
    (pulse 1 1 1 150 0 0 0 0 1 0 1 ∷ pulse 3 3 3 150 0 0 0 0 3 0 1 ∷ pulse 5 5 5 150 0 0 0 0 5 0 1 ∷ [])
    (three 0 0 150 1 0 0 0 (three 1 0 150 3 0 0 0 (three 2 0 150 5 0 0 0 [])))
    ∷ run (150 ∷ 50 ∷ 150 ∷ 50 ∷ 150 ∷ []) 100 0 1 2
    (pulse 1 1 1 150 0 0 0 0 1 0 1 ∷ pulse 3 3 3 150 0 0 0 0 3 0 1 ∷ [])
    (three 0 0 150 1 0 0 0 (three 1 0 150 3 0 0 0 []))
    -- e. "TC 2, NSB 3: set starts at 1."
    ∷ run (10 ∷ 150 ∷ 20 ∷ []) 100 3 2 3 (pulse 2 1 3 180 0 0 0 0 2 0 1 ∷ []) (three 0 0 180 2 0 0 0 [])
    -- f. "NW 16: TC 11 may be timed, TC 12 is TC only."
    ∷ run (10 ∷ 10 ∷ 10 ∷ 10 ∷ 10 ∷ 10 ∷ 10 ∷ 10 ∷ 10 ∷ 10 ∷ 150 ∷ 200 ∷ 180 ∷ 90 ∷ 60 ∷ 30 ∷ []) 100 2 5 3
    (pulse 11 9 15 700 10 200 105 10 10 43 4 ∷ [])
    (three 0 0 700 10 43 10 200 [])
    ∷ run (10 ∷ 10 ∷ 10 ∷ 10 ∷ 10 ∷ 10 ∷ 10 ∷ 10 ∷ 10 ∷ 10 ∷ 10 ∷ 150 ∷ 200 ∷ 180 ∷ 90 ∷ 60 ∷ []) 100 2 5 3
    (pulse 12 10 16 700 10 0 0 0 12 0 2 ∷ [])
    (three 0 0 700 12 0 10 0 [])
    -- g. "Rise then flat 200 to the end: VPEAK 0, VMIN measured. 200 200 180: VPEAK 200."
    ∷ run (10 ∷ 10 ∷ 10 ∷ 10 ∷ 10 ∷ 150 ∷ 200 ∷ 200 ∷ 200 ∷ 200 ∷ 200 ∷ 200 ∷ 200 ∷ 200 ∷ 200 ∷ 200 ∷ []) 100 2 5 3
    (pulse 6 4 10 970 10 0 0 0 6 0 3 ∷ [])
    (three 0 0 970 6 0 10 0 [])
    ∷ run (10 ∷ 10 ∷ 10 ∷ 10 ∷ 10 ∷ 150 ∷ 200 ∷ 200 ∷ 180 ∷ 10 ∷ 10 ∷ 10 ∷ 10 ∷ 10 ∷ 10 ∷ 10 ∷ []) 100 2 5 3
    (pulse 6 4 10 760 10 200 105 5 5 43 4 ∷ [])
    (three 0 0 760 5 43 10 200 [])
    -- h. "128 samples of 4,095: 524,160, quality 0; 129: 524,287, quality 1." The pulse has the sum before the cap
    ∷ run (replicate 128 4095) 100 2 511 1 (pulse 1 1 128 524160 0 0 0 0 1 0 1 ∷ []) (three 0 0 524160 1 0 0 0 [])
    ∷ run (replicate 129 4095) 100 2 511 1 (pulse 1 1 129 528255 0 0 0 0 1 0 1 ∷ []) (three 0 1 524287 1 0 0 0 [])
    -- i. "VMIN 511 and 512 both written 511." The pulse has VMIN as measured
    ∷ run (511 ∷ 511 ∷ 511 ∷ 511 ∷ 10 ∷ 10 ∷ 10 ∷ 10 ∷ 600 ∷ 800 ∷ 700 ∷ 5 ∷ 5 ∷ 5 ∷ 5 ∷ 5 ∷ []) 550 2 5 3
    (pulse 9 7 13 2130 511 800 655 9 9 17 4 ∷ [])
    (three 0 0 2130 9 17 511 800 [])
    ∷ run (512 ∷ 512 ∷ 512 ∷ 512 ∷ 10 ∷ 10 ∷ 10 ∷ 10 ∷ 600 ∷ 800 ∷ 700 ∷ 5 ∷ 5 ∷ 5 ∷ 5 ∷ 5 ∷ []) 550 2 5 3
    (pulse 9 7 13 2130 512 800 656 9 9 17 4 ∷ [])
    (three 0 0 2130 9 17 511 800 [])
    -- 02: "On request a closed event ends with type 12 .. and the latched words: channels 0 to 15, timer, triggers."
    ∷ run_s
    ∷ []

-- ---- what a row says

-- a pulse that the finder found in a window, as the bench gives it
unfoldable pub as_bench : List ℕ → Pulse → BenchPulse
as_bench w p =
    let edge : Bool = eqb (T.rule_number p.time.rule) 4 in
    let mid : ℕ = T.vmid p.time.vpeak p.time.vmin in
    pulse p.tc p.first p.last p.sum p.time.vmin p.time.vpeak (cond edge mid 0) (cond edge (T.n1 w mid (T.first_fall w p.tc - 1)) 0) p.time.coarse p.time.fine
    (T.rule_number p.time.rule)

-- the calls, each from the state and the buffers that the one before left, those that count before or behind the post; the store and the word buffer are as
-- long as they must be, all zero
pub record CallsOf (r : BenchRun) (k : BenchBlock) : Type 0 where
  pub ready : Answer
  pub set_up : SetUpSays r.settings ready
  pub block : Answer
  pub head : List ℕ
  pub open_block : OpenBlockSays ready.state (replicate (length k.words) 0) k.number 1 block head
  pub event : Answer
  pub open_event : OpenEventSays block.state k.event k.time event
  pub answers : List (Post × ℕ)
  pub told : List ℕ
  pub end : Bench
  pub post : PostRun (record { state = event.state; store = replicate (16 * r.settings.nw) 0 }) (record { channel = r.channel; window = r.window } ∷ []) answers k.asides told end
  pub closed : Answer
  pub written : List ℕ
  pub close : CloseSays end.state end.store head k.asked closed written
  pub finished : Finished
  pub left : List ℕ
  pub finish : FinishSays closed.state written finished left

-- the block's records: its head, the event's, those of the channel, the scalers if asked for, its end
abbrev pub run_records : BenchRun → BenchBlock → List Item
run_records r k =
    let s : Settings = r.settings in
    let front : List Item = block_items s k.number 1 ++ (I.Event (record { slot = s.slot; number = k.event }) ∷ (time_items s.times k.time ++ (r.written ++ tail_items k.asked k.latched))) in
    front ++ end_items s (length front)

pub record BlockHolds (r : BenchRun) (k : BenchBlock) : Type 0 where
  -- whatever the calls' statements allow: the words left, and the length that finish answers
  pub called : (x : CallsOf r k) → (x.left ≡ k.words) × (x.finished.length ≡ length k.words)
  -- the reader takes the words, and answers every record as it was written, `next` too
  pub taken : read_from start_of k.words ≡ record { items = run_records r k; out = Whole (length k.words) }
  pub answered : Reads k.words start_of (run_records r k) (length k.words)
  -- the C check of their bytes, and what the lister prints of these
  pub checked : check_number (bytes_of_words k.words) ≡ length k.words
  pub listed : listing_of (bytes_of_words k.words) ≡ bytes_of_lines k.text

abbrev pub IfGiven : BenchRun → InBlock → Type 0
IfGiven r not_given = Unit {0}
IfGiven r (given k) = BlockHolds r k

pub record Holds (r : BenchRun) : Type 0 where
  -- the finder: no refusal, and the pulses
  pub accepted : find_number r.settings r.channel r.window ≡ 0
  pub found : map (as_bench r.window) (found_pulses r.settings r.channel r.window) ≡ r.pulses
  -- what the channel writes
  pub writes : channel_items (common_of r.settings) (get_or r.settings.thresholds r.channel 0) r.channel r.window ≡ r.written
  pub in_block : IfGiven r r.block

-- a proof that computes opens this file and what it leans on by one name
unfoldable pub all_open : Unit {0}
unfolding settings_of rows as_bench Rattle.timing.specs.Time.all_open Rattle.find.specs.Call.all_open Rattle.reader.specs.Reader.all_open Rattle.scan.specs.After.all_open Rattle.modes.specs.Channel.all_open Rattle.event.specs.Event.all_open Rattle.tail.specs.Tail.all_open Rattle.writer.specs.Calls.all_open Rattle.counting.specs.Counting.all_open Rattle.block.specs.Block.all_open Rattle.bytecheck.specs.Check.all_open Rattle.listing.specs.Listing.all_open Rattle.claims.specs.Bytes.all_open Rattle.claims.specs.Reads.all_open
all_open = tt
