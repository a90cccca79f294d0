-- The line of each record of the format. The only place that knows a line's cells. Assumes nothing.
use Rattle.std.specs.Prelude.{ℕ, ◌+◌, ◌*◌, ◌^◌, cond, List, [], ◌∷◌, map, eqb}
use Rattle.std.specs.declared.option.Option.{Option}
use Rattle.std.specs.declared.option.Option.TheVariants.{Some, None}
use Rattle.framing.specs.declared.block_header.BlockHeader.{BlockHeader}
use Rattle.framing.specs.declared.parameters.Parameters.{Parameters}
use Rattle.framing.specs.declared.trailer.BlockTrailer.{BlockTrailer}
use Rattle.framing.specs.declared.event_header.EventHeader.{EventHeader}
use Rattle.framing.specs.declared.trigger_time.TriggerTime.{TriggerTime}
use Rattle.framing.specs.declared.empty.ModuleEmpty.{ModuleEmpty}
use Rattle.raw.specs.declared.window.WindowRaw.{WindowRaw}
use Rattle.raw.specs.declared.pulse_raw.PulseRaw.{PulseRaw}
use Rattle.raw.specs.declared.pair.SamplePair.{SamplePair}
use Rattle.measures.specs.declared.integral.PulseIntegral.{PulseIntegral}
use Rattle.measures.specs.declared.time.PulseTime.{PulseTime}
use Rattle.measures.specs.declared.pedestal.PulsePedestal.{PulsePedestal}
use Rattle.written.specs.Line.{Number, cell_of, Line, line_of}

-- ---- the names, letter by letter

abbrev pub block_name : List ℕ
block_name = 98 ∷ 108 ∷ 111 ∷ 99 ∷ 107 ∷ []

abbrev pub setup_name : List ℕ
setup_name = 115 ∷ 101 ∷ 116 ∷ 117 ∷ 112 ∷ []

abbrev pub event_name : List ℕ
event_name = 101 ∷ 118 ∷ 101 ∷ 110 ∷ 116 ∷ []

abbrev pub clock_name : List ℕ
clock_name = 99 ∷ 108 ∷ 111 ∷ 99 ∷ 107 ∷ []

abbrev pub clock27_name : List ℕ
clock27_name = 99 ∷ 108 ∷ 111 ∷ 99 ∷ 107 ∷ 50 ∷ 55 ∷ []

abbrev pub window_name : List ℕ
window_name = 119 ∷ 105 ∷ 110 ∷ 100 ∷ 111 ∷ 119 ∷ []

abbrev pub pulse_name : List ℕ
pulse_name = 112 ∷ 117 ∷ 108 ∷ 115 ∷ 101 ∷ []

abbrev pub pair_name : List ℕ
pair_name = 112 ∷ 97 ∷ 105 ∷ 114 ∷ []

abbrev pub integral_name : List ℕ
integral_name = 105 ∷ 110 ∷ 116 ∷ 101 ∷ 103 ∷ 114 ∷ 97 ∷ 108 ∷ []

abbrev pub time_name : List ℕ
time_name = 116 ∷ 105 ∷ 109 ∷ 101 ∷ []

abbrev pub ped_name : List ℕ
ped_name = 112 ∷ 101 ∷ 100 ∷ []

abbrev pub end_name : List ℕ
end_name = 101 ∷ 110 ∷ 100 ∷ []

abbrev pub fill_name : List ℕ
fill_name = 102 ∷ 105 ∷ 108 ∷ 108 ∷ []

abbrev pub empty_name : List ℕ
empty_name = 101 ∷ 109 ∷ 112 ∷ 116 ∷ 121 ∷ []

abbrev pub refused_name : List ℕ
refused_name = 114 ∷ 101 ∷ 102 ∷ 117 ∷ 115 ∷ 101 ∷ 100 ∷ []

abbrev pub scalers_name : List ℕ
scalers_name = 115 ∷ 99 ∷ 97 ∷ 108 ∷ 101 ∷ 114 ∷ 115 ∷ []

-- ---- the line of each record

-- "block: slot, number, events"
abbrev pub block_line : BlockHeader → Line
block_line r = line_of block_name (Number r.slot ∷ Number r.number ∷ Number r.events ∷ [])

-- "setup: PL, NSB, NSA"
abbrev pub setup_line : Parameters → Line
setup_line r = line_of setup_name (Number r.pl ∷ Number r.nsb ∷ Number r.nsa ∷ [])

-- "event: number"
abbrev pub event_line : EventHeader → Line
event_line r = line_of event_name (Number r.number ∷ [])

-- "clock: 48-bit time" of two time words, the second holding bits 47-24; "`clock27` low 27 bits" of one
abbrev pub clock_line : TriggerTime → Option ℕ → Line
clock_line r None = line_of clock27_name (Number (r.middle * 2 ^ 24 + r.low) ∷ [])
clock_line r (Some high) = line_of clock_name (Number (high * 2 ^ 24 + r.low) ∷ [])

-- "`window` channel, width"
abbrev pub window_line : WindowRaw → Line
window_line r = line_of window_name (Number r.channel ∷ Number r.width ∷ [])

-- "`pulse` channel, pulse, TC"
abbrev pub pulse_line : PulseRaw → Line
pulse_line r = line_of pulse_name (Number r.channel ∷ Number r.pulse ∷ Number r.tc ∷ [])

-- "`pair` two samples, `-` for a flagged one"
abbrev pub pair_line : SamplePair → Line
pair_line r = line_of pair_name (cell_of (eqb r.nofirst 1) r.first ∷ cell_of (eqb r.nosecond 1) r.second ∷ [])

-- "integral: channel, pulse, quality, sum"
abbrev pub integral_line : PulseIntegral → Line
integral_line r = line_of integral_name (Number r.channel ∷ Number r.pulse ∷ Number r.quality ∷ Number r.sum ∷ [])

-- "time: channel, pulse, quality, coarse, fine"
abbrev pub time_line : PulseTime → Line
time_line r = line_of time_name (Number r.channel ∷ Number r.pulse ∷ Number r.quality ∷ Number r.coarse ∷ Number r.fine ∷ [])

-- "ped: channel, pulse, VMIN, VPEAK"
abbrev pub ped_line : PulsePedestal → Line
ped_line r = line_of ped_name (Number r.channel ∷ Number r.pulse ∷ Number r.vmin ∷ Number r.vpeak ∷ [])

-- "end: words"
abbrev pub end_line : BlockTrailer → Line
end_line r = line_of end_name (Number r.words ∷ [])

-- "`empty` slot"
abbrev pub empty_line : ModuleEmpty → Line
empty_line r = line_of empty_name (Number r.slot ∷ [])

-- 02: "The lister prints `scalers` and the words in order."
abbrev pub scalers_line : List ℕ → Line
scalers_line words = line_of scalers_name (map (λ n. Number n) words)

-- "`refused` number, place"
abbrev pub refused_line : ℕ → ℕ → Line
refused_line number place = line_of refused_name (Number number ∷ Number place ∷ [])

-- "fill: how many, no line for none"
abbrev pub fill_lines : ℕ → List Line
fill_lines fillers = cond (eqb fillers 0) [] (line_of fill_name (Number fillers ∷ []) ∷ [])

-- a proof that computes opens this file and what it leans on by one name
unfoldable pub all_open : Unit {0}
unfolding Rattle.written.specs.Line.all_open
all_open = tt
