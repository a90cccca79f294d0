-- The layout of a block, said on its own in the words of document 01, "Reading": a block is a tree, and the tree is a list of records. Nothing of the
-- reader is used here. Assumes nothing.
use Rattle.std.specs.Prelude.{ℕ, zero, suc, ◌+◌, ◌%◌, ◌≤◌, ◌≡◌, true, false, List, [], ◌∷◌, ◌++◌, map, length, take, drop}
use Rattle.limits.specs.Limits.{most_samples, most_pairs}
use Rattle.fields.specs.Tag.{is_defining}
use Rattle.framing.specs.declared.block_header.BlockHeader.{BlockHeader}
use Rattle.framing.specs.declared.parameters.Parameters.{Parameters}
use Rattle.framing.specs.declared.trailer.BlockTrailer.{BlockTrailer}
use Rattle.framing.specs.declared.event_header.EventHeader.{EventHeader}
use Rattle.framing.specs.declared.trigger_time.TriggerTime.{TriggerTime}
use Rattle.framing.specs.declared.trigger_time_high.TriggerTimeHigh.{TriggerTimeHigh}
use Rattle.framing.specs.declared.scalers.ScalerHeader.{ScalerHeader}
use Rattle.framing.specs.declared.scaler.ScalerWord.{ScalerWord}
use Rattle.framing.specs.declared.empty.ModuleEmpty.{ModuleEmpty}
use Rattle.framing.specs.declared.filler.Filler.{Filler}
use Rattle.raw.specs.declared.window.WindowRaw.{WindowRaw}
use Rattle.raw.specs.declared.pulse_raw.PulseRaw.{PulseRaw}
use Rattle.raw.specs.declared.pair.SamplePair.{SamplePair}
use Rattle.measures.specs.declared.integral.PulseIntegral.{PulseIntegral}
use Rattle.measures.specs.declared.time.PulseTime.{PulseTime}
use Rattle.measures.specs.declared.pedestal.PulsePedestal.{PulsePedestal}
use Rattle.items.specs.Items.{word_of, fits, form_of, clean_of}
use Rattle.items.specs.declared.Item.{Item}
use Rattle.items.specs.declared.Item.TheVariants as I

-- ---- the tree

-- "4, 6, 7, 8, 10 items": 4 and 6 have pairs behind them
pub data Piece : Type 0 where
  window : WindowRaw → List SamplePair → Piece
  raw : PulseRaw → List SamplePair → Piece
  integral : PulseIntegral → Piece
  time : PulseTime → Piece
  pedestal : PulsePedestal → Piece

-- "optionally one or two time words"
pub data Clock : Type 0 where
  no_clock : Clock
  clock27 : TriggerTime → Clock
  clock48 : TriggerTime → TriggerTimeHigh → Clock

-- 02: "On request a closed event ends with type 12 .. and the latched words"
pub data Tail : Type 0 where
  no_scalers : Tail
  scalers : ScalerHeader → List ScalerWord → Tail

-- "An event: header, optionally one or two time words, then any number of .. items."; the scalers end it
pub record EventTree : Type 0 where
  pub header : EventHeader
  pub clock : Clock
  pub pieces : List Piece
  pub tail : Tail

-- "optional parameters"
pub data Setup : Type 0 where
  no_setup : Setup
  setup : Parameters → Setup

-- "One block: header, optional parameters, exactly the stated events, trailer, up to three fillers."
pub record BlockTree : Type 0 where
  pub header : BlockHeader
  pub setup : Setup
  pub events : List EventTree
  pub trailer : BlockTrailer
  pub fillers : List Filler

-- "Type 14 in place of a header answers "module empty", one word read."
pub data Tree : Type 0 where
  block : BlockTree → Tree
  empty : ModuleEmpty → Tree

-- ---- its records, in order

abbrev pub each_pair : List SamplePair → List Item
each_pair ps = map (λ p. I.Pair p) ps

abbrev pub piece_of : Piece → List Item
piece_of (window r ps) = I.Window r ∷ each_pair ps
piece_of (raw r ps) = I.Raw r ∷ each_pair ps
piece_of (integral r) = I.Integral r ∷ []
piece_of (time r) = I.Time r ∷ []
piece_of (pedestal r) = I.Pedestal r ∷ []

abbrev pub pieces_of : List Piece → List Item
pieces_of [] = []
pieces_of (x ∷ xs) = piece_of x ++ pieces_of xs

abbrev pub clock_of : Clock → List Item
clock_of no_clock = []
clock_of (clock27 r) = I.Clock r ∷ []
clock_of (clock48 r high) = I.Clock r ∷ I.ClockHigh high ∷ []

abbrev pub each_scaler : List ScalerWord → List Item
each_scaler ws = map (λ w. I.Scaler w) ws

abbrev pub tail_of : Tail → List Item
tail_of no_scalers = []
tail_of (scalers r ws) = I.Scalers r ∷ each_scaler ws

abbrev pub event_of : EventTree → List Item
event_of e = I.Event e.header ∷ (clock_of e.clock ++ (pieces_of e.pieces ++ tail_of e.tail))

abbrev pub events_of : List EventTree → List Item
events_of [] = []
events_of (e ∷ es) = event_of e ++ events_of es

abbrev pub setup_of : Setup → List Item
setup_of no_setup = []
setup_of (setup r) = I.Parameters r ∷ []

-- what stands before the trailer
abbrev pub body_of : BlockTree → List Item
body_of b = I.Block b.header ∷ (setup_of b.setup ++ events_of b.events)

abbrev pub records_of : Tree → List Item
records_of (block b) = body_of b ++ (I.Trailer b.trailer ∷ map (λ f. I.Filler f) b.fillers)
records_of (empty r) = I.Empty r ∷ []

-- ---- which trees are blocks

-- each of the list
abbrev pub Each : {A : Type 0} → (A → Type 0) → List A → Type 0
Each P [] = Unit {0}
Each P (x ∷ xs) = P x × Each P xs

-- no "sample flag anywhere but bit 13 at the odd end"
pub record BothValid (p : SamplePair) : Type 0 where
  pub first : p.nofirst ≡ 0
  pub second : p.nosecond ≡ 0

-- the odd end: bit 13 is set, and the flagged sample is 0
pub record OddEnd (p : SamplePair) : Type 0 where
  pub first : p.nofirst ≡ 0
  pub second : p.nosecond ≡ 1
  pub zero : p.second ≡ 0

-- "Type 4 has ceil(width/2) pairs": two samples of the width each, and the odd end where one is left
abbrev pub WindowPairs : ℕ → List SamplePair → Type 0
WindowPairs zero [] = Unit {0}
WindowPairs zero (p ∷ ps) = ⊥
WindowPairs (suc zero) [] = ⊥
WindowPairs (suc zero) (p ∷ []) = OddEnd p
WindowPairs (suc zero) (p ∷ q ∷ ps) = ⊥
WindowPairs (suc (suc n)) [] = ⊥
WindowPairs (suc (suc n)) (p ∷ ps) = BothValid p × WindowPairs n ps

-- the last pair of type 6: full, or the odd end
pub data LastPair (p : SamplePair) : Type 0 where
  full : BothValid p → LastPair p
  short : OddEnd p → LastPair p

-- "In type 6 a flagged pair is the last"
abbrev pub RawPairs : List SamplePair → Type 0
RawPairs [] = ⊥
RawPairs (p ∷ []) = LastPair p
RawPairs (p ∷ q ∷ ps) = BothValid p × RawPairs (q ∷ ps)

-- "width 1-500"; "type 6 has 1 to 250" pairs
abbrev pub PieceOk : Piece → Type 0
PieceOk (window r ps) = (1 ≤ r.width) × ((r.width ≤ most_samples) × WindowPairs r.width ps)
PieceOk (raw r ps) = (length ps ≤ most_pairs) × RawPairs ps
PieceOk (integral r) = Unit {0}
PieceOk (time r) = Unit {0}
PieceOk (pedestal r) = Unit {0}

-- both time words hold time bits 26-24
abbrev pub ClockOk : Clock → Type 0
ClockOk no_clock = Unit {0}
ClockOk (clock27 r) = Unit {0}
ClockOk (clock48 r high) = high.high % 8 ≡ r.middle

-- 02: "They carry no tag: the reader takes the stated count, 0 to 63"; the field's six bits bound it (`Widths`)
abbrev pub TailOk : Tail → Type 0
TailOk no_scalers = Unit {0}
TailOk (scalers r ws) = length ws ≡ r.count

-- an event of a block of slot k
pub record EventOk (k : ℕ) (e : EventTree) : Type 0 where
  pub slot : e.header.slot ≡ k
  pub clock : ClockOk e.clock
  pub pieces : Each PieceOk e.pieces
  pub tail : TailOk e.tail

pub record BlockOk (b : BlockTree) : Type 0 where
  -- "events 1-255"; "exactly the stated events"
  pub some : 1 ≤ b.header.events
  pub stated : length b.events ≡ b.header.events
  pub events : Each (EventOk b.header.slot) b.events
  -- "words from header to trailer, both counted"
  pub count : b.trailer.words ≡ length (body_of b) + 1
  pub slot : b.trailer.slot ≡ b.header.slot
  -- "up to three fillers"
  pub few : length b.fillers ≤ 3
  pub fillers : Each (λ f. f.slot ≡ b.header.slot) b.fillers

abbrev pub TreeOk : Tree → Type 0
TreeOk (block b) = BlockOk b
TreeOk (empty r) = Unit {0}

-- every field is within its bits
abbrev pub Widths : List Item → Type 0
Widths xs = Each (λ x. fits x ≡ true) xs

-- a block of the layout: its tree is as above, and the fields fit; so the trailer's 22 bits bound the block
pub record WellFormed (t : Tree) : Type 0 where
  pub tree : TreeOk t
  pub widths : Widths (records_of t)

-- ---- its words

-- the words are those of the records, one each, but for undefined bits
abbrev pub Spelt : List Item → List ℕ → Type 0
Spelt [] [] = Unit {0}
Spelt [] (w ∷ ws) = ⊥
Spelt (x ∷ xs) [] = ⊥
Spelt (x ∷ xs) (w ∷ ws) = (word_of x ≡ clean_of (form_of x) w) × Spelt xs ws

-- a well-formed tree, and the words of its records
pub record SpeltTree (ws : List ℕ) : Type 0 where
  pub tree : Tree
  pub formed : WellFormed tree
  pub spelt : Spelt (records_of tree) ws

-- ---- words behind a block

-- the words do not begin with a filler
abbrev pub NoFiller : List ℕ → Type 0
NoFiller [] = Unit {0}
NoFiller (w ∷ ws) = is_defining 15 w ≡ false

-- "It ends after the third, at the input's end, or before a word that is no filler."; a module empty is "one word read"
pub data Ends : Tree → List ℕ → Type 0 where
  third : {b : BlockTree} {rest : List ℕ} → length b.fillers ≡ 3 → Ends (block b) rest
  no_filler : {b : BlockTree} {rest : List ℕ} → NoFiller rest → Ends (block b) rest
  one_word : {r : ModuleEmpty} {rest : List ℕ} → Ends (empty r) rest

-- the first n words are a block, and it ends there
pub record Front (ws : List ℕ) (n : ℕ) : Type 0 where
  pub within : n ≤ length ws
  pub first : SpeltTree (take n ws)
  pub ends : Ends first.tree (drop n ws)
