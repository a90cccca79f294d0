-- What the lister prints of one record. Assumes nothing.
use Rattle.std.specs.Prelude.{ℕ, List, [], ◌∷◌, map}
use Rattle.std.specs.declared.option.Option.{Option}
use Rattle.std.specs.declared.option.Option.TheVariants.{Some, None}
use Rattle.items.specs.declared.Item.{Item}
use Rattle.items.specs.declared.Item.TheVariants as I
use Rattle.written.specs.Line.{Number, cells_text, Line}
use Rattle.lines.specs.Lines.{block_line, setup_line, event_line, clock_line, window_line, pulse_line, pair_line, integral_line, time_line, ped_line, end_line, empty_line, scalers_line}

-- the second time word, where one follows
abbrev pub high_in : Item → Option ℕ
high_in (I.Block r) = None
high_in (I.Parameters r) = None
high_in (I.Trailer r) = None
high_in (I.Event r) = None
high_in (I.Clock r) = None
high_in (I.ClockHigh r) = Some r.high
high_in (I.Window r) = None
high_in (I.Raw r) = None
high_in (I.Pair r) = None
high_in (I.Integral r) = None
high_in (I.Time r) = None
high_in (I.Pedestal r) = None
high_in (I.Empty r) = None
high_in (I.Filler r) = None
high_in (I.Scalers r) = None
high_in (I.Scaler r) = None

abbrev pub second_of : List Item → Option ℕ
second_of [] = None
second_of (x ∷ xs) = high_in x

-- the scaler words that come first
abbrev pub scalers_in : List Item → List ℕ
scalers_in [] = []
scalers_in (I.Block r ∷ xs) = []
scalers_in (I.Parameters r ∷ xs) = []
scalers_in (I.Trailer r ∷ xs) = []
scalers_in (I.Event r ∷ xs) = []
scalers_in (I.Clock r ∷ xs) = []
scalers_in (I.ClockHigh r ∷ xs) = []
scalers_in (I.Window r ∷ xs) = []
scalers_in (I.Raw r ∷ xs) = []
scalers_in (I.Pair r ∷ xs) = []
scalers_in (I.Integral r ∷ xs) = []
scalers_in (I.Time r ∷ xs) = []
scalers_in (I.Pedestal r ∷ xs) = []
scalers_in (I.Empty r ∷ xs) = []
scalers_in (I.Filler r ∷ xs) = []
scalers_in (I.Scalers r ∷ xs) = []
scalers_in (I.Scaler r ∷ xs) = r.value ∷ scalers_in xs

-- their cells
abbrev pub scaler_cells : List Item → List ℕ
scaler_cells items = cells_text (map (λ n. Number n) (scalers_in items))

-- the line of a record, by what follows it; two time words are one line, so are the scalers' words, fillers are counted
abbrev pub record_lines : Item → List Item → List Line
record_lines (I.Block r) behind = block_line r ∷ []
record_lines (I.Parameters r) behind = setup_line r ∷ []
record_lines (I.Trailer r) behind = end_line r ∷ []
record_lines (I.Event r) behind = event_line r ∷ []
record_lines (I.Clock r) behind = clock_line r (second_of behind) ∷ []
record_lines (I.ClockHigh r) behind = []
record_lines (I.Window r) behind = window_line r ∷ []
record_lines (I.Raw r) behind = pulse_line r ∷ []
record_lines (I.Pair r) behind = pair_line r ∷ []
record_lines (I.Integral r) behind = integral_line r ∷ []
record_lines (I.Time r) behind = time_line r ∷ []
record_lines (I.Pedestal r) behind = ped_line r ∷ []
record_lines (I.Empty r) behind = empty_line r ∷ []
record_lines (I.Filler r) behind = []
record_lines (I.Scalers r) behind = scalers_line (scalers_in behind) ∷ []
record_lines (I.Scaler r) behind = []

-- 1 for a filler
abbrev pub filler_in : Item → ℕ
filler_in (I.Block r) = 0
filler_in (I.Parameters r) = 0
filler_in (I.Trailer r) = 0
filler_in (I.Event r) = 0
filler_in (I.Clock r) = 0
filler_in (I.ClockHigh r) = 0
filler_in (I.Window r) = 0
filler_in (I.Raw r) = 0
filler_in (I.Pair r) = 0
filler_in (I.Integral r) = 0
filler_in (I.Time r) = 0
filler_in (I.Pedestal r) = 0
filler_in (I.Empty r) = 0
filler_in (I.Filler r) = 1
filler_in (I.Scalers r) = 0
filler_in (I.Scaler r) = 0

-- a proof that computes opens this file and what it leans on by one name
unfoldable pub all_open : Unit {0}
unfolding Rattle.written.specs.Line.all_open Rattle.lines.specs.Lines.all_open
all_open = tt
