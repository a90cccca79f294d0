-- A line as data, a name and its cells, and its text: "fields parted by one tab". Assumes nothing.
use Rattle.std.specs.Prelude.{ℕ, ◌/◌, ◌%◌, ◌^◌, Bool, cond, List, [], ◌∷◌, ◌++◌, eqb, ltb}
use Rattle.ground.specs.Search.{least}
use Rattle.io.specs.Digits.{last_digits}

-- a number is decimal without leading zeros: the fewest digits that hold n, of which a 64-bit number has at most twenty
unfoldable pub places_of : ℕ → ℕ
places_of n = least (λ k. ltb n (10 ^ k)) 0 20

unfoldable pub decimal : ℕ → List ℕ
decimal n = last_digits 10 (places_of n) n

-- what stands in a field of a line: a number or `-`
pub data Cell : Type 0 where
  Number : ℕ → Cell
  Dash : Cell

abbrev pub cell_text : Cell → List ℕ
cell_text (Number n) = decimal n
cell_text Dash = 45 ∷ []

-- each cell behind a tab
unfoldable pub cells_text : List Cell → List ℕ
cells_text [] = []
cells_text (c ∷ cs) = 9 ∷ (cell_text c ++ cells_text cs)

pub record Line : Type 0 where
  pub name : List ℕ
  pub cells : List Cell

abbrev pub line_of : List ℕ → List Cell → Line
line_of name cells = record { name = name; cells = cells }

-- a line ends in a line feed
unfoldable pub line_text : Line → List ℕ
line_text l = l.name ++ (cells_text l.cells ++ 10 ∷ [])

unfoldable pub text_of : List Line → List ℕ
text_of [] = []
text_of (l ∷ ls) = line_text l ++ text_of ls

-- cells as the renderer takes them: numbers, and the cells that are a dash as bits, the first cell's lowest
abbrev pub cell_of : Bool → ℕ → Cell
cell_of dash n = cond dash Dash (Number n)

abbrev pub cells_of : ℕ → List ℕ → List Cell
cells_of dashes [] = []
cells_of dashes (n ∷ ns) = cell_of (eqb (dashes % 2) 1) n ∷ cells_of (dashes / 2) ns

-- a proof that computes opens this file and what it leans on by one name
unfoldable pub all_open : Unit {0}
unfolding places_of decimal cells_text line_text text_of Rattle.ground.specs.Search.all_open
all_open = tt
