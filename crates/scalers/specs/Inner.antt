-- What is seen of frames before it is added to the counts; no public contract cites it. Assumes nothing.
use Rattle.std.specs.Prelude.{ℕ, ◌+◌, min, Bool, List, [], ◌∷◌}
use Rattle.scalers.specs.Scalers.{overs_of, rises_of, added_to}

-- a threshold in sixteen bits
unfoldable pub narrow_of : ℕ → ℕ
narrow_of t = min t 65535

-- sums that do not wrap
unfoldable pub plus_of : List ℕ → List ℕ → List ℕ
plus_of [] ms = []
plus_of (n ∷ ns) [] = []
plus_of (n ∷ ns) (m ∷ ms) = (n + m) ∷ plus_of ns ms

-- how often each channel rose, in frames behind `seen`
unfoldable pub seen_from : List ℕ → List ℕ → List Bool → List (List ℕ) → List ℕ
seen_from ts seen over [] = seen
seen_from ts seen over (f ∷ fs) = seen_from ts (plus_of seen (rises_of over (overs_of ts f))) (overs_of ts f) fs

-- which channels are over in the last frame
unfoldable pub over_from : List ℕ → List Bool → List (List ℕ) → List Bool
over_from ts over [] = over
over_from ts over (f ∷ fs) = over_from ts (overs_of ts f) fs

-- the counts behind frames
unfoldable pub counts_from : List ℕ → List ℕ → List Bool → List (List ℕ) → List ℕ
counts_from ts counts over [] = counts
counts_from ts counts over (f ∷ fs) = counts_from ts (added_to counts (rises_of over (overs_of ts f))) (overs_of ts f) fs
