-- What the inner functions say. Assumes nothing.
use Rattle.std.specs.Prelude.{ℕ, ◌≡◌, List}
use Rattle.records.specs.NextOf.{Next}
use Rattle.reading.specs.Reading.{room_for, told_by, scan_left, record_of, record_stored}

-- what a call on a scan leaves of what it read
pub record Told (n out : List ℕ) (x : Next) (r : ℕ) (n' out' : List ℕ) : Type 0 where
  pub number : r ≡ told_by x (room_for out)
  pub numbers : n' ≡ scan_left x (room_for out) n
  pub cells : out' ≡ record_stored out (record_of x)
