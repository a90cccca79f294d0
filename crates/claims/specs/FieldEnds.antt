-- "the words at the field ends. My tubes never give a pedestal over 511": what the words of a pulse hold. Assumes nothing.
use Rattle.std.specs.Prelude.{ℕ, min, ◌≡◌, true, cond, ltb}
use Rattle.fields.specs.Word.{read}
use Rattle.finder.specs.declared.Pulse.{Pulse}
use Rattle.items.specs.Items.{word_of}
use Rattle.pulse.specs.Pulse.{integral_item, time_item, pedestal_item}

-- "18-0" holds "min(sum, 524,287)", "20-19 quality" is "1 if the sum was greater, else 0"
pub record IntegralEnds (word sum : ℕ) : Type 0 where
  pub written : read 18 0 word ≡ min sum 524287
  pub quality : read 20 19 word ≡ cond (ltb 524287 sum) 1 0

-- "14-6 coarse, 5-0 fine"
pub record TimeEnds (word coarse fine : ℕ) : Type 0 where
  pub coarse_held : read 14 6 word ≡ coarse
  pub fine_held : read 5 0 word ≡ fine

-- "VMIN is written as min(VMIN, 511)." in "20-12", "11-0 VPEAK"
pub record PedestalEnds (word vmin vpeak : ℕ) : Type 0 where
  pub cut : read 20 12 word ≡ min vmin 511
  pub peak : read 11 0 word ≡ vpeak

-- of pulse i of channel c: the three words, each with what was measured, cut only where the paper cuts it
pub record PulseEnds (c i : ℕ) (p : Pulse) : Type 0 where
  pub integral : IntegralEnds (word_of (integral_item c i p)) p.sum
  pub time : TimeEnds (word_of (time_item true c i p)) p.time.coarse p.time.fine
  pub pedestal : PedestalEnds (word_of (pedestal_item c i p)) p.time.vmin p.time.vpeak
