-- Reading on at the word at the scan's place. Assumes nothing.
use Rattle.std.specs.Prelude.{ℕ, ◌+◌, ◌-◌, ◌≤◌, ◌<◌, ◌≡◌, List, length, take, get_or, drop}
use Rattle.std.proofs.Common.{ap, ◌∙◌, arith, drop_of_length-le, take_all, length-drop}
use Rattle.reader.specs.Reader.{judge_at, end_number}
use Rattle.reader.specs.RunLaws.{cons_at}
use Rattle.scan.specs.declared.Scan.{Scan}
use Rattle.reader.specs.Judged.{Judged}
use Rattle.records.specs.Next.{from_judged, ended, next_from, next_at}

-- a part that is lent, from i to the end
pub tail_is : (words : List ℕ) (i : ℕ) → take (length words - i) (drop i words) ≡ drop i words
tail_is words i = take_all (length words - i) (drop i words) (omega (arith, length-drop i words))

module _ (words : List ℕ) (s : Scan) where
  -- `behind` are the words behind it
  pub next_here : {j : Judged} {behind : List ℕ} → s.place < length words → j ≡ judge_at s (get_or words s.place 0) → behind ≡ drop (s.place + 1) words
      → next_at words s ≡ from_judged j s.place behind
  unfolding next_at next_from
  next_here h e b = ap (next_from s) (cons_at words s.place (s.place + 1) h (omega arith)) ∙ rw (← e, ← b)

  -- there is none
  pub next_none : length words ≤ s.place → next_at words s ≡ ended (end_number s) s.place
  unfolding next_at next_from
  next_none h = ap (next_from s) (drop_of_length-le words h)
