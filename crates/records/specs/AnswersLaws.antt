-- What `next` promises follows from the answer alone. Assumes nothing.
use Rattle.std.specs.Prelude.{ℕ, ◌+◌, ◌<◌, ◌≡◌, refl, List, length, get_or, drop}
use Rattle.std.proofs.Common.{ap, sym}
use Rattle.items.specs.declared.Item.{Item}
use Rattle.reader.specs.Judged as J
use Rattle.reader.specs.Reader.{Broken, read_from, judge_at}
use Rattle.scan.specs.declared.Scan.{Scan}
use Rattle.records.specs.NextOf.{Next}
use Rattle.records.specs.NextOf as N
use Rattle.records.specs.Next.{next_at, record_from}
use Rattle.records.specs.AtLaws.{next_here, tail_is}
use Rattle.records.specs.NextLaws.{SaysNext, next_says}
use Rattle.records.specs.Answers.{next_number, next_values, NextSays}

refused_run : (s : Scan) (ws : List ℕ) (x : Next) → SaysNext s ws x → (next_number x ≡ 0 → ⊥) → (read_from s ws).out ≡ Broken (next_number x) (get_or (next_values x) 0 0)
refused_run s ws (N.Took r u) k h = absurd (h refl)
refused_run s ws (N.End n) k h = absurd (h refl)
refused_run s ws (N.Refused n place) k h = k

pub next_answers : (words : List ℕ) (s : Scan) {r : Next} → r ≡ next_at words s → NextSays words s r
unfolding next_at
next_answers words s e =
    record {
      number = ap next_number e;
      values = ap next_values e;
      refused = rw e (refused_run s (drop s.place words) (next_at words s) (next_says s (drop s.place words)));
      answer = e;
    }

-- reading on where it is known what the word at the scan's place does
module _ (words : List ℕ) (s : Scan) (h : s.place < length words) where
  pub at_took : (x : Item) (u : Scan) → J.Took x u ≡ judge_at s (get_or words s.place 0) → next_at words s ≡ record_from x u (drop (s.place + 1) words)
  at_took x u e = next_here words s h e refl

  pub at_ended : J.Ended ≡ judge_at s (get_or words s.place 0) → next_at words s ≡ N.End s.place
  at_ended e = next_here words s h e refl

  pub says_refused : (n p : ℕ) → J.Refused n p ≡ judge_at s (get_or words s.place 0) → NextSays words s (N.Refused n p)
  says_refused n p e = next_answers words s (sym (next_here words s h e refl))

pub ruleset next_judged = (next_answers, at_took, at_ended, says_refused, tail_is)
