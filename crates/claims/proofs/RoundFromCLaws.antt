-- Demand 2 from C, both ways: a block made by C's calls and read by `fadc250_next`, record by record, "gives back every field as written". Assumes nothing.
use Rattle.std.specs.Prelude.{ℕ, ◌^◌, ◌<◌, ◌≡◌, List, ◌++◌, get_or, take}
use Rattle.std.proofs.Common.{sym, ap, ◌∙◌, subst}
use Rattle.items.specs.declared.Item.{Item}
use Rattle.reader.specs.Reader.{Out, Whole, Broken, Reading}
use Rattle.block.specs.Block.{end_items}
use Rattle.numbers.specs.Numbers.{state_from}
use Rattle.ends.specs.Ends.{end_kind}
use Rattle.reading.specs.Reading.{NextFace}
use Rattle.host.specs.Face.{FinishFace}
use Rattle.claims.specs.FromC.{CRun}
use Rattle.claims.proofs.CRunLaws.{c_run_reads_back}
use Rattle.claims.specs.ReadFromC.{CReads, Recorded}
use Rattle.claims.proofs.ReadFromCLaws.{c_reads_whole}

abbrev size_of : Out → ℕ
size_of (Whole n) = n
size_of (Broken n place) = n

-- any run of C's calls, then an accepted finish; then calls of `fadc250_next` over the block's words from zeros on, up to the block's end: the last
-- answer is the finish's, and the records given are those that were written
pub c_round : {n words : List ℕ} {xs : List Item} → CRun n words xs → (r : ℕ) (n' words' : List ℕ) → FinishFace n words r n' words' → r < 2 ^ 32
    → {m : List ℕ} {cells : List (List ℕ)} → CReads (take r words') m cells → (out : List ℕ) {q : ℕ} {m' out' : List ℕ} → NextFace m (take r words') out q m' out'
    → q < 2 ^ 32 → get_or out' 0 0 ≡ end_kind → (q ≡ r) × Recorded cells (xs ++ end_items (state_from n).settings (state_from n).words)
c_round {n} {words} {xs} run r n' words' f l {m} {cells} reads out {q} {m'} {out'} g low k =
    let a = c_reads_whole reads out g low k in
    let b = c_run_reads_back run r n' words' f l in
    let same = sym a.read ∙ b.read in
    (ap (λ (x : Reading). size_of x.out) same, subst (Recorded cells) (ap (λ (x : Reading). x.items) same) a.records)
