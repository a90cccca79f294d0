-- `search::is_quiet` meets its contract: what is folded is the highest. Assumes nothing.
use Rattle.std.proofs.Common.{ℕ, ◌≤◌, ◌≡◌, max, fold, arith, rules, leb-true}
use Rattle.samples.specs.Sample.{amp}
use Rattle.search.specs.ChunkLaws.{fold_none_over}
use Rattle.search.proofs.is_quiet.Goals as goal

pub returns : goal.returns
returns c h =
    let e : c.fold-high.result ≡ fold (λ (high x : ℕ). max high (amp x)) 0 c.args.chunk.now = search rules in
    let low : c.fold-high.result ≤ c.args.threshold = omega (arith, leb-true c.from.result c.args.threshold h) in
    (fold_none_over c.args.threshold 0 c.args.chunk.now (rw e at low)).1
