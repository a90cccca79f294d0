-- `search::quiet_to` meets its contract. The invariant: the search may go on behind the chunks that were looked at. Assumes nothing.
use Rattle.std.proofs.Common.{◌+◌, ◌*◌, ◌≡◌, sym, ◌∙◌, arith, rules, zero-mul, length, eqb-true}
use Rattle.search.specs.ChunkLaws.{passed_none, chunk_next, chunk_last, chunk_all}
use Rattle.search.proofs.quiet_to.Goals as goal
use Rattle.search.proofs.quiet_to.Goals.{then-is_empty, else-is_empty}

pub loop-i-init : goal.loop-i-init
loop-i-init g c =
    let z : c.args.s + 0 * g.row.SIZE ≡ c.args.s = rw zero-mul (omega arith) in
    rw z (passed_none _ _ _ c.requires.0)

pub returns-then-not-is_quiet : goal.returns-then-not-is_quiet
returns-then-not-is_quiet g c = c.loop-i.invariant

pub loop-i-preserved : goal.loop-i-preserved
loop-i-preserved g c =
    let a = c.args in
    let front = c.as_chunks.ensures.front in
    let len = c.as_chunks.ensures.front_len in
    chunk_next a.window.now a.threshold a.s g.row.SIZE c.loop-i.i c.index-chunks-i.result c.requires.0 (omega (arith, c.loop-i-test.true, len)) (rw front at c.index-chunks-i.is) (c.is_quiet.ensures c.if-not-is_quiet.false) c.loop-i.invariant

pub returns-then-is_quiet : goal.returns-then-is_quiet
returns-then-is_quiet g c =
    let a = c.args in
    let last = c.in-Some.ensures.cases in
    let len = c.as_chunks.ensures.front_len in
    let e : c.loop-i.i ≡ length c.as_chunks.result.0.now = omega arith in
    let passed = rw (e ∙ len) at c.loop-i.invariant in
    elim c.if-is_empty.branch [
      | then-is_empty w ↦ chunk_all a.window.now a.threshold a.s g.row.SIZE c.requires.0 (sym c.as_chunks.ensures.back_len ∙ eqb-true _ 0 (sym c.is_empty.ensures ∙ w.if-is_empty.true)) passed
      | else-is_empty w ↦ chunk_last a.window.now a.threshold a.s g.row.SIZE c.in-Some.last.now c.requires.1 c.requires.0 last.0 last.1.same (w.is_quiet-else-is_empty.ensures (search rules)) passed
    ]

pub returns-else-is_quiet : goal.returns-else-is_quiet
returns-else-is_quiet g c =
    let e : c.loop-i.i ≡ length c.as_chunks.result.0.now = omega arith in
    rw e at c.loop-i.invariant
