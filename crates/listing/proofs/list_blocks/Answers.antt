-- `listing::list_blocks` meets its contract: the blocks that are left, put where the text stands, give them all.
use Rattle.std.proofs.Common.{sym, ◌∙◌, arith}
use Rattle.std.proofs.lemmas.Bool.{not-false, not-true}
use Rattle.written.specs.LineLaws.{say_none}
use Rattle.listing.specs.BlockLaws.{blocks_none, block_within, block_shorter, block_next, block_last}
use Rattle.listing.proofs.list_blocks.Goals as goal

pub slice_bounds-rest-count : goal.slice_bounds-rest-count
slice_bounds-rest-count c = block_within c.loop-rest.rest.now (omega arith) c.list_block-block.ensures

pub slice_bounds-rest-start : goal.slice_bounds-rest-start
slice_bounds-rest-start c = block_within c.loop-rest.rest.now (omega arith) c.list_block-block.ensures

pub loop-rest-smaller : goal.loop-rest-smaller
loop-rest-smaller c = block_shorter c.loop-rest.rest.now (omega arith) c.list_block-block.ensures (not-false _ c.if-not-block.false)

pub loop-rest-preserved : goal.loop-rest-preserved
loop-rest-preserved c =
    (c.list_block-block.auto.text ∙ c.loop-rest.invariant.0, c.loop-rest.invariant.1 ∙ block_next c.loop-rest.rest.now (omega arith) c.list_block-block.ensures (not-false _ c.if-not-block.false))

pub returns-then-not-block : goal.returns-then-not-block
returns-then-not-block c = block_last c.loop-rest.rest.now (omega arith) c.list_block-block.ensures (not-true _ c.if-not-block.true) ∙ sym c.loop-rest.invariant.1

pub returns : goal.returns
returns c = sym (c.loop-rest.invariant.1 ∙ sym (say_none _ _ (blocks_none c.loop-rest.rest.now (omega arith))))
