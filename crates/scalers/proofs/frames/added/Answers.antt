-- `scalers::frames::added` meets its contract: each sum stands at its place.
use Rattle.std.proofs.Common.{◌≡◌, ◌+◌, get_or, sym, ◌∙◌, arith, rules}
use Rattle.std.proofs.lemmas.Grind.{same_number_lists}
use Rattle.scalers.specs.Scalers.{wrapped, added_to}
use Rattle.scalers.specs.FrameLaws.{length_added, added_at}
use Rattle.scalers.proofs.frames.added.Goals as goal

pub returns : goal.returns
unfolding wrapped
returns c =
    let counts = c.args.counts in
    let rises = c.args.rises in
    let made = c.from_fn.ensures.items in
    let long = length_added counts rises (omega (arith, c.well_formed)) in
    same_number_lists c.from_fn.result (added_to counts rises) (omega (arith, made.long, long, c.well_formed)) (λ i h.
    let called = made.at i 0 (omega (arith, h, made.long)) in
    let now : get_or c.from_fn.result i 0 ≡ wrapped (get_or counts i 0 + get_or rises i 0) = search (rules, called.2) in
    now ∙ sym (added_at counts rises i (omega (arith, h, made.long, c.well_formed)) (omega (arith, h, made.long, c.well_formed))))
