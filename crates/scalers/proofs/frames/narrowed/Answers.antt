-- `scalers::frames::narrowed` meets its contract: each threshold stands at its place.
use Rattle.std.proofs.Common.{◌≡◌, map, get_or, sym, ◌∙◌, arith, rules}
use lib.ListN.{length-map, get_or-map}
use Rattle.std.proofs.lemmas.Grind.{same_number_lists}
use Rattle.scalers.specs.Inner.{narrow_of}
use Rattle.scalers.proofs.frames.narrowed.Goals as goal

pub returns : goal.returns
unfolding narrow_of
returns c =
    let ts = c.args.thresholds in
    let made = c.map.ensures.items in
    same_number_lists c.map.result (map narrow_of ts) (omega (arith, made.long, length-map ts narrow_of, c.well_formed)) (λ i h.
    let called = made.at i 0 0 (omega (arith, h, made.long)) in
    let now : get_or c.map.result i 0 ≡ narrow_of (get_or ts i 0) = search (rules, called.2) in
    now ∙ sym (get_or-map narrow_of ts i 0))
