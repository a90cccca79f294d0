-- `numbers::load::row` meets its contract: each number stands at its place. Assumes nothing.
use Rattle.std.proofs.Common.{◌%◌, get_or, sym, ◌∙◌, mod-eq_of_lt, arith, rules, tests}
use Rattle.std.proofs.lemmas.List.{get_or_default}
use Rattle.ground.specs.MadeLaws.{made}
use Rattle.ground.specs.TestsLaws.{under_at}
use Rattle.places.specs.Places.{most32}
use Rattle.numbers.proofs.load.row.Goals as goal

pub returns : goal.returns
returns g c =
    let row = c.args.row.now in
    made _ _ _ (λ i. get_or row i 0 % 4294967296) (λ i y q h k. search (rules, tests)) c.from_fn.result row c.from_fn.ensures.items c.requires.0
    (λ i d l. get_or_default row i d 0 (omega (arith, l, c.requires.0)) ∙ sym (mod-eq_of_lt (omega (arith, under_at most32 row i c.requires.1))))
