-- `numbers::store::wide` meets its contract: each count stands at its place. Assumes nothing.
use Rattle.std.proofs.Common.{get_or, arith, rules, tests}
use Rattle.std.proofs.lemmas.List.{get_or_default}
use Rattle.ground.specs.MadeLaws.{made}
use Rattle.numbers.proofs.store.wide.Goals as goal

pub returns : goal.returns
returns g c =
    let counts = c.args.counts.now in
    made _ _ _ (λ i. get_or counts i 0) (λ i y q h k. search (rules, tests)) c.from_fn.result counts c.from_fn.ensures.items c.requires (λ i d l. get_or_default counts i d 0 (omega (arith, l, c.requires)))
