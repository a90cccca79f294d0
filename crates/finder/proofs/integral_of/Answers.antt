-- `finder::integral_of` meets its contract. Assumes nothing.
use Rattle.std.proofs.Common.{ℕ, ◌-◌, ◌^◌, ◌≤◌, ◌<◌, ◌≡◌, List, sym, ◌∙◌, arith, rules, length, take, drop, sum_by, length-take, length-drop}
use Rattle.std.proofs.lemmas.List.Sums.{sum_by-le}
use Rattle.limits.proofs.LimitsLaws.{most_samples_lem}
use Rattle.samples.specs.Sample.{amp, most_amp}
use Rattle.samples.specs.SampleLaws.{amp_le}
use Rattle.finder.specs.FindLaws.{integral_part}
use Rattle.finder.proofs.integral_of.Goals as goal

pub sum-requires-clause-fits : goal.sum-requires-clause-fits
sum-requires-clause-fits c =
    let a = c.args in
    let part : List ℕ = take (a.last - (a.first - 1)) (drop (a.first - 1) a.window.now) in
    let most = sum_by-le amp most_amp part (λ k d l. amp_le _) in
    let short : length part ≤ 500 = simp (length-take, length-drop) (omega (arith, most_samples_lem, c.requires.3)) in
    let fits : sum_by amp part < 2 ^ 32 = omega arith in
    search rules

pub returns : goal.returns
returns c =
    let a = c.args in
    let e : c.sum.result ≡ sum_by amp (take (a.last - (a.first - 1)) (drop (a.first - 1) a.window.now)) = search rules in
    e ∙ sym (integral_part a.window.now a.first a.last c.requires.0 c.requires.1 c.requires.2)
