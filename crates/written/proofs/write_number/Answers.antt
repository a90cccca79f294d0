-- `written::write_number` meets its contract: the digits are the fewest.
use Rattle.std.proofs.Common.{ℕ, ap, ◌∙◌, List, arith}
use Rattle.written.specs.Page.{put}
use Rattle.written.specs.LineLaws.{fewest_le, decimal_is}
use Rattle.written.proofs.write_number.Goals as goal

pub returns-then-n-lt10 : goal.returns-then-n-lt10
returns-then-n-lt10 c =
    (c.write_digit.ensures.0 ∙ ap (λ (l : List ℕ). put (c.args.text.now, c.args.at) l) (decimal_is c.args.n 1 c.ranges.n.fits (omega arith, omega arith, λ h. omega arith)), omega arith)

pub returns-then-n-lt100 : goal.returns-then-n-lt100
returns-then-n-lt100 c =
    (c.write_two.ensures.0 ∙ ap (λ (l : List ℕ). put (c.args.text.now, c.args.at) l) (decimal_is c.args.n 2 c.ranges.n.fits (omega arith, omega arith, λ h. omega arith)), omega arith)

pub returns-then-n-lt1000 : goal.returns-then-n-lt1000
returns-then-n-lt1000 c =
    (c.write_three.ensures.0 ∙ ap (λ (l : List ℕ). put (c.args.text.now, c.args.at) l) (decimal_is c.args.n 3 c.ranges.n.fits (omega arith, omega arith, λ h. omega arith)), omega arith)

pub write_bytes-requires : goal.write_bytes-requires
write_bytes-requires c =
    let d = c.decimal-count.ensures in
    omega (arith, d.in_bounds.1, fewest_le c.args.n _ c.ranges.n.fits d.len)

pub returns : goal.returns
returns c =
    let d = c.decimal-count.ensures in
    (c.write_bytes.ensures.0 ∙ ap (λ (l : List ℕ). put (c.args.text.now, c.args.at) l) (d.digits ∙ decimal_is c.args.n _ c.ranges.n.fits d.len), omega (arith, d.in_bounds.1, fewest_le c.args.n _ c.ranges.n.fits d.len))
