-- `numbers::load::marks_from` meets its contract. Assumes nothing.
use Rattle.std.proofs.Common.{ℕ, ◌*◌, ◌/◌, ◌%◌, ◌^◌, ◌≡◌, refl, sym, ap, ◌∙◌, arith, ltb, eqb, length-set}
use Rattle.numbers.specs.Numbers.{table, marks_from}
use Rattle.numbers.specs.NumbersLaws.{table_turn, table_done, bit_asked, bit_small, bit_next}
use Rattle.numbers.proofs.load.marks_from.Goals as goal

pub loop-channel-init : goal.loop-channel-init
unfolding marks_from table
loop-channel-init c = (refl, (refl, refl))

pub nonzero_rem-marks : goal.nonzero_rem-marks
nonzero_rem-marks c = (bit_small _ _ c.loop-channel.invariant.1.0 (omega arith)).0

pub overflow_mul-marks : goal.overflow_mul-marks
overflow_mul-marks c = omega (arith, (bit_small _ _ c.loop-channel.invariant.1.0 (omega arith)).1)

pub overflow_mul-bit : goal.overflow_mul-bit
overflow_mul-bit c = omega (arith, (bit_small _ _ c.loop-channel.invariant.1.0 (omega arith)).1)

pub nonzero_rem-marks-in-loop-channel : goal.nonzero_rem-marks-in-loop-channel
nonzero_rem-marks-in-loop-channel c = omega (arith, (bit_small _ _ c.loop-channel.invariant.1.0 (omega arith)).0)

pub loop-channel-preserved : goal.loop-channel-preserved
loop-channel-preserved c =
    let l = c.loop-channel in
    let n = c.args.number in
    let e = l.invariant.1.0 in
    let asked : ltb (n % l.bit) (n % (2 * l.bit)) ≡ eqb (n / 2 ^ l.channel % 2) 1 = ap (λ (b : ℕ). ltb (n % b) (n % (2 * b))) e ∙ bit_asked n l.channel in (
      simp length-set l.invariant.0,
      (bit_next l.bit l.channel e, rw asked (l.invariant.1.1 ∙ table_turn _ 16 _ _ (omega arith))),
    )

pub returns : goal.returns
returns c = sym (c.loop-channel.invariant.1.1 ∙ table_done _ 16 _ _ (omega arith))
