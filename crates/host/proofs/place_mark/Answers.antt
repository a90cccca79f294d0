-- `host::place_mark` meets its contract. Assumes nothing.
use Rattle.std.proofs.Common.{ℕ, ◌+◌, ◌*◌, ◌%◌, ◌^◌, ◌<◌, ◌≡◌, refl, ap, arith, get_or, set}
use Rattle.places.specs.Places.{marks_at}
use Rattle.numbers.specs.NumbersLaws.{bit_small}
use Rattle.host.proofs.place_mark.Goals as goal

bit : (c : ℕ) → c < 16 → 2 ^ c < 65536
bit c h = (bit_small (2 ^ c) c refl h).1

pub overflow_add-numbers : goal.overflow_add-numbers
overflow_add-numbers c = omega (arith, c.requires.small, bit c.args.channel c.requires.channel)

pub returns : goal.returns
returns c =
    let a = c.args in
    let n = a.numbers.now in
    let same : 1 * 2 ^ a.channel % 18446744073709551616 ≡ 2 ^ a.channel = omega (arith, bit a.channel c.requires.channel) in
    ap (λ (x : ℕ). set n marks_at (get_or n marks_at 0 + x)) same
