-- `stretches::is_single` meets its contract.
use Rattle.std.proofs.Common.{sym, ap, arith}
use Rattle.fields.specs.Word.{field_at}
use Rattle.stretches.specs.Stretches.{single}
use Rattle.stretches.specs.WordsLaws.{word_none}
use Rattle.stretches.specs.BitsLaws.{turned_single}
use Rattle.stretches.proofs.is_single.Goals as goal

pub returns-then-bytes-lt4 : goal.returns-then-bytes-lt4
unfolding single field_at
returns-then-bytes-lt4 c = sym (ap single (word_none c.args.bytes.now 0 (omega arith)))

pub returns : goal.returns
returns c =
    let bytes = c.args.bytes.now in
    rw (c.take.ensures, c.take-2.ensures, c.turned_at-word.ensures)
    (turned_single bytes 0 (λ i. omega (arith, c.type_inv.bytes i)) (omega arith))
