-- `lines::put_fill` meets its contract: no line, or one.
use Rattle.std.proofs.Common.{eq-eqb, ne_eqb}
use Rattle.written.specs.LineLaws.{say_none, say_one}
use Rattle.lines.proofs.put_fill.Goals as goal

pub returns-then-fillers-eq0 : goal.returns-then-fillers-eq0
returns-then-fillers-eq0 c = say_none _ _ (rw (eq-eqb _ _ c.if-fillers-eq0.true))

pub returns : goal.returns
returns c = say_one _ _ _ _ c.put_line.ensures (rw (ne_eqb _ _ c.if-fillers-eq0.false))
