-- `hostfind::pulse_row` meets its contract. Assumes nothing.
use Rattle.std.proofs.Common.{sym, ◌∙◌}
use Rattle.finder.specs.Find.{no_pulse}
use Rattle.hostfind.specs.FoundLaws.{row_full, row_empty}
use Rattle.hostfind.proofs.pulse_row.Goals as goal

pub pulse_numbers-requires : goal.pulse_numbers-requires
unfolding no_pulse
pulse_numbers-requires c = c.requires.1.each _ c.if-place-found.true

pub returns-then-place-found : goal.returns-then-place-found
unfolding no_pulse
returns-then-place-found c = c.pulse_numbers.ensures ∙ sym (row_full _ _ c.if-place-found.true)

pub returns : goal.returns
returns c = sym (row_empty c.args.found _ c.if-place-found.false)
