-- `numbers::load::settings_or_none` meets its contract. Assumes nothing.
use Rattle.std.proofs.Common.{sym, ◌∙◌}
use Rattle.numbers.specs.StoreLaws.{settings_held, settings_none}
use Rattle.numbers.proofs.load.settings_or_none.Goals as goal

pub returns-then-is_settings : goal.returns-then-is_settings
returns-then-is_settings c = settings_held _ (sym c.is_settings.ensures ∙ c.if-is_settings.true) c.settings_from.ensures

pub returns-else-is_settings : goal.returns-else-is_settings
returns-else-is_settings c =
    settings_none _ (sym c.is_settings.ensures ∙ c.if-is_settings.false) c.no_state.ensures
