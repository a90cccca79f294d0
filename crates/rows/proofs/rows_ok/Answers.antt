-- `rows::rows_ok` meets its contract: the rows are looked at only where the store holds them.
use Rattle.std.proofs.Common.{rules}
use Rattle.rows.specs.RowsLaws.{lent_says}
use Rattle.rows.proofs.rows_ok.Goals as goal

pub posted_ok-requires : goal.posted_ok-requires
posted_ok-requires c = search (rules, lent_says)
