use Rattle.zone.proofs.Testing.{era_table_yes}
use Rattle.zone.proofs.windows.Table.is_over_era.Goals as goal

pub returns-then-is_era : goal.returns-then-is_era
returns-then-is_era c = era_table_yes c.args.self.now.interval c.args.self.now.rows.items c.is_table.result (c.is_era.ensures.0 c.if-is_era.true) c.is_table.ensures
