use Rattle.std.proofs.Common.{length, ap, sym}
use Rattle.zone.proofs.Compared.{rows_differ}
use Rattle.zone.proofs.comparing.same_rows.Goals as goal

pub returns-then-a-b : goal.returns-then-a-b
returns-then-a-b c = sym (rows_differ c.args.a.now c.args.b.now (λ q. c.if-a-b.true (ap length q)))
