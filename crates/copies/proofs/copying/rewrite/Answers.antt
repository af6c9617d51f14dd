-- What was written is the text.
use Rattle.std.proofs.Common.{sym, ap, ◌∙◌}
use Rattle.std.specs.Bool.{then_some}
use Rattle.zonetext.specs.Reading.{zone_in}
use Rattle.copies.proofs.Again.{rewritten}
use Rattle.copies.proofs.copying.rewrite.Goals as goal

pub returns-clause-is : goal.returns-clause-is
returns-clause-is c =
    c.then_some.ensures ∙ ap (λ x. then_some x c.in_ok-n.n) c.eq.ensures
    ∙ rewritten (zone_in c.args.name c.args.window.now) c.args.text.now c.args.buffer.now c.write.new.buffer c.write.result c.in_ok-n.n c.requires c.write.ensures.is c.write.ensures.after (sym c.ok.ensures.value ∙ c.in_ok-n.was)
