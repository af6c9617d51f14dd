-- The five lines, one after another, are the row's text.
use Rattle.std.proofs.Common.{◌≡◌, ◌≤◌, length, ◌∙◌, arith}
use Rattle.fields.specs.Offsets.{offset, printed}
use Rattle.zonewriter.proofs.Rowing.{row_put}
use Rattle.zonewriter.proofs.putting.Writer.row.Goals as goal

pub returns-clause-puts : goal.returns-clause-puts
returns-clause-puts c =
    let h : c.args.self.now.len ≤ length c.args.self.now.buffer.now = omega arith in
    let p : c.as_slice.result.now ≡ printed (offset c.args.row.from) = c.as_slice.ensures ∙ c.row_texts-texts.ensures.before in
    let q : c.as_slice-2.result.now ≡ printed (offset c.args.row.to) = c.as_slice-2.ensures ∙ c.row_texts-texts.ensures.after in
    row_put c.args.row _ _ _ _ c.component_of-component.ensures c.row_texts-texts.ensures.start p q h c.line.ensures.puts c.line-2.ensures.puts c.line-3.ensures.puts c.line-4.ensures.puts c.line-5.ensures.puts
