-- The three lines, one after another, are the head.
use Rattle.std.proofs.Common.{◌≤◌, length, arith}
use Rattle.zonewriter.proofs.Framing.{head_lines}
use Rattle.zonewriter.proofs.Placing.{puts_more, puts_same}
use Rattle.zonewriter.proofs.putting.Writer.head.Goals as goal

pub returns-clause-puts : goal.returns-clause-puts
returns-clause-puts c =
    let h : c.args.self.now.len ≤ length c.args.self.now.buffer.now = omega arith in
    puts_same (head_lines c.args.name.now c.args.interval.end c.until_text.result c.until_text.ensures) (puts_more h (puts_more h c.line.ensures.puts c.line-2.ensures.puts) c.line-3.ensures.puts)
