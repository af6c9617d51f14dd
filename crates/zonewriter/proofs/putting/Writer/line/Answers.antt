-- The four parts, one after another, are the line.
use Rattle.std.proofs.Common.{◌≡◌, ◌≤◌, [], ◌∷◌, ◌++◌, length, ◌∙◌, arith}
use Rattle.std.proofs.lemmas.List.{append_assoc}
use Rattle.zonewriter.proofs.Placing.{puts_more, puts_same}
use Rattle.zonewriter.proofs.putting.Writer.line.Goals as goal

pub returns-clause-puts : goal.returns-clause-puts
returns-clause-puts c =
    let n = c.args.name.now in
    let v = c.args.value.now in
    let h : c.args.self.now.len ≤ length c.args.self.now.buffer.now = omega arith in
    let same : ((n ++ (58 ∷ [])) ++ v) ++ (13 ∷ 10 ∷ []) ≡ n ++ (58 ∷ (v ++ (13 ∷ 10 ∷ []))) = append_assoc (n ++ (58 ∷ [])) v (13 ∷ 10 ∷ []) ∙ append_assoc n (58 ∷ []) (v ++ (13 ∷ 10 ∷ [])) in
    puts_same same (puts_more h (puts_more h (puts_more h c.put.ensures.puts c.put-2.ensures.puts) c.put-3.ensures.puts) c.put-4.ensures.puts)
