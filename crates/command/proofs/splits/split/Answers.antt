use Rattle.std.proofs.Common.{◌≡◌, ◌+◌, eqb, sym, ap, take, drop, length, ◌∙◌, arith, rules, tests}
use Rattle.std.specs.List.{position}
use Rattle.std.proofs.lemmas.Iterator.{YieldsList-from_slice}
use Rattle.std.proofs.lemmas.Iterator.Search.{position_from_yields_List}
use Rattle.std.proofs.lemmas.List.{take_rest, take_all, drop_all}
use Rattle.command.proofs.Splitting.{found_at, found_none}
use Rattle.command.proofs.splits.split.Goals.{After-position}
use Rattle.command.proofs.splits.split.Goals as goal

-- the first mark was looked for
sought : (c : After-position) → c.position.result ≡ position (λ b. eqb b c.args.mark) c.args.bytes.now
sought c = position_from_yields_List (λ b. eqb b c.args.mark) _ _ c.position.result c.position.ensures.ran (YieldsList-from_slice _ c.iter.ensures.rest) (λ x b q k. search (rules, tests))

pub returns-in-Some-clause-front : goal.returns-in-Some-clause-front
returns-in-Some-clause-front c =
    let at = found_at _ c.args.bytes.now _ (sym c.in-Some.is ∙ sought (goal.at.returns-in-Some-clause-front c).After-position) in
    ap (λ n. take n c.args.bytes.now) at

pub returns-in-Some-clause-back : goal.returns-in-Some-clause-back
returns-in-Some-clause-back c =
    let at = found_at _ c.args.bytes.now _ (sym c.in-Some.is ∙ sought (goal.at.returns-in-Some-clause-back c).After-position) in
    take_rest c.args.bytes.now (c.in-Some.n + 1) ∙ ap (λ n. drop (n + 1) c.args.bytes.now) at

pub returns-in-None-clause-front : goal.returns-in-None-clause-front
returns-in-None-clause-front c =
    let none = found_none _ c.args.bytes.now (sym c.in-None.is ∙ sought (goal.at.returns-in-None-clause-front c).After-position) in
    sym (take_all _ c.args.bytes.now none)

pub returns-in-None-clause-back : goal.returns-in-None-clause-back
returns-in-None-clause-back c =
    let bs = c.args.bytes.now in
    let none = found_none _ bs (sym c.in-None.is ∙ sought (goal.at.returns-in-None-clause-back c).After-position) in
    take_rest bs (length bs) ∙ drop_all (length bs) bs (omega arith) ∙ sym (drop_all _ bs (omega (arith, none)))
