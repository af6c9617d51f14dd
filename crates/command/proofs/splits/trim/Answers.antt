use Rattle.std.proofs.Common.{◌≡◌, not, eqb, sym, ap, drop, length, ◌∙◌, arith, rules, tests}
use Rattle.std.specs.List.{position}
use Rattle.std.proofs.lemmas.Iterator.{YieldsList-from_slice}
use Rattle.std.proofs.lemmas.Iterator.Search.{position_from_yields_List}
use Rattle.std.proofs.lemmas.List.{take_rest, drop_all}
use Rattle.command.proofs.Splitting.{found_at, found_none}
use Rattle.command.proofs.splits.trim.Goals.{After-position}
use Rattle.command.proofs.splits.trim.Goals as goal

-- the first byte that is no space was looked for
sought : (c : After-position) → c.position.result ≡ position (λ b. not (eqb b 32)) c.args.bytes.now
sought c = position_from_yields_List (λ b. not (eqb b 32)) _ _ c.position.result c.position.ensures.ran (YieldsList-from_slice _ c.iter.ensures.rest) (λ x b q k. search (rules, tests))

pub returns-in-Some : goal.returns-in-Some
returns-in-Some c =
    let at = found_at _ c.args.bytes.now _ (sym c.in-Some.is ∙ sought (goal.at.returns-in-Some c).After-position) in
    take_rest c.args.bytes.now c.in-Some.n ∙ ap (λ n. drop n c.args.bytes.now) at

pub returns-in-None : goal.returns-in-None
returns-in-None c =
    let bs = c.args.bytes.now in
    let none = found_none _ bs (sym c.in-None.is ∙ sought (goal.at.returns-in-None c).After-position) in
    take_rest bs (length bs) ∙ drop_all (length bs) bs (omega arith) ∙ sym (drop_all _ bs none)
