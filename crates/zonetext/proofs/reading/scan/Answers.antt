use Rattle.std.proofs.Common.{Some, arith, sym, ap, ◌∙◌, subst}
use Rattle.std.proofs.lemmas.List.{take_rest, length-drop}
use Rattle.zonetext.specs.Lines.{seen}
use Rattle.zonetext.specs.Reading.{Takes, step, state_of}
use Rattle.zonetext.proofs.Turns.{going_start, turn_on, turn_stop, turn_done, turn_more, turn_early, step_odd, stopped}
use Rattle.zonetext.proofs.reading.scan.Goals as goal

pub loop-n-init : goal.loop-n-init
loop-n-init c = (omega arith, going_start _ _ c.new-reader.ensures)

pub returns-in_err-line : goal.returns-in_err-line
returns-in_err-line c =
    let s = state_of c.loop-n.reader in
    let o = c.in_err-line.ensures in
    let no = ap (λ x. step s (seen x)) o.ok_part ∙ step_odd s in
    stopped _ _ _ _ o.value o.ok_part c.from_residual.ensures.1 ∙ turn_stop _ _ _ c.loop-n.invariant.1 c.in-Some.n _ c.in-Some.ensures.1 c.parts.ensures no

pub returns-in_err-ok_or : goal.returns-in_err-ok_or
returns-in_err-ok_or c =
    let o = c.in_err-ok_or.ensures in
    let said = ap seen (sym c.in_ok-line.ensures.ok_part) ∙ c.parts.ensures in
    let no = subst (λ x. Takes (step (state_of c.loop-n.reader) (seen (Some c.in_ok-line.line))) x c.step.new.self) o.ok_part c.step.ensures in
    stopped _ _ _ _ o.value o.ok_part c.from_residual-in_err-ok_or.ensures.1 ∙ turn_stop _ _ _ c.loop-n.invariant.1 c.in-Some.n _ c.in-Some.ensures.1 said no

pub loop-n-preserved : goal.loop-n-preserved
loop-n-preserved c =
    let h = c.in-Some.ensures in
    let n = rw (take_rest, length-drop) at h.0 in
    let said = ap seen (sym c.in_ok-line.ensures.ok_part) ∙ c.parts.ensures in
    let to = subst (λ x. Takes (step (state_of c.loop-n.reader) (seen (Some c.in_ok-line.line))) x c.step.new.self) c.in_ok-ok_or.ensures.ok_part c.step.ensures in
    (omega (arith, n), turn_on _ _ _ c.loop-n.invariant.1 c.in-Some.n _ _ h.0 h.1 said to)

pub returns-in-After : goal.returns-in-After
returns-in-After c = turn_done _ _ _ c.loop-n.invariant.1 c.in_default.ensures (omega arith) c.in-After.is

pub returns-in-After-2 : goal.returns-in-After-2
returns-in-After-2 c = let i = c.loop-n.invariant in turn_more _ _ _ i.1 c.in_default.ensures i.0 (λ e. omega (arith, e, c.if-at-text.false)) c.in-After.is

pub returns-in_default-place : goal.returns-in_default-place
returns-in_default-place c = let i = c.loop-n.invariant in turn_early _ _ _ i.1 c.in_default.ensures i.0 c.in_default-place.not-After
