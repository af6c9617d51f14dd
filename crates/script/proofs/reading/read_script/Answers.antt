use Rattle.std.proofs.Common.{◌≡◌, ℕ, ◌+◌, ◌<◌, eqb, length, get_or, drop, is_ok, IsErrAnd, MatchResult, Ok, None, Some, Err, sym, ap, ◌∙◌, subst, arith, rules, tests}
use Rattle.std.specs.List.{enumerate_from}
use Rattle.std.proofs.lemmas.Iterator.Consumers.{YieldsList-at, YieldsList-from_enumerate}
use Rattle.std.proofs.lemmas.Iterator.Splits.{YieldsList-from_slice_split}
use Rattle.std.proofs.lemmas.List.{length_push}
use Rattle.std.proofs.lemmas.List.FromFn.{length-enumerate_from}
use Rattle.script.specs.Drafts.{line_read, unread}
use Rattle.script.specs.Scripts.{ended, lines_read, script}
use Rattle.script.specs.Seeing.{met, read_of, Reads}
use Rattle.script.proofs.Lines.{closed, end, failed, part_turn, parts_of, parts_read, read_all, read_off, read_on, taken, turn}
use Rattle.script.proofs.reading.read_script.Goals.{In-Some}
use Rattle.script.proofs.reading.read_script.Goals as goal

-- the part of this turn
turned : (c : In-Some) → (length c.loop-index.yielded < length (parts_of c.args.text.now)) × (c.in-Some.index ≡ length c.loop-index.yielded) × (c.in-Some.line.now ≡ get_or (parts_of c.args.text.now) (length c.loop-index.yielded) c.in-Some.line.now)
turned c = part_turn (parts_of c.args.text.now) (length c.loop-index.yielded) c.in-Some.index c.in-Some.line.now (turn {v = λ p. (p.0, p.1.now)} c.loop-index.yielded _ c.loop-index.yielded_by _ _ (c.in-Some.index, c.in-Some.line) c.in-Some.is c.next.ensures.steps
    (YieldsList-at (cc) (YieldsList-from_enumerate (YieldsList-at c.enumerate-index-items.ensures.source (YieldsList-from_slice_split _ (λ b. eqb b 10) c.args.text.now c.split.ensures.rest c.split.ensures.done c.split.ensures.closure (λ x b q k. search (rules, tests)))) c.enumerate-index-items.ensures.count)))

pub returns-in_err-map_err : goal.returns-in_err-map_err
returns-in_err-map_err c =
    let text = c.args.text.now in
    let t = turned (goal.at.returns-in_err-map_err c).In-Some in
    let d = read_of c.loop-index.draft in
    let line = c.in-Some.line.now in
    let cases : MatchResult c.read_line.result (λ x. c.map_err.result ≡ Ok x) (λ e. IsErrAnd c.map_err.result (λ f. f ≡ met e (c.in-Some.index + 1))) = search rules in
    let back : c.from_residual.result ≡ Err c.in_err-map_err.field-0.0 = search rules in
    let whole : None ≡ line_read d line → script text ≡ Err (c.in-Some.index + 1) = λ none. ap ended (sym (parts_read text 1 unread) ∙ sym c.loop-index.invariant ∙ read_off (parts_of text) (length c.loop-index.yielded) line d t.0 t.2 none) ∙ ap (λ (k : ℕ). Err (k + 1)) (sym t.1) in
    subst (λ r. Reads (script text) r) (sym back) (failed (script text) (line_read d line) (read_of c.read_line.new.self) (c.in-Some.index + 1) c.in_err-map_err.field-0.0 c.read_line.result c.map_err.result c.in_err-map_err.was cases c.read_line.ensures whole)

pub loop-index-preserved : goal.loop-index-preserved
loop-index-preserved c =
    let parts = parts_of c.args.text.now in
    let t = turned (goal.at.loop-index-preserved c).In-Some in
    let d = read_of c.loop-index.draft in
    let e = read_of c.read_line.new.self in
    let took : Some e ≡ line_read d c.in-Some.line.now = taken _ e c.read_line.result c.read_line.ensures (sym c.map_err.ensures.variant ∙ ap is_ok c.in_ok-map_err.was) in
    let on = read_on parts (length c.loop-index.yielded) c.in-Some.line.now d e t.0 t.2 took in
    subst (λ (n : ℕ). lines_read (drop n parts) (n + 1) e ≡ lines_read parts 1 unread) (sym (length_push c.loop-index.yielded (c.in-Some.index, c.in-Some.line))) (sym on ∙ c.loop-index.invariant)

pub returns : goal.returns
returns c =
    let text = c.args.text.now in
    let n = length c.loop-index.yielded in
    let all : n ≡ length (enumerate_from 0 (parts_of text)) = end {v = λ p. (p.0, p.1.now)} c.loop-index.yielded _ c.loop-index.yielded_by _ _ c.in-None.is c.next.ensures.steps
    (YieldsList-at (cc) (YieldsList-from_enumerate (YieldsList-at c.enumerate-index-items.ensures.source (YieldsList-from_slice_split _ (λ b. eqb b 10) text c.split.ensures.rest c.split.ensures.done c.split.ensures.closure (λ x b q k. search (rules, tests)))) c.enumerate-index-items.ensures.count)) in
    let read = read_all (parts_of text) n (n + 1) (read_of c.loop-index.draft) (omega (arith, all, length-enumerate_from 0 (parts_of text))) in
    let whole = ap ended (sym (parts_read text 1 unread) ∙ sym c.loop-index.invariant ∙ read) ∙ sym c.finish.ensures in
    subst (λ r. Reads (script text) r) (sym c.ok_or.ensures.value) (closed _ c.finish.result whole)
