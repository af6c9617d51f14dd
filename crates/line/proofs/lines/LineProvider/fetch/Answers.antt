use Rattle.std.proofs.Common.{sym, refl}
use Rattle.std.proofs.lemmas.Result.{err_from_is_err_and}
use Rattle.zone.specs.Refusals.{answered, number, values}
use Rattle.provider.specs.Fetching.{passes}
use Rattle.provider.proofs.Checks.{checked_answer}
use Rattle.provider.proofs.Layers.{passes_no, refused_fetch, when_no}
use Rattle.line.proofs.Bringing.{lined_brought}
use Rattle.line.proofs.lines.LineProvider.fetch.Goals as goal

pub returns-in_err-check : goal.returns-in_err-check
returns-in_err-check g c =
    let q = c.args.request in
    let span = g.P.Provider.span c.args.self.now.below in
    let e = c.in_err-check.field-0.0 in
    let h = rw c.span.ensures at c.in_err-check.ensures in
    let p = err_from_is_err_and c.from_residual.result c.from_residual.ensures.1 in
    rw (p.1, p.2) (record { after = when_no _ _ (passes q span) (passes_no q span (number e) (values e) h) refl; told = λ o. refused_fetch _ _ q c.args.place.now e o h })

pub returns-in_err-send-clause-told : goal.returns-in_err-send-clause-told
returns-in_err-send-clause-told g c =
    let q = c.args.request in
    let h = rw c.span.ensures at c.in_ok-check.ensures in
    let passed = (checked_answer q (g.P.Provider.span c.args.self.now.below) (answered tt) tt (sym h)).0 in
    let p = err_from_is_err_and c.from_residual-in_err-send.result c.from_residual-in_err-send.ensures.1 in
    rw (p.1, p.2) (λ o. lined_brought g.P.Provider _ _ c.args.self.now.below c.send.new.self.below q c.args.place.now c.send.new.place _ passed o c.send.ensures.sent.below (c.in_err-send.ensures.brought o))

pub returns-clause-told : goal.returns-clause-told
returns-clause-told g c =
    let q = c.args.request in
    let h = rw c.span.ensures at c.in_ok-check.ensures in
    let passed = (checked_answer q (g.P.Provider.span c.args.self.now.below) (answered tt) tt (sym h)).0 in
    λ o. lined_brought g.P.Provider _ _ c.args.self.now.below c.send.new.self.below q c.args.place.now c.send.new.place _ passed o c.send.ensures.sent.below (c.in_ok-send.ensures.brought o)
