use Rattle.std.proofs.lemmas.Result.{err_from_is_err_and}
use Rattle.provider.proofs.Layers.{refused_fetch}
use Rattle.root.proofs.providing.RootProvider.fetch.Goals as goal

pub returns-in_err-check-clause-told : goal.returns-in_err-check-clause-told
returns-in_err-check-clause-told c =
    let p = err_from_is_err_and c.from_residual.result c.from_residual.ensures.1 in
    rw (p.1, p.2) (λ o. refused_fetch _ _ c.args.request c.args.place.now c.in_err-check.field-0.0 o c.in_err-check.ensures)
