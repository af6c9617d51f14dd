use Rattle.std.proofs.Common.{sym, refl}
use Rattle.std.proofs.lemmas.Result.{err_from_is_err_and}
use Rattle.zone.specs.Refusals.{answered, number, values}
use Rattle.provider.specs.Fetching.{passes}
use Rattle.provider.proofs.Checks.{checked_answer}
use Rattle.provider.proofs.Layers.{passes_no, passes_yes, refused_fetch, when_no, when_yes}
use Rattle.truncation.proofs.Fetches.{truncated_fetched}
use Rattle.truncation.proofs.truncations.TruncationProvider.fetch.Goals as goal

pub returns-in_err-check_request : goal.returns-in_err-check_request
returns-in_err-check_request g c =
    let q = c.args.request in
    let s = c.args.self.now in
    let e = c.in_err-check_request.field-0.0 in
    let h = c.in_err-check_request.ensures in
    let p = err_from_is_err_and c.from_residual.result c.from_residual.ensures.1 in
    rw (p.1, p.2) (record { after = when_no _ _ (passes q s.span) (passes_no q s.span (number e) (values e) h) refl; told = λ o. refused_fetch _ _ q c.args.place.now e o h })

pub returns-in_err-fetch : goal.returns-in_err-fetch
returns-in_err-fetch g c =
    let q = c.args.request in
    let s = c.args.self.now in
    let passed = (checked_answer q s.span (answered tt) tt (sym c.in_ok-check_request.ensures)).0 in
    let p = err_from_is_err_and c.from_residual-in_err-fetch.result c.from_residual-in_err-fetch.ensures.1 in
    rw (p.1, p.2) (record {
      after = when_yes _ _ (passes q s.span) (passes_yes q s.span passed) (c.fetch.ensures.after, refl);
      told = λ o. truncated_fetched _ s.span (g.met.P.Provider.sound s.below o.0) o.1 passed (c.in_err-fetch.ensures.told o.0);
    })

pub returns-clause-told : goal.returns-clause-told
returns-clause-told g c =
    let q = c.args.request in
    let s = c.args.self.now in
    let passed = (checked_answer q s.span (answered tt) tt (sym c.in_ok-check_request.ensures)).0 in
    λ o. truncated_fetched _ s.span (g.met.P.Provider.sound s.below o.0) o.1 passed (c.in_ok-fetch.ensures.told o.0)
