use Rattle.std.proofs.Common.{◌≡◌, Err, sym, refl, subst}
use Rattle.std.proofs.lemmas.Result.{err_from_is_err_and}
use Rattle.zone.specs.declared.rows.Interval.{Interval}
use Rattle.zone.specs.Refusals.{Outcome, answered, number, outcome, values}
use Rattle.provider.specs.Fetching.{checked, passes}
use Rattle.provider.proofs.Checks.{checked_answer}
use Rattle.provider.proofs.Layers.{passes_no, refused_fetch, when_no}
use Rattle.kept.specs.Keeping.{kept}
use Rattle.relay.specs.Relaying.{Relayed}
use Rattle.relay.proofs.Calls.{relayed_fetch}
use Rattle.relay.proofs.relays.RelayProvider.fetch.Goals as goal

pub returns-in_err-check-clause-after : goal.returns-in_err-check-clause-after
returns-in_err-check-clause-after g c =
    let q = c.args.request in
    let s = c.args.self.now in
    let span = g.P.Provider.span s.below in
    let e = c.in_err-check.field-0.0 in
    let h = subst (λ (i : Interval). ◌≡◌ {A = Outcome (Unit {0})} (outcome (Err e)) (checked q i (answered tt))) c.span.ensures c.in_err-check.ensures in
    when_no (Relayed g.P.Provider (kept s.places) (kept s.places) s.below s.below q) (s ≡ s) (passes q span) (passes_no q span (number e) (values e) h) refl

pub returns-in_err-check-clause-told : goal.returns-in_err-check-clause-told
returns-in_err-check-clause-told g c =
    let q = c.args.request in
    let span = g.P.Provider.span c.args.self.now.below in
    let e = c.in_err-check.field-0.0 in
    let h = subst (λ (i : Interval). ◌≡◌ {A = Outcome (Unit {0})} (outcome (Err e)) (checked q i (answered tt))) c.span.ensures c.in_err-check.ensures in
    let p = err_from_is_err_and c.from_residual.result c.from_residual.ensures.1 in
    rw (p.1, p.2) (λ o. refused_fetch _ _ q c.args.place.now e o h)

pub returns-clause-told : goal.returns-clause-told
returns-clause-told g c =
    let q = c.args.request in
    let s = c.args.self.now in
    let s' = c.ask.new.self in
    let span = g.P.Provider.span s.below in
    let h = subst (λ (i : Interval). ◌≡◌ {A = Outcome (Unit {0})} (answered tt) (checked q i (answered tt))) c.span.ensures c.in_ok-check.ensures in
    let passed = (checked_answer q span (answered tt) tt (sym h)).0 in
    λ o. relayed_fetch g.P.Provider (kept s.places) (kept s'.places) s.below s'.below q c.args.place.now c.ask.new.place c.ask.result (g.met.P.Provider.sound s.below o.0) passed o.0 o.1 c.ask.ensures
