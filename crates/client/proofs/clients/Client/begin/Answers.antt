use Rattle.std.proofs.Common.{◌≡◌, ℕ, List, sym, refl, ap, ◌∙◌, subst}
use Rattle.std.proofs.lemmas.Result.{err_from_is_err_and}
use Rattle.zone.specs.declared.rows.Interval.{Interval}
use Rattle.zone.specs.Refusals.{Outcome, answered, refused}
use Rattle.provider.specs.declared.requests.Request.{Request}
use Rattle.provider.specs.Fetching.{checked}
use Rattle.provider.specs.Whole.{meaning}
use Rattle.provider.proofs.Checks.{checked_answer, checked_next, checked_refused}
use Rattle.history.specs.Cells.{State, place_of}
use Rattle.history.specs.Steps.{Report, Step, declined, settled, begun}
use Rattle.slots.specs.Seeing.{state_of}
use Rattle.client.specs.Following.{state_in}
use Rattle.slots.specs.Told.{ComesTo}
use Rattle.client.proofs.Ordered.{ordered, begin_agrees}
use Rattle.client.proofs.clients.Client.begin.Goals as goal

-- a check's refusal is the client's
declines : (s : State) (q : Request) (told span : Interval) (next : Outcome Step) (n : ℕ) (vs : List ℕ) → told ≡ span → ◌≡◌ {A = Outcome (Unit {0})} (refused n vs) (checked q told (answered tt)) → ComesTo (settled s (checked q span next)) (declined n vs) s
declines s q told span next n vs t h = ap (settled s) (sym (checked_refused q span next n vs (subst (λ (x : Interval). ◌≡◌ {A = Outcome (Unit {0})} (refused n vs) (checked q x (answered tt))) t h)))

-- what passes the checks goes on
passes : (s s' : State) (q : Request) (told span : Interval) (next : Outcome Step) (r : Report) → told ≡ span → ◌≡◌ {A = Outcome (Unit {0})} (answered tt) (checked q told (answered tt)) → ComesTo (settled s next) r s' → ComesTo (settled s (checked q span next)) r s'
passes s s' q told span next r t h c =
    let p = checked_answer {X = Unit {0}} q span (answered tt) tt (sym (subst (λ (x : Interval). ◌≡◌ {A = Outcome (Unit {0})} (answered tt) (checked q x (answered tt))) t h)) in
    ap (settled s) (checked_next q span next p.0) ∙ c

pub returns-in_err-check : goal.returns-in_err-check
returns-in_err-check g c =
    let p = err_from_is_err_and c.from_residual.result c.from_residual.ensures.1 in
    let self = c.args.self.now in
    let m = meaning g.P.Provider self.provider in
    let s = state_in self in
    let t = declines s (record { name = c.args.name; interval = c.args.interval; known = 0 }) c.span.result m.span (begun s c.args.name c.args.interval (place_of s c.args.name)) _ _ c.span.ensures c.in_err-check.ensures in
    rw (p.1, p.2) (record { told = t; unspent = tt; within = tt; provider = refl; order = ordered g.P.Provider self.provider self.provider s s _ _ (begin_agrees m s c.args.name c.args.interval) t refl })

pub returns-in_err-slot : goal.returns-in_err-slot
returns-in_err-slot g c =
    let p = err_from_is_err_and c.from_residual-in_err-slot.result c.from_residual-in_err-slot.ensures.1 in
    let self = c.args.self.now in
    let m = meaning g.P.Provider self.provider in
    let s = state_in self in
    let s' = state_of c.begin.new.self in
    let t = passes s s' (record { name = c.args.name; interval = c.args.interval; known = 0 }) c.span.result m.span (begun s c.args.name c.args.interval (place_of s c.args.name)) _ c.span.ensures c.in_ok-check.ensures (c.in_err-slot.ensures.told) in
    rw (p.1, p.2) (record { told = t; unspent = tt; within = tt; provider = refl; order = ordered g.P.Provider self.provider self.provider s s' _ _ (begin_agrees m s c.args.name c.args.interval) t refl })

pub returns : goal.returns
returns g c =
    let self = c.args.self.now in
    let m = meaning g.P.Provider self.provider in
    let s = state_in self in
    let s' = state_of c.begin.new.self in
    let t = passes s s' (record { name = c.args.name; interval = c.args.interval; known = 0 }) c.span.result m.span (begun s c.args.name c.args.interval (place_of s c.args.name)) _ c.span.ensures c.in_ok-check.ensures (c.in_ok-slot.ensures.told) in
    record { told = t; unspent = refl; within = c.in_ok-slot.ensures.within; provider = refl; order = ordered g.P.Provider self.provider self.provider s s' _ _ (begin_agrees m s c.args.name c.args.interval) t refl }
