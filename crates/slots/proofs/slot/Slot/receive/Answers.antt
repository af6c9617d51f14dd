use Rattle.std.proofs.Common.{◌≡◌, ℕ, false, Ok, Result, nat_lt, set, sym, ap, ◌∙◌, subst, rules, arith}
use Rattle.std.proofs.lemmas.Bool.Decides.{nat_tests}
use Rattle.std.specs.Option.{ok_or}
use Rattle.zone.specs.declared.refusals.Refusal.{Refusal}
use Rattle.zone.specs.declared.refusals.Refusal.TheVariants.{Silent}
use Rattle.provider.specs.declared.requests.Reply.{Reply}
use Rattle.provider.specs.declared.requests.Reply.TheVariants.{Unchanged}
use Rattle.slots.specs.Seeing.{cell_of}
use Rattle.slots.specs.Taking.{received, taken_report}
use Rattle.slots.specs.Told.{ComesTo}
use Rattle.slots.specs.Turning.{floor_by}
use Rattle.slots.proofs.Renewing.{unchanged}
use Rattle.slots.proofs.slot.Slot.receive.Goals as goal

pub returns-in-Ok-Unchanged-2 : goal.returns-in-Ok-Unchanged-2
returns-in-Ok-Unchanged-2 c s k floor there =
    let i = c.args.interval in
    let w = c.args.spare.now in
    let e = c.in-Ok-Unchanged-2.edition in
    let new = cell_of c.renew.new.self in
    let reply : c.args.reply ≡ Ok (Unchanged e) = search rules in
    let above : nat_lt e s.floor ≡ false = ap (nat_lt e) floor ∙ grind (arith, nat_tests) in
    let did = unchanged s k e i w new (cell_of c.args.self.now) c.renew.result there (sym c.if-not-is_pending.ensures) above c.renew.ensures.told c.renew.ensures.after in
    let comes : ℕ → Result ℕ Refusal → Result Reply Refusal → Type 0 = λ f r x. ComesTo (received s k i x w) (taken_report r k i) (record { cells = set s.cells k new; floor = floor_by r f }) in
    subst (λ x. comes c.args.floor c.ok_or.result x) (sym reply) (subst (λ r. comes c.args.floor r (Ok (Unchanged e))) (sym c.ok_or.ensures.value) (subst (λ f. comes f (ok_or c.renew.result Silent) (Ok (Unchanged e))) floor did))
