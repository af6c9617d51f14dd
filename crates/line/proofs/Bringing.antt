-- A fetch that passes the checks. Assumes nothing.
use Rattle.std.proofs.Common.{[], Result, sym, ap, subst}
use Rattle.zone.specs.declared.refusals.Refusal.{Refusal}
use Rattle.zone.specs.declared.windows.Window.{Window}
use Rattle.zone.specs.Refusals.{refused}
use Rattle.provider.specs.declared.providers.Provider.{Ghosts}
use Rattle.provider.specs.declared.requests.Reply.{Reply}
use Rattle.provider.specs.declared.requests.Request.{Request}
use Rattle.provider.specs.Fetching.{Fetched}
use Rattle.provider.specs.Meaning.{Keeps}
use Rattle.provider.specs.Whole.{meaning}
use Rattle.provider.proofs.Checks.{Passes, checked_next}
use Rattle.provider.proofs.Layers.{keeps_all, silence}
use Rattle.line.specs.declared.fates.Fate.{Fate}
use Rattle.line.specs.declared.fates.Fate.TheVariants.{Pass, LoseRequest, LoseReply}
use Rattle.line.specs.Lined.{lined}
use Rattle.line.specs.Sending.{Asked, Brought}

-- a fetch that passes the checks comes to what the fate brings
pub lined_brought : {S : Type 0} (g : Ghosts S) (f f' : Fate) (s s' : S) (q : Request) (before after : Window) (r : Result Reply Refusal) → Passes q (g.span s) → g.in_order s → Asked f g.after_fetch s q s' → Brought f (meaning g s) (meaning g s') (g.in_order s') q before after r → Fetched (lined f (meaning g s)) (lined f' (meaning g s')) (g.in_order s') q before after r
lined_brought g Pass f' s s' q before after r p o a b = record {
  order = b.order;
  keeps = record { span = b.keeps.span; grows = b.keeps.grows; same = b.keeps.same };
  count = b.count;
  told = b.told;
  leaves = b.leaves;
}
lined_brought {S} g LoseRequest f' s s' q before after r p o a b =
    let k : Keeps (meaning g s) (meaning g s') = subst (λ (x : S). Keeps (meaning g s) (meaning g x)) (sym a) (keeps_all (meaning g s)) in
    silence (lined LoseRequest (meaning g s)) (lined f' (meaning g s')) (g.in_order s') q before after r (checked_next q (g.span s) (refused 4 []) p) b.0 b.1 (subst g.in_order (sym a) o) (record { span = k.span; grows = k.grows; same = k.same }) (ap g.count a)
lined_brought g LoseReply f' s s' q before after r p o a b =
    let k = b.3 in
    silence (lined LoseReply (meaning g s)) (lined f' (meaning g s')) (g.in_order s') q before after r (checked_next q (g.span s) (refused 4 []) p) b.0 b.1 b.2 (record { span = k.span; grows = k.grows; same = k.same }) b.4
