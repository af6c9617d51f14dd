-- What the calls of a relay keep and owe. Assumes nothing.
use Rattle.std.proofs.Common.{ℕ, Bool, List, get_or, Some, None, Ok, Option, Result, sym, ◌∙◌, subst}
use Rattle.names.specs.declared.name.Name.{Name}
use Rattle.zone.specs.declared.refusals.Refusal.{Refusal}
use Rattle.zone.specs.declared.windows.Table.{Table}
use Rattle.zone.specs.declared.windows.Window.{Window}
use Rattle.provider.specs.declared.providers.Provider.{Ghosts}
use Rattle.provider.specs.declared.requests.Reply.{Reply}
use Rattle.provider.specs.declared.requests.Request.{Request}
use Rattle.provider.specs.Fetching.{Fetched}
use Rattle.provider.specs.Meaning.{Keeps, Meaning, Sound}
use Rattle.provider.specs.Publishing.{Published}
use Rattle.provider.specs.Whole.{meaning}
use Rattle.provider.proofs.Checks.{Passes}
use Rattle.provider.proofs.Held.{held_on}
use Rattle.kept.specs.Keeping.{Kept}
use Rattle.relay.specs.Relaying.{AllFrom, Answered, KeptFrom}
use Rattle.relay.specs.Over.{over}
use Rattle.relay.proofs.Served.{answer_told}
use Rattle.relay.proofs.Staying.{kept_stays}

-- a relay keeps what the provider below keeps
pub over_keeps : (m m' : Meaning) (ps ps' : List (Option Kept)) → Keeps m m' → Keeps (over ps m) (over ps' m')
over_keeps m m' ps ps' k = record { span = k.span; grows = k.grows; same = k.same }

-- what was from the record is from it after a call
kept_on : (m m' : Meaning) (o : Option Kept) → Sound m → Keeps m m' → KeptFrom m o → KeptFrom m' o
kept_on m m' None s k h = tt
kept_on m m' (Some x) s k h = held_on m m' x.name x.edition x.tag x.interval x.rows s k h

pub all_on : (m m' : Meaning) (ps : List (Option Kept)) → Sound m → Keeps m m' → AllFrom m ps → AllFrom m' ps
all_on m m' ps s k all j = kept_on m m' (get_or ps j None) s k (all j)

-- a fetch that passes the checks
pub relayed_fetch : {S : Type 0} (g : Ghosts S) (ps ps' : List (Option Kept)) (s s' : S) (q : Request) (before after : Window) (r : Result Reply Refusal) → Sound (meaning g s) → Passes q (g.span s) → g.in_order s → AllFrom (meaning g s) ps → Answered g ps ps' s s' q before after r → Fetched (over ps (meaning g s)) (over ps' (meaning g s')) (g.in_order s' × AllFrom (meaning g s') ps') q before after r
relayed_fetch g ps ps' s s' q before after r sound pass o all a =
    let x = a.relayed in
    let f = x.told o in
    let stays = kept_stays (meaning g s) sound ps all q pass x.reply x.window x.lent f.told f.leaves in
    record {
      order = (f.order, subst (AllFrom (meaning g s')) (sym x.kept) (all_on (meaning g s) (meaning g s') _ sound f.keeps stays));
      keeps = over_keeps (meaning g s) (meaning g s') ps ps' f.keeps;
      count = f.count;
      told = a.answer ∙ answer_told (meaning g s) sound ps all q pass x.reply x.window x.lent f.told f.leaves;
      leaves = a.leaves;
    }

-- a publication that is accepted below
pub relayed_published : {S R : Type 0} {m m' : Meaning} {o : Type 0} {fits : ℕ → Bool} {n : Name} {t : Table} {s s' : S} {e : ℕ} (ps : List (Option Kept)) → Sound m → AllFrom m ps → Published m m' o fits n t s s' (Ok e) → {x y : R} → Published (over ps m) (over ps m') (o × AllFrom m' ps) fits n t x y (Ok e)
relayed_published {S} {R} {m} {m'} ps sound all p =
    let b = p.brings in
    record {
      order = (p.order, all_on m m' ps sound b.keeps all);
      told = p.told;
      brings = record { keeps = over_keeps m m' ps ps b.keeps; count = b.count; page = b.page; others = b.others };
    }
