-- What a relay means, and what it makes of a fetch. Assumes nothing.
use Rattle.std.specs.Prelude.{◌≡◌, ℕ, List, Some, None, Option, Result, slice_index_or}
use Rattle.names.specs.declared.name.Name.{Name}
use Rattle.zone.specs.declared.refusals.Refusal.{Refusal}
use Rattle.zone.specs.declared.rows.Interval.{Interval}
use Rattle.zone.specs.declared.windows.Window.{Window}
use Rattle.provider.specs.declared.providers.Provider.{Ghosts}
use Rattle.provider.specs.declared.requests.Reply.{Reply}
use Rattle.provider.specs.declared.requests.Request.{Request}
use Rattle.provider.specs.Fetching.{Fetched, judged, Leaves}
use Rattle.provider.specs.Holding.{FromPage}
use Rattle.provider.specs.Meaning.{Meaning}
use Rattle.provider.specs.Whole.{meaning}
use Rattle.kept.specs.Keeping.{Kept, serving}
use Rattle.kept.specs.Stepping.{answer_after, kept_after, sent, turn_over}

-- the turn: that below, or the edition of the page that is kept over the interval, if that is larger
abbrev pub relay_turn : List (Option Kept) → (Name → Interval → ℕ) → Name → Interval → ℕ
relay_turn ps turn n i = turn_over (serving ps n i) (turn n i)

-- what is kept at a place is from the record
abbrev pub KeptFrom : Meaning → Option Kept → Type 0
KeptFrom m None = Unit {0}
KeptFrom m (Some k) = FromPage m k.name k.edition k.tag k.interval k.rows

-- what is kept at each place is
abbrev pub AllFrom : Meaning → List (Option Kept) → Type 0
AllFrom m ps = (j : ℕ) → KeptFrom m (slice_index_or ps j None)

-- a fetch that passed the checks: below was asked, lent a window, replied and left something in that; the pages kept
-- afterwards follow from that, and in order it is what a fetch made of below comes to
pub record Relayed {S : Type 0} (g : Ghosts S) (ps ps' : List (Option Kept)) (s s' : S) (q : Request) : Type 0 where
  pub reply : Result Reply Refusal
  pub lent : Window
  pub window : Window
  pub below : g.after_fetch s (sent ps q) s'
  pub told : g.in_order s → Fetched (meaning g s) (meaning g s') (g.in_order s') (sent ps q) lent window reply
  pub kept : ps' ≡ kept_after ps q reply window

-- the same with the answer to it
pub record Answered {S : Type 0} (g : Ghosts S) (ps ps' : List (Option Kept)) (s s' : S) (q : Request) (before after : Window) (r : Result Reply Refusal) : Type 0 where
  pub relayed : Relayed g ps ps' s s' q
  pub answer : judged r after ≡ answer_after ps q relayed.reply relayed.window
  pub leaves : Leaves r q.interval before after
