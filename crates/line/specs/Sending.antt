-- What a line means, and what it makes of a fetch. Assumes nothing.
use Rattle.std.specs.Prelude.{◌≡◌, ℕ, List, Err, Result}
use Rattle.zone.specs.declared.refusals.Refusal.{Refusal}
use Rattle.zone.specs.declared.refusals.Refusal.TheVariants.{Silent}
use Rattle.zone.specs.declared.windows.Window.{Window}
use Rattle.provider.specs.declared.requests.Reply.{Reply}
use Rattle.provider.specs.declared.requests.Request.{Request}
use Rattle.provider.specs.Fetching.{Fetched, Untouched}
use Rattle.provider.specs.Meaning.{Meaning, Keeps}
use Rattle.line.specs.declared.fates.Fate.{Fate}
use Rattle.line.specs.declared.fates.Fate.TheVariants.{Pass, LoseRequest, LoseReply}
use Rattle.line.specs.Fates.{next_fate, left_after}

-- the turn under a fate: what is lost is silence
abbrev pub turn_by : Fate → ℕ → ℕ
turn_by Pass turn = turn
turn_by LoseRequest turn = 0
turn_by LoseReply turn = 0

-- what the provider below has done under a fate: nothing where the request is lost, else what a fetch leaves
abbrev pub Asked : {S : Type 0} → Fate → (S → Request → S → Type 0) → S → Request → S → Type 0
Asked Pass after s q t = after s q t
Asked LoseRequest after s q t = t ≡ s
Asked LoseReply after s q t = after s q t

-- what the line's own window holds: what it held, unless a reply was lost in it
abbrev pub Scratched : Fate → Window → Window → Type 0
Scratched Pass before after = after ≡ before
Scratched LoseRequest before after = after ≡ before
Scratched LoseReply before after = Unit {0}

-- a fetch sent over a line: a fate is used up, and below was asked as it says
pub record Sent {S : Type 0} (after : S → Request → S → Type 0) (fates fates' : List Fate) (s s' : S) (w w' : Window) (q : Request) : Type 0 where
  pub left : fates' ≡ left_after fates
  pub below : Asked (next_fate fates) after s q s'
  pub scratch : Scratched (next_fate fates) w w'

-- what comes back, over a provider that meant m and now means m' and is in order: its answer, or silence with the lent window as it was
abbrev pub Brought : Fate → Meaning → Meaning → Type 0 → Request → Window → Window → Result Reply Refusal → Type 0
Brought Pass m m' in_order q before after r = Fetched m m' in_order q before after r
Brought LoseRequest m m' in_order q before after r = (r ≡ Err Silent) × Untouched before after
Brought LoseReply m m' in_order q before after r = (r ≡ Err Silent) × Untouched before after × in_order × Keeps m m' × (m'.count ≡ m.count)
