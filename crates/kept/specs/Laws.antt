-- What is kept over fetches, in the words of the subject. Assumes nothing.
use Rattle.std.specs.Prelude.{◌≡◌, ℕ, ◌≤◌, true, List, length, Some, None, Option, Result, ◌≢◌, slice_index_or}
use Rattle.names.specs.declared.name.Name.{Name}
use Rattle.zone.specs.declared.refusals.Refusal.{Refusal}
use Rattle.zone.specs.declared.windows.Window.{Window}
use Rattle.provider.specs.declared.requests.Reply.{Reply}
use Rattle.provider.specs.declared.requests.Request.{Request}
use Rattle.kept.specs.Keeping.{Kept, is_of, kept_for, none_kept}
use Rattle.kept.specs.Stepping.{kept_after}

-- no two places keep pages of one name
abbrev pub Apart : List (Option Kept) → Type 0
Apart ps = (n : Name) (i j : ℕ) → is_of n (slice_index_or ps i None) ≡ true → is_of n (slice_index_or ps j None) ≡ true → i ≡ j

-- what was kept is still kept, from no lower edition
abbrev pub NoLower : Option Kept → Option Kept → Type 0
NoLower None after = Unit {0}
NoLower (Some k) None = ⊥
NoLower (Some k) (Some k') = k.edition ≤ k'.edition

-- what a fetch for the name n makes of the places: as many, one page a name, all other names' as they were, and its own from no lower edition
pub record KeptWell (ps ps' : List (Option Kept)) (n : Name) : Type 0 where
  pub places : length ps' ≡ length ps
  pub apart : Apart ps → Apart ps'
  pub others : (other : Name) → (other ≢ n) → kept_for ps' other ≡ kept_for ps other
  pub no_lower : NoLower (kept_for ps n) (kept_for ps' n)

-- at first no two pages have one name, and every fetch keeps well
pub record PagesStand : Type 0 where
  pub at_first : Apart none_kept
  pub stay : (ps : List (Option Kept)) (q : Request) (r : Result Reply Refusal) (w : Window) → KeptWell ps (kept_after ps q r w) q.name
