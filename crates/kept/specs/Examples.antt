-- Worked examples: a page of edition 5 that is kept, and eight pages. Assumes nothing.
use Rattle.std.specs.Prelude.{◌≡◌, ℕ, List, [], ◌∷◌, pos, Some, None, Ok, Err, Option, slice_set}
use Rattle.names.specs.declared.name.Name.{Name}
use Rattle.zone.specs.declared.refusals.Refusal.TheVariants.{Silent, NoPage, TooManyRows}
use Rattle.zone.specs.declared.rows.Interval.{Interval}
use Rattle.zone.specs.declared.windows.Window.{Window}
use Rattle.provider.specs.declared.requests.Reply.TheVariants.{Unchanged, Fresh}
use Rattle.provider.specs.declared.requests.Request.{Request}
use Rattle.kept.specs.declared.steps.Step.TheVariants.{PassOn, Serve, Renew, Take}
use Rattle.kept.specs.Keeping.{Kept, from_edition, none_kept}
use Rattle.kept.specs.Stepping.{kept_after, page_in, sent, step, turn_over}

-- a name of one letter
abbrev pub letter : ℕ → Name
letter code = record { bytes = code ∷ [] }

abbrev pub interval : ℕ → ℕ → Interval
interval start end = record { start = pos start; end = pos end }

-- a page of edition 5 under tag 2, over the instants from 0 to 99
abbrev pub page : ℕ → Kept
page code = record { name = letter code; edition = 5; tag = 2; interval = interval 0 100; rows = [] }

-- a request for a letter's page over an interval, by one who knows tag 1
abbrev pub asking : ℕ → Interval → Request
asking code i = record { name = letter code; interval = i; known = 1 }

-- pages of eight names, a to h
abbrev pub eight : List (Option Kept)
eight = Some (page 97) ∷ Some (page 98) ∷ Some (page 99) ∷ Some (page 100) ∷ Some (page 101) ∷ Some (page 102) ∷ Some (page 103) ∷ Some (page 104) ∷ []

-- the steps over a page that is kept, and what eight pages and none become
pub record Worked : Type 0 where
  pub silence : step (Some (page 97)) (Err Silent) ≡ Serve 5
  pub older_refusal : step (Some (page 97)) (Err (NoPage 4)) ≡ Serve 5
  pub newer_refusal : step (Some (page 97)) (Err (TooManyRows 5)) ≡ PassOn
  pub still_good : step (Some (page 97)) (Ok (Unchanged 7)) ≡ Renew 7
  pub good_before : step (Some (page 97)) (Ok (Unchanged 3)) ≡ Renew 5
  pub older_page : step (Some (page 97)) (Ok (Fresh 4 3)) ≡ Serve 5
  pub newer_page : step (Some (page 97)) (Ok (Fresh 6 3)) ≡ Take 6 3
  pub callers_tag : step None (Ok (Unchanged 7)) ≡ PassOn
  pub kept_tag : (sent eight (asking 98 (interval 0 50))).known ≡ 2
  pub own_tag : (sent eight (asking 98 (interval 50 150))).known ≡ 1
  pub turn : turn_over (Some (page 97)) 3 ≡ 5
  pub raised : (w : Window) → kept_after eight (asking 98 (interval 0 50)) (Ok (Unchanged 7)) w ≡ slice_set eight 1 (Some (from_edition 7 (page 98)))
  pub not_raised : (w : Window) → kept_after eight (asking 98 (interval 50 150)) (Ok (Unchanged 7)) w ≡ eight
  pub replaced : (w : Window) → kept_after eight (asking 98 (interval 50 150)) (Ok (Fresh 6 3)) w ≡ slice_set eight 1 (Some (page_in (asking 98 (interval 50 150)) 6 3 w))
  pub not_replaced : (w : Window) → kept_after eight (asking 98 (interval 50 150)) (Ok (Fresh 4 3)) w ≡ eight
  pub ninth : (w : Window) → kept_after eight (asking 105 (interval 0 50)) (Ok (Fresh 6 3)) w ≡ eight
  pub first : (w : Window) → kept_after none_kept (asking 98 (interval 0 50)) (Ok (Fresh 6 3)) w ≡ slice_set none_kept 0 (Some (page_in (asking 98 (interval 0 50)) 6 3 w))
