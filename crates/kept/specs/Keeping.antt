-- Pages that are kept, in eight places. Assumes nothing.
use Rattle.std.specs.Prelude.{ℕ, Bool, true, false, if◌then◌else◌, List, map, replicate, Some, None, Option, nat_le, position, slice_index_or, slice_set}
use Rattle.std.specs.Option.{option_or}
use Rattle.names.specs.declared.name.Name.{Name}
use Rattle.names.specs.Comparing.{same_name}
use Rattle.zone.specs.declared.rows.Interval.{Interval}
use Rattle.zone.specs.declared.rows.Row.{Row}
use Rattle.zone.specs.declared.windows.Window.{Window}
use Rattle.zone.specs.Intervals.{within}
use Rattle.kept.specs.declared.places.Label.{Label}
use Rattle.kept.specs.declared.places.Place.{Place}
use Rattle.kept.specs.declared.places.Places.{Places}

-- a page that is kept: rows of a zone's table over an interval, from an edition and under a tag
pub record Kept : Type 0 where
  pub name : Name
  pub edition : ℕ
  pub tag : ℕ
  pub interval : Interval
  pub rows : List Row

-- what a window keeps under a label, or nothing
abbrev pub labelled : Option Label → Window → Option Kept
labelled None w = None
labelled (Some l) w = Some (record { name = l.name; edition = l.version.edition; tag = l.version.tag; interval = w.interval; rows = w.rows.items })

-- what a place keeps
abbrev pub kept_in : Place → Option Kept
kept_in p = labelled p.label p.window

-- what the places keep, in their order
abbrev pub kept : Places → List (Option Kept)
kept p = map kept_in p.places

-- eight places that keep nothing
abbrev pub none_kept : List (Option Kept)
none_kept = replicate 8 None

-- the label of a page that is kept
abbrev pub label_of : Kept → Label
label_of k = record { name = k.name; version = record { edition = k.edition; tag = k.tag } }

-- a page of this name is kept there
abbrev pub is_of : Name → Option Kept → Bool
is_of n None = false
is_of n (Some k) = same_name k.name n

-- nothing is kept there
abbrev pub is_free : Option Kept → Bool
is_free None = true
is_free (Some k) = false

-- the place of the name's page
abbrev pub place_of : List (Option Kept) → Name → Option ℕ
place_of ps n = position (is_of n) ps

-- what is kept at a place
abbrev pub kept_at : List (Option Kept) → Option ℕ → Option Kept
kept_at ps None = None
kept_at ps (Some j) = slice_index_or ps j None

-- what is kept of the name
abbrev pub kept_for : List (Option Kept) → Name → Option Kept
kept_for ps n = kept_at ps (place_of ps n)

-- the page, if its window contains the interval
abbrev pub if_contains : Interval → Option Kept → Option Kept
if_contains i None = None
if_contains i (Some k) = if within i k.interval then Some k else None

-- what is kept of the name over an interval
abbrev pub serving : List (Option Kept) → Name → Interval → Option Kept
serving ps n i = if_contains i (kept_for ps n)

-- where a page of the name goes: in the place of the page that is kept of it, or else in the first free one
abbrev pub place_for : List (Option Kept) → Name → Option ℕ
place_for ps n = option_or (place_of ps n) (position is_free ps)

-- the places after a page was put at a place; with no place, as they were
abbrev pub with_page : List (Option Kept) → Option ℕ → Option Kept → List (Option Kept)
with_page ps None p = ps
with_page ps (Some j) p = slice_set ps j p

-- a page of edition e may take the place of what is kept of its name: that is nothing, or no newer
abbrev pub may_replace : ℕ → Option Kept → Bool
may_replace e None = true
may_replace e (Some k) = nat_le k.edition e

-- the page, from another edition
abbrev pub from_edition : ℕ → Kept → Kept
from_edition m k = record { name = k.name; edition = m; tag = k.tag; interval = k.interval; rows = k.rows }
