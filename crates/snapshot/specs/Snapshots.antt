-- What a snapshot holds and means. Assumes nothing.
use Rattle.std.specs.Prelude.{◌≡◌, ℕ, true, false, List, Some, None, Option, if◌then◌else◌, ◌==◌, MatchResult}
use Rattle.std.specs.Result.{result_ok}
use Rattle.names.specs.declared.name.Name.{Name}
use Rattle.zone.specs.declared.rows.Interval.{Interval}
use Rattle.zone.specs.Intervals.{era}
use Rattle.provider.specs.Meaning.{Page}
use Rattle.snapshot.specs.declared.snapshots.Contents.{Contents}
use Rattle.snapshot.specs.declared.snapshots.Rejected.{Rejected}
use Rattle.snapshot.specs.declared.snapshots.Snapshot.{Snapshot}
use Rattle.snapshot.specs.declared.zones.Zone.{Zone}
use Rattle.snapshot.specs.Zones.{is_good, page_of}

-- what it is that is held: its span, else the era; its edition, else 0; and at its edition the pages of its zones
abbrev pub span_held : Option Contents → Interval
span_held None = era
span_held (Some c) = c.span

abbrev pub count_held : Option Contents → ℕ
count_held None = 0
count_held (Some c) = c.edition

abbrev pub pages_held : Option Contents → ℕ → Name → Option Page
pages_held None e n = None
pages_held (Some c) e n = (if e == c.edition then page_of n c.zones.items else None)

-- the span of a good snapshot is its own, else the era
abbrev pub span_of : Snapshot → Interval
span_of s = span_held (result_ok s.contents)

-- the count and the turn of a good snapshot are its edition, else 0
abbrev pub count_of : Snapshot → ℕ
count_of s = count_held (result_ok s.contents)

-- a good snapshot has the pages of its zones at its edition, and nothing else is there
abbrev pub pages_of : Snapshot → ℕ → Name → Option Page
pages_of s = pages_held (result_ok s.contents)

-- an edition e, a span i and the zones zs, which are good, are held
pub record Holds (e : ℕ) (i : Interval) (zs : List Zone) (c : Contents) : Type 0 where
  pub good : is_good e i zs ≡ true
  pub edition : c.edition ≡ e
  pub span : c.span ≡ i
  pub zones : c.zones.items ≡ zs

-- an edition e, a span i and the zones zs, which are not good, are kept as they are
pub record Rejects (e : ℕ) (i : Interval) (zs : List Zone) (r : Rejected) : Type 0 where
  pub bad : is_good e i zs ≡ false
  pub edition : r.edition ≡ e
  pub span : r.span ≡ i
  pub zones : r.zones.items ≡ zs

-- a snapshot made of them holds them exactly where they are good, and else keeps them
abbrev pub Made : ℕ → Interval → List Zone → Snapshot → Type 0
Made e i zs s = MatchResult s.contents (Holds e i zs) (Rejects e i zs)
