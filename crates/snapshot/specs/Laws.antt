-- What a good snapshot is and has, in the words of the subject. Assumes nothing.
use Rattle.std.specs.Prelude.{◌≡◌, ℕ, ◌+◌, ◌<◌, ◌≤◌, true, List, length, Some, None, Decides, ◌≢◌, slice_index_or}
use Rattle.names.specs.declared.name.Name.{Name}
use Rattle.zone.specs.declared.rows.Interval.{Interval}
use Rattle.names.specs.Comparing.{before}
use Rattle.zone.specs.Intervals.{era, within}
use Rattle.names.specs.Names.{is_name}
use Rattle.snapshot.specs.declared.zones.Zone.{Zone}
use Rattle.snapshot.specs.Zones.{is_good, most_zones, page, page_of}

-- what the zones of a good snapshot keep, place by place (d stands past the end)
pub record Good (edition : ℕ) (span : Interval) (zones : List Zone) : Type 0 where
  pub some : 1 ≤ edition
  pub in_era : within span era ≡ true
  pub few : (1 ≤ length zones) × (length zones ≤ most_zones)
  pub names : (k : ℕ) (d : Zone) → k < length zones → is_name (slice_index_or zones k d).name.bytes ≡ true
  pub tags : (k : ℕ) (d : Zone) → k < length zones → (1 ≤ (slice_index_or zones k d).tag) × ((slice_index_or zones k d).tag ≤ edition)
  pub windows : (k : ℕ) (d : Zone) → k < length zones → (slice_index_or zones k d).window.interval ≡ span
  pub order : (k : ℕ) (d : Zone) → k + 1 < length zones → before (slice_index_or zones k d).name.bytes (slice_index_or zones (k + 1) d).name.bytes ≡ true

-- the test tells a good snapshot; each of its zones has its page, and no other name has one
pub record SnapshotsStand : Type 0 where
  pub good : (edition : ℕ) (span : Interval) (zones : List Zone) → Decides (is_good edition span zones) (Good edition span zones)
  pub held : (edition : ℕ) (span : Interval) (zones : List Zone) → Good edition span zones → (k : ℕ) (d : Zone) → k < length zones → page_of (slice_index_or zones k d).name zones ≡ Some (page (slice_index_or zones k d))
  pub others : (zones : List Zone) (n : Name) → ((k : ℕ) (d : Zone) → k < length zones → (slice_index_or zones k d).name ≢ n) → page_of n zones ≡ None
