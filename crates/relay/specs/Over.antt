-- What a relay means over a provider, and that it is sound. Assumes nothing.
use Rattle.std.specs.Prelude.{ℕ, ◌≤◌, Bool, true, false, if◌then◌else◌, List, Some, None, Option}
use Rattle.std.proofs.Math.Nat.{max-le}
use Rattle.zone.specs.declared.rows.Interval.{Interval}
use Rattle.zone.specs.Intervals.{within}
use Rattle.provider.specs.Meaning.{Meaning, Sound}
use Rattle.kept.specs.Keeping.{Kept, if_contains, kept_at, kept_for, place_of, serving}
use Rattle.kept.specs.Stepping.{turn_over}
use Rattle.relay.specs.Relaying.{AllFrom, KeptFrom, relay_turn}

-- what a relay means that keeps these pages
abbrev pub over : List (Option Kept) → Meaning → Meaning
over ps m = record { span = m.span; count = m.count; pages = m.pages; turn = relay_turn ps m.turn }

-- The law of a relay names lemmas of specs/ alone, so those that it rests on stand here.
-- what is kept at a place, of a name and over an interval is from the record
pub at_from : (m : Meaning) (ps : List (Option Kept)) (o : Option ℕ) → AllFrom m ps → KeptFrom m (kept_at ps o)
at_from m ps None all = tt
at_from m ps (Some j) all = all j

contains_from : (m : Meaning) (i : Interval) (o : Option Kept) → KeptFrom m o → KeptFrom m (if_contains i o)
contains_from m i None h = tt
contains_from m i (Some k) h = by (within i k.interval)
  where
    by : (b : Bool) → KeptFrom m (if b then Some k else None)
    by true = h
    by false = tt

low : (m : Meaning) (o : Option Kept) (turn : ℕ) → Sound m → KeptFrom m o → turn ≤ m.count → turn_over o turn ≤ m.count
low m None turn s h l = l
low m (Some k) turn s h l = max-le (s.paged k.edition k.name h.page h.paged).last l

pub over_sound : (m : Meaning) (ps : List (Option Kept)) → Sound m → AllFrom m ps → Sound (over ps m)
over_sound m ps s all = record {
  in_era = s.in_era;
  few = s.few;
  turns = λ n i. low m (serving ps n i) (m.turn n i) s (contains_from m i (kept_for ps n) (at_from m ps (place_of ps n) all)) (s.turns n i);
  paged = s.paged;
  one_table = s.one_table;
}
