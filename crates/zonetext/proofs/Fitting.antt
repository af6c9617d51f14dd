-- The rows of a window have texts, and so has its end. Assumes nothing.
use Rattle.std.proofs.Common.{◌≡◌, ℕ, true, ◌&&◌, List, ℤ, ◌+ℤ◌, ◌≤ℤ◌, ◌<ℤ◌, arith}
use lib.Signed.{lt_z, le_z}
use Rattle.std.specs.List.{AllByRecursion as All}
use Rattle.std.proofs.ByRecursion.{All-from_get_or}
use Rattle.std.proofs.lemmas.Int.{ints}
use Rattle.std.proofs.lemmas.Bool.{and_parts}
use Rattle.calendar.specs.Calendar.{InRange}
use Rattle.zone.specs.declared.rows.Interval.{Interval}
use Rattle.zone.specs.declared.rows.Row.{Row}
use Rattle.zone.specs.Intervals.{era, within}
use Rattle.zone.specs.Rows.{at, no_row, Offset, Sound}
use Rattle.zonetext.specs.Writing.{Writable}
use Rattle.zonetext.proofs.Keeping.{sound_kept, le_yes, lt_yes, yes_lt}
use Rattle.zonetext.proofs.Valued.{small_day}

-- the interval of a window ends in the era, after its start
in_era_parts : (i : Interval) → within i era ≡ true → (era.start ≤ℤ i.start) × (i.start <ℤ i.end) × (i.end ≤ℤ era.end)
in_era_parts i h =
    let a = and_parts (le_z era.start i.start) (lt_z i.start i.end && le_z i.end era.end) h in
    let b = and_parts (lt_z i.start i.end) (le_z i.end era.end) a.1 in
    (le_yes era.start i.start a.0, lt_yes i.start i.end b.0, le_yes i.end era.end b.1)

pub ends_late : (i : Interval) → within i era ≡ true → lt_z era.start i.end ≡ true
ends_late i h = let p = in_era_parts i h in yes_lt era.start i.end (omega (arith, ints, p.0, p.1))

pub ends_early : (i : Interval) → within i era ≡ true → le_z i.end era.end ≡ true
ends_early i h = (and_parts (lt_z i.start i.end) (le_z i.end era.end) (and_parts (le_z era.start i.start) (lt_z i.start i.end && le_z i.end era.end) h).1).1

pub end_range : (i : Interval) → within i era ≡ true → InRange i.end
end_range i h = let p = in_era_parts i h in record { from_1899 = omega (arith, ints, p.0, p.1); before_2101 = omega (arith, ints, p.2) }

-- an onset of the era in local time
local_range : (a b : ℤ) → era.start ≤ℤ a → a <ℤ era.end → Offset b → InRange (a +ℤ b)
local_range a b l r o = record { from_1899 = omega (arith, ints, o.0, o.1); before_2101 = omega (arith, ints, o.0, o.1) }

pub rows_writable : (n : ℕ) (i : Interval) (rs : List Row) → Sound n i rs → All Writable rs
rows_writable n i rs s =
    let k = sound_kept n i rs s in
    let p = in_era_parts i s.in_era in
    All-from_get_or Writable rs no_row (λ j l.
    let a = k.from_start j l in
    let b = k.before_end j l in
    let e : (at rs j).onset <ℤ era.end = omega (arith, ints, p.2) in
    let o = k.small j l in
    record { local = local_range (at rs j).onset (at rs j).from a e o.0; from_day = small_day (at rs j).from o.0; to_day = small_day (at rs j).to o.1 })
