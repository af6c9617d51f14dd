-- The laws of the texts, and worked examples.
use Rattle.std.specs.Prelude.{◌≡◌, ℕ, ◌%◌, ◌<◌, ◌⊎◌, List, length, pos, negsuc, Some, None, codes, ◌≢◌, unsigned_abs}
use Rattle.std.specs.List.{AllByRecursion}
use Rattle.calendar.specs.declared.dates.Stamp.{Stamp}
use Rattle.calendar.specs.Calendar.{Valid}
use Rattle.calendar.specs.Laws.{at_hour}
use Rattle.fields.specs.declared.types.Offset.{Offset}
use Rattle.fields.specs.Offsets.{offset, InDay, printed, parsed}
use Rattle.fields.specs.Stamps.{stamp_text, stamp_read}

-- a printable ASCII byte, so neither CR nor LF, and no space and no colon
pub record FieldByte (b : ℕ) : Type 0 where
  pub above : 32 < b
  pub below : b < 127
  pub no_colon : b ≡ 58 → ⊥

-- an offset's text is five bytes where its seconds are 00, else seven
pub record OffsetLength (z : Offset) : Type 0 where
  pub short : unsigned_abs z.0 % 60 ≡ 0 → length (printed z) ≡ 5
  pub long : (unsigned_abs z.0 % 60 ≢ 0) → length (printed z) ≡ 7
  pub either : (length (printed z) ≡ 5) ⊎ (length (printed z) ≡ 7)

-- each offset in range and each valid stamp has one text, of some length and of plain bytes
pub record FieldsLaws : Type 0 where
  pub offset_back : (z : Offset) → InDay z → parsed (printed z) ≡ Some z
  pub offset_only : (t : List ℕ) (z : Offset) → parsed t ≡ Some z → InDay z × (t ≡ printed z)
  pub offset_length : (z : Offset) → OffsetLength z
  pub offset_bytes : (z : Offset) → InDay z → AllByRecursion FieldByte (printed z)
  pub stamp_back : (d : Stamp) → Valid d → stamp_read (stamp_text d) ≡ Some d
  pub stamp_only : (t : List ℕ) (d : Stamp) → stamp_read t ≡ Some d → Valid d × (t ≡ stamp_text d)
  pub stamp_length : (d : Stamp) → length (stamp_text d) ≡ 15
  pub stamp_bytes : (d : Stamp) → Valid d → AllByRecursion FieldByte (stamp_text d)

-- known texts and what they say
pub record Worked : Type 0 where
  pub with_seconds : printed (offset (pos 1172)) ≡ codes "+001932"
  pub with_seconds_read : parsed (codes "+001932") ≡ Some (offset (pos 1172))
  pub west : printed (offset (negsuc 3599)) ≡ codes "-0100"
  pub west_read : parsed (codes "-0100") ≡ Some (offset (negsuc 3599))
  pub east : printed (offset (pos 3600)) ≡ codes "+0100"
  pub east_read : parsed (codes "+0100") ≡ Some (offset (pos 3600))
  pub no_minus_zero : parsed (codes "-0000") ≡ None
  pub no_seconds_zero : parsed (codes "+000000") ≡ None
  pub spring : stamp_text (at_hour 2024 3 31 2) ≡ codes "20240331T020000"
  pub spring_read : stamp_read (codes "20240331T020000") ≡ Some (at_hour 2024 3 31 2)
  pub no_leap_day : stamp_read (codes "19000229T000000") ≡ None
