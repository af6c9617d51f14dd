-- Each value has one text. Assumes nothing.
use Rattle.std.proofs.Common.{◌≡◌, ℕ, ◌+◌, ◌<◌, Bool, true, false, cond, ◌&&◌, eqb, List, ◌++◌, length, take, drop, ℤ, pos, negsuc, nat_abs, Some, None, codes, Option, sym, refl, ap, ◌∙◌, arith}
use lib.Signed.{lt_z, le_z}
use Rattle.std.specs.Option.{option_map, option_and_then}
use Rattle.std.specs.Str.{bytes_eq}
use Rattle.std.proofs.lemmas.Slice.Eq.{bytes_eq-Decides}
use Rattle.std.proofs.lemmas.List.{length-append, take-append-drop, take_at, drop_at}
use Rattle.std.proofs.lemmas.Int.{ints}
use Rattle.std.proofs.lemmas.Option.{cond_some, same_Some}
use Rattle.std.proofs.lemmas.Bool.{cond-true, and_from, and_parts, eq-eqb}
use Rattle.calendar.specs.declared.dates.Seconds.{Seconds}
use Rattle.calendar.specs.Calendar.{InRange}
use Rattle.fields.specs.declared.types.Offset.{Offset}
use Rattle.fields.specs.Offsets.{InDay}
use Rattle.fields.specs.Stamps.{stamp_read, stamp_text}
use Rattle.fields.proofs.Dates.{read_text, read_only}
use Rattle.fields.proofs.Shapes.{stamp_length}
use Rattle.zone.specs.declared.rows.Instant.{Instant}
use Rattle.zone.specs.Intervals.{era}
use Rattle.zone.specs.Rows.{Offset as SmallOffset}
use Rattle.zonetext.specs.Stamps.{stamp_at}
use Rattle.zonetext.specs.Values.{clocked, start_read, until_at, until_read}
use Rattle.zonetext.specs.Writing.{until_text}
use Rattle.zonetext.proofs.Counting.{stamp_back, stamp_there}

-- a value made of another
pub map_in : {X Y : Type 0} (o : Option X) (f : X → Y) (y : Y) → option_map f o ≡ Some y → (x : X) × (o ≡ Some x) × (f x ≡ y)
map_in None f y e = cc
map_in (Some x) f y e = (x, refl, same_Some (f x) y e)

pub then_in : {X Y : Type 0} (o : Option X) (f : X → Option Y) (y : Y) → option_and_then f o ≡ Some y → (x : X) × (o ≡ Some x) × (f x ≡ Some y)
then_in None f y e = cc
then_in (Some x) f y e = (x, refl, e)

-- a value under a test
pub cond_in : {Y : Type 0} (b : Bool) (o : Option Y) (y : Y) → cond b o None ≡ Some y → (b ≡ true) × (o ≡ Some y)
cond_in true o y e = (refl, e)
cond_in false o y e = cc

-- the local time of a row
pub start_only : (t : List ℕ) (s : Seconds) → start_read t ≡ Some s → t ≡ stamp_text (stamp_at s.0)
unfolding start_read
start_only t s e =
    let a = map_in (stamp_read t) clocked s e in
    let b = read_only t a.0 a.1 in
    b.1 ∙ ap stamp_text (sym (stamp_back a.0 b.0) ∙ ap (λ n. stamp_at n.0) a.2)

pub start_there : (z : ℤ) → InRange z → start_read (stamp_text (stamp_at z)) ≡ Some (record { 0 = z })
unfolding start_read
start_there z h =
    let a = stamp_there z h in
    let made : ℤ → Option Seconds = λ n. Some (record { 0 = n }) in
    ap (option_map clocked) (read_text (stamp_at z) a.0) ∙ ap made a.1

-- the end of a window
pub until_only : (t : List ℕ) (u : Instant) → until_read t ≡ Some u → (t ≡ until_text u.0) × (lt_z era.start u.0 ≡ true) × (le_z u.0 era.end ≡ true)
unfolding until_read
until_only t u e =
    let a = cond_in (eqb (length t) 16 && bytes_eq (drop 15 t) (codes "Z")) (option_and_then until_at (start_read (take 15 t))) u e in
    let b = and_parts (eqb (length t) 16) (bytes_eq (drop 15 t) (codes "Z")) a.0 in
    let d = then_in (start_read (take 15 t)) until_at u a.1 in
    let s = d.0 in
    let f = cond_some (lt_z era.start s.0 && le_z s.0 era.end) (record { 0 = s.0 }) u d.2 in
    let g = and_parts (lt_z era.start s.0) (le_z s.0 era.end) f.0 in
    let same : u.0 ≡ s.0 = ap (λ i. i.0) (sym f.1) in (
      sym (take-append-drop 15 t) ∙ (λ i. start_only (take 15 t) s d.1 i ++ (bytes_eq-Decides (drop 15 t) (codes "Z")).0 b.1 i) ∙ ap until_text (sym same),
      ap (lt_z era.start) same ∙ g.0,
      ap (λ z. le_z z era.end) same ∙ g.1,
    )

era_range : (z : ℤ) → lt_z era.start z ≡ true → le_z z era.end ≡ true → InRange z
era_range z a b = record { from_1899 = grind (arith, ints); before_2101 = grind (arith, ints) }

pub until_there : (z : ℤ) → lt_z era.start z ≡ true → le_z z era.end ≡ true → until_read (until_text z) ≡ Some (record { 0 = z })
unfolding until_read
until_there z a b =
    let d = stamp_text (stamp_at z) in
    let n : length d ≡ 15 = stamp_length (stamp_at z) in
    let l : length (d ++ codes "Z") ≡ 16 = length-append d (codes "Z") ∙ ap (λ k. k + 1) n in
    let front = take_at d (codes "Z") 15 n in
    let back = drop_at d (codes "Z") 15 n in
    cond-true _ (option_and_then until_at (start_read (take 15 (d ++ codes "Z")))) None (and_from (eqb (length (d ++ codes "Z")) 16) (bytes_eq (drop 15 (d ++ codes "Z")) (codes "Z")) (eq-eqb _ _ l) (ap (λ x. bytes_eq x (codes "Z")) back))
    ∙ ap (λ x. option_and_then until_at (start_read x)) front
    ∙ ap (option_and_then until_at) (start_there z (era_range z a b))
    ∙ cond-true _ (Some (record { 0 = z })) None (and_from (lt_z era.start z) (le_z z era.end) a b)

-- offsets below a day
pub day_small : (z : Offset) → InDay z → SmallOffset z.0
day_small z h = by z.0 h where
  by : (n : ℤ) → nat_abs n < 86400 → SmallOffset n
  by (pos n) h = (omega (arith, ints), omega (arith, ints))
  by (negsuc n) h = (omega (arith, ints), omega (arith, ints))

pub small_day : (n : ℤ) → SmallOffset n → nat_abs n < 86400
small_day (pos n) h = omega (arith, ints, h.0, h.1)
small_day (negsuc n) h = omega (arith, ints, h.0, h.1)
