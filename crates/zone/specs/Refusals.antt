-- The number of each refusal, and the values that it returns besides. Assumes nothing.
use Rattle.std.specs.Prelude.{ℕ, List, [], ◌∷◌, ◌++◌, Ok, Err, Result, codes}
use Rattle.std.specs.Fmt.{decimal}
use Rattle.zone.specs.declared.refusals.Refusal.{Refusal}
use Rattle.zone.specs.declared.refusals.Refusal.TheVariants.{BadName, BadInterval, OutsideSpan, Silent, NoPage, TooManyRows, BelowFloor, AlreadyPending, NoFreeSlot, NotPending, NotHeld, OutsideWindow, NotATable, DoesNotFit, BadText, BufferTooShort}

abbrev pub number : Refusal → ℕ
number BadName = 1
number BadInterval = 2
number OutsideSpan = 3
number Silent = 4
number (NoPage e) = 5
number (TooManyRows e) = 6
number (BelowFloor e) = 7
number AlreadyPending = 8
number NoFreeSlot = 9
number NotPending = 10
number NotHeld = 11
number OutsideWindow = 12
number NotATable = 13
number DoesNotFit = 14
number (BadText o) = 15
number BufferTooShort = 16

-- the edition of 5, 6 and 7, and the byte offset of 15
abbrev pub values : Refusal → List ℕ
values BadName = []
values BadInterval = []
values OutsideSpan = []
values Silent = []
values (NoPage e) = e ∷ []
values (TooManyRows e) = e ∷ []
values (BelowFloor e) = e ∷ []
values AlreadyPending = []
values NoFreeSlot = []
values NotPending = []
values NotHeld = []
values OutsideWindow = []
values NotATable = []
values DoesNotFit = []
values (BadText o) = o ∷ []
values BufferTooShort = []

-- what stands behind the number in the text of a refusal: the edition of 5, 6 and 7, and the byte offset of 15
abbrev pub values_text : Refusal → List ℕ
values_text (NoPage e) = codes " edition " ++ decimal e
values_text (TooManyRows e) = codes " edition " ++ decimal e
values_text (BelowFloor e) = codes " edition " ++ decimal e
values_text (BadText o) = codes " " ++ decimal o
values_text _ = []

-- the text of a refusal, as `refused 4`, `refused 5 edition 7` or `refused 15 12`
abbrev pub refusal_text : Refusal → List ℕ
refusal_text refusal = codes "refused " ++ decimal (number refusal) ++ values_text refusal

-- what a call comes to: its answer, or a refusal by number and values
pub data Outcome (X : Type 0) : Type 0 where
  answered : X → Outcome X
  refused : ℕ → List ℕ → Outcome X

abbrev pub outcome : {X : Type 0} → Result X Refusal → Outcome X
outcome (Ok x) = answered x
outcome (Err e) = refused (number e) (values e)
