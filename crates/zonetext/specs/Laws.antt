-- Each name with a window has one text, and each text is that of one or of none. Assumes nothing.
use Rattle.std.specs.Prelude.{◌≡◌, ℕ, List, Ok, Err, Result}
use Rattle.names.specs.declared.name.Name.{Name}
use Rattle.zone.specs.declared.refusals.Refusal.{Refusal}
use Rattle.zone.specs.declared.windows.Window.{Window}
use Rattle.zone.specs.Refusals.{answered}
use Rattle.zonetext.specs.Reading.{Zone, zone_in, reading}
use Rattle.zonetext.specs.Writing.{text_of, IsZone}

-- the text reads as this name and window
abbrev pub ReadsAs : List ℕ → Zone → Type 0
ReadsAs t z = reading t ≡ answered z

-- the text is that of this name and window
abbrev pub IsTextOf : List ℕ → Zone → Type 0
IsTextOf t z = IsZone z × (t ≡ text_of z)

-- a text reads as a name and a window exactly when it is their text
abbrev pub OneText : Type 0
OneText = (t : List ℕ) (z : Zone) → (ReadsAs t z → IsTextOf t z) × (IsTextOf t z → ReadsAs t z)

-- what follows: what is written reads back, and two texts that read alike are equal
pub record TextsStand : Type 0 where
  pub one_text : OneText
  pub back : (z : Zone) → IsZone z → ReadsAs (text_of z) z
  pub alike : (t u : List ℕ) (z : Zone) → ReadsAs t z → ReadsAs u z → t ≡ u

-- what an answer says of the text: it is the text of the name and the window; and a refusal: it is no zone's text
abbrev pub Says : Result Name Refusal → List ℕ → Window → Type 0
Says (Ok n) t w = IsTextOf t (zone_in n w)
Says (Err e) t w = (z : Zone) → IsTextOf t z → ⊥
