-- A text as its lines, and a line as its parts. Assumes nothing.
use Rattle.std.specs.Prelude.{ℕ, if◌then◌else◌, ◌&&◌, List, [], ◌∷◌, ◌++◌, Some, None, codes, Option, ◌==◌}
use Rattle.std.specs.Str.{bytes_eq}
use Rattle.zonetext.specs.declared.lines.Line.{Line}
use Rattle.zonetext.specs.declared.lines.Line.TheVariants.{Begin, End, Property}

-- lines that end in CR LF, and then what stands after the last of them
pub data Lines : Type 0 where
  rest : List ℕ → Lines
  line : List ℕ → Lines → Lines

-- the text of the lines
abbrev pub unlines : Lines → List ℕ
unlines (rest t) = t
unlines (line l ls) = l ++ 13 ∷ 10 ∷ unlines ls

-- one more byte in front
abbrev pub glue : ℕ → Lines → Lines
glue c (rest t) = rest (c ∷ t)
glue c (line l ls) = line (c ∷ l) ls

-- a text cut at each CR LF
unfoldable pub cut : List ℕ → Lines
cut [] = rest []
cut (c ∷ []) = rest (c ∷ [])
cut (c ∷ d ∷ cs) = if c == 13 && d == 10 then line [] (cut cs) else glue c (cut (d ∷ cs))

-- a line without a colon, or the two parts about its first colon
pub data Split : Type 0 where
  whole : Split
  apart : List ℕ → List ℕ → Split

-- one more byte in front of the name
abbrev pub grow : ℕ → Split → Split
grow c whole = whole
grow c (apart n v) = apart (c ∷ n) v

-- a line parted at its first colon
unfoldable pub split : List ℕ → Split
split [] = whole
split (c ∷ cs) = if c == 58 then apart [] cs else grow c (split cs)

-- what a line says: it opens or closes a component, gives a property its value, or has no colon
pub data Said : Type 0 where
  begin : List ℕ → Said
  end : List ℕ → Said
  property : List ℕ → List ℕ → Said
  odd : Said

-- what a line with this name and this value says
abbrev pub named : List ℕ → List ℕ → Said
named n v = if bytes_eq n (codes "BEGIN") then begin v else (if bytes_eq n (codes "END") then end v else property n v)

-- what the parts of a line say
abbrev pub said_by : Split → Said
said_by whole = odd
said_by (apart n v) = named n v

-- what a line says, by its bytes
unfoldable pub said : List ℕ → Said
said l = said_by (split l)

-- what a line of the code says
abbrev pub seen : Option Line → Said
seen None = odd
seen (Some (Begin v)) = begin v.now
seen (Some (End v)) = end v.now
seen (Some (Property n v)) = property n.now v.now
