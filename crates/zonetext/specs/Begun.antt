-- The row that a reader is inside of. Assumes nothing.
use Rattle.std.specs.Prelude.{ℕ}
use Rattle.zonetext.specs.declared.places.Place.{Place}
use Rattle.zonetext.specs.declared.places.Place.TheVariants.{Before, Head, Named, Between, Inside, After}

-- how many rows are begun and not yet read, by the place: one inside a row
abbrev pub begun : Place → ℕ
begun Before = 0
begun Head = 0
begun Named = 0
begun Between = 0
begun (Inside o q) = 1
begun After = 0
