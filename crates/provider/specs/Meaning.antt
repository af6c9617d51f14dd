-- What a provider of tables means at one moment. Assumes nothing.
use Rattle.std.specs.Prelude.{◌≡◌, ℕ, ◌≤◌, true, List, length, Some, Option}
use Rattle.names.specs.declared.name.Name.{Name}
use Rattle.zone.specs.declared.rows.Interval.{Interval}
use Rattle.zone.specs.declared.rows.Row.{Row}
use Rattle.zone.specs.Intervals.{era, within}
use Rattle.zone.specs.Rows.{Covers, table_rows}

-- the highest number of an edition
abbrev pub last_edition : ℕ
last_edition = 65535

-- a zone's table in an edition, under a tag: the same tag means the same table
pub record Page : Type 0 where
  pub tag : ℕ
  pub rows : List Row

-- the span is the interval that all pages cover; the count is the number of the latest edition; `pages` is the record, the
-- page of each edition and name; the turn is the edition that a fetch made now is answered from, or 0 for silence
pub record Meaning : Type 0 where
  pub span : Interval
  pub count : ℕ
  pub pages : ℕ → Name → Option Page
  pub turn : Name → Interval → ℕ

-- the ghost members of a provider, as one meaning
abbrev pub means : {S : Type 0} → (S → Interval) → (S → ℕ) → (S → ℕ → Name → Option Page) → (S → Name → Interval → ℕ) → S → Meaning
means span count pages turn s = record { span = span s; count = count s; pages = pages s; turn = turn s }

-- a page of edition e, under a provider with this span and count
pub record Paged (span : Interval) (count e : ℕ) (p : Page) : Type 0 where
  pub some : 1 ≤ e
  pub last : e ≤ count
  pub tagged : 1 ≤ p.tag
  pub tag_last : p.tag ≤ e
  pub covers : Covers span p.rows
  pub few : length p.rows ≤ table_rows

-- what the meaning of a provider in order keeps
pub record Sound (m : Meaning) : Type 0 where
  pub in_era : within m.span era ≡ true
  pub few : m.count ≤ last_edition
  pub turns : (n : Name) (i : Interval) → m.turn n i ≤ m.count
  pub paged : (e : ℕ) (n : Name) (p : Page) → m.pages e n ≡ Some p → Paged m.span m.count e p
  pub one_table : (e f : ℕ) (n : Name) (p q : Page) → m.pages e n ≡ Some p → m.pages f n ≡ Some q → p.tag ≡ q.tag → p.rows ≡ q.rows

-- what every call keeps: the span, and the record up to the count, which never falls
pub record Keeps (m m' : Meaning) : Type 0 where
  pub span : m'.span ≡ m.span
  pub grows : m.count ≤ m'.count
  pub same : (e : ℕ) (n : Name) → e ≤ m.count → m'.pages e n ≡ m.pages e n
