-- The log of publications, and the pages and tags that it gives. Assumes nothing.
use Rattle.std.specs.Prelude.{ℕ, ◌+◌, ◌&&◌, List, [], ◌∷◌, ◌++◌, map, length, take, drop, Some, None, fold, Option, if◌then◌else◌, nat_le, slice_index_or}
use Rattle.std.specs.Option.{option_map}
use Rattle.names.specs.declared.name.Name.{Name}
use Rattle.names.specs.Comparing.{same_name}
use Rattle.zone.specs.declared.rows.Row.{Row}
use Rattle.zone.specs.Comparing.{same_rows}
use Rattle.provider.specs.Meaning.{Page}
use Rattle.root.specs.declared.entries.Entry.{Entry}

-- a table that was published for a name, under a tag
pub record Publication : Type 0 where
  pub name : Name
  pub tag : ℕ
  pub rows : List Row

-- the publication that an entry stands for: its rows lie in the storage of rows
abbrev pub publication : List Row → Entry → Publication
publication storage e = record { name = e.name; tag = e.tag; rows = take e.len (drop e.start storage) }

-- the log of all publications, in order
abbrev pub log : List Entry → List Row → List Publication
log entries storage = map (publication storage) entries

-- the entry that stands where there is none
abbrev pub no_entry : Entry
no_entry = record { name = record { bytes = [] }; start = 0; len = 0; tag = 0 }

-- the publication that stands where there is none
abbrev pub nothing : Publication
nothing = record { name = record { bytes = [] }; tag = 0; rows = [] }

-- the publication at place k of the log: its number is k + 1
abbrev pub at : List Publication → ℕ → Publication
at log k = slice_index_or log k nothing

-- the next publication, if it is of the name, else the one at hand
abbrev pub newer : Name → Option Publication → Publication → Option Publication
newer n found next = (if same_name next.name n then Some next else found)

-- the latest publication of the name
abbrev pub latest : Name → List Publication → Option Publication
latest n log = fold (newer n) None log

-- the page that a publication gives
abbrev pub page : Publication → Page
page p = record { tag = p.tag; rows = p.rows }

-- the page of a name at edition e, from 1 to the count: that of the latest publication of the name among the first e
abbrev pub pages : List Publication → ℕ → Name → Option Page
pages log e n = (if nat_le 1 e && nat_le e (length log) then option_map page (latest n (take e log)) else None)

-- the tag of rows that are published under a number, after the name's publication before
abbrev pub tag_after : ℕ → List Row → Option Publication → ℕ
tag_after number rows None = number
tag_after number rows (Some p) = (if same_rows p.rows rows then p.tag else number)

-- the tag of rows that are published next: the tag before if the name has the same rows, else the publication's number
abbrev pub tag_for : List Publication → Name → List Row → ℕ
tag_for log n rows = tag_after (length log + 1) rows (latest n log)

-- the log with one publication more
abbrev pub add : List Publication → Name → List Row → List Publication
add log n rows = log ++ record { name = n; tag = tag_for log n rows; rows = rows } ∷ []
