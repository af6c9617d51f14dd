-- What a root holds and means. Assumes nothing.
use Rattle.std.specs.Prelude.{◌≡◌, ℕ, ◌+◌, Bool, ◌&&◌, List, [], length, vec_items, vec_len, vec_capacity, MatchBool, nat_le, nat_lt}
use Rattle.names.specs.declared.name.Name.{Name}
use Rattle.zone.specs.declared.windows.Table.{Table}
use Rattle.names.specs.Names.{is_name}
use Rattle.zone.specs.Tables.{is_era_table}
use Rattle.provider.specs.Meaning.{last_edition}
use Rattle.root.specs.declared.roots.Root.{Root}
use Rattle.root.specs.Logs.{Publication, log, add}
use Rattle.root.specs.Order.{InOrder}

-- the log of a root: the publications that it has accepted, in order
abbrev pub log_of : Root → List Publication
log_of root = log (vec_items root.entries) (vec_items root.rows)

-- an entry and so many rows are unused
abbrev pub has_room : Root → ℕ → Bool
has_room root rows = nat_lt (vec_len root.entries) root.limits.entries && nat_le (vec_len root.rows + rows) root.limits.rows

-- a publication is accepted: a valid name, a table over the era that fits, and a number for the next edition
abbrev pub accepts : Root → Name → Table → Bool
accepts root n t = is_name n.bytes && (is_era_table t.interval (vec_items t.rows) && (has_room root (length (vec_items t.rows)) && nat_lt (vec_len root.entries) last_edition))

-- a root that was just made, with storage for so many entries and rows
pub record New (entries rows : ℕ) (root : Root) : Type 0 where
  pub empty : log_of root ≡ []
  pub count : vec_len root.entries ≡ 0
  pub unused : vec_len root.rows ≡ 0
  pub most_entries : root.limits.entries ≡ entries
  pub most_rows : root.limits.rows ≡ rows
  pub order : InOrder (log_of root)

-- one publication more, in the same storage
pub record Added (before : Root) (n : Name) (t : Table) (after : Root) : Type 0 where
  pub log : log_of after ≡ add (log_of before) n (vec_items t.rows)
  pub count : vec_len after.entries ≡ vec_len before.entries + 1
  pub used : vec_len after.rows ≡ vec_len before.rows + length (vec_items t.rows)
  pub limits : after.limits ≡ before.limits
  pub entry_storage : vec_capacity after.entries ≡ vec_capacity before.entries
  pub row_storage : vec_capacity after.rows ≡ vec_capacity before.rows

-- what a publication leaves: accepted, one publication more; refused, the root as it was
abbrev pub AfterPublish : Root → Name → Table → Root → Type 0
AfterPublish before n t after = MatchBool (accepts before n t) (Added before n t after) (after ≡ before)
