-- A worked example of a log. Assumes nothing.
use Rattle.std.specs.Prelude.{◌≡◌, ℕ, List, [], Some, None, Option, ◌≢◌}
use Rattle.names.specs.declared.name.Name.{Name}
use Rattle.zone.specs.declared.rows.Row.{Row}
use Rattle.provider.specs.Meaning.{Page}
use Rattle.root.specs.Logs.{Publication, add, pages}

-- the rows t published for a, u for b, t for a, and u for a
abbrev pub four : Name → Name → List Row → List Row → List Publication
four a b t u = add (add (add (add [] a t) b u) a t) a u

-- some page with this tag and these rows
abbrev pub tagged : ℕ → List Row → Option Page
tagged tag rows = Some (record { tag = tag; rows = rows })

-- the tags of a at the editions 1 to 4 are 1, 1, 1 and 4; b has its page from edition 2 on
pub record Worked (a b : Name) (t u : List Row) : Type 0 where
  pub first : pages (four a b t u) 1 a ≡ tagged 1 t
  pub second : pages (four a b t u) 2 a ≡ tagged 1 t
  pub third : pages (four a b t u) 3 a ≡ tagged 1 t
  pub fourth : pages (four a b t u) 4 a ≡ tagged 4 u
  pub other_before : pages (four a b t u) 1 b ≡ None
  pub other_after : pages (four a b t u) 4 b ≡ tagged 2 u
  pub zeroth : pages (four a b t u) 0 a ≡ None
  pub fifth : pages (four a b t u) 5 a ≡ None

-- so it is for any two names that differ and any two tables that differ
abbrev pub FourStand : Type 0
FourStand = (a b : Name) (t u : List Row) → (a ≢ b) → (t ≢ u) → Worked a b t u
