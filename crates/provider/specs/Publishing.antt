-- What a publication comes to. Assumes nothing.
use Rattle.std.specs.Prelude.{◌≡◌, ℕ, ◌+◌, Bool, cond, ◌&&◌, [], length, Some, Ok, Err, vec_items, Result, ◌≢◌, nat_lt}
use Rattle.names.specs.declared.name.Name.{Name}
use Rattle.zone.specs.declared.refusals.Refusal.{Refusal}
use Rattle.zone.specs.declared.windows.Table.{Table}
use Rattle.names.specs.Names.{is_name}
use Rattle.zone.specs.Refusals.{Outcome, answered, refused, outcome}
use Rattle.zone.specs.Tables.{is_era_table}
use Rattle.cutting.specs.Cutting.{cut}
use Rattle.provider.specs.Meaning.{Page, Meaning, Keeps, last_edition}

-- 1 the name, 13 a table over the era, 14 that it fits and the count can rise; then the next edition's number
abbrev pub published : Meaning → (ℕ → Bool) → Name → Table → Outcome ℕ
published m fits n t = cond (is_name n.bytes) (cond (is_era_table t.interval (vec_items t.rows)) (cond (fits (length (vec_items t.rows)) && nat_lt m.count last_edition) (answered (m.count + 1)) (refused 14 [])) (refused 13 [])) (refused 1 [])

-- the edition after m: the name has the table's cut to the span, every other name its page of the edition before
pub record Next (m m' : Meaning) (n : Name) (t : Table) : Type 0 where
  pub keeps : Keeps m m'
  pub count : m'.count ≡ m.count + 1
  pub page : (p : Page) × (m'.pages (m.count + 1) n ≡ Some p) × (p.rows ≡ cut (vec_items t.rows) m.span)
  pub others : (other : Name) → (other ≢ n) → m'.pages (m.count + 1) other ≡ m.pages m.count other

-- what a publication leaves: the next edition, or, refused, the provider as it was
abbrev pub Brings : {S : Type 0} → Result ℕ Refusal → Meaning → Meaning → Name → Table → S → S → Type 0
Brings (Ok e) m m' n t before after = Next m m' n t
Brings (Err r) m m' n t before after = after ≡ before

-- a publication by a provider that meant m and now means m'
pub record Published {S : Type 0} (m m' : Meaning) (in_order : Type 0) (fits : ℕ → Bool) (n : Name) (t : Table) (before after : S) (r : Result ℕ Refusal) : Type 0 where
  pub order : in_order
  pub told : outcome r ≡ published m fits n t
  pub brings : Brings r m m' n t before after
