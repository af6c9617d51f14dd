-- What a publication brings. Assumes nothing.
use Rattle.std.proofs.Common.{◌≡◌, ℕ, ◌+◌, Bool, true, ◌&&◌, ltb, length, vec_items, vec_len, MatchBool, sym, refl, ap, ◌∙◌, subst, arith}
use Rattle.names.specs.declared.name.Name.{Name}
use Rattle.zone.specs.declared.windows.Table.{Table}
use Rattle.zone.specs.Intervals.{era}
use Rattle.names.specs.Names.{is_name}
use Rattle.zone.specs.Refusals.{answered}
use Rattle.zone.specs.Rows.{Sound, table_rows}
use Rattle.zone.specs.Tables.{is_era_table}
use Rattle.cutting.proofs.Kept.{cut_whole}
use Rattle.provider.specs.Meaning.{Meaning, last_edition}
use Rattle.provider.specs.Publishing.{published, Next}
use Rattle.root.specs.declared.roots.Root.{Root}
use Rattle.root.specs.Logs.{page, pages, tag_for, add}
use Rattle.root.specs.Roots.{log_of, has_room, accepts, Added}
use Rattle.root.proofs.Growing.{pages_kept, pages_own, pages_others}
use Rattle.root.proofs.Views.{log_count}

-- what a root means
abbrev pub meant : Root → Meaning
meant s = record { span = era; count = vec_len s.entries; pages = pages (log_of s); turn = λ n i. vec_len s.entries }

pub next_added : (s t : Root) (n : Name) (table : Table) → Added s n table t → Sound table_rows era (vec_items table.rows) → Next (meant s) (meant t) n table
next_added s t n table a sound =
    let rows = vec_items table.rows in
    let old = log_of s in
    let c = log_count s in
    let at_log : (e : ℕ) (m : Name) → pages (log_of t) e m ≡ pages (add old n rows) e m = λ e m. ap (λ xs. pages xs e m) a.log in
    let number : (m : Name) → pages (log_of t) (vec_len s.entries + 1) m ≡ pages (add old n rows) (length old + 1) m = λ m. at_log (vec_len s.entries + 1) m ∙ ap (λ x. pages (add old n rows) (x + 1) m) c in
    record {
      keeps = record { span = refl; grows = omega (arith, a.count); same = λ e m l. at_log e m ∙ pages_kept old n rows e m (omega arith) };
      count = a.count;
      page = (page (record { name = n; tag = tag_for old n rows; rows = rows }), number n ∙ pages_own old n rows, sym (cut_whole era rows sound.covers));
      others = λ m d. number m ∙ (pages_others old n rows m d ∙ ap (λ x. pages old x m) (sym c));
    }

pub accepted : (s : Root) (n : Name) (t : Table) → is_name n.bytes ≡ true → is_era_table t.interval (vec_items t.rows) ≡ true → (has_room s (length (vec_items t.rows)) && ltb (vec_len s.entries) last_edition) ≡ true → (published (meant s) (has_room s) n t ≡ answered (vec_len s.entries + 1)) × (accepts s n t ≡ true)
accepted s n t a b c = (rw (a, b, c), rw (a, b, c))

pub when_yes : (b : Bool) (P Q : Type 0) → b ≡ true → P → MatchBool b P Q
when_yes b P Q e p = subst (λ x. MatchBool x P Q) (sym e) p
