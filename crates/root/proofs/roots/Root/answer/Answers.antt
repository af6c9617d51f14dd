use Rattle.std.proofs.Common.{◌≡◌, Some, Bor, sym, refl, ap, ◌∙◌, subst}
use Rattle.std.specs.Option.{option_map}
use Rattle.std.specs.Result.{result_ok}
use Rattle.zone.specs.Intervals.{era}
use Rattle.zone.specs.Rows.{Sound, table_rows}
use Rattle.root.specs.declared.entries.Entry.{Entry}
use Rattle.root.specs.Logs.{latest, log, publication}
use Rattle.root.specs.Roots.{log_of}
use Rattle.root.proofs.Views.{answers_some, table_held}
use Rattle.root.proofs.roots.Root.answer.Goals as goal

pub returns-clause-told : goal.returns-clause-told
returns-clause-told c =
    let s = c.args.self.now in
    let q = c.args.request in
    let e = c.in_ok-entry.entry in
    let found : c.latest_of.result ≡ Some e = c.ok_or.ensures.ok_part ∙ ap result_ok c.in_ok-entry.was in
    let held : latest q.name (log_of s) ≡ Some (publication s.rows.items e.now) =
    ap (λ es. latest q.name (log es s.rows.items)) (sym c.deref.ensures.value) ∙ (c.latest_of.ensures.latest s.rows.items ∙ ap (option_map (λ (x : Bor Entry). publication s.rows.items x.now)) found) in
    λ o w.
    let sound = subst (λ rows. Sound table_rows era rows) (sym c.rows_of.ensures) (table_held (log_of s) q.name (publication s.rows.items e.now) o held) in
    c.answer_rows.ensures.table sound ∙ answers_some s q c.count-edition.result (publication s.rows.items e.now) e.now.tag c.rows_of.result.now c.count-edition.ensures held w refl c.rows_of.ensures
