use Rattle.std.proofs.Common.{◌+◌, ◌++◌, length, vec_items, vec_len, sym, refl, ap, ◌∙◌}
use Rattle.std.proofs.lemmas.List.{length-append}
use Rattle.root.specs.declared.entries.Entry.{Entry}
use Rattle.root.specs.Logs.{tag_for}
use Rattle.root.specs.Roots.{log_of}
use Rattle.root.proofs.Views.{added_log}
use Rattle.root.proofs.roots.Root.add.Goals as goal

pub returns-clause-added : goal.returns-clause-added
returns-clause-added c =
    let s = c.args.self.now in
    let rows = c.as_slice-rows.result.now in
    let t = vec_items c.args.table.now.rows in
    let e = c.next_entry-entry.ensures in
    let same = c.as_slice-rows.ensures.value in
    record {
      log = added_log s c.args.name t (vec_items c.push_reserved.new.self) (vec_items c.store.new.storage) c.next_entry-entry.result c.push_reserved.ensures.items (c.store.ensures.items ∙ ap (λ xs. vec_items s.rows ++ xs) same) (ap (λ (x : Entry). x.name) e) (ap (λ (x : Entry). x.start) e ∙ s.rows.ok.0) (ap (λ (x : Entry). x.len) e ∙ ap length same) (ap (λ (x : Entry). x.tag) e ∙ ap (tag_for (log_of s) c.args.name) same);
      count = c.push_reserved.ensures.len;
      used = c.store.new.storage.ok.0 ∙ (ap length c.store.ensures.items ∙ (length-append (vec_items s.rows) rows ∙ (ap (λ x. x + length rows) (sym s.rows.ok.0) ∙ ap (λ xs. vec_len s.rows + length xs) same)));
      limits = refl;
      entry_storage = c.push_reserved.ensures.capacity;
      row_storage = c.store.ensures.capacity;
    }
