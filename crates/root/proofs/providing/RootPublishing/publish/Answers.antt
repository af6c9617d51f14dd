use Rattle.std.proofs.Common.{◌≡◌, true, ◌&&◌, ltb, length, vec_items, vec_len, sym, ap, ◌∙◌, subst}
use Rattle.zone.specs.Refusals.{answered}
use Rattle.zone.proofs.Testing.{decides_era_table}
use Rattle.provider.specs.Meaning.{last_edition}
use Rattle.root.specs.Order.{InOrder}
use Rattle.root.specs.Roots.{log_of, has_room}
use Rattle.root.proofs.Growing.{in_order_add}
use Rattle.root.proofs.Steps.{next_added, accepted}
use Rattle.root.proofs.providing.RootPublishing.publish.Goals as goal

pub returns-clause-told : goal.returns-clause-told
returns-clause-told c =
    let s = c.args.self.now in
    let t = c.args.table.now in
    let n = c.args.name in
    let rows = vec_items t.rows in
    let size = c.len.ensures ∙ t.rows.ok.0 in
    let valid = sym c.if-not-is_valid.ensures in
    let table = sym c.if-not-is_over_era.ensures in
    let room : (has_room s (length rows) && ltb (vec_len s.entries) last_edition) ≡ true = ap (λ x. has_room s x && ltb (vec_len s.entries) last_edition) (sym size) ∙ sym c.if-not-takes.ensures in
    let added = c.add.ensures.added in
    let sound = ((decides_era_table t.interval rows).0 table).1 in
    λ o. record {
      order = subst InOrder (sym added.log) (in_order_add (log_of s) n rows o valid sound);
      told = ap answered c.add.ensures.number ∙ sym (accepted s n t valid table room).0;
      brings = next_added s c.add.new.self n t added sound;
    }
