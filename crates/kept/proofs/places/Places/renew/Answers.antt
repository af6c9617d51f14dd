use Rattle.std.proofs.Common.{None, set, ◌∙◌, ap, sym, arith}
use Rattle.std.proofs.lemmas.List.{get_or-map, map-set}
use Rattle.std.specs.Option.{option_map}
use Rattle.kept.specs.Keeping.{from_edition, kept, kept_at, kept_in, with_page}
use Rattle.kept.proofs.places.Places.renew.Goals as goal

pub returns-in-Some : goal.returns-in-Some
returns-in-Some c =
    let s = c.args.self.now in
    let i = c.in-Some.i in
    let renewed = option_map (from_edition c.args.edition) in
    let was = sym (get_or-map kept_in s.places i c.index-self-i.result None (omega (arith, c.in-Some.ensures.within))) in
    map-set kept_in s.places i c.set_edition.new.self
    ∙ ap (set (kept s) i) (c.set_edition.ensures ∙ ap renewed was)
    ∙ ap (λ o. with_page (kept s) o (renewed (kept_at (kept s) o))) c.in-Some.ensures.place
