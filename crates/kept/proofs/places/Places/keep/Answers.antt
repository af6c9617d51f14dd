use Rattle.std.proofs.Common.{◌≡◌, Bool, true, false, if◌then◌else◌, set, Some, ◌∙◌, ap, sym, arith}
use Rattle.std.proofs.lemmas.List.{map-set}
use Rattle.kept.specs.Keeping.{kept, kept_for, kept_in, labelled, may_replace, place_for, with_page}
use Rattle.kept.proofs.Finding.{may_there}
use Rattle.kept.proofs.places.Places.keep.Goals as goal

pub returns-then-may_replace : goal.returns-then-may_replace
returns-then-may_replace c =
    let s = c.args.self.now in
    let l = c.args.label in
    let page = labelled (Some l) c.args.window.now in
    let same = may_there s.places l.name l.version.edition c.in-Some.i c.index-self-i.result c.in-Some.ensures.place (omega (arith, c.in-Some.ensures.within)) c.index-self-i.is in
    let may : may_replace l.version.edition (kept_for (kept s) l.name) ≡ true = cc in
    map-set kept_in s.places c.in-Some.i c.keep.new.self
    ∙ ap (set (kept s) c.in-Some.i) c.keep.ensures
    ∙ ap (λ o. with_page (kept s) o page) c.in-Some.ensures.place
    ∙ sym (ap (λ (b : Bool). if b then with_page (kept s) (place_for (kept s) l.name) page else kept s) may)

pub returns-else-may_replace : goal.returns-else-may_replace
returns-else-may_replace c =
    let s = c.args.self.now in
    let l = c.args.label in
    let same = may_there s.places l.name l.version.edition c.in-Some.i c.index-self-i.result c.in-Some.ensures.place (omega (arith, c.in-Some.ensures.within)) c.index-self-i.is in
    let may_not : may_replace l.version.edition (kept_for (kept s) l.name) ≡ false = cc in
    sym (ap (λ (b : Bool). if b then with_page (kept s) (place_for (kept s) l.name) (labelled (Some l) c.args.window.now) else kept s) may_not)
