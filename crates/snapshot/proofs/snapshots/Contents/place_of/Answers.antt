use Rattle.std.proofs.Common.{rules, tests}
use Rattle.std.proofs.lemmas.List.Sorted.{answers_always}
use Rattle.snapshot.specs.declared.zones.Zone.{Zone}
use Rattle.snapshot.proofs.Searching.{told}
use Rattle.snapshot.proofs.snapshots.Contents.place_of.Goals as goal

pub returns : goal.returns
returns c =
    let s = c.args.self.now in
    let h = c.binary_search_by_key.ensures.position (λ (z : Zone). z.name) (answers_always _ _ _ (λ f x b q k. search (rules, tests))) in
    rw c.ok.ensures.value (told s.edition s.span s.zones.items c.args.name.now s.good c.deref.result.now c.binary_search_by_key.result c.deref.ensures.value c.binary_search_by_key.ensures.bound h)
