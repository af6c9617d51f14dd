use Rattle.std.proofs.Common.{◌≡◌, ℕ, List, refl, ap, rules, sym, arith}
use Rattle.std.proofs.lemmas.List.{ext_get_or}
use Rattle.std.proofs.lemmas.Slice.Eq.{bytes_eq-Decides}
use Rattle.std.proofs.lemmas.Slice.Zip.{zip_end}
use Rattle.names.specs.declared.name.Name.{Name}
use Rattle.names.proofs.name.NamePartialEq.eq.Goals as goal

pub returns : goal.returns
returns c =
    let a = c.args.self.now.bytes in
    let b = c.args.other.now.bytes in
    let n = zip_end a b c.loop-a.yielded c.into_iter-a-iterator.result c.loop-a.a-iterator c.next.new.self c.next.result (search rules) (search rules) c.loop-a.yielded_by c.in-None.is c.next.ensures.steps in
    let same : a ≡ b = ext_get_or 0 a b (omega arith) (λ k l. c.loop-a.invariant k (omega (arith, n))) in
    let make : List ℕ → Name = λ bs. record { bytes = bs } in
    record {
      is = sym ((bytes_eq-Decides a b).1 same);
      name = (λ _. ap make same, λ _. refl);
      bytes = (λ _. same, λ _. refl);
    }
