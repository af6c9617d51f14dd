-- The worked example. Assumes nothing.
use Rattle.std.proofs.Common.{sym, refl}
use Rattle.zone.proofs.Compared.{rows_agree, rows_differ}
use Rattle.root.specs.Examples.{FourStand}
use Rattle.root.specs.Latest.{named_yes, named_no}

pub four_stand : FourStand
four_stand a b t u d e =
    let aa = named_yes a a refl in
    let bb = named_yes b b refl in
    let ab = named_no a b d in
    let ba = named_no b a (λ q. d (sym q)) in
    let tt' = rows_agree t t refl in
    let tu = rows_differ t u e in
    record {
      first = simp aa;
      second = simp (aa, ab, ba);
      third = simp (aa, ab, ba, tt');
      fourth = simp (aa, ab, ba, tt', tu);
      other_before = simp ab;
      other_after = simp (aa, bb, ab, ba);
      zeroth = refl;
      fifth = refl;
    }
