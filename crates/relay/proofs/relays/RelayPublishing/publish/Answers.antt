use Rattle.std.proofs.Common.{refl}
use Rattle.kept.specs.Keeping.{kept}
use Rattle.relay.proofs.Calls.{relayed_published}
use Rattle.relay.proofs.relays.RelayPublishing.publish.Goals as goal

pub returns : goal.returns
returns g c =
    let s = c.args.self.now in
    record {
      after = (c.publish.ensures.after, refl, refl);
      told = λ o. relayed_published (kept s.places) (g.met.P.Provider.sound s.below o.0) o.1 (c.in_ok-publish.ensures.told o.0);
    }
