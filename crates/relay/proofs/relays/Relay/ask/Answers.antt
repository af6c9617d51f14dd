use Rattle.std.proofs.Common.{subst}
use Rattle.provider.specs.declared.requests.Request.{Request}
use Rattle.provider.specs.Fetching.{Fetched}
use Rattle.provider.specs.Whole.{meaning}
use Rattle.relay.proofs.relays.Relay.ask.Goals as goal

pub returns : goal.returns
returns g c =
    let p = g.P.Provider in
    let s = c.args.self.now.below in
    let s' = c.fetch-reply.new.self in
    let w = c.args.self.now.scratch in
    let w' = c.fetch-reply.new.place in
    let is = c.request_below-sent.ensures in
    record {
      relayed = record {
        reply = c.fetch-reply.result;
        lent = w;
        window = w';
        below = subst (λ (q : Request). p.after_fetch s q s') is c.fetch-reply.ensures.after;
        told = λ o. subst (λ (q : Request). Fetched (meaning p s) (meaning p s') (p.in_order s') q w w' c.fetch-reply.result) is (c.fetch-reply.ensures.told o);
        kept = c.receive.ensures.kept;
      };
      answer = c.receive.ensures.told;
      leaves = c.receive.ensures.leaves;
    }
