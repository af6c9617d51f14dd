use Rattle.std.proofs.Common.{◌≡◌, if◌then◌else◌, [], Some, None, sym, refl, ap, ◌∙◌, subst}
use Rattle.provider.specs.declared.requests.Request.{Request}
use Rattle.provider.specs.Fetching.{judged, fetched, Leaves}
use Rattle.provider.specs.Whole.{meaning}
use Rattle.history.specs.Cells.{cell_at}
use Rattle.history.specs.Steps.{Step, stays, handed_back, known_tag}
use Rattle.slots.specs.Seeing.{state_of}
use Rattle.client.specs.Following.{state_in}
use Rattle.slots.specs.Taking.{take_reply, received}
use Rattle.slots.proofs.Requests.{request_says}
use Rattle.client.specs.Agreeing.{Agrees}
use Rattle.client.proofs.Agreement.{keeps_same, agrees_keeps, collected_agrees}
use Rattle.client.proofs.Collecting.{took, token_is, agrees_on, none_asked, asked}
use Rattle.client.proofs.clients.Client.fetch_for.Goals as goal

pub returns-in_default : goal.returns-in_default
returns-in_default g c =
    let self = c.args.self.now in
    let s = state_in self in
    let m = meaning g.P.Provider self.provider in
    let none = c.in_default.ensures in
    record {
      asked = asked g.P.Provider s c.args.slot c.args.interval self.provider self.provider None (sym none) refl;
      told = λ o. record { told = none_asked m s c.args.slot c.args.interval (sym none); keeps = keeps_same m; order = o };
    }

pub returns : goal.returns
returns g c =
    let self = c.args.self.now in
    let s = state_in self in
    let k = c.args.slot in
    let i = c.args.interval in
    let m = meaning g.P.Provider self.provider in
    let m' = meaning g.P.Provider c.fetch-reply.new.self in
    let reply = c.fetch-reply.result in
    let place = c.fetch-reply.new.place in
    let is = c.in-Some.ensures in
    let says = request_says (cell_at s k) i c.in-Some.request (sym is) in
    let n = says.name in
    record {
      asked = asked g.P.Provider s k i self.provider c.fetch-reply.new.self (Some c.in-Some.request) (sym is) c.fetch-reply.ensures.after;
      told = λ o.
          let f = c.fetch-reply.ensures.told o.order in
          let sound = g.met.P.Provider.sound self.provider o.order in
          let on = agrees_on m s k i n o.agrees says.pending says.owner in
          let answer : judged reply place ≡ fetched m (record { name = n; interval = i; known = known_tag (cell_at s k).copy i }) = f.told ∙ ap (fetched m) (sym says.request) in
          let leaves : Leaves reply i self.spare place = subst (λ (x : Request). Leaves reply x.interval self.spare place) (sym says.request) f.leaves in
          let taken : take_reply s k i reply place ≡ received s k i reply place = sym (ap (λ b. if b then take_reply s k i reply place else stays s (handed_back 10 [] k i)) says.pending) in
          let done = sym (took m sound s k i n on.0 on.1 reply place self.spare answer leaves) ∙ taken ∙ c.receive.ensures in
          record {
            told = token_is m s k i n says.pending says.owner ∙ done;
            keeps = f.keeps;
            order = record {
              order = f.order;
              agrees = agrees_keeps m m' (state_of c.receive.new.self) sound f.keeps (subst (λ (x : Step). Agrees m x.state) done (collected_agrees m s k i n says.owner on.1 o.agrees));
            };
          };
    }
