use Rattle.client.specs.Following.{state_in}
use Rattle.client.proofs.Carried.{begin_refused}
use Rattle.client.proofs.Taken.{begins}
use Rattle.client.proofs.sessions.Session.begin.Goals as goal

pub returns-in-Err : goal.returns-in-Err
returns-in-Err g c q =
    let client = c.args.self.now.client in
    begin_refused g.P.Provider client.provider c.begin.new.self.provider (state_in client) (state_in c.begin.new.self) c.args.self.now.tokens.items c.args.name c.args.interval _ _ c.in-Err.ensures.told c.in-Err.ensures.provider q.client q.tokens

pub returns-in-Ok : goal.returns-in-Ok
returns-in-Ok g c = begins g.P.Provider c.args.self.now c.keep.new.self c.args.name c.args.interval c.in-Ok.pending c.begin.new.self c.in-Ok.ensures.within c.in-Ok.ensures.unspent c.in-Ok.ensures.told c.in-Ok.ensures.provider c.keep.ensures.client c.keep.ensures.tokens
