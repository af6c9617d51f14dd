use Rattle.std.proofs.Common.{sym}
use Rattle.client.proofs.Taken.{abandons, never_back}
use Rattle.client.proofs.sessions.Session.abandon.Goals as goal

pub returns-in-Ok : goal.returns-in-Ok
returns-in-Ok g c q = abandons g.P.Provider c.args.self.now c.take.new.self c.args.name c.in-Some.slot c.in-Some.pending c.in-Some.ensures.within (sym c.in-Some.ensures.taken) c.take.ensures.tokens c.take.ensures.client q c.abandon.new.self c.in-Ok.ensures.told c.in-Ok.ensures.provider

pub returns-in-Err : goal.returns-in-Err
returns-in-Err g c q = never_back g.P.Provider c.args.self.now c.take.new.self c.args.name c.in-Some.slot c.in-Some.pending c.in-Some.ensures.within (sym c.in-Some.ensures.taken) c.take.ensures.tokens c.take.ensures.client q c.abandon.new.self _ _ _ _ c.in-Err.ensures.told
