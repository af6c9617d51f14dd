use Rattle.std.proofs.Common.{sym}
use Rattle.client.proofs.Taken.{collects, collects_back}
use Rattle.client.proofs.sessions.Session.collect.Goals as goal

pub returns-in-Ok : goal.returns-in-Ok
returns-in-Ok g c q = collects g.P.Provider c.args.self.now c.take.new.self c.args.name c.in-Some.slot c.in-Some.pending c.in-Some.ensures.within (sym c.in-Some.ensures.taken) c.take.ensures.tokens c.take.ensures.client q c.collect.new.self c.in-Ok.edition c.in-Ok.ensures.asked c.in-Ok.ensures.told

pub returns-in-Err : goal.returns-in-Err
returns-in-Err g c q = collects_back g.P.Provider c.args.self.now c.take.new.self c.args.name c.in-Some.slot c.in-Some.pending c.in-Some.ensures.within (sym c.in-Some.ensures.taken) c.take.ensures.tokens c.take.ensures.client q c.collect.new.self _ _ c.in-Err.back c.hand_back.new.self _ c.in-Err.ensures.back c.in-Err.ensures.asked c.in-Err.ensures.told c.hand_back.ensures.client c.hand_back.ensures.tokens c.hand_back.ensures.told
