use Rattle.client.specs.Following.{state_in}
use Rattle.client.proofs.Carried.{forget_done, forget_refused}
use Rattle.slots.proofs.Finding.{cells_length}
use Rattle.client.proofs.sessions.Session.forget.Goals as goal

pub returns-in-Ok : goal.returns-in-Ok
returns-in-Ok g c q =
    let client = c.args.self.now.client in
    forget_done g.P.Provider client.provider c.forget.new.self.provider (state_in client) (state_in c.forget.new.self) c.args.self.now.tokens.items c.args.name c.in-Ok.ensures.told c.in-Ok.ensures.provider (cells_length client.slots) q.client q.tokens

pub returns-in-Err : goal.returns-in-Err
returns-in-Err g c q =
    let client = c.args.self.now.client in
    forget_refused g.P.Provider client.provider c.forget.new.self.provider (state_in client) (state_in c.forget.new.self) c.args.self.now.tokens.items c.args.name _ _ c.in-Err.ensures.told c.in-Err.ensures.provider q.client q.tokens
