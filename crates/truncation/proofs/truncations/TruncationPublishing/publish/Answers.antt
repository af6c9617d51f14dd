use Rattle.truncation.proofs.Fetches.{truncated_published}
use Rattle.truncation.proofs.truncations.TruncationPublishing.publish.Goals as goal

pub returns-clause-told : goal.returns-clause-told
returns-clause-told g c =
    let s = c.args.self.now in
    λ o. truncated_published _ s.span (g.met.P.Provider.sound s.below o.0) o.1 (c.in_ok-publish.ensures.told o.0)
