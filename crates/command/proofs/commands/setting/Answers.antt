use Rattle.std.proofs.Common.{◌≡◌, ℕ, if◌then◌else◌, List, codes, Some, None, refl, rules}
use Rattle.command.specs.declared.lines.Command.TheVariants.{Uplink, Downlink}
use Rattle.command.specs.Commands.{is_lone, setting}
use Rattle.command.proofs.commands.setting.Goals as goal

-- a line of marks has no other reading
uplink : (verb others : List ℕ) → verb ≡ codes "uplink" → setting verb others ≡ (if is_lone others then Some Uplink else None)
uplink verb others e = rw e refl

downlink : (verb others : List ℕ) → verb ≡ codes "downlink" → setting verb others ≡ (if is_lone others then Some Downlink else None)
downlink verb others e = rw e refl

pub returns-then-eq-3 : goal.returns-then-eq-3
returns-then-eq-3 c =
    let verb : c.args.verb.now ≡ codes "uplink" = search rules in
    rw (uplink _ c.args.words verb) (search rules)

pub returns-then-eq-4 : goal.returns-then-eq-4
returns-then-eq-4 c =
    let verb : c.args.verb.now ≡ codes "downlink" = search rules in
    rw (downlink _ c.args.words verb) (search rules)
