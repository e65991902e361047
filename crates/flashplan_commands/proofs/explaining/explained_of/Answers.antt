use Rattle.std.proofs.Common.{rules, ◌≡◌, IfSome, take}
use Rattle.flashplan_commands.proofs.EndedSo.{says_of}
use Rattle.flashplan_commands.proofs.explaining.explained_of.Goals as goal

pub returns-clause-said : goal.returns-clause-said
returns-clause-said g c =
    let read : IfSome (g.R.Read.remaining c.args.plan) (λ bytes. c.in_ok-text.text.items ≡ take 1048577 bytes) = search rules in
    says_of c.args.asked.slot_us (g.R.Read.remaining c.args.plan) c.in_ok-text.text.items c.deref.result.now c.said_of.result read c.deref.ensures.value
    c.said_of.ensures.said
