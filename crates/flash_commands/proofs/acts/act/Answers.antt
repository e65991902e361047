use Rattle.flash_commands.proofs.Endings.{refusal-of}
use Rattle.flash_commands.proofs.Judging.{has-three}
use Rattle.flash_commands.proofs.acts.act.Goals as goal

pub returns-clause-refused : goal.returns-clause-refused
returns-clause-refused g c ends = refusal-of _ c.carry_out-done.result c.carry_out-done.ensures.refused (rw c.end.ensures at ends)

pub returns-clause-three : goal.returns-clause-three
returns-clause-three g c =
    rw c.end.ensures
    (has-three g.W.Write.contents g.W.Output.has_failed c.args.command _ _ _ _ _ c.carry_out-done.ensures.printed
    (refusal-of _ c.carry_out-done.result c.carry_out-done.ensures.refused))
