use Rattle.std.proofs.Common.{Err, Ok}
use Rattle.slot_types.specs.declared.replies.Reply.TheVariants as replies
use Rattle.flashplan_script_runs.proofs.Calls.{stays_well}
use Rattle.flashplan_script_runs.proofs.die_cores.DieCoreScriptDie.ask.Goals as goal

pub returns-in-Ok-clause-well : goal.returns-in-Ok-clause-well
returns-in-Ok-clause-well g c = stays_well c.args.event (Ok (replies.Taken c.in-Ok.field-0)) c.args.self.now c.arrive.new.die c.in-Ok.ensures

pub returns-in-Err-clause-well : goal.returns-in-Err-clause-well
returns-in-Err-clause-well g c = stays_well c.args.event (Err c.in-Err.refusal) c.args.self.now c.arrive.new.die c.in-Err.ensures
