use Rattle.planned_ports.specs.declared.calls.Request.TheVariants as requests
use Rattle.planned_ports.proofs.Passing.{added, left}
use Rattle.planned_ports.proofs.ports.SharedPlannedDie.ask_at_for.Goals as goal

pub returns-clause-added : goal.returns-clause-added
returns-clause-added g c = added c.args.pass.now.view (requests.AskAt c.args.kind c.args.task c.args.ops.now c.args.at) c.note.result c.note.new.pass.view c.note.ensures.reply
    c.note.ensures.own

pub returns-clause-refused : goal.returns-clause-refused
returns-clause-refused g c = left c.args.pass.now.view (requests.AskAt c.args.kind c.args.task c.args.ops.now c.args.at) c.note.result c.note.new.pass.view c.note.ensures.reply
    c.note.ensures.own
