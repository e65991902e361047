use Rattle.planned_ports.specs.declared.calls.Request.TheVariants as requests
use Rattle.planned_ports.proofs.Passing.{added, left}
use Rattle.planned_ports.proofs.ports.SharedPlannedDie.take_outcome.Goals as goal

pub returns-clause-added : goal.returns-clause-added
returns-clause-added g c = added c.args.pass.now.view (requests.Outcome c.args.task) c.apply.result c.apply.new.pass.view c.apply.ensures.reply
    c.apply.ensures.own

pub returns-clause-refused : goal.returns-clause-refused
returns-clause-refused g c = left c.args.pass.now.view (requests.Outcome c.args.task) c.apply.result c.apply.new.pass.view c.apply.ensures.reply
    c.apply.ensures.own
