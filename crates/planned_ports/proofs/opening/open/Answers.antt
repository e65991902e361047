use Rattle.std.proofs.Common.{◌≡◌}
use Rattle.std.proofs.lemmas.List.Elements.{All-from_recursion}
use Rattle.planned_ports.specs.Ports.{TaskParts}
use Rattle.planned_ports.proofs.NewPorts.{new_own}
use Rattle.planned_ports.proofs.opening.open.Goals as goal

pub returns-in-Ok-make_ports-clause-own : goal.returns-in-Ok-make_ports-clause-own
returns-in-Ok-make_ports-clause-own g c =
    All-from_recursion (λ (port : TaskParts g.row.N.Denot). port.lock ≡ c.in-Ok-share.made.0) c.make_ports.new.tasks.items
    (new_own c.in-Ok-share.made.0 _ c.args.ranges.now 0 c.make_ports.new.tasks.items c.in-Ok-make_ports.ensures.tasks)
