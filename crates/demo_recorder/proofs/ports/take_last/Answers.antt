use Rattle.std.proofs.Common.{◌≡◌}
use Rattle.std.proofs.lemmas.List.Elements.{All-pop}
use Rattle.planned_ports.specs.Ports.{TaskParts}
use Rattle.demo_recorder.proofs.ports.take_last.Goals as goal

pub returns-clause-own : goal.returns-clause-own
returns-clause-own g c =
    (All-pop (λ (p : TaskParts g.row.N.Denot). p.lock ≡ c.args.die.now) c.args.ports.now.items c.pop.new.self.items c.pop.result c.pop.ensures.items c.requires).1

pub returns-clause-rest : goal.returns-clause-rest
returns-clause-rest g c =
    (All-pop (λ (p : TaskParts g.row.N.Denot). p.lock ≡ c.args.die.now) c.args.ports.now.items c.pop.new.self.items c.pop.result c.pop.ensures.items c.requires).0
