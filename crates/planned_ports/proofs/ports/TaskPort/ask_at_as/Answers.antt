use Rattle.std.proofs.Common.{refl, sym, ◌∙◌}
use Rattle.planned_ports.specs.Ports.{TaskParts}
use Rattle.planned_ports.proofs.Passing.{is_job_at, refuses_asks_at, own_asks_at, same_asks_at}
use Rattle.planned_ports.proofs.ports.TaskPort.ask_at_as.Goals.{in-Ok, in-Err}
use Rattle.planned_ports.proofs.ports.TaskPort.ask_at_as.Goals as goal

pub job_of-requires : goal.job_of-requires
job_of-requires g c = is_job_at _ _ _ _ _ c.in-Ok.granted _ c.in-Ok.ensures.added

pub ask_at_refusal-requires : goal.ask_at_refusal-requires
ask_at_refusal-requires g c = refuses_asks_at _ _ _ _ _ c.in-Err.refused _ c.in-Err.ensures.refused

pub invariant_of-self : goal.invariant_of-self
invariant_of-self g c =
    let p : TaskParts g.row.N.Denot = record { lock = c.self.inside.pass.lock; view = c.self.inside.pass.view; task = c.self.inside.task; pages = c.self.inside.pages } in
    let q : TaskParts g.row.N.Denot = record { lock = c.ask_at_for.new.pass.lock; view = c.ask_at_for.new.pass.view; task = c.self.inside.task; pages = c.self.inside.pages } in
    elim c.match-ask_at_for.branch [
      | in-Ok w ↦ own_asks_at c.args.kind p q c.args.ops.now c.args.at w.in-Ok.granted c.self.invariant (sym c.first_foreign.ensures ∙ c.in-None.is) refl refl
          c.ask_at_for.ensures.same.1 w.in-Ok.ensures.added
      | in-Err w ↦ same_asks_at c.args.kind p q c.args.ops.now c.args.at w.in-Err.refused c.self.invariant refl refl c.ask_at_for.ensures.same.1 w.in-Err.ensures.refused
    ]

pub returns-clause-own : goal.returns-clause-own
returns-clause-own g c =
    let p : TaskParts g.row.N.Denot = record { lock = c.self.inside.pass.lock; view = c.self.inside.pass.view; task = c.self.inside.task; pages = c.self.inside.pages } in
    let q : TaskParts g.row.N.Denot = record { lock = c.ask_at_for.new.pass.lock; view = c.ask_at_for.new.pass.view; task = c.self.inside.task; pages = c.self.inside.pages } in
    elim c.match-ask_at_for.branch [
      | in-Ok w ↦ own_asks_at c.args.kind p q c.args.ops.now c.args.at w.in-Ok.granted c.self.invariant (sym c.first_foreign.ensures ∙ c.in-None.is) refl refl
          c.ask_at_for.ensures.same.1 w.in-Ok.ensures.added
      | in-Err w ↦ same_asks_at c.args.kind p q c.args.ops.now c.args.at w.in-Err.refused c.self.invariant refl refl c.ask_at_for.ensures.same.1 w.in-Err.ensures.refused
    ]
