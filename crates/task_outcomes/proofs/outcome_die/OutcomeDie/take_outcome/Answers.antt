use Rattle.std.proofs.Common.{◌∙◌}
use Rattle.task_outcomes.proofs.Rooms.{taken_so}
use Rattle.task_outcomes.proofs.outcome_die.OutcomeDie.take_outcome.Goals as goal

pub invariant_of-self : goal.invariant_of-self
invariant_of-self g c =
    taken_so c.self.inside.outcomes c.take.new.self c.args.task c.take.result c.take.ensures.left c.take.ensures.refused ∙ c.self.invariant
