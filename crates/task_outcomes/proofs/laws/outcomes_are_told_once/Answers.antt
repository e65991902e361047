use Rattle.task_outcomes.proofs.Accounts.{accounted}
use Rattle.task_outcomes.proofs.laws.outcomes_are_told_once.Goals as goal

pub returns : goal.returns
returns c first terms life long t k task lt moves = accounted first terms life (c.a_die_goes_on_by_itself.ensures.goes_on_ahead first terms life long) task moves t k lt
