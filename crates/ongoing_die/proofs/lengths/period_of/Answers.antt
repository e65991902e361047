use Rattle.std.proofs.Common.{ap}
use Rattle.demand_rules.specs.declared.terms.TaskTerms.{TaskTerms}
use Rattle.ongoing_die.proofs.TermsOf.{none_there}
use Rattle.ongoing_die.proofs.lengths.period_of.Goals as goal

pub returns-in-None : goal.returns-in-None
returns-in-None c = ap (λ (t : TaskTerms). t.period) (none_there c.args.terms.now.tasks c.args.task c.in-None.ensures)
