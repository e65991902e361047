use Rattle.planned_log.proofs.Kept.{few_came}
use Rattle.planned_log.proofs.laws.no_more_comes_than_a_life_has.Goals as goal

pub returns : goal.returns
returns c = few_came
