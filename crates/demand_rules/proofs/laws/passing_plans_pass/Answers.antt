use Rattle.demand_rules.proofs.Earlier.{passes_demand, passes_supply, keeps_demand}
use Rattle.demand_rules.proofs.laws.passing_plans_pass.Goals as goal

pub returns : goal.returns
returns c = record { demand = passes_demand; supply = passes_supply; keeping = keeps_demand }
