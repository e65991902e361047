use Rattle.demand_rules.proofs.Fitting.{demand_fits}
use Rattle.demand_rules.proofs.laws.demand_fits_windows.Goals as goal

pub returns : goal.returns
returns c = demand_fits
