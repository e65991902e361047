use Rattle.event_log.proofs.Growing.{all_fit_stay}
use Rattle.event_log.proofs.laws.events_go_on_fitting.Goals as goal

pub returns : goal.returns
returns c = all_fit_stay
