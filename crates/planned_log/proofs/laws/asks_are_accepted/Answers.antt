use Rattle.planned_log.proofs.Kept.{ask_accepted, ask_goes_on}
use Rattle.planned_log.proofs.laws.asks_are_accepted.Goals as goal

pub returns : goal.returns
returns c = record { accepted = ask_accepted; kept = ask_goes_on }
