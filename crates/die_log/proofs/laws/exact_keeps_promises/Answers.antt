use Rattle.die_log.proofs.Promises.{keeps_promises, moment_promises}
use Rattle.die_log.proofs.laws.exact_keeps_promises.Goals as goal

pub returns : goal.returns
returns c = record { log = keeps_promises; moments = moment_promises }
