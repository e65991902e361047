use Rattle.late_cert.proofs.Least.{busy_interval-carries}
use Rattle.late_cert.proofs.laws.busy_intervals_carry_what_was_released_in_them.Goals as goal

pub returns : goal.returns
returns c = busy_interval-carries
