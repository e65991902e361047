use Rattle.late_cert.proofs.Least.{busy_interval-certifies}
use Rattle.late_cert.proofs.laws.busy_intervals_are_certificates.Goals as goal

pub returns : goal.returns
returns c = busy_interval-certifies
