use Rattle.late_cert.proofs.Lower.{binds}
use Rattle.late_cert.proofs.laws.certificates_bind_every_schedule.Goals as goal

pub returns : goal.returns
returns c = binds
