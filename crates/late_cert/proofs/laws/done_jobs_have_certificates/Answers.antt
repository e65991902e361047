use Rattle.late_cert.proofs.OneBusyInterval.{certificate-is-some}
use Rattle.late_cert.proofs.laws.done_jobs_have_certificates.Goals as goal

pub returns : goal.returns
returns c = certificate-is-some
