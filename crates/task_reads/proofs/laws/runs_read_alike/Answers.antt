use Rattle.task_reads.proofs.Running.{asked_alike, releases_alike, dues_alike}
use Rattle.task_reads.proofs.laws.runs_read_alike.Goals as goal

pub returns : goal.returns
returns c = record { asked = asked_alike; releases = releases_alike; deadlines = dues_alike }
