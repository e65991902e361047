use Rattle.planned_log.proofs.Kept.{ends_quiet, next_begins}
use Rattle.planned_log.proofs.laws.kept_lives_end_quiet.Goals as goal

pub returns : goal.returns
returns c = record { quiet = ends_quiet; next = next_begins }
