use Rattle.die_log.proofs.Life.Reading.{reads_as_left}
use Rattle.die_log.proofs.lives.lives_report_the_last_write.Goals as goal

pub returns : goal.returns
returns c = reads_as_left
