use Rattle.late_cert.proofs.OneBusyInterval.{certificate-is-some}
use Rattle.die_log.specs.Model.Lives.{rows_of_all, numbers_of_all}
use Rattle.die_log.proofs.Life.Timing.{lives_keys, lives_least, moments_least, life_rows}
use Rattle.die_log.proofs.lives.lives_are_least_late.Goals as goal

pub returns : goal.returns
returns c = record {
  keys = lives_keys;
  least_late = lives_least;
  moments = moments_least;
  rows = life_rows;
  certified = λ first opens lives are.
      certificate-is-some (rows_of_all first.plan lives) (numbers_of_all lives) (lives_keys first opens lives are);
}
