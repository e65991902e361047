use Rattle.std.proofs.Common.{[]}
use Rattle.die_log.specs.Model.Start.{Start}
use Rattle.die_log.specs.Model.Lives.{Lives, start_after}
use Rattle.planned_log.specs.Laws.{IsKept}
use Rattle.planned_log.specs.Moves.{after_moves, lives_after}
use Rattle.planned_log.proofs.Kept.{begun}
use Rattle.planned_log.proofs.Moving.{moves_keep, lives_go_on}
use Rattle.planned_log.proofs.Served.{done_in_time}
use Rattle.planned_log.proofs.laws.kept_lives_go_on.Goals as goal

pub returns : goal.returns
returns c = record {
  ended = λ first terms life full all reached. (lives_go_on first terms life (begun first terms life full) all reached).ended;
  next = λ first terms life full all reached moves.
      let lives : Lives = lives_after first terms life all in
      let start : Start = start_after first lives in
      let kept : IsKept start terms lives life 0 (after_moves start terms lives life [] moves) =
      moves_keep start terms lives life [] moves (lives_go_on first terms life (begun first terms life full) all reached).begins in
      (kept, done_in_time start terms lives life 0 (after_moves start terms lives life [] moves) kept);
}
