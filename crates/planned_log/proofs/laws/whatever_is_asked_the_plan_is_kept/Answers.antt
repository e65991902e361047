use Rattle.planned_log.specs.Moves.{after_moves}
use Rattle.planned_log.proofs.Moving.{moves_keep}
use Rattle.planned_log.proofs.Served.{done_in_time}
use Rattle.planned_log.proofs.laws.whatever_is_asked_the_plan_is_kept.Goals as goal

pub returns : goal.returns
returns c = record {
  kept = λ start terms earlier life log k moves. moves_keep start terms earlier life log moves k;
  in_time = λ start terms earlier life log k moves.
      done_in_time start terms earlier life 0 (after_moves start terms earlier life log moves)
      (moves_keep start terms earlier life log moves k);
}
