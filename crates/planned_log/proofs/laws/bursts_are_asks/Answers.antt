use Rattle.planned_log.proofs.Bursts.{in_turn}
use Rattle.planned_log.proofs.laws.bursts_are_asks.Goals as goal

pub returns : goal.returns
returns c = λ start terms earlier life entered log k caller task ops none.
    in_turn start terms earlier life entered caller task ops log k (λ some. none)
