use Rattle.std.proofs.Common.{◌≡◌, ◌*◌, map}
use Rattle.std.specs.List.{range_with_len}
use Rattle.flashplan_demand_pictures.specs.Points.{point_at}
use Rattle.flashplan_demand_pictures.proofs.sampling.points.Given as goal

abbrev pub invariant-loop-n : goal.invariant-loop-n
invariant-loop-n l = l.points.items ≡ map (λ n. point_at l.made (n * l.step)) (range_with_len 0 l.n)
