use Rattle.std.proofs.Common.{arith, ◌≡◌, ◌*◌, ◌+◌, ◌∙◌, sym}
use Rattle.std.proofs.lemmas.List.FromFn.{map-range_with_len_more}
use Rattle.flashplan_demand_pictures.specs.Points.{point_at}
use Rattle.flashplan_demand_pictures.proofs.sampling.points.Goals as goal

pub loop-n-preserved : goal.loop-n-preserved
loop-n-preserved c =
    let n = c.loop-n.n in
    let next : 0 + n ≡ n = omega arith in
    c.in_ok-push.ensures.items
    ∙ rw (c.loop-n.invariant, c.point_at.ensures) (sym (map-range_with_len_more (λ k. point_at c.args.made.now (k * c.args.step)) 0 n n next))
