use Rattle.std.proofs.Common.{◌∙◌, arith}
use Rattle.die_service.proofs.posts.Post.run_rest.Goals as goal

pub loop-preserved : goal.loop-preserved
loop-preserved g c =
    let a = c.loop.invariant.same.0 in
    let b = c.run_known.ensures.same.0 in
    record {
      same = (
        ((b.0.0 ∙ a.0.0, b.0.1 ∙ a.0.1, b.0.2 ∙ a.0.2, b.0.3 ∙ a.0.3), b.1 ∙ a.1),
        λ first ran. c.run_known.ensures.same.1 first (c.loop.invariant.same.1 first ran),
      );
      sent = c.run_known.ensures.taken.1 ∙ c.loop.invariant.sent;
      left = omega (arith, c.run_known.ensures.taken.0, c.loop.invariant.left);
    }
