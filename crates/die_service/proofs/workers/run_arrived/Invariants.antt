use Rattle.std.specs.List.{AllZip}
use Rattle.die_service.specs.Posts.{IsSamePost}
use Rattle.die_service.proofs.workers.run_arrived.Given as goal

abbrev pub invariant-loop-post : goal.invariant-loop-post
invariant-loop-post g l = AllZip (IsSamePost g.M.Runner.runs) l.initial.posts l.posts
