use Rattle.std.specs.List.{AllZip}
use Rattle.die_service.specs.Posts.{IsSamePost}
use Rattle.die_service.proofs.workers.work.Given as goal

abbrev pub invariant-loop : goal.invariant-loop
invariant-loop g l = AllZip (IsSamePost g.M.Runner.runs) l.fn.posts.items l.posts.items
