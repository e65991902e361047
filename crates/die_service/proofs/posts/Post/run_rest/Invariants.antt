use Rattle.std.proofs.Common.{◌≡◌, ◌+◌, ◌++◌, length}
use Rattle.rtrb.specs.Ring.{known_items, received, sent}
use Rattle.die_service.specs.Posts.{IsSamePost}
use Rattle.die_service.proofs.posts.Post.run_rest.Given as goal

abbrev pub invariant-loop : goal.invariant-loop
invariant-loop g l = record {
  same : IsSamePost g.M.Runner.runs l.fn.self l.self;
  sent : received l.self.batches ++ known_items l.self.batches ≡ sent l.fn.sender.batches;
  left : length (known_items l.self.batches) + l.counter ≡ l.left;
}
