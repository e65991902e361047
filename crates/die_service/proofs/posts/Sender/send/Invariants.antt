use Rattle.std.proofs.Common.{◌≡◌}
use Rattle.rtrb.specs.Ring.{sent}
use Rattle.die_service.specs.Posts.{IsSameSender}
use Rattle.die_service.proofs.posts.Sender.send.Given as goal

abbrev pub invariant-loop : goal.invariant-loop
invariant-loop g l = record {
  sent : sent l.self.batches ≡ sent l.initial.self.batches;
  same : IsSameSender l.initial.self l.self;
  batch : l.batch ≡ l.initial.batch;
}
