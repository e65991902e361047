use Rattle.std.proofs.Common.{◌≡◌, ◌++◌}
use Rattle.std.specs.List.{AllByRecursion}
use Rattle.std.specs.Vec.Iter.{into_iter_items}
use Rattle.die_service.specs.Posts.{AreBegun}
use Rattle.die_service.proofs.long_runs.posts_of.Given as goal

abbrev pub invariant-loop-runner : goal.invariant-loop-runner
invariant-loop-runner g l = record {
  can_next : (goal.iterator-loop-runner g).can_next l.runner-iterator;
  is_finite : (goal.iterator-loop-runner g).is_finite l.runner-iterator;
  runners : l.fn.runners.items ≡ l.yielded ++ into_iter_items l.runner-iterator;
  begin : AllByRecursion g.M.Runner.begins (into_iter_items l.runner-iterator);
  begun : AreBegun g.M.Runner.runs l.yielded l.senders.items l.posts.items;
}
