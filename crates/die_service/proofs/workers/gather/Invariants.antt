use Rattle.std.proofs.Common.{◌≡◌, List, ◌++◌}
use Rattle.std.specs.List.{AllZip}
use Rattle.std.specs.Vec.Iter.{into_iter_items}
use Rattle.die_service.specs.Posts.{IsSamePost}
use Rattle.die_service.specs.Shares.{AreSharesOf}
use Rattle.die_service.specs.Posts.{PostState}
use Rattle.die_service.proofs.workers.gather.Given as goal

abbrev pub invariant-loop-share : goal.invariant-loop-share
invariant-loop-share g l = record {
  can_next : (goal.iterator-loop-share g).can_next l.share-iterator;
  is_finite : (goal.iterator-loop-share g).is_finite l.share-iterator;
  all : l.fn.shares.items ≡ l.yielded ++ into_iter_items l.share-iterator;
  dies : (dies : List (PostState g.row.M.Denot g.row.B.Denot)) → AreSharesOf g.M.Runner.runs dies l.yielded → AllZip (IsSamePost g.M.Runner.runs) dies l.all.items;
}
