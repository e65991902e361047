use Rattle.std.proofs.Common.{◌++◌, List, map}
use Rattle.std.specs.List.{AllZip}
use Rattle.std.specs.Vec.Iter.{into_iter_items}
use Rattle.die_service.specs.Posts.{AreLinked, sent_by}
use Rattle.die_service.specs.Runners.{HasRunAll}
use Rattle.die_service.proofs.long_runs.run_rests.Given as goal

abbrev pub invariant-loop-post : goal.invariant-loop-post
invariant-loop-post g l = record {
  can_next : (goal.iterator-loop-post g).can_next l.post-iterator;
  is_finite : (goal.iterator-loop-post g).is_finite l.post-iterator;
  linked : AreLinked g.M.Runner.runs (into_iter_items l.senders) (into_iter_items l.post-iterator);
  ran : (later : List g.row.M.Denot) → AllZip (HasRunAll g.M.Runner.runs) (map sent_by (into_iter_items l.senders)) later
      → AllZip (HasRunAll g.M.Runner.runs) (map sent_by l.fn.senders.items) (l.ran.items ++ later);
}
