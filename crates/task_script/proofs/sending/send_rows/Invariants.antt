use Rattle.std.proofs.Common.{◌≡◌, ◌++◌, length}
use Rattle.std.specs.Vec.Iter.{into_iter_items}
use Rattle.task_script.specs.RanScripts.{sent_more}
use Rattle.task_script.proofs.sending.send_rows.Given as goal

abbrev pub invariant-loop-own : goal.invariant-loop-own
invariant-loop-own g l = record {
  can_next : (goal.iterator-loop-own g).can_next l.own-iterator;
  is_finite : (goal.iterator-loop-own g).is_finite l.own-iterator;
  rows : l.fn.rows.items ≡ l.yielded ++ into_iter_items l.own-iterator;
  place : l.place ≡ length l.yielded;
  sent : l.run ≡ sent_more l.until l.yielded l.fn.run;
}
