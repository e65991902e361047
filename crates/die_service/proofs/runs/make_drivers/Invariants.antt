use Rattle.std.proofs.Common.{◌≡◌, ◌≤◌, ◌++◌, length, map}
use Rattle.std.specs.Prelude.{vec_len, vec_capacity}
use Rattle.std.specs.Vec.Iter.{into_iter_items}
use Rattle.die_service.specs.PassWorks.{AreReady}
use Rattle.die_service.proofs.Gathering.{WaitOn}
use Rattle.die_service.proofs.runs.make_drivers.Given as goal

abbrev pub invariant-loop-pass : goal.invariant-loop-pass
invariant-loop-pass g l = record {
  can_next : (goal.iterator-loop-pass g).can_next l.pass-iterator;
  is_finite : (goal.iterator-loop-pass g).is_finite l.pass-iterator;
  room : length l.fn.passes.items ≤ vec_capacity l.drivers;
  passes : l.fn.passes.items ≡ l.yielded ++ into_iter_items l.pass-iterator;
  drivers : vec_len l.drivers ≡ length l.yielded;
  own : map (λ pass. pass.lock) (into_iter_items l.pass-iterator) ≡ l.dies;
  courses : length (into_iter_items l.courses) ≡ length (into_iter_items l.pass-iterator);
  made : WaitOn l.fn.passes.items l.fn.courses.items l.drivers.items (into_iter_items l.pass-iterator) (into_iter_items l.courses);
  ready : AreReady l.yielded;
}
