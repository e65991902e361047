use Rattle.std.proofs.Common.{◌≡◌, ◌≤◌, ◌++◌, length, IsSome}
use Rattle.std.specs.Prelude.{vec_capacity}
use Rattle.std.specs.List.{AllByRecursion}
use Rattle.std.specs.Vec.Iter.{into_iter_items}
use Rattle.die_service.specs.PassWorks.{HaveEnded}
use Rattle.die_service.proofs.Gathering.{PassState}
use Rattle.die_service.proofs.runs.into_ends.Given as goal

abbrev pub invariant-loop-worked : goal.invariant-loop-worked
invariant-loop-worked g l = record {
  can_next : (goal.iterator-loop-worked g).can_next l.worked-iterator;
  is_finite : (goal.iterator-loop-worked g).is_finite l.worked-iterator;
  room : length l.fn.drivers.items ≤ vec_capacity l.ends;
  passes_room : length l.fn.drivers.items ≤ vec_capacity l.passes;
  drivers : l.fn.drivers.items ≡ l.yielded ++ into_iter_items l.worked-iterator;
  left : AllByRecursion (λ (worked : PassState). IsSome worked.1) (into_iter_items l.worked-iterator);
  ended : HaveEnded l.yielded l.ends.items l.passes.items;
}
