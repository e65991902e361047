use Rattle.std.proofs.Common.{◌≡◌, ◌++◌, length, map, All}
use Rattle.std.specs.Prelude.{vec_len, vec_capacity}
use Rattle.std.specs.List.{AllZip}
use Rattle.std.specs.Vec.Iter.{into_iter_items}
use Rattle.die_log.specs.Model.Start.{fresh}
use Rattle.die_service.specs.Stores.{IsAtStart}
use Rattle.die_service.proofs.Making.{IsReady}
use Rattle.die_service.proofs.store.new_cores.Given as goal

abbrev pub invariant-loop-plan : goal.invariant-loop-plan
invariant-loop-plan g l = record {
  can_next : (goal.iterator-loop-plan g).can_next l.plan-iterator;
  is_finite : (goal.iterator-loop-plan g).is_finite l.plan-iterator;
  room : vec_capacity l.cores ≡ vec_len l.fn.plans;
  plans : l.fn.plans.items ≡ l.yielded ++ into_iter_items l.plan-iterator;
  cores : vec_len l.cores ≡ length l.yielded;
  starts : map (λ core. core.start) l.cores.items ≡ map fresh l.yielded;
  at_start : All IsAtStart l.cores.items;
  ready : AllZip (IsReady g.N.Nand.shape_of g.N.Nand.blocks g.N.Nand.failures) (into_iter_items l.plan-iterator) (into_iter_items l.nands);
}
