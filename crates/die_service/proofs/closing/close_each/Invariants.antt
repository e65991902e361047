use Rattle.std.proofs.Common.{◌≡◌, ◌≤◌, ◌++◌, true, length, map}
use Rattle.std.specs.Prelude.{vec_len, vec_capacity}
use Rattle.std.specs.List.{AllZip, AllByRecursion}
use Rattle.std.specs.Vec.Iter.{into_iter_items}
use Rattle.die_service.specs.Stores.{HasLogOf}
use Rattle.die_service.proofs.closing.close_each.Given as goal

abbrev pub invariant-loop-pass : goal.invariant-loop-pass
invariant-loop-pass g l = record {
  can_next : (goal.iterator-loop-pass g).can_next l.pass-iterator;
  is_finite : (goal.iterator-loop-pass g).is_finite l.pass-iterator;
  room : length l.fn.passes.items ≤ vec_capacity l.cores;
  passes : l.fn.passes.items ≡ l.yielded ++ into_iter_items l.pass-iterator;
  cores : vec_len l.cores ≡ length l.yielded;
  own : map (λ pass. pass.lock) (into_iter_items l.pass-iterator) ≡ into_iter_items l.dies;
  sole : AllByRecursion (λ pass. pass.view.sole ≡ true) (into_iter_items l.pass-iterator);
  closed : AllZip (HasLogOf g.N.Nand.never_fails) l.yielded l.cores.items;
}
