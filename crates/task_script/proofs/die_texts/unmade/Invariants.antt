use Rattle.std.proofs.Common.{◌≡◌, ◌++◌, Some, length, map}
use Rattle.std.specs.Prelude.{vec_len, vec_capacity}
use Rattle.std.specs.Vec.Iter.{into_iter_items}
use Rattle.task_script.specs.declared.die_texts.DieText.{DieText}
use Rattle.task_script.proofs.die_texts.unmade.Given as goal

abbrev pub invariant-loop-die : goal.invariant-loop-die
invariant-loop-die l = record {
  can_next : (goal.iterator-loop-die).can_next l.die-iterator;
  is_finite : (goal.iterator-loop-die).is_finite l.die-iterator;
  room : vec_capacity l.texts ≡ vec_len l.fn.dies;
  dies : l.fn.dies.items ≡ l.yielded ++ into_iter_items l.die-iterator;
  as_many : vec_len l.texts ≡ length l.yielded;
  texts : map (λ (text : DieText). text.die) l.texts.items ≡ map Some l.yielded;
}
