use Rattle.std.proofs.Common.{◌≡◌, ◌++◌, List, map}
use Rattle.std.specs.Prelude.{All}
use Rattle.std.specs.List.{AllZip}
use Rattle.std.specs.Vec.Iter.{into_iter_items}
use Rattle.terms_texts.specs.declared.stores.DieTerms.{DieTerms}
use Rattle.flashplan_kept_runs.specs.KeptDies.{AreWithin, BeginsBy, HasEmptyLog, begins_of, kept_of}
use Rattle.flashplan_kept_runs.proofs.store_runs.fresh_store.Given as goal

abbrev pub invariant-loop-plan : goal.invariant-loop-plan
invariant-loop-plan l = record {
  can_next : goal.iterator-loop-plan.can_next l.plan-iterator;
  is_finite : goal.iterator-loop-plan.is_finite l.plan-iterator;
  done : List DieTerms;
  all : done ++ into_iter_items l.plan-iterator ≡ l.fn.plans;
  begin : AllZip BeginsBy done (begins_of (map kept_of l.dies.items));
  empty : All HasEmptyLog (map kept_of l.dies.items);
  within : AreWithin l.slots (map kept_of l.dies.items);
}
