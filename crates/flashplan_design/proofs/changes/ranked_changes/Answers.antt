use Rattle.std.proofs.Common.{rules, subst}
use Rattle.std.specs.List.Sorted.{IsPermutation}
use Rattle.std.proofs.lemmas.List.Sorted.{IsNonDecreasingBy-from_sort_by_key}
use Rattle.flashplan_design.specs.Changes.{price}
use Rattle.flashplan_design.proofs.changes.ranked_changes.Goals as goal

pub returns-clause-ranked : goal.returns-clause-ranked
returns-clause-ranked c = record {
  same = subst (λ l. IsPermutation l c.sort_by_key.new.self.items) c.in_ok-changes.ensures.all c.sort_by_key.ensures.permutation;
  ranked = IsNonDecreasingBy-from_sort_by_key price _ c.in_ok-sort_by_key.ensures.sorted (λ a r q k. search rules);
}
