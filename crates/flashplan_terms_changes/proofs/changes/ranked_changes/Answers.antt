use Rattle.std.proofs.Common.{rules}
use Rattle.std.proofs.lemmas.List.Sorted.{IsNonDecreasingBy-from_sort_by_key}
use Rattle.flashplan_terms_changes.specs.Changes.{price}
use Rattle.flashplan_terms_changes.proofs.changes.ranked_changes.Goals as goal

pub returns-clause-ranked : goal.returns-clause-ranked
returns-clause-ranked c = record {
  all = c.in_ok-changes.changes.items;
  found = c.in_ok-changes.ensures.all;
  same = c.sort_by_key.ensures.permutation;
  ranked = IsNonDecreasingBy-from_sort_by_key price _ c.in_ok-sort_by_key.ensures.sorted (λ a r q k. search rules);
}
