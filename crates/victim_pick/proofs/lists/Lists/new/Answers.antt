use Rattle.std.proofs.Common.{None, Some, refl, arith}
use Rattle.victim_pick.proofs.Fresh.{fresh_links}
use Rattle.victim_pick.proofs.lists.Lists.new.Goals as goal

pub invariant_of-result : goal.invariant_of-result
invariant_of-result c =
    rw (
      c.in_ok-vec.ensures.items_if_clones_equal (elim [ None ↦ λ _. refl | Some n ↦ λ no. absurd no ]),
      c.in_ok-vec-2.ensures.items_if_clones_equal (elim [ None ↦ λ _. refl | Some n ↦ λ no. absurd no ]),
      c.in_ok-vec-3.ensures.items_if_clones_equal (elim [ None ↦ λ _. refl | Some n ↦ λ no. absurd no ]),
      c.in_ok-vec-4.ensures.items_if_clones_equal (elim [ None ↦ λ _. refl | Some n ↦ λ no. absurd no ]),
    ) (
    fresh_links c.args.pages c.args.blocks (omega arith)
    )
