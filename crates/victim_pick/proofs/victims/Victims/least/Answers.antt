use Rattle.std.proofs.Common.{refl}
use Rattle.victim_pick.specs.Candidates.{HasNone}
use Rattle.victim_pick.proofs.Least.{has_none}
use Rattle.victim_pick.proofs.victims.Victims.least.Goals as goal

pub returns-in_err-block-clause-none : goal.returns-in_err-block-clause-none
returns-in_err-block-clause-none c =
    let v = c.self.inside in (
      λ _. rw (← c.self.view_is) (has_none v.lists.counts v.erases.items v.least c.self.invariant c.in_err-block.ensures.none),
      λ _. rw c.from_residual.ensures refl,
    )

pub returns-clause-none : goal.returns-clause-none
returns-clause-none c =
    let v = c.self.inside in
    let counted = c.in_ok-block.ensures.some.first.counted c.in_ok-block.block refl in (
      λ no. absurd (cc),
      rw (← c.self.view_is) (λ (none : HasNone v.lists.counts). let no = none c.in_ok-block.block in absurd (cc)),
    )
