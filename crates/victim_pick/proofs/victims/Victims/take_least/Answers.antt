use Rattle.std.proofs.Common.{refl, arith}
use Rattle.victim_pick.specs.Candidates.{HasNone}
use Rattle.victim_pick.proofs.Setting.{counted_below}
use Rattle.victim_pick.proofs.Least.{has_none}
use Rattle.victim_pick.proofs.victims.Victims.take_least.Goals as goal

pub returns-in_err-valid-clause-none : goal.returns-in_err-valid-clause-none
returns-in_err-valid-clause-none c =
    let v = c.self.inside in (
      λ _. rw (← c.self.view_is) (has_none v.lists.counts v.erases.items v.least c.self.invariant c.in_err-valid.ensures.none),
      λ _. rw c.from_residual.ensures refl,
    )

pub index_mut-requires : goal.index_mut-requires
index_mut-requires c =
    let v = c.self.inside in
    let counted = c.in_ok-valid.ensures.some.first.counted c.in_ok-valid.block refl in
    omega (arith, counted_below v.lists.counts c.in_ok-valid.block c.in_ok-valid.valid counted, c.self.invariant.erases_len, v.erases.ok.0)

pub returns-clause-none : goal.returns-clause-none
returns-clause-none c =
    let v = c.self.inside in
    let counted = c.in_ok-valid.ensures.some.first.counted c.in_ok-valid.block refl in (
      λ no. absurd (cc),
      rw (← c.self.view_is) (λ (none : HasNone v.lists.counts). let no = none c.in_ok-valid.block in absurd (cc)),
    )
