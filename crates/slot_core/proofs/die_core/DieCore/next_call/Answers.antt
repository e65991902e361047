use Rattle.std.proofs.Common.{arith, inl, inr, refl}
use Rattle.std.proofs.lemmas.Grind.{common_steps}
use Rattle.slot_core.proofs.die_core.DieCore.next_call.Goals as goal

pub returns-then-failed-clause-stopped : goal.returns-then-failed-clause-stopped
returns-then-failed-clause-stopped g c = grind (arith, common_steps)

pub returns-then-failed-clause-end : goal.returns-then-failed-clause-end
returns-then-failed-clause-end g c = grind (arith, common_steps)

pub returns-then-failed-clause-next : goal.returns-then-failed-clause-next
returns-then-failed-clause-next g c = tt

pub returns-then-failed-clause-needed : goal.returns-then-failed-clause-needed
returns-then-failed-clause-needed g c = tt

pub returns-then-failed-clause-refused : goal.returns-then-failed-clause-refused
returns-then-failed-clause-refused g c = inl refl

pub returns-then-failed-clause-unchanged : goal.returns-then-failed-clause-unchanged
returns-then-failed-clause-unchanged g c = grind (arith, common_steps)

pub returns-then-self-ge-MAX_SLOT-clause-stopped : goal.returns-then-self-ge-MAX_SLOT-clause-stopped
returns-then-self-ge-MAX_SLOT-clause-stopped g c = grind (arith, common_steps)

pub returns-then-self-ge-MAX_SLOT-clause-end : goal.returns-then-self-ge-MAX_SLOT-clause-end
returns-then-self-ge-MAX_SLOT-clause-end g c = grind (arith, common_steps)

pub returns-then-self-ge-MAX_SLOT-clause-next : goal.returns-then-self-ge-MAX_SLOT-clause-next
returns-then-self-ge-MAX_SLOT-clause-next g c = tt

pub returns-then-self-ge-MAX_SLOT-clause-needed : goal.returns-then-self-ge-MAX_SLOT-clause-needed
returns-then-self-ge-MAX_SLOT-clause-needed g c = tt

pub returns-then-self-ge-MAX_SLOT-clause-refused : goal.returns-then-self-ge-MAX_SLOT-clause-refused
returns-then-self-ge-MAX_SLOT-clause-refused g c = inr refl

pub returns-then-self-ge-MAX_SLOT-clause-unchanged : goal.returns-then-self-ge-MAX_SLOT-clause-unchanged
returns-then-self-ge-MAX_SLOT-clause-unchanged g c = grind (arith, common_steps)

pub returns-in-Some-clause-stopped : goal.returns-in-Some-clause-stopped
returns-in-Some-clause-stopped g c = grind (arith, common_steps)

pub returns-in-Some-clause-end : goal.returns-in-Some-clause-end
returns-in-Some-clause-end g c = grind (arith, common_steps)

pub returns-in-Some-clause-next : goal.returns-in-Some-clause-next
returns-in-Some-clause-next g c = grind (arith, common_steps)

pub returns-in-Some-clause-needed : goal.returns-in-Some-clause-needed
returns-in-Some-clause-needed g c = grind (arith, common_steps)

pub returns-in-Some-clause-refused : goal.returns-in-Some-clause-refused
returns-in-Some-clause-refused g c = tt

pub returns-in-Some-clause-unchanged : goal.returns-in-Some-clause-unchanged
returns-in-Some-clause-unchanged g c = grind (arith, common_steps)

pub returns-clause-stopped : goal.returns-clause-stopped
returns-clause-stopped g c = grind (arith, common_steps)

pub returns-clause-end : goal.returns-clause-end
returns-clause-end g c = grind (arith, common_steps)

pub returns-clause-next : goal.returns-clause-next
returns-clause-next g c = grind (arith, common_steps)

pub returns-clause-needed : goal.returns-clause-needed
returns-clause-needed g c = grind (arith, common_steps)

pub returns-clause-refused : goal.returns-clause-refused
returns-clause-refused g c = tt

pub returns-clause-unchanged : goal.returns-clause-unchanged
returns-clause-unchanged g c = grind (arith, common_steps)

pub invariant_of-self : goal.invariant_of-self
invariant_of-self g c = grind (arith, common_steps)

pub invariant_of-self-2 : goal.invariant_of-self-2
invariant_of-self-2 g c = grind (arith, common_steps)
