use Rattle.std.proofs.Common.{◌≡◌, List, ℕ, ◌+◌, ◌≤◌, slice_index, ap, subst, sym, arith}
use Rattle.planned_die.proofs.laws.full_checkpoints_are_stocked.Goals as goal

pub returns-clause-enough : goal.returns-clause-enough
returns-clause-enough c plan terms task lt = omega arith

pub returns-clause-never_short : goal.returns-clause-never_short
returns-clause-never_short c plan terms s h = omega (arith, h.have_is, h.need_is, h.short)

pub returns-clause-none_lacks : goal.returns-clause-none_lacks
returns-clause-none_lacks c plan task = omega arith

pub returns-clause-full : goal.returns-clause-full
returns-clause-full c plan checkpoint blocks is task lt =
    omega (arith, ap (λ (balances : List ℕ). slice_index balances task) is)
