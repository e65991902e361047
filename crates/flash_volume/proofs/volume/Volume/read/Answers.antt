use Rattle.std.proofs.Common.{arith}
use Rattle.std.proofs.lemmas.Grind.{common_steps}
use Rattle.flash_volume.proofs.volume.Volume.read.Goals as goal

pub returns-then-failed-clause-once : goal.returns-then-failed-clause-once
returns-then-failed-clause-once g c = grind (arith, common_steps)

pub returns-then-failed-clause-unwritten : goal.returns-then-failed-clause-unwritten
returns-then-failed-clause-unwritten g c = grind (arith, common_steps)

pub returns-then-failed-clause-read : goal.returns-then-failed-clause-read
returns-then-failed-clause-read g c = grind (arith, common_steps)

pub returns-then-failed-clause-books : goal.returns-then-failed-clause-books
returns-then-failed-clause-books g c = grind (arith, common_steps)

pub returns-then-failed-clause-stops : goal.returns-then-failed-clause-stops
returns-then-failed-clause-stops g c = grind (arith, common_steps)

pub invariant_of-self : goal.invariant_of-self
invariant_of-self g c = grind (arith, common_steps)

pub returns-clause-once : goal.returns-clause-once
returns-clause-once g c = grind (arith, common_steps)

pub returns-clause-unwritten : goal.returns-clause-unwritten
returns-clause-unwritten g c = grind (arith, common_steps)

pub returns-clause-books : goal.returns-clause-books
returns-clause-books g c = grind (arith, common_steps)

pub returns-clause-stops : goal.returns-clause-stops
returns-clause-stops g c = grind (arith, common_steps)
