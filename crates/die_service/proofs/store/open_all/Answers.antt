use Rattle.std.proofs.Common.{arith}
use Rattle.std.proofs.lemmas.Grind.{common_steps}
use Rattle.die_service.proofs.store.open_all.Goals as goal

pub returns-in-Err-clause-refused : goal.returns-in-Err-clause-refused
returns-in-Err-clause-refused g c = grind (arith, common_steps)

pub returns-in-Err-clause-back : goal.returns-in-Err-clause-back
returns-in-Err-clause-back g c = grind (arith, common_steps)

pub returns-in-Err-with_capacity-clause-refused : goal.returns-in-Err-with_capacity-clause-refused
returns-in-Err-with_capacity-clause-refused g c = grind (arith, common_steps)

pub returns-in-Err-with_capacity-clause-back : goal.returns-in-Err-with_capacity-clause-back
returns-in-Err-with_capacity-clause-back g c = grind (arith, common_steps)

pub open_each-requires-clause-no_dies : goal.open_each-requires-clause-no_dies
open_each-requires-clause-no_dies g c = grind (arith, common_steps)

pub open_each-requires-clause-no_passes : goal.open_each-requires-clause-no_passes
open_each-requires-clause-no_passes g c = grind (arith, common_steps)

pub open_each-requires-clause-dies_room : goal.open_each-requires-clause-dies_room
open_each-requires-clause-dies_room g c = grind (arith, common_steps)

pub open_each-requires-clause-passes_room : goal.open_each-requires-clause-passes_room
open_each-requires-clause-passes_room g c = grind (arith, common_steps)

pub returns-in-Ok-open_each-clause-own : goal.returns-in-Ok-open_each-clause-own
returns-in-Ok-open_each-clause-own g c = grind (arith, common_steps)

pub returns-in-Ok-open_each-clause-first : goal.returns-in-Ok-open_each-clause-first
returns-in-Ok-open_each-clause-first g c = grind (arith, common_steps)

pub returns-in-Err-open_each-clause-refused : goal.returns-in-Err-open_each-clause-refused
returns-in-Err-open_each-clause-refused g c = grind (arith, common_steps)

pub returns-in-Err-open_each-clause-back : goal.returns-in-Err-open_each-clause-back
returns-in-Err-open_each-clause-back g c = grind (arith, common_steps)
