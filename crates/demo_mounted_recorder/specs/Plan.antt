-- The plan of the recorder's die.
use Rattle.std.specs.Prelude.{[], ◌∷◌, None}
use Rattle.slot_types.specs.declared.plans.DiePlan.{DiePlan}

abbrev pub die_plan : DiePlan
die_plan = record {
  shape = record { blocks = 15; pages = 4; erase_slots = 3 };
  logical = 16;
  alpha = 2;
  caps = 6 ∷ 6 ∷ 4 ∷ [];
  times = None;
}
