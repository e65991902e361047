use Rattle.std.proofs.Common.{All, arith, subst}
use Rattle.std.proofs.lemmas.Grind.{common_steps}
use Rattle.std.proofs.lemmas.List.Elements.{All-from_recursion, recursion_from_All}
use Rattle.die_service.specs.Stores.{IsAtStart}
use Rattle.die_service.proofs.Making.{last_all, front_all}
use Rattle.die_service.proofs.opening.+open_each.Goals as goal

pub new_lock-requires : goal.new_lock-requires
new_lock-requires g t c = record {
  start = last_all IsAtStart _ c.in-Some.core (recursion_from_All IsAtStart _
      (subst (λ l. All IsAtStart l) c.in-Some.ensures.items c.requires.start));
}

pub returns-in_default-clause-own : goal.returns-in_default-clause-own
returns-in_default-clause-own g t c = grind (arith, common_steps)

pub returns-in_default-clause-first : goal.returns-in_default-clause-first
returns-in_default-clause-first g t c = grind (arith, common_steps)

pub returns-in_default-clause-count : goal.returns-in_default-clause-count
returns-in_default-clause-count g t c = grind (arith, common_steps)

pub returns-in_default-clause-passes_count : goal.returns-in_default-clause-passes_count
returns-in_default-clause-passes_count g t c = grind (arith, common_steps)

pub returns-in_default-clause-room : goal.returns-in_default-clause-room
returns-in_default-clause-room g t c = grind (arith, common_steps)

pub push_reserved-requires : goal.push_reserved-requires
push_reserved-requires g t c = grind (arith, common_steps)

pub returns-in-Err-clause-back : goal.returns-in-Err-clause-back
returns-in-Err-clause-back g t c = grind (arith, common_steps)

pub returns-in-Err-clause-room : goal.returns-in-Err-clause-room
returns-in-Err-clause-room g t c = grind (arith, common_steps)

pub push_reserved-requires-in-Err-open_each : goal.push_reserved-requires-in-Err-open_each
push_reserved-requires-in-Err-open_each g t c = grind (arith, common_steps)

pub returns-in-Err-open_each-clause-refused : goal.returns-in-Err-open_each-clause-refused
returns-in-Err-open_each-clause-refused g t c = grind (arith, common_steps)

pub returns-in-Err-open_each-clause-back : goal.returns-in-Err-open_each-clause-back
returns-in-Err-open_each-clause-back g t c = grind (arith, common_steps)

pub returns-in-Err-open_each-clause-room : goal.returns-in-Err-open_each-clause-room
returns-in-Err-open_each-clause-room g t c = grind (arith, common_steps)

pub returns-in-Err-open_each-clause-dies_room : goal.returns-in-Err-open_each-clause-dies_room
returns-in-Err-open_each-clause-dies_room g t c = grind (arith, common_steps)

pub returns-in-Err-open_each-clause-passes_room : goal.returns-in-Err-open_each-clause-passes_room
returns-in-Err-open_each-clause-passes_room g t c = grind (arith, common_steps)

pub push_reserved-requires-2 : goal.push_reserved-requires-2
push_reserved-requires-2 g t c = grind (arith, common_steps)

pub push_reserved-requires-3 : goal.push_reserved-requires-3
push_reserved-requires-3 g t c = grind (arith, common_steps)

pub returns-clause-own : goal.returns-clause-own
returns-clause-own g t c = grind (arith, common_steps)

pub returns-clause-first : goal.returns-clause-first
returns-clause-first g t c = grind (arith, common_steps)

pub returns-clause-count : goal.returns-clause-count
returns-clause-count g t c = grind (arith, common_steps)

pub returns-clause-passes_count : goal.returns-clause-passes_count
returns-clause-passes_count g t c = grind (arith, common_steps)

pub returns-clause-room : goal.returns-clause-room
returns-clause-room g t c = grind (arith, common_steps)

pub returns-clause-dies_room : goal.returns-clause-dies_room
returns-clause-dies_room g t c = grind (arith, common_steps)

pub returns-clause-passes_room : goal.returns-clause-passes_room
returns-clause-passes_room g t c = grind (arith, common_steps)

pub open_each-requires : goal.open_each-requires
open_each-requires g t c = λ κs within. (
  grind (arith, common_steps),
  (
    within,
    (
      All-from_recursion IsAtStart _ (front_all IsAtStart _ _ (recursion_from_All IsAtStart _
          (subst (λ l. All IsAtStart l) c.in-Some.ensures.items c.requires.start))),
      (c.requires.no_dies, (c.requires.no_passes, (grind (arith, common_steps), grind (arith, common_steps)))),
    ),
  ),
)
