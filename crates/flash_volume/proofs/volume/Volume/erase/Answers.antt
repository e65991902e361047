use Rattle.std.proofs.Common.{◌≡◌, ◌<◌, ◌+◌, ◌-◌, ◌∙◌, length, get_or, refl, sym, ap, arith, ℕ}
use Rattle.std.proofs.lemmas.Grind.{common_steps}
use Rattle.std.proofs.lemmas.Bool.{eqb-false, eqb-true}
use Rattle.plan_rules.specs.Accounts.{accounts_after_collection}
use Rattle.flash_die.specs.Flash.{block_at}
use Rattle.flash_volume.proofs.Erasing.{unplaced_of, erased_last, erased_going}
use Rattle.flash_volume.proofs.Running.{dropped}
use Rattle.flash_volume.proofs.Kept.{room, sound_going, sound_ended}
use Rattle.flash_volume.proofs.volume.Volume.erase.Goals as goal

pub erase_slot-requires-clause-unplaced : goal.erase_slot-requires-clause-unplaced
erase_slot-requires-clause-unplaced g c =
    let sound = c.self.invariant (rw (← c.self.view_is) at c.requires.alive) in
    rw (← c.self.view_is, ← sound.shape_is) at c.requires.unplaced

pub settle-given-requires-clause-room : goal.settle-given-requires-clause-room
settle-given-requires-clause-room g c =
    room c.args.task c.args.collection (c.self.invariant (rw (← c.self.view_is) at c.requires.alive))
    (rw (← c.self.view_is) at c.requires.runs)

pub invariant_of-self-in-Ok-true : goal.invariant_of-self-in-Ok-true
invariant_of-self-in-Ok-true g c = λ again.
    let sound = c.self.invariant (rw (← c.self.view_is) at c.requires.alive) in
    let task = rw (← c.self.view_is) at c.requires.task in
    let runs = rw (← c.self.view_is) at c.requires.runs in
    let s = g.N.Nand.shape_of c.self.inside.array.device in
    let b = g.N.Nand.blocks c.self.inside.array.device in
    let is = erased_last b (g.N.Nand.blocks c.erase_slot.new.self.device) s.erase_slots c.args.collection.victim c.in-Ok-true.field-0
    c.in-Ok-true.ensures.erased.cells c.in-Ok-true.ensures.erased.last_is c.in-Ok-true.field-0-test in
    let own = c.reserve-reserve.ensures.sound in
    let a = c.self.inside.ledger in
    let copied = c.plan.result.now.shape.pages - c.plan-2.result.now.alpha - c.reserve-reserve.result in
    let refilled : get_or a.reserves c.args.task 0 + copied
    ≡ a.plan.shape.pages - a.plan.alpha = omega (
      arith,
      own.reserved c.args.task,
      c.reserve-reserve.ensures.reserve,
      ap
          (λ p. p.shape.pages) c.plan.ensures,
      ap (λ p. p.alpha) c.plan-2.ensures,
    ) in
    let in_reserves : c.args.task < length a.reserves = omega (arith, own.reserves_len, task) in
    rw (c.task.view_is, c.erase_slot.ensures.placing, c.erase_slot.ensures.candidates) (
    sound_ended c.settle-given.new.self c.args.task ((block_at b c.args.collection.victim).erases + 1)
    (get_or a.reserves c.args.task 0 + copied) c.args.collection sound task runs
    (rw (c.erase_slot.ensures.placing, c.erase_slot.ensures.candidates) at (c.erase_slot.ensures.sound again))
    c.erase_slot.ensures.ends.shape_stays is (c.in-Ok-true.ensures.erased.freed c.in-Ok-true.field-0-test)
    (ap (λ x. x.plan) c.settle-given.ensures.moved) (ap (λ x. x.reserves) c.settle-given.ensures.moved) refilled in_reserves
    c.settle-given.ensures.total
    )

pub invariant_of-self-in-Ok-false : goal.invariant_of-self-in-Ok-false
invariant_of-self-in-Ok-false g c = λ again.
    let sound = c.self.invariant (rw (← c.self.view_is) at c.requires.alive) in
    let task = rw (← c.self.view_is) at c.requires.task in
    let runs = rw (← c.self.view_is) at c.requires.runs in
    let s = g.N.Nand.shape_of c.self.inside.array.device in
    let b = g.N.Nand.blocks c.self.inside.array.device in
    let is = erased_going b (g.N.Nand.blocks c.erase_slot.new.self.device) s.erase_slots c.args.collection.victim c.in-Ok-false.field-0
    c.in-Ok-false.ensures.erased.cells c.in-Ok-false.ensures.erased.last_is c.in-Ok-false.field-0-test in
    rw (c.task-in-Ok-false.view_is, c.erase_slot.ensures.placing, c.erase_slot.ensures.candidates)
    (sound_going c.args.task c.args.collection sound task runs
    (rw (c.erase_slot.ensures.placing, c.erase_slot.ensures.candidates) at (c.erase_slot.ensures.sound again))
    c.erase_slot.ensures.ends.shape_stays is (c.in-Ok-false.ensures.erased.going c.in-Ok-false.field-0-test))

pub returns-in-Ok-true-clause-did : goal.returns-in-Ok-true-clause-did
returns-in-Ok-true-clause-did g c =
    let sound = c.self.invariant (rw (← c.self.view_is) at c.requires.alive) in
    let run = sound.runs.each c.args.task c.args.collection (rw (← c.self.view_is) at c.requires.runs) in
    let clear = unplaced_of c.args.collection.victim sound.stands run.in_range run.closed
    (rw (← c.self.view_is, ← sound.shape_is) at c.requires.unplaced) in
    let s = g.N.Nand.shape_of c.self.inside.array.device in
    let b = g.N.Nand.blocks c.self.inside.array.device in
    let own = c.reserve-reserve.ensures.sound in
    let a = c.self.inside.ledger in
    let copied = c.plan.result.now.shape.pages - c.plan-2.result.now.alpha - c.reserve-reserve.result in
    let copied_is : copied ≡ a.plan.shape.pages - a.plan.alpha - get_or a.reserves c.args.task 0 = rw
    (c.plan.ensures, c.plan-2.ensures, c.reserve-reserve.ensures.reserve) refl in
    rw (← c.self.view_is) (
    record {
      dropped = dropped run (rw (← c.self.view_is) at c.requires.left);
      left = rw (← c.self.view_is) at c.requires.left;
      erases = record {
        victim = refl;
        unplaced = clear.none;
        cells = rw (← sound.shape_is) c.in-Ok-true.ensures.erased.cells;
        places = ap (λ m. m.places) c.erase_slot.ensures.placing;
        pages = c.in-Ok-true.ensures.erased.pages;
        well = c.in-Ok-true.ensures.ends.failed;
      };
      last = rw (← sound.shape_is) (eqb-true ((block_at b c.args.collection.victim).erasing + 1) s.erase_slots
          (sym c.in-Ok-true.ensures.erased.last_is ∙ c.in-Ok-true.field-0-test));
      given = c.settle-given.ensures.given;
      accounts = c.settle-given.ensures.moved ∙ ap (λ (n : ℕ). accounts_after_collection a c.args.task n) copied_is;
      running = rw c.task.view_is refl;
    }
    )

pub returns-in-Ok-false-clause-did : goal.returns-in-Ok-false-clause-did
returns-in-Ok-false-clause-did g c =
    let sound = c.self.invariant (rw (← c.self.view_is) at c.requires.alive) in
    let run = sound.runs.each c.args.task c.args.collection (rw (← c.self.view_is) at c.requires.runs) in
    let clear = unplaced_of c.args.collection.victim sound.stands run.in_range run.closed
    (rw (← c.self.view_is, ← sound.shape_is) at c.requires.unplaced) in
    let s = g.N.Nand.shape_of c.self.inside.array.device in
    let b = g.N.Nand.blocks c.self.inside.array.device in
    rw (← c.self.view_is) (
    record {
      dropped = dropped run (rw (← c.self.view_is) at c.requires.left);
      left = rw (← c.self.view_is) at c.requires.left;
      erases = record {
        victim = refl;
        unplaced = clear.none;
        cells = rw (← sound.shape_is) c.in-Ok-false.ensures.erased.cells;
        places = ap (λ m. m.places) c.erase_slot.ensures.placing;
        pages = c.in-Ok-false.ensures.erased.pages;
        well = c.in-Ok-false.ensures.ends.failed;
      };
      going = rw (← sound.shape_is) (eqb-false ((block_at b c.args.collection.victim).erasing + 1) s.erase_slots
          (sym c.in-Ok-false.ensures.erased.last_is ∙ c.in-Ok-false.field-0-test));
      accounts = refl;
      running = rw c.task-in-Ok-false.view_is refl;
    }
    )

pub invariant_of-self : goal.invariant_of-self
invariant_of-self g c = grind (arith, common_steps)

pub returns-in-Err-clause-once : goal.returns-in-Err-clause-once
returns-in-Err-clause-once g c = grind (arith, common_steps)

pub returns-in-Err-clause-did : goal.returns-in-Err-clause-did
returns-in-Err-clause-did g c = grind (arith, common_steps)

pub returns-in-Err-clause-stays : goal.returns-in-Err-clause-stays
returns-in-Err-clause-stays g c = grind (arith, common_steps)

pub returns-in-Err-clause-fails : goal.returns-in-Err-clause-fails
returns-in-Err-clause-fails g c = grind (arith, common_steps)

pub returns-in-Ok-true-clause-once : goal.returns-in-Ok-true-clause-once
returns-in-Ok-true-clause-once g c = grind (arith, common_steps)

pub returns-in-Ok-true-clause-stays : goal.returns-in-Ok-true-clause-stays
returns-in-Ok-true-clause-stays g c = grind (arith, common_steps)

pub returns-in-Ok-true-clause-fails : goal.returns-in-Ok-true-clause-fails
returns-in-Ok-true-clause-fails g c = grind (arith, common_steps)

pub returns-in-Ok-false-clause-once : goal.returns-in-Ok-false-clause-once
returns-in-Ok-false-clause-once g c = grind (arith, common_steps)

pub returns-in-Ok-false-clause-stays : goal.returns-in-Ok-false-clause-stays
returns-in-Ok-false-clause-stays g c = grind (arith, common_steps)

pub returns-in-Ok-false-clause-fails : goal.returns-in-Ok-false-clause-fails
returns-in-Ok-false-clause-fails g c = grind (arith, common_steps)
