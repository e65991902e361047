use Rattle.std.proofs.Common.{◌≡◌, ℕ, ◌+◌, ◌==◌, List, true, false, get_or, set, refl, ap, sym, ◌∙◌, subst, arith}
use Rattle.std.proofs.lemmas.List.{length-set}
use Rattle.flash_die.specs.Flash.{blocks_after_erase_slot}
use Rattle.flash_die.specs.declared.nand.NandCall.TheVariants as calls
use Rattle.spare_blocks.specs.declared.cells.Erased.{Erased}
use Rattle.spare_blocks.specs.declared.cells.Erased.TheVariants as erased
use Rattle.spare_blocks.specs.Parts.{part_block, blocks_after_slot, is_last_slot}
use Rattle.spare_blocks.specs.Spares.{numbered, spared_blocks, EndsSpared, IsSoundSpared}
use Rattle.spare_blocks.specs.Tables.{Table, on_part}
use Rattle.spare_blocks.proofs.PlanCells.{erasable_here}
use Rattle.spare_blocks.proofs.Erases.{whole, last_is, slot_sound, slot_ends, worn_erase_sound, worn_erase, partly_blocks, wholly_blocks}
use Rattle.spare_blocks.proofs.Erases.{spare_sound, spare_ends, spare_blocks}
use Rattle.spare_blocks.proofs.blocks.SpareBlocksNand.erase_slot.Goals as goal

pub on_part-on-requires : goal.on_part-on-requires
on_part-on-requires g c =
    let here = erasable_here g.D.WearingNand.blocks (record { part = c.self.inside.part; shape = c.self.inside.shape; table = c.self.inside.table; erases = c.self.inside.erases.items; health = c.self.inside.health; failures = c.self.inside.failures }) c.self.inside.shape.pages c.args.block (rw (← c.self.view_is) at c.requires.erasable) in
    omega (arith, here.lt, c.self.invariant.count)

pub erase_slot-requires-clause-whole : goal.erase_slot-requires-clause-whole
erase_slot-requires-clause-whole g c =
    let here = erasable_here g.D.WearingNand.blocks (record { part = c.self.inside.part; shape = c.self.inside.shape; table = c.self.inside.table; erases = c.self.inside.erases.items; health = c.self.inside.health; failures = c.self.inside.failures }) c.self.inside.shape.pages c.args.block (rw (← c.self.view_is) at c.requires.erasable) in
    let number : c.on_part-on.result ≡ on_part c.self.inside.table c.args.block = c.on_part-on.ensures.number in
    ap (λ (x : ℕ). (part_block (g.D.WearingNand.blocks c.self.inside.part) x).failed) number ∙ whole g.D.WearingNand.shape_of g.D.WearingNand.blocks g.D.WearingNand.faulted g.D.WearingNand.next g.D.WearingNand.spent g.D.WearingNand.keeps_labels (record { part = c.self.inside.part; shape = c.self.inside.shape; table = c.self.inside.table; erases = c.self.inside.erases.items; health = c.self.inside.health; failures = c.self.inside.failures }) c.self.invariant c.on_part-on.ensures.sound c.in-Working.is c.args.block here

pub invariant_of-self-in-Ok-Partly : goal.invariant_of-self-in-Ok-Partly
invariant_of-self-in-Ok-Partly g c =
    let here = erasable_here g.D.WearingNand.blocks (record { part = c.self.inside.part; shape = c.self.inside.shape; table = c.self.inside.table; erases = c.self.inside.erases.items; health = c.self.inside.health; failures = c.self.inside.failures }) c.self.inside.shape.pages c.args.block (rw (← c.self.view_is) at c.requires.erasable) in
    let number : c.on_part-on.result ≡ on_part c.self.inside.table c.args.block = c.on_part-on.ensures.number in
    let after : g.D.WearingNand.blocks c.erase_slot.new.self ≡ blocks_after_slot erased.Partly (g.D.WearingNand.blocks c.self.inside.part) (on_part c.self.inside.table c.args.block) =
    c.in-Ok-Partly.ensures.blocks ∙ (ap (λ (e : Erased). blocks_after_slot e (g.D.WearingNand.blocks c.self.inside.part) c.on_part-on.result) c.in-Ok-Partly.field-0-is
    ∙ ap (λ (x : ℕ). blocks_after_slot erased.Partly (g.D.WearingNand.blocks c.self.inside.part) x) number) in
    slot_sound g.D.WearingNand.shape_of g.D.WearingNand.blocks g.D.WearingNand.faulted g.D.WearingNand.next g.D.WearingNand.spent g.D.WearingNand.keeps_labels (record { part = c.self.inside.part; shape = c.self.inside.shape; table = c.self.inside.table; erases = c.self.inside.erases.items; health = c.self.inside.health; failures = c.self.inside.failures }) c.self.invariant c.on_part-on.ensures.sound c.in-Working.is c.args.block here erased.Partly c.erase_slot.new.self after c.self.inside.erases.items c.self.invariant.counted (whole g.D.WearingNand.shape_of g.D.WearingNand.blocks g.D.WearingNand.faulted g.D.WearingNand.next g.D.WearingNand.spent g.D.WearingNand.keeps_labels (record { part = c.self.inside.part; shape = c.self.inside.shape; table = c.self.inside.table; erases = c.self.inside.erases.items; health = c.self.inside.health; failures = c.self.inside.failures }) c.self.invariant c.on_part-on.ensures.sound c.in-Working.is c.args.block here) c.in-Ok-Partly.ensures.faults.well c.erase_slot.ensures.shape

pub returns-in-Ok-Partly-clause-last : goal.returns-in-Ok-Partly-clause-last
returns-in-Ok-Partly-clause-last g c =
    let here = erasable_here g.D.WearingNand.blocks (record { part = c.self.inside.part; shape = c.self.inside.shape; table = c.self.inside.table; erases = c.self.inside.erases.items; health = c.self.inside.health; failures = c.self.inside.failures }) c.self.inside.shape.pages c.args.block (rw (← c.self.view_is) at c.requires.erasable) in
    let number : c.on_part-on.result ≡ on_part c.self.inside.table c.args.block = c.on_part-on.ensures.number in
    let last : false ≡ ((numbered g.D.WearingNand.blocks (record { part = c.self.inside.part; shape = c.self.inside.shape; table = c.self.inside.table; erases = c.self.inside.erases.items; health = c.self.inside.health; failures = c.self.inside.failures }) c.args.block).erasing + 1 == (g.D.WearingNand.shape_of c.self.inside.part).erase_slots) =
    ap is_last_slot (sym c.in-Ok-Partly.field-0-is) ∙ (c.in-Ok-Partly.ensures.last
    ∙ ap (λ (x : ℕ). (part_block (g.D.WearingNand.blocks c.self.inside.part) x).erasing + 1 == (g.D.WearingNand.shape_of c.self.inside.part).erase_slots) number) in
    rw (← c.self.view_is) (last_is g.D.WearingNand.shape_of g.D.WearingNand.blocks g.D.WearingNand.faulted g.D.WearingNand.next g.D.WearingNand.spent g.D.WearingNand.keeps_labels (record { part = c.self.inside.part; shape = c.self.inside.shape; table = c.self.inside.table; erases = c.self.inside.erases.items; health = c.self.inside.health; failures = c.self.inside.failures }) c.self.invariant c.on_part-on.ensures.sound c.in-Working.is c.args.block here erased.Partly last)

pub returns-in-Ok-Partly-clause-blocks : goal.returns-in-Ok-Partly-clause-blocks
returns-in-Ok-Partly-clause-blocks g c =
    let here = erasable_here g.D.WearingNand.blocks (record { part = c.self.inside.part; shape = c.self.inside.shape; table = c.self.inside.table; erases = c.self.inside.erases.items; health = c.self.inside.health; failures = c.self.inside.failures }) c.self.inside.shape.pages c.args.block (rw (← c.self.view_is) at c.requires.erasable) in
    let number : c.on_part-on.result ≡ on_part c.self.inside.table c.args.block = c.on_part-on.ensures.number in
    let after : g.D.WearingNand.blocks c.erase_slot.new.self ≡ blocks_after_slot erased.Partly (g.D.WearingNand.blocks c.self.inside.part) (on_part c.self.inside.table c.args.block) =
    c.in-Ok-Partly.ensures.blocks ∙ (ap (λ (e : Erased). blocks_after_slot e (g.D.WearingNand.blocks c.self.inside.part) c.on_part-on.result) c.in-Ok-Partly.field-0-is
    ∙ ap (λ (x : ℕ). blocks_after_slot erased.Partly (g.D.WearingNand.blocks c.self.inside.part) x) number) in
    let last : false ≡ ((numbered g.D.WearingNand.blocks (record { part = c.self.inside.part; shape = c.self.inside.shape; table = c.self.inside.table; erases = c.self.inside.erases.items; health = c.self.inside.health; failures = c.self.inside.failures }) c.args.block).erasing + 1 == (g.D.WearingNand.shape_of c.self.inside.part).erase_slots) =
    ap is_last_slot (sym c.in-Ok-Partly.field-0-is) ∙ (c.in-Ok-Partly.ensures.last
    ∙ ap (λ (x : ℕ). (part_block (g.D.WearingNand.blocks c.self.inside.part) x).erasing + 1 == (g.D.WearingNand.shape_of c.self.inside.part).erase_slots) number) in
    rw (← c.self.view_is) (partly_blocks g.D.WearingNand.shape_of g.D.WearingNand.blocks g.D.WearingNand.faulted g.D.WearingNand.next g.D.WearingNand.spent g.D.WearingNand.keeps_labels (record { part = c.self.inside.part; shape = c.self.inside.shape; table = c.self.inside.table; erases = c.self.inside.erases.items; health = c.self.inside.health; failures = c.self.inside.failures }) c.self.invariant c.on_part-on.ensures.sound c.in-Working.is c.args.block here c.erase_slot.new.self after last)

pub returns-in-Ok-Partly-clause-ends : goal.returns-in-Ok-Partly-clause-ends
returns-in-Ok-Partly-clause-ends g c =
    let here = erasable_here g.D.WearingNand.blocks (record { part = c.self.inside.part; shape = c.self.inside.shape; table = c.self.inside.table; erases = c.self.inside.erases.items; health = c.self.inside.health; failures = c.self.inside.failures }) c.self.inside.shape.pages c.args.block (rw (← c.self.view_is) at c.requires.erasable) in
    let number : c.on_part-on.result ≡ on_part c.self.inside.table c.args.block = c.on_part-on.ensures.number in
    let after : g.D.WearingNand.blocks c.erase_slot.new.self ≡ blocks_after_slot erased.Partly (g.D.WearingNand.blocks c.self.inside.part) (on_part c.self.inside.table c.args.block) =
    c.in-Ok-Partly.ensures.blocks ∙ (ap (λ (e : Erased). blocks_after_slot e (g.D.WearingNand.blocks c.self.inside.part) c.on_part-on.result) c.in-Ok-Partly.field-0-is
    ∙ ap (λ (x : ℕ). blocks_after_slot erased.Partly (g.D.WearingNand.blocks c.self.inside.part) x) number) in
    let last : false ≡ ((numbered g.D.WearingNand.blocks (record { part = c.self.inside.part; shape = c.self.inside.shape; table = c.self.inside.table; erases = c.self.inside.erases.items; health = c.self.inside.health; failures = c.self.inside.failures }) c.args.block).erasing + 1 == (g.D.WearingNand.shape_of c.self.inside.part).erase_slots) =
    ap is_last_slot (sym c.in-Ok-Partly.field-0-is) ∙ (c.in-Ok-Partly.ensures.last
    ∙ ap (λ (x : ℕ). (part_block (g.D.WearingNand.blocks c.self.inside.part) x).erasing + 1 == (g.D.WearingNand.shape_of c.self.inside.part).erase_slots) number) in
    rw (← c.self.view_is) (slot_ends g.D.WearingNand.shape_of g.D.WearingNand.blocks g.D.WearingNand.faulted g.D.WearingNand.next g.D.WearingNand.spent g.D.WearingNand.keeps_labels (record { part = c.self.inside.part; shape = c.self.inside.shape; table = c.self.inside.table; erases = c.self.inside.erases.items; health = c.self.inside.health; failures = c.self.inside.failures }) c.self.invariant c.on_part-on.ensures.sound c.in-Working.is c.args.block here erased.Partly c.erase_slot.new.self after c.self.inside.erases.items c.self.invariant.counted (whole g.D.WearingNand.shape_of g.D.WearingNand.blocks g.D.WearingNand.faulted g.D.WearingNand.next g.D.WearingNand.spent g.D.WearingNand.keeps_labels (record { part = c.self.inside.part; shape = c.self.inside.shape; table = c.self.inside.table; erases = c.self.inside.erases.items; health = c.self.inside.health; failures = c.self.inside.failures }) c.self.invariant c.on_part-on.ensures.sound c.in-Working.is c.args.block here) last c.in-Ok-Partly.ensures.next c.erase_slot.ensures.spent)

pub count_erase-requires-clause-block : goal.count_erase-requires-clause-block
count_erase-requires-clause-block g c =
    let here = erasable_here g.D.WearingNand.blocks (record { part = c.self.inside.part; shape = c.self.inside.shape; table = c.self.inside.table; erases = c.self.inside.erases.items; health = c.self.inside.health; failures = c.self.inside.failures }) c.self.inside.shape.pages c.args.block (rw (← c.self.view_is) at c.requires.erasable) in
    omega (arith, here.lt, c.self.invariant.counted)

pub count_erase-requires-clause-few : goal.count_erase-requires-clause-few
count_erase-requires-clause-few g c =
    let here = erasable_here g.D.WearingNand.blocks (record { part = c.self.inside.part; shape = c.self.inside.shape; table = c.self.inside.table; erases = c.self.inside.erases.items; health = c.self.inside.health; failures = c.self.inside.failures }) c.self.inside.shape.pages c.args.block (rw (← c.self.view_is) at c.requires.erasable) in
    here.few_erases

pub invariant_of-self-in-Ok-Wholly : goal.invariant_of-self-in-Ok-Wholly
invariant_of-self-in-Ok-Wholly g c =
    let here = erasable_here g.D.WearingNand.blocks (record { part = c.self.inside.part; shape = c.self.inside.shape; table = c.self.inside.table; erases = c.self.inside.erases.items; health = c.self.inside.health; failures = c.self.inside.failures }) c.self.inside.shape.pages c.args.block (rw (← c.self.view_is) at c.requires.erasable) in
    let number : c.on_part-on.result ≡ on_part c.self.inside.table c.args.block = c.on_part-on.ensures.number in
    let after : g.D.WearingNand.blocks c.erase_slot.new.self ≡ blocks_after_slot erased.Wholly (g.D.WearingNand.blocks c.self.inside.part) (on_part c.self.inside.table c.args.block) =
    c.in-Ok-Wholly.ensures.blocks ∙ (ap (λ (e : Erased). blocks_after_slot e (g.D.WearingNand.blocks c.self.inside.part) c.on_part-on.result) c.in-Ok-Wholly.field-0-is
    ∙ ap (λ (x : ℕ). blocks_after_slot erased.Wholly (g.D.WearingNand.blocks c.self.inside.part) x) number) in
    subst (λ (l : List ℕ). IsSoundSpared g.D.WearingNand.shape_of g.D.WearingNand.blocks g.D.WearingNand.faulted (record { part = c.erase_slot.new.self; shape = c.self.inside.shape; table = c.self.inside.table; erases = l; health = c.self.inside.health; failures = c.self.inside.failures })) (sym c.count_erase.ensures)
    (slot_sound g.D.WearingNand.shape_of g.D.WearingNand.blocks g.D.WearingNand.faulted g.D.WearingNand.next g.D.WearingNand.spent g.D.WearingNand.keeps_labels (record { part = c.self.inside.part; shape = c.self.inside.shape; table = c.self.inside.table; erases = c.self.inside.erases.items; health = c.self.inside.health; failures = c.self.inside.failures }) c.self.invariant c.on_part-on.ensures.sound c.in-Working.is c.args.block here erased.Wholly c.erase_slot.new.self after (set c.self.inside.erases.items c.args.block (get_or c.self.inside.erases.items c.args.block 0 + 1)) (length-set c.self.inside.erases.items c.args.block (get_or c.self.inside.erases.items c.args.block 0 + 1) ∙ c.self.invariant.counted) refl c.in-Ok-Wholly.ensures.faults.well c.erase_slot.ensures.shape)

pub returns-in-Ok-Wholly-clause-last : goal.returns-in-Ok-Wholly-clause-last
returns-in-Ok-Wholly-clause-last g c =
    let here = erasable_here g.D.WearingNand.blocks (record { part = c.self.inside.part; shape = c.self.inside.shape; table = c.self.inside.table; erases = c.self.inside.erases.items; health = c.self.inside.health; failures = c.self.inside.failures }) c.self.inside.shape.pages c.args.block (rw (← c.self.view_is) at c.requires.erasable) in
    let number : c.on_part-on.result ≡ on_part c.self.inside.table c.args.block = c.on_part-on.ensures.number in
    let last : true ≡ ((numbered g.D.WearingNand.blocks (record { part = c.self.inside.part; shape = c.self.inside.shape; table = c.self.inside.table; erases = c.self.inside.erases.items; health = c.self.inside.health; failures = c.self.inside.failures }) c.args.block).erasing + 1 == (g.D.WearingNand.shape_of c.self.inside.part).erase_slots) =
    ap is_last_slot (sym c.in-Ok-Wholly.field-0-is) ∙ (c.in-Ok-Wholly.ensures.last
    ∙ ap (λ (x : ℕ). (part_block (g.D.WearingNand.blocks c.self.inside.part) x).erasing + 1 == (g.D.WearingNand.shape_of c.self.inside.part).erase_slots) number) in
    rw (← c.self.view_is) (last_is g.D.WearingNand.shape_of g.D.WearingNand.blocks g.D.WearingNand.faulted g.D.WearingNand.next g.D.WearingNand.spent g.D.WearingNand.keeps_labels (record { part = c.self.inside.part; shape = c.self.inside.shape; table = c.self.inside.table; erases = c.self.inside.erases.items; health = c.self.inside.health; failures = c.self.inside.failures }) c.self.invariant c.on_part-on.ensures.sound c.in-Working.is c.args.block here erased.Wholly last)

pub returns-in-Ok-Wholly-clause-blocks : goal.returns-in-Ok-Wholly-clause-blocks
returns-in-Ok-Wholly-clause-blocks g c =
    let here = erasable_here g.D.WearingNand.blocks (record { part = c.self.inside.part; shape = c.self.inside.shape; table = c.self.inside.table; erases = c.self.inside.erases.items; health = c.self.inside.health; failures = c.self.inside.failures }) c.self.inside.shape.pages c.args.block (rw (← c.self.view_is) at c.requires.erasable) in
    let number : c.on_part-on.result ≡ on_part c.self.inside.table c.args.block = c.on_part-on.ensures.number in
    let after : g.D.WearingNand.blocks c.erase_slot.new.self ≡ blocks_after_slot erased.Wholly (g.D.WearingNand.blocks c.self.inside.part) (on_part c.self.inside.table c.args.block) =
    c.in-Ok-Wholly.ensures.blocks ∙ (ap (λ (e : Erased). blocks_after_slot e (g.D.WearingNand.blocks c.self.inside.part) c.on_part-on.result) c.in-Ok-Wholly.field-0-is
    ∙ ap (λ (x : ℕ). blocks_after_slot erased.Wholly (g.D.WearingNand.blocks c.self.inside.part) x) number) in
    let last : true ≡ ((numbered g.D.WearingNand.blocks (record { part = c.self.inside.part; shape = c.self.inside.shape; table = c.self.inside.table; erases = c.self.inside.erases.items; health = c.self.inside.health; failures = c.self.inside.failures }) c.args.block).erasing + 1 == (g.D.WearingNand.shape_of c.self.inside.part).erase_slots) =
    ap is_last_slot (sym c.in-Ok-Wholly.field-0-is) ∙ (c.in-Ok-Wholly.ensures.last
    ∙ ap (λ (x : ℕ). (part_block (g.D.WearingNand.blocks c.self.inside.part) x).erasing + 1 == (g.D.WearingNand.shape_of c.self.inside.part).erase_slots) number) in
    rw (← c.self.view_is) (subst (λ (l : List ℕ). spared_blocks g.D.WearingNand.blocks (record { part = c.erase_slot.new.self; shape = c.self.inside.shape; table = c.self.inside.table; erases = l; health = c.self.inside.health; failures = c.self.inside.failures }) ≡ blocks_after_erase_slot (spared_blocks g.D.WearingNand.blocks (record { part = c.self.inside.part; shape = c.self.inside.shape; table = c.self.inside.table; erases = c.self.inside.erases.items; health = c.self.inside.health; failures = c.self.inside.failures })) c.self.inside.shape.erase_slots c.args.block) (sym c.count_erase.ensures)
    (wholly_blocks g.D.WearingNand.shape_of g.D.WearingNand.blocks g.D.WearingNand.faulted g.D.WearingNand.next g.D.WearingNand.spent g.D.WearingNand.keeps_labels (record { part = c.self.inside.part; shape = c.self.inside.shape; table = c.self.inside.table; erases = c.self.inside.erases.items; health = c.self.inside.health; failures = c.self.inside.failures }) c.self.invariant c.on_part-on.ensures.sound c.in-Working.is c.args.block here c.erase_slot.new.self after last))

pub returns-in-Ok-Wholly-clause-ends : goal.returns-in-Ok-Wholly-clause-ends
returns-in-Ok-Wholly-clause-ends g c =
    let here = erasable_here g.D.WearingNand.blocks (record { part = c.self.inside.part; shape = c.self.inside.shape; table = c.self.inside.table; erases = c.self.inside.erases.items; health = c.self.inside.health; failures = c.self.inside.failures }) c.self.inside.shape.pages c.args.block (rw (← c.self.view_is) at c.requires.erasable) in
    let number : c.on_part-on.result ≡ on_part c.self.inside.table c.args.block = c.on_part-on.ensures.number in
    let after : g.D.WearingNand.blocks c.erase_slot.new.self ≡ blocks_after_slot erased.Wholly (g.D.WearingNand.blocks c.self.inside.part) (on_part c.self.inside.table c.args.block) =
    c.in-Ok-Wholly.ensures.blocks ∙ (ap (λ (e : Erased). blocks_after_slot e (g.D.WearingNand.blocks c.self.inside.part) c.on_part-on.result) c.in-Ok-Wholly.field-0-is
    ∙ ap (λ (x : ℕ). blocks_after_slot erased.Wholly (g.D.WearingNand.blocks c.self.inside.part) x) number) in
    let last : true ≡ ((numbered g.D.WearingNand.blocks (record { part = c.self.inside.part; shape = c.self.inside.shape; table = c.self.inside.table; erases = c.self.inside.erases.items; health = c.self.inside.health; failures = c.self.inside.failures }) c.args.block).erasing + 1 == (g.D.WearingNand.shape_of c.self.inside.part).erase_slots) =
    ap is_last_slot (sym c.in-Ok-Wholly.field-0-is) ∙ (c.in-Ok-Wholly.ensures.last
    ∙ ap (λ (x : ℕ). (part_block (g.D.WearingNand.blocks c.self.inside.part) x).erasing + 1 == (g.D.WearingNand.shape_of c.self.inside.part).erase_slots) number) in
    rw (← c.self.view_is) (subst (λ (l : List ℕ). EndsSpared g.D.WearingNand.blocks g.D.WearingNand.next g.D.WearingNand.spent g.D.WearingNand.keeps_labels (record { part = c.self.inside.part; shape = c.self.inside.shape; table = c.self.inside.table; erases = c.self.inside.erases.items; health = c.self.inside.health; failures = c.self.inside.failures }) (calls.EraseSlot c.args.block) true (record { part = c.erase_slot.new.self; shape = c.self.inside.shape; table = c.self.inside.table; erases = l; health = c.self.inside.health; failures = c.self.inside.failures })) (sym c.count_erase.ensures)
    (slot_ends g.D.WearingNand.shape_of g.D.WearingNand.blocks g.D.WearingNand.faulted g.D.WearingNand.next g.D.WearingNand.spent g.D.WearingNand.keeps_labels (record { part = c.self.inside.part; shape = c.self.inside.shape; table = c.self.inside.table; erases = c.self.inside.erases.items; health = c.self.inside.health; failures = c.self.inside.failures }) c.self.invariant c.on_part-on.ensures.sound c.in-Working.is c.args.block here erased.Wholly c.erase_slot.new.self after (set c.self.inside.erases.items c.args.block (get_or c.self.inside.erases.items c.args.block 0 + 1)) (length-set c.self.inside.erases.items c.args.block (get_or c.self.inside.erases.items c.args.block 0 + 1) ∙ c.self.invariant.counted) refl last c.in-Ok-Wholly.ensures.next c.erase_slot.ensures.spent))

pub replace-requires-clause-block : goal.replace-requires-clause-block
replace-requires-clause-block g c =
    let here = erasable_here g.D.WearingNand.blocks (record { part = c.self.inside.part; shape = c.self.inside.shape; table = c.self.inside.table; erases = c.self.inside.erases.items; health = c.self.inside.health; failures = c.self.inside.failures }) c.self.inside.shape.pages c.args.block (rw (← c.self.view_is) at c.requires.erasable) in
    omega (arith, here.lt, c.self.invariant.count)

pub count_erase-requires-in-Some-clause-block : goal.count_erase-requires-in-Some-clause-block
count_erase-requires-in-Some-clause-block g c =
    let here = erasable_here g.D.WearingNand.blocks (record { part = c.self.inside.part; shape = c.self.inside.shape; table = c.self.inside.table; erases = c.self.inside.erases.items; health = c.self.inside.health; failures = c.self.inside.failures }) c.self.inside.shape.pages c.args.block (rw (← c.self.view_is) at c.requires.erasable) in
    omega (arith, here.lt, c.self.invariant.counted)

pub count_erase-requires-in-Some-clause-few : goal.count_erase-requires-in-Some-clause-few
count_erase-requires-in-Some-clause-few g c =
    let here = erasable_here g.D.WearingNand.blocks (record { part = c.self.inside.part; shape = c.self.inside.shape; table = c.self.inside.table; erases = c.self.inside.erases.items; health = c.self.inside.health; failures = c.self.inside.failures }) c.self.inside.shape.pages c.args.block (rw (← c.self.view_is) at c.requires.erasable) in
    here.few_erases

pub invariant_of-self-in-Some : goal.invariant_of-self-in-Some
invariant_of-self-in-Some g c =
    let here = erasable_here g.D.WearingNand.blocks (record { part = c.self.inside.part; shape = c.self.inside.shape; table = c.self.inside.table; erases = c.self.inside.erases.items; health = c.self.inside.health; failures = c.self.inside.failures }) c.self.inside.shape.pages c.args.block (rw (← c.self.view_is) at c.requires.erasable) in
    let number : c.on_part-on.result ≡ on_part c.self.inside.table c.args.block = c.on_part-on.ensures.number in
    let after : g.D.WearingNand.blocks c.erase_slot.new.self ≡ blocks_after_slot erased.Failed (g.D.WearingNand.blocks c.self.inside.part) (on_part c.self.inside.table c.args.block) =
    c.in-Ok-Failed.ensures.blocks ∙ (ap (λ (e : Erased). blocks_after_slot e (g.D.WearingNand.blocks c.self.inside.part) c.on_part-on.result) c.in-Ok-Failed.field-0-is
    ∙ ap (λ (x : ℕ). blocks_after_slot erased.Failed (g.D.WearingNand.blocks c.self.inside.part) x) number) in
    subst (λ (l : List ℕ). IsSoundSpared g.D.WearingNand.shape_of g.D.WearingNand.blocks g.D.WearingNand.faulted (record { part = c.erase_slot.new.self; shape = c.self.inside.shape; table = c.replace.new.self; erases = l; health = c.self.inside.health; failures = c.self.inside.failures })) (sym c.count_erase-in-Some.ensures)
    (subst (λ (t : Table). IsSoundSpared g.D.WearingNand.shape_of g.D.WearingNand.blocks g.D.WearingNand.faulted (record { part = c.erase_slot.new.self; shape = c.self.inside.shape; table = t; erases = (set c.self.inside.erases.items c.args.block (get_or c.self.inside.erases.items c.args.block 0 + 1)); health = c.self.inside.health; failures = c.self.inside.failures })) (sym c.replace.ensures.replaced) (spare_sound g.D.WearingNand.shape_of g.D.WearingNand.blocks g.D.WearingNand.faulted g.D.WearingNand.next g.D.WearingNand.spent g.D.WearingNand.keeps_labels (record { part = c.self.inside.part; shape = c.self.inside.shape; table = c.self.inside.table; erases = c.self.inside.erases.items; health = c.self.inside.health; failures = c.self.inside.failures }) c.self.invariant c.on_part-on.ensures.sound c.in-Working.is c.args.block here c.erase_slot.new.self after c.in-Some.spare c.in-Some.ensures.spare c.in-Ok-Failed.ensures.faults.well c.erase_slot.ensures.shape))

pub returns-in-Some-clause-last : goal.returns-in-Some-clause-last
returns-in-Some-clause-last g c =
    let here = erasable_here g.D.WearingNand.blocks (record { part = c.self.inside.part; shape = c.self.inside.shape; table = c.self.inside.table; erases = c.self.inside.erases.items; health = c.self.inside.health; failures = c.self.inside.failures }) c.self.inside.shape.pages c.args.block (rw (← c.self.view_is) at c.requires.erasable) in
    let number : c.on_part-on.result ≡ on_part c.self.inside.table c.args.block = c.on_part-on.ensures.number in
    let last : true ≡ ((numbered g.D.WearingNand.blocks (record { part = c.self.inside.part; shape = c.self.inside.shape; table = c.self.inside.table; erases = c.self.inside.erases.items; health = c.self.inside.health; failures = c.self.inside.failures }) c.args.block).erasing + 1 == (g.D.WearingNand.shape_of c.self.inside.part).erase_slots) =
    ap is_last_slot (sym c.in-Ok-Failed.field-0-is) ∙ (c.in-Ok-Failed.ensures.last
    ∙ ap (λ (x : ℕ). (part_block (g.D.WearingNand.blocks c.self.inside.part) x).erasing + 1 == (g.D.WearingNand.shape_of c.self.inside.part).erase_slots) number) in
    rw (← c.self.view_is) (last_is g.D.WearingNand.shape_of g.D.WearingNand.blocks g.D.WearingNand.faulted g.D.WearingNand.next g.D.WearingNand.spent g.D.WearingNand.keeps_labels (record { part = c.self.inside.part; shape = c.self.inside.shape; table = c.self.inside.table; erases = c.self.inside.erases.items; health = c.self.inside.health; failures = c.self.inside.failures }) c.self.invariant c.on_part-on.ensures.sound c.in-Working.is c.args.block here erased.Failed last)

pub returns-in-Some-clause-blocks : goal.returns-in-Some-clause-blocks
returns-in-Some-clause-blocks g c =
    let here = erasable_here g.D.WearingNand.blocks (record { part = c.self.inside.part; shape = c.self.inside.shape; table = c.self.inside.table; erases = c.self.inside.erases.items; health = c.self.inside.health; failures = c.self.inside.failures }) c.self.inside.shape.pages c.args.block (rw (← c.self.view_is) at c.requires.erasable) in
    let number : c.on_part-on.result ≡ on_part c.self.inside.table c.args.block = c.on_part-on.ensures.number in
    let after : g.D.WearingNand.blocks c.erase_slot.new.self ≡ blocks_after_slot erased.Failed (g.D.WearingNand.blocks c.self.inside.part) (on_part c.self.inside.table c.args.block) =
    c.in-Ok-Failed.ensures.blocks ∙ (ap (λ (e : Erased). blocks_after_slot e (g.D.WearingNand.blocks c.self.inside.part) c.on_part-on.result) c.in-Ok-Failed.field-0-is
    ∙ ap (λ (x : ℕ). blocks_after_slot erased.Failed (g.D.WearingNand.blocks c.self.inside.part) x) number) in
    let last : true ≡ ((numbered g.D.WearingNand.blocks (record { part = c.self.inside.part; shape = c.self.inside.shape; table = c.self.inside.table; erases = c.self.inside.erases.items; health = c.self.inside.health; failures = c.self.inside.failures }) c.args.block).erasing + 1 == (g.D.WearingNand.shape_of c.self.inside.part).erase_slots) =
    ap is_last_slot (sym c.in-Ok-Failed.field-0-is) ∙ (c.in-Ok-Failed.ensures.last
    ∙ ap (λ (x : ℕ). (part_block (g.D.WearingNand.blocks c.self.inside.part) x).erasing + 1 == (g.D.WearingNand.shape_of c.self.inside.part).erase_slots) number) in
    rw (← c.self.view_is) (subst (λ (l : List ℕ). spared_blocks g.D.WearingNand.blocks (record { part = c.erase_slot.new.self; shape = c.self.inside.shape; table = c.replace.new.self; erases = l; health = c.self.inside.health; failures = c.self.inside.failures }) ≡ blocks_after_erase_slot (spared_blocks g.D.WearingNand.blocks (record { part = c.self.inside.part; shape = c.self.inside.shape; table = c.self.inside.table; erases = c.self.inside.erases.items; health = c.self.inside.health; failures = c.self.inside.failures })) c.self.inside.shape.erase_slots c.args.block) (sym c.count_erase-in-Some.ensures)
    (subst (λ (t : Table). spared_blocks g.D.WearingNand.blocks (record { part = c.erase_slot.new.self; shape = c.self.inside.shape; table = t; erases = (set c.self.inside.erases.items c.args.block (get_or c.self.inside.erases.items c.args.block 0 + 1)); health = c.self.inside.health; failures = c.self.inside.failures }) ≡ blocks_after_erase_slot (spared_blocks g.D.WearingNand.blocks (record { part = c.self.inside.part; shape = c.self.inside.shape; table = c.self.inside.table; erases = c.self.inside.erases.items; health = c.self.inside.health; failures = c.self.inside.failures })) c.self.inside.shape.erase_slots c.args.block) (sym c.replace.ensures.replaced) (spare_blocks g.D.WearingNand.shape_of g.D.WearingNand.blocks g.D.WearingNand.faulted g.D.WearingNand.next g.D.WearingNand.spent g.D.WearingNand.keeps_labels (record { part = c.self.inside.part; shape = c.self.inside.shape; table = c.self.inside.table; erases = c.self.inside.erases.items; health = c.self.inside.health; failures = c.self.inside.failures }) c.self.invariant c.on_part-on.ensures.sound c.in-Working.is c.args.block here c.erase_slot.new.self after c.in-Some.spare c.in-Some.ensures.spare last)))

pub returns-in-Some-clause-ends : goal.returns-in-Some-clause-ends
returns-in-Some-clause-ends g c =
    let here = erasable_here g.D.WearingNand.blocks (record { part = c.self.inside.part; shape = c.self.inside.shape; table = c.self.inside.table; erases = c.self.inside.erases.items; health = c.self.inside.health; failures = c.self.inside.failures }) c.self.inside.shape.pages c.args.block (rw (← c.self.view_is) at c.requires.erasable) in
    let number : c.on_part-on.result ≡ on_part c.self.inside.table c.args.block = c.on_part-on.ensures.number in
    let after : g.D.WearingNand.blocks c.erase_slot.new.self ≡ blocks_after_slot erased.Failed (g.D.WearingNand.blocks c.self.inside.part) (on_part c.self.inside.table c.args.block) =
    c.in-Ok-Failed.ensures.blocks ∙ (ap (λ (e : Erased). blocks_after_slot e (g.D.WearingNand.blocks c.self.inside.part) c.on_part-on.result) c.in-Ok-Failed.field-0-is
    ∙ ap (λ (x : ℕ). blocks_after_slot erased.Failed (g.D.WearingNand.blocks c.self.inside.part) x) number) in
    let last : true ≡ ((numbered g.D.WearingNand.blocks (record { part = c.self.inside.part; shape = c.self.inside.shape; table = c.self.inside.table; erases = c.self.inside.erases.items; health = c.self.inside.health; failures = c.self.inside.failures }) c.args.block).erasing + 1 == (g.D.WearingNand.shape_of c.self.inside.part).erase_slots) =
    ap is_last_slot (sym c.in-Ok-Failed.field-0-is) ∙ (c.in-Ok-Failed.ensures.last
    ∙ ap (λ (x : ℕ). (part_block (g.D.WearingNand.blocks c.self.inside.part) x).erasing + 1 == (g.D.WearingNand.shape_of c.self.inside.part).erase_slots) number) in
    rw (← c.self.view_is) (subst (λ (l : List ℕ). EndsSpared g.D.WearingNand.blocks g.D.WearingNand.next g.D.WearingNand.spent g.D.WearingNand.keeps_labels (record { part = c.self.inside.part; shape = c.self.inside.shape; table = c.self.inside.table; erases = c.self.inside.erases.items; health = c.self.inside.health; failures = c.self.inside.failures }) (calls.EraseSlot c.args.block) true (record { part = c.erase_slot.new.self; shape = c.self.inside.shape; table = c.replace.new.self; erases = l; health = c.self.inside.health; failures = c.self.inside.failures })) (sym c.count_erase-in-Some.ensures)
    (subst (λ (t : Table). EndsSpared g.D.WearingNand.blocks g.D.WearingNand.next g.D.WearingNand.spent g.D.WearingNand.keeps_labels (record { part = c.self.inside.part; shape = c.self.inside.shape; table = c.self.inside.table; erases = c.self.inside.erases.items; health = c.self.inside.health; failures = c.self.inside.failures }) (calls.EraseSlot c.args.block) true (record { part = c.erase_slot.new.self; shape = c.self.inside.shape; table = t; erases = (set c.self.inside.erases.items c.args.block (get_or c.self.inside.erases.items c.args.block 0 + 1)); health = c.self.inside.health; failures = c.self.inside.failures })) (sym c.replace.ensures.replaced) (spare_ends g.D.WearingNand.shape_of g.D.WearingNand.blocks g.D.WearingNand.faulted g.D.WearingNand.next g.D.WearingNand.spent g.D.WearingNand.keeps_labels (record { part = c.self.inside.part; shape = c.self.inside.shape; table = c.self.inside.table; erases = c.self.inside.erases.items; health = c.self.inside.health; failures = c.self.inside.failures }) c.self.invariant c.on_part-on.ensures.sound c.in-Working.is c.args.block here c.erase_slot.new.self after c.in-Some.spare c.in-Some.ensures.spare last c.in-Ok-Failed.ensures.next c.erase_slot.ensures.spent)))

pub invariant_of-self-in-None : goal.invariant_of-self-in-None
invariant_of-self-in-None g c =
    let here = erasable_here g.D.WearingNand.blocks (record { part = c.self.inside.part; shape = c.self.inside.shape; table = c.self.inside.table; erases = c.self.inside.erases.items; health = c.self.inside.health; failures = c.self.inside.failures }) c.self.inside.shape.pages c.args.block (rw (← c.self.view_is) at c.requires.erasable) in
    let number : c.on_part-on.result ≡ on_part c.self.inside.table c.args.block = c.on_part-on.ensures.number in
    let after : g.D.WearingNand.blocks c.erase_slot.new.self ≡ blocks_after_slot erased.Failed (g.D.WearingNand.blocks c.self.inside.part) (on_part c.self.inside.table c.args.block) =
    c.in-Ok-Failed.ensures.blocks ∙ (ap (λ (e : Erased). blocks_after_slot e (g.D.WearingNand.blocks c.self.inside.part) c.on_part-on.result) c.in-Ok-Failed.field-0-is
    ∙ ap (λ (x : ℕ). blocks_after_slot erased.Failed (g.D.WearingNand.blocks c.self.inside.part) x) number) in
    worn_erase_sound g.D.WearingNand.shape_of g.D.WearingNand.blocks g.D.WearingNand.faulted g.D.WearingNand.next g.D.WearingNand.spent g.D.WearingNand.keeps_labels (record { part = c.self.inside.part; shape = c.self.inside.shape; table = c.self.inside.table; erases = c.self.inside.erases.items; health = c.self.inside.health; failures = c.self.inside.failures }) c.self.invariant c.on_part-on.ensures.sound c.in-Working.is c.args.block here erased.Failed c.erase_slot.new.self after refl (rw c.in-None.is at c.first_spare.ensures.none) (c.self.inside.failures + 1) c.in-Ok-Failed.ensures.faults.well c.erase_slot.ensures.shape

pub returns-in-None-clause-ends : goal.returns-in-None-clause-ends
returns-in-None-clause-ends g c =
    let here = erasable_here g.D.WearingNand.blocks (record { part = c.self.inside.part; shape = c.self.inside.shape; table = c.self.inside.table; erases = c.self.inside.erases.items; health = c.self.inside.health; failures = c.self.inside.failures }) c.self.inside.shape.pages c.args.block (rw (← c.self.view_is) at c.requires.erasable) in
    let number : c.on_part-on.result ≡ on_part c.self.inside.table c.args.block = c.on_part-on.ensures.number in
    let after : g.D.WearingNand.blocks c.erase_slot.new.self ≡ blocks_after_slot erased.Failed (g.D.WearingNand.blocks c.self.inside.part) (on_part c.self.inside.table c.args.block) =
    c.in-Ok-Failed.ensures.blocks ∙ (ap (λ (e : Erased). blocks_after_slot e (g.D.WearingNand.blocks c.self.inside.part) c.on_part-on.result) c.in-Ok-Failed.field-0-is
    ∙ ap (λ (x : ℕ). blocks_after_slot erased.Failed (g.D.WearingNand.blocks c.self.inside.part) x) number) in
    rw (← c.self.view_is) (worn_erase g.D.WearingNand.shape_of g.D.WearingNand.blocks g.D.WearingNand.faulted g.D.WearingNand.next g.D.WearingNand.spent g.D.WearingNand.keeps_labels (record { part = c.self.inside.part; shape = c.self.inside.shape; table = c.self.inside.table; erases = c.self.inside.erases.items; health = c.self.inside.health; failures = c.self.inside.failures }) c.self.invariant c.on_part-on.ensures.sound c.in-Working.is c.args.block here erased.Failed c.erase_slot.new.self after refl (rw c.in-None.is at c.first_spare.ensures.none) (c.self.inside.failures + 1) c.erase_slot.ensures.spent)
