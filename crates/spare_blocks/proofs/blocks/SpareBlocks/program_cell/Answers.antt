use Rattle.std.proofs.Common.{◌≡◌, ℕ, ◌+◌, ◌*◌, ◌≤◌, ◌++◌, ◌∷◌, [], List, Option, Some, None, Ok, length, true, ap, sym, ◌∙◌, subst, arith}
use Rattle.slot_types.specs.declared.plans.Shape.{Shape}
use Rattle.flash_die.specs.Flash.{blocks_after_program}
use Rattle.flash_die.specs.declared.nand.NandCall.TheVariants as calls
use Rattle.spare_blocks.specs.declared.cells.Ended.{Ended}
use Rattle.spare_blocks.specs.declared.cells.Ended.TheVariants as ended
use Rattle.spare_blocks.specs.Parts.{part_block, programmed_cell, serial_after, IsFreeCell, blocks_after_program as part_after_program}
use Rattle.spare_blocks.specs.Spares.{spared_blocks, EndsSpared, IsSoundSpared}
use Rattle.spare_blocks.specs.Tables.{Table, on_part, use_of}
use Rattle.spare_blocks.specs.Trying.{IsSource, IsTriedOr, cost_with, serial_after_taken}
use Rattle.spare_blocks.proofs.PlanCells.{next_here}
use Rattle.spare_blocks.proofs.Programs.{free_cell, done_sound, done, done_blocks, spares_free, source, on_not_spare}
use Rattle.spare_blocks.proofs.Programs.{worn_program_sound, worn_program, taken_sound, taken_ends, taken_blocks}
use Rattle.spare_blocks.proofs.blocks.SpareBlocks.program_cell.Goals as goal

pub on_part-on-requires : goal.on_part-on-requires
on_part-on-requires g c =
    let here = next_here g.D.WearingNand.blocks (record { part = c.self.inside.part; shape = c.self.inside.shape; table = c.self.inside.table; erases = c.self.inside.erases.items; health = c.self.inside.health; failures = c.self.inside.failures }) c.self.inside.shape.pages c.args.place (rw (← c.self.view_is) at c.requires.next) in
    omega (arith, here.lt, c.self.invariant.count)

pub program-requires-clause-free : goal.program-requires-clause-free
program-requires-clause-free g c =
    let here = next_here g.D.WearingNand.blocks (record { part = c.self.inside.part; shape = c.self.inside.shape; table = c.self.inside.table; erases = c.self.inside.erases.items; health = c.self.inside.health; failures = c.self.inside.failures }) c.self.inside.shape.pages c.args.place (rw (← c.self.view_is) at c.requires.next) in
    let number : c.on_part-on.result ≡ on_part c.self.inside.table c.args.place.block = c.on_part-on.ensures.number in
    subst (λ (x : ℕ). IsFreeCell (g.D.WearingNand.blocks c.self.inside.part) (g.D.WearingNand.shape_of c.self.inside.part).pages (record { block = x; page = c.args.place.page }))
    (sym number) (free_cell g.D.WearingNand.shape_of g.D.WearingNand.blocks g.D.WearingNand.faulted g.D.WearingNand.next g.D.WearingNand.spent g.D.WearingNand.keeps_labels (record { part = c.self.inside.part; shape = c.self.inside.shape; table = c.self.inside.table; erases = c.self.inside.erases.items; health = c.self.inside.health; failures = c.self.inside.failures }) c.self.invariant c.on_part-on.ensures.sound c.in-Working.is c.args.place c.args.page c.args.bytes here)

pub invariant_of-self-in-Ok-Done : goal.invariant_of-self-in-Ok-Done
invariant_of-self-in-Ok-Done g c =
    let here = next_here g.D.WearingNand.blocks (record { part = c.self.inside.part; shape = c.self.inside.shape; table = c.self.inside.table; erases = c.self.inside.erases.items; health = c.self.inside.health; failures = c.self.inside.failures }) c.self.inside.shape.pages c.args.place (rw (← c.self.view_is) at c.requires.next) in
    let number : c.on_part-on.result ≡ on_part c.self.inside.table c.args.place.block = c.on_part-on.ensures.number in
    let after : g.D.WearingNand.blocks c.program.new.self ≡ part_after_program ended.Done (g.D.WearingNand.blocks c.self.inside.part) (on_part c.self.inside.table c.args.place.block) (programmed_cell g.D.WearingNand.keeps_labels (g.D.WearingNand.next c.self.inside.part) c.args.page c.args.bytes) =
    c.in-Ok-Done.ensures.blocks ∙ (ap (λ (e : Ended). part_after_program e (g.D.WearingNand.blocks c.self.inside.part) c.on_part-on.result (programmed_cell g.D.WearingNand.keeps_labels (g.D.WearingNand.next c.self.inside.part) c.args.page c.args.bytes)) c.in-Ok-Done.field-0-is
    ∙ ap (λ (x : ℕ). part_after_program ended.Done (g.D.WearingNand.blocks c.self.inside.part) x (programmed_cell g.D.WearingNand.keeps_labels (g.D.WearingNand.next c.self.inside.part) c.args.page c.args.bytes)) number) in
    let serial : g.D.WearingNand.next c.program.new.self ≡ serial_after ended.Done c.args.page (g.D.WearingNand.next c.self.inside.part) =
    c.in-Ok-Done.ensures.next ∙ ap (λ (e : Ended). serial_after e c.args.page (g.D.WearingNand.next c.self.inside.part)) c.in-Ok-Done.field-0-is in
    done_sound g.D.WearingNand.shape_of g.D.WearingNand.blocks g.D.WearingNand.faulted g.D.WearingNand.next g.D.WearingNand.spent g.D.WearingNand.keeps_labels (record { part = c.self.inside.part; shape = c.self.inside.shape; table = c.self.inside.table; erases = c.self.inside.erases.items; health = c.self.inside.health; failures = c.self.inside.failures }) c.self.invariant c.on_part-on.ensures.sound c.in-Working.is c.args.place c.args.page c.args.bytes here c.program.new.self after c.in-Ok-Done.ensures.faults.well c.program.ensures.shape

pub fill_a_spare-requires-clause-free : goal.fill_a_spare-requires-clause-free
fill_a_spare-requires-clause-free g c =
    let here = next_here g.D.WearingNand.blocks (record { part = c.self.inside.part; shape = c.self.inside.shape; table = c.self.inside.table; erases = c.self.inside.erases.items; health = c.self.inside.health; failures = c.self.inside.failures }) c.self.inside.shape.pages c.args.place (rw (← c.self.view_is) at c.requires.next) in
    let number : c.on_part-on.result ≡ on_part c.self.inside.table c.args.place.block = c.on_part-on.ensures.number in
    let after : g.D.WearingNand.blocks c.program.new.self ≡ part_after_program ended.Failed (g.D.WearingNand.blocks c.self.inside.part) (on_part c.self.inside.table c.args.place.block) (programmed_cell g.D.WearingNand.keeps_labels (g.D.WearingNand.next c.self.inside.part) c.args.page c.args.bytes) =
    c.in-Ok-Failed.ensures.blocks ∙ (ap (λ (e : Ended). part_after_program e (g.D.WearingNand.blocks c.self.inside.part) c.on_part-on.result (programmed_cell g.D.WearingNand.keeps_labels (g.D.WearingNand.next c.self.inside.part) c.args.page c.args.bytes)) c.in-Ok-Failed.field-0-is
    ∙ ap (λ (x : ℕ). part_after_program ended.Failed (g.D.WearingNand.blocks c.self.inside.part) x (programmed_cell g.D.WearingNand.keeps_labels (g.D.WearingNand.next c.self.inside.part) c.args.page c.args.bytes)) number) in
    let serial : g.D.WearingNand.next c.program.new.self ≡ serial_after ended.Failed c.args.page (g.D.WearingNand.next c.self.inside.part) =
    c.in-Ok-Failed.ensures.next ∙ ap (λ (e : Ended). serial_after e c.args.page (g.D.WearingNand.next c.self.inside.part)) c.in-Ok-Failed.field-0-is in
    spares_free g.D.WearingNand.shape_of g.D.WearingNand.blocks g.D.WearingNand.faulted g.D.WearingNand.next g.D.WearingNand.spent g.D.WearingNand.keeps_labels (record { part = c.self.inside.part; shape = c.self.inside.shape; table = c.self.inside.table; erases = c.self.inside.erases.items; health = c.self.inside.health; failures = c.self.inside.failures }) c.self.invariant c.on_part-on.ensures.sound c.in-Working.is c.args.place c.args.page c.args.bytes here c.program.new.self after

pub fill_a_spare-requires-clause-source : goal.fill_a_spare-requires-clause-source
fill_a_spare-requires-clause-source g c =
    let here = next_here g.D.WearingNand.blocks (record { part = c.self.inside.part; shape = c.self.inside.shape; table = c.self.inside.table; erases = c.self.inside.erases.items; health = c.self.inside.health; failures = c.self.inside.failures }) c.self.inside.shape.pages c.args.place (rw (← c.self.view_is) at c.requires.next) in
    let number : c.on_part-on.result ≡ on_part c.self.inside.table c.args.place.block = c.on_part-on.ensures.number in
    let after : g.D.WearingNand.blocks c.program.new.self ≡ part_after_program ended.Failed (g.D.WearingNand.blocks c.self.inside.part) (on_part c.self.inside.table c.args.place.block) (programmed_cell g.D.WearingNand.keeps_labels (g.D.WearingNand.next c.self.inside.part) c.args.page c.args.bytes) =
    c.in-Ok-Failed.ensures.blocks ∙ (ap (λ (e : Ended). part_after_program e (g.D.WearingNand.blocks c.self.inside.part) c.on_part-on.result (programmed_cell g.D.WearingNand.keeps_labels (g.D.WearingNand.next c.self.inside.part) c.args.page c.args.bytes)) c.in-Ok-Failed.field-0-is
    ∙ ap (λ (x : ℕ). part_after_program ended.Failed (g.D.WearingNand.blocks c.self.inside.part) x (programmed_cell g.D.WearingNand.keeps_labels (g.D.WearingNand.next c.self.inside.part) c.args.page c.args.bytes)) number) in
    let serial : g.D.WearingNand.next c.program.new.self ≡ serial_after ended.Failed c.args.page (g.D.WearingNand.next c.self.inside.part) =
    c.in-Ok-Failed.ensures.next ∙ ap (λ (e : Ended). serial_after e c.args.page (g.D.WearingNand.next c.self.inside.part)) c.in-Ok-Failed.field-0-is in
    subst (λ (x : ℕ). IsSource (g.D.WearingNand.blocks c.program.new.self) x c.args.place.page) (sym number) (source g.D.WearingNand.shape_of g.D.WearingNand.blocks g.D.WearingNand.faulted g.D.WearingNand.next g.D.WearingNand.spent g.D.WearingNand.keeps_labels (record { part = c.self.inside.part; shape = c.self.inside.shape; table = c.self.inside.table; erases = c.self.inside.erases.items; health = c.self.inside.health; failures = c.self.inside.failures }) c.self.invariant c.on_part-on.ensures.sound c.in-Working.is c.args.place c.args.page c.args.bytes here c.program.new.self after)

pub fill_a_spare-requires-clause-apart : goal.fill_a_spare-requires-clause-apart
fill_a_spare-requires-clause-apart g c =
    let here = next_here g.D.WearingNand.blocks (record { part = c.self.inside.part; shape = c.self.inside.shape; table = c.self.inside.table; erases = c.self.inside.erases.items; health = c.self.inside.health; failures = c.self.inside.failures }) c.self.inside.shape.pages c.args.place (rw (← c.self.view_is) at c.requires.next) in
    let number : c.on_part-on.result ≡ on_part c.self.inside.table c.args.place.block = c.on_part-on.ensures.number in
    let after : g.D.WearingNand.blocks c.program.new.self ≡ part_after_program ended.Failed (g.D.WearingNand.blocks c.self.inside.part) (on_part c.self.inside.table c.args.place.block) (programmed_cell g.D.WearingNand.keeps_labels (g.D.WearingNand.next c.self.inside.part) c.args.page c.args.bytes) =
    c.in-Ok-Failed.ensures.blocks ∙ (ap (λ (e : Ended). part_after_program e (g.D.WearingNand.blocks c.self.inside.part) c.on_part-on.result (programmed_cell g.D.WearingNand.keeps_labels (g.D.WearingNand.next c.self.inside.part) c.args.page c.args.bytes)) c.in-Ok-Failed.field-0-is
    ∙ ap (λ (x : ℕ). part_after_program ended.Failed (g.D.WearingNand.blocks c.self.inside.part) x (programmed_cell g.D.WearingNand.keeps_labels (g.D.WearingNand.next c.self.inside.part) c.args.page c.args.bytes)) number) in
    let serial : g.D.WearingNand.next c.program.new.self ≡ serial_after ended.Failed c.args.page (g.D.WearingNand.next c.self.inside.part) =
    c.in-Ok-Failed.ensures.next ∙ ap (λ (e : Ended). serial_after e c.args.page (g.D.WearingNand.next c.self.inside.part)) c.in-Ok-Failed.field-0-is in
    λ is. on_not_spare g.D.WearingNand.shape_of g.D.WearingNand.blocks g.D.WearingNand.faulted g.D.WearingNand.next g.D.WearingNand.spent g.D.WearingNand.keeps_labels (record { part = c.self.inside.part; shape = c.self.inside.shape; table = c.self.inside.table; erases = c.self.inside.erases.items; health = c.self.inside.health; failures = c.self.inside.failures }) c.self.invariant c.on_part-on.ensures.sound c.in-Working.is c.args.place c.args.page c.args.bytes here c.program.new.self after (ap (λ (x : ℕ). use_of c.self.inside.table x) (sym number) ∙ is)

pub replace-requires-clause-block : goal.replace-requires-clause-block
replace-requires-clause-block g c =
    let here = next_here g.D.WearingNand.blocks (record { part = c.self.inside.part; shape = c.self.inside.shape; table = c.self.inside.table; erases = c.self.inside.erases.items; health = c.self.inside.health; failures = c.self.inside.failures }) c.self.inside.shape.pages c.args.place (rw (← c.self.view_is) at c.requires.next) in
    omega (arith, here.lt, c.self.invariant.count, ap (λ (l : List ℕ). length l) c.fill_a_spare.ensures.used.numbers)

pub invariant_of-self-in-Ok-Some : goal.invariant_of-self-in-Ok-Some
invariant_of-self-in-Ok-Some g c =
    let here = next_here g.D.WearingNand.blocks (record { part = c.self.inside.part; shape = c.self.inside.shape; table = c.self.inside.table; erases = c.self.inside.erases.items; health = c.self.inside.health; failures = c.self.inside.failures }) c.self.inside.shape.pages c.args.place (rw (← c.self.view_is) at c.requires.next) in
    let number : c.on_part-on.result ≡ on_part c.self.inside.table c.args.place.block = c.on_part-on.ensures.number in
    let after : g.D.WearingNand.blocks c.program.new.self ≡ part_after_program ended.Failed (g.D.WearingNand.blocks c.self.inside.part) (on_part c.self.inside.table c.args.place.block) (programmed_cell g.D.WearingNand.keeps_labels (g.D.WearingNand.next c.self.inside.part) c.args.page c.args.bytes) =
    c.in-Ok-Failed.ensures.blocks ∙ (ap (λ (e : Ended). part_after_program e (g.D.WearingNand.blocks c.self.inside.part) c.on_part-on.result (programmed_cell g.D.WearingNand.keeps_labels (g.D.WearingNand.next c.self.inside.part) c.args.page c.args.bytes)) c.in-Ok-Failed.field-0-is
    ∙ ap (λ (x : ℕ). part_after_program ended.Failed (g.D.WearingNand.blocks c.self.inside.part) x (programmed_cell g.D.WearingNand.keeps_labels (g.D.WearingNand.next c.self.inside.part) c.args.page c.args.bytes)) number) in
    let serial : g.D.WearingNand.next c.program.new.self ≡ serial_after ended.Failed c.args.page (g.D.WearingNand.next c.self.inside.part) =
    c.in-Ok-Failed.ensures.next ∙ ap (λ (e : Ended). serial_after e c.args.page (g.D.WearingNand.next c.self.inside.part)) c.in-Ok-Failed.field-0-is in
    let tried : IsTriedOr (Some c.in-Ok-Some.spare) ((part_block (g.D.WearingNand.blocks c.program.new.self) (on_part c.self.inside.table c.args.place.block)).cells ++ programmed_cell g.D.WearingNand.keeps_labels (g.D.WearingNand.next c.program.new.self) c.args.page c.args.bytes ∷ []) c.self.inside.table c.fill_a_spare.new.table (g.D.WearingNand.blocks c.program.new.self) (g.D.WearingNand.blocks c.fill_a_spare.new.part) =
    subst (λ (x : ℕ). IsTriedOr (Some c.in-Ok-Some.spare) ((part_block (g.D.WearingNand.blocks c.program.new.self) x).cells ++ programmed_cell g.D.WearingNand.keeps_labels (g.D.WearingNand.next c.program.new.self) c.args.page c.args.bytes ∷ []) c.self.inside.table c.fill_a_spare.new.table (g.D.WearingNand.blocks c.program.new.self) (g.D.WearingNand.blocks c.fill_a_spare.new.part)) number
    (subst (λ (o : Option ℕ). IsTriedOr o ((part_block (g.D.WearingNand.blocks c.program.new.self) c.on_part-on.result).cells ++ programmed_cell g.D.WearingNand.keeps_labels (g.D.WearingNand.next c.program.new.self) c.args.page c.args.bytes ∷ []) c.self.inside.table c.fill_a_spare.new.table (g.D.WearingNand.blocks c.program.new.self) (g.D.WearingNand.blocks c.fill_a_spare.new.part)) c.in-Ok-Some.field-0-is
    c.in-Ok-Some.ensures.tried) in
    subst (λ (t : Table). IsSoundSpared g.D.WearingNand.shape_of g.D.WearingNand.blocks g.D.WearingNand.faulted (record { part = c.fill_a_spare.new.part; shape = c.self.inside.shape; table = t; erases = c.self.inside.erases.items; health = c.self.inside.health; failures = c.self.inside.failures })) (sym c.replace.ensures.replaced)
    (taken_sound g.D.WearingNand.shape_of g.D.WearingNand.blocks g.D.WearingNand.faulted g.D.WearingNand.next g.D.WearingNand.spent g.D.WearingNand.keeps_labels (record { part = c.self.inside.part; shape = c.self.inside.shape; table = c.self.inside.table; erases = c.self.inside.erases.items; health = c.self.inside.health; failures = c.self.inside.failures }) c.self.invariant c.on_part-on.ensures.sound c.in-Working.is c.args.place c.args.page c.args.bytes here c.program.new.self after c.fill_a_spare.new.part c.fill_a_spare.new.table c.fill_a_spare.ensures.used tried.others c.replace.ensures.sound c.in-Ok-Some.spare serial tried.taken c.in-Ok-Some.ensures.faults.well (c.fill_a_spare.ensures.shape ∙ c.program.ensures.shape))

pub invariant_of-self-in-Ok-None : goal.invariant_of-self-in-Ok-None
invariant_of-self-in-Ok-None g c =
    let here = next_here g.D.WearingNand.blocks (record { part = c.self.inside.part; shape = c.self.inside.shape; table = c.self.inside.table; erases = c.self.inside.erases.items; health = c.self.inside.health; failures = c.self.inside.failures }) c.self.inside.shape.pages c.args.place (rw (← c.self.view_is) at c.requires.next) in
    let number : c.on_part-on.result ≡ on_part c.self.inside.table c.args.place.block = c.on_part-on.ensures.number in
    let after : g.D.WearingNand.blocks c.program.new.self ≡ part_after_program ended.Failed (g.D.WearingNand.blocks c.self.inside.part) (on_part c.self.inside.table c.args.place.block) (programmed_cell g.D.WearingNand.keeps_labels (g.D.WearingNand.next c.self.inside.part) c.args.page c.args.bytes) =
    c.in-Ok-Failed.ensures.blocks ∙ (ap (λ (e : Ended). part_after_program e (g.D.WearingNand.blocks c.self.inside.part) c.on_part-on.result (programmed_cell g.D.WearingNand.keeps_labels (g.D.WearingNand.next c.self.inside.part) c.args.page c.args.bytes)) c.in-Ok-Failed.field-0-is
    ∙ ap (λ (x : ℕ). part_after_program ended.Failed (g.D.WearingNand.blocks c.self.inside.part) x (programmed_cell g.D.WearingNand.keeps_labels (g.D.WearingNand.next c.self.inside.part) c.args.page c.args.bytes)) number) in
    let serial : g.D.WearingNand.next c.program.new.self ≡ serial_after ended.Failed c.args.page (g.D.WearingNand.next c.self.inside.part) =
    c.in-Ok-Failed.ensures.next ∙ ap (λ (e : Ended). serial_after e c.args.page (g.D.WearingNand.next c.self.inside.part)) c.in-Ok-Failed.field-0-is in
    let tried : IsTriedOr (None) ((part_block (g.D.WearingNand.blocks c.program.new.self) (on_part c.self.inside.table c.args.place.block)).cells ++ programmed_cell g.D.WearingNand.keeps_labels (g.D.WearingNand.next c.program.new.self) c.args.page c.args.bytes ∷ []) c.self.inside.table c.fill_a_spare.new.table (g.D.WearingNand.blocks c.program.new.self) (g.D.WearingNand.blocks c.fill_a_spare.new.part) =
    subst (λ (x : ℕ). IsTriedOr (None) ((part_block (g.D.WearingNand.blocks c.program.new.self) x).cells ++ programmed_cell g.D.WearingNand.keeps_labels (g.D.WearingNand.next c.program.new.self) c.args.page c.args.bytes ∷ []) c.self.inside.table c.fill_a_spare.new.table (g.D.WearingNand.blocks c.program.new.self) (g.D.WearingNand.blocks c.fill_a_spare.new.part)) number
    (subst (λ (o : Option ℕ). IsTriedOr o ((part_block (g.D.WearingNand.blocks c.program.new.self) c.on_part-on.result).cells ++ programmed_cell g.D.WearingNand.keeps_labels (g.D.WearingNand.next c.program.new.self) c.args.page c.args.bytes ∷ []) c.self.inside.table c.fill_a_spare.new.table (g.D.WearingNand.blocks c.program.new.self) (g.D.WearingNand.blocks c.fill_a_spare.new.part)) c.in-Ok-None.field-0-is
    c.in-Ok-None.ensures.tried) in
    worn_program_sound g.D.WearingNand.shape_of g.D.WearingNand.blocks g.D.WearingNand.faulted g.D.WearingNand.next g.D.WearingNand.spent g.D.WearingNand.keeps_labels (record { part = c.self.inside.part; shape = c.self.inside.shape; table = c.self.inside.table; erases = c.self.inside.erases.items; health = c.self.inside.health; failures = c.self.inside.failures }) c.self.invariant c.on_part-on.ensures.sound c.in-Working.is c.args.place c.args.page c.args.bytes here c.program.new.self after c.fill_a_spare.new.part c.fill_a_spare.new.table c.fill_a_spare.ensures.used tried.others tried.taken (c.self.inside.failures + 1) c.in-Ok-None.ensures.faults.well (c.fill_a_spare.ensures.shape ∙ c.program.ensures.shape)

pub returns-in-Ok-Done-clause-blocks : goal.returns-in-Ok-Done-clause-blocks
returns-in-Ok-Done-clause-blocks g c =
    let here = next_here g.D.WearingNand.blocks (record { part = c.self.inside.part; shape = c.self.inside.shape; table = c.self.inside.table; erases = c.self.inside.erases.items; health = c.self.inside.health; failures = c.self.inside.failures }) c.self.inside.shape.pages c.args.place (rw (← c.self.view_is) at c.requires.next) in
    let number : c.on_part-on.result ≡ on_part c.self.inside.table c.args.place.block = c.on_part-on.ensures.number in
    let after : g.D.WearingNand.blocks c.program.new.self ≡ part_after_program ended.Done (g.D.WearingNand.blocks c.self.inside.part) (on_part c.self.inside.table c.args.place.block) (programmed_cell g.D.WearingNand.keeps_labels (g.D.WearingNand.next c.self.inside.part) c.args.page c.args.bytes) =
    c.in-Ok-Done.ensures.blocks ∙ (ap (λ (e : Ended). part_after_program e (g.D.WearingNand.blocks c.self.inside.part) c.on_part-on.result (programmed_cell g.D.WearingNand.keeps_labels (g.D.WearingNand.next c.self.inside.part) c.args.page c.args.bytes)) c.in-Ok-Done.field-0-is
    ∙ ap (λ (x : ℕ). part_after_program ended.Done (g.D.WearingNand.blocks c.self.inside.part) x (programmed_cell g.D.WearingNand.keeps_labels (g.D.WearingNand.next c.self.inside.part) c.args.page c.args.bytes)) number) in
    let serial : g.D.WearingNand.next c.program.new.self ≡ serial_after ended.Done c.args.page (g.D.WearingNand.next c.self.inside.part) =
    c.in-Ok-Done.ensures.next ∙ ap (λ (e : Ended). serial_after e c.args.page (g.D.WearingNand.next c.self.inside.part)) c.in-Ok-Done.field-0-is in
    rw (← c.self.view_is) (done_blocks g.D.WearingNand.shape_of g.D.WearingNand.blocks g.D.WearingNand.faulted g.D.WearingNand.next g.D.WearingNand.spent g.D.WearingNand.keeps_labels (record { part = c.self.inside.part; shape = c.self.inside.shape; table = c.self.inside.table; erases = c.self.inside.erases.items; health = c.self.inside.health; failures = c.self.inside.failures }) c.self.invariant c.on_part-on.ensures.sound c.in-Working.is c.args.place c.args.page c.args.bytes here c.program.new.self after)

pub returns-in-Ok-Done-clause-ends : goal.returns-in-Ok-Done-clause-ends
returns-in-Ok-Done-clause-ends g c =
    let here = next_here g.D.WearingNand.blocks (record { part = c.self.inside.part; shape = c.self.inside.shape; table = c.self.inside.table; erases = c.self.inside.erases.items; health = c.self.inside.health; failures = c.self.inside.failures }) c.self.inside.shape.pages c.args.place (rw (← c.self.view_is) at c.requires.next) in
    let number : c.on_part-on.result ≡ on_part c.self.inside.table c.args.place.block = c.on_part-on.ensures.number in
    let after : g.D.WearingNand.blocks c.program.new.self ≡ part_after_program ended.Done (g.D.WearingNand.blocks c.self.inside.part) (on_part c.self.inside.table c.args.place.block) (programmed_cell g.D.WearingNand.keeps_labels (g.D.WearingNand.next c.self.inside.part) c.args.page c.args.bytes) =
    c.in-Ok-Done.ensures.blocks ∙ (ap (λ (e : Ended). part_after_program e (g.D.WearingNand.blocks c.self.inside.part) c.on_part-on.result (programmed_cell g.D.WearingNand.keeps_labels (g.D.WearingNand.next c.self.inside.part) c.args.page c.args.bytes)) c.in-Ok-Done.field-0-is
    ∙ ap (λ (x : ℕ). part_after_program ended.Done (g.D.WearingNand.blocks c.self.inside.part) x (programmed_cell g.D.WearingNand.keeps_labels (g.D.WearingNand.next c.self.inside.part) c.args.page c.args.bytes)) number) in
    let serial : g.D.WearingNand.next c.program.new.self ≡ serial_after ended.Done c.args.page (g.D.WearingNand.next c.self.inside.part) =
    c.in-Ok-Done.ensures.next ∙ ap (λ (e : Ended). serial_after e c.args.page (g.D.WearingNand.next c.self.inside.part)) c.in-Ok-Done.field-0-is in
    rw (← c.self.view_is) (done g.D.WearingNand.shape_of g.D.WearingNand.blocks g.D.WearingNand.faulted g.D.WearingNand.next g.D.WearingNand.spent g.D.WearingNand.keeps_labels (record { part = c.self.inside.part; shape = c.self.inside.shape; table = c.self.inside.table; erases = c.self.inside.erases.items; health = c.self.inside.health; failures = c.self.inside.failures }) c.self.invariant c.on_part-on.ensures.sound c.in-Working.is c.args.place c.args.page c.args.bytes here c.program.new.self after serial c.program.ensures.spent)

pub returns-in-Ok-Some-clause-blocks : goal.returns-in-Ok-Some-clause-blocks
returns-in-Ok-Some-clause-blocks g c =
    let here = next_here g.D.WearingNand.blocks (record { part = c.self.inside.part; shape = c.self.inside.shape; table = c.self.inside.table; erases = c.self.inside.erases.items; health = c.self.inside.health; failures = c.self.inside.failures }) c.self.inside.shape.pages c.args.place (rw (← c.self.view_is) at c.requires.next) in
    let number : c.on_part-on.result ≡ on_part c.self.inside.table c.args.place.block = c.on_part-on.ensures.number in
    let after : g.D.WearingNand.blocks c.program.new.self ≡ part_after_program ended.Failed (g.D.WearingNand.blocks c.self.inside.part) (on_part c.self.inside.table c.args.place.block) (programmed_cell g.D.WearingNand.keeps_labels (g.D.WearingNand.next c.self.inside.part) c.args.page c.args.bytes) =
    c.in-Ok-Failed.ensures.blocks ∙ (ap (λ (e : Ended). part_after_program e (g.D.WearingNand.blocks c.self.inside.part) c.on_part-on.result (programmed_cell g.D.WearingNand.keeps_labels (g.D.WearingNand.next c.self.inside.part) c.args.page c.args.bytes)) c.in-Ok-Failed.field-0-is
    ∙ ap (λ (x : ℕ). part_after_program ended.Failed (g.D.WearingNand.blocks c.self.inside.part) x (programmed_cell g.D.WearingNand.keeps_labels (g.D.WearingNand.next c.self.inside.part) c.args.page c.args.bytes)) number) in
    let serial : g.D.WearingNand.next c.program.new.self ≡ serial_after ended.Failed c.args.page (g.D.WearingNand.next c.self.inside.part) =
    c.in-Ok-Failed.ensures.next ∙ ap (λ (e : Ended). serial_after e c.args.page (g.D.WearingNand.next c.self.inside.part)) c.in-Ok-Failed.field-0-is in
    let tried : IsTriedOr (Some c.in-Ok-Some.spare) ((part_block (g.D.WearingNand.blocks c.program.new.self) (on_part c.self.inside.table c.args.place.block)).cells ++ programmed_cell g.D.WearingNand.keeps_labels (g.D.WearingNand.next c.program.new.self) c.args.page c.args.bytes ∷ []) c.self.inside.table c.fill_a_spare.new.table (g.D.WearingNand.blocks c.program.new.self) (g.D.WearingNand.blocks c.fill_a_spare.new.part) =
    subst (λ (x : ℕ). IsTriedOr (Some c.in-Ok-Some.spare) ((part_block (g.D.WearingNand.blocks c.program.new.self) x).cells ++ programmed_cell g.D.WearingNand.keeps_labels (g.D.WearingNand.next c.program.new.self) c.args.page c.args.bytes ∷ []) c.self.inside.table c.fill_a_spare.new.table (g.D.WearingNand.blocks c.program.new.self) (g.D.WearingNand.blocks c.fill_a_spare.new.part)) number
    (subst (λ (o : Option ℕ). IsTriedOr o ((part_block (g.D.WearingNand.blocks c.program.new.self) c.on_part-on.result).cells ++ programmed_cell g.D.WearingNand.keeps_labels (g.D.WearingNand.next c.program.new.self) c.args.page c.args.bytes ∷ []) c.self.inside.table c.fill_a_spare.new.table (g.D.WearingNand.blocks c.program.new.self) (g.D.WearingNand.blocks c.fill_a_spare.new.part)) c.in-Ok-Some.field-0-is
    c.in-Ok-Some.ensures.tried) in
    rw (← c.self.view_is) (subst (λ (t : Table). spared_blocks g.D.WearingNand.blocks (record { part = c.fill_a_spare.new.part; shape = c.self.inside.shape; table = t; erases = c.self.inside.erases.items; health = c.self.inside.health; failures = c.self.inside.failures }) ≡ blocks_after_program (spared_blocks g.D.WearingNand.blocks (record { part = c.self.inside.part; shape = c.self.inside.shape; table = c.self.inside.table; erases = c.self.inside.erases.items; health = c.self.inside.health; failures = c.self.inside.failures })) c.args.place.block c.args.bytes)
    (sym c.replace.ensures.replaced) (taken_blocks g.D.WearingNand.shape_of g.D.WearingNand.blocks g.D.WearingNand.faulted g.D.WearingNand.next g.D.WearingNand.spent g.D.WearingNand.keeps_labels (record { part = c.self.inside.part; shape = c.self.inside.shape; table = c.self.inside.table; erases = c.self.inside.erases.items; health = c.self.inside.health; failures = c.self.inside.failures }) c.self.invariant c.on_part-on.ensures.sound c.in-Working.is c.args.place c.args.page c.args.bytes here c.program.new.self after c.fill_a_spare.new.part c.fill_a_spare.new.table c.fill_a_spare.ensures.used tried.others c.replace.ensures.sound c.in-Ok-Some.spare serial tried.taken))

pub returns-in-Ok-Some-clause-ends : goal.returns-in-Ok-Some-clause-ends
returns-in-Ok-Some-clause-ends g c =
    let here = next_here g.D.WearingNand.blocks (record { part = c.self.inside.part; shape = c.self.inside.shape; table = c.self.inside.table; erases = c.self.inside.erases.items; health = c.self.inside.health; failures = c.self.inside.failures }) c.self.inside.shape.pages c.args.place (rw (← c.self.view_is) at c.requires.next) in
    let number : c.on_part-on.result ≡ on_part c.self.inside.table c.args.place.block = c.on_part-on.ensures.number in
    let after : g.D.WearingNand.blocks c.program.new.self ≡ part_after_program ended.Failed (g.D.WearingNand.blocks c.self.inside.part) (on_part c.self.inside.table c.args.place.block) (programmed_cell g.D.WearingNand.keeps_labels (g.D.WearingNand.next c.self.inside.part) c.args.page c.args.bytes) =
    c.in-Ok-Failed.ensures.blocks ∙ (ap (λ (e : Ended). part_after_program e (g.D.WearingNand.blocks c.self.inside.part) c.on_part-on.result (programmed_cell g.D.WearingNand.keeps_labels (g.D.WearingNand.next c.self.inside.part) c.args.page c.args.bytes)) c.in-Ok-Failed.field-0-is
    ∙ ap (λ (x : ℕ). part_after_program ended.Failed (g.D.WearingNand.blocks c.self.inside.part) x (programmed_cell g.D.WearingNand.keeps_labels (g.D.WearingNand.next c.self.inside.part) c.args.page c.args.bytes)) number) in
    let serial : g.D.WearingNand.next c.program.new.self ≡ serial_after ended.Failed c.args.page (g.D.WearingNand.next c.self.inside.part) =
    c.in-Ok-Failed.ensures.next ∙ ap (λ (e : Ended). serial_after e c.args.page (g.D.WearingNand.next c.self.inside.part)) c.in-Ok-Failed.field-0-is in
    let tried : IsTriedOr (Some c.in-Ok-Some.spare) ((part_block (g.D.WearingNand.blocks c.program.new.self) (on_part c.self.inside.table c.args.place.block)).cells ++ programmed_cell g.D.WearingNand.keeps_labels (g.D.WearingNand.next c.program.new.self) c.args.page c.args.bytes ∷ []) c.self.inside.table c.fill_a_spare.new.table (g.D.WearingNand.blocks c.program.new.self) (g.D.WearingNand.blocks c.fill_a_spare.new.part) =
    subst (λ (x : ℕ). IsTriedOr (Some c.in-Ok-Some.spare) ((part_block (g.D.WearingNand.blocks c.program.new.self) x).cells ++ programmed_cell g.D.WearingNand.keeps_labels (g.D.WearingNand.next c.program.new.self) c.args.page c.args.bytes ∷ []) c.self.inside.table c.fill_a_spare.new.table (g.D.WearingNand.blocks c.program.new.self) (g.D.WearingNand.blocks c.fill_a_spare.new.part)) number
    (subst (λ (o : Option ℕ). IsTriedOr o ((part_block (g.D.WearingNand.blocks c.program.new.self) c.on_part-on.result).cells ++ programmed_cell g.D.WearingNand.keeps_labels (g.D.WearingNand.next c.program.new.self) c.args.page c.args.bytes ∷ []) c.self.inside.table c.fill_a_spare.new.table (g.D.WearingNand.blocks c.program.new.self) (g.D.WearingNand.blocks c.fill_a_spare.new.part)) c.in-Ok-Some.field-0-is
    c.in-Ok-Some.ensures.tried) in
    let pages : (g.D.WearingNand.shape_of c.program.new.self).pages ≡ c.self.inside.shape.pages = ap (λ (s : Shape). s.pages) c.program.ensures.shape ∙ c.self.invariant.pages in
    let later : g.D.WearingNand.next c.fill_a_spare.new.part ≡ serial_after ended.Done c.args.page (g.D.WearingNand.next c.program.new.self) =
    subst (λ (o : Option ℕ). g.D.WearingNand.next c.fill_a_spare.new.part ≡ serial_after_taken o c.args.page (g.D.WearingNand.next c.program.new.self)) c.in-Ok-Some.field-0-is c.in-Ok-Some.ensures.next in
    let cost = subst (λ (n : ℕ). cost_with n c.fill_a_spare.new.table (g.D.WearingNand.spent c.fill_a_spare.new.part) ≤ cost_with n c.self.inside.table (g.D.WearingNand.spent c.program.new.self) + 2 * n) pages c.fill_a_spare.ensures.spent in
    rw (← c.self.view_is) (subst (λ (t : Table). EndsSpared g.D.WearingNand.blocks g.D.WearingNand.next g.D.WearingNand.spent g.D.WearingNand.keeps_labels (record { part = c.self.inside.part; shape = c.self.inside.shape; table = c.self.inside.table; erases = c.self.inside.erases.items; health = c.self.inside.health; failures = c.self.inside.failures }) (calls.Program c.args.place c.args.page c.args.bytes) true (record { part = c.fill_a_spare.new.part; shape = c.self.inside.shape; table = t; erases = c.self.inside.erases.items; health = c.self.inside.health; failures = c.self.inside.failures }))
    (sym c.replace.ensures.replaced) (taken_ends g.D.WearingNand.shape_of g.D.WearingNand.blocks g.D.WearingNand.faulted g.D.WearingNand.next g.D.WearingNand.spent g.D.WearingNand.keeps_labels (record { part = c.self.inside.part; shape = c.self.inside.shape; table = c.self.inside.table; erases = c.self.inside.erases.items; health = c.self.inside.health; failures = c.self.inside.failures }) c.self.invariant c.on_part-on.ensures.sound c.in-Working.is c.args.place c.args.page c.args.bytes here c.program.new.self after c.fill_a_spare.new.part c.fill_a_spare.new.table c.fill_a_spare.ensures.used tried.others c.replace.ensures.sound c.in-Ok-Some.spare serial tried.taken later c.program.ensures.spent cost))

pub returns-in-Ok-None-clause-ends : goal.returns-in-Ok-None-clause-ends
returns-in-Ok-None-clause-ends g c =
    let here = next_here g.D.WearingNand.blocks (record { part = c.self.inside.part; shape = c.self.inside.shape; table = c.self.inside.table; erases = c.self.inside.erases.items; health = c.self.inside.health; failures = c.self.inside.failures }) c.self.inside.shape.pages c.args.place (rw (← c.self.view_is) at c.requires.next) in
    let number : c.on_part-on.result ≡ on_part c.self.inside.table c.args.place.block = c.on_part-on.ensures.number in
    let after : g.D.WearingNand.blocks c.program.new.self ≡ part_after_program ended.Failed (g.D.WearingNand.blocks c.self.inside.part) (on_part c.self.inside.table c.args.place.block) (programmed_cell g.D.WearingNand.keeps_labels (g.D.WearingNand.next c.self.inside.part) c.args.page c.args.bytes) =
    c.in-Ok-Failed.ensures.blocks ∙ (ap (λ (e : Ended). part_after_program e (g.D.WearingNand.blocks c.self.inside.part) c.on_part-on.result (programmed_cell g.D.WearingNand.keeps_labels (g.D.WearingNand.next c.self.inside.part) c.args.page c.args.bytes)) c.in-Ok-Failed.field-0-is
    ∙ ap (λ (x : ℕ). part_after_program ended.Failed (g.D.WearingNand.blocks c.self.inside.part) x (programmed_cell g.D.WearingNand.keeps_labels (g.D.WearingNand.next c.self.inside.part) c.args.page c.args.bytes)) number) in
    let serial : g.D.WearingNand.next c.program.new.self ≡ serial_after ended.Failed c.args.page (g.D.WearingNand.next c.self.inside.part) =
    c.in-Ok-Failed.ensures.next ∙ ap (λ (e : Ended). serial_after e c.args.page (g.D.WearingNand.next c.self.inside.part)) c.in-Ok-Failed.field-0-is in
    let tried : IsTriedOr (None) ((part_block (g.D.WearingNand.blocks c.program.new.self) (on_part c.self.inside.table c.args.place.block)).cells ++ programmed_cell g.D.WearingNand.keeps_labels (g.D.WearingNand.next c.program.new.self) c.args.page c.args.bytes ∷ []) c.self.inside.table c.fill_a_spare.new.table (g.D.WearingNand.blocks c.program.new.self) (g.D.WearingNand.blocks c.fill_a_spare.new.part) =
    subst (λ (x : ℕ). IsTriedOr (None) ((part_block (g.D.WearingNand.blocks c.program.new.self) x).cells ++ programmed_cell g.D.WearingNand.keeps_labels (g.D.WearingNand.next c.program.new.self) c.args.page c.args.bytes ∷ []) c.self.inside.table c.fill_a_spare.new.table (g.D.WearingNand.blocks c.program.new.self) (g.D.WearingNand.blocks c.fill_a_spare.new.part)) number
    (subst (λ (o : Option ℕ). IsTriedOr o ((part_block (g.D.WearingNand.blocks c.program.new.self) c.on_part-on.result).cells ++ programmed_cell g.D.WearingNand.keeps_labels (g.D.WearingNand.next c.program.new.self) c.args.page c.args.bytes ∷ []) c.self.inside.table c.fill_a_spare.new.table (g.D.WearingNand.blocks c.program.new.self) (g.D.WearingNand.blocks c.fill_a_spare.new.part)) c.in-Ok-None.field-0-is
    c.in-Ok-None.ensures.tried) in
    let pages : (g.D.WearingNand.shape_of c.program.new.self).pages ≡ c.self.inside.shape.pages = ap (λ (s : Shape). s.pages) c.program.ensures.shape ∙ c.self.invariant.pages in
    let none = c.in-Ok-None.is ∙ ap (λ (o : Option ℕ). Ok o) c.in-Ok-None.field-0-is in
    let cost = subst (λ (n : ℕ). cost_with n c.fill_a_spare.new.table (g.D.WearingNand.spent c.fill_a_spare.new.part) ≤ cost_with n c.self.inside.table (g.D.WearingNand.spent c.program.new.self)) pages (c.fill_a_spare.ensures.spent_in_vain none) in
    rw (← c.self.view_is) (worn_program g.D.WearingNand.shape_of g.D.WearingNand.blocks g.D.WearingNand.faulted g.D.WearingNand.next g.D.WearingNand.spent g.D.WearingNand.keeps_labels (record { part = c.self.inside.part; shape = c.self.inside.shape; table = c.self.inside.table; erases = c.self.inside.erases.items; health = c.self.inside.health; failures = c.self.inside.failures }) c.self.invariant c.on_part-on.ensures.sound c.in-Working.is c.args.place c.args.page c.args.bytes here c.program.new.self after c.fill_a_spare.new.part c.fill_a_spare.new.table c.fill_a_spare.ensures.used tried.others tried.taken (c.self.inside.failures + 1) c.program.ensures.spent cost)
