use Rattle.std.proofs.Common.{◌≡◌, ℕ, List, ap, ◌∙◌, arith, length, map}
use Rattle.slot_types.specs.declared.pages.PageData.{PageData}
use Rattle.slot_types.specs.declared.plans.Shape.{Shape}
use Rattle.checkpoint_texts.specs.declared.saved.SavedDie.{SavedDie}
use Rattle.flash_die.specs.Memory.{left_memory}
use Rattle.checkpoint_texts.specs.SavedDies.{checkpoint_of}
use Rattle.flash_volume.specs.Cells.{contents}
use Rattle.flash_volume.specs.Checkpoints.{IsAsLeft}
use Rattle.flashplan_checkpoint_runs.specs.Devices.{erases_of, fills_of, saved_cells, saved_device}
use Rattle.flashplan_checkpoint_runs.specs.SavedDies.{held_by}
use Rattle.flashplan_checkpoint_runs.proofs.LeftDevices.{all_lie, cells_length, device_holds, device_left, fills_within, if_made}
use Rattle.flashplan_checkpoint_runs.proofs.devices.device_of.Goals as goal

pub cells_in-requires-clause-lie : goal.cells_in-requires-clause-lie
cells_in-requires-clause-lie c = all_lie c.args.plan.now c.args.die.now c.requires.fits

pub left-requires-clause-few_cells : goal.left-requires-clause-few_cells
left-requires-clause-few_cells c =
    omega (arith, ap length c.in_ok-cells.ensures.ok, cells_length c.args.plan.now.shape c.args.die.now)

pub left-requires-clause-within : goal.left-requires-clause-within
left-requires-clause-within c =
    rw (c.deref.ensures.value, c.in_ok-fills.ensures.ok, c.as_slice.ensures) (fills_within c.args.plan.now c.args.die.now c.requires.fits)

pub returns-clause-device : goal.returns-clause-device
returns-clause-device c =
    let shape : Shape = c.args.plan.now.shape in
    let die : SavedDie = c.args.die.now in
    let fills = c.deref.ensures.value ∙ c.in_ok-fills.ensures.ok ∙ ap fills_of c.as_slice.ensures in
    let erases = c.deref-2.ensures.value ∙ c.in_ok-erases.ensures.ok ∙ ap erases_of c.as_slice-2.ensures in
    if_made c.left.result (left_memory shape c.in_ok-cells.cells.items c.deref.result.now c.deref-2.result.now)
    (λ device. device ≡ saved_device shape die) c.left.ensures.left
    (ap (λ (cells : List PageData). left_memory shape cells c.deref.result.now c.deref-2.result.now) c.in_ok-cells.ensures.ok
    ∙ ap (λ (counts : List ℕ). left_memory shape (saved_cells shape die) counts c.deref-2.result.now) fills
    ∙ ap (λ (counts : List ℕ). left_memory shape (saved_cells shape die) (fills_of die.blocks) counts) erases)

pub returns-clause-left : goal.returns-clause-left
returns-clause-left c =
    if_made c.left.result (saved_device c.args.plan.now.shape c.args.die.now)
    (λ device. IsAsLeft (checkpoint_of c.args.die.now) device.blocks 0) (returns-clause-device c)
    (device_left c.args.plan.now c.args.die.now c.requires.fits)

pub returns-clause-holds : goal.returns-clause-holds
returns-clause-holds c =
    if_made c.left.result (saved_device c.args.plan.now.shape c.args.die.now)
    (λ device. contents device.blocks (checkpoint_of c.args.die.now).places ≡ map held_by c.args.die.now.pages) (returns-clause-device c)
    (device_holds c.args.plan.now c.args.die.now c.requires.fits c.requires.bytes)
