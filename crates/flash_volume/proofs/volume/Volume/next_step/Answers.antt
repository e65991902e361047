use Rattle.std.proofs.Common.{◌≡◌, ◌<◌, ◌∙◌, length, arith, sym, ap, Some, None}
use Rattle.std.proofs.lemmas.List.{get_or_read}
use Rattle.slot_types.specs.declared.plans.Shape.{Shape}
use Rattle.flash_volume.specs.Running.{running_of}
use Rattle.flash_volume.proofs.Running.{dropped}
use Rattle.flash_volume.proofs.volume.Volume.next_step.Goals as goal

pub read_or_erase-requires-clause-in_range : goal.read_or_erase-requires-clause-in_range
read_or_erase-requires-clause-in_range g c =
    let sound = c.self.invariant (rw (← c.self.view_is) at c.requires.alive) in
    let task = rw (← c.self.view_is) at c.requires.task in
    let here : c.args.task < length c.self.inside.running.items = omega (arith, sound.runs.len, task) in
    let below : c.task.inside.0 < length c.self.inside.running.items = rw c.task.view_is here in
    let runs : running_of c.self.inside.running.items c.args.task
    ≡ Some c.unwrap-collection.result = ap (running_of c.self.inside.running.items) (sym c.task.view_is)
    ∙ sym (get_or_read c.self.inside.running.items c.task.inside.0 c.index.result.now below c.index.ensures None)
    ∙ c.unwrap-collection.ensures in
    let run = sound.runs.each c.args.task c.unwrap-collection.result runs in
    rw (← c.self.view_is) run.in_range

pub read_or_erase-requires-clause-closed : goal.read_or_erase-requires-clause-closed
read_or_erase-requires-clause-closed g c =
    let sound = c.self.invariant (rw (← c.self.view_is) at c.requires.alive) in
    let task = rw (← c.self.view_is) at c.requires.task in
    let here : c.args.task < length c.self.inside.running.items = omega (arith, sound.runs.len, task) in
    let below : c.task.inside.0 < length c.self.inside.running.items = rw c.task.view_is here in
    let runs : running_of c.self.inside.running.items c.args.task
    ≡ Some c.unwrap-collection.result = ap (running_of c.self.inside.running.items) (sym c.task.view_is)
    ∙ sym (get_or_read c.self.inside.running.items c.task.inside.0 c.index.result.now below c.index.ensures None)
    ∙ c.unwrap-collection.ensures in
    let run = sound.runs.each c.args.task c.unwrap-collection.result runs in
    rw (← c.self.view_is) (run.closed ∙ ap (λ (s : Shape). s.pages) sound.shape_is)

pub read_or_erase-requires-clause-dropped : goal.read_or_erase-requires-clause-dropped
read_or_erase-requires-clause-dropped g c =
    let sound = c.self.invariant (rw (← c.self.view_is) at c.requires.alive) in
    let task = rw (← c.self.view_is) at c.requires.task in
    let here : c.args.task < length c.self.inside.running.items = omega (arith, sound.runs.len, task) in
    let below : c.task.inside.0 < length c.self.inside.running.items = rw c.task.view_is here in
    let runs : running_of c.self.inside.running.items c.args.task
    ≡ Some c.unwrap-collection.result = ap (running_of c.self.inside.running.items) (sym c.task.view_is)
    ∙ sym (get_or_read c.self.inside.running.items c.task.inside.0 c.index.result.now below c.index.ensures None)
    ∙ c.unwrap-collection.ensures in
    let run = sound.runs.each c.args.task c.unwrap-collection.result runs in
    rw (← c.self.view_is) (dropped run (rw (← c.self.view_is) at c.in-None.ensures.none))
