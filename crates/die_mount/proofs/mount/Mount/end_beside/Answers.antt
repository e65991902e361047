use Rattle.std.proofs.Common.{◌∙◌, List, ℕ, ap, map, refl, sym}
use Rattle.die_log.specs.Model.Flash.{free_block}
use Rattle.power_loss.specs.Aside.{without_aside}
use Rattle.die_mount.specs.Ending.{counts_of}
use Rattle.die_mount.specs.EndRoom.{EndRoom}
use Rattle.die_mount.specs.Erases.{counted}
use Rattle.die_mount.specs.Mounting.{Mounting}
use Rattle.die_mount.specs.SoundMount.{mounting_of}
use Rattle.die_mount.proofs.Ending.{ends_so, told_fits}
use Rattle.die_mount.proofs.mount.Mount.end_beside.Goals as goal

pub returns-clause-end : goal.returns-clause-end
returns-clause-end c =
    ends_so (mounting_of c.self.inside) c.args.self.now c.self.view_is c.self.inside.part c.self.invariant.stands c.self.invariant.counts refl
    c.self.inside.goal c.self.invariant.goal c.args.aside c.requires.free c.places_beside.result c.blocks_beside.result c.from_vec.result
    c.free.result c.places_beside.ensures (c.blocks_beside.ensures ∙ ap (λ (counts : List ℕ). map counts_of (without_aside c.self.inside.plan.shape.blocks c.args.aside free_block
    (counted counts c.self.inside.part.cells).blocks)) c.as_slice-before.ensures.value)
    (c.from_vec.ensures ∙ (ap (λ (r : EndRoom). r.balances) (c.memory.view_is ∙ c.requires.room)
    ∙ sym (ap (λ (m : Mounting). m.plan.caps) c.self.view_is))) c.free.ensures

pub returns-clause-fits : goal.returns-clause-fits
returns-clause-fits c =
    told_fits (mounting_of c.self.inside) c.args.self.now c.self.view_is c.self.inside.part c.self.invariant.stands c.self.invariant.counts refl
    c.self.inside.goal c.self.invariant.goal c.args.aside c.requires.free c.places_beside.result c.blocks_beside.result c.from_vec.result
    c.free.result c.places_beside.ensures (c.blocks_beside.ensures ∙ ap (λ (counts : List ℕ). map counts_of (without_aside c.self.inside.plan.shape.blocks c.args.aside free_block
    (counted counts c.self.inside.part.cells).blocks)) c.as_slice-before.ensures.value)
    (c.from_vec.ensures ∙ (ap (λ (r : EndRoom). r.balances) (c.memory.view_is ∙ c.requires.room)
    ∙ sym (ap (λ (m : Mounting). m.plan.caps) c.self.view_is))) c.free.ensures c.requires.stage
