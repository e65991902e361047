use Rattle.std.proofs.Common.{◌∙◌, ap, sym, subst}
use Rattle.power_loss.specs.Recovery.{IsFreeBlock}
use Rattle.die_mount.specs.Mounting.{Mounting}
use Rattle.die_mount.specs.SoundMount.{mounting_of}
use Rattle.die_mount.proofs.Ending.{aside_is_free, at_end, one_is_free}
use Rattle.die_mount.proofs.mount.Mount.finish_in.Goals as goal

pub end_beside-requires-clause-free : goal.end_beside-requires-clause-free
end_beside-requires-clause-free c =
    let m = mounting_of c.self.inside in
    let h = at_end m c.self.invariant.stands (ap (λ (x : Mounting). x.stage) c.self.view_is ∙ c.requires.ended) in
    subst (λ (x : Mounting). IsFreeBlock x.cells c.in-Some.aside) c.self.view_is
    (aside_is_free m.cells c.in-Some.aside h.idle (sym c.free_block.ensures ∙ c.in-Some.is))

pub unreachable-requires : goal.unreachable-requires
unreachable-requires c =
    let m = mounting_of c.self.inside in
    one_is_free m c.self.invariant.stands (at_end m c.self.invariant.stands (ap (λ (x : Mounting). x.stage) c.self.view_is ∙ c.requires.ended))
    (sym c.free_block.ensures ∙ c.in-None.is)
