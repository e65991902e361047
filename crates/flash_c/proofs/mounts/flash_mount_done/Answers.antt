use Rattle.std.proofs.Common.{◌≡◌, ◌∙◌, subst, sym}
use Rattle.flash_c.specs.Mounts.{HasCounts}
use Rattle.flash_c.proofs.KeptResuming.{same_of}
use Rattle.flash_c.proofs.mounts.flash_mount_done.Goals as goal

pub returns-then-well-clause-counts : goal.returns-then-well-clause-counts
returns-then-well-clause-counts g c =
    let held_is : c.replace-before.result ≡ g.held =
    c.replace-before.ensures.value ∙ (c.deref_mut.ensures.value ∙ same_of _ _ _ c.take_mount-boxed.ensures.mount c.requires) in
    rw c.put_mount.ensures (λ told has. subst (HasCounts told) (sym c.replace.ensures.after)
    (c.called-after.ensures.counts told (subst (HasCounts told) (sym held_is) has)))
