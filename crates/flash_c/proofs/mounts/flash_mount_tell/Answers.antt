use Rattle.std.proofs.Common.{◌≡◌, ◌∙◌, ℕ, List, Option, subst, sym}
use Rattle.flash_c.specs.declared.recoveries.Recovery.{Recovery}
use Rattle.flash_c.specs.Mounts.{HasCounts, erases_told, told_after}
use Rattle.flash_c.proofs.KeptResuming.{same_of}
use Rattle.flash_c.proofs.Mounting.{of_ok}
use Rattle.flash_c.proofs.mounts.flash_mount_tell.Goals as goal

pub returns-in-Ok-said-clause-counts : goal.returns-in-Ok-said-clause-counts
returns-in-Ok-said-clause-counts g c = λ zero.
    let held_is : c.replace-before.result ≡ g.held =
    c.replace-before.ensures.value ∙ (c.deref_mut.ensures.value ∙ same_of _ _ _ c.take_mount-boxed.ensures.mount c.requires) in
    rw c.put_mount.ensures (λ told has. subst (HasCounts (told_after g.held (erases_told c.args.labels.now) told)) (sym c.replace.ensures.after)
    (subst (λ (e : Option ℕ). HasCounts (told_after g.held e told) c.taken-after.result.0) c.erases_told-erases.ensures
    (subst (λ (r : Recovery). (k : List (Option ℕ)) → HasCounts k r → HasCounts (told_after r c.erases_told-erases.result k) c.taken-after.result.0) held_is
    (of_ok c.taken-after.result.1 c.in-Ok-said.field-0 c.in-Ok-said.is c.taken-after.ensures.counts) told has)))
