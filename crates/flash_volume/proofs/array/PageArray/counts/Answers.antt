use Rattle.std.proofs.Common.{◌≡◌, ℕ, ◌<◌, false, length, get_or, map, ap, ◌∙◌}
use Rattle.die_checkpoint.specs.Counts.{counts_at}
use Rattle.flash_volume.specs.Array.{ArrayState}
use Rattle.flash_volume.specs.Cells.{fills_of, erases_in}
use Rattle.flash_volume.specs.Checkpoints.{counts_of}
use Rattle.flash_volume.proofs.Resuming.{counts_made, if_ok_both}
use Rattle.flash_volume.proofs.array.PageArray.counts.Goals as goal

pub returns-clause-ok : goal.returns-clause-ok
returns-clause-ok g c =
    let alive : c.self.inside.failed ≡ false = ap (λ (a : ArrayState g.row.N.Denot). a.failed) c.self.view_is ∙ c.requires.alive in
    let stands = c.self.invariant alive in
    let blocks = g.N.Nand.blocks c.args.self.now.device in
    let same : g.N.Nand.blocks c.self.inside.device ≡ blocks = ap (λ (a : ArrayState g.row.N.Denot). g.N.Nand.blocks a.device) c.self.view_is in
    let fills = c.as_slice.result.now in
    let erases = c.deref.result.now in
    if_ok_both c.counts_in.result (λ v. length v.items ≡ length fills)
    (λ v. (k : ℕ) → k < length fills → counts_at v.items k ≡ record { filled = get_or fills k 0; erases = get_or erases k 0 })
    (λ v. v.items ≡ map counts_of blocks) c.counts_in.ensures.len c.counts_in.ensures.each
    (λ v len each. counts_made blocks fills erases v.items
    (c.as_slice.ensures ∙ stands.fills_are ∙ ap fills_of same) (c.deref.ensures.value ∙ stands.erases_are ∙ ap erases_in same) len each)
