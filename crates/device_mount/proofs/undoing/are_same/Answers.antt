use Rattle.std.proofs.Common.{List, ap, ℕ}
use Rattle.std.proofs.lemmas.Bool.Decides.{Decides-eqb}
use Rattle.std.proofs.lemmas.Slice.Eq.{slice_eq-Decides}
use Rattle.slot_types.specs.declared.pages.PageData.{PageData}
use Rattle.device_mount.proofs.undoing.are_same.Goals as goal

pub returns : goal.returns
returns c =
    let d = slice_eq-Decides Decides-eqb c.args.one.0 c.args.other.0 c.eq.result c.eq.ensures in (
      λ t. ap (λ (xs : List ℕ). record { 0 = xs }) (d.0 t),
      λ e. d.1 (ap (λ (p : PageData). p.0) e),
    )
