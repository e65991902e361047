use Rattle.slot_core.proofs.Resuming.{fits_opens, fits_erased, opening_fits}
use Rattle.flash_volume.specs.Cells.{contents}
use Rattle.slot_core.proofs.renewal_laws.what_fits_is_an_opening.Goals as goal

pub returns : goal.returns
returns c = λ plan k blocks. (
  (λ fits. (fits_opens plan k blocks fits, fits_erased plan k blocks fits)),
  (λ both. opening_fits plan k (contents blocks k.places) both.0 both.1),
)
