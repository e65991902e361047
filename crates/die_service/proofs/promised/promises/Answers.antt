use Rattle.die_service.proofs.Promising.{sees_promised}
use Rattle.die_service.proofs.promised.promises.Goals as goal

pub returns : goal.returns
returns g c = sees_promised _ c.number.ensures.fits
