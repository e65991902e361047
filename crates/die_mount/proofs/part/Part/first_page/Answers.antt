use Rattle.std.proofs.Common.{refl}
use Rattle.die_mount.proofs.part.Part.first_page.Goals as goal

pub returns-in_err-page-clause-none : goal.returns-in_err-page-clause-none
returns-in_err-page-clause-none c = rw c.from_residual.ensures (rw (← c.self.view_is) (rw (← c.self.invariant.map) c.in_err-page.ensures.none))

pub returns-clause-some : goal.returns-clause-some
returns-clause-some c = rw (← c.self.view_is) (record {
  own = refl;
  from_on = c.in_ok-page.ensures.some.from_on;
  lies = c.in-Some.ensures.lies;
  first = c.in_ok-page.ensures.some.first;
})
