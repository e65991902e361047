use Rattle.flash_volume.proofs.Beginning.{is_victim}
use Rattle.flash_volume.proofs.volume.Volume.first_step.Goals as goal

pub returns-in-Some-clause-step : goal.returns-in-Some-clause-step
returns-in-Some-clause-step g c =
    let sound = c.self.invariant (rw (← c.self.view_is) at c.requires.alive) in
    record {
      block = c.in-Some.victim;
      victim = rw (← c.self.view_is) (rw (← sound.shape_is) (is_victim c.in-Some.victim sound c.in-Some.ensures.least));
      is = c.read_or_erase.ensures;
    }
