use Rattle.flash_volume.proofs.Kept.{sound_still}
use Rattle.flash_volume.proofs.volume.Volume.admit.Goals as goal

pub invariant_of-self : goal.invariant_of-self
invariant_of-self g c = λ alive. sound_still c.admit.new.self (c.self.invariant alive) c.admit.ensures.plan c.admit.ensures.reserves
    c.admit.ensures.total
