use Rattle.flash_volume.proofs.Opening.{seen}
use Rattle.flash_volume.proofs.Counting.{stands_without}
use Rattle.flash_volume.proofs.array.PageArray.take_victim.Goals as goal

pub invariant_of-self : goal.invariant_of-self
invariant_of-self g c = λ alive. rw (c.take_least.ensures.taken, c.unwrap.ensures) (stands_without c.unwrap.result (c.self.invariant alive))

pub returns-clause-sound : goal.returns-clause-sound
returns-clause-sound g c = λ alive. rw (c.take_least.ensures.taken, c.unwrap.ensures)
    (seen (stands_without c.unwrap.result (c.self.invariant alive)))
