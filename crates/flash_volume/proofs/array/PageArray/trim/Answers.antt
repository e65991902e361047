use Rattle.flash_volume.proofs.Opening.{seen}
use Rattle.flash_volume.proofs.Counting.{some_valid, left_some}
use Rattle.flash_volume.proofs.Trimming.{stands_trimmed, contents_trimmed}
use Rattle.flash_volume.proofs.array.PageArray.trim.Goals as goal

pub leave-requires : goal.leave-requires
leave-requires g c = λ place n lay counted.
    let stands = c.self.invariant (rw (← c.self.view_is) at c.requires.alive) in
    some_valid c.args.page n place stands (rw c.map.ensures at (rw c.place-before.ensures.place at lay)) counted

pub invariant_of-self : goal.invariant_of-self
invariant_of-self g c = λ alive.
    rw (c.leave.ensures, c.place-before.ensures.place, c.map.ensures, c.unbind.ensures)
    (stands_trimmed c.args.page (c.self.invariant alive) (rw (← c.self.view_is) at c.requires.page))

pub returns-clause-sound : goal.returns-clause-sound
returns-clause-sound g c = λ alive. seen (invariant_of-self g c alive)

pub returns-clause-candidates : goal.returns-clause-candidates
returns-clause-candidates g c = λ block. rw (← c.self.view_is, c.leave.ensures)
    (left_some c.place-before.result c.self.inside.victims.counts block)

pub returns-clause-contents : goal.returns-clause-contents
returns-clause-contents g c = rw (← c.self.view_is, c.unbind.ensures)
    (contents_trimmed (g.N.Nand.blocks c.self.inside.device) c.self.inside.placed.places c.args.page)
