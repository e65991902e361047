use Rattle.flash_volume.proofs.array.PageArray.pass.Goals as goal

pub pass-requires-clause-none : goal.pass-requires-clause-none
pass-requires-clause-none g c = rw (← c.self.view_is) at c.requires.none
