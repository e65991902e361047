use Rattle.flash_volume.proofs.array.PageArray.first_page.Goals as goal

pub returns-clause-none : goal.returns-clause-none
returns-clause-none g c = rw (← c.self.view_is) c.first_page.ensures.none
