use Rattle.labelled_spares.proofs.Anew.{stands_anew}
use Rattle.labelled_spares.proofs.laws.a_device_made_anew_has_the_same_pages.Goals as goal

pub returns : goal.returns
returns g c = λ plan pages from seen bad shown part d stands may up s.
    stands_anew g.D.WearingNand.blocks g.D.WearingNand.next plan pages from seen bad shown part d stands may up s
