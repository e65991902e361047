use Rattle.report_texts.specs.Commas.{after_commas}
use Rattle.checkpoint_texts.proofs.LineLaws.{two-fields}
use Rattle.checkpoint_texts.proofs.lines.put_place.Goals as goal

pub returns-in_ok-put_number-in-Some-2 : goal.returns-in_ok-put_number-in-Some-2
returns-in_ok-put_number-in-Some-2 c = rw c.in-Some.is (two-fields _ _ _ _ _ c.in_ok-put_number-in-Some.ensures
    c.in_ok-put_number-in-Some-2.ensures)

pub returns-in_ok-extend_from_slice-in-None : goal.returns-in_ok-extend_from_slice-in-None
unfolding after_commas
returns-in_ok-extend_from_slice-in-None c = rw c.in-None.is c.in_ok-extend_from_slice-in-None.ensures.items
