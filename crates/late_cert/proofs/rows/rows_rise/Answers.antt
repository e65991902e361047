use Rattle.late_cert.proofs.rows.rows_rise.Goals as goal

pub returns : goal.returns
returns c = (rw c.as_slice.ensures at c.numbers_rise.ensures)
