use Rattle.std.proofs.Common.{rules, ◌≡◌, true, false, sym}
use Rattle.csv.specs.Records.{fields_of}
use Rattle.checkpoint_texts.proofs.ReadingLaws.{fits-beyond, header-fault, header-none, header-read}
use Rattle.checkpoint_texts.proofs.RecordFaults.{fails-then, header-at-record}
use Rattle.checkpoint_texts.proofs.reading.take_store.Goals as goal

pub returns-then-not-branch-clause-store : goal.returns-then-not-branch-clause-store
returns-then-not-branch-clause-store g c =
    let none : c.in_ok-next.field-0 ≡ false = search rules in
    header-none (fields_of c.next.new.row) _ _ (rw none at c.in_ok-next.ensures.takes)

pub returns-in-Err-clause-store : goal.returns-in-Err-clause-store
returns-in-Err-clause-store g c =
    let found : c.in_ok-next.field-0 ≡ true = search rules in
    header-fault (fields_of c.next.new.row) _ _ c.in-Err.fault (rw found at c.in_ok-next.ensures.takes) (sym c.in-Err.ensures)

pub returns-clause-store : goal.returns-clause-store
returns-clause-store g c =
    let found : c.in_ok-next.field-0 ≡ true = search rules in
    header-read (fields_of c.next.new.row) _ _ _ (rw found at c.in_ok-next.ensures.takes) (sym c.in-Ok.ensures)
    c.take_dies.ensures.store

pub returns-clause-fits : goal.returns-clause-fits
returns-clause-fits g c =
    let found : c.in_ok-next.field-0 ≡ true = search rules in
    fits-beyond _ _ _ (rw found at c.in_ok-next.ensures.fits) c.take_dies.ensures.fits

pub returns-in-Err-clause-failed : goal.returns-in-Err-clause-failed
returns-in-Err-clause-failed g c =
    header-at-record _ _ (fields_of c.next.new.row) c.in-Err.fault (sym c.in-Err.ensures) c.in_ok-next.ensures.failed

pub returns-clause-failed : goal.returns-clause-failed
returns-clause-failed g c = fails-then _ _ _ c.take_dies.result c.in_ok-next.ensures.failed c.take_dies.ensures.failed
