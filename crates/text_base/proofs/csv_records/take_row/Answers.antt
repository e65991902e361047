use Rattle.std.proofs.Common.{◌∙◌}
use Rattle.csv.specs.Reading.{error_kind}
use Rattle.text_base.specs.BoundedReaders.{bounded_remaining}
use Rattle.text_base.proofs.MarkLaws.{row-bytes}
use Rattle.text_base.proofs.RowLaws.{rows-read, ready, stopped}
use Rattle.text_base.proofs.csv_records.take_row.Goals as goal

pub returns-in-Ok-clause-takes : goal.returns-in-Ok-clause-takes
returns-in-Ok-clause-takes g c =
    let plain = c.requires in
    let read = c.in-Ok.ensures.reads plain.1 (ready c.args.rows.now plain.3) in
    let bytes = row-bytes c.read_byte_record.new.row c.as_slice.result.now c.as_slice.ensures c.check_bytes.ensures in
    (rows-read g.R.Read.remaining c.args.rows.now c.read_byte_record.new.self c.in-Ok.found _ plain.0 read bytes).0

pub returns-in-Ok-clause-fits : goal.returns-in-Ok-clause-fits
returns-in-Ok-clause-fits g c =
    let plain = c.requires in
    let read = c.in-Ok.ensures.reads plain.1 (ready c.args.rows.now plain.3) in
    let bytes = row-bytes c.read_byte_record.new.row c.as_slice.result.now c.as_slice.ensures c.check_bytes.ensures in
    (rows-read g.R.Read.remaining c.args.rows.now c.read_byte_record.new.self c.in-Ok.found _ plain.0 read bytes).1

pub returns-in-Ok-clause-goes : goal.returns-in-Ok-clause-goes
returns-in-Ok-clause-goes g c = c.in-Ok.ensures.goes

pub returns-in-Err-clause-failed : goal.returns-in-Err-clause-failed
returns-in-Err-clause-failed g c =
    let plain = c.requires in
    let why = c.in-Err.ensures.why (ready c.args.rows.now plain.3) in
    c.in-Err.ensures.fails
    ∙ stopped (bounded_remaining g.R.Read.remaining) c.args.rows.now c.read_byte_record.new.self (error_kind c.in-Err.e) plain.2 why
