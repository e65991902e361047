use Rattle.std.proofs.Common.{ap, ◌∙◌}
use Rattle.std.specs.Prelude.{option_map}
use Rattle.csv.specs.Reading.{strip_bom}
use Rattle.text_base.proofs.RowLaws.{begins}
use Rattle.text_base.proofs.csv_records.rows_up_to.Goals as goal

pub returns-clause-rows : goal.returns-clause-rows
returns-clause-rows g c =
    (begins c.args.most g.R.Read.remaining c.from_reader.result (g.R.Read.remaining c.args.reader) c.from_reader.ensures.state
    (c.from_reader.ensures.source ∙ ap (option_map strip_bom) c.up_to.ensures)).0

pub returns-clause-fits : goal.returns-clause-fits
returns-clause-fits g c =
    (begins c.args.most g.R.Read.remaining c.from_reader.result (g.R.Read.remaining c.args.reader) c.from_reader.ensures.state
    (c.from_reader.ensures.source ∙ ap (option_map strip_bom) c.up_to.ensures)).1
