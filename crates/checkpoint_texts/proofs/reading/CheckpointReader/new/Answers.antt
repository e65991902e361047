use Rattle.text_base.specs.CsvRecords.{rows_of}
use Rattle.report_texts.proofs.RecordLaws.{text-left}
use Rattle.checkpoint_texts.specs.CheckpointOf.{checkpoint_from}
use Rattle.checkpoint_texts.proofs.reading.CheckpointReader.new.Goals as goal

pub returns-clause-checkpoint : goal.returns-clause-checkpoint
returns-clause-checkpoint g c = text-left rows_of checkpoint_from (g.R.Read.remaining c.args.reader) _ c.rows_up_to.ensures.rows
