-- What a reader of a checkpoint has left.
use Rattle.std.specs.Prelude.{ℕ, Bool, List, Option, option_map}
use Rattle.csv.specs.Reading.{has_failed}
use Rattle.text_base.specs.CsvRecordsLeft.{fits_left, rows_left}
use Rattle.text_base.specs.Plain.{IsPlain}
use Rattle.checkpoint_texts.specs.CheckpointOf.{Reading, checkpoint_from}
use Rattle.checkpoint_texts.specs.declared.reading.CheckpointReader.{CheckpointReader}

-- csv's reader has its defaults, and its next record is a whole one
abbrev pub IsReady : {R : Type 0} → CheckpointReader R → Type 0
IsReady r = IsPlain r.rows

-- the checkpoint that the records of its text say which it has still to read, where they are known
abbrev pub checkpoint_left : {R : Type 0} → (R → Option (List ℕ)) → CheckpointReader R → Option Reading
checkpoint_left rem r = option_map checkpoint_from (rows_left rem r.rows)

-- whether its text fits its bound, where it is known
abbrev pub checkpoint_fits : {R : Type 0} → (R → Option (List ℕ)) → CheckpointReader R → Option Bool
checkpoint_fits rem r = fits_left rem r.rows

-- whether csv's reader has failed
abbrev pub reader_failed : {R : Type 0} → CheckpointReader R → Bool
reader_failed r = has_failed r.rows
