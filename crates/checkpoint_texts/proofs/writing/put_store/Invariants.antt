use Rattle.std.proofs.Common.{◌≡◌, ◌++◌, drop}
use Rattle.report_texts.specs.ReportText.{records_text}
use Rattle.checkpoint_texts.specs.CheckpointText.{dies_records}
use Rattle.checkpoint_texts.proofs.writing.put_store.Given as goal

abbrev pub invariant-loop-i : goal.invariant-loop-i
invariant-loop-i l = l.text.items ++ records_text (dies_records l.i (drop l.i l.store))
    ≡ l.initial.text.items ++ records_text (dies_records 0 l.store)
