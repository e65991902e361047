use Rattle.text_base.specs.Plain.{IsPlain}
use Rattle.flash_commands.proofs.report_hints.record_in.Given as goal

abbrev pub invariant-loop-record : goal.invariant-loop-record
invariant-loop-record g l = IsPlain l.rows
