use Rattle.std.proofs.Common.{◌≡◌, ◌++◌, drop}
use Rattle.std.specs.Prelude.{◌||◌, flat_map}
use Rattle.std.specs.List.{list_any}
use Rattle.flash_commands.specs.Audit.{is_refused_work, work_line}
use Rattle.flash_commands.proofs.audits.audit_of.Given as goal

abbrev pub invariant-loop-at : goal.invariant-loop-at
invariant-loop-at l = record {
  text : l.text.items ++ flat_map work_line (drop l.at l.dies) ≡ flat_map work_line l.dies;
  refused : (l.refused || list_any is_refused_work (drop l.at l.dies)) ≡ list_any is_refused_work l.dies;
}
