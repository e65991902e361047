use Rattle.std.proofs.Common.{◌≡◌, ◌∷◌, [], Some, drop, map, take}
use Rattle.report_texts.specs.TextSoFar.{text_so_far}
use Rattle.task_script.specs.declared.die_texts.DieText.{DieText}
use Rattle.task_script.proofs.die_texts.parts_in.Given as goal

abbrev pub invariant-loop-made : goal.invariant-loop-made
invariant-loop-made l = record {
  parts : map Some l.parts.items ≡ Some (text_so_far []) ∷ map (λ (text : DieText). text.text) (take l.made-index l.initial.texts);
  left : drop l.made-index l.texts ≡ drop l.made-index l.initial.texts;
}
