-- The parts of the report of a store's dies, each made by itself.
use Rattle.std.specs.Prelude.{◌≡◌, ⊤, ℕ, ◌+◌, List, [], ◌∷◌, IfSome}
use Rattle.slot_core.specs.Core.{Core}
use Rattle.report_texts.specs.TextSoFar.{TextSoFar, die_added, no_lines, text_so_far}
use Rattle.task_script.specs.DieReports.{die_report_of}
use Rattle.task_script.specs.declared.die_texts.DieText.{DieText}

-- the lines of the report of the die of this number
abbrev pub die_part : {N : Type 0} → ℕ → Core N → TextSoFar
die_part number die = die_added (die_report_of die.start die.log number) no_lines

-- those of dies, numbered from this number on
abbrev pub die_parts : {N : Type 0} → ℕ → List (Core N) → List TextSoFar
die_parts number [] = []
die_parts number (die ∷ dies) = die_part number die ∷ die_parts (number + 1) dies

-- the header, and the lines of each die
abbrev pub report_parts : {N : Type 0} → List (Core N) → List TextSoFar
report_parts dies = text_so_far [] ∷ die_parts 0 dies

-- the lines of the die of this number were made, if memory didn't run out
abbrev pub IsMade : ℕ → DieText → DieText → Type 0
IsMade number old new = IfSome old.die (λ die. IfSome new.text (λ text. text ≡ die_part number die))

-- so of each die, from this number on
abbrev pub AreMade : ℕ → List DieText → List DieText → Type 0
AreMade number [] [] = ⊤
AreMade number (old ∷ olds) (new ∷ news) = IsMade number old new × AreMade (number + 1) olds news
AreMade number _ _ = ⊥
