use Rattle.std.proofs.Common.{◌≡◌, ◌++◌, drop}
use Rattle.std.specs.Prelude.{codes, decimal, flat_map}
use Rattle.flashplan_run_figures.specs.Tables.{head_text, left, right}
use Rattle.flashplan_run_figures.proofs.tables.put_heads.Given as goal

abbrev pub invariant-loop-figures : goal.invariant-loop-figures
invariant-loop-figures l =
    l.text.items ++ flat_map (head_text l.layout) (drop l.figures-index l.figures-items)
    ≡ l.fn.text.items
    ++ (left 25 (codes "die " ++ decimal l.die) ++ right l.layout.width (codes "all") ++ flat_map (head_text l.layout) l.records.tasks.items)
