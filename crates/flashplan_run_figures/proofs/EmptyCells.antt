-- Cells of tasks that all hold the same.
use Rattle.std.proofs.Common.{◌≡◌, ℕ, ◌+◌, ◌<◌, List, [], ◌∷◌, ◌++◌, length, drop, ap, arith}
use Rattle.std.specs.Prelude.{flat_map}
use Rattle.std.proofs.lemmas.List.{drop_more}
use Rattle.flashplan_run_figures.specs.declared.records.Figures.{Figures}

pub one_alike : (cell : List ℕ) (tasks : List Figures) (n : ℕ) → n < length tasks
    → flat_map (λ (task : Figures). cell) (drop n tasks) ≡ cell ++ flat_map (λ (task : Figures). cell) (drop (n + 1) tasks)
one_alike cell [] n there = absurd (omega (arith, there))
one_alike cell (t ∷ ts) n there = ap (flat_map (λ (task : Figures). cell)) (drop_more (t ∷ ts) n t there)
