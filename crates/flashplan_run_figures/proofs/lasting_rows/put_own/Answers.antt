use Rattle.std.proofs.Common.{◌∙◌, ◌++◌, [], List, ℕ, ◌+◌, ap, sym, drop, append_assoc}
use Rattle.std.specs.Prelude.{flat_map}
use Rattle.flashplan_run_figures.specs.Tables.{right}
use Rattle.flashplan_run_figures.specs.declared.records.Figures.{Figures}
use Rattle.flashplan_run_figures.proofs.EmptyCells.{one_alike}
use Rattle.flashplan_run_figures.proofs.lasting_rows.put_own.Goals as goal

pub loop-preserved : goal.loop-preserved
loop-preserved c =
    let cell = right c.args.layout.now.width [] in
    let tasks = c.deref-items.result.now in
    let rest = flat_map (λ (task : Figures). cell) (drop (c.loop.index + 1) tasks) in
    ap (λ (xs : List ℕ). xs ++ rest) c.in_ok-put_right-2.ensures
    ∙ (append_assoc c.loop.text.items cell rest
    ∙ (ap (λ (xs : List ℕ). c.loop.text.items ++ xs) (sym (one_alike cell tasks c.loop.index c.loop-test.true)) ∙ c.loop.invariant))
