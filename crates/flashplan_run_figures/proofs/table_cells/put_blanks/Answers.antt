use Rattle.std.proofs.Common.{ℕ, List, ◌++◌, ◌∷◌, [], ◌+◌, ◌∙◌, ap, sym}
use Rattle.std.proofs.lemmas.List.{append_assoc}
use Rattle.flashplan_run_figures.specs.Tables.{blanks}
use Rattle.flashplan_run_figures.proofs.Blanks.{one_more}
use Rattle.flashplan_run_figures.proofs.table_cells.put_blanks.Goals as goal

pub loop-preserved : goal.loop-preserved
loop-preserved c =
    let rest = blanks (c.loop.counter + 1) c.args.to in
    ap (λ (xs : List ℕ). xs ++ rest) c.in_ok-push.ensures.items
    ∙ (append_assoc c.loop.text.items (32 ∷ []) rest
    ∙ (ap (λ (xs : List ℕ). c.loop.text.items ++ xs) (sym (one_more c.loop.counter c.args.to c.loop-test.true)) ∙ c.loop.invariant))
