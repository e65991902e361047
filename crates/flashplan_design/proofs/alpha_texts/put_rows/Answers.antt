use Rattle.std.proofs.Common.{◌∙◌, ◌++◌, ◌∷◌, [], ap, sym, take}
use Rattle.std.specs.Prelude.{flat_map}
use Rattle.std.proofs.lemmas.List.{flat_map_more, take_more}
use Rattle.flashplan_design.specs.Alphas.{row_line}
use Rattle.flashplan_design.proofs.alpha_texts.put_rows.Goals as goal

pub loop-row-preserved : goal.loop-row-preserved
loop-row-preserved c =
    let rows = c.args.rows.now in
    let at = c.loop-row.row-index in
    let line = row_line c.args.slot_us in
    let more = take_more rows at c.row-item.result c.loop-row-test.true in
    c.in_ok-put_row.ensures
    ∙ (ap (λ t. t ++ line c.row-item.result) c.loop-row.invariant
    ∙ (flat_map_more line c.args.text.now.items (take at rows) c.row-item.result
    ∙ ap (λ xs. c.args.text.now.items ++ flat_map line xs) (sym (more ∙ ap (λ r. take at rows ++ r ∷ []) (sym c.row-item.is)))))
