use Rattle.std.proofs.Common.{◌∷◌, ◌++◌, [], ℕ, List, ap, ◌∙◌}
use Rattle.csv.specs.Records.{fields_of}
use Rattle.script_texts.specs.RowTexts.{RowText, row_text}
use Rattle.script_texts.specs.declared.script_rows.RowHead.{RowHead}
use Rattle.script_texts.proofs.RowLists.{rows_push}
use Rattle.script_texts.proofs.row_texts.RowTexts.add.Goals as goal

pub returns-in-Ok-clause-ok : goal.returns-in-Ok-clause-ok
returns-in-Ok-clause-ok c =
    let f = c.self.inside in
    let head = c.args.head.now in
    let text = c.args.ops.now in
    rows_push f.heads.items _ (fields_of f.texts) _ head text c.self.invariant.0
    (c.push_reserved.ensures.items ∙ ap (λ (hs : List RowHead). hs ++ head ∷ []) c.in_ok-reserve.ensures.items)
    (c.in-Ok.ensures.fields ∙ ap (λ (part : List ℕ). fields_of f.texts ++ (part ++ text) ∷ []) c.self.invariant.1)
    ∙ ap (λ (rows : List RowText). rows ++ row_text head text ∷ []) c.self.view_is
