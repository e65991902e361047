use Rattle.std.proofs.Common.{List, ◌∷◌, ◌+◌, ◌<◌, ◌∙◌, ap, arith, drop, length, sym}
use Rattle.csv.specs.Records.{fields_of}
use Rattle.script_texts.specs.RowTexts.{RowText, row_text}
use Rattle.script_texts.proofs.RowLists.{rows_at, rows_drop, rows_long}
use Rattle.script_texts.proofs.row_texts.RowTexts.row.Goals as goal

pub index-requires : goal.index-requires
index-requires c =
    let f = c.self.inside in
    omega (arith, c.requires, rows_long f.heads.items (fields_of f.texts) c.self.invariant.0, ap length c.self.view_is)

pub returns : goal.returns
returns c =
    let f = c.self.inside in
    let heads = f.heads.items in
    let texts = fields_of f.texts in
    let head = c.index.result.now in
    let text = c.field_in.result.now in
    let below : c.args.place < length heads = omega (arith, c.requires, rows_long heads texts c.self.invariant.0, ap length c.self.view_is) in
    ap (drop c.args.place) (sym c.self.view_is)
    ∙ (rows_drop c.args.place heads texts c.self.invariant.0
    ∙ (rows_at heads texts c.args.place head text c.self.invariant.0 below c.index.ensures c.field_in.ensures
    ∙ ap (λ (rows : List RowText). row_text head text ∷ rows) (sym (rows_drop (c.args.place + 1) heads texts c.self.invariant.0)
    ∙ ap (drop (c.args.place + 1)) c.self.view_is)))
