use Rattle.std.proofs.Common.{arith, ℕ, ◌≡◌, ap, sym, ◌∙◌, eqb-true, get_or, ◌<◌}
use Rattle.std.proofs.lemmas.Option.{slice_get-get_or}
use Rattle.late_cert.specs.declared.rows.JobRow.{JobRow}
use Rattle.late_cert.proofs.RowSearch.{get-same, row-found, rows-rise-lt}
use Rattle.late_cert.proofs.lookups.place.Goals as goal

pub returns-then-eq-clause-row : goal.returns-then-eq-clause-row
returns-then-eq-clause-row c =
    let rows = c.args.rows.now in
    let own : ℕ = c.number.inside.0 in
    row-found rows c.args.number own c.index-rows-own.result c.if-own-rows.true
    (λ k d l.
    let less : (get_or rows k d).number < (get_or rows own d).number = rows-rise-lt rows c.requires k own d l c.if-own-rows.true in
    let same : (get_or rows own d).number ≡ (get_or rows own c.index-rows-own.result).number =
    ap (λ (row : JobRow). row.number) (get-same rows own d c.index-rows-own.result c.if-own-rows.true) in
    let is : (get_or rows own c.index-rows-own.result).number ≡ c.args.number = eqb-true _ _ (sym c.eq.ensures ∙ c.if-eq.true) in
    omega arith)
    c.index-rows-own.result (sym c.if-eq.true ∙ c.eq.ensures)
    ∙ sym (slice_get-get_or rows own c.index-rows-own.result c.if-own-rows.true)
