use Rattle.std.proofs.Common.{arith, ap, sym, ◌∙◌, eqb-true}
use Rattle.std.proofs.lemmas.Option.{slice_get-get_or}
use Rattle.late_cert.specs.declared.rows.JobRow.{JobRow}
use Rattle.late_cert.proofs.RowSearch.{rows-below, rows-above, get-same, row-found, row-missing, no-row, cmp-less, cmp-not-less}
use Rattle.late_cert.proofs.lookups.search.Goals as goal
use Rattle.late_cert.proofs.lookups.search.Goals.{else-low-rows-via-then-low-rows+else-eq, else-low-rows-via-else-low-rows}

pub loop-low-preserved-then-lt : goal.loop-low-preserved-then-lt
loop-low-preserved-then-lt c = record {
  inside = c.loop-low.invariant.inside;
  below = λ k d a b. rows-below _ c.requires _ _ c.index-rows-middle.result (omega arith) (cmp-less _ _ _ c.lt.ensures c.if-lt.true) k b d;
  above = c.loop-low.invariant.above;
}

pub loop-low-preserved : goal.loop-low-preserved
loop-low-preserved c = record {
  inside = omega arith;
  below = c.loop-low.invariant.below;
  above = λ k d a b. rows-above _ c.requires _ _ c.index-rows-middle.result (omega arith) (cmp-not-less _ _ _ c.lt.ensures c.if-lt.false) k
      a b d;
}

pub returns-then-eq-clause-row : goal.returns-then-eq-clause-row
returns-then-eq-clause-row c =
    row-found c.args.rows.now c.args.number c.loop-low.low c.index-rows-low.result c.if-low-rows.true
    (λ k d l. c.loop-low.invariant.below k d (omega arith) l)
    c.index-rows-low.result (sym c.if-eq.true ∙ c.eq.ensures)
    ∙ sym (slice_get-get_or c.args.rows.now c.loop-low.low c.index-rows-low.result c.if-low-rows.true)

pub returns-then-eq-clause-named : goal.returns-then-eq-clause-named
returns-then-eq-clause-named c = λ d.
    ap (λ (row : JobRow). row.number) (get-same c.args.rows.now c.loop-low.low d c.index-rows-low.result c.if-low-rows.true)
    ∙ eqb-true _ _ (sym c.eq.ensures ∙ c.if-eq.true)

pub returns-else-low-rows-clause-absent : goal.returns-else-low-rows-clause-absent
returns-else-low-rows-clause-absent c =
    elim c.else-low-rows.branch [
      | else-low-rows-via-then-low-rows+else-eq w ↦
          row-missing c.args.rows.now c.requires c.args.number c.loop-low.low w.index-rows-low.result w.if-low-rows.true
          (λ k d l. c.loop-low.invariant.below k d (omega arith) l)
          (λ k d a b. c.loop-low.invariant.above k d (omega arith) b)
          (sym w.if-eq.false ∙ w.eq.ensures)
      | else-low-rows-via-else-low-rows w ↦
          no-row c.args.rows.now c.args.number (λ k d l e.
          let b = c.loop-low.invariant.below k d (omega arith) (omega arith) in omega arith)
    ]
