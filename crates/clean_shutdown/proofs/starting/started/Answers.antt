use Rattle.std.proofs.Common.{Some, sym, subst, ◌∙◌}
use Rattle.std.proofs.lemmas.Bool.{true≢false}
use Rattle.slot_types.specs.declared.plans.Shape.{Shape}
use Rattle.clean_shutdown.proofs.Starts.{both_err, refuses_other}
use Rattle.clean_shutdown.specs.Starting.{FitsPart, GoesOnFrom, beside_one}
use Rattle.clean_shutdown.proofs.starting.started.Goals as goal

pub returns-in-Ok-false-clause-refused : goal.returns-in-Ok-false-clause-refused
returns-in-Ok-false-clause-refused g c =
    let other : GoesOnFrom c.args.plan (g.N.Nand.shape_of c.args.part) (Some c.args.saved.now) → ⊥ = λ fits. true≢false (sym (c.in-Ok-false.ensures.fits.1
    (subst (λ (x : Shape). FitsPart c.args.plan (beside_one x) c.args.saved.now) (sym c.shape-shape.ensures) fits)) ∙ c.in-Ok-false.field-0-test) in
    both_err c.mounted_closed.result (λ no known h. refuses_other c.args.plan (g.N.Nand.shape_of c.args.part) c.args.saved.now _ _ no.refusal other known h)
    c.mounted_closed.ensures.known c.mounted_closed.ensures.refused
