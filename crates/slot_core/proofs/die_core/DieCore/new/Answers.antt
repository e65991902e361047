use Rattle.std.proofs.Common.{◌≡◌, refl, sym, ◌∙◌, ap, inl, inr, arith}
use Rattle.std.specs.Prelude.{Result, Ok, Err, IfOk, ◌↔◌}
use Rattle.std.specs.Result.{IsErrAnd}
use Rattle.std.proofs.lemmas.Grind.{common_steps}
use Rattle.slot_types.specs.declared.plans.Shape.{Shape}
use Rattle.slot_types.specs.declared.refusals.Refusal.{Refusal}
use Rattle.slot_types.specs.declared.refusals.Refusal.TheVariants.{BadShape, BadPlan, NoMemory}
use Rattle.flash_die.specs.Flash.{fresh_blocks}
use Rattle.job_table.specs.Table.{Table, empty_table}
use Rattle.slot_core.specs.TableLog.{log_of}
use Rattle.slot_core.proofs.Keeping.{keeps_start, err_where, bound_refusal, same_shape}
use Rattle.slot_core.proofs.Marks.{marks_none}
use Rattle.slot_core.proofs.Reserving.{empty_room}
use Rattle.slot_core.proofs.die_core.DieCore.new.Goals as goal

-- A result that is an error

ok_nowhere : {A E : Type 0} (r : Result A E) (P : E → Type 0) (Q : A → Type 0) → IsErrAnd r P → IfOk r Q
ok_nowhere (Ok x) P Q h = absurd h
ok_nowhere (Err e) P Q h = tt

other_error : {A E : Type 0} (r : Result A E) (P : E → Type 0) (x : E) (Y : Type 0) → IsErrAnd r P → ((e : E) → P e → e ≡ x → ⊥) → (Y → ⊥)
    → (r ≡ Err x) ↔ Y
other_error (Ok a) P x Y h other none = absurd h
other_error (Err e) P x Y h other none = ((λ is. absurd (other e h cc)), (λ y. absurd (none y)))

not_shape : (e r : Refusal) → e ≡ r → r ≡ NoMemory → e ≡ BadShape → ⊥
not_shape e r is memory shape = cc

not_plan : (e r : Refusal) → e ≡ r → r ≡ NoMemory → e ≡ BadPlan → ⊥
not_plan e r is memory plan = cc

pub returns-in_err-bound-clause-refused : goal.returns-in_err-bound-clause-refused
returns-in_err-bound-clause-refused g c =
    err_where c.from_residual.result _ _ c.from_residual.ensures.1 (λ e is. bound_refusal e _ is c.in_err-bound.ensures.refused)

pub invariant_of-result : goal.invariant_of-result
invariant_of-result g c =
    let room = empty_room c.in_ok-table.table (ap (λ (t : Table). t.reserve) c.in_ok-table.ensures.ok) (ap (λ (t : Table). t.lasting) c.in_ok-table.ensures.ok)
    (ap (λ (t : Table). t.jobs) c.in_ok-table.ensures.ok) c.new-3.result.room c.new-3.result.waiver_room c.new-3.result.memory c.new-3.result.waiver_memory in
    let same : c.shape.result ≡ c.args.plan.shape = same_shape c.shape.result c.args.plan.shape c.if-ne.ensures in (
      record {
        kept = keeps_start g.N.Nand.blocks c.args.plan c.args.nand (log_of c.in_ok-table.table c.new-3.result.notes) c.in_ok-table.table
            c.in_ok-volume.volume c.fresh-start.result
            (c.in_ok-bound.ensures.ok.0 refl) (c.requires.fresh.unused ∙ ap (λ (s : Shape). fresh_blocks s) (sym c.shape.ensures ∙ same))
            (rw c.new-3.ensures refl)
            (c.in_ok-table.ensures.ok ∙ ap empty_table c.len.ensures) c.in_ok-volume.ensures.ok c.fresh-start.ensures;
        fits = rw c.new-3.ensures tt;
      },
      room.0,
      rw (c.in_ok-table.ensures.ok, c.new-3.ensures) marks_none,
      room.1,
    )

pub returns-clause-bad_plan : goal.returns-clause-bad_plan
returns-clause-bad_plan g c = ((λ e. absurd cc), (λ h. absurd (h.2 (c.in_ok-bound.ensures.ok.0 refl))))

pub returns-then-ne-clause-ok : goal.returns-then-ne-clause-ok
returns-then-ne-clause-ok g c = tt

pub returns-then-ne-clause-bad_shape : goal.returns-then-ne-clause-bad_shape
returns-then-ne-clause-bad_shape g c = grind (arith, common_steps)

pub returns-then-ne-clause-bad_plan : goal.returns-then-ne-clause-bad_plan
returns-then-ne-clause-bad_plan g c = grind (arith, common_steps)

pub returns-then-ne-clause-refused : goal.returns-then-ne-clause-refused
returns-then-ne-clause-refused g c = inl refl

pub returns-in_err-bound-clause-ok : goal.returns-in_err-bound-clause-ok
returns-in_err-bound-clause-ok g c = ok_nowhere c.from_residual.result _ _ c.from_residual.ensures.1

pub returns-in_err-bound-clause-bad_shape : goal.returns-in_err-bound-clause-bad_shape
returns-in_err-bound-clause-bad_shape g c = grind (arith, common_steps)

pub returns-in_err-bound-clause-bad_plan : goal.returns-in_err-bound-clause-bad_plan
returns-in_err-bound-clause-bad_plan g c = grind (arith, common_steps)

pub returns-in_err-table-clause-ok : goal.returns-in_err-table-clause-ok
returns-in_err-table-clause-ok g c = ok_nowhere c.from_residual-in_err-table.result _ _ c.from_residual-in_err-table.ensures.1

pub returns-in_err-table-clause-bad_shape : goal.returns-in_err-table-clause-bad_shape
returns-in_err-table-clause-bad_shape g c =
    let same : c.shape.result ≡ c.args.plan.shape = same_shape c.shape.result c.args.plan.shape c.if-ne.ensures in
    other_error c.from_residual-in_err-table.result _ BadShape _ c.from_residual-in_err-table.ensures.1 (λ e is. not_shape e _ is c.in_err-table.ensures.refused)
    (λ not_so. not_so ((c.in_ok-bound.ensures.ok.0 refl).shape, sym c.shape.ensures ∙ same))

pub returns-in_err-table-clause-bad_plan : goal.returns-in_err-table-clause-bad_plan
returns-in_err-table-clause-bad_plan g c =
    other_error c.from_residual-in_err-table.result _ BadPlan _ c.from_residual-in_err-table.ensures.1 (λ e is. not_plan e _ is c.in_err-table.ensures.refused) (λ h. h.2 (c.in_ok-bound.ensures.ok.0 refl))

pub returns-in_err-table-clause-refused : goal.returns-in_err-table-clause-refused
returns-in_err-table-clause-refused g c =
    err_where c.from_residual-in_err-table.result _ _ c.from_residual-in_err-table.ensures.1 (λ e is. inr (inr (is ∙ c.in_err-table.ensures.refused)))

pub returns-in_err-volume-clause-ok : goal.returns-in_err-volume-clause-ok
returns-in_err-volume-clause-ok g c = ok_nowhere c.from_residual-in_err-volume.result _ _ c.from_residual-in_err-volume.ensures.1

pub returns-in_err-volume-clause-bad_shape : goal.returns-in_err-volume-clause-bad_shape
returns-in_err-volume-clause-bad_shape g c =
    let same : c.shape.result ≡ c.args.plan.shape = same_shape c.shape.result c.args.plan.shape c.if-ne.ensures in
    other_error c.from_residual-in_err-volume.result _ BadShape _ c.from_residual-in_err-volume.ensures.1 (λ e is. not_shape e _ is c.in_err-volume.ensures.err)
    (λ not_so. not_so ((c.in_ok-bound.ensures.ok.0 refl).shape, sym c.shape.ensures ∙ same))

pub returns-in_err-volume-clause-bad_plan : goal.returns-in_err-volume-clause-bad_plan
returns-in_err-volume-clause-bad_plan g c =
    other_error c.from_residual-in_err-volume.result _ BadPlan _ c.from_residual-in_err-volume.ensures.1 (λ e is. not_plan e _ is c.in_err-volume.ensures.err) (λ h. h.2 (c.in_ok-bound.ensures.ok.0 refl))

pub returns-in_err-volume-clause-refused : goal.returns-in_err-volume-clause-refused
returns-in_err-volume-clause-refused g c =
    err_where c.from_residual-in_err-volume.result _ _ c.from_residual-in_err-volume.ensures.1 (λ e is. inr (inr (is ∙ c.in_err-volume.ensures.err)))

pub returns-clause-ok : goal.returns-clause-ok
returns-clause-ok g c = grind (arith, common_steps)

pub returns-clause-bad_shape : goal.returns-clause-bad_shape
returns-clause-bad_shape g c =
    let same : c.shape.result ≡ c.args.plan.shape = same_shape c.shape.result c.args.plan.shape c.if-ne.ensures in
    ((λ e. absurd cc), (λ not_so. absurd (not_so ((c.in_ok-bound.ensures.ok.0 refl).shape, sym c.shape.ensures ∙ same))))

pub returns-clause-refused : goal.returns-clause-refused
returns-clause-refused g c = tt

pub new-requires-2-clause-bound : goal.new-requires-2-clause-bound
new-requires-2-clause-bound g c = c.in_ok-bound.ensures.ok.0 refl

pub new-requires-2-clause-shape : goal.new-requires-2-clause-shape
new-requires-2-clause-shape g c =
    sym c.shape.ensures ∙ same_shape c.shape.result c.args.plan.shape c.if-ne.ensures

pub new-requires-2-clause-fresh : goal.new-requires-2-clause-fresh
new-requires-2-clause-fresh g c = c.requires.fresh
