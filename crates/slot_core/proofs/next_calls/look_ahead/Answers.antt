use Rattle.std.proofs.Common.{◌≡◌, ◌+◌, ◌-◌, ◌<◌, ℕ, Bool, true, false, List, [], ◌∷◌, ◌++◌, Some, None, refl, ap, sym, ◌∙◌, subst, length, length-append}
use Rattle.std.proofs.Common.{slice_get, arith}
use Rattle.slot_types.specs.declared.replies.Waived.{Waived}
use Rattle.plan_rules.specs.Accounts.{given_of}
use Rattle.job_table.specs.Heads.{with_waived}
use Rattle.job_table.specs.Order.{IsHead, NothingReady}
use Rattle.job_table.specs.Table.{Table}
use Rattle.slot_core.specs.HeadSteps.{is_fresh}
use Rattle.slot_core.proofs.Foreseeing.{Foresees, foresees_start, foresees_idle, foresees_fits, foresees_turn, foresees_first, foresees_waive}
use Rattle.slot_core.proofs.Foreseeing.{foresees_there, foresees_task}
use Rattle.slot_core.proofs.next_calls.look_ahead.Goals as goal

pub loop-number-init : goal.loop-number-init
loop-number-init g c = record {
  foresees = subst (λ (ws : List Waived). Foresees g.from.0 g.N.Nand.blocks g.from.1 c.args.present ws
      (record c.args.table.now { clock = c.args.present }) c.args.volume.now c.spare-spare.result) (sym c.requires.1.1.0)
      (subst (λ (n : ℕ). Foresees g.from.0 g.N.Nand.blocks g.from.1 c.args.present []
      (record c.args.table.now { clock = c.args.present }) c.args.volume.now n) (sym c.spare-spare.ensures)
      (foresees_start g.from.0 g.N.Nand.blocks g.from.1 c.args.present c.args.table.now c.args.volume.now c.requires.1.1.1.1.1
      c.requires.1.0 c.requires.1.1.1.0));
  clock = c.requires.1.1.1.1.0;
  table = refl;
}

pub returns-in_default-clause-next : goal.returns-in_default-clause-next
returns-in_default-clause-next g c =
    let t : Table = record c.loop-number.table { clock = c.args.present } in
    foresees_idle g.from.0 g.N.Nand.blocks g.from.1 c.args.present c.loop-number.said t c.args.volume.now c.loop-number.spare
    c.loop-number.invariant.foresees
    (subst (λ (ws : List Waived). NothingReady (with_waived t ws)) c.as_slice.ensures c.in_default.ensures.idle)

pub unreachable-requires : goal.unreachable-requires
unreachable-requires g c =
    let t : Table = record c.loop-number.table { clock = c.args.present } in
    let f = c.loop-number.invariant.foresees in
    let head : IsHead (with_waived t c.loop-number.said) c.in-Some.number = subst (λ (ws : List Waived). IsHead (with_waived t ws) c.in-Some.number)
    c.as_slice.ensures c.in-Some.ensures.head in
    foresees_there t c.loop-number.said c.in-Some.number head
    (ap (λ (x : Table). slice_get x.jobs c.in-Some.number) (sym c.head_after.ensures.clock) ∙ c.in-None.ensures)

pub next_head_slot-requires-clause-fits : goal.next_head_slot-requires-clause-fits
next_head_slot-requires-clause-fits g c =
    let t : Table = record c.loop-number.table { clock = c.args.present } in
    let f = c.loop-number.invariant.foresees in
    let head : IsHead (with_waived t c.loop-number.said) c.in-Some.number = subst (λ (ws : List Waived). IsHead (with_waived t ws) c.in-Some.number)
    c.as_slice.ensures c.in-Some.ensures.head in
    let at : slice_get t.jobs c.in-Some.number ≡ Some c.in-Some-job.job = ap (λ (x : Table). slice_get x.jobs c.in-Some.number)
    (sym c.head_after.ensures.clock) ∙ c.in-Some-job.ensures in
    let unfresh : is_fresh c.in-Some-job.job ≡ false = sym c.is_fresh.ensures ∙ c.if-not-is_fresh.true in
    foresees_fits g.from.0 g.N.Nand.blocks g.from.1 c.args.present c.loop-number.said t c.in-Some.number c.args.volume.now c.loop-number.spare c.in-Some-job.job f head at unfresh

pub returns-then-not-is_fresh-clause-next : goal.returns-then-not-is_fresh-clause-next
returns-then-not-is_fresh-clause-next g c =
    let t : Table = record c.loop-number.table { clock = c.args.present } in
    let f = c.loop-number.invariant.foresees in
    let head : IsHead (with_waived t c.loop-number.said) c.in-Some.number = subst (λ (ws : List Waived). IsHead (with_waived t ws) c.in-Some.number)
    c.as_slice.ensures c.in-Some.ensures.head in
    let at : slice_get t.jobs c.in-Some.number ≡ Some c.in-Some-job.job = ap (λ (x : Table). slice_get x.jobs c.in-Some.number)
    (sym c.head_after.ensures.clock) ∙ c.in-Some-job.ensures in
    let unfresh : is_fresh c.in-Some-job.job ≡ false = sym c.is_fresh.ensures ∙ c.if-not-is_fresh.true in
    foresees_turn g.from.0 g.N.Nand.blocks g.from.1 c.args.present c.loop-number.said t c.in-Some.number c.args.volume.now c.loop-number.spare c.in-Some-job.job c.next_head_slot.result f head at unfresh c.next_head_slot.ensures

pub returns-then-spare-plan-clause-next : goal.returns-then-spare-plan-clause-next
returns-then-spare-plan-clause-next g c =
    let t : Table = record c.loop-number.table { clock = c.args.present } in
    let f = c.loop-number.invariant.foresees in
    let head : IsHead (with_waived t c.loop-number.said) c.in-Some.number = subst (λ (ws : List Waived). IsHead (with_waived t ws) c.in-Some.number)
    c.as_slice.ensures c.in-Some.ensures.head in
    let at : slice_get t.jobs c.in-Some.number ≡ Some c.in-Some-job.job = ap (λ (x : Table). slice_get x.jobs c.in-Some.number)
    (sym c.head_after.ensures.clock) ∙ c.in-Some-job.ensures in
    let fresh : is_fresh c.in-Some-job.job ≡ true = sym c.is_fresh.ensures ∙ c.if-not-is_fresh.false in
    foresees_first g.from.0 g.N.Nand.blocks g.from.1 c.args.present c.loop-number.said t c.in-Some.number c.args.volume.now c.loop-number.spare c.in-Some-job.job c.first_head_slot.result f head at fresh
    (omega (arith, c.if-spare-plan.true, ap (λ p. p.alpha) c.plan.ensures)) c.first_head_slot.ensures

pub given-given-requires : goal.given-given-requires
given-given-requires g c =
    let t : Table = record c.loop-number.table { clock = c.args.present } in
    let f = c.loop-number.invariant.foresees in
    let head : IsHead (with_waived t c.loop-number.said) c.in-Some.number = subst (λ (ws : List Waived). IsHead (with_waived t ws) c.in-Some.number)
    c.as_slice.ensures c.in-Some.ensures.head in
    let at : slice_get t.jobs c.in-Some.number ≡ Some c.in-Some-job.job = ap (λ (x : Table). slice_get x.jobs c.in-Some.number)
    (sym c.head_after.ensures.clock) ∙ c.in-Some-job.ensures in
    subst (λ (k : ℕ). k < length c.args.volume.now.accounts.plan.caps) (sym c.task.ensures)
    (foresees_task g.from.0 g.N.Nand.blocks g.from.1 c.args.present c.loop-number.said t c.in-Some.number c.args.volume.now c.loop-number.spare c.in-Some-job.job f head at)

pub push_within-requires : goal.push_within-requires
push_within-requires g c =
    let t : Table = record c.loop-number.table { clock = c.args.present } in
    let f = c.loop-number.invariant.foresees in
    let head : IsHead (with_waived t c.loop-number.said) c.in-Some.number = subst (λ (ws : List Waived). IsHead (with_waived t ws) c.in-Some.number)
    c.as_slice.ensures c.in-Some.ensures.head in
    let at : slice_get t.jobs c.in-Some.number ≡ Some c.in-Some-job.job = ap (λ (x : Table). slice_get x.jobs c.in-Some.number)
    (sym c.head_after.ensures.clock) ∙ c.in-Some-job.ensures in
    let fresh : is_fresh c.in-Some-job.job ≡ true = sym c.is_fresh.ensures ∙ c.if-not-is_fresh.false in
    let then = foresees_waive g.from.0 g.N.Nand.blocks g.from.1 c.args.present c.loop-number.said t c.in-Some.number c.args.volume.now
    c.loop-number.spare c.given-given.result c.in-Some-job.job f head at fresh
    (omega (arith, c.if-spare-plan.false, ap (λ p. p.alpha) c.plan.ensures))
    (c.given-given.ensures ∙ ap (given_of c.args.volume.now.accounts) c.task.ensures) in
    (omega arith, then.few)

pub loop-number-smaller : goal.loop-number-smaller
loop-number-smaller g c =
    let t : Table = record c.loop-number.table { clock = c.args.present } in
    let f = c.loop-number.invariant.foresees in
    let head : IsHead (with_waived t c.loop-number.said) c.in-Some.number = subst (λ (ws : List Waived). IsHead (with_waived t ws) c.in-Some.number)
    c.as_slice.ensures c.in-Some.ensures.head in
    let at : slice_get t.jobs c.in-Some.number ≡ Some c.in-Some-job.job = ap (λ (x : Table). slice_get x.jobs c.in-Some.number)
    (sym c.head_after.ensures.clock) ∙ c.in-Some-job.ensures in
    let fresh : is_fresh c.in-Some-job.job ≡ true = sym c.is_fresh.ensures ∙ c.if-not-is_fresh.false in
    let then = foresees_waive g.from.0 g.N.Nand.blocks g.from.1 c.args.present c.loop-number.said t c.in-Some.number c.args.volume.now
    c.loop-number.spare c.given-given.result c.in-Some-job.job f head at fresh
    (omega (arith, c.if-spare-plan.false, ap (λ p. p.alpha) c.plan.ensures))
    (c.given-given.ensures ∙ ap (given_of c.args.volume.now.accounts) c.task.ensures) in
    omega (
      arith,
      ap (λ (ws : List Waived). length ws) c.push_within.ensures,
      length-append c.loop-number.said (record { number = c.in-Some.number; given = c.given-given.result } ∷ []),
      then.few,
    )

pub loop-number-preserved : goal.loop-number-preserved
loop-number-preserved g c =
    let t : Table = record c.loop-number.table { clock = c.args.present } in
    let f = c.loop-number.invariant.foresees in
    let head : IsHead (with_waived t c.loop-number.said) c.in-Some.number = subst (λ (ws : List Waived). IsHead (with_waived t ws) c.in-Some.number)
    c.as_slice.ensures c.in-Some.ensures.head in
    let at : slice_get t.jobs c.in-Some.number ≡ Some c.in-Some-job.job = ap (λ (x : Table). slice_get x.jobs c.in-Some.number)
    (sym c.head_after.ensures.clock) ∙ c.in-Some-job.ensures in
    let fresh : is_fresh c.in-Some-job.job ≡ true = sym c.is_fresh.ensures ∙ c.if-not-is_fresh.false in
    let then = foresees_waive g.from.0 g.N.Nand.blocks g.from.1 c.args.present c.loop-number.said t c.in-Some.number c.args.volume.now
    c.loop-number.spare c.given-given.result c.in-Some-job.job f head at fresh
    (omega (arith, c.if-spare-plan.false, ap (λ p. p.alpha) c.plan.ensures))
    (c.given-given.ensures ∙ ap (given_of c.args.volume.now.accounts) c.task.ensures) in
    record {
      foresees = subst (λ (ws : List Waived). Foresees g.from.0 g.N.Nand.blocks g.from.1 c.args.present ws
          (record c.head_after.new.self { clock = c.args.present }) c.args.volume.now (c.loop-number.spare - c.given-given.result))
          (sym c.push_within.ensures)
          (subst (λ (x : Table). Foresees g.from.0 g.N.Nand.blocks g.from.1 c.args.present
          (c.loop-number.said ++ record { number = c.in-Some.number; given = c.given-given.result } ∷ [])
          (record x { clock = c.args.present }) c.args.volume.now (c.loop-number.spare - c.given-given.result))
          (sym c.head_after.ensures.clock) then.then);
      clock = omega (arith, ap (λ (x : Table). x.clock) c.head_after.ensures.clock);
      table = ap (λ (x : Table). record x { clock = c.args.present }) c.head_after.ensures.clock ∙ c.loop-number.invariant.table;
    }
