use Rattle.std.proofs.Common.{rules, ◌≡◌, ◌+◌, ◌∷◌, ◌∙◌, List, [], ap, sym, refl, subst, arith, drop, length, vec_len}
use Rattle.std.proofs.lemmas.List.{at_drop_all, length-map}
use Rattle.slot_core.specs.Core.{Core}
use Rattle.flash_die.specs.Memory.{Memory}
use Rattle.planned_die.specs.Planned.{Planned}
use Rattle.task_script.specs.StoreRuns.{reports_of}
use Rattle.task_script.proofs.Gathering.{IsReportedOf, all_reported, reported_more}
use Rattle.flashplan_kept_runs.specs.KeptDies.{cores_of}
use Rattle.flashplan_kept_runs.proofs.Reports.{first_left}
use Rattle.flashplan_kept_runs.proofs.store_runs.report_of.Goals as goal

pub loop-number-init : goal.loop-number-init
loop-number-init c = ([], c.in_ok-text.ensures.ok, refl)

pub loop-number-preserved : goal.loop-number-preserved
loop-number-preserved c =
    let dies = c.args.dies.now.items in
    let number = c.loop-number.number in
    let core : Core Memory = c.core-core.result.now in
    let whole : vec_len c.args.dies.now ≡ length c.args.dies.now.items = search rules in
    let next : drop number (cores_of dies) ≡ core ∷ drop (number + 1) (cores_of dies) =
    first_left dies number c.index.result.now (omega (arith, whole, c.len-number-end.ensures, c.loop-number-test.true)) c.index.ensures
    ∙ ap (λ (x : Core Memory). x ∷ drop (number + 1) (cores_of dies)) (sym c.core-core.ensures) in
    reported_more number core (drop (number + 1) (cores_of dies)) c.loop-number.text c.add_die.new.text
    (reports_of 0 (cores_of dies)) c.in_ok-add_die.ensures.ok
    (subst (λ (left : List (Core Memory)). IsReportedOf c.loop-number.text (reports_of number left) (reports_of 0 (cores_of dies))) next
    c.loop-number.invariant)

pub returns : goal.returns
returns c =
    let dies = c.args.dies.now.items in
    let whole : vec_len c.args.dies.now ≡ length c.args.dies.now.items = search rules in
    record {
      text = all_reported c.loop-number.text (reports_of c.loop-number.number (drop c.loop-number.number (cores_of dies)))
          (reports_of 0 (cores_of dies))
          (at_drop_all (reports_of c.loop-number.number) (cores_of dies) c.loop-number.number
          (omega (arith, whole, length-map dies (λ (die : Planned Memory). die.core), c.len-number-end.ensures, c.loop-number-test.false)))
          c.loop-number.invariant;
      refused = tt;
    }
