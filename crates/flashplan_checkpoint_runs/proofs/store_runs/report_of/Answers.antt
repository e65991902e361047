use Rattle.std.proofs.Common.{rules, ◌≡◌, ◌+◌, [], refl, subst, arith, drop, length, vec_len}
use Rattle.std.proofs.lemmas.List.{at_drop_all}
use Rattle.task_script.specs.StoreRuns.{reports_of}
use Rattle.task_script.proofs.Gathering.{IsReportedOf, all_reported, reported_more}
use Rattle.flashplan_checkpoint_runs.proofs.DiesLeft.{first_left}
use Rattle.flashplan_checkpoint_runs.proofs.store_runs.report_of.Goals as goal

pub loop-number-init : goal.loop-number-init
loop-number-init g c = ([], c.in_ok-text.ensures.ok, refl)

pub loop-number-preserved : goal.loop-number-preserved
loop-number-preserved g c =
    let dies = c.args.dies.now.items in
    let whole : vec_len c.args.dies.now ≡ length c.args.dies.now.items = search rules in
    reported_more c.loop-number.number c.index.result.now (drop (c.loop-number.number + 1) dies) c.loop-number.text c.add_die.new.text
    (reports_of 0 dies) c.in_ok-add_die.ensures.ok
    (subst (λ left. IsReportedOf c.loop-number.text (reports_of c.loop-number.number left) (reports_of 0 dies))
    (first_left dies c.loop-number.number c.index.result.now
    (omega (arith, whole, c.len-number-end.ensures, c.loop-number-test.true)) c.index.ensures) c.loop-number.invariant)

pub returns : goal.returns
returns g c =
    let dies = c.args.dies.now.items in
    let whole : vec_len c.args.dies.now ≡ length c.args.dies.now.items = search rules in
    record {
      text = all_reported c.loop-number.text (reports_of c.loop-number.number (drop c.loop-number.number dies)) (reports_of 0 dies)
          (at_drop_all (reports_of c.loop-number.number) dies c.loop-number.number
          (omega (arith, whole, c.len-number-end.ensures, c.loop-number-test.false))) c.loop-number.invariant;
      refused = tt;
    }
