use Rattle.std.proofs.Common.{rules, ◌≡◌, Err, length, ◌∙◌}
use Rattle.script_texts.specs.ScriptLeft.{script_left}
use Rattle.flashplan_script_runs.proofs.TextRuns.{run_of_text}
use Rattle.flashplan_checkpoint_runs.specs.Runs.{running, starts_by}
use Rattle.flashplan_checkpoint_runs.proofs.ManyStarts.{many_starts}
use Rattle.flashplan_checkpoint_runs.proofs.NeverStopped.{all_run, none_stop}
use Rattle.flashplan_checkpoint_runs.proofs.Refused.{start_refuses_run}
use Rattle.flashplan_checkpoint_runs.proofs.store_runs.run_lent.Goals as goal

pub returns-clause-ran : goal.returns-clause-ran
returns-clause-ran g c = λ text is.
    let starts = starts_by c.args.plan c.args.from in
    record {
      came = running c.run_dies.new.dies.items;
      refused = c.in_ok-refused.refused.items;
      counted = rw c.deref.ensures.value at c.of-refused.ensures;
      none_stopped = none_stop c.run_dies.new.dies.items (c.run_dies.ensures.well
          (all_run c.in_ok-dies.dies.items c.in_ok-dies.ensures.run));
      ran = run_of_text starts text c.args.slots (length c.args.plan) (script_left g.R.Read.remaining c.args.script.now)
          c.in_ok-refused.refused.items (running c.run_dies.new.dies.items)
          (many_starts starts c.in_ok-dies.dies.items (length c.args.plan) c.in_ok-dies.ensures.starts c.in_ok-dies.ensures.count) is
          (c.run_dies.ensures.starts ∙ c.in_ok-dies.ensures.starts) c.in_ok-refused.ensures.ran;
      went_on = c.in_ok-idle.ensures.went_on;
      no_more = c.settled.ensures.no_more;
    }

pub returns-in_err-dies-clause-refused : goal.returns-in_err-dies-clause-refused
returns-in_err-dies-clause-refused g c =
    let refused : c.from_residual.result ≡ Err c.in_err-dies.field-0.0 = search rules in
    rw refused (start_refuses_run c.args.plan c.args.from (script_left g.R.Read.remaining c.args.script.now) c.in_err-dies.field-0.0
    c.in_err-dies.ensures.refused)
