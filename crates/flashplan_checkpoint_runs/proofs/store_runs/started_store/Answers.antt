use Rattle.std.proofs.Common.{ap, length, subst, sym, ◌∙◌}
use Rattle.std.proofs.lemmas.List.{length-map}
use Rattle.flashplan_script_runs.specs.RunningDies.{running_of}
use Rattle.flashplan_checkpoint_runs.specs.Runs.{NoneStopped, running_in}
use Rattle.flashplan_checkpoint_runs.proofs.NeverStopped.{all_run, none_stop}
use Rattle.flashplan_checkpoint_runs.proofs.store_runs.started_store.Goals as goal

pub returns-clause-count : goal.returns-clause-count
returns-clause-count c =
    sym (length-map c.in_ok-own.own.items running_in)
    ∙ (ap length c.in_ok-own.ensures.same ∙ (length-map c.in_ok-dies.dies.items running_of ∙ c.in_ok-dies.ensures.count))

pub returns-clause-run : goal.returns-clause-run
returns-clause-run c =
    let dies = c.in_ok-dies.dies.items in
    subst NoneStopped (sym c.in_ok-own.ensures.same) (none_stop dies (all_run dies c.in_ok-dies.ensures.run))
