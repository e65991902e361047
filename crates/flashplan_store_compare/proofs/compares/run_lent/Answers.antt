use Rattle.std.proofs.Common.{◌≡◌, ap, false, length, sym, subst, ◌∙◌}
use Rattle.std.specs.Prelude.{All}
use Rattle.std.proofs.lemmas.List.{length-map}
use Rattle.flashplan_script_runs.specs.RunningDies.{HasEmptyLog, RunningDie}
use Rattle.flashplan_store_compare.specs.Runs.{begun, running}
use Rattle.flashplan_store_compare.proofs.UnstoppedDies.{all_run, each_runs}
use Rattle.flashplan_store_compare.proofs.compares.run_lent.Goals as goal

pub run_dies-requires-clause-dies : goal.run_dies-requires-clause-dies
run_dies-requires-clause-dies g c =
    c.requires.dies
    ∙ sym (sym (length-map c.in_ok-dies.dies.items running) ∙ ap length c.in_ok-dies.ensures.running
    ∙ length-map c.args.started.items begun)

pub run_dies-requires-clause-empty : goal.run_dies-requires-clause-empty
run_dies-requires-clause-empty g c = subst (All HasEmptyLog) (sym c.in_ok-dies.ensures.running) c.requires.empty

pub returns-clause-none_stopped : goal.returns-clause-none_stopped
returns-clause-none_stopped g c =
    all_run running c.run_dies.new.dies.items (c.run_dies.ensures.well (each_runs running c.in_ok-dies.dies.items
    (subst (All (λ (die : RunningDie). die.stopped ≡ false)) (sym c.in_ok-dies.ensures.running) c.requires.run)))
