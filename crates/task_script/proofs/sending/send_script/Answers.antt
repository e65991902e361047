use Rattle.std.proofs.Common.{rules, ◌≡◌, ◌∙◌, ℕ, All, IfOk, List, Option, Result, Ok, Err, length}
use Rattle.std.specs.List.{AllZip}
use Rattle.slot_types.specs.declared.plans.DiePlan.{DiePlan}
use Rattle.slot_types.specs.declared.refusals.Refusal.{Refusal}
use Rattle.script_texts.specs.declared.scripts.ScriptReader.{ScriptReader}
use Rattle.task_script.specs.RanScripts.{HasRanFrom, HasRanRows}
use Rattle.task_script.specs.declared.row_runners.RowRunner.{RowRunner}
use Rattle.task_script.specs.declared.sending.RanRows.{RanRows}
use Rattle.std.proofs.lemmas.List.Elements.{All-from_recursion}
use Rattle.std.proofs.lemmas.Slice.Zip.{AllZip-long}
use Rattle.script_texts.specs.ScriptLeft.{dies_of}
use Rattle.task_script.specs.RowRunners.{IsFresh, IsFreshOf}
use Rattle.task_script.proofs.BatchesRun.{all_fresh}
use Rattle.task_script.proofs.sending.send_script.Goals as goal

pub scoped-requires : goal.scoped-requires
scoped-requires g c =
    let runners = c.in_ok-runners.runners.items in
    let fresh : All IsFresh runners = All-from_recursion IsFresh runners (all_fresh c.args.plans.now runners c.in_ok-runners.ensures.fresh) in
    let long : length runners ≡ dies_of c.args.script = AllZip-long IsFreshOf c.args.plans.now runners c.in_ok-runners.ensures.fresh
    ∙ c.requires.dies in
    search (rules, fresh, long)

fresh_ran : {S : Type 0} (remaining : S → Option (List ℕ)) (plans : List DiePlan) (runners : List RowRunner) (slots : ℕ) (script : ScriptReader S)
    (r : Result (RanRows S) Refusal) → AllZip IsFreshOf plans runners → IfOk r (HasRanFrom remaining runners slots script)
    → IfOk r (HasRanRows remaining plans slots script)
fresh_ran remaining plans runners slots script (Ok ran) fresh from = from plans fresh
fresh_ran remaining plans runners slots script (Err e) fresh from = tt

pub returns-clause-ran : goal.returns-clause-ran
returns-clause-ran g c =
    fresh_ran g.S.Read.remaining c.args.plans.now c.in_ok-runners.runners.items c.args.slots c.args.script c.scoped.result
    c.in_ok-runners.ensures.fresh c.scoped.ensures.1.1
