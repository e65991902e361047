use Rattle.std.proofs.Common.{rules, ◌≡◌, arith, Err, refl, ◌∙◌}
use Rattle.script_texts.specs.ScriptLeft.{reading_left}
use Rattle.flashplan_script_runs.proofs.FewRows.{left_first, left_next, not_so_many}
use Rattle.flashplan_script_runs.proofs.ReadSoFar.{reads_fault_as, reads_none_as, reads_row_as}
use Rattle.flashplan_script_runs.proofs.script_runs.read_own.Goals as goal

pub loop-init : goal.loop-init
loop-init g c = record {
  slots = refl;
  start = refl;
  read = reads_none_as c.args.number _ _ _ c.new-refused.ensures.items c.requires.empty;
  left = left_first (reading_left g.R.Read.remaining c.args.script.now);
  well = λ well. well;
}

pub loop-preserved : goal.loop-preserved
loop-preserved g c = record {
  slots = c.next.ensures.slots ∙ c.loop.invariant.slots;
  start = c.run_own.ensures.start ∙ c.loop.invariant.start;
  read = reads_row_as c.args.number _ _ _ _ _ _ _ c.in-Some.item c.loop.invariant.read (rw c.in-Some.is at c.in_ok-item.ensures.item)
      c.in_ok-run_own.ensures.ran;
  left = left_next c.loop.counter _ _ _ c.in-Some.item c.loop.invariant.left (rw c.in-Some.is at c.in_ok-item.ensures.gives);
  well = λ well. c.run_own.ensures.well (c.loop.invariant.well well);
}

pub returns-in_err-item-clause-refused : goal.returns-in_err-item-clause-refused
returns-in_err-item-clause-refused g c =
    let refused : c.from_residual.result ≡ Err c.in_err-item.field-0.0 = search rules in
    rw refused (reads_fault_as c.args.number _ _ _ _ _ _ c.loop.invariant.read c.in_err-item.ensures.item)

pub returns-clause-refused : goal.returns-clause-refused
returns-clause-refused g c =
    not_so_many g.R.Read.remaining c.args.script.now _ c.loop.counter _ (omega arith) c.loop.invariant.left
