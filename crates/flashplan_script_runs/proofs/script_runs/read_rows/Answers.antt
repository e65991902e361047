use Rattle.std.proofs.Common.{rules, ◌≡◌, arith, Err, refl, sym, ◌∙◌}
use Rattle.script_texts.specs.ScriptLeft.{reading_left}
use Rattle.flashplan_script_runs.proofs.FewRows.{left_first, left_next, not_so_many}
use Rattle.flashplan_script_runs.proofs.ReadSoFar.{reads_fault, reads_none, reads_row}
use Rattle.flashplan_script_runs.proofs.script_runs.read_rows.Goals as goal

pub loop-init : goal.loop-init
loop-init g c = record {
  dies = c.requires.dies;
  slots = refl;
  starts = refl;
  count = refl;
  read = reads_none _ _ _ c.new-refused.ensures.items c.requires.empty;
  left = left_first (reading_left g.R.Read.remaining c.args.script.now);
  well = λ all. all;
}

pub loop-preserved : goal.loop-preserved
loop-preserved g c = record {
  dies = c.next.ensures.dies ∙ (c.loop.invariant.dies ∙ sym c.run_row.ensures.count);
  slots = c.next.ensures.slots ∙ c.loop.invariant.slots;
  starts = c.run_row.ensures.starts ∙ c.loop.invariant.starts;
  count = c.run_row.ensures.count ∙ c.loop.invariant.count;
  read = reads_row _ _ _ _ _ _ _ c.in-Some.item c.loop.invariant.read (rw c.in-Some.is at c.in_ok-item.ensures.item)
      c.in_ok-run_row.ensures.ran;
  left = left_next c.loop.counter _ _ _ c.in-Some.item c.loop.invariant.left (rw c.in-Some.is at c.in_ok-item.ensures.gives);
  well = λ all. c.run_row.ensures.well (c.loop.invariant.well all);
}

pub returns-in_err-item-clause-refused : goal.returns-in_err-item-clause-refused
returns-in_err-item-clause-refused g c =
    let refused : c.from_residual.result ≡ Err c.in_err-item.field-0.0 = search rules in
    rw refused (reads_fault _ _ _ _ _ _ c.loop.invariant.read c.in_err-item.ensures.item)

pub returns-clause-refused : goal.returns-clause-refused
returns-clause-refused g c =
    not_so_many g.R.Read.remaining c.args.script.now _ c.loop.counter _ (omega arith) c.loop.invariant.left
