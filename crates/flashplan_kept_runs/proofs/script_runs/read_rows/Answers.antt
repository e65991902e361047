use Rattle.std.proofs.Common.{◌≤◌, List, arith, refl, subst, sym, ◌∙◌}
use Rattle.std.specs.Prelude.{All}
use Rattle.flashplan_kept_runs.specs.KeptDies.{KeptStart}
use Rattle.flashplan_kept_runs.proofs.ReadSoFar.{reads_none, reads_row}
use Rattle.flashplan_kept_runs.proofs.script_runs.read_rows.Goals as goal

pub loop-init : goal.loop-init
loop-init g c = record {
  dies = c.requires.dies;
  slots = refl;
  begins = refl;
  count = refl;
  read = reads_none _ _ c.requires.empty;
}

pub loop-preserved : goal.loop-preserved
loop-preserved g c = record {
  dies = c.next.ensures.dies ∙ (c.loop.invariant.dies ∙ sym c.run_row.ensures.count);
  slots = c.next.ensures.slots ∙ c.loop.invariant.slots;
  begins = c.run_row.ensures.begins ∙ c.loop.invariant.begins;
  count = c.run_row.ensures.count ∙ c.loop.invariant.count;
  read = reads_row _ _ _ _ _ c.in-Some.item c.loop.invariant.read (rw c.in-Some.is at c.in_ok-item.ensures.item)
      c.in_ok-run_row.ensures.ran;
}

pub run_row-requires-clause-within : goal.run_row-requires-clause-within
run_row-requires-clause-within g c =
    let row = rw c.in-Some.is at c.in_ok-item.ensures.row in
    subst (λ (all : List KeptStart). All (λ (begun : KeptStart). c.in-Some.item.at ≤ begun.life) all) (sym c.loop.invariant.begins)
    (λ k d lt. omega (arith, row.1.0, c.requires.within k d lt, c.loop.invariant.slots))

pub returns-in_err-item-clause-begins : goal.returns-in_err-item-clause-begins
returns-in_err-item-clause-begins g c = c.loop.invariant.begins
