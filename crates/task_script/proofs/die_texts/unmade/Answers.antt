use Rattle.std.proofs.Common.{arith}
use Rattle.std.proofs.lemmas.Grind.{common_steps}
use Rattle.task_script.proofs.die_texts.unmade.Goals as goal

pub returns-clause-ok : goal.returns-clause-ok
returns-clause-ok c = grind (arith, common_steps)

pub loop-die-preserved : goal.loop-die-preserved
loop-die-preserved c = record {
  can_next = tt;
  is_finite = tt;
  room = grind (arith, common_steps);
  dies = grind (arith, common_steps);
  as_many = grind (arith, common_steps);
  texts = grind (arith, common_steps);
}
