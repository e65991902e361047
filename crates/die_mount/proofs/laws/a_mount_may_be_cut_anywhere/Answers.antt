use Rattle.die_mount.proofs.Cutting.{cut_at_end, cut_in_call}
use Rattle.die_mount.proofs.laws.a_mount_may_be_cut_anywhere.Goals as goal

pub returns : goal.returns
returns c = record {
  in_calls = λ pages before erased next acts old new g k. cut_in_call pages before erased next acts old g new k;
  at_end = cut_at_end;
}
