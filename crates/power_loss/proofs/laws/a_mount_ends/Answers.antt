use Rattle.std.proofs.Common.{sum_by}
use Rattle.die_log.specs.Model.Flash.{free_in}
use Rattle.power_loss.proofs.MountedStarts.{all_open, full_agree, full_stocked, finds_block}
use Rattle.power_loss.proofs.laws.a_mount_ends.Goals as goal

pub returns : goal.returns
returns c = record {
  opens = all_open;
  full = λ plan bound c pages l from h enough. full_agree plan (sum_by (free_in plan) c.blocks) enough;
  stocked = λ plan bound c pages l from h times. full_stocked plan c pages (sum_by (free_in plan) c.blocks) times;
  few = λ plan bound c pages l from h idle few. finds_block plan c bound h.sound idle few;
}
