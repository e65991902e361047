use Rattle.die_log.proofs.Victims.{head_finds, first_act_finds}
use Rattle.die_log.proofs.laws.collections_find_victims.Goals as goal

pub returns : goal.returns
returns c = record { next = head_finds; carried = first_act_finds }
