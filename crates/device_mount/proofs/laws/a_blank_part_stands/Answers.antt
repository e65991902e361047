use Rattle.device_mount.proofs.Blank.{fresh_shows_nothing, refuses, stands}
use Rattle.device_mount.proofs.laws.a_blank_part_stands.Goals as goal

pub returns : goal.returns
returns c = record { stands = λ plan from seen blank. stands plan seen blank from; refused = refuses; fresh = fresh_shows_nothing }
