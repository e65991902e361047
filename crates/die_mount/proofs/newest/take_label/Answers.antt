use Rattle.page_map.proofs.Owners.{no_owner}
use Rattle.die_mount.proofs.Taking.{none_there}
use Rattle.die_mount.proofs.newest.take_label.Goals as goal

pub bind-requires-clause-free : goal.bind-requires-clause-free
bind-requires-clause-free c = no_owner c.args.map.now.places c.args.cell (none_there c.args.cell c.args.map.now.places c.requires.before)
