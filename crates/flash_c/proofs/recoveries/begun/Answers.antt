use Rattle.flash_c.proofs.Mounting.{again_seen, begun_seen}
use Rattle.flash_c.proofs.recoveries.begun.Goals as goal

pub returns-then-is_whole-clause-seen : goal.returns-then-is_whole-clause-seen
returns-then-is_whole-clause-seen c = begun_seen c.begun_of.result c.in-Scan.plan c.in-Scan.scan c.args.recovery c.in-Scan.is c.begun_of.ensures.seen

pub returns-then-is_whole-3-clause-seen : goal.returns-then-is_whole-3-clause-seen
returns-then-is_whole-3-clause-seen c =
    again_seen c.undone_of.result c.in-Again.plan c.in-Again.before c.in-Again.again c.in-Again.block c.args.recovery c.in-Again.is c.undone_of.ensures.seen
