use Rattle.device_mount.proofs.Again.{powered_still}
use Rattle.clean_shutdown.proofs.starting.mounted.Goals as goal

pub returns-in-Ok-clause-mounted : goal.returns-in-Ok-clause-mounted
returns-in-Ok-clause-mounted g c =
    let stays = g.met.N.SavingNand.stays_void in
    record {
      void = (stays c.in-Ok.core.device.part).0 (c.in-Ok.ensures.lasts ((stays c.args.part).1 c.requires.void));
      life = c.in-Ok.ensures.life;
    }

pub returns-in-Err-clause-still : goal.returns-in-Err-clause-still
returns-in-Err-clause-still g c =
    let stays = g.met.N.SavingNand.stays_void in
    (stays c.in-Err.no.part).0 (c.in-Err.ensures.lasts_still ((stays c.args.part).1 c.requires.void))

pub returns-in-Err-clause-again : goal.returns-in-Err-clause-again
returns-in-Err-clause-again g c = λ memory. powered_still g.N.Nand.shape_of g.N.Nand.blocks g.N.LabelledNand.labels g.N.Nand.failures c.args.part
    c.in-Err.no.part c.requires.powered (c.in-Err.ensures.unchanged (λ fault. absurd cc))
