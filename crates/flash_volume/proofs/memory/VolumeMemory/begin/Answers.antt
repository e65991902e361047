use Rattle.std.proofs.Common.{refl}
use Rattle.flash_volume.proofs.Fresh.{contents_fresh}
use Rattle.flash_volume.proofs.Unused.{stands_begun, sound_begun, opens, is_blank, none_runs}
use Rattle.flash_volume.proofs.memory.VolumeMemory.begin.Goals as goal

pub over-requires : goal.over-requires
over-requires g c = stands_begun c.self.inside.ledger c.self.inside.tables c.self.inside.running.items c.args.self c.self.invariant c.self.view_is
    (g.N.Nand.shape_of c.args.device) (g.N.Nand.failures c.args.device) (g.N.Nand.blocks c.args.device) c.requires.shape c.requires.fresh

pub invariant_of-result : goal.invariant_of-result
invariant_of-result g c = λ _. rw c.over.ensures
    (sound_begun c.self.inside.ledger c.self.inside.tables c.self.inside.running.items c.args.self c.self.invariant c.self.view_is
    (g.N.Nand.shape_of c.args.device) (g.N.Nand.failures c.args.device) (g.N.Nand.blocks c.args.device) c.requires.shape c.requires.fresh)

pub returns : goal.returns
returns g c =
    let unused = c.self.invariant in
    let blank = is_blank c.self.inside.ledger c.self.inside.tables c.self.inside.running.items c.args.self unused c.self.view_is in
    rw (
      c.over.ensures,
      opens c.self.inside.ledger c.self.inside.tables c.self.inside.running.items c.args.self unused c.self.view_is,
      blank.placed_is,
      none_runs c.self.inside.ledger c.self.inside.tables c.self.inside.running.items c.args.self unused c.self.view_is,
      contents_fresh,
    ) refl
