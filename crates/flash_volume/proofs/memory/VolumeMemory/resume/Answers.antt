use Rattle.std.proofs.Common.{◌∙◌, refl}
use Rattle.flash_volume.proofs.Unused.{room_in, accounts_on, stands_on, sound_on, tables_of, none_runs}
use Rattle.flash_volume.proofs.memory.VolumeMemory.resume.Goals as goal

pub resume-requires-clause-room : goal.resume-requires-clause-room
resume-requires-clause-room g c =
    room_in c.self.inside.ledger c.self.inside.tables c.self.inside.running.items c.args.self c.self.invariant c.self.view_is
    c.args.checkpoint.now c.requires.fits c.as_slice.result.now c.as_slice.ensures

pub over-requires : goal.over-requires
over-requires g c =
    let of = tables_of c.plan.result.now c.args.self c.args.checkpoint.now c.resume-tables.result (c.plan.ensures ∙ c.self.view_is)
    c.resume-tables.ensures in
    stands_on c.self.inside.ledger c.self.inside.tables c.self.inside.running.items c.args.self c.self.invariant c.self.view_is
    c.args.checkpoint.now c.requires.fits c.resume-tables.result of (g.N.Nand.shape_of c.args.device) (g.N.Nand.failures c.args.device)
    (g.N.Nand.blocks c.args.device) c.requires.shape c.requires.left

pub invariant_of-result : goal.invariant_of-result
invariant_of-result g c = λ _.
    let of = tables_of c.plan.result.now c.args.self c.args.checkpoint.now c.resume-tables.result (c.plan.ensures ∙ c.self.view_is)
    c.resume-tables.ensures in
    let after = accounts_on c.self.inside.ledger c.self.inside.tables c.self.inside.running.items c.args.self c.self.invariant c.self.view_is
    c.args.checkpoint.now c.requires.fits c.resume.new.self c.as_slice.result.now c.as_slice.ensures c.resume.ensures in
    rw c.over.ensures (sound_on c.self.inside.ledger c.self.inside.tables c.self.inside.running.items c.args.self c.self.invariant c.self.view_is
    c.args.checkpoint.now c.requires.fits c.resume-tables.result of (g.N.Nand.shape_of c.args.device) (g.N.Nand.failures c.args.device)
    (g.N.Nand.blocks c.args.device) c.requires.shape c.requires.left c.resume.new.self after)

pub returns : goal.returns
returns g c =
    let of = tables_of c.plan.result.now c.args.self c.args.checkpoint.now c.resume-tables.result (c.plan.ensures ∙ c.self.view_is)
    c.resume-tables.ensures in
    let after = accounts_on c.self.inside.ledger c.self.inside.tables c.self.inside.running.items c.args.self c.self.invariant c.self.view_is
    c.args.checkpoint.now c.requires.fits c.resume.new.self c.as_slice.result.now c.as_slice.ensures c.resume.ensures in
    let idle = none_runs c.self.inside.ledger c.self.inside.tables c.self.inside.running.items c.args.self c.self.invariant c.self.view_is in
    rw (after, c.over.ensures, of.placed_is, idle) refl
