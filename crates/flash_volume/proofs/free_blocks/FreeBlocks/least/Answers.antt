use Rattle.std.proofs.Common.{rules, arith}
use Rattle.std.proofs.lemmas.List.{get_or_read}
use Rattle.flash_volume.proofs.FreeBlocks.{first_word, least_in}
use Rattle.flash_volume.proofs.free_blocks.FreeBlocks.least.Goals as goal

pub index-bits-requires : goal.index-bits-requires
index-bits-requires c =
    let first = first_word c.self.inside.words.items c.self.inside.summary c.self.invariant (omega arith) (search rules) in
    omega (arith, first.0)

pub returns-clause-some : goal.returns-clause-some
returns-clause-some c =
    let words = c.self.inside.words.items in
    let first = first_word words c.self.inside.summary c.self.invariant (omega arith) (search rules) in
    rw (← c.self.view_is) (least_in words c.self.inside.summary c.self.invariant (omega arith) (search rules) c.index-bits.result.now
    (get_or_read words _ c.index-bits.result.now first.0 c.index-bits.ensures 0) (search rules))
