use Rattle.std.proofs.Common.{◌/◌, ◌<◌, length, arith}
use Rattle.std.proofs.lemmas.List.{get_or_read}
use Rattle.flash_volume.proofs.FreeBlocks.{was_set, sums_some, some_with}
use Rattle.flash_volume.proofs.free_blocks.FreeBlocks.insert.Goals as goal

pub invariant_of-self : goal.invariant_of-self
invariant_of-self c =
    let words = c.self.inside.words.items in
    let block = c.args.block in
    let below = rw (← c.self.view_is) at c.requires in
    let within : block / 64 < length words = omega (arith, below) in
    sums_some words c.self.inside.summary (block / 64) _ c.self.invariant within (some_with c.index_mut.result.now _ (omega arith))

pub returns : goal.returns
returns c =
    let words = c.self.inside.words.items in
    let block = c.args.block in
    let below = rw (← c.self.view_is) at c.requires in
    let within : block / 64 < length words = omega (arith, below) in
    rw (← c.self.view_is) (was_set words block c.index_mut.result.now within
    (get_or_read words (block / 64) c.index_mut.result.now within c.index_mut.ensures.value 0))
