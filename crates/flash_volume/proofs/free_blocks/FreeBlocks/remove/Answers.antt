use Rattle.std.proofs.Common.{◌/◌, ◌<◌, length, arith}
use Rattle.std.proofs.lemmas.List.{get_or_read}
use Rattle.flash_volume.proofs.FreeBlocks.{was_cleared, sums_none}
use Rattle.flash_volume.proofs.free_blocks.FreeBlocks.remove.Goals as goal

pub invariant_of-self : goal.invariant_of-self
invariant_of-self c =
    let words = c.self.inside.words.items in
    let block = c.args.block in
    let below = rw (← c.self.view_is) at c.requires in
    let within : block / 64 < length words = omega (arith, below) in
    sums_none words c.self.inside.summary (block / 64) _ c.self.invariant within c.if-left-eq0.true

pub returns-then-left-eq0 : goal.returns-then-left-eq0
returns-then-left-eq0 c =
    let words = c.self.inside.words.items in
    let block = c.args.block in
    let below = rw (← c.self.view_is) at c.requires in
    let within : block / 64 < length words = omega (arith, below) in
    rw (← c.self.view_is) (was_cleared words block c.index.result.now within (get_or_read words (block / 64) c.index.result.now within c.index.ensures 0))

pub returns-else-left-eq0 : goal.returns-else-left-eq0
returns-else-left-eq0 c =
    let words = c.self.inside.words.items in
    let block = c.args.block in
    let below = rw (← c.self.view_is) at c.requires in
    let within : block / 64 < length words = omega (arith, below) in
    rw (← c.self.view_is) (was_cleared words block c.index.result.now within (get_or_read words (block / 64) c.index.result.now within c.index.ensures 0))
