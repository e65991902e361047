use Rattle.std.proofs.Common.{[], ◌∷◌, refl}
use Rattle.std.specs.Prelude.{codes, decimal}
use Rattle.checkpoint_texts.proofs.LineLaws.{line-made, plain-numbers, two-fields}
use Rattle.checkpoint_texts.proofs.lines.put_block.Goals as goal

pub returns : goal.returns
returns c =
    let block = c.args.block.now in
    line-made c.args.text.now.items (codes "block") (decimal block.filled) (decimal block.erases ∷ []) _ _ _
    (plain-numbers (codes "block") block.filled block.erases refl) c.in_ok-extend_from_slice.ensures.items
    (two-fields _ _ _ _ _ c.in_ok-put_number.ensures c.in_ok-put_number-2.ensures) c.in_ok-push.ensures.items
