use Rattle.std.proofs.Common.{[], ◌∷◌, refl}
use Rattle.std.specs.Prelude.{codes, decimal}
use Rattle.checkpoint_texts.proofs.LineLaws.{line-made, plain-numbers, two-fields}
use Rattle.checkpoint_texts.proofs.lines.put_end.Goals as goal

pub returns : goal.returns
returns c =
    line-made c.args.text.now.items (codes "die") (decimal c.args.number) (decimal c.args.spare ∷ []) _ _ _
    (plain-numbers (codes "die") c.args.number c.args.spare refl) c.in_ok-extend_from_slice.ensures.items
    (two-fields _ _ _ _ _ c.in_ok-put_number.ensures c.in_ok-put_number-2.ensures) c.in_ok-push.ensures.items
