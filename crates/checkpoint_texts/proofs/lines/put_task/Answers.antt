use Rattle.std.proofs.Common.{[], ◌++◌, refl, ap, ◌∙◌}
use Rattle.std.specs.Prelude.{codes, decimal}
use Rattle.checkpoint_texts.proofs.LineLaws.{line-made, one-field, plain-number}
use Rattle.checkpoint_texts.proofs.lines.put_task.Goals as goal

pub returns : goal.returns
returns c =
    line-made c.args.text.now.items (codes "task") (decimal c.args.balance) [] _ _ _ (plain-number (codes "task") c.args.balance refl)
    c.in_ok-extend_from_slice.ensures.items
    (c.in_ok-put_number.ensures ∙ ap (λ t. c.extend_from_slice.new.self.items ++ t) (one-field (decimal c.args.balance)))
    c.in_ok-push.ensures.items
