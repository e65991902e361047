use Rattle.std.proofs.Common.{◌∙◌, [], sym}
use Rattle.flash_c.proofs.Mounting.{again_told, first_told, on_both, on_ok, tells_none, tells_same}
use Rattle.flash_c.proofs.recoveries.told.Goals.{then-told-block, else-told-block}
use Rattle.flash_c.proofs.recoveries.told.Goals as goal

pub returns-in-Scan-clause-first : goal.returns-in-Scan-clause-first
returns-in-Scan-clause-first c =
    on_ok c.tell-said.result (first_told c.in-Scan.plan c.in-Scan.scan c.tell-said.new.self c.args.labels.now c.args.recovery c.in-Scan.is)
    c.tell-said.ensures.ok

pub returns-after-told-block-clause-again : goal.returns-after-told-block-clause-again
returns-after-told-block-clause-again c = elim c.if-told-block.branch [
  | then-told-block w ↦ rw (w.said-is, w.again-is)
      (on_both w.tell-said-then-told-block.result
      (again_told c.in-Again.plan c.in-Again.before c.in-Again.again w.tell-said-then-told-block.new.self c.in-Again.block [] c.args.labels.now
      c.args.recovery c.in-Again.is (λ seen lt e. tells_none c.in-Again.block c.in-Again.again.told (sym c.told.ensures ∙ w.if-told-block.true) seen lt))
      w.tell-said-then-told-block.ensures.ok w.tell-said-then-told-block.ensures.fits)
  | else-told-block w ↦ rw (w.said-is, w.again-is)
      (on_both w.tell-said-else-told-block.result
      (again_told c.in-Again.plan c.in-Again.before c.in-Again.again w.tell-said-else-told-block.new.self c.in-Again.block c.args.labels.now c.args.labels.now
      c.args.recovery c.in-Again.is (tells_same c.in-Again.block c.in-Again.again.told c.args.labels.now (λ e. w.if-told-block.false (c.told.ensures ∙ e))))
      w.tell-said-else-told-block.ensures.ok w.tell-said-else-told-block.ensures.fits)
]
