use Rattle.std.proofs.Common.{◌≡◌, ◌⊎◌, ◌≤◌, ◌<◌, ◌+◌, ◌∙◌, ℕ, Option, length, sym, ap, arith, subst}
use Rattle.std.specs.Prelude.{IfSome, IfNone}
use Rattle.die_log.specs.Model.Flash.{Block, block_at, valid}
use Rattle.die_mount.specs.PartState.{PartState}
use Rattle.die_mount.proofs.Fewest.{IsFewestUpTo, closed_next, none_first, open_next}
use Rattle.die_mount.proofs.Parts.{block_is}
use Rattle.die_mount.proofs.part.Part.fewest.Goals as goal
use Rattle.die_mount.proofs.part.Part.fewest.Goals.{then-index-self, else-index-self}

pub loop-block-init : goal.loop-block-init
loop-block-init c = none_first c.args.self.now.shape.pages c.args.self.now.shape.blocks c.args.self.now.cells

pub loop-block-preserved : goal.loop-block-preserved
loop-block-preserved c =
    let s = c.args.self.now in
    let n = c.loop-block.block in
    let items = c.self.inside.blocks.items in
    let lt : n < length items = omega (arith, c.loop-block-test.true, c.self.invariant.blocks) in
    let filled : (block_at s.cells n).filled ≡ c.index.result.now.filled =
    ap (λ (x : PartState). (block_at x.cells n).filled) (sym c.self.view_is)
    ∙ ap (λ (t : Block). t.filled) (block_is items n c.index.result.now lt c.index.ensures) in
    let pages : c.self.inside.shape.pages ≡ s.shape.pages = ap (λ (x : PartState). x.shape.pages) c.self.view_is in
    let within : n < s.shape.blocks = omega (arith, c.loop-block-test.true, ap (λ (x : PartState). x.shape.blocks) c.self.view_is) in
    elim c.if-index-self.branch [
      | then-index-self w ↦
          subst (IsFewestUpTo s.shape.pages s.shape.blocks s.cells (n + 1)) (sym w.fewest-is)
          (closed_next s.shape.pages s.shape.blocks s.cells n c.loop-block.fewest w.fewer.result c.loop-block.invariant within
          (filled ∙ (w.if-index-self.true ∙ pages)) (λ e. subst (λ (o : Option ℕ). IfNone o (w.fewer.result ≡ n)) e w.fewer.ensures.from)
          (λ g e. subst (λ (o : Option ℕ). IfSome o (λ b. (w.fewer.result ≡ b) ⊎ (w.fewer.result ≡ n))) e w.fewer.ensures.either)
          (λ g e. subst (λ (o : Option ℕ). IfSome o (λ b. valid s.cells w.fewer.result ≤ valid s.cells b)) e w.fewer.ensures.before_one)
          w.fewer.ensures.before_other)
      | else-index-self w ↦
          subst (IsFewestUpTo s.shape.pages s.shape.blocks s.cells (n + 1)) (sym w.fewest-is)
          (open_next s.shape.pages s.shape.blocks s.cells n c.loop-block.fewest c.loop-block.invariant
          (λ e. w.if-index-self.false (sym filled ∙ (e ∙ sym pages))))
    ]
