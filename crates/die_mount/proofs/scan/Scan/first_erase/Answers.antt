use Rattle.std.proofs.Common.{◌≡◌, ◌<◌, length, count_by, below_more, ap, sym, subst, ◌∙◌, inr, arith}
use Rattle.slot_types.specs.Places.{is_in}
use Rattle.slot_types.specs.declared.plans.Shape.{Shape}
use Rattle.power_loss.specs.Mounted.{all_count, mounted_places}
use Rattle.power_loss.specs.Recovery.{without_block}
use Rattle.die_mount.specs.Scanned.{Scanned}
use Rattle.die_mount.proofs.PagesFound.{none_found, none_counted, newest_block, no_labels, idle_stays}
use Rattle.die_mount.proofs.scan.Scan.first_erase.Goals as goal

pub returns-then-valid-eq0-clause-first : goal.returns-then-valid-eq0-clause-first
returns-then-valid-eq0-clause-first c = λ plan seen h. (
  none_found plan c.args.self.now seen h c.loop-block.block
      (ap (λ (s : Scanned). count_by (is_in c.loop-block.block) s.places) (sym c.self.view_is) ∙ sym c.valid.ensures ∙ c.if-valid-eq0.true),
  λ other none lt. c.loop-block.invariant other lt (none_counted plan c.args.self.now seen h other none),
)

pub loop-block-preserved : goal.loop-block-preserved
loop-block-preserved c = below_more (λ b. count_by (is_in b) c.args.self.now.places ≡ 0 → ⊥) c.loop-block.block c.loop-block.invariant
    (λ e. c.if-valid-eq0.false (c.valid.ensures ∙ ap (λ (s : Scanned). count_by (is_in c.loop-block.block) s.places) c.self.view_is ∙ e))

pub returns-in-Some-clause-first : goal.returns-in-Some-clause-first
returns-in-Some-clause-first c = λ plan seen h other lt none.
    let same : c.self.inside.shape.blocks ≡ plan.shape.blocks =
    ap (λ (s : Scanned). s.shape.blocks) c.self.view_is ∙ ap (λ (s : Shape). s.blocks) h.shape in
    let below : other < c.loop-block.block = omega (arith, same, lt) in
    c.loop-block.invariant other below (none_counted plan c.args.self.now seen h other none)

pub returns-in-Some-clause-may : goal.returns-in-Some-clause-may
returns-in-Some-clause-may c = λ plan seen h fit. inr (
  λ other lt none.
      let same : c.self.inside.shape.blocks ≡ plan.shape.blocks =
      ap (λ (s : Scanned). s.shape.blocks) c.self.view_is ∙ ap (λ (s : Shape). s.blocks) h.shape in
      let below : other < c.loop-block.block = omega (arith, same, lt) in
      c.loop-block.invariant other below (none_counted plan c.args.self.now seen h other none),
  newest_block plan c.args.self.now seen h c.in-Some.newest (ap (λ (s : Scanned). s.newest) (sym c.self.view_is) ∙ c.in-Some.is) fit,
)

pub returns-in-None-clause-first : goal.returns-in-None-clause-first
returns-in-None-clause-first c = λ plan seen h.
    let below : 0 < c.loop-block.block = omega (arith, c.self.invariant.some_blocks) in
    absurd (c.loop-block.invariant 0 below (none_counted plan c.args.self.now seen h 0
    (no_labels plan c.args.self.now seen h (ap (λ (s : Scanned). s.newest) (sym c.self.view_is) ∙ c.in-None.is) 0)))

pub returns-in-None-clause-may : goal.returns-in-None-clause-may
returns-in-None-clause-may c = λ plan seen h fit.
    let below : 0 < c.loop-block.block = omega (arith, c.self.invariant.some_blocks) in
    absurd (c.loop-block.invariant 0 below (none_counted plan c.args.self.now seen h 0
    (no_labels plan c.args.self.now seen h (ap (λ (s : Scanned). s.newest) (sym c.self.view_is) ∙ c.in-None.is) 0)))

pub returns-then-valid-eq0-clause-stays : goal.returns-then-valid-eq0-clause-stays
returns-then-valid-eq0-clause-stays c = λ plan seen block h fit is.
    let same : c.loop-block.block ≡ block = cc in
    let lt : c.loop-block.block < length seen = omega (arith, h.told, c.requires, ap (λ (s : Scanned). s.shape.blocks) c.self.view_is) in
    subst (λ b. mounted_places all_count plan.logical (without_block b seen) ≡ c.args.self.now.places) same
    (idle_stays plan c.args.self.now seen h fit c.loop-block.block lt (none_found plan c.args.self.now seen h c.loop-block.block
    (ap (λ (s : Scanned). count_by (is_in c.loop-block.block) s.places) (sym c.self.view_is) ∙ sym c.valid.ensures ∙ c.if-valid-eq0.true)))

pub returns-in-None-clause-stays : goal.returns-in-None-clause-stays
returns-in-None-clause-stays c = λ plan seen block h fit is.
    let below : 0 < c.loop-block.block = omega (arith, c.self.invariant.some_blocks) in
    absurd (c.loop-block.invariant 0 below (none_counted plan c.args.self.now seen h 0
    (no_labels plan c.args.self.now seen h (ap (λ (s : Scanned). s.newest) (sym c.self.view_is) ∙ c.in-None.is) 0)))
