use Rattle.std.proofs.Common.{List, ap, sym, ◌∙◌, arith, sum_by}
use Rattle.std.specs.List.{list_all}
use Rattle.std.proofs.lemmas.Bool.{leb-true, le-leb, true≢false}
use Rattle.demand_rules.specs.declared.terms.TaskTerms.{TaskTerms}
use Rattle.planned_log.specs.Lives.{task_arrivals}
use Rattle.planned_die.specs.Remembered.{ends_well}
use Rattle.planned_die.proofs.Ending.{is_life_if, not_life}
use Rattle.planned_die.proofs.life.is_life.Goals as goal

pub returns-then-are_well : goal.returns-then-are_well
returns-then-are_well c =
    let slots = c.args.slots in
    let well = ap (list_all (ends_well slots)) (sym c.as_slice.ensures) ∙ (sym c.are_well.ensures ∙ c.if-are_well.true) in
    let counted = ap (λ (ts : List TaskTerms). sum_by (task_arrivals slots) ts) c.as_slice-then-are_well.ensures in (
      (λ few. is_life_if c.args.plan.now c.args.terms.now slots c.requires.has (omega (arith, c.requires.slots)) well
          (omega (arith, leb-true _ _ few, c.from.ensures, c.count.ensures, counted))),
      (λ life. le-leb _ _ (omega (arith, life.few, c.from.ensures, c.count.ensures, counted))),
    )

pub returns-else-are_well : goal.returns-else-are_well
returns-else-are_well c =
    let slots = c.args.slots in
    let not_well = ap (list_all (ends_well slots)) (sym c.as_slice.ensures) ∙ (sym c.are_well.ensures ∙ c.if-are_well.false) in (
      (λ yes. absurd (true≢false (sym yes ∙ c.if-are_well.false))),
      (λ life. absurd (not_life c.args.plan.now c.args.terms.now slots c.requires.has (omega (arith, c.requires.slots)) not_well life)),
    )
