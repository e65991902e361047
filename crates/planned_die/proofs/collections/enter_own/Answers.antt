use Rattle.std.proofs.Common.{ap, sym, ◌∙◌, arith, ◌<◌, length}
use Rattle.demand_rules.specs.Demand.{terms_of, no_terms, IsTaskTerms}
use Rattle.demand_rules.specs.declared.terms.TaskTerms.{TaskTerms}
use Rattle.planned_die.proofs.Cores.{own_keeps, own_reserved, own_stands, own_entered, own_slot, passed_over, passed_keeps}
use Rattle.planned_die.proofs.collections.enter_own.Goals as goal

pub returns-clause-kept : goal.returns-clause-kept
returns-clause-kept g c earlier kept =
    own_keeps g.N.Nand.ends g.N.Nand.failures g.N.Nand.never_fails c.args.core.now c.args.terms.now earlier c.args.life c.args.caller c.args.task
    c.now-slot.result c.terms_at-own.result.collect_period c.terms_at-own.result.collect_deadline kept c.requires.runs c.requires.task
    c.requires.early c.now-slot.ensures (ap (λ (t : TaskTerms). t.collect_period) c.terms_at-own.ensures)
    (ap (λ (t : TaskTerms). t.collect_deadline) c.terms_at-own.ensures) (sym c.comes.ensures ∙ c.if-not-comes.false) c.collect.new.self
    c.in-Ok.field-0 c.in-Ok.ensures

pub returns-clause-reserved : goal.returns-clause-reserved
returns-clause-reserved g c =
    own_reserved g.N.Nand.ends g.N.Nand.failures g.N.Nand.never_fails c.args.core.now c.args.terms.now c.requires.lived.0 c.args.life c.args.caller
    c.args.task c.now-slot.result c.terms_at-own.result.collect_period c.terms_at-own.result.collect_deadline c.requires.lived.1 c.requires.runs
    c.requires.task c.requires.early c.now-slot.ensures (ap (λ (t : TaskTerms). t.collect_period) c.terms_at-own.ensures)
    (ap (λ (t : TaskTerms). t.collect_deadline) c.terms_at-own.ensures) (sym c.comes.ensures ∙ c.if-not-comes.false) c.collect.new.self
    c.in-Ok.field-0 c.requires.reserved c.in-Ok.ensures

pub unreachable-requires : goal.unreachable-requires
unreachable-requires g c =
    own_stands g.N.Nand.ends g.N.Nand.failures g.N.Nand.never_fails c.args.core.now c.args.terms.now c.requires.lived.0 c.args.life c.args.caller
    c.args.task c.now-slot.result c.terms_at-own.result.collect_period c.terms_at-own.result.collect_deadline c.requires.lived.1 c.requires.runs
    c.requires.task c.requires.early c.now-slot.ensures (ap (λ (t : TaskTerms). t.collect_period) c.terms_at-own.ensures)
    (ap (λ (t : TaskTerms). t.collect_deadline) c.terms_at-own.ensures) (sym c.comes.ensures ∙ c.if-not-comes.false) c.collect.new.self
    c.in-Err.field-0 c.requires.reserved c.in-Err.ensures

pub overflow_add-slot : goal.overflow_add-slot
overflow_add-slot g c =
    let known : c.args.task < length c.args.terms.now.tasks = omega (arith, c.requires.task, c.requires.lived.1.demand.has.one_each) in
    let own : IsTaskTerms (terms_of c.args.terms.now c.args.task) = c.requires.lived.1.demand.has.each c.args.task no_terms known in
    omega (
      arith,
      c.now-slot.ensures,
      c.requires.early,
      c.requires.lived.1.is_life.within,
      own.few_collect_period,
      own.few_collect_deadline,
      ap (λ (t : TaskTerms). t.collect_deadline) c.terms_at-own.ensures,
    )

pub returns-clause-entered : goal.returns-clause-entered
returns-clause-entered g c =
    own_entered g.N.Nand.ends g.N.Nand.failures g.N.Nand.never_fails c.args.core.now c.args.terms.now c.requires.lived.0 c.args.life c.args.caller
    c.args.task c.now-slot.result c.terms_at-own.result.collect_period c.terms_at-own.result.collect_deadline c.requires.lived.1 c.requires.runs
    c.requires.task c.requires.early c.now-slot.ensures (ap (λ (t : TaskTerms). t.collect_period) c.terms_at-own.ensures)
    (ap (λ (t : TaskTerms). t.collect_deadline) c.terms_at-own.ensures) (sym c.comes.ensures ∙ c.if-not-comes.false) c.collect.new.self
    c.in-Ok.field-0 c.in-Ok.ensures

pub returns-clause-slot_stays : goal.returns-clause-slot_stays
returns-clause-slot_stays g c =
    own_slot g.N.Nand.ends g.N.Nand.failures g.N.Nand.never_fails c.args.core.now c.args.terms.now c.requires.lived.0 c.args.life c.args.caller
    c.args.task c.now-slot.result c.terms_at-own.result.collect_period c.terms_at-own.result.collect_deadline c.requires.lived.1 c.requires.runs
    c.requires.task c.requires.early c.now-slot.ensures (ap (λ (t : TaskTerms). t.collect_period) c.terms_at-own.ensures)
    (ap (λ (t : TaskTerms). t.collect_deadline) c.terms_at-own.ensures) (sym c.comes.ensures ∙ c.if-not-comes.false) c.collect.new.self
    c.in-Ok.field-0 c.in-Ok.ensures

pub returns-then-not-comes-clause-entered : goal.returns-then-not-comes-clause-entered
returns-then-not-comes-clause-entered g c =
    passed_over g.N.Nand.ends g.N.Nand.failures g.N.Nand.never_fails c.args.core.now c.args.terms.now c.requires.lived.0 c.args.life c.args.caller
    c.args.task c.now-slot.result c.terms_at-own.result.collect_period c.terms_at-own.result.collect_deadline c.requires.lived.1 c.requires.runs
    c.requires.task c.requires.early c.now-slot.ensures (ap (λ (t : TaskTerms). t.collect_period) c.terms_at-own.ensures)
    (ap (λ (t : TaskTerms). t.collect_deadline) c.terms_at-own.ensures) (sym c.comes.ensures ∙ c.if-not-comes.true)

pub returns-then-not-comes-clause-kept : goal.returns-then-not-comes-clause-kept
returns-then-not-comes-clause-kept g c earlier kept =
    passed_keeps g.N.Nand.ends g.N.Nand.failures g.N.Nand.never_fails c.args.core.now c.args.terms.now earlier c.args.life c.args.caller
    c.args.task c.now-slot.result c.terms_at-own.result.collect_period c.terms_at-own.result.collect_deadline kept c.requires.runs
    c.requires.task c.requires.early c.now-slot.ensures (ap (λ (t : TaskTerms). t.collect_period) c.terms_at-own.ensures)
    (ap (λ (t : TaskTerms). t.collect_deadline) c.terms_at-own.ensures) (sym c.comes.ensures ∙ c.if-not-comes.true)
