use Rattle.std.proofs.lemmas.Grind.{common_steps}
use Rattle.job_table.specs.Reserves.{Reserve}
use Rattle.std.proofs.Common.{ap, sym, ◌∙◌, inl, inr, refl, rules, arith}
use Rattle.slot_types.specs.declared.events.Event.TheVariants.{Slot}
use Rattle.slot_types.specs.declared.replies.Reply.TheVariants.{Slot as Answered}
use Rattle.slot_core.proofs.Calling.{stopped_refused, log_refused, memory_refused, used}
use Rattle.slot_core.proofs.Slotting.{slot_refused, slot_accepts}
use Rattle.slot_core.proofs.die_core.DieCore.fill_slot.Goals as goal

pub returns-then-failed : goal.returns-then-failed
returns-then-failed g c =
    stopped_refused g.N.Nand.ends g.N.Nand.failures g.N.Nand.never_fails c.args.caller Slot c.args.self.now _
    (rw (← c.self.view_is) (sym c.failed.ensures ∙ c.if-failed.true)) (search rules)

pub returns-then-self-ge-MAX_SLOT : goal.returns-then-self-ge-MAX_SLOT
returns-then-self-ge-MAX_SLOT g c =
    rw (← c.self.view_is) (log_refused g.N.Nand.ends g.N.Nand.failures g.N.Nand.never_fails c.args.caller Slot _ _ _
    (sym c.failed.ensures ∙ c.if-failed.false)
    (slot_refused _ _ c.self.inside.present c.self.invariant.0.kept.now_is c.if-self-ge-MAX_SLOT.true) refl)

pub returns-in-Err : goal.returns-in-Err
returns-in-Err g c =
    rw (← c.self.view_is) (memory_refused g.N.Nand.ends g.N.Nand.failures g.N.Nand.never_fails c.args.caller Slot _ _ _
    (sym c.failed.ensures ∙ c.if-failed.false)
    (slot_accepts _ _ c.self.inside.present c.self.invariant.0.kept.now_is c.if-self-ge-MAX_SLOT.false)
    (λ some. let well = c.in-Err.ensures.succeeds (omega (arith, some, c.self.invariant.1.entries)) (omega arith) in absurd cc)
    c.in-Err.ensures.refused (search rules))

pub returns-in-Err-carry_out : goal.returns-in-Err-carry_out
returns-in-Err-carry_out g c =
    rw (← c.self.view_is) (record {
      ended = inr (inr (inl (record {
        ran = sym c.failed.ensures ∙ c.if-failed.false;
        slot = refl;
        accepted = slot_accepts _ _ c.self.inside.present c.self.invariant.0.kept.now_is c.if-self-ge-MAX_SLOT.false;
        refusal_is = c.in-Err-carry_out.ensures.fails.by_fault.fault;
        stops = search rules;
        log_stays = search rules;
        reserve_stays = ap (λ (r : Reserve). record { slots = c.self.inside.reserved; arrivals = r.arrivals; operations = r.operations })
            c.carry_out.ensures.reserve;
      })));
      start_stays = search rules;
      lasting_stays = ap (λ (r : Reserve). record { slots = c.self.inside.lasting; arrivals = r.arrivals; operations = r.operations })
          c.carry_out.ensures.lasting;
      device = rw (← c.reserve.ensures.events) (used g.N.Nand.ends g.N.Nand.failures g.N.Nand.never_fails _
          (λ _. Answered c.carry_out.new.reply) _ _ _ c.in-Err-carry_out.ensures.calls c.in-Err-carry_out.ensures.fails.by_fault);
    })

pub returns-in-Ok-carry_out : goal.returns-in-Ok-carry_out
returns-in-Ok-carry_out g c = grind (arith, common_steps)

pub invariant_of-self : goal.invariant_of-self
invariant_of-self g c = grind (arith, common_steps)

pub invariant_of-self-in-Err-carry_out : goal.invariant_of-self-in-Err-carry_out
invariant_of-self-in-Err-carry_out g c = grind (arith, common_steps)

pub invariant_of-self-in-Ok-carry_out : goal.invariant_of-self-in-Ok-carry_out
invariant_of-self-in-Ok-carry_out g c = grind (arith, common_steps)

pub overflow_add-self : goal.overflow_add-self
overflow_add-self g c = grind (arith, common_steps)
