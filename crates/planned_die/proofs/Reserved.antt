-- Memory for a life: it suffices for what may come, and each call leaves it.
use Rattle.std.proofs.Common.{◌≡◌, ℕ, ◌+◌, ◌<◌, ◌≤◌, Bool, List, length, Ok, Err, ap, sym, subst, inl, inr, arith}
use Rattle.std.proofs.lemmas.List.{length_push}
use Rattle.slot_types.specs.Arrivals.{IsArrival}
use Rattle.slot_types.specs.declared.events.Op.{Op}
use Rattle.slot_types.specs.declared.events.Event.{Event}
use Rattle.slot_types.specs.declared.events.Event.TheVariants as events
use Rattle.slot_types.specs.declared.refusals.Refusal.{Refusal}
use Rattle.slot_types.specs.declared.replies.Reply.TheVariants as replies
use Rattle.slot_types.specs.declared.replies.SlotReply.{SlotReply}
use Rattle.flash_die.specs.declared.nand.NandCall.{NandCall}
use Rattle.demand_rules.specs.declared.terms.Terms.{Terms}
use Rattle.die_log.specs.Model.Log.{now, carried_slots}
use Rattle.slot_core.specs.Core.{Core, Reserved, IsWithin}
use Rattle.slot_core.specs.Calls.{IsCall, IsCovered, RefusesCall, HasEntered}
use Rattle.slot_core.specs.Renewals.{renewed_core}
use Rattle.planned_log.specs.Lives.{most_arrivals, weight_of, came_in}
use Rattle.planned_die.specs.Planned.{IsReservedFor, of_life, with_life}

module _ {N : Type 0} (terms : Terms) (life : ℕ) where
  -- What is covered

  pub job_covered : (core : Core N) (task release due : ℕ) (ops : List Op) → IsReservedFor terms life core → 1 ≤ length ops
      → length ops + came_in core.log ≤ most_arrivals terms life → IsCovered (events.Submit task release due ops) core.reserved
  job_covered core task release due ops r some few = (omega (arith, r.arrivals, some, few), omega (arith, r.operations, few))

  pub collection_covered : (core : Core N) (task release due : ℕ) → IsReservedFor terms life core
      → 1 + came_in core.log ≤ most_arrivals terms life → IsCovered (events.Collect task release due) core.reserved
  collection_covered core task release due r few = omega (arith, r.arrivals, few)

  pub slot_covered : (core : Core N) → IsReservedFor terms life core → now core.log < life → IsCovered events.Slot core.reserved
  slot_covered core r early = omega (arith, r.slots, early)

  -- What calls leave

  pub entered_reserved : (caller : ℕ) (event : Event) (number : ℕ) (before after : Core N) → IsArrival event → 1 ≤ weight_of event
      → HasEntered caller event number before after → IsReservedFor terms life before → IsReservedFor terms life after
  entered_reserved caller (events.Submit task release due ops) number before after arrives some h r =
      subst (IsReservedFor terms life) (sym h.logged) (record {
        slots = r.slots;
        arrivals = omega (arith, r.arrivals, some);
        operations = omega (arith, r.operations);
        lasts = r.lasts;
      })
  entered_reserved caller (events.Collect task release due) number before after arrives some h r =
      subst (IsReservedFor terms life) (sym h.logged) (record {
        slots = r.slots;
        arrivals = omega (arith, r.arrivals);
        operations = omega (arith, r.operations);
        lasts = r.lasts;
      })
  entered_reserved caller events.Slot number before after arrives some h r = absurd arrives

  module _ (ends : N → NandCall → Bool → N → Type 0) (failures : N → ℕ) (never : Bool) (caller : ℕ) (before after : Core N) where
    pub slotted_reserved : (reply : SlotReply) → IsCall ends failures never caller events.Slot (Ok (replies.Slot reply)) before after
        → IsReservedFor terms life before → IsReservedFor terms life after
    slotted_reserved reply call r = record {
      slots = omega (
        arith,
        r.slots,
        ap (λ (x : Reserved). x.slots) call.ended.used,
        ap now call.ended.logged,
        length_push (carried_slots before.log) reply.ran,
      );
      arrivals = omega (arith, r.arrivals, ap (λ (x : Reserved). x.arrivals) call.ended.used, ap came_in call.ended.logged);
      operations = omega (arith, r.operations, ap (λ (x : Reserved). x.operations) call.ended.used, ap came_in call.ended.logged);
      lasts = subst (IsWithin (of_life terms life)) (sym call.lasting_stays) r.lasts;
    }

    pub refused_reserved : (r : Refusal) → IsCall ends failures never caller events.Slot (Err r) before after → IsReservedFor terms life before
        → IsReservedFor terms life after
    refused_reserved r call h = by call.ended
      where
        by : RefusesCall events.Slot r before after → IsReservedFor terms life after
        by (inl same) = subst (IsReservedFor terms life) (sym same.unchanged) h
        by (inr (inl same)) = subst (IsReservedFor terms life) (sym same.unchanged) h
        by (inr (inr (inl fault))) = record {
          slots = omega (arith, h.slots, ap (λ (x : Reserved). x.slots) fault.reserve_stays, ap now fault.log_stays);
          arrivals = omega (arith, h.arrivals, ap (λ (x : Reserved). x.arrivals) fault.reserve_stays, ap came_in fault.log_stays);
          operations = omega (arith, h.operations, ap (λ (x : Reserved). x.operations) fault.reserve_stays, ap came_in fault.log_stays);
          lasts = subst (IsWithin (of_life terms life)) (sym call.lasting_stays) h.lasts;
        }
        by (inr (inr (inr same))) = subst (IsReservedFor terms life) (sym same.unchanged) h

  pub renewed_reserved : (before after : Core N) → after ≡ renewed_core before → IsReservedFor terms life before → IsReservedFor terms life after
  renewed_reserved before after is r = subst (IsReservedFor terms life) (sym is) (record {
    slots = omega (arith, r.lasts.slots);
    arrivals = omega (arith, r.lasts.arrivals);
    operations = omega (arith, r.lasts.operations);
    lasts = r.lasts;
  })

  pub life_reserved : (before after : Core N) → after ≡ with_life terms life before → IsReservedFor terms life after
  life_reserved before after is = subst (IsReservedFor terms life) (sym is) (record {
    slots = omega arith;
    arrivals = omega arith;
    operations = omega arith;
    lasts = record { slots = omega arith; arrivals = omega arith; operations = omega arith };
  })
