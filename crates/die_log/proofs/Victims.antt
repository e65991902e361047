-- A collection that begins finds a victim with few valid pages.
use Rattle.std.proofs.Common.{◌≡◌, ℕ, List, [], ◌∷◌, ◌++◌, Option, Some, None, refl, ap, sym, subst, ◌∙◌}
use Rattle.std.proofs.lemmas.Option.{same_Some}
use Rattle.slot_types.specs.declared.acts.Act.{Act}
use Rattle.slot_types.specs.declared.events.Event.{Event}
use Rattle.slot_types.specs.declared.events.Event.TheVariants as events
use Rattle.slot_types.specs.declared.replies.Entry.{Entry}
use Rattle.slot_types.specs.declared.replies.Reply.TheVariants as replies
use Rattle.slot_types.specs.declared.replies.SlotReply.{SlotReply}
use Rattle.slot_types.specs.declared.replies.Waived.{Waived}
use Rattle.die_log.specs.Model.Log.{Log, Job, job_at, act_of, waived_collections}
use Rattle.die_log.specs.Model.Flash.{ran_by}
use Rattle.die_log.specs.Model.Work.{victim_of, shown_by}
use Rattle.die_log.specs.Model.Answers.{IsExact, IsAccepted, reply_if_accepted, choice, slot_reply, reply_with, act_for}
use Rattle.die_log.specs.Model.Opening.{IsOpening}
use Rattle.die_log.specs.Model.Start.{Start}
use Rattle.die_log.specs.Results.Victims.{BeginsNext, IsSmallVictim, HasFirstAct}
use Rattle.die_log.proofs.Exact.{moment_exact}
use Rattle.die_log.proofs.Legality.{taken_answer}
use Rattle.die_log.proofs.Legal.Exact.{StandsWell, stands_well, finds_few, well_served, chosen_is}
use Rattle.die_log.proofs.LogInvariants.OneMoreEntry.{act_own}
use Rattle.die_log.proofs.Tokens.Few.{begin_shows}
use Rattle.std.proofs.Common.{MatchOption}
use Rattle.die_log.proofs.Tokens.Waivers.{Waits}

pub head_finds : (start : Start) → IsOpening start → (log : Log) → IsExact start log → (j : Job) → BeginsNext start log j
    → (b : ℕ) × IsSmallVictim start log b
head_finds start bound log exact j first =
    let v = finds_few start log bound (stands_well start bound log exact) j first.head first.collects first.unbegun in
    (v.0, record { victim = v.1; few = v.2 })

-- The head of a slot that carried something

-- it is the head, and what it does was carried
pub record IsHeadOf (start : Start) (past : Log) (number : ℕ) (act : Act) : Type 0 where
  pub j : Job
  pub head : (choice start past).head ≡ Some j
  pub number_is : j.number ≡ number
  pub does_it : act_for start past j ≡ Some act

slot_is : (start : Start) (past : Log) (event : Event) (s : SlotReply) → replies.Slot s ≡ reply_if_accepted start past event
    → s ≡ slot_reply start past (choice start past).waived (choice start past).head
slot_is start past (events.Submit task release due ops) s e = absurd cc
slot_is start past (events.Collect task release due) s e = absurd cc
slot_is start past events.Slot s e = cc

head_is : (start : Start) (past : Log) (ws : List Waived) (number : ℕ) (act : Act) (o : Option Job) → (choice start past).head ≡ o
    → (slot_reply start past ws o).ran ≡ Some (number, act) → IsHeadOf start past number act
head_is start past ws number act None e ran = absurd cc
head_is start past ws number act (Some j) e ran = by_act (act_for start past j) refl ran
  where
    by_act : (a : Option Act) → act_for start past j ≡ a → (reply_with start.plan past ws j a).ran ≡ Some (number, act)
        → IsHeadOf start past number act
    by_act None a is = absurd cc
    by_act (Some x) a is =
        let both : ◌≡◌ {A = ℕ × Act} (j.number, x) (number, act) = same_Some {A = ℕ × Act} (j.number, x) (number, act) is in
        record {
          j = j;
          head = e;
          number_is = ap (λ (p : ℕ × Act). p.0) both;
          does_it = a ∙ ap (λ (p : ℕ × Act). Some p.1) both;
        }

pub carried_head : (start : Start) (past : Log) (e : Entry) (s : SlotReply) (number : ℕ) (act : Act) → IsExact start (e ∷ past)
    → e.reply ≡ replies.Slot s → s.ran ≡ Some (number, act) → IsHeadOf start past number act
carried_head start past e s number act exact is ran =
    let taken = taken_answer start past e.event (subst IsAccepted exact.1 exact.2) in
    let same = slot_is start past e.event s (sym is ∙ (exact.1 ∙ taken.1)) in
    head_is start past (choice start past).waived number act (choice start past).head refl
    (sym (ap (λ (r : SlotReply). r.ran) same) ∙ ran)

-- a block that was shown stays
shown_stays : (start : Start) (n b : ℕ) (later past : Log) → victim_of start n past ≡ Some b → victim_of start n (later ++ past) ≡ Some b
shown_stays start n b [] past e = e
shown_stays start n b (d ∷ later) past e =
    ap (λ o. shown_by start (later ++ past) o (act_of n (ran_by d.reply))) (shown_stays start n b later past e)

pub first_act_finds : (start : Start) → IsOpening start → (log : Log) → IsExact start log → (past : Log) (j : Job) → HasFirstAct log past j
    → (b : ℕ) × IsSmallVictim start past b × (victim_of start j.number log ≡ Some b)
first_act_finds start bound log exact past j first =
    let e : Entry = first.slot.0 in
    let has = first.slot.2 in
    let here : IsExact start (e ∷ past) = moment_exact start has.0 (e ∷ past) (subst (IsExact start) has.1 exact) in
    let h = carried_head start past e first.reply j.number first.act here first.slot.1 first.ran in
    let well : StandsWell start past = stands_well start bound past here.0 in
    let c = chosen_is start past (well_served start past bound well) in
    let waits : Waits start.plan past (waived_collections past ++ (choice start past).waived) h.j = subst
    (λ (o : Option Job). MatchOption o (Unit {0}) (λ i. Waits start.plan past (waived_collections past ++ (choice start past).waived) i)) h.head c.head in
    let same : h.j ≡ j = same_Some h.j j (sym waits.known ∙ (ap (job_at past) h.number_is ∙ first.known)) in
    let head : (choice start past).head ≡ Some j = h.head ∙ ap (λ (i : Job). Some i) same in
    let does_it : act_for start past j ≡ Some first.act = ap (act_for start past) (sym same) ∙ h.does_it in
    let v = finds_few start past bound well j head first.collects first.unbegun in
    let ran : ran_by e.reply ≡ Some (j.number, first.act) = ap ran_by first.slot.1 ∙ first.ran in
    let shown : victim_of start j.number (e ∷ past) ≡ Some v.0 =
    ap (λ o. shown_by start past (victim_of start j.number past) o) (ap (act_of j.number) ran ∙ act_own j.number first.act)
    ∙ begin_shows start past j first.act v.0 does_it first.collects first.unbegun v.1 in (
      v.0,
      record { victim = v.1; few = v.2 },
      ap (victim_of start j.number) has.1 ∙ shown_stays start j.number v.0 has.0 (e ∷ past) shown,
    )
