-- What is known of an act that an exact log carries.
use Rattle.std.proofs.Common.{◌≡◌, ℕ, ◌<◌, ◌≤◌, Bool, true, false, List, ◌∷◌, length, Option, Some, None, refl, sym}
use Rattle.std.proofs.Common.{subst, ◌∙◌, slice_get}
use Rattle.std.proofs.Common.{inl, inr, ◌⊎◌, arith}
use Rattle.std.specs.Prelude.{Contains}
use Rattle.std.proofs.lemmas.Bool.{cases_lt}
use Rattle.std.proofs.lemmas.List.{get_or_past}
use Rattle.std.proofs.lemmas.Option.{same_Some, none-some, slice_get_within, get_or_from_slice_get}
use Rattle.slot_types.specs.Operations.{page_of}
use Rattle.slot_types.specs.declared.plans.DiePlan.{DiePlan}
use Rattle.slot_types.specs.declared.acts.Act.{Act}
use Rattle.slot_types.specs.declared.acts.Act.TheVariants as does
use Rattle.slot_types.specs.declared.events.Event.{Event}
use Rattle.slot_types.specs.declared.events.Event.TheVariants as events
use Rattle.slot_types.specs.declared.events.Op.{Op}
use Rattle.slot_types.specs.declared.events.Op.TheVariants as asks
use Rattle.slot_types.specs.declared.replies.Reply.{Reply}
use Rattle.slot_types.specs.declared.replies.Entry.{Entry}
use Rattle.slot_types.specs.declared.replies.Waived.{Waived}
use Rattle.die_log.specs.Model.Log.{Log, Job, Carried, jobs, acts, work}
use Rattle.slot_types.specs.Places.{place_of}
use Rattle.slot_types.specs.declared.pages.Place.{Place}
use Rattle.die_log.specs.Model.Flash.{Cells, block_of_page, cells, ran_by}
use Rattle.die_log.specs.Model.Start.{Start}
use Rattle.die_log.specs.Model.Opening.{IsOpening}
use Rattle.die_log.specs.Model.Answers.{IsExact, IsAccepted, reply_if_accepted, act_for, act_of_op, choice, slot_reply}
use Rattle.die_log.specs.Model.Answers.{reply_with}
use Rattle.die_log.specs.Results.Legal.{changed_since}
use Rattle.die_log.specs.Invariants.SoundCells.{IsClosed, IsUnplaced, HasFreePage, MayDo, MayProgram}
use Rattle.die_log.specs.Invariants.RunningCollections.{KeepsJobsAndCells}
use Rattle.die_log.proofs.Cells.Acts.{of_block}
use Rattle.die_log.proofs.Choices.{OfSome}
use Rattle.die_log.proofs.Legality.{taken_answer}
use Rattle.die_log.proofs.Legal.Exact.{stands_well, event_finds, has_slots}
use Rattle.die_log.proofs.Limits.{keeps_limits}
use Rattle.die_log.proofs.LogInvariants.HeadActs.{IsJobAct, job_erases_not, op_act, job_act, collection_may, may_erase}
use Rattle.die_log.proofs.LogInvariants.HeadActs.{room_of}
use Rattle.die_log.proofs.LogInvariants.CellsFromAccounts.{FindsBy}
use Rattle.die_log.proofs.LogInvariants.EveryLog.{waiting_undone}
use Rattle.die_log.proofs.LogInvariants.OneMoreEntry.{IsWaiting, waits}
use Rattle.power_loss.specs.Labels.{Programs}

-- a program has a free page, and is of one of the die's pages; a copied page is placed; and an erase slot is of a
-- closed block in which no page is placed
pub record IsSoundAct (start : Start) (past : Log) (act : Act) : Type 0 where
  pub room : HasFreePage start.plan (cells start past) act
  pub within : (page : ℕ) → Programs act page → page < length (cells start past).places
  pub copies : (page : ℕ) → act ≡ does.CopyProgram page → (q : Place) × (place_of (cells start past).places page ≡ Some q)
  pub erases : (b : ℕ) → act ≡ does.Erase b → IsClosed start.plan (cells start past) b × IsUnplaced (cells start past) b

abbrev pub IsSoundCarried : Start → Log → Carried → Type 0
IsSoundCarried start past None = Unit {0}
IsSoundCarried start past (Some (n, act)) = IsSoundAct start past act

-- Pages

pub placed_within : (c : Cells) (page b : ℕ) → block_of_page c page ≡ Some b → page < length c.places
placed_within c page b e = by_case (cases_lt page (length c.places))
  where
    by_case : (page < length c.places) ⊎ (length c.places ≤ page) → page < length c.places
    by_case (inl lt) = lt
    by_case (inr past) = let q = of_block c page b e in absurd (none-some q.0 (sym (get_or_past c.places page None past) ∙ q.1))

programs_own : (start : Start) (past : Log) (op : Op) (act : Act) (page : ℕ) → act_of_op start past (Some op) ≡ Some act → Programs act page
    → page_of op ≡ page
programs_own start past (asks.Read p) act page e h = absurd (subst (λ (x : Act). Programs x page) (sym (same_Some _ act e)) h)
programs_own start past (asks.Write p bytes) act page e h = subst (λ (x : Act). Programs x page) (sym (same_Some _ act e)) h
programs_own start past (asks.Trim p) act page e h = absurd (subst (λ (x : Act). Programs x page) (sym (same_Some _ act e)) h)

may_program : (plan : DiePlan) (c : Cells) (own : List Act) (fresh : ℕ → Bool) (b : ℕ) (act : Act) (page : ℕ) → MayDo plan c own fresh b act
    → Programs act page → page < length c.places
may_program plan c own fresh b (does.Read p bytes) page may h = absurd may
may_program plan c own fresh b (does.Write p bytes) page may h = absurd may
may_program plan c own fresh b (does.Trim p) page may h = absurd may
may_program plan c own fresh b (does.CopyRead p) page may h = absurd h
may_program plan c own fresh b (does.CopyProgram p) page may h = subst (λ (x : ℕ). x < length c.places) h (placed_within c p b may.placed)
may_program plan c own fresh b (does.Erase a) page may h = absurd h

may_copy : (plan : DiePlan) (c : Cells) (own : List Act) (fresh : ℕ → Bool) (b : ℕ) (act : Act) (page : ℕ) → MayDo plan c own fresh b act
    → act ≡ does.CopyProgram page → block_of_page c page ≡ Some b
may_copy plan c own fresh b act page may is = placed (subst (MayDo plan c own fresh b) is may)
  where
    placed : MayProgram c own fresh b page → block_of_page c page ≡ Some b
    placed k = k.placed

-- a page that a job programs is one of the die's
op_within : (start : Start) (past : Log) (j : Job) (act : Act) (page : ℕ) → IsExact start past → Contains (jobs past) j → (o : Option Op)
    → slice_get j.ops (work j.number past) ≡ o → act_of_op start past o ≡ Some act → Programs act page → page < start.plan.logical
op_within start past j act page exact stands None e is h = absurd cc
op_within start past j act page exact stands (Some op) e is h =
    let k : ℕ = work j.number past in
    let has : Contains j.ops op = (k, slice_get_within j.ops k op e, get_or_from_slice_get j.ops k op op e) in
    let within : page_of op < start.plan.logical = ((keeps_limits start past exact).each j stands).pages op has in
    subst (λ (x : ℕ). x < start.plan.logical) (programs_own start past op act page is h) within

-- The head's act

head_sound : (start : Start) (past : Log) (j : Job) (act : Act) → IsOpening start → IsExact start past → KeepsJobsAndCells start past
    → IsWaiting start.plan past j → act_for start past j ≡ Some act → HasFreePage start.plan (cells start past) act → IsSoundAct start past act
head_sound start past j act bound exact s w e room = by_kind j.collects refl
  where
    by_kind : (t : Bool) → j.collects ≡ t → IsSoundAct start past act
    by_kind false kind =
        let is = job_act start past j act kind e in
        let op = op_act start past (slice_get j.ops (work j.number past)) act is in record {
          room = room;
          within = λ page h. omega (
            arith,
            op_within start past j act page exact w.0 (slice_get j.ops (work j.number past)) refl is h,
            s.collects.sound.places,
          );
          copies = λ page x. absurd (subst IsJobAct x op);
          erases = λ b x. absurd (job_erases_not act op b x);
        }
    by_kind true kind =
        let m = collection_may start past j act (has_slots start.plan bound.bound) s.collects w.0 kind (waiting_undone start.plan past j w.1) e in
        record {
          room = room;
          within = λ page h. may_program start.plan (cells start past) (acts j.number past) (λ p. changed_since j.number p past) m.0 act page m.2 h;
          copies = λ page x.
              let k = may_copy start.plan (cells start past) (acts j.number past) (λ p. changed_since j.number p past) m.0 act page m.2 x in
              let q = of_block (cells start past) page m.0 k in
              (q.0, q.1);
          erases = λ b x.
              let k = may_erase start.plan (cells start past) (acts j.number past) (λ p. changed_since j.number p past) m.0 act m.2 b x in
              (k.1, k.2);
        }

-- Entries

slot_act : (start : Start) (past : Log) (ws : List Waived) (j : Job) (o : Option Act) → IsOpening start → IsExact start past
    → KeepsJobsAndCells start past → IsWaiting start.plan past j → act_for start past j ≡ o → FindsBy start past (reply_with start.plan past ws j o).ran
    → IsSoundCarried start past (reply_with start.plan past ws j o).ran
slot_act start past ws j None bound exact s w e finds = tt
slot_act start past ws j (Some act) bound exact s w e finds = head_sound start past j act bound exact s w e (room_of start past act finds)

slot_head : (start : Start) (past : Log) (ws : List Waived) (o : Option Job) → IsOpening start → IsExact start past → KeepsJobsAndCells start past
    → OfSome (IsWaiting start.plan past) o → FindsBy start past (slot_reply start past ws o).ran
    → IsSoundCarried start past (slot_reply start past ws o).ran
slot_head start past ws None bound exact s w finds = tt
slot_head start past ws (Some j) bound exact s w finds = slot_act start past ws j (act_for start past j) bound exact s w refl finds

event_sound : (start : Start) (past : Log) (event : Event) → IsOpening start → IsExact start past
    → IsSoundCarried start past (ran_by (reply_if_accepted start past event))
event_sound start past (events.Submit task release due ops) bound exact = tt
event_sound start past (events.Collect task release due) bound exact = tt
event_sound start past events.Slot bound exact =
    let s = stands_well start bound past exact in
    slot_head start past (choice start past).waived (choice start past).head bound exact s.0 (waits start past).head
    (event_finds start past events.Slot bound s)

-- what an entry of an exact log carries is sound
pub carried_sound : (start : Start) → IsOpening start → (e : Entry) (past : Log) → IsExact start (e ∷ past)
    → IsSoundCarried start past (ran_by e.reply)
carried_sound start bound e past h =
    let taken = taken_answer start past e.event (subst IsAccepted h.1 h.2) in
    subst (λ (r : Reply). IsSoundCarried start past (ran_by r)) (sym (h.1 ∙ taken.1)) (event_sound start past e.event bound h.0)
