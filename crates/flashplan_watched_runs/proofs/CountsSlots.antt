-- What a slot adds to the counts of a log.
use Rattle.std.proofs.Common.{◌≡◌, ◌∙◌, ap, sym, ℕ, zero, suc, ◌+◌, ◌<◌, Bool, true, false, List, [], ◌∷◌, length, get_or, refl, arith, Option, Some, None}
use Rattle.std.specs.Prelude.{◌&&◌, cond, is_none, option_map, slice_get}
use Rattle.std.proofs.lemmas.Option.{get_or_from_slice_get, none-some}
use Rattle.slot_types.specs.declared.acts.Act.{Act}
use Rattle.slot_types.specs.declared.acts.Act.TheVariants as does
use Rattle.slot_types.specs.declared.replies.Entry.{Entry}
use Rattle.slot_types.specs.declared.replies.SlotReply.{SlotReply}
use Rattle.die_log.specs.Model.Flash.{ran_by}
use Rattle.die_log.specs.Model.Log.{Carried, Job, Log, job_at}
use Rattle.flashplan_run_figures.specs.SlotCounts.{AreAfterAct, NOTHING, after_act, after_act_if, capped, is_task, one_more}
use Rattle.flashplan_run_figures.specs.declared.counts.DieCounts.{DieCounts}
use Rattle.flashplan_run_figures.specs.declared.slot_counts.SlotCounts.{SlotCounts}
use Rattle.flashplan_watched_runs.specs.SlotsCarried.{AreCountsOf, carries, is_copying, is_erasing, is_for, is_idle, is_operation, is_own}
use Rattle.flashplan_watched_runs.specs.SlotsCarried.{is_programming, is_writing, slot_counts, slots_for}
use Rattle.flashplan_watched_runs.specs.Wear.{slot_entry, slots_of}
use Rattle.flashplan_watched_runs.proofs.Counting.{count_step}

-- Five counts

-- counts of these numbers
abbrev five : ℕ → ℕ → ℕ → ℕ → ℕ → SlotCounts
five j c e w p = record { jobs = j; copies = c; erases = e; written = w; copied = p }

fives : (j c e w p j' c' e' w' p' : ℕ) → j ≡ j' → c ≡ c' → e ≡ e' → w ≡ w' → p ≡ p' → five j c e w p ≡ five j' c' e' w' p'
fives j c e w p j' c' e' w' p' js cs es ws ps =
    ap (λ (n : ℕ). five n c e w p) js ∙ (ap (λ (n : ℕ). five j' n e w p) cs ∙ (ap (λ (n : ℕ). five j' c' n w p) es
    ∙ (ap (λ (n : ℕ). five j' c' e' n p) ws ∙ ap (λ (n : ℕ). five j' c' e' w' n) ps)))

up : (n : ℕ) → capped (1 + n) ≡ one_more (capped n)
up n = omega arith

stay : (n : ℕ) → capped (0 + n) ≡ capped n
stay n = omega arith

-- with a slot that carried this act, or none that counts
abbrev more : Bool → Act → ℕ → ℕ → ℕ → ℕ → ℕ → SlotCounts
more own act j c e w p = five
    (capped (cond (own && is_operation act) 1 0 + j)) (capped (cond (own && is_copying act) 1 0 + c))
    (capped (cond (own && is_erasing act) 1 0 + e)) (capped (cond (own && is_writing act) 1 0 + w))
    (capped (cond (own && is_programming act) 1 0 + p))

more_is : (own : Bool) (act : Act) (j c e w p : ℕ) → more own act j c e w p
    ≡ after_act_if own act (five (capped j) (capped c) (capped e) (capped w) (capped p))
more_is false act j c e w p = fives _ _ _ _ _ _ _ _ _ _ (stay j) (stay c) (stay e) (stay w) (stay p)
more_is true (does.Read page bytes) j c e w p = fives _ _ _ _ _ _ _ _ _ _ (up j) (stay c) (stay e) (stay w) (stay p)
more_is true (does.Write page bytes) j c e w p = fives _ _ _ _ _ _ _ _ _ _ (up j) (stay c) (stay e) (up w) (stay p)
more_is true (does.Trim page) j c e w p = fives _ _ _ _ _ _ _ _ _ _ (up j) (stay c) (stay e) (stay w) (stay p)
more_is true (does.CopyRead page) j c e w p = fives _ _ _ _ _ _ _ _ _ _ (stay j) (up c) (stay e) (stay w) (stay p)
more_is true (does.CopyProgram page) j c e w p = fives _ _ _ _ _ _ _ _ _ _ (stay j) (up c) (stay e) (stay w) (up p)
more_is true (does.Erase block) j c e w p = fives _ _ _ _ _ _ _ _ _ _ (stay j) (stay c) (up e) (stay w) (stay p)

-- The counts of a log

-- what an entry adds, by what its slot carried
abbrev with_carried : Option ℕ → Carried → Log → SlotCounts
with_carried task carried past = five
    (capped (cond (carries is_operation task past carried) 1 0 + slots_for is_operation task past))
    (capped (cond (carries is_copying task past carried) 1 0 + slots_for is_copying task past))
    (capped (cond (carries is_erasing task past carried) 1 0 + slots_for is_erasing task past))
    (capped (cond (carries is_writing task past carried) 1 0 + slots_for is_writing task past))
    (capped (cond (carries is_programming task past carried) 1 0 + slots_for is_programming task past))

-- a slot that carried an act
act_step : (task : Option ℕ) (past : Log) (reply : SlotReply) (number : ℕ) (act : Act) → reply.ran ≡ Some (number, act)
    → slot_counts task (slot_entry reply ∷ past) ≡ after_act_if (is_for task past number) act (slot_counts task past)
act_step task past reply number act ran =
    ap (λ (carried : Carried). with_carried task carried past) ran ∙ more_is (is_for task past number) act _ _ _ _ _

-- an entry that carried nothing
pub nothing_step : (task : Option ℕ) (past : Log) (e : Entry) → ran_by e.reply ≡ None → slot_counts task (e ∷ past) ≡ slot_counts task past
nothing_step task past e ran =
    ap (λ (carried : Carried). with_carried task carried past) ran
    ∙ fives _ _ _ _ _ _ _ _ _ _ (stay _) (stay _) (stay _) (stay _) (stay _)

-- By task

own_is : (task : ℕ) (o : Option Job) → is_task (option_map (λ (j : Job). j.task) o) task ≡ is_own task o
own_is task None = refl
own_is task (Some j) = refl

none_past : {X : Type 0} (xs : List X) (n : ℕ) → slice_get xs n ≡ None → n < length xs → ⊥
none_past [] n at within = omega (arith, within)
none_past (x ∷ xs) zero at within = none-some x (sym at)
none_past (x ∷ xs) (suc n) at within = none_past xs n at (omega (arith, within))

task_step : (task number : ℕ) (past : Log) (reply : SlotReply) (act : Act) (of : Option ℕ) (old new : List SlotCounts)
    → reply.ran ≡ Some (number, act) → of ≡ option_map (λ (j : Job). j.task) (job_at past number) → AreAfterAct of act old new
    → task < length old → get_or old task NOTHING ≡ slot_counts (Some task) past
    → get_or new task NOTHING ≡ slot_counts (Some task) (slot_entry reply ∷ past)
task_step task number past reply act of old new ran is after within so = by (slice_get old task) refl
  where
    own : is_task of task ≡ is_own task (job_at past number)
    own = ap (λ (o : Option ℕ). is_task o task) is ∙ own_is task (job_at past number)

    by : (o : Option SlotCounts) → slice_get old task ≡ o → get_or new task NOTHING ≡ slot_counts (Some task) (slot_entry reply ∷ past)
    by None at = absurd (none_past old task at within)
    by (Some c) at =
        let was : c ≡ slot_counts (Some task) past = sym (get_or_from_slice_get old task c NOTHING at) ∙ so in
        get_or_from_slice_get new task (after_act_if (is_task of task) act c) NOTHING
        (after task ∙ ap (option_map (after_act_if (is_task of task) act)) at)
        ∙ (ap (λ (b : Bool). after_act_if b act c) own ∙ (ap (after_act_if (is_own task (job_at past number)) act) was
        ∙ sym (act_step (Some task) past reply number act ran)))

-- a slot that carried an act of a job or a collection
pub counts_act : (number : ℕ) (act : Act) (of : Option ℕ) (old new : DieCounts) (reply : SlotReply) (tasks : ℕ) (past log : Log)
    → reply.ran ≡ Some (number, act) → of ≡ option_map (λ (j : Job). j.task) (job_at log number)
    → new.all ≡ after_act act old.all → AreAfterAct of act old.tasks.items new.tasks.items
    → length new.tasks.items ≡ length old.tasks.items → new.idle ≡ old.idle
    → log ≡ slot_entry reply ∷ past → AreCountsOf tasks past old → AreCountsOf tasks log new
counts_act number act of old new reply tasks past log ran is all each same idle logged counted = rw logged (record {
  all = all ∙ (ap (after_act act) counted.all ∙ sym (act_step None past reply number act ran));
  count = same ∙ counted.count;
  each = λ task there.
      task_step task number past reply act of old.tasks.items new.tasks.items ran (rw logged at is) each (rw counted.count there)
      (counted.each task there);
  idle = idle ∙ (counted.idle ∙ sym (ap capped (count_step is_idle (slot_entry reply) past)
      ∙ (ap (λ (carried : Carried). capped (cond (is_none carried) 1 0 + slots_of is_idle past)) ran ∙ stay (slots_of is_idle past))));
})

-- an entry that is no slot
pub counts_entry : (tasks : ℕ) (past : Log) (e : Entry) (counts : DieCounts) → ran_by e.reply ≡ None → is_idle e.reply ≡ false
    → AreCountsOf tasks past counts → AreCountsOf tasks (e ∷ past) counts
counts_entry tasks past e counts ran idle counted = record {
  all = counted.all ∙ sym (nothing_step None past e ran);
  count = counted.count;
  each = λ task there. counted.each task there ∙ sym (nothing_step (Some task) past e ran);
  idle = counted.idle ∙ sym (ap capped (count_step is_idle e past)
      ∙ (ap (λ (b : Bool). capped (cond b 1 0 + slots_of is_idle past)) idle ∙ stay (slots_of is_idle past)));
}
