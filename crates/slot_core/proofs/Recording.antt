-- What one more entry of a log does to the records of its jobs and collections.
use Rattle.std.proofs.Common.{◌≡◌, ℕ, zero, suc, ◌+◌, ◌<◌, ◌==◌, Bool, true, false, cond, List, [], ◌∷◌, ◌++◌, Some, None, refl, ap, sym}
use Rattle.std.proofs.Common.{◌∙◌, subst, length, map, slice_get, if◌then◌else◌, append-nil, arith}
use Rattle.std.specs.List.{cons_option, AllByRecursion}
use Rattle.std.proofs.lemmas.Bool.Decides.{nat_tests}
use Rattle.std.proofs.lemmas.Bool.{ne_eqb, eq-eqb}
use Rattle.std.proofs.lemmas.List.{length_push}
use Rattle.std.proofs.lemmas.List.Elements.{filter_map-append}
use Rattle.std.proofs.lemmas.Option.{same_Some}
use Rattle.slot_types.specs.declared.acts.Act.{Act}
use Rattle.slot_types.specs.declared.acts.Act.TheVariants as does
use Rattle.slot_types.specs.declared.events.Op.{Op}
use Rattle.slot_types.specs.declared.events.Event.TheVariants as events
use Rattle.slot_types.specs.declared.replies.Reply.TheVariants as replies
use Rattle.slot_types.specs.declared.replies.SlotReply.{SlotReply}
use Rattle.slot_types.specs.declared.replies.Entry.{Entry}
use Rattle.slot_types.specs.declared.replies.Waived.{Waived}
use Rattle.job_table.specs.declared.stages.Stage.{Stage}
use Rattle.job_table.specs.Jobs.{JobRecord, new_job, new_collection, with_stage}
use Rattle.job_table.specs.Jobs as jobs_table
use Rattle.job_table.specs.Table.{changed_at}
use Rattle.die_log.specs.Model.Log.{Log, Job, jobs, job_at, waived_collections, act_of, acts, now}
use Rattle.die_log.specs.Model.Work.{are_all, completion, ended_by}
use Rattle.die_log.specs.Model.Answers.{IsExact}
use Rattle.die_log.specs.Invariants.RunningCollections.{AreNumbered}
use Rattle.die_log.proofs.Legality.{entry}
use Rattle.die_log.proofs.LogInvariants.OneMoreEntry.{acts_stay, acts_grow, act_own, number_at}
use Rattle.die_log.proofs.Collecting.{no_acts, other_number}
use Rattle.die_log.proofs.Known.{known, WaivedBelow}
use Rattle.slot_core.specs.HeadSteps.{after_read}
use Rattle.slot_core.specs.Records.{record_from, record_with, job_records, waiver_among, stage_by, gift_by, gift_of, pages_given, reads_of}
use Rattle.slot_core.specs.Records.{bytes_read}
use Rattle.die_log.specs.Model.Start.{Start}

map_push : {X Y : Type 0} (f : X → Y) (xs : List X) (x : X) → map f (xs ++ x ∷ []) ≡ map f xs ++ f x ∷ []
map_push f [] x = refl
map_push f (y ∷ xs) x = ap (λ ys. f y ∷ ys) (map_push f xs x)

-- Numbers that were not given yet

no_waiver : (n : ℕ) (ws : List Waived) → AllByRecursion (WaivedBelow n) ws → waiver_among n ws ≡ None
no_waiver n [] h = refl
no_waiver n (w ∷ ws) h = rw (other_number w.number n h.0) (no_waiver n ws h.1)

pub fresh_waiver : (start : Start) (past : Log) → IsExact start past → waiver_among (length (jobs past)) (waived_collections past) ≡ None
fresh_waiver start past x = no_waiver (length (jobs past)) (waived_collections past) (known start past x).of_waived

-- Arrivals

some_left : (ops : List Op) → 0 < length ops → (length {A = Act} [] == length ops) ≡ false
some_left [] h = absurd (omega arith)
some_left (op ∷ ops) h = grind (arith, nat_tests)

some_slots : (n : ℕ) → 0 < n → (0 == n) ≡ false
some_slots n h = grind (arith, nat_tests)

-- an accepted job is one more record, which has not begun
pub records-submit : (start : Start) (past : Log) (caller task release due : ℕ) (ops : List Op) → IsExact start past → 0 < length ops
    → job_records start (entry caller (events.Submit task release due ops) (replies.Taken (length (jobs past))) ∷ past) ≡ job_records start past
    ++ new_job task release due ops ∷ []
records-submit start past caller task release due ops x some =
    map_push (record_with start past (waived_collections past)) (jobs past)
    (record { number = length (jobs past); collects = false; task = task; release = release; due = due; ops = ops })
    ∙ ap (λ r. job_records start past ++ r ∷ []) fresh
  where
    fresh : record_with start past (waived_collections past) (record {
      number = length (jobs past);
      collects = false;
      task = task;
      release = release;
      due
          = due;
      ops = ops;
    }) ≡ new_job task release due ops
    fresh = rw (no_acts start past x) (rw (fresh_waiver start past x) (rw (some_left ops some) refl))

-- and so is an accepted collection
pub records-collect : (start : Start) (past : Log) (caller task release due : ℕ) → IsExact start past → 0 < start.plan.shape.erase_slots
    → job_records start (entry caller (events.Collect task release due) (replies.Taken (length (jobs past))) ∷ past) ≡ job_records start past
    ++ new_collection task release due ∷ []
records-collect start past caller task release due x some =
    map_push (record_with start past (waived_collections past)) (jobs past)
    (record { number = length (jobs past); collects = true; task = task; release = release; due = due; ops = [] })
    ∙ ap (λ r. job_records start past ++ r ∷ []) fresh
  where
    fresh : record_with start past (waived_collections past) (record {
      number = length (jobs past);
      collects = true;
      task = task;
      release = release;
      due
          = due;
      ops = [];
    }) ≡ new_collection task release due
    fresh = rw (no_acts start past x) (rw (fresh_waiver start past x) (rw (some_slots start.plan.shape.erase_slots some) refl))

-- Slots

map_same : {X Y : Type 0} (f g : X → Y) → ((x : X) → f x ≡ g x) → (xs : List X) → map f xs ≡ map g xs
map_same f g e [] = refl
map_same f g e (x ∷ xs) = rw (e x) (ap (λ ys. g x ∷ ys) (map_same f g e xs))

map_where : {X Y : Type 0} (f g : X → Y) (xs : List X) → ((k : ℕ) (y : X) → slice_get xs k ≡ Some y → f y ≡ g y) → map f xs ≡ map g xs
map_where f g [] h = refl
map_where f g (x ∷ xs) h = rw (h 0 x refl) (ap (λ ys. g x ∷ ys) (map_where f g xs (λ k y e. h (suc k) y e)))

-- a list is changed at one place: at the others f and g agree, and at this one the change makes f's value g's
pub map_changed : {X : Type 0} (f g : X → JobRecord) (xs : List X) (n : ℕ) (change : JobRecord → JobRecord)
    → ((k : ℕ) (y : X) → slice_get xs k ≡ Some y → (k ≡ n → ⊥) → f y ≡ g y) → ((y : X) → slice_get xs n ≡ Some y → change (f y) ≡ g y)
    → changed_at (map f xs) n change ≡ map g xs
map_changed f g [] n change others here = refl
map_changed {X = X} f g (x ∷ xs) zero change others here =
    rw (here x refl) (ap (λ ys. g x ∷ ys) (map_where f g xs (λ k y e. others (suc k) y e (λ h. absurd (omega (arith, h))))))
map_changed f g (x ∷ xs) (suc n) change others here =
    rw (others 0 x refl (λ h. absurd (omega (arith, h))))
    (ap (λ ys. g x ∷ ys) (map_changed f g xs n change (λ k y e other. others (suc k) y e (λ h. other (omega (arith, h)))) here))

abbrev pub slot_of : ℕ → SlotReply → Entry
slot_of caller s = entry caller events.Slot (replies.Slot s)

-- an idle slot changes no record but those of the collections that it waives
pub records-idle : (start : Start) (past : Log) (caller : ℕ) (ws : List Waived)
    → job_records start (slot_of caller (record { slot = now past; waived = ws; ran = None; finished = None }) ∷ past)
    ≡ map (record_with start past (waived_collections past ++ ws)) (jobs past)
records-idle start past caller ws = map_same _ _ each (jobs past)
  where
    each : (i : Job) → record_with start (entry caller events.Slot
        (replies.Slot (record { slot = now past; waived = ws; ran = None; finished = None })) ∷ past) (waived_collections past ++ ws) i
        ≡ record_with start past (waived_collections past ++ ws) i
    each i = ap (λ own. record_from start own (completion i.number past) (pages_given start i.number past) (waived_collections past ++ ws) i)
        (acts_stay i.number (entry caller events.Slot (replies.Slot (record { slot = now past; waived = ws; ran = None; finished = None })))
        past refl)

-- the reply of a slot in which a job or collection acted
abbrev pub acted_reply : Log → List Waived → ℕ → Act → Bool → SlotReply
acted_reply past ws number act ends = record {
  slot = now past;
  waived = ws;
  ran = Some (number, act);
  finished = if ends then Some number
      else None;
}

-- the record of the one that acted
abbrev pub acted_record : Start → Log → ℕ → List Waived → Job → Act → Bool → JobRecord
acted_record start past caller ws j act ends =
    record_with start (slot_of caller (acted_reply past ws j.number act ends) ∷ past) (waived_collections past ++ ws) j

-- a slot in which one acts changes its record, and those of the collections that it waives
pub records-act : (start : Start) (past : Log) (caller : ℕ) (ws : List Waived) (j : Job) (act : Act) (ends : Bool) (change : JobRecord
    → JobRecord)
    → AreNumbered 0 (jobs past) → slice_get (jobs past) j.number ≡ Some j
    → change (record_with start past (waived_collections past ++ ws) j) ≡ acted_record start past caller ws j act ends
    → changed_at (map (record_with start past (waived_collections past ++ ws)) (jobs past)) j.number change
    ≡ job_records start (slot_of caller (acted_reply past ws j.number act ends) ∷ past)
records-act start past caller ws j act ends change numbered at own =
    map_changed (record_with start past (waived_collections past ++ ws))
    (record_with start (slot_of caller (acted_reply past ws j.number act ends) ∷ past) (waived_collections past ++ ws)) (jobs past) j.number change
    others mine
  where
    mine : (i : Job) → slice_get (jobs past) j.number ≡ Some i → change (record_with start past (waived_collections past ++ ws) i)
        ≡ record_with start (slot_of caller (acted_reply past ws j.number act ends) ∷ past) (waived_collections past ++ ws) i
    mine i e = subst (λ (k : Job). change (record_with start past (waived_collections past ++ ws) k)
        ≡ record_with start (slot_of caller (acted_reply past ws j.number act ends) ∷ past) (waived_collections past ++ ws) k)
        (same_Some j i (sym at ∙ e)) own

    other_given : (n : ℕ) → (j.number == n) ≡ false → (b : Bool)
        → gift_by start past (acted_reply past ws j.number act ends) n (cond b (Some j.number) None) (pages_given start n past) ≡ pages_given start n past
    other_given n differs true = rw differs refl
    other_given n differs false = refl

    others : (k : ℕ) (i : Job) → slice_get (jobs past) k ≡ Some i → (k ≡ j.number → ⊥)
        → record_with start past (waived_collections past ++ ws) i ≡ record_with start (slot_of caller (acted_reply past ws j.number act ends) ∷ past)
        (waived_collections past ++ ws) i
    others k i here other =
        let is : i.number ≡ 0 + k = number_at 0 (jobs past) k i numbered here in
        let differs : (j.number == i.number) ≡ false = ne_eqb j.number i.number (λ same. other (omega (arith, same, is))) in
        let none : act_of i.number (Some (j.number, act)) ≡ None = rw differs refl in
        sym (ap (λ own. record_from start own (completion i.number (slot_of caller (acted_reply past ws j.number act ends) ∷ past))
        (pages_given start i.number (slot_of caller (acted_reply past ws j.number act ends) ∷ past)) (waived_collections past ++ ws) i)
        (acts_stay i.number (slot_of caller (acted_reply past ws j.number act ends)) past none)
        ∙ (ap (λ c. record_from start (acts i.number past) (ended_by c (completion i.number past) (now past))
        (pages_given start i.number (slot_of caller (acted_reply past ws j.number act ends) ∷ past)) (waived_collections past ++ ws) i) none
        ∙ ap (λ g. record_from start (acts i.number past) (completion i.number past) g (waived_collections past ++ ws) i)
        (other_given i.number differs ends)))

-- The one that acted

abbrev pub stage_after : Bool → ℕ → ℕ → Stage
stage_after ends completion given = stage_by None ends completion given

reads_more : (own : List Act) (act : Act) → reads_of (own ++ act ∷ []) ≡ reads_of own ++ cons_option (bytes_read act) []
reads_more own act = filter_map-append bytes_read own (act ∷ [])

with_act : (start : Start) (own : List Act) (j : Job) (ws : List Waived) (act : Act) (c g c' g' : ℕ) (ends : Bool)
    → waiver_among j.number ws ≡ None → are_all start.plan j (own ++ act ∷ []) ≡ ends
    → record_from start (own ++ act ∷ []) c g ws j ≡ with_stage (stage_after ends c g)
    (after_read act (jobs_table.with_one_more_slot (record_from start own c' g' ws j)))
with_act start own j ws (does.Read page bytes) c g c' g' ends none is =
    rw is (rw none (rw (length_push own (does.Read page bytes)) (rw (reads_more own (does.Read page bytes)) refl)))
with_act start own j ws (does.Write page bytes) c g c' g' ends none is =
    rw is (rw none (rw (length_push own (does.Write page bytes))
    (rw (reads_more own (does.Write page bytes)) (rw (append-nil (reads_of own)) refl))))
with_act start own j ws (does.Trim page) c g c' g' ends none is =
    rw is (rw none (rw (length_push own (does.Trim page)) (rw (reads_more own (does.Trim page)) (rw (append-nil (reads_of own)) refl))))
with_act start own j ws (does.CopyRead page) c g c' g' ends none is =
    rw is (rw none (rw (length_push own (does.CopyRead page))
    (rw (reads_more own (does.CopyRead page)) (rw (append-nil (reads_of own)) refl))))
with_act start own j ws (does.CopyProgram page) c g c' g' ends none is =
    rw is (rw none (rw (length_push own (does.CopyProgram page))
    (rw (reads_more own (does.CopyProgram page)) (rw (append-nil (reads_of own)) refl))))
with_act start own j ws (does.Erase block) c g c' g' ends none is =
    rw is (rw none (rw (length_push own (does.Erase block)) (rw (reads_more own (does.Erase block)) (rw (append-nil (reads_of own)) refl))))

-- its record: one slot more, perhaps one read more, and done if that was its last act
pub acted_is : (start : Start) (past : Log) (caller : ℕ) (ws : List Waived) (j : Job) (act : Act) (ends : Bool) → job_at past j.number
    ≡ Some j → waiver_among j.number (waived_collections past ++ ws) ≡ None
    → are_all start.plan j (acts j.number past ++ act ∷ []) ≡ ends
    → acted_record start past caller ws j act ends
    ≡ with_stage (stage_after ends (now past + 1) (gift_of start past (acted_reply past ws j.number act ends) (Some j)))
    (after_read act (jobs_table.with_one_more_slot (record_with start past (waived_collections past ++ ws) j)))
acted_is start past caller ws j act ends at none is = by_end ends is
  where
    grown : (b : Bool) → acts j.number (slot_of caller (acted_reply past ws j.number act b) ∷ past) ≡ acts j.number past ++ act ∷ []
    grown b = acts_grow j.number (slot_of caller (acted_reply past ws j.number act b)) past act (act_own j.number act)

    completed : ended_by (act_of j.number (Some (j.number, act))) (completion j.number past) (now past) ≡ now past + 1
    completed = rw (act_own j.number act) refl

    by_end : (b : Bool) → are_all start.plan j (acts j.number past ++ act ∷ []) ≡ b
        → acted_record start past caller ws j act b
        ≡ with_stage (stage_after b (now past + 1) (gift_of start past (acted_reply past ws j.number act b) (Some j)))
        (after_read act (jobs_table.with_one_more_slot (record_with start past (waived_collections past ++ ws) j)))
    by_end true e =
        rw (grown true) (rw (act_own j.number act) (rw (eq-eqb j.number j.number refl)
        (rw at (with_act start (acts j.number past) j (waived_collections past ++ ws) act _ _ _ _ true none e))))
    by_end false e =
        rw (grown false) (rw (act_own j.number act) (with_act start (acts j.number past) j (waived_collections past ++ ws) act _ _ _ _ false none e))
