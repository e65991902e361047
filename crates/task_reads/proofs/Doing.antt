-- What a job does is what it asked for, in order.
use Rattle.std.proofs.Common.{◌≡◌, ◌⊎◌, ℕ, ◌<◌, ◌==◌, Bool, true, false, cond, List, [], ◌∷◌, ◌++◌, length, Option, Some, None}
use Rattle.std.proofs.Common.{refl, ap, sym, subst, ◌∙◌, inl, inr, arith, slice_get, get_or, set}
use Rattle.std.specs.Prelude.{Contains}
use Rattle.std.specs.List.{AllByRecursion, last_or}
use Rattle.std.proofs.lemmas.Bool.{cases_eq, eq-eqb, ne_eqb}
use Rattle.std.proofs.lemmas.Option.{same_Some, none-some}
use Rattle.std.proofs.lemmas.List.{get_or-set_same, get_or-set_other}
use Rattle.std.proofs.lemmas.List.Elements.{Contains-push_cases}
use Rattle.slot_types.specs.Operations.{page_of}
use Rattle.slot_types.specs.declared.acts.Act.{Act}
use Rattle.slot_types.specs.declared.acts.Act.TheVariants as does
use Rattle.slot_types.specs.declared.events.Op.{Op}
use Rattle.slot_types.specs.declared.events.Op.TheVariants as asks
use Rattle.slot_types.specs.declared.events.Event.{Event}
use Rattle.slot_types.specs.declared.events.Event.TheVariants as events
use Rattle.slot_types.specs.declared.pages.PageData.{PageData}
use Rattle.slot_types.specs.declared.plans.DiePlan.{DiePlan}
use Rattle.die_log.specs.Model.Log.{Log, Job, jobs, act_of, acts, work}
use Rattle.die_log.specs.Model.Flash.{Cells, cells, content, contents_after}
use Rattle.die_log.specs.Model.Start.{Start, blank_page}
use Rattle.die_log.specs.Model.Opening.{IsOpening}
use Rattle.die_log.specs.Model.Answers.{IsExact, act_of_op, act_for, collect_act, buffer_after, block_for, is_placed_in, read_or_erase, reply_if_accepted, refusals}
use Rattle.die_log.specs.Results.Legal.{Does}
use Rattle.die_log.proofs.Collecting.{no_acts}
use Rattle.die_log.proofs.Legality.{entry, exact_induction}
use Rattle.die_log.proofs.LogInvariants.OneMoreEntry.{at_end, elsewhere}
use Rattle.task_reads.specs.Asked.{is_job_of, task_jobs, changes, left_by}
use Rattle.task_reads.proofs.Lists.{in_filter}
use Rattle.task_reads.proofs.Turns.{Carries, carries, slot_entry, next_ran, slot_stays, slot_grows, numbered_of, job_kind}

-- the act gives the page's bytes, if it is a read
abbrev pub Says : Start → Log → Act → Type 0
Says start past (does.Read page bytes) = bytes ≡ content start past page
Says start past _ = Unit {0}

-- the act is that of this operation of the job
pub record DoesOp (start : Start) (past : Log) (j : Job) (n : ℕ) (act : Act) : Type 0 where
  pub op : Op
  pub at : slice_get j.ops n ≡ Some op
  pub does_it : Does op act
  pub says : Says start past act

module _ (start : Start) (past : Log) where
  by_op : (j : Job) (n : ℕ) (o : Option Op) (act : Act) → slice_get j.ops n ≡ o → act_of_op start past o ≡ Some act → DoesOp start past j n act
  by_op j n None act at e = absurd (none-some act e)
  by_op j n (Some (asks.Read page)) act at e = subst (DoesOp start past j n) (same_Some (does.Read page (content start past page)) act e)
      (record { op = asks.Read page; at = at; does_it = refl; says = refl })
  by_op j n (Some (asks.Write page bytes)) act at e = subst (DoesOp start past j n) (same_Some (does.Write page bytes) act e)
      (record { op = asks.Write page bytes; at = at; does_it = (refl, refl); says = tt })
  by_op j n (Some (asks.Trim page)) act at e = subst (DoesOp start past j n) (same_Some (does.Trim page) act e)
      (record { op = asks.Trim page; at = at; does_it = refl; says = tt })

  -- a job's next act is that of its next operation
  pub does_next : (j : Job) (act : Act) → j.collects ≡ false → act_for start past j ≡ Some act → DoesOp start past j (work j.number past) act
  does_next j act kind e = by_op j (work j.number past) (slice_get j.ops (work j.number past)) act refl
      (sym (ap (λ (b : Bool). cond b (collect_act start.plan (cells start past) (buffer_after (last_or None (acts j.number past))) (block_for start past j))
      (act_of_op start past (slice_get j.ops (work j.number past)))) kind) ∙ e)

-- Collections change no page

module _ (n : ℕ) (pages : List PageData) where
  abbrev Leaves : Option Act → Type 0
  Leaves o = (act : Act) → o ≡ Some act → contents_after (Some (n, act)) pages ≡ pages

  leaves_one : (a : Act) → contents_after (Some (n, a)) pages ≡ pages → Leaves (Some a)
  leaves_one a h act e = subst (λ (x : Act). contents_after (Some (n, x)) pages ≡ pages) (same_Some a act e) h

  leaves_read : (b : ℕ) (ps : List ℕ) → contents_after (Some (n, read_or_erase b ps)) pages ≡ pages
  leaves_read b [] = refl
  leaves_read b (p ∷ ps) = refl

  leaves_if : (b : Bool) (x y : Act) → contents_after (Some (n, x)) pages ≡ pages → contents_after (Some (n, y)) pages ≡ pages
      → Leaves (cond b (Some x) (Some y))
  leaves_if true x y h k = leaves_one x h
  leaves_if false x y h k = leaves_one y k

  pub collection_leaves : (plan : DiePlan) (c : Cells) (buffer o : Option ℕ) → Leaves (collect_act plan c buffer o)
  collection_leaves plan c buffer None act e = absurd (none-some act e)
  collection_leaves plan c buffer (Some b) act e = leaves_if (is_placed_in c b buffer) _ _ refl (leaves_read b _) act e

-- What an operation leaves

abbrev pub page_in : List PageData → ℕ → PageData
page_in pages page = get_or pages page blank_page

set_leaves : (pages : List PageData) (page p : ℕ) (bytes : PageData) → p < length pages
    → page_in (set pages p bytes) page ≡ cond (p == page) bytes (page_in pages page)
set_leaves pages page p bytes lt = elim (cases_eq p page) [
  | inl same ↦
      ap (λ k. page_in (set pages p bytes) k) (sym same)
      ∙ (get_or-set_same pages p bytes blank_page lt
      ∙ sym (ap (λ b. cond b bytes (page_in pages page)) (eq-eqb p page same)))
  | inr other ↦
      get_or-set_other pages p page bytes blank_page (λ e. other (sym e))
      ∙ sym (ap (λ b. cond b bytes (page_in pages page)) (ne_eqb p page other))
]

-- after an act of this operation
pub op_leaves : (page n : ℕ) (op : Op) (act : Act) (pages : List PageData) → Does op act → page_of op < length pages
    → page_in (contents_after (Some (n, act)) pages) page ≡ left_by page op (page_in pages page)
op_leaves page n (asks.Read q) (does.Read p bytes) pages d lt = refl
op_leaves page n (asks.Write q bytes) (does.Write p b) pages d lt =
    ap (λ k. page_in (set pages k b) page) d.0
    ∙ (ap (λ x. page_in (set pages q x) page) d.1 ∙ set_leaves pages page q bytes lt)
op_leaves page n (asks.Trim q) (does.Trim p) pages d lt =
    ap (λ k. page_in (set pages k blank_page) page) d ∙ set_leaves pages page q blank_page lt
op_leaves page n (asks.Read q) (does.Write p b) pages d lt = absurd d
op_leaves page n (asks.Read q) (does.Trim p) pages d lt = absurd d
op_leaves page n (asks.Read q) (does.CopyRead p) pages d lt = absurd d
op_leaves page n (asks.Read q) (does.CopyProgram p) pages d lt = absurd d
op_leaves page n (asks.Read q) (does.Erase b) pages d lt = absurd d
op_leaves page n (asks.Write q bytes) (does.Read p b) pages d lt = absurd d
op_leaves page n (asks.Write q bytes) (does.Trim p) pages d lt = absurd d
op_leaves page n (asks.Write q bytes) (does.CopyRead p) pages d lt = absurd d
op_leaves page n (asks.Write q bytes) (does.CopyProgram p) pages d lt = absurd d
op_leaves page n (asks.Write q bytes) (does.Erase b) pages d lt = absurd d
op_leaves page n (asks.Trim q) (does.Read p b) pages d lt = absurd d
op_leaves page n (asks.Trim q) (does.Write p b) pages d lt = absurd d
op_leaves page n (asks.Trim q) (does.CopyRead p) pages d lt = absurd d
op_leaves page n (asks.Trim q) (does.CopyProgram p) pages d lt = absurd d
op_leaves page n (asks.Trim q) (does.Erase b) pages d lt = absurd d

-- one that neither writes nor trims the page leaves it
pub changes_nothing : (page : ℕ) (op : Op) (before : PageData) → changes page op ≡ false → left_by page op before ≡ before
changes_nothing page (asks.Read p) before e = refl
changes_nothing page (asks.Write p bytes) before e = ap (λ b. cond b bytes before) e
changes_nothing page (asks.Trim p) before e = ap (λ b. cond b blank_page before) e

-- Logs

module _ (start : Start) (opens : IsOpening start) where
  -- an act is the newest, or one that stood before
  pub act_cases : (past : Log) (caller : ℕ) → IsExact start past → (j : Job) → Contains (jobs past) j → (n : ℕ) (act : Act)
      → slice_get (acts j.number (slot_entry start past caller ∷ past)) n ≡ Some act
      → (slice_get (acts j.number past) n ≡ Some act) ⊎ (Carries start past j act × (n ≡ work j.number past))
  act_cases past caller exact j stands n act e = by_case (act_of j.number (next_ran start past)) refl
    where
      by_case : (o : Option Act) → act_of j.number (next_ran start past) ≡ o
          → (slice_get (acts j.number past) n ≡ Some act) ⊎ (Carries start past j act × (n ≡ work j.number past))
      by_case None is = inl (sym (ap (λ (l : List Act). slice_get l n) (slot_stays start past caller j.number is)) ∙ e)
      by_case (Some a) is =
          let longer : slice_get (acts j.number past ++ a ∷ []) n ≡ Some act =
          sym (ap (λ (l : List Act). slice_get l n) (slot_grows start past caller j.number a is)) ∙ e in
          elim (cases_eq n (work j.number past)) [
            | inl newest ↦
                let same : a ≡ act = same_Some a act (sym (at_end (acts j.number past) a)
                ∙ (sym (ap (slice_get (acts j.number past ++ a ∷ [])) newest) ∙ longer)) in
                inr (subst (λ (x : Act). Carries start past j x) same (carries start past (numbered_of start opens 0 past exact) j stands a is), newest)
            | inr other ↦ inl (sym (elsewhere (acts j.number past) a n other) ∙ longer)
          ]

  abbrev DoesAsAsked : Log → Type 0
  DoesAsAsked log = (j : Job) → Contains (jobs log) j → j.collects ≡ false → (n : ℕ) (act : Act) → slice_get (acts j.number log) n ≡ Some act
      → (op : Op) × (slice_get j.ops n ≡ Some op) × Does op act

  taken : (past : Log) (new : Job) → IsExact start past → new.number ≡ length (jobs past) → DoesAsAsked past
      → (j : Job) → Contains (jobs past ++ new ∷ []) j → j.collects ≡ false → (n : ℕ) (act : Act) → slice_get (acts j.number past) n ≡ Some act
      → (op : Op) × (slice_get j.ops n ≡ Some op) × Does op act
  taken past new exact number h j js kind n act e = elim (Contains-push_cases (jobs past) new j js) [
    | inl before ↦ h j before kind n act e
    | inr same ↦
        let none : acts j.number past ≡ [] = ap (λ (i : Job). acts i.number past) (sym same)
        ∙ (ap (λ (k : ℕ). acts k past) number ∙ no_acts start past exact) in
        absurd (none-some act (sym (ap (λ (l : List Act). slice_get l n) none) ∙ e))
  ]

  pub as_asked : (log : Log) → IsExact start log → DoesAsAsked log
  as_asked = exact_induction start DoesAsAsked (λ j stands. absurd (omega (arith, stands.1))) step
    where
      step : (past : Log) (caller : ℕ) (event : Event) → IsExact start past → DoesAsAsked past
          → AllByRecursion (λ c. c.0 ≡ false) (refusals start past event)
          → DoesAsAsked (entry caller event (reply_if_accepted start past event) ∷ past)
      step past caller (events.Submit t release due ops) exact h none = taken past _ exact refl h
      step past caller (events.Collect t release due) exact h none = taken past _ exact refl h
      step past caller events.Slot exact h none = λ j stands kind n act e. elim (act_cases past caller exact j stands n act e) [
        | inl before ↦ h j stands kind n act before
        | inr newest ↦
            let d = does_next start past j act kind newest.0.act_is in
            (d.op, ap (slice_get j.ops) newest.1 ∙ d.at, d.does_it)
      ]

-- each act of a job is that of its operation of the same place
pub operations_in_order : (start : Start) → IsOpening start → (log : Log) → IsExact start log → (task : ℕ) (j : Job)
    → Contains (task_jobs task log) j → (n : ℕ) (act : Act) → slice_get (acts j.number log) n ≡ Some act
    → (op : Op) × (slice_get j.ops n ≡ Some op) × Does op act
operations_in_order start opens log exact task j stands =
    let own = in_filter (is_job_of task) (jobs log) j stands in
    as_asked start opens log exact j own.0 (job_kind start opens task j own.1)
