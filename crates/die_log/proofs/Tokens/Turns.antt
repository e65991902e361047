-- Each act keeps the accounts true.
use Rattle.std.proofs.Common.{◌≡◌, ℕ, ◌+◌, ◌<◌, ◌≤◌, ◌==◌, ◌&&◌, not, Bool, true, false, cond, List, [], ◌∷◌, ◌++◌, length, sum_by}
use Rattle.std.proofs.Common.{count_by, Option, Some, refl, ap, sym, ◌∙◌, ◌⊎◌, inl, inr, arith, slice_get, set}
use Rattle.std.proofs.lemmas.Bool.{not-true}
use Rattle.std.proofs.lemmas.List.Sums.{sum_by_push}
use Rattle.slot_types.specs.declared.plans.DiePlan.{DiePlan}
use Rattle.slot_types.specs.declared.pages.PageData.{PageData}
use Rattle.slot_types.specs.declared.acts.Act.{Act}
use Rattle.slot_types.specs.declared.acts.Act.TheVariants as does
use Rattle.slot_types.specs.declared.events.Op.{Op}
use Rattle.slot_types.specs.declared.events.Op.TheVariants as asks
use Rattle.slot_types.specs.declared.replies.Waived.{Waived}
use Rattle.die_log.specs.Model.Log.{Log, Job, jobs, acts, is_waived, work}
use Rattle.die_log.specs.Model.Flash.{cells, free, free_in, block_at, block_after_erase_slot}
use Rattle.slot_types.specs.Operations.{is_write}
use Rattle.die_log.specs.Model.Work.{are_all, is_erase, is_copy_program, owed_writes}
use Rattle.plan_rules.specs.Accounts.{Accounts, accounts_after_collection}
use Rattle.die_log.specs.Model.Accounts.{accounts, after_waivers}
use Rattle.die_log.specs.Results.Legal.{is_among, Does, FindsFree}
use Rattle.die_log.specs.Invariants.TrueAccounts.{AccountsAgree, reserve_full}
use Rattle.die_log.specs.Invariants.TrueAccounts.{at_task, left_of, held_of, copied_of, lent_of, lent_to, AreTrueAccounts}
use Rattle.die_log.proofs.Tokens.Amounts.{one_le_sum}
use Rattle.die_log.proofs.Tokens.Sums.{one_if, some_if, lent_alone}
use Rattle.die_log.proofs.Tokens.Moves.{agree_same, agree_written, agree_copied, agree_settled}
use Rattle.die_log.proofs.Tokens.Doing.{IsJobAct, IsCollectionAct}
use Rattle.die_log.proofs.Cells.FreePages.{program_free, erase_free}
use Rattle.die_log.proofs.Tokens.Taking.{at_none}
use Rattle.die_log.proofs.Tokens.Changes.{held_after, owed_after, left_job, left_collection, lent_more, lent_less}
use Rattle.die_log.proofs.Tokens.Slots.{slot_entry, slot_waives, ran_acts, IsTurn, is_undone, was_pending, before_act, of_job, from_act}
use Rattle.die_log.specs.Model.Start.{Start}
use Rattle.die_log.specs.Model.Opening.{IsOpening}

abbrev pub turn_log : Log → ℕ → ℕ → List Waived → Option ℕ → Job → Act → Log
turn_log past caller slot ws finished j act = slot_entry caller slot ws (Some (j.number, act)) finished ∷ past

-- Free cells

pub owed_fits : (start : Start) (a : Accounts) (held lent : ℕ → ℕ) (owed free : ℕ) → AccountsAgree start.plan a held lent owed free → owed ≤ free
owed_fits start a held lent owed free g = omega (arith, g.owed_is, g.total_is)

pub lent_fits : (start : Start) (a : Accounts) (held lent : ℕ → ℕ) (owed free task : ℕ) → AccountsAgree start.plan a held lent owed free → task
    < length start.plan.caps → lent task < reserve_full start.plan → 0 < free
lent_fits start a held lent owed free task g h few =
    omega (arith, g.total_is, g.reserves_are task h, few, one_le_sum a.reserves task (omega (arith, g.reserves_len, h)))

-- What an act leaves to a job, and to a collection

-- the turn of a job, in which `d` writes are carried
record LeavesJob (plan : DiePlan) (past : Log) (log : Log) (j : Job) (d : ℕ) : Type 0 where
  held : (t : ℕ) → held_of (λ n. acts n past) (jobs past) t ≡ held_of (λ n. acts n log) (jobs past) t + at_task j.task d t
  owed_is : owed_writes past ≡ sum_by (left_of (λ n. acts n log)) (jobs past) + d
  lent : (t : ℕ) → lent_to plan (λ n. acts n past) (is_waived past) (jobs past) t
      ≡ lent_to plan (λ n. acts n log) (is_waived log) (jobs past) t

lent_job : (plan : DiePlan) (own : ℕ → List Act) (gone : ℕ → Bool) (j : Job) → j.collects ≡ false → lent_of plan own gone j ≡ 0
lent_job plan own gone j e = ap (λ c. some_if (c && not (are_all plan j (own j.number)) && not (gone j.number)) (copied_of own j)) e

leaves_job : (start : Start) (past : Log) (caller slot : ℕ) (ws : List Waived) (finished : Option ℕ) (j : Job) (act : Act) (op : Op)
    → IsTurn start past ws j act → j.collects ≡ false
    → slice_get j.ops (work j.number past) ≡ Some op → LeavesJob start.plan past (turn_log past caller slot ws finished j act) j
    (one_if (is_write op))
leaves_job start past caller slot ws finished j act op h is e =
    let log : Log = turn_log past caller slot ws finished j act in
    let own : ℕ → List Act = λ n. acts n past in
    let own' : ℕ → List Act = λ n. acts n log in
    let w = slot_waives start caller slot ws (Some (j.number, act)) finished past h.serve.numbered h.waivers in
    let a = ran_acts caller slot ws finished past j.number act in
    let less : left_of own j ≡ left_of own' j + one_if (is_write op) = left_job own own' j act op a e in
    record {
      held = held_after own own' (jobs past) j act (one_if (is_write op)) h.serve.numbered h.waits.known a less;
      owed_is = owed_after own own' (jobs past) j act (one_if (is_write op)) h.serve.numbered h.waits.known a less;
      lent = λ t. omega (
        arith,
        at_none j.task t,
        lent_less start.plan own own' (is_waived past) (is_waived log) (λ n. is_among n ws) (jobs past) j act 0 h.serve.numbered h.waits.known w a
            (omega (arith, lent_job start.plan own (is_waived past) j is, lent_job start.plan own' (is_waived log) j is)) t,
      );
    }

-- the turn of a collection: nothing is written for a job, and it is still pending or not
record LeavesCollection (plan : DiePlan) (past : Log) (log : Log) (j : Job) (act : Act) (is_over : Bool) : Type 0 where
  held : (t : ℕ) → held_of (λ n. acts n past) (jobs past) t ≡ held_of (λ n. acts n log) (jobs past) t
  owed_is : owed_writes past ≡ sum_by (left_of (λ n. acts n log)) (jobs past)
  before : lent_of plan (λ n. acts n past) (is_waived past) j ≡ count_by is_copy_program (acts j.number past)
  after : lent_of plan (λ n. acts n log) (is_waived log) j
      ≡ some_if (not is_over) (count_by is_copy_program (acts j.number past) + one_if (is_copy_program act))

all_erased : (plan : DiePlan) (j : Job) (own : List Act) → j.collects ≡ true → are_all plan j own
    ≡ (count_by is_erase own == plan.shape.erase_slots)
all_erased plan j own is = ap (λ (c : Bool). cond c (count_by is_erase own == plan.shape.erase_slots) (length own == length j.ops)) is

lent_now : (plan : DiePlan) (own : List Act) (gone is_over : Bool) (j : Job) → j.collects ≡ true → gone ≡ false → are_all plan j own
    ≡ is_over
    → some_if (j.collects && not (are_all plan j own) && not gone) (count_by is_copy_program own)
    ≡ some_if (not is_over) (count_by is_copy_program own)
lent_now plan own gone is_over j is e all =
    ap (λ (c : Bool). some_if (c && not (are_all plan j own) && not gone) (count_by is_copy_program own)) is
    ∙ (ap (λ (g : Bool). some_if (not (are_all plan j own) && not g) (count_by is_copy_program own)) e
    ∙ (ap (λ (b : Bool). some_if (not b && true) (count_by is_copy_program own)) all ∙ and_true is_over (count_by is_copy_program own)))
  where
    and_true : (b : Bool) (n : ℕ) → some_if (not b && true) n ≡ some_if (not b) n
    and_true true n = refl
    and_true false n = refl

leaves_collection : (start : Start) (past : Log) (caller slot : ℕ) (ws : List Waived) (finished : Option ℕ) (j : Job) (act : Act)
    (is_over : Bool) → IsTurn start past ws j act → j.collects ≡ true
    → are_all start.plan j (acts j.number past ++ act ∷ []) ≡ is_over
    → LeavesCollection start.plan past (turn_log past caller slot ws finished j act) j act is_over
leaves_collection start past caller slot ws finished j act is_over h is all =
    let log : Log = turn_log past caller slot ws finished j act in
    let own : ℕ → List Act = λ n. acts n past in
    let own' : ℕ → List Act = λ n. acts n log in
    let a = ran_acts caller slot ws finished past j.number act in
    let less : left_of own j ≡ left_of own' j + 0 = left_collection own own' j ((of_job start past ws j act h).none is) in
    let copies : count_by is_copy_program (own' j.number) ≡ count_by is_copy_program (own j.number) + one_if (is_copy_program act) =
    ap (λ (l : List Act). count_by is_copy_program l) a.more ∙ sum_by_push (λ x. one_if (is_copy_program x)) (own j.number) act in
    record {
      held = λ t. omega (arith, at_none j.task t, held_after own own' (jobs past) j act 0 h.serve.numbered h.waits.known a less t);
      owed_is = omega (arith, owed_after own own' (jobs past) j act 0 h.serve.numbered h.waits.known a less);
      before = ap (λ b. some_if b (copied_of own j)) (was_pending start past ws j act h is);
      after = lent_now start.plan (own' j.number) (is_waived log j.number) is_over j is h.waits.new
          (ap (λ (l : List Act). are_all start.plan j l) a.more ∙ all) ∙ ap (λ n. some_if (not is_over) n) copies;
    }

erases_more : (own : List Act) (act : Act) → count_by is_erase (own ++ act ∷ []) ≡ count_by is_erase own + one_if (is_erase act)
erases_more own act = sum_by_push (λ x. one_if (is_erase x)) own act

-- a copy closes no collection
pub stays_pending : (start : Start) (past : Log) (ws : List Waived) (j : Job) (act : Act) → IsTurn start past ws j act → j.collects ≡ true
    → is_erase act ≡ false → are_all start.plan j (acts j.number past ++ act ∷ []) ≡ false
stays_pending start past ws j act h is copy =
    let own : List Act = acts j.number past in
    let same : count_by is_erase (own ++ act ∷ []) ≡ count_by is_erase own = omega (arith, erases_more own act, ap one_if copy) in
    all_erased start.plan j (own ++ act ∷ []) is ∙ (ap (λ n. n == start.plan.shape.erase_slots) same
    ∙ (sym (all_erased start.plan j own is) ∙ not-true (are_all start.plan j own) (is_undone start past ws j act h)))

-- Acts

pub turn_read : (start : Start) (past : Log) (caller slot : ℕ) (ws : List Waived) (finished : Option ℕ) (j : Job) (page : ℕ)
    (bytes : PageData) → IsTurn start past ws j (does.Read page bytes) → IsJobAct past j (does.Read page bytes)
    → AreTrueAccounts start (turn_log past caller slot ws finished j (does.Read page bytes))
turn_read start past caller slot ws finished j page bytes h k = by_op k.op k.next k.done
  where
    by_op : (op : Op) → slice_get j.ops (work j.number past) ≡ Some op → Does op (does.Read page bytes)
        → AreTrueAccounts start (turn_log past caller slot ws finished j (does.Read page bytes))
    by_op (asks.Write p b) e d = absurd d
    by_op (asks.Trim p) e d = absurd d
    by_op (asks.Read p) e d =
        let l = leaves_job start past caller slot ws finished j (does.Read page bytes) (asks.Read p) h k.job e in
        let log : Log = turn_log past caller slot ws finished j (does.Read page bytes) in
        from_act start past caller slot ws finished j (does.Read page bytes) h (
        agree_same start.plan (after_waivers past ws (accounts start past)) _ _ (held_of (λ n. acts n log) (jobs past))
        (lent_to start.plan (λ n. acts n log) (is_waived log) (jobs past)) (owed_writes past) (free start past) (owed_writes log) (free start log)
        (before_act start past ws j (does.Read page bytes) h) (λ t. omega (arith, l.held t, at_none j.task t)) l.lent
        (omega (arith, l.owed_is)) refl
        )

pub turn_write : (start : Start) (past : Log) (caller slot : ℕ) (ws : List Waived) (finished : Option ℕ) (j : Job) (page : ℕ)
    (bytes : PageData) → IsOpening start → IsTurn start past ws j (does.Write page bytes) → IsJobAct past j (does.Write page bytes)
    → AreTrueAccounts start (turn_log past caller slot ws finished j (does.Write page bytes)) × (0 < free start past)
turn_write start past caller slot ws finished j page bytes bound h k = by_op k.op k.next k.done
  where
    by_op : (op : Op) → slice_get j.ops (work j.number past) ≡ Some op → Does op (does.Write page bytes)
        → AreTrueAccounts start (turn_log past caller slot ws finished j (does.Write page bytes)) × (0 < free start past)
    by_op (asks.Read p) e d = absurd d
    by_op (asks.Trim p) e d = absurd d
    by_op (asks.Write p b) e d =
        let act : Act = does.Write page bytes in
        let l = leaves_job start past caller slot ws finished j act (asks.Write p b) h k.job e in
        let log : Log = turn_log past caller slot ws finished j act in
        let before = before_act start past ws j act h in
        let some : 0 < free start past = omega (arith, l.owed_is, owed_fits start _ _ _ (owed_writes past) (free start past) before) in (
          from_act start past caller slot ws finished j act h (
              agree_same start.plan _ (held_of (λ n. acts n log) (jobs past)) (lent_to start.plan (λ n. acts n past) (is_waived past) (jobs past))
              (held_of (λ n. acts n log) (jobs past)) (lent_to start.plan (λ n. acts n log) (is_waived log) (jobs past)) (owed_writes log)
              (free start log) (owed_writes log) (free start log)
              (agree_written start.plan (after_waivers past ws (accounts start past)) (held_of (λ n. acts n past) (jobs past))
              (lent_to start.plan (λ n. acts n past) (is_waived past) (jobs past)) (held_of (λ n. acts n log) (jobs past)) (owed_writes past)
              (free start past) j.task (owed_writes log) (free start log)
              before (of_job start past ws j act h).task l.held l.owed_is
              (sym (program_free start.plan page (cells start past) (omega (arith, bound.bound.shape.some_pages)) h.serve.sound some)))
              (λ t. refl) l.lent refl refl
              ),
          some,
        )

pub turn_trim : (start : Start) (past : Log) (caller slot : ℕ) (ws : List Waived) (finished : Option ℕ) (j : Job) (page : ℕ)
    → IsTurn start past ws j (does.Trim page) → IsJobAct past j (does.Trim page)
    → AreTrueAccounts start (turn_log past caller slot ws finished j (does.Trim page))
turn_trim start past caller slot ws finished j page h k = by_op k.op k.next k.done
  where
    by_op : (op : Op) → slice_get j.ops (work j.number past) ≡ Some op → Does op (does.Trim page)
        → AreTrueAccounts start (turn_log past caller slot ws finished j (does.Trim page))
    by_op (asks.Read p) e d = absurd d
    by_op (asks.Write p b) e d = absurd d
    by_op (asks.Trim p) e d =
        let l = leaves_job start past caller slot ws finished j (does.Trim page) (asks.Trim p) h k.job e in
        let log : Log = turn_log past caller slot ws finished j (does.Trim page) in
        from_act start past caller slot ws finished j (does.Trim page) h (
        agree_same start.plan (after_waivers past ws (accounts start past)) _ _ (held_of (λ n. acts n log) (jobs past))
        (lent_to start.plan (λ n. acts n log) (is_waived log) (jobs past)) (owed_writes past) (free start past) (owed_writes log) (free start log)
        (before_act start past ws j (does.Trim page) h) (λ t. omega (arith, l.held t, at_none j.task t)) l.lent (omega (arith, l.owed_is))
        refl
        )

pub turn_copy_read : (start : Start) (past : Log) (caller slot : ℕ) (ws : List Waived) (finished : Option ℕ) (j : Job) (page : ℕ)
    → IsTurn start past ws j (does.CopyRead page) → j.collects ≡ true
    → AreTrueAccounts start (turn_log past caller slot ws finished j (does.CopyRead page))
turn_copy_read start past caller slot ws finished j page h is =
    let act : Act = does.CopyRead page in
    let log : Log = turn_log past caller slot ws finished j act in
    let own : ℕ → List Act = λ n. acts n past in
    let own' : ℕ → List Act = λ n. acts n log in
    let l = leaves_collection start past caller slot ws finished j act false h is (stays_pending start past ws j act h is refl) in
    let w = slot_waives start caller slot ws (Some (j.number, act)) finished past h.serve.numbered h.waivers in
    let a = ran_acts caller slot ws finished past j.number act in
    from_act start past caller slot ws finished j act h (
    agree_same start.plan (after_waivers past ws (accounts start past)) _ _ (held_of own' (jobs past))
    (lent_to start.plan own' (is_waived log) (jobs past)) (owed_writes past) (free start past) (owed_writes log) (free start log)
    (before_act start past ws j act h) l.held
    (λ t. omega (
      arith,
      at_none j.task t,
      lent_more start.plan own own' (is_waived past) (is_waived log) (λ n. is_among n ws) (jobs past) j act 0
          h.serve.numbered h.waits.known w a (omega (arith, l.before, l.after)) t,
    ))
    l.owed_is refl
    )

pub turn_copy : (start : Start) (past : Log) (caller slot : ℕ) (ws : List Waived) (finished : Option ℕ) (j : Job) (page : ℕ)
    → IsOpening start → IsTurn start past ws j (does.CopyProgram page) → j.collects ≡ true
    → AreTrueAccounts start (turn_log past caller slot ws finished j (does.CopyProgram page)) × (0 < free start past)
turn_copy start past caller slot ws finished j page bound h is =
    let act : Act = does.CopyProgram page in
    let log : Log = turn_log past caller slot ws finished j act in
    let own : ℕ → List Act = λ n. acts n past in
    let own' : ℕ → List Act = λ n. acts n log in
    let l = leaves_collection start past caller slot ws finished j act false h is (stays_pending start past ws j act h is refl) in
    let w = slot_waives start caller slot ws (Some (j.number, act)) finished past h.serve.numbered h.waivers in
    let a = ran_acts caller slot ws finished past j.number act in
    let before = before_act start past ws j act h in
    let within : j.task < length start.plan.caps = (of_job start past ws j act h).task in
    let alone : lent_to start.plan own (is_waived past) (jobs past) j.task
    ≡ copied_of own j = lent_alone start.plan own (is_waived past) (jobs past) j.number j (h.true_before.one_each j.task) h.waits.known
    (was_pending start past ws j act h is) in
    let few : lent_to start.plan own (is_waived past) (jobs past) j.task
    < reserve_full start.plan = omega (arith, alone, h.serve.few_copies j page h.waits.known h.waits.ready h.does_it) in
    let some : 0 < free start past = lent_fits start _ _ _ (owed_writes past) (free start past) j.task before within few in (
      from_act start past caller slot ws finished j act h (
          agree_same start.plan _ (held_of own (jobs past)) (lent_to start.plan own' (is_waived log) (jobs past)) (held_of own' (jobs past))
          (lent_to start.plan own' (is_waived log) (jobs past)) (owed_writes past) (free start log) (owed_writes log) (free start log)
          (agree_copied start.plan (after_waivers past ws (accounts start past)) (held_of own (jobs past))
          (lent_to start.plan own (is_waived past) (jobs past)) (lent_to start.plan own' (is_waived log) (jobs past)) (owed_writes past) (free start past)
          j.task (free start log)
          before within few
          (lent_more start.plan own own' (is_waived past) (is_waived log) (λ n. is_among n ws) (jobs past) j act 1 h.serve.numbered h.waits.known
          w a (omega (arith, l.before, l.after)))
          (sym (program_free start.plan page (cells start past) (omega (arith, bound.bound.shape.some_pages)) h.serve.sound some)))
          l.held (λ t. refl) l.owed_is refl
          ),
      some,
    )

-- the last slot of its erase comes with the closing act
erase_closes : (start : Start) (past : Log) (ws : List Waived) (j : Job) (b : ℕ) (is_over : Bool) → 0 < start.plan.shape.pages
    → IsTurn start past ws j (does.Erase b) → j.collects ≡ true → are_all start.plan j (acts j.number past ++ does.Erase b ∷ []) ≡ is_over
    → sum_by (free_in start.plan) (set (cells start past).blocks b (block_after_erase_slot start.plan (block_at (cells start past) b)))
    ≡ free start past + some_if is_over start.plan.shape.pages
erase_closes start past ws j b is_over pages h is all =
    let own : List Act = acts j.number past in
    let more : count_by is_erase (own ++ does.Erase b ∷ []) ≡ count_by is_erase own + 1 = erases_more own (does.Erase b) in
    let last : (count_by is_erase own + 1 == start.plan.shape.erase_slots) ≡ is_over = ap (λ n. n == start.plan.shape.erase_slots) (sym more)
    ∙ (sym (all_erased start.plan j (own ++ does.Erase b ∷ []) is) ∙ all) in
    let e = h.serve.erases j b h.waits.known h.waits.ready h.does_it in
    omega (
      arith,
      erase_free start.plan j.number b (cells start past) pages e.0,
      ap (λ m. some_if (m + 1 == start.plan.shape.erase_slots) start.plan.shape.pages) e.1,
      ap (λ c. some_if c start.plan.shape.pages) last,
    )

abbrev after_erase : DiePlan → Job → List Act → Accounts → Bool → Accounts
after_erase plan j own a is_over = cond is_over (accounts_after_collection a j.task (count_by is_copy_program own)) a

erase_by : (start : Start) (past : Log) (caller slot : ℕ) (ws : List Waived) (finished : Option ℕ) (j : Job) (b : ℕ) (is_over : Bool)
    → IsOpening start → IsTurn start past ws j (does.Erase b) → j.collects ≡ true
    → are_all start.plan j (acts j.number past ++ does.Erase b ∷ []) ≡ is_over
    → (let log : Log = turn_log past caller slot ws finished j (does.Erase b) in
    AccountsAgree start.plan (after_erase start.plan j (acts j.number past) (after_waivers past ws (accounts start past)) is_over)
    (held_of (λ n. acts n log) (jobs past)) (lent_to start.plan (λ n. acts n log) (is_waived log) (jobs past)) (owed_writes log) (free start log))
erase_by start past caller slot ws finished j b true bound h is all =
    let act : Act = does.Erase b in
    let log : Log = turn_log past caller slot ws finished j act in
    let own : ℕ → List Act = λ n. acts n past in
    let own' : ℕ → List Act = λ n. acts n log in
    let l = leaves_collection start past caller slot ws finished j act true h is all in
    let w = slot_waives start caller slot ws (Some (j.number, act)) finished past h.serve.numbered h.waivers in
    let a = ran_acts caller slot ws finished past j.number act in
    agree_same start.plan _ (held_of own (jobs past)) (lent_to start.plan own' (is_waived log) (jobs past)) (held_of own' (jobs past))
    (lent_to start.plan own' (is_waived log) (jobs past)) (owed_writes past) (free start log) (owed_writes log) (free start log)
    (agree_settled start.plan (after_waivers past ws (accounts start past)) (held_of own (jobs past))
    (lent_to start.plan own (is_waived past) (jobs past)) (lent_to start.plan own' (is_waived log) (jobs past)) (owed_writes past) (free start past) j.task
    (copied_of own j) (free start log)
    (before_act start past ws j act h) bound.bound.limits.alpha_fits (of_job start past ws j act h).task
    (lent_less start.plan own own' (is_waived past) (is_waived log) (λ n. is_among n ws) (jobs past) j act (copied_of own j) h.serve.numbered
    h.waits.known w a (omega (arith, l.before, l.after)))
    (erase_closes start past ws j b true (omega (arith, bound.bound.shape.some_pages)) h is all))
    l.held (λ t. refl) l.owed_is refl
erase_by start past caller slot ws finished j b false bound h is all =
    let act : Act = does.Erase b in
    let log : Log = turn_log past caller slot ws finished j act in
    let own : ℕ → List Act = λ n. acts n past in
    let own' : ℕ → List Act = λ n. acts n log in
    let l = leaves_collection start past caller slot ws finished j act false h is all in
    let w = slot_waives start caller slot ws (Some (j.number, act)) finished past h.serve.numbered h.waivers in
    let a = ran_acts caller slot ws finished past j.number act in
    agree_same start.plan (after_waivers past ws (accounts start past)) _ _ (held_of own' (jobs past))
    (lent_to start.plan own' (is_waived log) (jobs past)) (owed_writes past) (free start past) (owed_writes log) (free start log)
    (before_act start past ws j act h) l.held
    (λ t. omega (
      arith,
      at_none j.task t,
      lent_more start.plan own own' (is_waived past) (is_waived log) (λ n. is_among n ws) (jobs past) j act 0
          h.serve.numbered h.waits.known w a (omega (arith, l.before, l.after)) t,
    ))
    l.owed_is (omega (arith, erase_closes start past ws j b false (omega (arith, bound.bound.shape.some_pages)) h is all))

pub turn_erase : (start : Start) (past : Log) (caller slot : ℕ) (ws : List Waived) (finished : Option ℕ) (j : Job) (b : ℕ)
    → IsOpening start → IsTurn start past ws j (does.Erase b) → j.collects ≡ true
    → AreTrueAccounts start (turn_log past caller slot ws finished j (does.Erase b))
turn_erase start past caller slot ws finished j b bound h is =
    let log : Log = turn_log past caller slot ws finished j (does.Erase b) in
    from_act start past caller slot ws finished j (does.Erase b) h (
    erase_by start past caller slot ws finished j b (are_all start.plan j (acts j.number past ++ does.Erase b ∷ [])) bound h is refl
    )

-- no job does an act of a collection
no_job_copy_read : (op : Op) (page : ℕ) → Does op (does.CopyRead page) → ⊥
no_job_copy_read (asks.Read p) page d = d
no_job_copy_read (asks.Write p b) page d = d
no_job_copy_read (asks.Trim p) page d = d

pub no_job_copy : (op : Op) (page : ℕ) → Does op (does.CopyProgram page) → ⊥
no_job_copy (asks.Read p) page d = d
no_job_copy (asks.Write p b) page d = d
no_job_copy (asks.Trim p) page d = d

no_job_erase : (op : Op) (block : ℕ) → Does op (does.Erase block) → ⊥
no_job_erase (asks.Read p) block d = d
no_job_erase (asks.Write p b) block d = d
no_job_erase (asks.Trim p) block d = d

-- a slot in which the head does an act keeps the accounts true, and finds a free cell where it programs
pub keeps_act : (start : Start) (past : Log) (caller slot : ℕ) (ws : List Waived) (finished : Option ℕ) (j : Job) (act : Act)
    → IsOpening start → IsTurn start past ws j act → IsJobAct past j act ⊎ IsCollectionAct j act
    → AreTrueAccounts start (turn_log past caller slot ws finished j act) × FindsFree start past act
keeps_act start past caller slot ws finished j (does.Read page bytes) bound h (inl k) =
    (turn_read start past caller slot ws finished j page bytes h k, tt)
keeps_act start past caller slot ws finished j (does.Read page bytes) bound h (inr k) = absurd k.kind
keeps_act start past caller slot ws finished j (does.Write page bytes) bound h (inl k) = turn_write start past caller slot ws finished j page
    bytes bound h k
keeps_act start past caller slot ws finished j (does.Write page bytes) bound h (inr k) = absurd k.kind
keeps_act start past caller slot ws finished j (does.Trim page) bound h (inl k) =
    (turn_trim start past caller slot ws finished j page h k, tt)
keeps_act start past caller slot ws finished j (does.Trim page) bound h (inr k) = absurd k.kind
keeps_act start past caller slot ws finished j (does.CopyRead page) bound h (inl k) = absurd (no_job_copy_read k.op page k.done)
keeps_act start past caller slot ws finished j (does.CopyRead page) bound h (inr k) =
    (turn_copy_read start past caller slot ws finished j page h k.collection, tt)
keeps_act start past caller slot ws finished j (does.CopyProgram page) bound h (inl k) = absurd (no_job_copy k.op page k.done)
keeps_act start past caller slot ws finished j (does.CopyProgram page) bound h (inr k) = turn_copy start past caller slot ws finished j page
    bound h k.collection
keeps_act start past caller slot ws finished j (does.Erase b) bound h (inl k) = absurd (no_job_erase k.op b k.done)
keeps_act start past caller slot ws finished j (does.Erase b) bound h (inr k) =
    (turn_erase start past caller slot ws finished j b bound h k.collection, tt)
