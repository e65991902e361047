-- What stands after an entry that carried nothing, and of the others after one that carried an act.
use Rattle.std.proofs.Common.{◌≡◌, ◌≢◌, ◌⊎◌, ℕ, ◌<◌, ◌&&◌, ◌||◌, not, nat_lt, Bool, true, false, List, ◌∷◌, Some, None, refl, ap, sym, ◌∙◌}
use Rattle.std.proofs.Common.{subst, inl, inr, length}
use Rattle.std.specs.Prelude.{Contains}
use Rattle.std.proofs.lemmas.Bool.{cases_eq, and_parts, ne_eqb, not-true, ltb-true}
use Rattle.slot_types.specs.declared.plans.DiePlan.{DiePlan}
use Rattle.slot_types.specs.declared.acts.Act.{Act}
use Rattle.slot_types.specs.declared.acts.Act.TheVariants as does
use Rattle.slot_types.specs.declared.replies.Entry.{Entry}
use Rattle.die_log.specs.Model.Log.{Log, Job, Carried, jobs, act_of, acts}
use Rattle.die_log.specs.Model.Flash.{ran_by, Cells, cells, cells_after, Block, block_at}
use Rattle.die_log.specs.Model.Work.{are_all}
use Rattle.die_log.specs.Model.Answers.{is_running}
use Rattle.die_log.specs.Results.Legal.{changed_since, changed_by, is_change_of}
use Rattle.die_log.specs.Invariants.SoundCells.{AreSoundCells, IsCollecting, IsCellStep, IsProgram}
use Rattle.die_log.specs.Invariants.RunningCollections.{RunsOnBlock, KeepsCollections}
use Rattle.die_log.proofs.Cells.Acts.{trimmed_block}
use Rattle.die_log.proofs.Cells.Collections.{keeps_collecting, other_step}
use Rattle.die_log.proofs.LogInvariants.OneMoreEntry.{acts_stay, victim_stays, act_other}
use Rattle.die_log.specs.Model.Start.{Start}

-- begun and not done, by the acts
abbrev pub runs_with : DiePlan → Job → List Act → Bool
runs_with plan j own = j.collects && nat_lt 0 (length own) && not (are_all plan j own)

pub record RunsWith (plan : DiePlan) (j : Job) (own : List Act) : Type 0 where
  pub collects : j.collects ≡ true
  pub begun : 0 < length own
  pub undone : are_all plan j own ≡ false

pub runs_says : (plan : DiePlan) (j : Job) (own : List Act) → runs_with plan j own ≡ true → RunsWith plan j own
runs_says plan j own h =
    let k = and_parts (j.collects && nat_lt 0 (length own)) (not (are_all plan j own)) h in
    let l = and_parts j.collects (nat_lt 0 (length own)) k.0 in
    record { collects = l.0; begun = ltb-true 0 (length own) l.1; undone = not-true (are_all plan j own) k.1 }

pub running_stays : (plan : DiePlan) (e : Entry) (past : Log) (j : Job) → act_of j.number (ran_by e.reply) ≡ None
    → is_running plan (e ∷ past) j ≡ is_running plan past j
running_stays plan e past j h = ap (runs_with plan j) (acts_stay j.number e past h)

-- who had no act runs as before
pub runs_later : (start : Start) (e : Entry) (past : Log) (j : Job) (b : ℕ) → act_of j.number (ran_by e.reply) ≡ None
    → Contains (jobs (e ∷ past)) j → RunsOnBlock start past j b → RunsOnBlock start (e ∷ past) j b
runs_later start e past j b h in_jobs r = record {
  stands = in_jobs;
  running = running_stays start.plan e past j h ∙ r.running;
  victim = victim_stays start j.number e past h ∙ r.victim;
}

pub runs_before : (start : Start) (e : Entry) (past : Log) (j : Job) (b : ℕ) → act_of j.number (ran_by e.reply) ≡ None
    → Contains (jobs past) j → RunsOnBlock start (e ∷ past) j b → RunsOnBlock start past j b
runs_before start e past j b h in_jobs r = record {
  stands = in_jobs;
  running = sym (running_stays start.plan e past j h) ∙ r.running;
  victim = sym (victim_stays start j.number e past h) ∙ r.victim;
}

pub collecting_as : (plan : DiePlan) (c : Cells) (own after : List Act) (fresh newer : ℕ → Bool) (b : ℕ) → after ≡ own
    → ((p : ℕ) → newer p ≡ true → fresh p ≡ true) → IsCollecting plan c own fresh b → IsCollecting plan c after newer b
collecting_as plan c own after fresh newer b e weaker k =
    subst (λ (xs : List Act). IsCollecting plan c xs newer b) (sym e)
    (keeps_collecting plan c c own fresh newer b k refl (λ p x. (x, weaker p)))

written_none : (n p : ℕ) (r : Carried) (before : Bool) → r ≡ None → changed_by r n p before ≡ before
written_none n p r before e = ap (λ (c : Carried). changed_by c n p before) e

no_act : (n : ℕ) (r : Carried) → r ≡ None → act_of n r ≡ None
no_act n r e = ap (act_of n) e

-- an entry that carried nothing, after which nobody runs that didn't before
pub quiet : (start : Start) (e : Entry) (past : Log) → ran_by e.reply ≡ None
    → ((j : Job) → Contains (jobs past) j → Contains (jobs (e ∷ past)) j)
    → ((j : Job) → Contains (jobs (e ∷ past)) j → is_running start.plan (e ∷ past) j ≡ true → Contains (jobs past) j)
    → KeepsCollections start past → KeepsCollections start (e ∷ past)
quiet start e past none later before k = record {
  sound = subst (AreSoundCells start.plan) (sym same) k.sound;
  shown = λ j h r. let old = k.shown j (before j h r) (sym (running_stays start.plan e past j (no_act j.number _ none)) ∙ r) in
      (old.0, runs_later start e past j old.0 (no_act j.number _ none) h old.1);
  collecting = λ j b r.
      subst (λ (c : Cells). IsCollecting start.plan c (acts j.number (e ∷ past)) (λ p. changed_since j.number p (e ∷ past)) b) (sym same)
      (collecting_as start.plan (cells start past) (acts j.number past) (acts j.number (e ∷ past)) (λ p. changed_since j.number p past)
      (λ p. changed_since j.number p (e ∷ past)) b
      (acts_stay j.number e past (no_act j.number _ none)) (λ p w. sym (written_none j.number p _ (changed_since j.number p past) none) ∙ w)
      (k.collecting j b (back j b r)));
  different = λ i j b r s. k.different i j b (back i b r) (back j b s);
  owned = λ b h.
      let old = k.owned b (subst (λ (c : Cells). 0 < (block_at c b).erasing) same h) in
      (old.0, runs_later start e past old.0 b (no_act old.0.number _ none) (later old.0 old.1.stands) old.1);
}
  where
    same : cells start (e ∷ past) ≡ cells start past
    same = ap (λ (r : Carried). cells_after start.plan r (cells start past)) none

    back : (j : Job) (b : ℕ) → RunsOnBlock start (e ∷ past) j b → RunsOnBlock start past j b
    back j b r = runs_before start e past j b (no_act j.number _ none) (before j r.stands r.running) r

-- Others, after an act

written_other : (n m p : ℕ) (act : Act) (before : Bool) → n ≢ m → changed_by (Some (n, act)) m p before ≡ (is_change_of p act || before)
written_other n m p act before other = rw (ne_eqb n m other) refl

-- another's act keeps who collects another block
pub others_collect : (start : Start) (e : Entry) (past : Log) (n : ℕ) (act : Act) (d : Cells) (j : Job) (b : ℕ) → ran_by e.reply
    ≡ Some (n, act) → n ≢ j.number → (act ≡ does.Erase b → ⊥)
    → IsCellStep start.plan act (cells start past) d → IsCollecting start.plan (cells start past) (acts j.number past) (λ p. changed_since j.number p past) b
    → IsCollecting start.plan d (acts j.number (e ∷ past)) (λ p. changed_since j.number p (e ∷ past)) b
others_collect start e past n act d j b ran other not_erased step k =
    collecting_as start.plan d (acts j.number past) (acts j.number (e ∷ past)) (λ p. is_change_of p act || changed_since j.number p past)
    (λ p. changed_since j.number p (e ∷ past)) b
    (acts_stay j.number e past (ap (act_of j.number) ran ∙ act_other n j.number act other))
    (λ p w. sym (ap (λ (c : Carried). changed_by c j.number p (changed_since j.number p past)) ran
    ∙ written_other n j.number p act (changed_since j.number p past) other) ∙ w)
    (other_step start.plan act (cells start past) d (acts j.number past) (λ p. changed_since j.number p past) b k not_erased step)

program_erasing : (plan : DiePlan) (page o : ℕ) (c d : Cells) (b : ℕ) → IsProgram plan page o c d → (b ≡ o) ⊎ (b ≡ o → ⊥)
    → (block_at d b).erasing ≡ (block_at c b).erasing
program_erasing plan page o c d b w (inl e) = rw e w.erasing
program_erasing plan page o c d b w (inr other) = ap (λ (s : Block). s.erasing) (w.others b other)

-- an act that erases no slot of a block leaves its count
pub erasing_kept : (plan : DiePlan) (act : Act) (c d : Cells) (b : ℕ) → (act ≡ does.Erase b → ⊥) → IsCellStep plan act c d
    → (block_at d b).erasing ≡ (block_at c b).erasing
erasing_kept plan (does.Read page bytes) c d b not_erased step = ap (λ (x : Cells). (block_at x b).erasing) step
erasing_kept plan (does.Write page bytes) c d b not_erased step = program_erasing plan page step.0 c d b step.1 (cases_eq b step.0)
erasing_kept plan (does.Trim page) c d b not_erased step = ap (λ (s : Block). s.erasing) (trimmed_block page c d step b)
erasing_kept plan (does.CopyRead page) c d b not_erased step = ap (λ (x : Cells). (block_at x b).erasing) step
erasing_kept plan (does.CopyProgram page) c d b not_erased step = program_erasing plan page step.0 c d b step.1 (cases_eq b step.0)
erasing_kept plan (does.Erase a) c d b not_erased step = ap (λ (s : Block). s.erasing)
    (step.others b (λ e. not_erased (ap does.Erase (sym e))))
