-- What stands after an entry that carried an act.
use Rattle.std.proofs.Common.{◌≡◌, ◌≢◌, ◌⊎◌, ℕ, ◌<◌, true, List, ◌∷◌, Some, None, ap, sym, ◌∙◌, subst, inl, inr}
use Rattle.std.specs.Prelude.{Contains}
use Rattle.std.proofs.lemmas.Bool.{cases_eq}
use Rattle.std.proofs.lemmas.Option.{same_Some}
use Rattle.slot_types.specs.declared.acts.Act.{Act}
use Rattle.slot_types.specs.declared.acts.Act.TheVariants as does
use Rattle.slot_types.specs.declared.replies.Entry.{Entry}
use Rattle.die_log.specs.Model.Log.{Log, Job, jobs, act_of, acts}
use Rattle.die_log.specs.Model.Flash.{ran_by, cells, block_at}
use Rattle.die_log.specs.Model.Work.{victim_of}
use Rattle.die_log.specs.Model.Answers.{is_running}
use Rattle.die_log.specs.Results.Legal.{changed_since}
use Rattle.die_log.specs.Invariants.SoundCells.{AreSoundCells, IsCollecting, IsCellStep}
use Rattle.die_log.specs.Invariants.RunningCollections.{AreNumbered, RunsOnBlock, KeepsCollections}
use Rattle.die_log.proofs.LogInvariants.OneMoreEntry.{act_other, same_job}
use Rattle.die_log.proofs.LogInvariants.AfterNoAct.{running_stays, runs_later, runs_before, others_collect, erasing_kept}
use Rattle.die_log.specs.Model.Start.{Start}

-- what is known of the number that had the act
pub record IsActor (start : Start) (e : Entry) (past : Log) (j : Job) (act : Act) : Type 0 where
  -- if it runs now, it has a block, and nobody else ran on it
  pub mine : is_running start.plan (e ∷ past) j ≡ true
      → (b : ℕ) × (victim_of start j.number (e ∷ past) ≡ Some b)
      × IsCollecting start.plan (cells start (e ∷ past)) (acts j.number (e ∷ past)) (λ p. changed_since j.number p (e ∷ past)) b
      × ((i : Job) → RunsOnBlock start past i b → i.number ≡ j.number)
  -- it erased nobody else's block
  pub others : (i : Job) (a : ℕ) → RunsOnBlock start past i a → i.number ≢ j.number → act ≡ does.Erase a → ⊥
  -- a block that it erased and that is still in erase is its own
  pub erasing : (a : ℕ) → act ≡ does.Erase a → 0 < (block_at (cells start (e ∷ past)) a).erasing → (is_running start.plan (e ∷ past) j ≡ true)
      × (victim_of start j.number (e ∷ past) ≡ Some a)
  -- once it erases it does nothing else
  pub erases : (a : ℕ) → RunsOnBlock start past j a → (act ≡ does.Erase a → ⊥) → 0 < (block_at (cells start past) a).erasing → ⊥

pub erase_case : (act : Act) (a : ℕ) → (act ≡ does.Erase a) ⊎ (act ≡ does.Erase a → ⊥)
erase_case (does.Read page bytes) a = inr (λ e. absurd cc)
erase_case (does.Write page bytes) a = inr (λ e. absurd cc)
erase_case (does.Trim page) a = inr (λ e. absurd cc)
erase_case (does.CopyRead page) a = inr (λ e. absurd cc)
erase_case (does.CopyProgram page) a = inr (λ e. absurd cc)
erase_case (does.Erase b) a = by_eq (cases_eq b a)
  where
    by_eq : (b ≡ a) ⊎ (b ≡ a → ⊥) → (does.Erase b ≡ does.Erase a) ⊎ (does.Erase b ≡ does.Erase a → ⊥)
    by_eq (inl e) = inl (ap does.Erase e)
    by_eq (inr other) = inr (λ e. other cc)

-- an act keeps what stands
pub acted : (start : Start) (e : Entry) (past : Log) (j : Job) (act : Act) → ran_by e.reply ≡ Some (j.number, act) → jobs (e ∷ past)
    ≡ jobs past
    → AreNumbered 0 (jobs past) → Contains (jobs past) j → KeepsCollections start past → AreSoundCells start.plan (cells start (e ∷ past))
    → IsCellStep start.plan act (cells start past) (cells start (e ∷ past)) → IsActor start e past j act
    → KeepsCollections start (e ∷ past)
acted start e past j act ran same numbered stands k sound step actor = record {
  sound = sound;
  shown = λ i h r. shown_by_case i h r (cases_eq i.number j.number);
  collecting = λ i b r. collecting_by_case i b r (cases_eq i.number j.number);
  different = λ i h b r s. different_by_case i h b r s (cases_eq i.number j.number) (cases_eq h.number j.number);
  owned = λ b h. owned_by_case b h (erase_case act b);
}
  where
    before : (i : Job) → Contains (jobs (e ∷ past)) i → Contains (jobs past) i
    before i h = subst (λ (js : List Job). Contains js i) same h

    later : (i : Job) → Contains (jobs past) i → Contains (jobs (e ∷ past)) i
    later i h = subst (λ (js : List Job). Contains js i) (sym same) h

    no_act : (i : Job) → i.number ≢ j.number → act_of i.number (ran_by e.reply) ≡ None
    no_act i other = ap (act_of i.number) ran ∙ act_other j.number i.number act (λ x. other (sym x))

    is_it : (i : Job) → Contains (jobs (e ∷ past)) i → i.number ≡ j.number → i ≡ j
    is_it i h is = same_job (jobs past) i j numbered (before i h) stands is

    to_past : (i : Job) (b : ℕ) → i.number ≢ j.number → RunsOnBlock start (e ∷ past) i b → RunsOnBlock start past i b
    to_past i b other r = runs_before start e past i b (no_act i other) (before i r.stands) r

    shown_by_case : (i : Job) → Contains (jobs (e ∷ past)) i → is_running start.plan (e ∷ past) i ≡ true → (i.number ≡ j.number)
        ⊎ (i.number ≡ j.number → ⊥) → (b : ℕ) × RunsOnBlock start (e ∷ past) i b
    shown_by_case i h r (inl is) =
        let it : i ≡ j = is_it i h is in
        let m = actor.mine (subst (λ (x : Job). is_running start.plan (e ∷ past) x ≡ true) it r) in
        (m.0, record { stands = h; running = r; victim = subst (λ (x : Job). victim_of start x.number (e ∷ past) ≡ Some m.0) (sym it) m.1 })
    shown_by_case i h r (inr other) =
        let old = k.shown i (before i h) (sym (running_stays start.plan e past i (no_act i other)) ∙ r) in
        (old.0, runs_later start e past i old.0 (no_act i other) h old.1)

    collecting_by_case : (i : Job) (b : ℕ) → RunsOnBlock start (e ∷ past) i b → (i.number ≡ j.number) ⊎ (i.number ≡ j.number → ⊥)
        → IsCollecting start.plan (cells start (e ∷ past)) (acts i.number (e ∷ past)) (λ p. changed_since i.number p (e ∷ past)) b
    collecting_by_case i b r (inl is) =
        let it : i ≡ j = is_it i r.stands is in
        let mine = actor.mine (subst (λ (x : Job). is_running start.plan (e ∷ past) x ≡ true) it r.running) in
        let at : mine.0 ≡ b = same_Some mine.0 b (sym mine.1 ∙ subst (λ (x : Job). victim_of start x.number (e ∷ past) ≡ Some b) it r.victim)
        in
        subst (λ (x : Job). IsCollecting start.plan (cells start (e ∷ past)) (acts x.number (e ∷ past)) (λ p. changed_since x.number p (e ∷ past))
        b) (sym it)
        (subst (λ (x : ℕ). IsCollecting start.plan (cells start (e ∷ past)) (acts j.number (e ∷ past)) (λ p. changed_since j.number p (e ∷ past))
        x) at mine.2)
    collecting_by_case i b r (inr other) =
        let old = to_past i b other r in
        others_collect start e past j.number act (cells start (e ∷ past)) i b ran (λ x. other (sym x)) (actor.others i b old other) step
        (k.collecting i b old)

    only : (i h : Job) (b : ℕ) → RunsOnBlock start (e ∷ past) i b → i.number ≡ j.number → RunsOnBlock start past h b → h.number ≡ j.number
    only i h b r is old =
        let it : i ≡ j = is_it i r.stands is in
        let mine = actor.mine (subst (λ (x : Job). is_running start.plan (e ∷ past) x ≡ true) it r.running) in
        let at : mine.0 ≡ b = same_Some mine.0 b (sym mine.1 ∙ subst (λ (x : Job). victim_of start x.number (e ∷ past) ≡ Some b) it r.victim)
        in
        mine.3 h (subst (λ (x : ℕ). RunsOnBlock start past h x) (sym at) old)

    different_by_case : (i h : Job) (b : ℕ) → RunsOnBlock start (e ∷ past) i b → RunsOnBlock start (e ∷ past) h b → (i.number ≡ j.number)
        ⊎ (i.number ≡ j.number → ⊥) → (h.number ≡ j.number) ⊎ (h.number ≡ j.number → ⊥) → i.number ≡ h.number
    different_by_case i h b r s (inl x) (inl y) = x ∙ sym y
    different_by_case i h b r s (inl x) (inr y) = absurd (y (only i h b r x (to_past h b y s)))
    different_by_case i h b r s (inr x) (inl y) = absurd (x (only h i b s y (to_past i b x r)))
    different_by_case i h b r s (inr x) (inr y) = k.different i h b (to_past i b x r) (to_past h b y s)

    owned_old : (b : ℕ) (i : Job) → RunsOnBlock start past i b → 0 < (block_at (cells start past) b).erasing → (act ≡ does.Erase b → ⊥)
        → (i.number ≡ j.number) ⊎ (i.number ≡ j.number → ⊥) → (x : Job) × RunsOnBlock start (e ∷ past) x b
    owned_old b i r h not_erased (inl is) =
        let it : i ≡ j = same_job (jobs past) i j numbered r.stands stands is in
        absurd (actor.erases b (subst (λ (x : Job). RunsOnBlock start past x b) it r) not_erased h)
    owned_old b i r h not_erased (inr other) = (i, runs_later start e past i b (no_act i other) (later i r.stands) r)

    owned_by_case : (b : ℕ) → 0 < (block_at (cells start (e ∷ past)) b).erasing → (act ≡ does.Erase b) ⊎ (act ≡ does.Erase b → ⊥) → (x : Job)
        × RunsOnBlock start (e ∷ past) x b
    owned_by_case b h (inl is) = let r = actor.erasing b is h in (j, record { stands = later j stands; running = r.0; victim = r.1 })
    owned_by_case b h (inr not_erased) =
        let was : 0 < (block_at (cells start past) b).erasing = subst (λ (n : ℕ). 0 < n)
        (erasing_kept start.plan act (cells start past) (cells start (e ∷ past)) b not_erased step) h in
        let old = k.owned b was in
        owned_old b old.0 old.1 was not_erased (cases_eq old.0.number j.number)
