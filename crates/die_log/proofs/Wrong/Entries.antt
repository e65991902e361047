-- Entries made by hand, and what legal ones would have to meet.
use Rattle.std.proofs.Common.{◌≡◌, ℕ, true, false, Bool, List, [], ◌∷◌, ◌++◌, Option, Some, None, MatchBool, MatchOption, slice_get, sym}
use Rattle.std.proofs.Common.{◌∙◌, subst}
use Rattle.std.proofs.lemmas.Option.{same_Some}
use Rattle.slot_types.specs.declared.acts.Act.{Act}
use Rattle.slot_types.specs.declared.acts.Act.TheVariants as does
use Rattle.slot_types.specs.declared.events.Op.{Op}
use Rattle.slot_types.specs.declared.events.Op.TheVariants.{Read, Write, Trim}
use Rattle.slot_types.specs.declared.events.Event.TheVariants.{Submit, Slot}
use Rattle.slot_types.specs.declared.replies.Entry.{Entry}
use Rattle.slot_types.specs.declared.replies.Reply.TheVariants as replies
use Rattle.die_log.specs.Model.Log.{Log, Job, job_at, waived_collections, work}
use Rattle.die_log.specs.Model.Accounts.{accounts}
use Rattle.die_log.specs.Results.Legal.{IsLegal, IsLegalAct, IsWaiver, IsNextCollectAct, Does}
use Rattle.die_log.specs.Model.Start.{Start}

abbrev pub idle : ℕ → Entry
idle now = record { caller = 0; event = Slot; reply = replies.Slot (record { slot = now; waived = []; ran = None; finished = None }) }

abbrev pub ran : ℕ → ℕ → Act → Entry
ran now number act = record {
  caller = 0;
  event = Slot;
  reply = replies.Slot
      (record { slot = now; waived = []; ran = Some (number, act); finished = None });
}

abbrev pub waives : ℕ → ℕ → ℕ → Entry
waives now number given = record {
  caller = 0;
  event = Slot;
  reply = replies.Slot
      (record { slot = now; waived = record { number = number; given = given } ∷ []; ran = None; finished = None });
}

-- a job of task 0 that was taken under this number
abbrev pub taken : ℕ → ℕ → List Op → ℕ → Entry
taken release due ops number = record { caller = 0; event = Submit 0 release due ops; reply = replies.Taken number }

-- the act is one of the job that its number names
pub act_of_job : (start : Start) (past : Log) (now number : ℕ) (act : Act) (j : Job) → job_at past number ≡ Some j
    → IsLegal start (ran now number act ∷ past) → IsLegalAct start past (waived_collections past ++ []) j number act
act_of_job start past now number act j is h =
    let a = h.1.slot.1.1 in subst (λ (i : Job). IsLegalAct start past (waived_collections past ++ []) i number act)
    (same_Some h.1.slot.1.0 j (sym a.known ∙ is)) a

-- the waiver is one of the collection that its number names
pub waiver_of_job : (start : Start) (past : Log) (now number given : ℕ) (j : Job) → job_at past number ≡ Some j
    → IsLegal start (waives now number given ∷ past)
    → IsWaiver start.plan past (waived_collections past) (accounts start past) j (record { number = number; given = given })
waiver_of_job start past now number given j is h =
    let w = h.1.slot.0.1 in
    subst (λ (i : Job). IsWaiver start.plan past (waived_collections past) (accounts start past) i (record { number = number; given = given }))
    (same_Some h.1.slot.0.0 j (sym w.known ∙ is)) w

-- no operation is done by an act of a collection
abbrev pub IsOfCollection : Act → Type 0
IsOfCollection (does.Read page bytes) = ⊥
IsOfCollection (does.Write page bytes) = ⊥
IsOfCollection (does.Trim page) = ⊥
IsOfCollection _ = Unit {0}

not_done : (op : Op) (act : Act) → IsOfCollection act → Does op act → ⊥
not_done (Read page) (does.Read p b) c h = c
not_done (Read page) (does.Write p b) c h = h
not_done (Read page) (does.Trim p) c h = h
not_done (Read page) (does.CopyRead p) c h = h
not_done (Read page) (does.CopyProgram p) c h = h
not_done (Read page) (does.Erase b) c h = h
not_done (Write page bytes) (does.Read p b) c h = h
not_done (Write page bytes) (does.Write p b) c h = c
not_done (Write page bytes) (does.Trim p) c h = h
not_done (Write page bytes) (does.CopyRead p) c h = h
not_done (Write page bytes) (does.CopyProgram p) c h = h
not_done (Write page bytes) (does.Erase b) c h = h
not_done (Trim page) (does.Read p b) c h = h
not_done (Trim page) (does.Write p b) c h = h
not_done (Trim page) (does.Trim p) c h = c
not_done (Trim page) (does.CopyRead p) c h = h
not_done (Trim page) (does.CopyProgram p) c h = h
not_done (Trim page) (does.Erase b) c h = h

no_operation : (op : Option Op) (act : Act) → IsOfCollection act → MatchOption op ⊥ (λ o. Does o act) → ⊥
no_operation None act c h = h
no_operation (Some op) act c h = not_done op act c h

either : (start : Start) (past : Log) (number : ℕ) (act : Act) (b : Bool) (op : Option Op) → IsOfCollection act
    → MatchBool b (IsNextCollectAct start past number act) (MatchOption op ⊥ (λ o. Does o act)) → IsNextCollectAct start past number act
either start past number act true op c h = h
either start past number act false op c h = absurd (no_operation op act c h)

-- whichever job the number names, its act is a collection's next one
pub next_of : (start : Start) (past : Log) (now number : ℕ) (act : Act) → IsOfCollection act → IsLegal start (ran now number act ∷ past)
    → IsNextCollectAct start past number act
next_of start past now number act c h = let j = h.1.slot.1.0 in either start past number act j.collects (slice_get j.ops (work j.number past))
    c h.1.slot.1.1.next
