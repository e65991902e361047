-- Which acts jobs do, and which collections.
use Rattle.std.proofs.Common.{◌≡◌, ℕ, Bool, true, false, cond, List, [], ◌∷◌, Option, Some, None, refl, subst, ◌⊎◌, inl, inr, slice_get}
use Rattle.std.specs.List.{last_or}
use Rattle.std.proofs.lemmas.Option.{same_Some}
use Rattle.slot_types.specs.declared.plans.DiePlan.{DiePlan}
use Rattle.slot_types.specs.declared.acts.Act.{Act}
use Rattle.slot_types.specs.declared.acts.Act.TheVariants as does
use Rattle.slot_types.specs.declared.events.Op.{Op}
use Rattle.slot_types.specs.declared.events.Op.TheVariants as asks
use Rattle.die_log.specs.Model.Log.{Log, Job, acts, work}
use Rattle.die_log.specs.Model.Flash.{Cells, cells, valid_pages, content}
use Rattle.die_log.specs.Model.Answers.{act_for, act_of_op, collect_act, read_or_erase, is_placed_in, buffer_after, block_for}
use Rattle.die_log.specs.Results.Legal.{Does}
use Rattle.die_log.specs.Model.Start.{Start}

-- an act of a collection
abbrev pub IsOfCollection : Act → Type 0
IsOfCollection (does.Read page bytes) = ⊥
IsOfCollection (does.Write page bytes) = ⊥
IsOfCollection (does.Trim page) = ⊥
IsOfCollection _ = Unit {0}

-- the act is the next operation of a job, or one of a collection
pub record IsJobAct (past : Log) (j : Job) (act : Act) : Type 0 where
  pub job : j.collects ≡ false
  pub op : Op
  pub next : slice_get j.ops (work j.number past) ≡ Some op
  pub done : Does op act

pub record IsCollectionAct (j : Job) (act : Act) : Type 0 where
  pub collection : j.collects ≡ true
  pub kind : IsOfCollection act

read_kind : (b : ℕ) (pages : List ℕ) → IsOfCollection (read_or_erase b pages)
read_kind b [] = tt
read_kind b (page ∷ pages) = tt

test_kind : (plan : DiePlan) (c : Cells) (page b : ℕ) (t : Bool) (act : Act)
    → cond t (Some (does.CopyProgram page)) (Some (read_or_erase b (valid_pages plan c b))) ≡ Some act → IsOfCollection act
test_kind plan c page b true act e = subst IsOfCollection (same_Some (does.CopyProgram page) act e) tt
test_kind plan c page b false act e = subst IsOfCollection (same_Some (read_or_erase b (valid_pages plan c b)) act e)
    (read_kind b (valid_pages plan c b))

collect_kind : (plan : DiePlan) (c : Cells) (buffer block : Option ℕ) (act : Act) → collect_act plan c buffer block ≡ Some act
    → IsOfCollection act
collect_kind plan c buffer None act e = absurd cc
collect_kind plan c buffer (Some b) act e = test_kind plan c _ b (is_placed_in c b buffer) act e

op_kind : (start : Start) (past : Log) (o : Option Op) (act : Act) → act_of_op start past o ≡ Some act → (op : Op) × (o ≡ Some op)
    × Does op act
op_kind start past None act e = absurd cc
op_kind start past (Some (asks.Read page)) act e = (
  asks.Read page,
  refl,
  subst (Does (asks.Read page))
      (same_Some (does.Read page (content start past page)) act e) refl,
)
op_kind start past (Some (asks.Write page bytes)) act e =
    (asks.Write page bytes, refl, subst (Does (asks.Write page bytes)) (same_Some (does.Write page bytes) act e) (refl, refl))
op_kind start past (Some (asks.Trim page)) act e = (
  asks.Trim page,
  refl,
  subst (Does (asks.Trim page)) (same_Some (does.Trim page) act e)
      refl,
)

job_act : (past : Log) (j : Job) (act : Act) → j.collects ≡ false → (op : Op) × (slice_get j.ops (work j.number past) ≡ Some op)
    × Does op act → IsJobAct past j act
job_act past j act is k = record { job = is; op = k.0; next = k.1; done = k.2 }

abbrev pub buffer_of : DiePlan → Log → Job → Option ℕ
buffer_of plan past j = buffer_after (last_or None (acts j.number past))

by_collects : (start : Start) (past : Log) (j : Job) (act : Act) (b : Bool) → j.collects ≡ b
    → cond b (collect_act start.plan (cells start past) (buffer_of start.plan past j) (block_for start past j))
    (act_of_op start past (slice_get j.ops (work j.number past))) ≡ Some act
    → IsJobAct past j act ⊎ IsCollectionAct j act
by_collects start past j act true is e = inr (record {
  collection = is;
  kind = collect_kind start.plan (cells start past) (buffer_of start.plan past j)
      (block_for start past j) act e;
})
by_collects start past j act false is e = inl (job_act past j act is (op_kind start past (slice_get j.ops (work j.number past)) act e))

pub act_kind : (start : Start) (past : Log) (j : Job) (act : Act) → act_for start past j ≡ Some act → IsJobAct past j act
    ⊎ IsCollectionAct j act
act_kind start past j act e = by_collects start past j act j.collects refl e
