-- The rows that were read of a script so far, and what dies ran of them.
use Rattle.std.proofs.Common.{◌≡◌, ℕ, List, [], ◌∷◌, ◌++◌, refl, ap, sym, ◌∙◌, subst, inl, inr, append_assoc, Option, Some, None, Ok, Err}
use Rattle.std.specs.Prelude.{⊤, All, IfSome}
use Rattle.std.proofs.lemmas.List.{append-nil}
use Rattle.slot_types.specs.declared.refusals.Refusal.{Refusal}
use Rattle.script_texts.specs.Script.{Script, Yields, with_front}
use Rattle.script_texts.specs.declared.script_rows.ScriptItem.{ScriptItem}
use Rattle.flashplan_script_runs.specs.RunningDies.{HasEmptyLog, IsCarriedTo, RunningDie}
use Rattle.flashplan_script_runs.specs.ScriptRuns.{EndedRow, HasEnded, HaveEnded, HaveRun, RanAsDie, RanScript, RefusesScript}
use Rattle.flashplan_script_runs.specs.ScriptRuns.{items_of_die, rows_of_die}
use Rattle.flashplan_script_runs.specs.declared.refused.RefusedRow.{RefusedRow}
use Rattle.flashplan_script_runs.proofs.DieRows.{none_ended, none_ended_as, slots_more}
use Rattle.flashplan_script_runs.proofs.EachDie.{none_of_them_ran}

-- these items, and then what is left
abbrev pub with_items : List ScriptItem → Script → Script
with_items items (Ok more) = Ok (items ++ more)
with_items items (Err e) = Err e

-- the whole is these items and what is left, where it is known
abbrev pub IsReadTo : Option Script → Option Script → List ScriptItem → Type 0
IsReadTo None left items = ⊤
IsReadTo (Some all) None items = ⊥
IsReadTo (Some all) (Some more) items = all ≡ with_items items more

read_none : (whole : Option Script) → IsReadTo whole whole []
read_none None = tt
read_none (Some (Ok items)) = refl
read_none (Some (Err e)) = refl

items_more : (items : List ScriptItem) (item : ScriptItem) (more : Script) → with_items items (with_front item more)
    ≡ with_items (items ++ item ∷ []) more
items_more items item (Ok more) = ap (λ (xs : List ScriptItem). Ok xs) (sym (append_assoc items (item ∷ []) more))
items_more items item (Err e) = refl

read_more : (whole left new : Option Script) (items : List ScriptItem) (item : ScriptItem) → IsReadTo whole left items
    → Yields left new (Ok (Some item)) → IsReadTo whole new (items ++ item ∷ [])
read_more None left new items item so_far step = tt
read_more (Some all) None new items item so_far step = absurd so_far
read_more (Some all) (Some more) new items item so_far step =
    subst (λ (o : Option Script). IsReadTo (Some all) o (items ++ item ∷ [])) (sym step.1)
    (so_far ∙ (ap (with_items items) step.2 ∙ items_more items item step.0))

read_all : (whole left new : Option Script) (items : List ScriptItem) → IsReadTo whole left items → Yields left new (Ok None)
    → IfSome whole (λ all. all ≡ Ok items)
read_all None left new items so_far step = tt
read_all (Some all) None new items so_far step = absurd so_far
read_all (Some all) (Some more) new items so_far step = so_far
    ∙ (ap (with_items items) step.0 ∙ ap (λ (xs : List ScriptItem). Ok xs) (append-nil items))

-- the fault of what is left is that of the whole
read_fault : (whole left new : Option Script) (items : List ScriptItem) (e : Refusal) → IsReadTo whole left items → Yields left new (Err e)
    → RefusesScript whole e
read_fault None left new items e so_far step = inr tt
read_fault (Some all) None new items e so_far step = absurd so_far
read_fault (Some all) (Some more) new items e so_far (inl outside) = inl outside
read_fault (Some all) (Some more) new items e so_far (inr fault) = inr (so_far ∙ ap (with_items items) fault)

-- All dies

-- rows of a script were read, and each die ran those of its own, of which these were refused
pub record HasRead (whole left : Option Script) (refused : List RefusedRow) (dies : List RunningDie) : Type 0 where
  pub items : List ScriptItem
  pub read : IsReadTo whole left items
  pub ended : HaveEnded items refused 0 dies

pub reads_none : (whole : Option Script) (refused : List RefusedRow) (dies : List RunningDie) → refused ≡ [] → All HasEmptyLog dies
    → HasRead whole whole refused dies
reads_none whole refused dies none empty = rw none (record {
  items = [];
  read = read_none whole;
  ended = none_ended dies (none_of_them_ran dies empty);
})

pub reads_row : (whole left new : Option Script) (earlier refused : List RefusedRow) (before after : List RunningDie) (item : ScriptItem)
    → HasRead whole left earlier before → Yields left new (Ok (Some item))
    → ((items : List ScriptItem) → HaveEnded items earlier 0 before → HaveEnded (items ++ item ∷ []) refused 0 after)
    → HasRead whole new refused after
reads_row whole left new earlier refused before after item h step runs = record {
  items = h.items ++ item ∷ [];
  read = read_more whole left new h.items item h.read step;
  ended = runs h.items h.ended;
}

pub reads_fault : (whole left new : Option Script) (refused : List RefusedRow) (dies : List RunningDie) (e : Refusal)
    → HasRead whole left refused dies → Yields left new (Err e) → RefusesScript whole e
reads_fault whole left new refused dies e h step = read_fault whole left new h.items e h.read step

pub reads_end : (whole left new : Option Script) (refused : List RefusedRow) (dies : List RunningDie) → HasRead whole left refused dies
    → Yields left new (Ok None) → RanScript whole 0 refused dies
reads_end whole left new refused dies h step =
    record { items = h.items; read = read_all whole left new h.items h.read step; ended = h.ended }

-- then slots are carried out
pub then_slots : (script : Option Script) (slots : ℕ) (refused : List RefusedRow) (before after : List RunningDie)
    → RanScript script 0 refused before → ((rows : ℕ → List EndedRow) → HaveRun rows 0 before → HaveRun rows slots after)
    → RanScript script slots refused after
then_slots script slots refused before after h carry = record {
  items = h.items;
  read = h.read;
  ended = record {
    rows = h.ended.rows;
    items_are = h.ended.items_are;
    ran = carry (rows_of_die h.ended.rows) h.ended.ran;
    refused_are = h.ended.refused_are;
  };
}

-- One die

pub record HasReadAs (number : ℕ) (whole left : Option Script) (refused : List RefusedRow) (die : RunningDie) : Type 0 where
  pub items : List ScriptItem
  pub read : IsReadTo whole left items
  pub ended : HasEnded (items_of_die items number) refused 0 die

pub reads_none_as : (number : ℕ) (whole : Option Script) (refused : List RefusedRow) (die : RunningDie) → refused ≡ [] → HasEmptyLog die
    → HasReadAs number whole whole refused die
reads_none_as number whole refused die none empty =
    rw none (record { items = []; read = read_none whole; ended = none_ended_as die empty })

pub reads_row_as : (number : ℕ) (whole left new : Option Script) (earlier refused : List RefusedRow) (before after : RunningDie)
    (item : ScriptItem) → HasReadAs number whole left earlier before → Yields left new (Ok (Some item))
    → ((items : List ScriptItem) → HasEnded (items_of_die items number) earlier 0 before
    → HasEnded (items_of_die (items ++ item ∷ []) number) refused 0 after) → HasReadAs number whole new refused after
reads_row_as number whole left new earlier refused before after item h step runs = record {
  items = h.items ++ item ∷ [];
  read = read_more whole left new h.items item h.read step;
  ended = runs h.items h.ended;
}

pub reads_fault_as : (number : ℕ) (whole left new : Option Script) (refused : List RefusedRow) (die : RunningDie) (e : Refusal)
    → HasReadAs number whole left refused die → Yields left new (Err e) → RefusesScript whole e
reads_fault_as number whole left new refused die e h step = read_fault whole left new h.items e h.read step

pub reads_end_as : (number : ℕ) (whole left new : Option Script) (refused : List RefusedRow) (die : RunningDie)
    → HasReadAs number whole left refused die → Yields left new (Ok None) → RanAsDie whole 0 number refused die
reads_end_as number whole left new refused die h step = record {
  items = h.items;
  read = read_all whole left new h.items h.read step;
  ended = h.ended;
}

pub then_slots_as : (script : Option Script) (slots number : ℕ) (refused : List RefusedRow) (before after : RunningDie)
    → RanAsDie script 0 number refused before → IsCarriedTo slots before after → RanAsDie script slots number refused after
then_slots_as script slots number refused before after h carried = record {
  items = h.items;
  read = h.read;
  ended = record {
    rows = h.ended.rows;
    items_are = h.ended.items_are;
    ran = slots_more h.ended.rows slots before after h.ended.ran carried;
    refused_are = h.ended.refused_are;
  };
}
