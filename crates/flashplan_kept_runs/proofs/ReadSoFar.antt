-- The rows that were read of a script so far, and what dies took of them.
use Rattle.std.proofs.Common.{◌≡◌, ℕ, List, [], ◌∷◌, ◌++◌, refl, ap, sym, ◌∙◌, subst, append_assoc, map, Option, Some, None, Ok, Err}
use Rattle.std.specs.Prelude.{All, IfSome, length}
use Rattle.std.proofs.lemmas.List.{append-nil}
use Rattle.script_texts.specs.Script.{Script, Yields, with_front}
use Rattle.script_texts.specs.declared.script_rows.ScriptItem.{ScriptItem}
use Rattle.flashplan_script_runs.specs.ScriptRuns.{items_of_die}
use Rattle.flashplan_script_runs.proofs.ReadSoFar.{IsReadTo, with_items}
use Rattle.flashplan_kept_runs.specs.KeptDies.{HasEmptyLog, KeptDie}
use Rattle.flashplan_kept_runs.specs.KeptRuns.{HaveKeptTo, HaveRead, HaveTaken, RanKept}
use Rattle.flashplan_kept_runs.proofs.EachDie.{all_kept, none_of_them_taken}

read_none : (whole : Option Script) → IsReadTo whole whole []
read_none None = tt
read_none (Some (Ok items)) = refl
read_none (Some (Err e)) = refl

items_more : (items : List ScriptItem) (item : ScriptItem) (more : Script) → with_items items (with_front item more)
    ≡ with_items (items ++ item ∷ []) more
items_more items item (Ok more) = ap (λ (xs : List ScriptItem). Ok xs) (sym (append_assoc items (item ∷ []) more))
items_more items item (Err e) = refl

read_more : (whole left new : Option Script) (items : List ScriptItem) (item : ScriptItem) → IsReadTo whole left items
    → Yields left new (Ok (Some item)) → IsReadTo whole new (items ++ item ∷ [])
read_more None left new items item so_far step = tt
read_more (Some all) None new items item so_far step = absurd so_far
read_more (Some all) (Some more) new items item so_far step =
    subst (λ (o : Option Script). IsReadTo (Some all) o (items ++ item ∷ [])) (sym step.1)
    (so_far ∙ (ap (with_items items) step.2 ∙ items_more items item step.0))

read_all : (whole left new : Option Script) (items : List ScriptItem) → IsReadTo whole left items → Yields left new (Ok None)
    → IfSome whole (λ all. all ≡ Ok items)
read_all None left new items so_far step = tt
read_all (Some all) None new items so_far step = absurd so_far
read_all (Some all) (Some more) new items so_far step = so_far
    ∙ (ap (with_items items) step.0 ∙ ap (λ (xs : List ScriptItem). Ok xs) (append-nil items))

-- rows of a script were read, and each die took those of its own
pub record HasRead (whole left : Option Script) (dies : List KeptDie) : Type 0 where
  pub items : List ScriptItem
  pub read : IsReadTo whole left items
  pub taken : HaveTaken (items_of_die items) dies

pub reads_none : (whole : Option Script) (dies : List KeptDie) → All HasEmptyLog dies → HasRead whole whole dies
reads_none whole dies empty = record { items = []; read = read_none whole; taken = none_of_them_taken dies empty }

pub reads_row : (whole left new : Option Script) (before after : List KeptDie) (item : ScriptItem) → HasRead whole left before
    → Yields left new (Ok (Some item))
    → ((items : List ScriptItem) → HaveTaken (items_of_die items) before → HaveTaken (items_of_die (items ++ item ∷ [])) after)
    → HasRead whole new after
reads_row whole left new before after item h step takes = record {
  items = h.items ++ item ∷ [];
  read = read_more whole left new h.items item h.read step;
  taken = takes h.items h.taken;
}

pub reads_end : (whole left new : Option Script) (dies : List KeptDie) → HasRead whole left dies → Yields left new (Ok None)
    → HaveRead whole dies
reads_end whole left new dies h step = record { items = h.items; read = read_all whole left new h.items h.read step; taken = h.taken }

-- then slots are carried out
pub then_slots : {D : Type 0} (f : D → KeptDie) (script : Option Script) (slots : ℕ) (before : List KeptDie) (after : List D)
    → HaveRead script before
    → ((rows : ℕ → List ScriptItem) → HaveTaken rows before → HaveKeptTo (length after) rows slots (map f after))
    → RanKept script slots (map f after)
then_slots f script slots before after h carry = record {
  items = h.items;
  read = h.read;
  ran = all_kept f h.items slots after (carry (items_of_die h.items) h.taken);
}
