-- The rows of a script that were read so far.
use Rattle.std.proofs.Common.{◌≡◌, List, [], ◌∷◌, ◌++◌, refl, ap, sym, ◌∙◌, subst, append_assoc, Option, Some, None, Ok, Err}
use Rattle.std.specs.Prelude.{◌⊎◌, ⊤, ℕ, ◌<◌, All, IfSome, get_or, length, option_map}
use Rattle.std.proofs.lemmas.List.{append-nil}
use Rattle.slot_types.specs.declared.refusals.Refusal.{Refusal}
use Rattle.text_base.specs.Readings.{IsOutside}
use Rattle.script_texts.specs.AskedPages.{RowsHavePages}
use Rattle.script_texts.specs.Script.{Script, Yields, with_front}
use Rattle.script_texts.specs.declared.script_rows.ScriptItem.{ScriptItem}
use Rattle.task_script.specs.Feeds.{AllArrive, feed_of}

-- these items, and then what is left
abbrev pub with_items : List ScriptItem → Script → Script
with_items items (Ok more) = Ok (items ++ more)
with_items items (Err e) = Err e

-- the whole is these items and what is left, where it is known
abbrev pub IsReadTo : Option Script → Option Script → List ScriptItem → Type 0
IsReadTo None left items = ⊤
IsReadTo (Some all) None items = ⊥
IsReadTo (Some all) (Some more) items = all ≡ with_items items more

-- memory ran out, or the reader failed; or what was left has this fault
abbrev pub FailsIn : Option Script → Refusal → Type 0
FailsIn old refusal = IsOutside refusal ⊎ IfSome old (λ left. left ≡ Err refusal)

-- the rows of `dies` dies, by die
pub record IsDealt (dies slots : ℕ) (items : List ScriptItem) (feeds : List (List ScriptItem)) : Type 0 where
  pub all : length feeds ≡ dies
  pub rows : (die : ℕ) → die < dies → get_or feeds die [] ≡ feed_of items die
  pub arrive : All (AllArrive slots) feeds
  pub pages : All RowsHavePages feeds

-- Items, one by one

pub read_none : (whole : Option Script) → IsReadTo whole whole []
read_none None = tt
read_none (Some (Ok items)) = refl
read_none (Some (Err e)) = refl

pub items_more : (items : List ScriptItem) (item : ScriptItem) (more : Script) → with_items items (with_front item more)
    ≡ with_items (items ++ item ∷ []) more
items_more items item (Ok more) = ap (λ (xs : List ScriptItem). Ok xs) (sym (append_assoc items (item ∷ []) more))
items_more items item (Err e) = refl

pub read_more : (whole left new : Option Script) (items : List ScriptItem) (item : ScriptItem) → IsReadTo whole left items
    → Yields left new (Ok (Some item)) → IsReadTo whole new (items ++ item ∷ [])
read_more None left new items item so_far step = tt
read_more (Some all) None new items item so_far step = absurd so_far
read_more (Some all) (Some more) new items item so_far step =
    subst (λ (o : Option Script). IsReadTo (Some all) o (items ++ item ∷ [])) (sym step.1)
    (so_far ∙ (ap (with_items items) step.2 ∙ items_more items item step.0))

pub read_all : (whole left new : Option Script) (items : List ScriptItem) → IsReadTo whole left items → Yields left new (Ok None)
    → IfSome whole (λ all. all ≡ Ok items)
read_all None left new items so_far step = tt
read_all (Some all) None new items so_far step = absurd so_far
read_all (Some all) (Some more) new items so_far step = so_far
    ∙ (ap (with_items items) step.0 ∙ ap (λ (xs : List ScriptItem). Ok xs) (append-nil items))

-- What was read of what was left

pub fault_on : (whole left : Option Script) (xs : List ScriptItem) (e : Refusal) → IsReadTo whole left xs
    → IfSome left (λ rest. rest ≡ Err e) → IfSome whole (λ all. all ≡ Err e)
fault_on None left xs e first last = tt
fault_on (Some all) None xs e first last = absurd first
fault_on (Some all) (Some rest) xs e first last = first ∙ ap (with_items xs) last

pub known_by : {A B : Type 0} (P : B → Type 0) (f : A → B) (o : Option A) → IfSome (option_map f o) P → IfSome o (λ a. P (f a))
known_by P f None h = tt
known_by P f (Some a) h = h
