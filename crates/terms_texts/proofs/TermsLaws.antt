-- How a plan follows from its text.
use Rattle.std.proofs.Common.{◌≡◌, ℕ, ◌+◌, ◌<◌, ◌≤◌, List, [], ◌∷◌, ◌++◌, false, Some, None, Result, Ok, Err, length, drop, get_or}
use Rattle.std.proofs.Common.{refl, sym, ap, ◌∙◌, append_assoc, inl, inr}
use Rattle.std.specs.Prelude.{IsUtf8, nat_lt}
use Rattle.std.specs.Str.{is_utf8}
use Rattle.std.proofs.lemmas.Bool.{cases_Bool}
use Rattle.std.proofs.lemmas.List.{append-nil, drop_all}
use Rattle.std.proofs.lemmas.Str.{IsUtf8-from_is_utf8, is_utf8-from_IsUtf8}
use Rattle.toml.specs.Data.{Members, as_table}
use Rattle.toml.specs.Parse.{parse_document}
use Rattle.toml.specs.View.{view, items_view}
use Rattle.toml.specs.declared.value.Value.{Value}
use Rattle.toml.proofs.Views.{items_view-drop}
use Rattle.slot_types.specs.declared.refusals.Cause.TheVariants as cause
use Rattle.terms_texts.specs.declared.faults.Place.TheVariants.{Whole}
use Rattle.terms_texts.specs.declared.faults.TableName.TheVariants.{Task}
use Rattle.terms_texts.specs.declared.faults.TermsRefusal.{TermsRefusal}
use Rattle.terms_texts.specs.declared.numbers.TaskNumbers.{TaskNumbers}
use Rattle.terms_texts.specs.Tables.{fault}
use Rattle.terms_texts.specs.TermsText.{no_tables, table_of, task_of, tasks_of, with_front}

-- a text that is no UTF-8
pub table-no_text : (text : List ℕ) → nat_lt 1048576 (length text) ≡ false → (IsUtf8 text → ⊥) → table_of text ≡ fault cause.NotToml Whole
table-no_text text short other = elim (cases_Bool (is_utf8 text)) [
  | inl yes_text ↦ absurd (other (IsUtf8-from_is_utf8 text yes_text))
  | inr not_text ↦ rw (short, not_text) refl
]

-- a text that is a document
pub table-found : (text : List ℕ) (ms : Members) → nat_lt 1048576 (length text) ≡ false → IsUtf8 text → parse_document text ≡ Some ms
    → table_of text ≡ Ok ms
table-found text ms short is found = rw (short, is_utf8-from_IsUtf8 text is, found) refl

-- the item at a place is no table
pub tasks-untabled : (vs : List Value) (i : ℕ) (d : Value) (out : List TaskNumbers) → i < length vs
    → as_table (view (get_or vs i d)) ≡ None
    → with_front out (tasks_of i (items_view (drop i vs))) ≡ tasks_of 0 (items_view vs) → tasks_of 0 (items_view vs) ≡ no_tables
unfolding tasks_of
tasks-untabled vs i d out below none so-far = sym (rw (items_view-drop vs i d below, none) at so-far)

-- the item at a place is no task
pub tasks-fault : (vs : List Value) (i : ℕ) (d : Value) (ms : Members) (c : TermsRefusal) (out : List TaskNumbers) → i < length vs
    → as_table (view (get_or vs i d)) ≡ Some ms
    → task_of (Task i) ms ≡ Err c → with_front out (tasks_of i (items_view (drop i vs))) ≡ tasks_of 0 (items_view vs)
    → tasks_of 0 (items_view vs) ≡ Err c
unfolding tasks_of
tasks-fault vs i d ms c out below some bad so-far = sym (rw (items_view-drop vs i d below, some, bad) at so-far)

-- one more in front
front-more : (out : List TaskNumbers) (t : TaskNumbers) (r : Result (List TaskNumbers) TermsRefusal) → with_front (out ++ t ∷ []) r
    ≡ with_front out (with_front (t ∷ []) r)
front-more out t (Ok ts) = ap Ok (append_assoc out (t ∷ []) ts)
front-more out t (Err c) = refl

-- the item at a place is a task
pub tasks-more : (vs : List Value) (i : ℕ) (d : Value) (ms : Members) (t : TaskNumbers) (out out2 : List TaskNumbers) → i
    < length vs → as_table (view (get_or vs i d)) ≡ Some ms
    → task_of (Task i) ms ≡ Ok t → out2 ≡ out ++ t ∷ [] → with_front out (tasks_of i (items_view (drop i vs))) ≡ tasks_of 0 (items_view vs)
    → with_front out2 (tasks_of (i + 1) (items_view (drop (i + 1) vs))) ≡ tasks_of 0 (items_view vs)
unfolding tasks_of
tasks-more vs i d ms t out out2 below some good made so-far =
    rw made (front-more out t _ ∙ rw (items_view-drop vs i d below, some, good) at so-far)

-- no more items
pub tasks-end : (vs : List Value) (i : ℕ) (out : List TaskNumbers) → length vs ≤ i
    → with_front out (tasks_of i (items_view (drop i vs))) ≡ tasks_of 0 (items_view vs) → tasks_of 0 (items_view vs) ≡ Ok out
unfolding tasks_of
tasks-end vs i out above so-far = sym (rw (drop_all i vs above, append-nil out) at so-far)
