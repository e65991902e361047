-- How a plan that is written is read.
use Rattle.std.proofs.Common.{◌≡◌, ℕ, ◌+◌, ◌<◌, ◌≤◌, List, [], ◌∷◌, ◌++◌, true, String, Global, Option, Some, None, Result, Ok, Err, length, take, arith}
use Rattle.std.proofs.Common.{Ordering, Less, Equal, Greater, string_bytes, refl, sym, ap, ◌∙◌}
use Rattle.std.specs.Prelude.{is_some, nat_lt}
use Rattle.std.specs.BTreeMap.{insert_entry}
use Rattle.std.specs.Ordering.{match_ordering}
use Rattle.std.specs.String.{string_cmp}
use Rattle.std.proofs.Math.Nat.{le-max_left, le-max_right, max-le}
use Rattle.toml.specs.Data.{Items, no_items, item, Members, member, as_table, depth, items_depth, members_depth}
use Rattle.toml.specs.View.{view, items_view, members_view}
use Rattle.toml.specs.declared.value.Value.{Value}
use Rattle.plan_texts.specs.PlanText.{are_tables}
use Rattle.plan_texts.specs.Tables.{has_only}
use Rattle.terms_texts.specs.declared.faults.TableName.{TableName}
use Rattle.terms_texts.specs.declared.faults.TermsRefusal.{TermsRefusal}
use Rattle.terms_texts.specs.declared.numbers.TaskNumbers.{TaskNumbers}
use Rattle.terms_texts.specs.declared.numbers.TermsNumbers.{TermsNumbers}
use Rattle.terms_texts.specs.declared.numbers.TopNumbers.{TopNumbers}
use Rattle.terms_texts.specs.Refusing.{◌>>=◌}
use Rattle.terms_texts.specs.Tables.{task_keys_of, top_keys_of}
use Rattle.terms_texts.specs.TermsText.{numbers_of, task_in, task_of, tasks_of, terms_in, top_of}
use Rattle.terms_texts.specs.Written.{plan_members, task_members, with_member}

-- A table

inserted_at : (o : Ordering) (k : String Global) (v : Value) (e : String Global × Value) (es : List (String Global × Value))
    → members_view (insert_entry string_cmp es k v) ≡ with_member (string_bytes k) (view v) (members_view es)
    → members_view (match_ordering o ((k, v) ∷ e ∷ es) ((e.0, v) ∷ es) (e ∷ insert_entry string_cmp es k v))
    ≡ match_ordering o (member (string_bytes k) (view v) (member (string_bytes e.0) (view e.1) (members_view es)))
    (member (string_bytes e.0) (view v) (members_view es))
    (member (string_bytes e.0) (view e.1) (with_member (string_bytes k) (view v) (members_view es)))
inserted_at Less k v e es ih = refl
inserted_at Equal k v e es ih = refl
inserted_at Greater k v e es ih = ap (λ ms. member (string_bytes e.0) (view e.1) ms) ih

-- what an insert into the map of a table makes of its members
pub view-inserted : (k : String Global) (v : Value) (es : List (String Global × Value))
    → members_view (insert_entry string_cmp es k v) ≡ with_member (string_bytes k) (view v) (members_view es)
view-inserted k v [] = refl
view-inserted k v (e ∷ es) = inserted_at (string_cmp k e.0) k v e es (view-inserted k v es)

small : (n : ℕ) → n < 4294967296 → nat_lt n 4294967296 ≡ true
small n h = grind (arith, h)

-- A task

pub task-back : (name : TableName) (t : TaskNumbers) → t.die < 4294967296 → t.cap < 4294967296 → t.terms.period < 4294967296
    → t.terms.deadline < 4294967296 → t.terms.held < 4294967296 → t.terms.work < 4294967296 → t.terms.writes < 4294967296
    → t.terms.collect_period < 4294967296 → t.terms.collect_deadline < 4294967296 → task_of name (task_members t) ≡ Ok t
unfolding task_of task_keys_of terms_in has_only
task-back name t a b c d e f g h i =
    rw (
      small t.die a,
      small t.cap b,
      small t.terms.period c,
      small t.terms.deadline d,
      small t.terms.held e,
      small t.terms.work f,
      small t.terms.writes g,
      small t.terms.collect_period h,
      small t.terms.collect_deadline i,
    ) refl

-- Tasks

-- a task and more that are read
read-parts : (a : Result TaskNumbers TermsRefusal) (b : Result (List TaskNumbers) TermsRefusal) (ts : List TaskNumbers)
    → (a >>= (λ t. b >>= (λ rest. Ok (t ∷ rest)))) ≡ Ok ts
    → (t : TaskNumbers) × (rest : List TaskNumbers) × (a ≡ Ok t) × (b ≡ Ok rest) × (ts ≡ t ∷ rest)
read-parts (Ok t) (Ok rest) ts is = (t, rest, refl, refl, sym (cc is))
read-parts (Ok t) (Err e) ts is = absurd (cc is)
read-parts (Err e) b ts is = absurd (cc is)

-- of no items there are none
pub tasks-none : (vs : List Value) (tasks : List TaskNumbers) → vs ≡ [] → tasks_of 0 (items_view vs) ≡ Ok (take 0 tasks)
unfolding tasks_of
tasks-none vs tasks none = rw none refl

-- one more task at the end
pub tasks-last : (vs : List Value) (i j : ℕ) (v : Value) (ts : List TaskNumbers) (t : TaskNumbers) → j ≡ i + length vs
    → tasks_of i (items_view vs) ≡ Ok ts → task_in j (as_table (view v)) ≡ Ok t → tasks_of i (items_view (vs ++ v ∷ [])) ≡ Ok (ts ++ t ∷ [])
unfolding tasks_of
tasks-last [] i j v ts t at before last =
    let same : j ≡ i = omega (arith, at) in
    let none : ts ≡ [] = sym (cc before) in
    rw (← same, last, none) refl
tasks-last (x ∷ vs) i j v ts t at before last =
    let parts = read-parts (task_in i (as_table (view x))) (tasks_of (i + 1) (items_view vs)) ts before in
    let next : j ≡ (i + 1) + length vs = omega (arith, at) in
    rw (parts.2, tasks-last vs (i + 1) j v parts.1 t next parts.3 last) (ap (λ all. Ok (all ++ t ∷ [])) (sym parts.4))

-- which is no deeper than the others
pub depth-last : (vs : List Value) (v : Value) → items_depth (items_view vs) ≤ 1 → depth (view v) ≤ 1
    → items_depth (items_view (vs ++ v ∷ [])) ≤ 1
depth-last [] v before last = max-le last (omega arith)
depth-last (x ∷ vs) v before last =
    max-le (omega (arith, le-max_left (depth (view x)) (items_depth (items_view vs)), before))
    (depth-last vs v (omega (arith, le-max_right (depth (view x)) (items_depth (items_view vs)), before)) last)

some-table : (i : ℕ) (found : Option Members) (t : TaskNumbers) → task_in i found ≡ Ok t → is_some found ≡ true
some-table i None t is = absurd (cc is)
some-table i (Some ms) t is = refl

-- what is read as tasks is tables
tables-read : (i : ℕ) (ds : Items) (ts : List TaskNumbers) → tasks_of i ds ≡ Ok ts → are_tables ds ≡ true
unfolding tasks_of are_tables
tables-read i no_items ts is = refl
tables-read i (item d ds) ts is =
    let parts = read-parts (task_in i (as_table d)) (tasks_of (i + 1) ds) ts is in
    rw (some-table i (as_table d) parts.0 parts.2, tables-read (i + 1) ds parts.1 parts.3) refl

-- A plan

pub plan-back : (top : TopNumbers) (ds : Items) (ts : List TaskNumbers) → top.dies < 4294967296 → top.blocks < 4294967296
    → top.pages < 4294967296 → top.erase_slots < 4294967296 → top.logical < 4294967296 → top.alpha < 4294967296
    → tasks_of 0 ds ≡ Ok ts → numbers_of (plan_members top ds) ≡ Ok (record { top = top; tasks = ts })
unfolding numbers_of top_of top_keys_of has_only
plan-back top ds ts a b c d e f is =
    rw (
      small top.dies a,
      small top.blocks b,
      small top.pages c,
      small top.erase_slots d,
      small top.logical e,
      small top.alpha f,
      tables-read 0 ds ts is,
      is,
    ) refl

pub plan-flat : (top : TopNumbers) (ds : Items) → items_depth ds ≤ 1 → members_depth (plan_members top ds) ≤ 80
plan-flat top ds few = omega (arith, few)

-- the numbers that were read are those of equal tasks
pub same-tasks : (read : Result TermsNumbers TermsRefusal) (top : TopNumbers) (a b : List TaskNumbers) → a ≡ b
    → read ≡ Ok (record { top = top; tasks = a }) → read ≡ Ok (record { top = top; tasks = b })
same-tasks read top a b is said = said ∙ ap (λ (tasks : List TaskNumbers). Ok (record { top = top; tasks = tasks })) is
