-- What rows of a script say once their operations are read, one after the other.
use Rattle.std.proofs.Common.{◌≡◌, ◌⊎◌, inl, inr, ℕ, suc, ◌+◌, ◌≤◌, ◌==◌, Bool, true, false, cond, List, [], ◌∷◌, ◌++◌}
use Rattle.std.proofs.Common.{refl, ap, sym, ◌∙◌, subst, length, drop, arith, Option, Some, None, Result, Ok, Err}
use Rattle.std.specs.Prelude.{All}
use Rattle.std.specs.List.{AllByRecursion, AllZip}
use Rattle.std.proofs.lemmas.List.{append-nil, drop_all}
use Rattle.std.proofs.lemmas.List.Elements.{All-drop, All-head}
use Rattle.slot_types.specs.Arrivals.{IsArrival}
use Rattle.slot_types.specs.declared.events.Event.{Event}
use Rattle.slot_types.specs.declared.events.Event.TheVariants.{Submit, Collect}
use Rattle.slot_types.specs.declared.events.Op.{Op}
use Rattle.slot_types.specs.declared.refusals.Cause.TheVariants as cause
use Rattle.slot_types.specs.declared.refusals.Refusal.{Refusal}
use Rattle.slot_types.specs.declared.refusals.Refusal.TheVariants.{NoMemory, ScriptRow}
use Rattle.text_base.specs.Ops.{ops_of, ops_or}
use Rattle.text_base.specs.Readings.{◌>>=◌}
use Rattle.script_texts.specs.Arrivals.{Arrives, IsHeadFor}
use Rattle.script_texts.specs.AskedPages.{AsksPages, RowHasPages, WritesPage}
use Rattle.script_texts.specs.RowTexts.{RowText, item_in, item_with}
use Rattle.script_texts.specs.Script.{Script, items_from, items_or, then_rest, whole, with_front}
use Rattle.script_texts.specs.ScriptRows.{event_of, fault}
use Rattle.script_texts.proofs.ScriptPages.{ops_found, ops_read}
use Rattle.script_texts.specs.declared.script_rows.ScriptItem.{ScriptItem}
use Rattle.task_script.specs.RowTexts.{order_of, read_of}
use Rattle.task_script.proofs.ReadSoFar.{items_more, with_items}

-- One row

-- a row of a script, of this head
pub record IsItemOf (row : RowText) (item : ScriptItem) : Type 0 where
  pub die : item.die ≡ row.head.die
  pub at : item.at ≡ row.head.at
  pub arrives : IsArrival item.event
  pub pages : RowHasPages item

written : (line : ℕ) (field : List ℕ) (ops : List Op) → ops_or line (ops_of field) ≡ Ok ops → All WritesPage ops
written line field ops at = ops_read field ops (ops_found line (ops_of field) ops at)

event_read : (line : ℕ) (c : Bool) (t r d : ℕ) (field : List ℕ) (event : Event) → event_of line c t r d field ≡ Ok event
    → IsArrival event × AsksPages event
event_read line true t r d field event e = by (length field == 0) e
  where
    by : (b : Bool) → ◌≡◌ {A = Result Event Refusal} (cond b (Ok (Collect t r d)) (fault line cause.Ops)) (Ok event)
        → IsArrival event × AsksPages event
    by true e = let same : Collect t r d ≡ event = cc in subst (λ (x : Event). IsArrival x × AsksPages x) same (tt, tt)
    by false e = absurd cc
event_read line false t r d field event e = by (ops_or line (ops_of field)) refl e
  where
    by : (o : Result (List Op) Refusal) → ops_or line (ops_of field) ≡ o → (o >>= (λ ops. Ok (Submit t r d ops))) ≡ Ok event
        → IsArrival event × AsksPages event
    by (Ok ops) at e = let same : Submit t r d ops ≡ event = cc in
        subst (λ (x : Event). IsArrival x × AsksPages x) same (tt, written line field ops at)
    by (Err f) at e = absurd cc

event_fault : (line : ℕ) (c : Bool) (t r d : ℕ) (field : List ℕ) (e : Refusal) → event_of line c t r d field ≡ Err e → order_of e ≡ line + 1
event_fault line true t r d field e is = by (length field == 0) is
  where
    by : (b : Bool) → ◌≡◌ {A = Result Event Refusal} (cond b (Ok (Collect t r d)) (fault line cause.Ops)) (Err e) → order_of e ≡ line + 1
    by true is = absurd cc
    by false is = let same : ScriptRow line cause.Ops ≡ e = cc in sym (ap order_of same)
event_fault line false t r d field e is = by (ops_of field) is
  where
    by : (o : Option (List Op)) → (ops_or line o >>= (λ ops. Ok (Submit t r d ops))) ≡ Err e → order_of e ≡ line + 1
    by None is = let same : ScriptRow line cause.Ops ≡ e = cc in sym (ap order_of same)
    by (Some ops) is = absurd cc

abbrev event_in : RowText → Result Event Refusal
event_in row = event_of row.head.line row.head.job.collects row.head.job.task row.head.job.release row.head.job.due row.ops

pub item_read : (row : RowText) (item : ScriptItem) → item_in row ≡ Ok item → IsItemOf row item
item_read row item e = by (event_in row) refl e
  where
    by : (r : Result Event Refusal) → event_in row ≡ r → (r >>= (λ event. Ok (item_with row.head event))) ≡ Ok item → IsItemOf row item
    by (Ok event) at e =
        let same : item_with row.head event ≡ item = cc in
        let said = event_read row.head.line row.head.job.collects row.head.job.task row.head.job.release row.head.job.due row.ops event at in
        subst (IsItemOf row) same (record { die = refl; at = refl; arrives = said.0; pages = said.1 })
    by (Err f) at e = absurd cc

pub item_fault : (row : RowText) (e : Refusal) → item_in row ≡ Err e → order_of e ≡ row.head.line + 1
item_fault row e is = by (event_in row) refl is
  where
    by : (r : Result Event Refusal) → event_in row ≡ r → (r >>= (λ event. Ok (item_with row.head event))) ≡ Err e
        → order_of e ≡ row.head.line + 1
    by (Ok event) at is = absurd cc
    by (Err f) at is =
        let same : f ≡ e = cc in
        event_fault row.head.line row.head.job.collects row.head.job.task row.head.job.release row.head.job.due row.ops e
        (at ∙ ap (λ (g : Refusal). Err g) same)

-- One after the other

-- a row, and then the others
abbrev pub after_row : Result ScriptItem Refusal → Script → Script
after_row (Ok item) more = with_front item more
after_row (Err e) more = Err e

front_or : (item : ScriptItem) (items : List ScriptItem) (last : Option Refusal)
    → items_or (item ∷ items) last ≡ with_front item (items_or items last)
front_or item items None = refl
front_or item items (Some e) = refl

pub whole_cons : (row : RowText) (rows : List RowText) (last : Option Refusal)
    → whole (items_from (row ∷ rows) last) ≡ after_row (item_in row) (whole (items_from rows last))
unfolding items_from
whole_cons row rows last = by (item_in row)
  where
    by : (r : Result ScriptItem Refusal)
        → whole (then_rest (λ x. items_from rows last) r) ≡ after_row r (whole (items_from rows last))
    by (Ok item) = front_or item (items_from rows last).items (items_from rows last).fault
    by (Err e) = refl

pub whole_nil : (last : Option Refusal) → whole (items_from [] last) ≡ items_or [] last
unfolding items_from
whole_nil last = refl

pub record AreParts (r : Result ScriptItem Refusal) (more : Script) (items : List ScriptItem) : Type 0 where
  pub item : ScriptItem
  pub rest : List ScriptItem
  pub first : r ≡ Ok item
  pub others : more ≡ Ok rest
  pub all : items ≡ item ∷ rest

after_ok : (r : Result ScriptItem Refusal) (more : Script) (items : List ScriptItem) → after_row r more ≡ Ok items → AreParts r more items
after_ok (Ok item) (Ok rest) items e = let same : item ∷ rest ≡ items = cc in
    record { item = item; rest = rest; first = refl; others = refl; all = sym same }
after_ok (Ok item) (Err f) items e = absurd cc
after_ok (Err f) more items e = absurd cc

pub after_err : (r : Result ScriptItem Refusal) (more : Script) (e : Refusal) → after_row r more ≡ Err e
    → (r ≡ Err e) ⊎ ((item : ScriptItem) × (r ≡ Ok item) × (more ≡ Err e))
after_err (Ok item) (Ok rest) e is = absurd cc
after_err (Ok item) (Err f) e is = let same : f ≡ e = cc in inr (item, refl, ap (λ (g : Refusal). Err g) same)
after_err (Err f) more e is = let same : f ≡ e = cc in inl (ap (λ (g : Refusal). Err g) same)

pub none_fail : (e : Refusal) → read_of [] ≡ Err e → ⊥
none_fail e is = let apart : ◌≡◌ {A = Script} (Ok []) (Err e) = sym (whole_nil None) ∙ is in absurd cc

pub none_read : (items : List ScriptItem) → read_of [] ≡ Ok items → items ≡ []
none_read items is = let same : ◌≡◌ {A = Script} (Ok []) (Ok items) = sym (whole_nil None) ∙ is in let e : [] ≡ items = cc in sym e

pub parts : (row : RowText) (rows : List RowText) (items : List ScriptItem) → read_of (row ∷ rows) ≡ Ok items
    → AreParts (item_in row) (read_of rows) items
parts row rows items is = after_ok (item_in row) (read_of rows) items (sym (whole_cons row rows None) ∙ is)

-- its first row is at fault, or one of the others
abbrev pub Fails : RowText → List RowText → Refusal → Type 0
Fails row rows e = (item_in row ≡ Err e) ⊎ ((item : ScriptItem) × (item_in row ≡ Ok item) × (read_of rows ≡ Err e))

pub fails : (row : RowText) (rows : List RowText) (e : Refusal) → read_of (row ∷ rows) ≡ Err e → Fails row rows e
fails row rows e is = after_err (item_in row) (read_of rows) e (sym (whole_cons row rows None) ∙ is)

-- the items of rows
pub zipped : (rows : List RowText) (items : List ScriptItem) → read_of rows ≡ Ok items → AllZip IsItemOf rows items
zipped [] items is = subst (AllZip IsItemOf []) (sym (none_read items is)) tt
zipped (row ∷ rows) items is = let p = parts row rows items is in
    subst (AllZip IsItemOf (row ∷ rows)) (sym p.all) (item_read row p.item p.first, zipped rows p.rest p.others)

pub as_many : (rows : List RowText) (items : List ScriptItem) → AllZip IsItemOf rows items → length items ≡ length rows
as_many [] [] zip = refl
as_many [] (item ∷ items) zip = absurd zip
as_many (row ∷ rows) [] zip = absurd zip
as_many (row ∷ rows) (item ∷ items) zip = ap suc (as_many rows items zip.1)

pub arrive : (rows : List RowText) (items : List ScriptItem) → AllZip IsItemOf rows items → AllByRecursion (λ (item : ScriptItem). IsArrival item.event) items
arrive [] [] zip = tt
arrive [] (item ∷ items) zip = absurd zip
arrive (row ∷ rows) [] zip = absurd zip
arrive (row ∷ rows) (item ∷ items) zip = (zip.0.arrives, arrive rows items zip.1)

pub arrive_by : (slots : ℕ) (rows : List RowText) (items : List ScriptItem) → AllByRecursion (λ (row : RowText). row.head.at ≤ slots) rows
    → AllZip IsItemOf rows items → AllByRecursion (Arrives slots) items
arrive_by slots [] [] by zip = tt
arrive_by slots [] (item ∷ items) by zip = absurd zip
arrive_by slots (row ∷ rows) [] by zip = absurd zip
arrive_by slots (row ∷ rows) (item ∷ items) by zip = (
  (let within : item.at ≤ slots = omega (arith, by.0, zip.0.at) in within, zip.0.arrives),
  arrive_by slots rows items by.1 zip.1,
)

pub in_time : (dies slots : ℕ) (rows : List RowText) (items : List ScriptItem) → AllByRecursion (λ (row : RowText). IsHeadFor dies slots row.head) rows
    → AllZip IsItemOf rows items → AllByRecursion (λ (item : ScriptItem). Arrives slots item × RowHasPages item) items
in_time dies slots [] [] heads zip = tt
in_time dies slots [] (item ∷ items) heads zip = absurd zip
in_time dies slots (row ∷ rows) [] heads zip = absurd zip
in_time dies slots (row ∷ rows) (item ∷ items) heads zip = (
  ((let within : item.at ≤ slots = omega (arith, heads.0.1, zip.0.at) in within, zip.0.arrives), zip.0.pages),
  in_time dies slots rows items heads.1 zip.1,
)

-- with more of the script after them

pub no_items : (s : Script) → s ≡ with_items [] s
no_items (Ok more) = refl
no_items (Err e) = refl

front_items : (item : ScriptItem) (items : List ScriptItem) (s : Script) → with_front item (with_items items s) ≡ with_items (item ∷ items) s
front_items item items (Ok more) = refl
front_items item items (Err e) = refl

pub read_then : (rows : List RowText) (items : List ScriptItem) → read_of rows ≡ Ok items → (more : List RowText) (last : Option Refusal)
    → whole (items_from (rows ++ more) last) ≡ with_items items (whole (items_from more last))
read_then [] items is more last = no_items (whole (items_from more last))
    ∙ ap (λ (xs : List ScriptItem). with_items xs (whole (items_from more last))) (sym (none_read items is))
read_then (row ∷ rows) items is more last = let p = parts row rows items is in
    whole_cons row (rows ++ more) last
    ∙ (ap (λ (r : Result ScriptItem Refusal). after_row r (whole (items_from (rows ++ more) last))) p.first
    ∙ (ap (with_front p.item) (read_then rows p.rest p.others more last)
    ∙ (front_items p.item p.rest (whole (items_from more last))
    ∙ ap (λ (xs : List ScriptItem). with_items xs (whole (items_from more last))) (sym p.all))))

pub fault_then : (rows : List RowText) (e : Refusal) → read_of rows ≡ Err e → (more : List RowText) (last : Option Refusal)
    → whole (items_from (rows ++ more) last) ≡ Err e
fault_then [] e is more last = absurd (none_fail e is)
fault_then (row ∷ rows) e is more last =
    whole_cons row (rows ++ more) last ∙ by (λ later. fault_then rows e later more last) (fails row rows e is)
  where
    by : (read_of rows ≡ Err e → whole (items_from (rows ++ more) last) ≡ Err e) → Fails row rows e
        → after_row (item_in row) (whole (items_from (rows ++ more) last)) ≡ Err e
    by again (inl here) = ap (λ (r : Result ScriptItem Refusal). after_row r (whole (items_from (rows ++ more) last))) here
    by again (inr (item, first, later)) =
        ap (λ (r : Result ScriptItem Refusal). after_row r (whole (items_from (rows ++ more) last))) first ∙ ap (with_front item) (again later)

-- Of one die, row by row

-- the next row is of the die of all
pub die_at : (die place : ℕ) (rows rest : List RowText) (row : RowText) → drop place rows ≡ row ∷ rest
    → All (λ (row : RowText). row.head.die ≡ die) rows → row.head.die ≡ die
die_at die place rows rest row left own = All-head (λ (row : RowText). row.head.die ≡ die) row rest
    (subst (All (λ (row : RowText). row.head.die ≡ die)) left (All-drop (λ (row : RowText). row.head.die ≡ die) place rows own))

module _ (W : Script) where
  -- so it goes on after these items, with the rows that are left
  abbrev pub IsReadBefore : List RowText → List ScriptItem → Type 0
  IsReadBefore left items = W ≡ with_items items (read_of left)

  -- one row more
  pub read_more_of : (left rest : List RowText) (row : RowText) (items : List ScriptItem) (item : ScriptItem) → left ≡ row ∷ rest
      → item_in row ≡ Ok item → IsReadBefore left items → IsReadBefore rest (items ++ item ∷ [])
  read_more_of left rest row items item next is so_far = so_far
      ∙ (ap (λ (rows : List RowText). with_items items (read_of rows)) next
      ∙ (ap (with_items items) (whole_cons row rest None ∙ ap (λ (r : Result ScriptItem Refusal). after_row r (read_of rest)) is)
      ∙ items_more items item (read_of rest)))

  -- or a fault, or memory ran out
  pub read_fault_of : (left rest : List RowText) (row : RowText) (items : List ScriptItem) (e : Refusal) → left ≡ row ∷ rest
      → IsReadBefore left items → (e ≡ NoMemory) ⊎ (item_in row ≡ Err e) → (e ≡ NoMemory) ⊎ (W ≡ Err e)
  read_fault_of left rest row items e next so_far (inl memory) = inl memory
  read_fault_of left rest row items e next so_far (inr is) = inr (so_far
      ∙ (ap (λ (rows : List RowText). with_items items (read_of rows)) next
      ∙ ap (with_items items) (whole_cons row rest None ∙ ap (λ (r : Result ScriptItem Refusal). after_row r (read_of rest)) is)))

  -- or the end
  pub read_all_of : (place : ℕ) (rows : List RowText) (items : List ScriptItem) → length rows ≤ place
      → IsReadBefore (drop place rows) items → W ≡ Ok items
  read_all_of place rows items past so_far = so_far
      ∙ (ap (λ (left : List RowText). with_items items (read_of left)) (drop_all place rows past)
      ∙ (ap (with_items items) (whole_nil None) ∙ ap (λ (xs : List ScriptItem). Ok xs) (append-nil items)))
