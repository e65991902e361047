-- Batches one after the other ask a die for what one run asks it for.
use Rattle.std.proofs.Common.{◌≡◌, ℕ, zero, suc, ◌+◌, ◌<◌, ◌≤◌, max, nat_le, Bool, true, false, List, [], ◌∷◌, ◌++◌, refl, ap, sym, ◌∙◌}
use Rattle.std.proofs.Common.{map, append_assoc, arith, All}
use Rattle.std.proofs.lemmas.Bool.{leb-true, leb-false}
use Rattle.std.proofs.lemmas.List.{map-append}
use Rattle.std.proofs.lemmas.List.Elements.{All-nil, All-cons, All-weaker}
use Rattle.slot_types.specs.Arriving.{arrivals_by, arrivals_after}
use Rattle.slot_types.proofs.Arriving.{arrived_one, arrived_none, later_one, later_none}
use Rattle.script_texts.specs.declared.script_rows.ScriptItem.{ScriptItem}
use Rattle.task_script.specs.RowDies.{latest_slot}
use Rattle.task_script.specs.DieRuns.{ScriptCall, Row, Slot, row_slot, calls_from}

-- The last row

pub latest_all : (items : List ScriptItem) → All (λ item. item.at ≤ latest_slot items) items
latest_all [] = All-nil (λ (item : ScriptItem). item.at ≤ 0)
latest_all (item ∷ items) = All-cons (λ (i : ScriptItem). i.at ≤ max item.at (latest_slot items)) item items (omega arith)
    (All-weaker (λ (i : ScriptItem). i.at ≤ latest_slot items) (λ i. i.at ≤ max item.at (latest_slot items)) (λ i h. omega (arith, h)) items
    (latest_all items))

pub latest_more : (xs ys : List ScriptItem) → latest_slot (xs ++ ys) ≡ max (latest_slot xs) (latest_slot ys)
latest_more [] ys = omega arith
latest_more (x ∷ xs) ys = let rest = latest_more xs ys in omega (arith, rest)

-- What comes by a slot, of rows and of rows after them

module _ (slot : ℕ) where
  record Parts (xs ys : List ScriptItem) : Type 0 where
    now : arrivals_by row_slot slot (xs ++ ys) ≡ arrivals_by row_slot slot xs
    later : arrivals_after row_slot slot (xs ++ ys) ≡ arrivals_after row_slot slot xs ++ ys
    last : latest_slot (arrivals_after row_slot slot xs) ≡ latest_slot xs

  -- where one of the first rows comes later, so do those after them
  parts : (xs ys : List ScriptItem) → slot < latest_slot xs → Parts xs ys
  parts [] ys later = absurd (omega (arith, later))
  parts (x ∷ xs) ys later = by (nat_le x.at slot) refl (parts xs ys)
    where
      by : (b : Bool) → nat_le x.at slot ≡ b → (slot < latest_slot xs → Parts xs ys) → Parts (x ∷ xs) ys
      by true e beyond =
          let here : x.at ≤ slot = leb-true x.at slot e in
          let rest = beyond (omega (arith, later, here)) in
          let same : latest_slot xs ≡ max x.at (latest_slot xs) = omega (arith, later, here) in record {
            now = arrived_one row_slot slot x (xs ++ ys) here
                ∙ (ap (λ (l : List ScriptItem). x ∷ l) rest.now ∙ sym (arrived_one row_slot slot x xs here));
            later = later_one row_slot slot x (xs ++ ys) here
                ∙ (rest.later ∙ ap (λ (l : List ScriptItem). l ++ ys) (sym (later_one row_slot slot x xs here)));
            last = ap latest_slot (later_one row_slot slot x xs here) ∙ (rest.last ∙ same);
          }
      by false e beyond =
          let past : slot < x.at = leb-false x.at slot e in record {
            now = arrived_none row_slot slot x (xs ++ ys) past ∙ sym (arrived_none row_slot slot x xs past);
            later = later_none row_slot slot x (xs ++ ys) past
                ∙ ap (λ (l : List ScriptItem). l ++ ys) (sym (later_none row_slot slot x xs past));
            last = ap latest_slot (later_none row_slot slot x xs past);
          }

  -- where all of the first rows come by now
  all_now : (xs ys : List ScriptItem) → latest_slot xs ≤ slot → arrivals_by row_slot slot (xs ++ ys) ≡ xs ++ arrivals_by row_slot slot ys
  all_now [] ys due = refl
  all_now (x ∷ xs) ys due = arrived_one row_slot slot x (xs ++ ys) (omega (arith, due))
      ∙ ap (λ (l : List ScriptItem). x ∷ l) (all_now xs ys (omega (arith, due)))

  none_later : (xs ys : List ScriptItem) → latest_slot xs ≤ slot → arrivals_after row_slot slot (xs ++ ys) ≡ arrivals_after row_slot slot ys
  none_later [] ys due = refl
  none_later (x ∷ xs) ys due = later_one row_slot slot x (xs ++ ys) (omega (arith, due)) ∙ none_later xs ys (omega (arith, due))

-- Calls

begun : (m slot : ℕ) (xs ys : List ScriptItem) → latest_slot xs ≤ slot → map Row xs ++ calls_from slot m ys ≡ calls_from slot m (xs ++ ys)
begun zero slot xs ys due = sym (map-append Row xs ys)
begun (suc m) slot xs ys due =
    let beyond = Slot ∷ calls_from (slot + 1) m (arrivals_after row_slot slot ys) in
    sym (append_assoc (map Row xs) (map Row (arrivals_by row_slot slot ys)) beyond)
    ∙ (ap (λ (l : List ScriptCall). l ++ beyond)
    (sym (map-append Row xs (arrivals_by row_slot slot ys)) ∙ ap (map Row) (sym (all_now slot xs ys due)))
    ∙ ap (λ (l : List ScriptItem). map Row (arrivals_by row_slot slot (xs ++ ys)) ++ Slot ∷ calls_from (slot + 1) m l)
    (sym (none_later slot xs ys due)))

-- the calls of the first slots with the rows that come by their end, and then those of the other slots with the rows
-- after them
pub calls_join : (n m slot : ℕ) (xs ys : List ScriptItem) → latest_slot xs ≤ slot + n → (0 < n → slot + n ≤ latest_slot xs)
    → calls_from slot n xs ++ calls_from (slot + n) m ys ≡ calls_from slot (n + m) (xs ++ ys)
calls_join zero m slot xs ys due reach =
    let here : slot + 0 ≡ slot = omega arith in
    let all : m ≡ 0 + m = omega arith in
    ap (λ (s : ℕ). map Row xs ++ calls_from s m ys) here
    ∙ (begun m slot xs ys (omega (arith, due)) ∙ ap (λ (k : ℕ). calls_from slot k (xs ++ ys)) all)
calls_join (suc n) m slot xs ys due reach =
    let far : slot + suc n ≤ latest_slot xs = reach (omega arith) in
    let p = parts slot xs ys (omega (arith, far)) in
    let on : slot + suc n ≡ (slot + 1) + n = omega arith in
    let all : suc (n + m) ≡ suc n + m = omega arith in
    let front = map Row (arrivals_by row_slot slot xs) in
    let later = arrivals_after row_slot slot xs in
    append_assoc front (Slot ∷ calls_from (slot + 1) n later) (calls_from (slot + suc n) m ys)
    ∙ (ap (λ (s : ℕ). front ++ Slot ∷ (calls_from (slot + 1) n later ++ calls_from s m ys)) on
    ∙ (ap (λ (l : List ScriptCall). front ++ Slot ∷ l)
    (calls_join n m (slot + 1) later ys (omega (arith, due, p.last)) (λ some. omega (arith, far, p.last)))
    ∙ (ap (λ (l : List ScriptItem). map Row l ++ Slot ∷ calls_from (slot + 1) (n + m) (later ++ ys)) (sym p.now)
    ∙ (ap (λ (l : List ScriptItem). map Row (arrivals_by row_slot slot (xs ++ ys)) ++ Slot ∷ calls_from (slot + 1) (n + m) l) (sym p.later)
    ∙ ap (λ (k : ℕ). calls_from slot k (xs ++ ys)) all))))
