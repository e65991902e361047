-- What the rows of a script say once their operations are read, die by die.
use Rattle.std.proofs.Common.{◌≡◌, ◌⊎◌, inl, inr, ℕ, zero, suc, ◌+◌, ◌<◌, ◌≤◌, ◌==◌, Bool, true, false, cond, List, [], ◌∷◌, refl, ap, sym}
use Rattle.std.proofs.Common.{◌∙◌, subst, length, get_or, arith, None, Result, Ok, Err}
use Rattle.std.specs.Prelude.{All}
use Rattle.std.specs.List.{AllByRecursion}
use Rattle.std.proofs.lemmas.Bool.{eqb-true, eq-eqb}
use Rattle.std.proofs.lemmas.List.Elements.{All-filter, All-from_get_or, All-from_recursion, All-weaker, filter_passes}
use Rattle.std.proofs.lemmas.List.Elements.{recursion_from_All}
use Rattle.slot_types.specs.declared.limits.TheConstants.{MAX_SLOT}
use Rattle.slot_types.specs.declared.refusals.Refusal.{Refusal}
use Rattle.script_texts.specs.Arrivals.{Arrives, IsHeadFor}
use Rattle.script_texts.specs.AskedPages.{RowHasPages}
use Rattle.script_texts.specs.RowTexts.{RowText, item_in}
use Rattle.script_texts.specs.Script.{Script, with_front}
use Rattle.script_texts.specs.declared.script_rows.ScriptItem.{ScriptItem}
use Rattle.task_script.specs.Feeds.{feed_of}
use Rattle.task_script.specs.RowRunners.{AreInReach}
use Rattle.task_script.specs.RowTexts.{AreDealt, AreOfOneDie, AreRead, Ascend, IsFirstFault}
use Rattle.task_script.specs.RowTexts.{order_of, read_of, texts_of}
use Rattle.task_script.proofs.ReadSoFar.{IsDealt}
use Rattle.task_script.proofs.RowReading.{Fails, after_err, after_row, fails, in_time, item_fault, item_read}
use Rattle.task_script.proofs.RowReading.{none_fail, none_read, parts, whole_cons, whole_nil, zipped}

-- Each die by itself

own_row : (row : RowText) (rows : List RowText) (die : ℕ) → (row.head.die == die) ≡ true
    → read_of (texts_of (row ∷ rows) die) ≡ after_row (item_in row) (read_of (texts_of rows die))
own_row row rows die e = ap (λ (c : Bool). read_of (cond c (row ∷ texts_of rows die) (texts_of rows die))) e
    ∙ whole_cons row (texts_of rows die) None

other_row : (row : RowText) (rows : List RowText) (die : ℕ) → (row.head.die == die) ≡ false
    → read_of (texts_of (row ∷ rows) die) ≡ read_of (texts_of rows die)
other_row row rows die e = ap (λ (c : Bool). read_of (cond c (row ∷ texts_of rows die) (texts_of rows die))) e

feed_with : (item : ScriptItem) (items : List ScriptItem) (die : ℕ) (b : Bool) → (item.die == die) ≡ b
    → cond b (item ∷ feed_of items die) (feed_of items die) ≡ feed_of (item ∷ items) die
feed_with item items die b e = ap (λ (c : Bool). cond c (item ∷ feed_of items die) (feed_of items die)) (sym e)

-- where all are read, each die's are
read_by_die : (rows : List RowText) (items : List ScriptItem) (die : ℕ) → read_of rows ≡ Ok items
    → read_of (texts_of rows die) ≡ Ok (feed_of items die)
read_by_die [] items die is = whole_nil None ∙ ap (λ (xs : List ScriptItem). Ok (feed_of xs die)) (sym (none_read items is))
read_by_die (row ∷ rows) items die is =
    let p = parts row rows items is in
    by p.item p.rest p.first (read_by_die rows p.rest die p.others) (row.head.die == die) refl
    ∙ ap (λ (xs : List ScriptItem). Ok (feed_of xs die)) (sym p.all)
  where
    by : (item : ScriptItem) (rest : List ScriptItem) → item_in row ≡ Ok item → read_of (texts_of rows die) ≡ Ok (feed_of rest die)
        → (b : Bool) → (row.head.die == die) ≡ b → read_of (texts_of (row ∷ rows) die) ≡ Ok (feed_of (item ∷ rest) die)
    by item rest first later true e = own_row row rows die e
        ∙ (ap (λ (r : Result ScriptItem Refusal). after_row r (read_of (texts_of rows die))) first
        ∙ (ap (with_front item) later
        ∙ ap (λ (xs : List ScriptItem). Ok xs)
        (feed_with item rest die true (ap (λ (d : ℕ). d == die) (item_read row item first).die ∙ e))))
    by item rest first later false e = other_row row rows die e ∙ (later ∙ ap (λ (xs : List ScriptItem). Ok xs)
        (feed_with item rest die false (ap (λ (d : ℕ). d == die) (item_read row item first).die ∙ e)))

-- where one is at fault, a die has this fault
fault_by_die : (dies slots : ℕ) (rows : List RowText) (e : Refusal) → AllByRecursion (λ (row : RowText). IsHeadFor dies slots row.head) rows
    → read_of rows ≡ Err e → (die : ℕ) × (die < dies) × (read_of (texts_of rows die) ≡ Err e)
fault_by_die dies slots [] e heads is = absurd (none_fail e is)
fault_by_die dies slots (row ∷ rows) e heads is = by (λ later. fault_by_die dies slots rows e heads.1 later) (fails row rows e is)
  where
    behind : (die : ℕ) (item : ScriptItem) → item_in row ≡ Ok item → read_of (texts_of rows die) ≡ Err e → (b : Bool)
        → (row.head.die == die) ≡ b → read_of (texts_of (row ∷ rows) die) ≡ Err e
    behind die item first there true same = own_row row rows die same
        ∙ (ap (λ (r : Result ScriptItem Refusal). after_row r (read_of (texts_of rows die))) first ∙ ap (with_front item) there)
    behind die item first there false same = other_row row rows die same ∙ there

    by : (read_of rows ≡ Err e → (die : ℕ) × (die < dies) × (read_of (texts_of rows die) ≡ Err e)) → Fails row rows e
        → (die : ℕ) × (die < dies) × (read_of (texts_of (row ∷ rows) die) ≡ Err e)
    by again (inl here) = (
      row.head.die,
      heads.0.0,
      own_row row rows row.head.die (eq-eqb row.head.die row.head.die refl)
          ∙ ap (λ (r : Result ScriptItem Refusal). after_row r (read_of (texts_of rows row.head.die))) here,
    )
    by again (inr (item, first, later)) =
        let found = again later in (found.0, found.1, behind found.0 item first found.2 (row.head.die == found.0) refl)

-- a die's fault is in one of its records
fault_above : (from behind : ℕ) (rows : List RowText) (die : ℕ) (f : Refusal) → Ascend from rows behind
    → read_of (texts_of rows die) ≡ Err f → from < order_of f
fault_above from behind [] die f up is = absurd (none_fail f is)
fault_above from behind (row ∷ rows) die f up is =
    by (λ later. fault_above (row.head.line + 1) behind rows die f up.1 later) (row.head.die == die) refl
  where
    here : (read_of (texts_of rows die) ≡ Err f → row.head.line + 1 < order_of f) → Fails row (texts_of rows die) f → from < order_of f
    here again (inl own) = omega (arith, item_fault row f own, up.0)
    here again (inr (item, first, later)) = let above = again later in omega (arith, above, up.0)

    by : (read_of (texts_of rows die) ≡ Err f → row.head.line + 1 < order_of f) → (b : Bool) → (row.head.die == die) ≡ b
        → from < order_of f
    by again true same =
        here again (after_err (item_in row) (read_of (texts_of rows die)) f (sym (own_row row rows die same) ∙ is))
    by again false same = let above = again (sym (other_row row rows die same) ∙ is) in omega (arith, above, up.0)

-- it is the fault of all, or comes after it
first_by_die : (from behind : ℕ) (rows : List RowText) (die : ℕ) (e f : Refusal) → Ascend from rows behind → read_of rows ≡ Err e
    → read_of (texts_of rows die) ≡ Err f → (f ≡ e) ⊎ (order_of e < order_of f)
first_by_die from behind [] die e f up is there = absurd (none_fail e is)
first_by_die from behind (row ∷ rows) die e f up is there =
    by (λ later theirs. first_by_die (row.head.line + 1) behind rows die e f up.1 later theirs) (row.head.die == die) refl (fails row rows e is)
  where
    own : (row.head.die == die) ≡ true → Fails row (texts_of rows die) f
    own same = after_err (item_in row) (read_of (texts_of rows die)) f (sym (own_row row rows die same) ∙ there)

    later_fault : item_in row ≡ Err e → read_of (texts_of rows die) ≡ Err f → order_of e < order_of f
    later_fault here later = let above = fault_above (row.head.line + 1) behind rows die f up.1 later in
        omega (arith, above, item_fault row e here)

    at_first : item_in row ≡ Err e → Fails row (texts_of rows die) f → (f ≡ e) ⊎ (order_of e < order_of f)
    at_first here (inl own) = let both : ◌≡◌ {A = Result ScriptItem Refusal} (Err f) (Err e) = sym own ∙ here in
        let one : f ≡ e = cc in inl one
    at_first here (inr (item, ok, later)) = inr (later_fault here later)

    at_later : (read_of (texts_of rows die) ≡ Err f → (f ≡ e) ⊎ (order_of e < order_of f)) → (item : ScriptItem) → item_in row ≡ Ok item
        → Fails row (texts_of rows die) f → (f ≡ e) ⊎ (order_of e < order_of f)
    at_later again item ok (inl own) = let apart : ◌≡◌ {A = Result ScriptItem Refusal} (Ok item) (Err f) = sym ok ∙ own in absurd cc
    at_later again item ok (inr (item2, ok2, theirs)) = again theirs

    by : (read_of rows ≡ Err e → read_of (texts_of rows die) ≡ Err f → (f ≡ e) ⊎ (order_of e < order_of f)) → (b : Bool)
        → (row.head.die == die) ≡ b → Fails row rows e → (f ≡ e) ⊎ (order_of e < order_of f)
    by again true same (inl here) = at_first here (own same)
    by again false same (inl here) = inr (later_fault here (sym (other_row row rows die same) ∙ there))
    by again true same (inr (item, ok, later)) = at_later (again later) item ok (own same)
    by again false same (inr (item, ok, later)) = again later (sym (other_row row rows die same) ∙ there)

-- All dies

pub reads_length : (texts : List (List RowText)) (items : List (List ScriptItem)) → AreRead texts items → length items ≡ length texts
reads_length [] [] are = refl
reads_length [] (x ∷ items) are = absurd cc
reads_length (t ∷ texts) [] are = absurd cc
reads_length (t ∷ texts) (x ∷ items) are = let rest : AreRead texts items = cc in ap suc (reads_length texts items rest)

read_at : (texts : List (List RowText)) (items : List (List ScriptItem)) (k : ℕ) → AreRead texts items → k < length texts
    → read_of (get_or texts k []) ≡ Ok (get_or items k [])
read_at [] items k are below = absurd (omega (arith, below))
read_at (t ∷ texts) [] k are below = absurd cc
read_at (t ∷ texts) (x ∷ items) zero are below = let first : read_of t ≡ Ok x = cc in first
read_at (t ∷ texts) (x ∷ items) (suc k) are below = let rest : AreRead texts items = cc in read_at texts items k rest (omega (arith, below))

module _ (dies slots from behind : ℕ) (rows : List RowText) (texts : List (List RowText)) (d : AreDealt dies slots from behind rows texts) where
  pub one_die_each : All AreOfOneDie texts
  one_die_each = All-from_get_or AreOfOneDie texts [] (λ k below. (
    k,
    subst (All (λ (row : RowText). row.head.die ≡ k)) (sym (d.own k (omega (arith, below, d.all))))
        (All-weaker (λ (row : RowText). (row.head.die == k) ≡ true) (λ row. row.head.die ≡ k)
        (λ (row : RowText) same. eqb-true row.head.die k same) (texts_of rows k) (filter_passes (λ row. row.head.die == k) rows)),
  ))

  pub in_reach_each : slots ≤ MAX_SLOT → All AreInReach texts
  in_reach_each few = All-from_get_or AreInReach texts [] (λ k below.
      subst AreInReach (sym (d.own k (omega (arith, below, d.all))))
      (All-filter (λ (row : RowText). row.head.die == k) (λ row. row.head.at ≤ MAX_SLOT) rows
      (All-weaker (λ (row : RowText). IsHeadFor dies slots row.head) (λ row. row.head.at ≤ MAX_SLOT)
      (λ (row : RowText) h. omega (arith, h.1, few)) rows d.heads)))

  heads : AllByRecursion (λ (row : RowText). IsHeadFor dies slots row.head) rows
  heads = recursion_from_All (λ (row : RowText). IsHeadFor dies slots row.head) rows d.heads

  -- these rows' items, dealt to the dies
  pub record AreItemsDealt (items : List (List ScriptItem)) : Type 0 where
    pub all : List ScriptItem
    pub read : read_of rows ≡ Ok all
    pub dealt : IsDealt dies slots all items

  pub dealt_read : (items : List (List ScriptItem)) → AreRead texts items → AreItemsDealt items
  dealt_read items are = by (read_of rows) refl
    where
      IsInTime : ScriptItem → Type 0
      IsInTime item = Arrives slots item × RowHasPages item

      each : (k : ℕ) → k < dies → read_of (texts_of rows k) ≡ Ok (get_or items k [])
      each k below = sym (ap read_of (d.own k below)) ∙ read_at texts items k are (omega (arith, below, d.all))

      as_fed : (all : List ScriptItem) → read_of rows ≡ Ok all → (k : ℕ) → k < dies → get_or items k [] ≡ feed_of all k
      as_fed all is k below =
          let same : ◌≡◌ {A = Script} (Ok (get_or items k [])) (Ok (feed_of all k)) = sym (each k below) ∙ read_by_die rows all k is in
          let one : get_or items k [] ≡ feed_of all k = cc in one

      long : length items ≡ dies
      long = reads_length texts items are ∙ d.all

      fed : (P : ScriptItem → Type 0) (all : List ScriptItem) → read_of rows ≡ Ok all → All P all → All (All P) items
      fed P all is h = All-from_get_or (All P) items [] (λ k below.
          subst (All P) (sym (as_fed all is k (omega (arith, below, long)))) (All-filter (λ item. item.die == k) P all h))

      by : (s : Script) → read_of rows ≡ s → AreItemsDealt items
      by (Ok all) is =
          let timely = All-from_recursion IsInTime all
          (in_time dies slots rows all heads (zipped rows all is)) in
          record {
            all = all;
            read = is;
            dealt = record {
              all = long;
              rows = as_fed all is;
              arrive = fed (Arrives slots) all is (All-weaker IsInTime (Arrives slots) (λ item h. h.0) all timely);
              pages = fed RowHasPages all is (All-weaker IsInTime RowHasPages (λ item h. h.1) all timely);
            };
          }
      by (Err e) is =
          let found = fault_by_die dies slots rows e heads is in
          let apart : ◌≡◌ {A = Script} (Ok (get_or items found.0 [])) (Err e) = sym (each found.0 found.1) ∙ found.2 in absurd cc

  pub dealt_fails : (e : Refusal) → IsFirstFault texts e → read_of rows ≡ Err e
  dealt_fails e f = by (read_of rows) refl
    where
      within : f.die < dies
      within = omega (arith, f.below, d.all)

      theirs : read_of (texts_of rows f.die) ≡ Err e
      theirs = sym (ap read_of (d.own f.die within)) ∙ f.fault

      least : (g : Refusal) → (die : ℕ) × (die < dies) × (read_of (texts_of rows die) ≡ Err g) → order_of e ≤ order_of g
      least g (die, below, is) = f.first die g (omega (arith, below, d.all)) (ap read_of (d.own die below) ∙ is)

      one : (g : Refusal) → read_of rows ≡ Err g → (e ≡ g) ⊎ (order_of g < order_of e) → read_of rows ≡ Err e
      one g is (inl same) = is ∙ ap (λ (x : Refusal). Err x) (sym same)
      one g is (inr later) = let least = least g (fault_by_die dies slots rows g heads is) in absurd (omega (arith, later, least))

      by : (s : Script) → read_of rows ≡ s → read_of rows ≡ Err e
      by (Ok all) is = let apart : ◌≡◌ {A = Script} (Ok (feed_of all f.die)) (Err e) = sym (read_by_die rows all f.die is) ∙ theirs in absurd cc
      by (Err g) is = one g is (first_by_die from behind rows f.die g e d.ascend is theirs)
