-- How the rows of a script are dealt to their dies as they are read.
use Rattle.std.proofs.Common.{◌≡◌, ◌≢◌, ◌⊎◌, inl, inr, ℕ, ◌+◌, ◌<◌, ◌≤◌, ◌==◌, Bool, true, false, cond, List, [], ◌∷◌, ◌++◌, refl, ap, sym, ◌∙◌, subst}
use Rattle.std.proofs.Common.{append_assoc, filter, replicate, get_or, length, length-append, arith, Option, Some, None, Ok, Err}
use Rattle.std.proofs.lemmas.Bool.{eq-eqb, eqb-true}
use Rattle.std.proofs.lemmas.List.{append-nil, length-set, length-replicate, get_or-replicate, get_or-set_same, get_or-set_other}
use Rattle.std.proofs.lemmas.List.{get_or_default}
use Rattle.std.specs.Prelude.{IfSome}
use Rattle.std.proofs.lemmas.List.Elements.{All-append, All-nil, All-push, filter-append}
use Rattle.std.proofs.lemmas.List.Folds.{sum_by-replicate}
use Rattle.std.proofs.lemmas.List.Sums.{sum_by-set}
use Rattle.std.proofs.Math.ListN.{set}
use Rattle.slot_types.specs.declared.refusals.Refusal.{Refusal}
use Rattle.slot_types.specs.declared.refusals.Refusal.TheVariants.{ReadFault}
use Rattle.text_base.specs.Readings.{IsOutside}
use Rattle.script_texts.specs.Arrivals.{IsHeadFor}
use Rattle.script_texts.specs.RowTexts.{RowText}
use Rattle.script_texts.specs.Script.{Gives, Reading}
use Rattle.task_script.specs.Feeds.{rows_dealt}
use Rattle.task_script.specs.RowTexts.{AreDealt, Ascend, HasReadTexts, LeavesOff, rows_then, texts_of}
use Rattle.task_script.specs.declared.feeds.ReadEnd.{ReadEnd}
use Rattle.task_script.specs.declared.feeds.ReadEnd.TheVariants.{More, Ended, Refused}

-- By die

abbrev is_of : ℕ → RowText → Bool
is_of die row = row.head.die == die

texts_one : (row : RowText) (die : ℕ) (b : Bool) → is_of die row ≡ b → filter (is_of die) (row ∷ []) ≡ cond b (row ∷ []) []
texts_one row die b e = ap (λ (c : Bool). cond c (row ∷ []) []) e

texts_with : (rows : List RowText) (row : RowText) (die : ℕ) (b : Bool) → is_of die row ≡ b → texts_of (rows ++ row ∷ []) die
    ≡ texts_of rows die ++ cond b (row ∷ []) []
texts_with rows row die b e = filter-append (is_of die) rows (row ∷ [])
    ∙ ap (λ (xs : List RowText). texts_of rows die ++ xs) (texts_one row die b e)

dealt_at : (rows : List RowText) (texts : List (List RowText)) (row : RowText) (die : ℕ) → row.head.die < length texts
    → get_or texts row.head.die [] ≡ texts_of rows row.head.die
    → (b : Bool) → is_of die row ≡ b → get_or texts die [] ≡ texts_of rows die
    → get_or (set texts row.head.die (get_or texts row.head.die [] ++ row ∷ [])) die [] ≡ texts_of (rows ++ row ∷ []) die
dealt_at rows texts row die below own true e other =
    let same : row.head.die ≡ die = eqb-true row.head.die die e in
    subst (λ d. get_or (set texts row.head.die (get_or texts row.head.die [] ++ row ∷ [])) d [] ≡ texts_of (rows ++ row ∷ []) d) same
    (get_or-set_same texts row.head.die _ [] below ∙ (ap (λ (xs : List RowText). xs ++ row ∷ []) own
    ∙ sym (texts_with rows row row.head.die true (ap (λ d. row.head.die == d) same ∙ e))))
dealt_at rows texts row die below own false e other =
    get_or-set_other texts row.head.die die _ [] (λ (same : die ≡ row.head.die). differs same e)
    ∙ (other ∙ (sym (append-nil (texts_of rows die)) ∙ sym (texts_with rows row die false e)))
  where
    differs : die ≡ row.head.die → is_of die row ≡ false → ⊥
    differs same is =
        let yes : is_of die row ≡ true = eq-eqb row.head.die die (sym same) in
        absurd cc

ascend_more : (from behind : ℕ) (rows : List RowText) (row : RowText) → Ascend from rows behind → behind ≤ row.head.line
    → Ascend from (rows ++ row ∷ []) (row.head.line + 1)
ascend_more from behind [] row up later = ((let first : from ≤ row.head.line = omega (arith, up, later) in first), omega arith)
ascend_more from behind (r ∷ rows) row up later = (up.0, ascend_more (r.head.line + 1) behind rows row up.1 later)

dealt_none : (dies slots from : ℕ) → AreDealt dies slots from from [] (replicate dies [])
dealt_none dies slots from = record {
  all = length-replicate dies [];
  own = λ die below. get_or-replicate dies die [] [] below;
  heads = All-nil (λ (row : RowText). IsHeadFor dies slots row.head);
  ascend = omega arith;
}

dealt_more : (dies slots from behind : ℕ) (rows : List RowText) (texts texts2 : List (List RowText)) (row : RowText)
    → IsHeadFor dies slots row.head → behind ≤ row.head.line
    → texts2 ≡ set texts row.head.die (get_or texts row.head.die [] ++ row ∷ []) → AreDealt dies slots from behind rows texts
    → AreDealt dies slots from (row.head.line + 1) (rows ++ row ∷ []) texts2
dealt_more dies slots from behind rows texts texts2 row head later is d =
    subst (AreDealt dies slots from (row.head.line + 1) (rows ++ row ∷ [])) (sym is) (record {
      all = length-set texts row.head.die _ ∙ d.all;
      own = λ die below. dealt_at rows texts row die within (d.own row.head.die head.0) (is_of die row) refl (d.own die below);
      heads = All-push (λ (r : RowText). IsHeadFor dies slots r.head) rows row d.heads head;
      ascend = ascend_more from behind rows row d.ascend later;
    })
  where
    within : row.head.die < length texts
    within = omega (arith, head.0, d.all)

-- Row by row of the script

-- these rows were read so far, of records from a number on and below a number
abbrev pub HasReadTo : Option (Reading RowText) → Option (Reading RowText) → ℕ → ℕ → ℕ → ℕ → List (List RowText) → Type 0
HasReadTo old left dies slots from line texts = HasReadTexts old left dies slots from line texts More

pub reads_none : (left : Option (Reading RowText)) (dies slots from line : ℕ) (texts : List (List RowText)) → texts ≡ replicate dies []
    → from ≤ line → HasReadTo left left dies slots from line texts
reads_none left dies slots from line texts is up = record {
  rows = [];
  behind = from;
  below = up;
  dealt = subst (AreDealt dies slots from from []) (sym is) (dealt_none dies slots from);
  read = by left;
}
  where
    by : (left : Option (Reading RowText)) → IfSome left (λ all. (more : Reading RowText) × (all ≡ rows_then [] more) × (left ≡ Some more))
    by None = tt
    by (Some all) = (all, refl, refl)

pub reads_row : (old left new : Option (Reading RowText)) (dies slots from line line2 : ℕ) (texts texts2 : List (List RowText)) (row : RowText)
    (was own : List RowText) → IsHeadFor dies slots row.head → (line ≤ row.head.line) × (line2 ≡ row.head.line + 1)
    → was ≡ get_or texts row.head.die was → own ≡ was ++ row ∷ [] → texts2 ≡ set texts row.head.die own → Gives left new (Ok (Some row))
    → HasReadTo old left dies slots from line texts → HasReadTo old new dies slots from line2 texts2
reads_row old left new dies slots from line line2 texts texts2 row was own head lines at grown is step h =
    let below : row.head.die < length texts = omega (arith, head.0, h.dealt.all) in
    let same : was ≡ get_or texts row.head.die [] = at ∙ get_or_default texts row.head.die was [] below in
    record {
      rows = h.rows ++ row ∷ [];
      behind = row.head.line + 1;
      below = omega (arith, lines.1);
      dealt = dealt_more dies slots from h.behind h.rows texts texts2 row head (omega (arith, h.below, lines.0)) (is
          ∙ ap (set texts row.head.die) (grown ∙ ap (λ (xs : List RowText). xs ++ row ∷ []) same)) h.dealt;
      read = by old h.read;
    }
  where
    given : (left : Option (Reading RowText)) (more all : Reading RowText) → left ≡ Some more → all ≡ rows_then h.rows more
        → Gives left new (Ok (Some row)) → (rest : Reading RowText) × (all ≡ rows_then (h.rows ++ row ∷ []) rest) × (new ≡ Some rest)
    given None more all left_is all_is step = absurd cc
    given (Some now) more all left_is all_is (rest, new_is, now_is) =
        let one : now ≡ more = cc in (
          rest,
          all_is ∙ (ap (rows_then h.rows) (sym one ∙ now_is)
              ∙ λ i. record { items = sym (append_assoc h.rows (row ∷ []) rest.items) i; fault = rest.fault }),
          new_is,
        )

    by : (old : Option (Reading RowText)) → IfSome old (λ all. (more : Reading RowText) × (all ≡ rows_then h.rows more) × (left ≡ Some more))
        → IfSome old (λ all. (more : Reading RowText) × (all ≡ rows_then (h.rows ++ row ∷ []) more) × (new ≡ Some more))
    by None read = tt
    by (Some all) (more, all_is, left_is) = given left more all left_is all_is step

-- nothing is left after them
pub reads_end : (old left new : Option (Reading RowText)) (dies slots from line next : ℕ) (texts : List (List RowText))
    → Gives left new (Ok None) → HasReadTo old left dies slots from line texts → HasReadTexts old new dies slots from next texts Ended
reads_end old left new dies slots from line next texts step h =
    record { rows = h.rows; behind = h.behind; below = tt; dealt = h.dealt; read = by old h.read }
  where
    given : (left : Option (Reading RowText)) (more : Reading RowText) → left ≡ Some more → Gives left new (Ok None) → LeavesOff new more Ended
    given None more left_is step = absurd cc
    given (Some now) more left_is step = let one : now ≡ more = cc in sym one ∙ step.0

    by : (old : Option (Reading RowText)) → IfSome old (λ all. (more : Reading RowText) × (all ≡ rows_then h.rows more) × (left ≡ Some more))
        → IfSome old (λ all. (more : Reading RowText) × (all ≡ rows_then h.rows more) × LeavesOff new more Ended)
    by None read = tt
    by (Some all) (more, all_is, left_is) = (more, all_is, given left more left_is step)

-- or a fault
pub reads_fault : (old left new : Option (Reading RowText)) (dies slots from line next : ℕ) (texts : List (List RowText)) (e : Refusal)
    → Gives left new (Err e) → HasReadTo old left dies slots from line texts
    → HasReadTexts old new dies slots from next texts (Refused e)
reads_fault old left new dies slots from line next texts e step h =
    record { rows = h.rows; behind = h.behind; below = tt; dealt = h.dealt; read = by old h.read }
  where
    given : (left : Option (Reading RowText)) (more : Reading RowText) → left ≡ Some more → Gives left new (Err e)
        → LeavesOff new more (Refused e)
    given None more left_is step = absurd cc
    given (Some now) more left_is (inl out) = inl out
    given (Some now) more left_is (inr is) = let one : now ≡ more = cc in inr (sym one ∙ is)

    by : (old : Option (Reading RowText)) → IfSome old (λ all. (more : Reading RowText) × (all ≡ rows_then h.rows more) × (left ≡ Some more))
        → IfSome old (λ all. (more : Reading RowText) × (all ≡ rows_then h.rows more) × LeavesOff new more (Refused e))
    by None read = tt
    by (Some all) (more, all_is, left_is) = (more, all_is, given left more left_is step)

-- where that is ReadFault, the reader of records has failed
pub of_reader : (old new : Bool) (e : Refusal) → (IsOutside e × (new ≡ true)) ⊎ ((e ≢ ReadFault) × (new ≡ old)) → e ≡ ReadFault → new ≡ true
of_reader old new e (inl (outside, failed)) is = failed
of_reader old new e (inr (other, same)) is = absurd (other is)

-- Batch by batch

-- the same of numbers that are called otherwise
pub texts_as : (old new : Option (Reading RowText)) (dies dies2 slots slots2 from next : ℕ) (texts : List (List RowText)) (end : ReadEnd)
    → dies ≡ dies2 → slots ≡ slots2 → HasReadTexts old new dies slots from next texts end → HasReadTexts old new dies2 slots2 from next texts end
texts_as old new dies dies2 slots slots2 from next texts end a b h =
    subst (λ (x : ℕ × ℕ). HasReadTexts old new x.0 x.1 from next texts end) (λ i. (a i, b i)) h

ascend_from : (low from behind : ℕ) (rows : List RowText) → low ≤ from → Ascend from rows behind → Ascend low rows behind
ascend_from low from behind [] less up = omega (arith, less, up)
ascend_from low from behind (row ∷ rows) less up = (omega (arith, less, up.0), up.1)

ascend_on : (from mid line behind : ℕ) (rows later : List RowText) → Ascend from rows mid → mid ≤ line → Ascend line later behind
    → Ascend from (rows ++ later) behind
ascend_on from mid line behind [] later up below more = ascend_from from line behind later (omega (arith, up, below)) more
ascend_on from mid line behind (row ∷ rows) later up below more =
    (up.0, ascend_on (row.head.line + 1) mid line behind rows later up.1 below more)

-- rows were read, and more from the next number on: these are all
pub reads_on : (old mid new : Option (Reading RowText)) (dies slots from line next : ℕ) (all texts more : List (List RowText)) (end : ReadEnd)
    → HasReadTexts old mid dies slots from line all More → HasReadTexts mid new dies slots line next texts end → length more ≡ dies
    → ((k : ℕ) → k < dies → get_or more k [] ≡ get_or all k [] ++ get_or texts k []) → HasReadTexts old new dies slots from next more end
reads_on old mid new dies slots from line next all texts more end h g many each = record {
  rows = h.rows ++ g.rows;
  behind = g.behind;
  below = g.below;
  dealt = record {
    all = many;
    own = λ die below. each die below ∙ (ap (λ (xs : List RowText). xs ++ get_or texts die []) (h.dealt.own die below)
        ∙ (ap (λ (xs : List RowText). texts_of h.rows die ++ xs) (g.dealt.own die below) ∙ sym (filter-append (is_of die) h.rows g.rows)));
    heads = All-append (λ (row : RowText). IsHeadFor dies slots row.head) h.rows g.rows h.dealt.heads g.dealt.heads;
    ascend = ascend_on from h.behind line g.behind h.rows g.rows h.dealt.ascend h.below g.dealt.ascend;
  };
  read = by old h.read;
}
  where
    given : (mid : Option (Reading RowText)) (left all : Reading RowText) → mid ≡ Some left → all ≡ rows_then h.rows left
        → IfSome mid (λ some. (rest : Reading RowText) × (some ≡ rows_then g.rows rest) × LeavesOff new rest end)
        → (rest : Reading RowText) × (all ≡ rows_then (h.rows ++ g.rows) rest) × LeavesOff new rest end
    given None left all left_is all_is later = absurd cc
    given (Some now) left all left_is all_is (rest, now_is, off) =
        let one : now ≡ left = cc in (
          rest,
          all_is ∙ (ap (rows_then h.rows) (sym one ∙ now_is)
              ∙ λ i. record { items = sym (append_assoc h.rows g.rows rest.items) i; fault = rest.fault }),
          off,
        )

    by : (old : Option (Reading RowText)) → IfSome old (λ all. (left : Reading RowText) × (all ≡ rows_then h.rows left) × (mid ≡ Some left))
        → IfSome old (λ all. (rest : Reading RowText) × (all ≡ rows_then (h.rows ++ g.rows) rest) × LeavesOff new rest end)
    by None read = tt
    by (Some all) (left, all_is, left_is) = given mid left all left_is all_is g.read

-- How many rows are dealt

pub few_none : (dies : ℕ) (texts : List (List RowText)) → texts ≡ replicate dies [] → rows_dealt texts ≤ 0
few_none dies texts is =
    omega (arith, ap rows_dealt is, sum_by-replicate (λ (xs : List RowText). length xs) dies [])

pub few_more : (texts texts2 : List (List RowText)) (row : RowText) (was own : List RowText) (n : ℕ) → row.head.die < length texts
    → was ≡ get_or texts row.head.die was → own ≡ was ++ row ∷ [] → texts2 ≡ set texts row.head.die own
    → rows_dealt texts ≤ n → rows_dealt texts2 ≤ n + 1
few_more texts texts2 row was own n below at grown is few =
    omega (
      arith,
      ap rows_dealt is,
      sum_by-set (λ (xs : List RowText). length xs) texts row.head.die own was below,
      ap (λ (xs : List RowText). length xs) at,
      ap (λ (xs : List RowText). length xs) grown,
      length-append was (row ∷ []),
      few,
    )
