-- The refusals of dies that ran what they were sent, and the one that is reported.
use Rattle.std.proofs.Common.{◌≡◌, ◌⊎◌, inl, inr, ℕ, zero, suc, ◌<◌, ◌≤◌, Bool, true, false, cond, List, [], ◌∷◌, refl, ap, sym, ◌∙◌, subst}
use Rattle.std.proofs.Common.{length, map, get_or, arith, Option, Some, None, Result, Ok, Err}
use Rattle.std.specs.Prelude.{IfSome, nat_le}
use Rattle.std.proofs.lemmas.Bool.{leb-true, leb-false}
use Rattle.std.proofs.lemmas.List.{length-map}
use Rattle.slot_types.specs.declared.plans.DiePlan.{DiePlan}
use Rattle.slot_types.specs.declared.refusals.Refusal.{Refusal}
use Rattle.slot_types.specs.declared.refusals.Refusal.TheVariants.{NoMemory}
use Rattle.script_texts.specs.RowTexts.{RowText}
use Rattle.script_texts.specs.Script.{Script}
use Rattle.script_texts.specs.declared.script_rows.ScriptItem.{ScriptItem}
use Rattle.task_script.specs.RanScripts.{AllRan, with_die, with_dies}
use Rattle.task_script.specs.RowRunners.{RunsBatches, rows_of_batches}
use Rattle.task_script.specs.RowTexts.{AreRead, FailsToRead, order_of, read_of}
use Rattle.task_script.specs.declared.row_batches.RowBatch.{RowBatch}
use Rattle.task_script.specs.declared.row_dies.RowDie.{RowDie}
use Rattle.task_script.specs.declared.row_runners.RowRunner.{RowRunner}

-- The refusal that is reported

-- it is the known one, or that of one of these dies, and comes before all others
record IsReported (known : Option Refusal) (dies : List Script) (e : Refusal) : Type 0 where
  whose : (known ≡ Some e) ⊎ ((place : ℕ) × (place < length dies) × (get_or dies place (Ok []) ≡ Err e))
  first : IfSome known (λ g. order_of e ≤ order_of g)
  least : (k : ℕ) (f : Refusal) → k < length dies → get_or dies k (Ok []) ≡ Err f → order_of e ≤ order_of f

-- with one die more
record IsWith (known : Option Refusal) (die : Script) (e : Refusal) : Type 0 where
  whose : (known ≡ Some e) ⊎ (die ≡ Err e)
  first : IfSome known (λ g. order_of e ≤ order_of g)
  own : (f : Refusal) → die ≡ Err f → order_of e ≤ order_of f

one_more : (known : Option Refusal) (die : Script) (e : Refusal) → with_die known die ≡ Some e → IsWith known die e
one_more known (Ok items) e is = record {
  whose = inl is;
  first = subst (λ (o : Option Refusal). IfSome o (λ g. order_of e ≤ order_of g)) (sym is) (omega arith);
  own = λ f apart. absurd cc;
}
one_more None (Err d) e is = let same : d ≡ e = cc in record {
  whose = inr (ap (λ (g : Refusal). Err g) same);
  first = tt;
  own = λ f also. let one : d ≡ f = cc in omega (arith, ap order_of one, ap order_of same);
}
one_more (Some g) (Err d) e is = by (nat_le (order_of g) (order_of d)) refl is
  where
    by : (b : Bool) → nat_le (order_of g) (order_of d) ≡ b → ◌≡◌ {A = Option Refusal} (cond b (Some g) (Some d)) (Some e)
        → IsWith (Some g) (Err d) e
    by true below is = let same : g ≡ e = cc in record {
      whose = inl is;
      first = omega (arith, ap order_of same);
      own = λ f also. let one : d ≡ f = cc in
          omega (arith, ap order_of one, ap order_of same, leb-true (order_of g) (order_of d) below);
    }
    by false above is = let same : d ≡ e = cc in record {
      whose = inr (ap (λ (g : Refusal). Err g) same);
      first = omega (arith, ap order_of same, leb-false (order_of g) (order_of d) above);
      own = λ f also. let one : d ≡ f = cc in omega (arith, ap order_of one, ap order_of same);
    }

none_more : (known : Option Refusal) (die : Script) → with_die known die ≡ None → (known ≡ None) × ((f : Refusal) → die ≡ Err f → ⊥)
none_more known (Ok items) is = (is, λ f apart. absurd cc)
none_more None (Err d) is = absurd cc
none_more (Some g) (Err d) is = by (nat_le (order_of g) (order_of d)) is
  where
    by : (b : Bool) → ◌≡◌ {A = Option Refusal} (cond b (Some g) (Some d)) None
        → (◌≡◌ {A = Option Refusal} (Some g) None) × ((f : Refusal) → ◌≡◌ {A = Script} (Err d) (Err f) → ⊥)
    by true is = absurd cc
    by false is = absurd cc

reported_none : (known : Option Refusal) (die : Script) (dies : List Script) (e : Refusal) → with_die known die ≡ None → IsReported None dies e
    → IsReported known (die ∷ dies) e
reported_none known die dies e at t = let none = none_more known die at in record {
  whose = by t.whose;
  first = subst (λ (o : Option Refusal). IfSome o (λ g. order_of e ≤ order_of g)) (sym none.0) tt;
  least = each none.1;
}
  where
    by : (None ≡ Some e) ⊎ ((place : ℕ) × (place < length dies) × (get_or dies place (Ok []) ≡ Err e))
        → (known ≡ Some e) ⊎ ((place : ℕ) × (place < length (die ∷ dies)) × (get_or (die ∷ dies) place (Ok []) ≡ Err e))
    by (inl apart) = absurd cc
    by (inr (place, below, is)) = inr (suc place, omega (arith, below), is)

    each : ((f : Refusal) → die ≡ Err f → ⊥) → (k : ℕ) (f : Refusal) → k < length (die ∷ dies) → get_or (die ∷ dies) k (Ok []) ≡ Err f
        → order_of e ≤ order_of f
    each ok zero f below is = absurd (ok f is)
    each ok (suc k) f below is = t.least k f (omega (arith, below)) is

reported_some : (known : Option Refusal) (die : Script) (dies : List Script) (e g : Refusal) → with_die known die ≡ Some g
    → IsReported (Some g) dies e → IsReported known (die ∷ dies) e
reported_some known die dies e g at t = let w = one_more known die g at in record {
  whose = by w.whose t.whose;
  first = before known w.first;
  least = each w.own;
}
  where
    by : (known ≡ Some g) ⊎ (die ≡ Err g)
        → (◌≡◌ {A = Option Refusal} (Some g) (Some e)) ⊎ ((place : ℕ) × (place < length dies) × (get_or dies place (Ok []) ≡ Err e))
        → (known ≡ Some e) ⊎ ((place : ℕ) × (place < length (die ∷ dies)) × (get_or (die ∷ dies) place (Ok []) ≡ Err e))
    by (inl was) (inl same) = inl (was ∙ same)
    by (inr here) (inl same) = let one : g ≡ e = cc in inr (0, omega arith, here ∙ ap (λ (h : Refusal). Err h) one)
    by w (inr (place, below, is)) = inr (suc place, omega (arith, below), is)

    before : (known : Option Refusal) → IfSome known (λ h. order_of g ≤ order_of h) → IfSome known (λ h. order_of e ≤ order_of h)
    before None h = tt
    before (Some h) later = omega (arith, later, t.first)

    each : ((f : Refusal) → die ≡ Err f → order_of g ≤ order_of f) → (k : ℕ) (f : Refusal) → k < length (die ∷ dies)
        → get_or (die ∷ dies) k (Ok []) ≡ Err f
        → order_of e ≤ order_of f
    each own zero f below is = omega (arith, own f is, t.first)
    each own (suc k) f below is = t.least k f (omega (arith, below)) is

reported : (known : Option Refusal) (dies : List Script) (e : Refusal) → with_dies known dies ≡ Some e → IsReported known dies e
reported known [] e is = record {
  whose = inl is;
  first = subst (λ (o : Option Refusal). IfSome o (λ g. order_of e ≤ order_of g)) (sym is) (omega arith);
  least = λ k f below at. absurd (omega (arith, below));
}
reported known (die ∷ dies) e is = by (with_die known die) refl (reported (with_die known die) dies e is)
  where
    by : (o : Option Refusal) → with_die known die ≡ o → IsReported o dies e → IsReported known (die ∷ dies) e
    by None at t = reported_none known die dies e at t
    by (Some g) at t = reported_some known die dies e g at t

-- Of dies that ran

-- whether a die was refused
abbrev seen : Result RowDie Refusal → Script
seen (Ok die) = Ok []
seen (Err e) = Err e

abbrev all_seen : List RowRunner → List Script
all_seen dies = map (λ (r : RowRunner). seen r.die) dies

seen_so : (known : Option Refusal) (die : Result RowDie Refusal) → with_die known die ≡ with_die known (seen die)
seen_so known (Ok die) = refl
seen_so None (Err e) = refl
seen_so (Some g) (Err e) = refl

seen_all : (known : Option Refusal) (dies : List RowRunner)
    → with_dies known (map (λ (r : RowRunner). r.die) dies) ≡ with_dies known (all_seen dies)
seen_all known [] = refl
seen_all known (r ∷ dies) = ap (λ (o : Option Refusal). with_dies o (map (λ (x : RowRunner). x.die) dies)) (seen_so known r.die)
    ∙ seen_all (with_die known (seen r.die)) dies

-- its rows were read, or not
abbrev Reads : Script → Script → Type 0
Reads (Ok none) said = (items : List ScriptItem) × (said ≡ Ok items)
Reads (Err e) said = (e ≡ NoMemory) ⊎ (said ≡ Err e)

reads : (plan : DiePlan) (batches : List RowBatch) (die : Result RowDie Refusal) → RunsBatches plan batches die
    → Reads (seen die) (read_of (rows_of_batches batches))
reads plan batches (Ok die) runs = (runs.0, runs.1)
reads plan batches (Err e) runs = runs

-- the rows that were sent to each
abbrev rows_all : List (List RowBatch) → List (List RowText)
rows_all sents = map rows_of_batches sents

reads_at : (plans : List DiePlan) (sents : List (List RowBatch)) (dies : List RowRunner) (k : ℕ) → AllRan plans sents dies → k < length dies
    → Reads (get_or (all_seen dies) k (Ok [])) (read_of (get_or (rows_all sents) k []))
reads_at plans sents [] k ran below = absurd (omega (arith, below))
reads_at [] [] (r ∷ dies) k ran below = absurd ran
reads_at [] (b ∷ sents) (r ∷ dies) k ran below = absurd ran
reads_at (plan ∷ plans) [] (r ∷ dies) k ran below = absurd ran
reads_at (plan ∷ plans) (b ∷ sents) (r ∷ dies) zero ran below = reads plan b r.die ran.0
reads_at (plan ∷ plans) (b ∷ sents) (r ∷ dies) (suc k) ran below = reads_at plans sents dies k ran.1 (omega (arith, below))

-- each die has its own
sent_long : (plans : List DiePlan) (sents : List (List RowBatch)) (dies : List RowRunner) → AllRan plans sents dies → length sents ≡ length dies
sent_long [] [] [] ran = refl
sent_long [] [] (r ∷ dies) ran = absurd ran
sent_long [] (b ∷ sents) dies ran = absurd ran
sent_long (plan ∷ plans) [] dies ran = absurd ran
sent_long (plan ∷ plans) (b ∷ sents) [] ran = absurd ran
sent_long (plan ∷ plans) (b ∷ sents) (r ∷ dies) ran = ap suc (sent_long plans sents dies ran.1)

-- what is reported is the first fault, or memory ran out
pub runs_refused : (plans : List DiePlan) (sents : List (List RowBatch)) (dies : List RowRunner) (e : Refusal) → AllRan plans sents dies
    → with_dies None (map (λ (r : RowRunner). r.die) dies) ≡ Some e → FailsToRead (rows_all sents) e
runs_refused plans sents dies e ran is = by t.whose
  where
    t : IsReported None (all_seen dies) e
    t = reported None (all_seen dies) e (sym (seen_all None dies) ∙ is)

    many : (length (all_seen dies) ≡ length dies) × (length (rows_all sents) ≡ length dies)
    many = (length-map dies (λ (r : RowRunner). seen r.die), length-map sents rows_of_batches ∙ sent_long plans sents dies ran)

    before : (k : ℕ) (f : Refusal) (r : Script) → k < length (all_seen dies) → get_or (all_seen dies) k (Ok []) ≡ r
        → read_of (get_or (rows_all sents) k []) ≡ Err f → Reads r (read_of (get_or (rows_all sents) k [])) → order_of e ≤ order_of f
    before k f (Ok none) below at fault (items, says) =
        let apart : ◌≡◌ {A = Script} (Ok items) (Err f) = sym says ∙ fault in absurd cc
    before k f (Err g) below at fault (inl memory) =
        let first = t.least k g below at in omega (arith, first, ap order_of memory)
    before k f (Err g) below at fault (inr says) =
        let same : ◌≡◌ {A = Script} (Err g) (Err f) = sym says ∙ fault in
        let one : g ≡ f = cc in
        let first = t.least k g below at in omega (arith, first, ap order_of one)

    found : (place : ℕ) → place < length dies → Reads (Err e) (read_of (get_or (rows_all sents) place []))
        → FailsToRead (rows_all sents) e
    found place below (inl memory) = inl memory
    found place below (inr fault) = inr (record {
      die = place;
      below = omega (arith, below, many.1);
      fault = fault;
      first = λ k f within theirs. before k f (get_or (all_seen dies) k (Ok [])) (omega (arith, within, many.0, many.1)) refl theirs
          (reads_at plans sents dies k ran (omega (arith, within, many.1)));
    })

    by : (None ≡ Some e) ⊎ ((place : ℕ) × (place < length (all_seen dies)) × (get_or (all_seen dies) place (Ok []) ≡ Err e))
        → FailsToRead (rows_all sents) e
    by (inl apart) = absurd cc
    by (inr (place, below, at)) = found place (omega (arith, below, many.0))
        (subst (λ (r : Script). Reads r (read_of (get_or (rows_all sents) place []))) at
        (reads_at plans sents dies place ran (omega (arith, below, many.0))))

-- where none was refused, all rows were read

stays : (e : Refusal) (dies : List Script) → with_dies (Some e) dies ≡ None → ⊥
stays e [] is = absurd cc
stays e (Ok x ∷ dies) is = stays e dies is
stays e (Err f ∷ dies) is = by (stays e dies) (stays f dies) (nat_le (order_of e) (order_of f)) is
  where
    by : (with_dies (Some e) dies ≡ None → ⊥) → (with_dies (Some f) dies ≡ None → ⊥) → (b : Bool)
        → with_dies (cond b (Some e) (Some f)) dies ≡ None → ⊥
    by own other true is = own is
    by own other false is = other is

pub runs_read : (plans : List DiePlan) (sents : List (List RowBatch)) (dies : List RowRunner) → AllRan plans sents dies
    → with_dies None (map (λ (r : RowRunner). r.die) dies) ≡ None
    → (items : List (List ScriptItem)) × AreRead (rows_all sents) items
runs_read plans sents dies ran is = by plans sents dies ran (sym (seen_all None dies) ∙ is)
  where
    first : (s said : Script) (rest : List Script) → Reads s said → with_dies None (s ∷ rest) ≡ None
        → ((items : List ScriptItem) × (said ≡ Ok items)) × (with_dies None rest ≡ None)
    first (Ok none) said rest reads is = (reads, is)
    first (Err e) said rest reads is = absurd (stays e rest is)

    by : (plans : List DiePlan) (sents : List (List RowBatch)) (dies : List RowRunner) → AllRan plans sents dies
        → with_dies None (all_seen dies) ≡ None → (items : List (List ScriptItem)) × AreRead (rows_all sents) items
    by [] [] [] ran is = ([], refl)
    by [] [] (r ∷ dies) ran is = absurd ran
    by [] (b ∷ sents) dies ran is = absurd ran
    by (plan ∷ plans) [] dies ran is = absurd ran
    by (plan ∷ plans) (b ∷ sents) [] ran is = absurd ran
    by (plan ∷ plans) (b ∷ sents) (r ∷ dies) ran is =
        let here = first (seen r.die) (read_of (rows_of_batches b)) (all_seen dies) (reads plan b r.die ran.0) is in
        let rest = by plans sents dies ran.1 here.1 in
        (here.0.0 ∷ rest.0, λ i. here.0.1 i ∷ rest.1 i)
