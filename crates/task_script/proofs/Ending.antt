-- Dies that have run a script, one by one, at its end.
use Rattle.std.proofs.Common.{◌≡◌, ◌∙◌, ◌+◌, ◌≤◌, List, [], ◌∷◌, ◌++◌, ap, append_assoc, append-nil, arith, map, refl, sym, Result, Ok}
use Rattle.std.proofs.lemmas.List.{map-append}
use Rattle.std.proofs.lemmas.List.Sums.{sum_by-cons}
use Rattle.flash_die.specs.Memory.{Memory}
use Rattle.slot_core.specs.Core.{Core}
use Rattle.slot_types.specs.declared.refusals.Refusal.{Refusal}
use Rattle.task_script.specs.RanScripts.{joined_after, total_rows}
use Rattle.task_script.specs.RowDies.{core_of}
use Rattle.task_script.specs.RunCounts.{count_of, rows_in, sum_of_counts}
use Rattle.task_script.specs.declared.row_dies.RowDie.{RowDie}
use Rattle.task_script.specs.declared.row_runners.RowRunner.{RowRunner}
use Rattle.task_script.specs.declared.run_counts.RunCount.{RunCount}

abbrev Ran : Type 0
Ran = Result RowDie Refusal

dies_in : List RowRunner → List Ran
dies_in runners = map (λ (r : RowRunner). r.die) runners

-- these runners are left of those with these dies, and these are the dies and the count of the others
pub record AreLeft (dies : List RowDie) (left : List RowRunner) (cores : List (Core Memory)) (count : RunCount) : Type 0 where
  pub done : List RowDie
  pub rest : List RowDie
  pub all : dies ≡ done ++ rest
  pub whole : map (λ (r : RowRunner). r.die) left ≡ map Ok rest
  pub cores_are : cores ≡ map core_of done
  pub counted : joined_after count rest ≡ joined_after (count_of []) dies
  pub few : rows_in count + total_rows rest ≡ total_rows dies

pub all_left : (dies : List RowDie) (left : List RowRunner) (cores : List (Core Memory)) (count : RunCount)
    → map (λ (r : RowRunner). r.die) left ≡ map Ok dies → cores ≡ [] → count ≡ count_of [] → AreLeft dies left cores count
all_left dies left cores count whole none zero = record {
  done = [];
  rest = dies;
  all = refl;
  whole = whole;
  cores_are = none;
  counted = ap (λ c. joined_after c dies) zero;
  few = ap (λ c. rows_in c + total_rows dies) zero ∙ omega arith;
}

-- the next one has a die
pub record IsNext (dies : List RowDie) (cores : List (Core Memory)) (count : RunCount) (r : RowRunner) (later : List RowRunner) : Type 0 where
  pub die : RowDie
  pub is : r.die ≡ Ok die
  pub few : rows_in count + rows_in die.count ≤ total_rows dies
  pub after : (cores2 : List (Core Memory)) (count2 : RunCount) → cores2 ≡ cores ++ core_of die ∷ [] → count2 ≡ sum_of_counts count die.count
      → rows_in count2 ≡ rows_in count + rows_in die.count → AreLeft dies later cores2 count2

pub next_die : (dies : List RowDie) (left later : List RowRunner) (cores : List (Core Memory)) (count : RunCount) (r : RowRunner)
    → left ≡ r ∷ later → AreLeft dies left cores count → IsNext dies cores count r later
next_die dies left later cores count r is l = by l.rest refl
  where
    whole : map (λ (x : RowRunner). x.die) (r ∷ later) ≡ map Ok l.rest
    whole = ap (map (λ (x : RowRunner). x.die)) (sym is) ∙ l.whole

    by : (rest : List RowDie) → l.rest ≡ rest → IsNext dies cores count r later
    by [] none = let apart : map (λ (x : RowRunner). x.die) (r ∷ later) ≡ [] = whole ∙ ap (map Ok) none in absurd cc
    by (d ∷ ds) some =
        let both : r.die ∷ map (λ (x : RowRunner). x.die) later ≡ Ok d ∷ map Ok ds = whole ∙ ap (map Ok) some in
        let first : r.die ≡ Ok d = cc in
        let others : map (λ (x : RowRunner). x.die) later ≡ map Ok ds = cc in
        let few : rows_in count + total_rows (d ∷ ds) ≡ total_rows dies = ap (λ (xs : List RowDie). rows_in count + total_rows xs) (sym some) ∙ l.few in
        let sums = sum_by-cons (λ (x : RowDie). rows_in x.count) d ds in record {
          die = d;
          is = first;
          few = omega (arith, few, sums);
          after = λ cores2 count2 more joined rows. record {
            done = l.done ++ d ∷ [];
            rest = ds;
            all = l.all ∙ (ap (λ (xs : List RowDie). l.done ++ xs) some ∙ sym (append_assoc l.done (d ∷ []) ds));
            whole = others;
            cores_are = more ∙ (ap (λ xs. xs ++ core_of d ∷ []) l.cores_are ∙ sym (map-append core_of l.done (d ∷ [])));
            counted = ap (λ c. joined_after c ds) joined ∙ (ap (joined_after count) (sym some) ∙ l.counted);
            few = omega (arith, few, sums, rows);
          };
        }

-- at the end none is left
pub none_left : (dies : List RowDie) (left : List RowRunner) (cores : List (Core Memory)) (count : RunCount) → left ≡ []
    → AreLeft dies left cores count → (cores ≡ map core_of dies) × (count ≡ joined_after (count_of []) dies)
none_left dies left cores count none l = by l.rest refl
  where
    whole : ◌≡◌ {A = List Ran} [] (map Ok l.rest)
    whole = ap (map (λ (x : RowRunner). x.die)) (sym none) ∙ l.whole

    by : (rest : List RowDie) → l.rest ≡ rest → (cores ≡ map core_of dies) × (count ≡ joined_after (count_of []) dies)
    by [] is =
        let all : dies ≡ l.done = l.all ∙ (ap (λ (xs : List RowDie). l.done ++ xs) is ∙ append-nil l.done) in
        (l.cores_are ∙ ap (map core_of) (sym all), ap (joined_after count) (sym is) ∙ l.counted)
    by (d ∷ ds) is = let apart : ◌≡◌ {A = List Ran} [] (Ok d ∷ map Ok ds) = whole ∙ ap (map Ok) is in absurd cc

pub same_die : (d e : RowDie) (die : Ran) → die ≡ Ok d → die ≡ Ok e → d ≡ e
same_die d e die first second = let both : ◌≡◌ {A = Ran} (Ok d) (Ok e) = sym first ∙ second in let one : d ≡ e = cc in one

pub rows_joined : (a b : RunCount) → rows_in (sum_of_counts a b) ≡ rows_in a + rows_in b
rows_joined a b = omega arith
