-- The tables of dies, one after the other.
use Rattle.std.proofs.Common.{◌≡◌, ◌∙◌, ap, sym, refl, subst, ℕ, ◌+◌, ◌<◌, ◌≤◌, List, [], ◌∷◌, ◌++◌, get_or, length, drop, arith}
use Rattle.std.proofs.lemmas.Grind.{common_steps}
use Rattle.std.proofs.lemmas.List.{append_assoc, drop_more}
use Rattle.flashplan_slot_times.specs.declared.units.Units.{Units}
use Rattle.flashplan_run_figures.specs.Tables.{table_text}
use Rattle.flashplan_run_figures.specs.declared.records.Records.{Records}
use Rattle.flashplan_watched_runs.specs.ReportText.{AreTables}

-- with the tables of the dies from this one on, a text is that of all
abbrev pub AreSoFar : Units → List Records → ℕ → List ℕ → Type 0
AreSoFar units all die text = (rest : List ℕ) → AreTables die units (drop die all) rest → AreTables 0 units all (text ++ rest)

pub none_yet : (units : Units) (all : List Records) (text : List ℕ) → text ≡ [] → AreSoFar units all 0 text
none_yet units all text is = rw is (λ (rest : List ℕ) (are : AreTables 0 units all rest). are)

together : (text table said rest new : List ℕ) → new ≡ text ++ table ++ said → text ++ (table ++ said ++ rest) ≡ new ++ rest
together text table said rest new is =
    ap (λ (xs : List ℕ). text ++ xs) (append_assoc table said rest)
    ∙ (sym (append_assoc text table (said ++ rest)) ∙ (sym (append_assoc (text ++ table) said rest)
    ∙ ap (λ (xs : List ℕ). xs ++ rest) (sym is)))

pub one_more : (units : Units) (all : List Records) (die : ℕ) (own : Records) (text said new : List ℕ) → own ≡ get_or all die own
    → die < length all → new ≡ text ++ table_text die own units ++ said → AreSoFar units all die text → AreSoFar units all (die + 1) new
one_more units all die own text said new is there pushed so_far = λ (rest : List ℕ) (are : AreTables (die + 1) units (drop (die + 1) all) rest).
    let left : drop die all ≡ own ∷ drop (die + 1) all =
    drop_more all die own there ∙ ap (λ (r : Records). r ∷ drop (die + 1) all) (sym is) in
    let tables : AreTables die units (own ∷ drop (die + 1) all) (table_text die own units ++ said ++ rest) = (said, rest, refl, are) in
    subst (AreTables 0 units all) (together text (table_text die own units) said rest new pushed)
    (so_far (table_text die own units ++ said ++ rest)
    (subst (λ (l : List Records). AreTables die units l (table_text die own units ++ said ++ rest)) (sym left) tables))

nothing_left : (all : List Records) (die : ℕ) → length all ≤ die → drop die all ≡ []
nothing_left all die done = grind (arith, common_steps)

nothing_after : (text : List ℕ) → text ++ [] ≡ text
nothing_after text = grind (arith, common_steps)

pub all_told : (units : Units) (all : List Records) (die : ℕ) (text : List ℕ) → length all ≤ die → AreSoFar units all die text
    → AreTables 0 units all text
all_told units all die text done so_far =
    subst (AreTables 0 units all) (nothing_after text)
    (so_far [] (subst (λ (l : List Records). AreTables die units l []) (sym (nothing_left all die done)) refl))
