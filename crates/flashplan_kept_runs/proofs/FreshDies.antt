-- Dies that are made one after the other.
use Rattle.std.proofs.Common.{◌≡◌, ℕ, suc, refl, ◌+◌, ◌<◌, ◌≤◌, List, [], ◌∷◌, ◌++◌, get_or, length, map, take, ap, sym, subst, ◌∙◌, arith}
use Rattle.std.specs.Prelude.{All}
use Rattle.std.specs.List.{AllZip}
use Rattle.std.proofs.lemmas.List.{length-map, map-append, take_more}
use Rattle.std.proofs.lemmas.List.Elements.{All-append, All-cons, All-nil}
use Rattle.task_script.proofs.Gathering.{zip_append}
use Rattle.flashplan_kept_runs.specs.KeptDies.{AreWithin, HasEmptyLog, KeptDie, KeptStart, begins_of}

-- one more of both
pub zip_push : {A B : Type 0} (R : A → B → Type 0) (xs : List A) (ys : List B) (x : A) (y : B) → AllZip R xs ys → R x y
    → AllZip R (xs ++ x ∷ []) (ys ++ y ∷ [])
zip_push R xs ys x y all one = zip_append R xs (x ∷ []) ys (y ∷ []) all (one, tt)

-- the next place of a list
pub zip_next : {A B : Type 0} (R : A → B → Type 0) (xs : List A) (ys : List B) (i : ℕ) (x : A) (y : B) → i < length xs → x ≡ get_or xs i x
    → AllZip R (take i xs) ys → R x y → AllZip R (take (i + 1) xs) (ys ++ y ∷ [])
zip_next {A} {B} R xs ys i x y below is all one =
    subst (λ (l : List A). AllZip R l (ys ++ y ∷ [])) (sym (take_more xs i x below))
    (subst (λ (z : A). AllZip R (take i xs ++ z ∷ []) (ys ++ y ∷ [])) is (zip_push R (take i xs) ys x y all one))

module _ {D : Type 0} (f : D → KeptDie) (dies : List D) (die : D) where
  both : map f (dies ++ die ∷ []) ≡ map f dies ++ f die ∷ []
  both = map-append f dies (die ∷ [])

  both_begin : begins_of (map f (dies ++ die ∷ [])) ≡ begins_of (map f dies) ++ (f die).begun ∷ []
  both_begin = ap begins_of both ∙ map-append (λ (d : KeptDie). d.begun) (map f dies) (f die ∷ [])

  pub zip_die : {P : Type 0} (R : P → KeptStart → Type 0) (plans : List P) (plan : P) → AllZip R plans (begins_of (map f dies))
      → R plan (f die).begun → AllZip R (plans ++ plan ∷ []) (begins_of (map f (dies ++ die ∷ [])))
  zip_die R plans plan all one = subst (λ (l : List KeptStart). AllZip R (plans ++ plan ∷ []) l) (sym both_begin)
      (zip_push R plans (begins_of (map f dies)) plan (f die).begun all one)

  pub empty_more : All HasEmptyLog (map f dies) → HasEmptyLog (f die) → All HasEmptyLog (map f (dies ++ die ∷ []))
  empty_more all one = subst (All HasEmptyLog) (sym both)
      (All-append HasEmptyLog (map f dies) (f die ∷ []) all (All-cons HasEmptyLog (f die) [] one (All-nil HasEmptyLog)))

  pub within_more : (slots : ℕ) → AreWithin slots (map f dies) → slots ≤ (f die).begun.life → AreWithin slots (map f (dies ++ die ∷ []))
  within_more slots all one = subst (λ (l : List KeptStart). All (λ (begun : KeptStart). slots ≤ begun.life) l)
      (sym both_begin)
      (All-append (λ (begun : KeptStart). slots ≤ begun.life) (begins_of (map f dies)) ((f die).begun ∷ []) all
      (All-cons (λ (begun : KeptStart). slots ≤ begun.life) (f die).begun [] one (All-nil (λ (begun : KeptStart). slots ≤ begun.life))))

-- there are as many of one as of the other
pub zip_length : {A B : Type 0} (R : A → B → Type 0) (xs : List A) (ys : List B) → AllZip R xs ys → length xs ≡ length ys
zip_length R [] [] all = refl
zip_length R [] (y ∷ ys) all = absurd all
zip_length R (x ∷ xs) [] all = absurd all
zip_length R (x ∷ xs) (y ∷ ys) all = ap suc (zip_length R xs ys all.1)

pub as_many : {D P : Type 0} (f : D → KeptDie) (R : P → KeptStart → Type 0) (plans : List P) (dies : List D)
    → AllZip R plans (begins_of (map f dies)) → length plans ≡ length dies
as_many f R plans dies all =
    zip_length R plans (begins_of (map f dies)) all ∙ (length-map (map f dies) (λ (d : KeptDie). d.begun) ∙ length-map dies f)

-- what is within a number of slots is within fewer
pub fewer_slots : (fewer slots : ℕ) (dies : List KeptDie) → fewer ≤ slots → AreWithin slots dies → AreWithin fewer dies
fewer_slots fewer slots dies le all = λ k d lt. omega (arith, le, all k d lt)
