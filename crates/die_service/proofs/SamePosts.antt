-- Runners that stay the same while they run, and how they are shared among workers.
use Rattle.std.proofs.Common.{◌≡◌, ℕ, zero, suc, ◌<◌, List, [], ◌∷◌, ◌++◌, refl, ap, sym, subst, ◌∙◌, arith, append-nil, append_assoc, drop, get_or, length, set, take}
use Rattle.std.proofs.lemmas.List.{take-append-drop}
use Rattle.std.proofs.lemmas.Slice.Zip.{AllZip-long}
use Rattle.std.specs.List.{AllZip}
use Rattle.die_service.proofs.LastPasses.{written}
use Rattle.die_service.specs.Posts.{IsSamePost}
use Rattle.die_service.specs.Shares.{AreSharesOf, IsShareOf, StaysShare}
use Rattle.die_service.specs.Posts.{PostState}
use Rattle.die_service.specs.declared.shares.Share.{Share}

pub zip_append : {A B : Type 0} (R : A → B → Type 0) (us vs : List A) (xs ys : List B) → AllZip R us xs → AllZip R vs ys
    → AllZip R (us ++ vs) (xs ++ ys)
zip_append R [] vs [] ys first second = second
zip_append R [] vs (x ∷ xs) ys first second = absurd first
zip_append R (u ∷ us) vs [] ys first second = absurd first
zip_append R (u ∷ us) vs (x ∷ xs) ys first second = (first.0, zip_append R us vs xs ys first.1 second)

module _ {M B : Type 0} (runs : M → B → M → Type 0) where
  pub same_post_refl : (die : PostState M B) → IsSamePost runs die die
  same_post_refl die = (((refl, refl, refl, refl), refl), λ first ran. ran)

  pub same_post_trans : (a b c : PostState M B) → IsSamePost runs a b → IsSamePost runs b c → IsSamePost runs a c
  same_post_trans a b c first second =
      (((cc, cc, cc, cc), cc), λ m ran. second.1 m (first.1 m ran))

  -- Lists of dies

  pub all_same_refl : (dies : List (PostState M B)) → AllZip (IsSamePost runs) dies dies
  all_same_refl [] = tt
  all_same_refl (die ∷ dies) = (same_post_refl die, all_same_refl dies)

  pub all_same_trans : (xs ys zs : List (PostState M B)) → AllZip (IsSamePost runs) xs ys → AllZip (IsSamePost runs) ys zs → AllZip (IsSamePost runs) xs zs
  all_same_trans [] [] [] first second = tt
  all_same_trans [] [] (z ∷ zs) first second = absurd second
  all_same_trans [] (y ∷ ys) zs first second = absurd first
  all_same_trans (x ∷ xs) [] zs first second = absurd first
  all_same_trans (x ∷ xs) (y ∷ ys) [] first second = absurd second
  all_same_trans (x ∷ xs) (y ∷ ys) (z ∷ zs) first second =
      (same_post_trans x y z first.0 second.0, all_same_trans xs ys zs first.1 second.1)

  -- One die of a list that ran on

  pub all_same_set : (dies : List (PostState M B)) (k : ℕ) (die new : PostState M B) → k < length dies → IsSamePost runs (get_or dies k die) new
      → AllZip (IsSamePost runs) dies (set dies k new)
  all_same_set [] k die new below same = absurd (omega (arith, below))
  all_same_set (d ∷ dies) zero die new below same = (same, all_same_refl dies)
  all_same_set (d ∷ dies) (suc k) die new below same = (same_post_refl d, all_same_set dies k die new (omega (arith, below)) same)

  -- Shares of dies

  pub all_stay_refl : (shares : List (Share M B)) → AllZip (StaysShare runs) shares shares
  all_stay_refl [] = tt
  all_stay_refl (share ∷ shares) = (λ dies is. is, all_stay_refl shares)

  pub all_stay_trans : (xs ys zs : List (Share M B)) → AllZip (StaysShare runs) xs ys → AllZip (StaysShare runs) ys zs → AllZip (StaysShare runs) xs zs
  all_stay_trans [] [] [] first second = tt
  all_stay_trans [] [] (z ∷ zs) first second = absurd second
  all_stay_trans [] (y ∷ ys) zs first second = absurd first
  all_stay_trans (x ∷ xs) [] zs first second = absurd first
  all_stay_trans (x ∷ xs) (y ∷ ys) [] first second = absurd second
  all_stay_trans (x ∷ xs) (y ∷ ys) (z ∷ zs) first second =
      (λ dies is. second.0 dies (first.0 dies is), all_stay_trans xs ys zs first.1 second.1)

  pub all_stay_set : (shares : List (Share M B)) (k : ℕ) (share new : Share M B) → k < length shares → StaysShare runs (get_or shares k share) new
      → AllZip (StaysShare runs) shares (set shares k new)
  all_stay_set [] k share new below same = absurd (omega (arith, below))
  all_stay_set (s ∷ shares) zero share new below same = (same, all_stay_refl shares)
  all_stay_set (s ∷ shares) (suc k) share new below same =
      (λ dies is. is, all_stay_set shares k share new (omega (arith, below)) same)

  -- dies are given to one more
  pub one_more : (dies own : List (PostState M B)) (shares : List (Share M B)) (share : Share M B) → AreSharesOf runs dies shares → IsShareOf runs own share
      → AreSharesOf runs (dies ++ own) (shares ++ share ∷ [])
  one_more dies own [] share are is = (own, [], ap (λ (first : List (PostState M B)). first ++ own) are ∙ sym (append-nil own), is, refl)
  one_more dies own (s ∷ shares) share are is = (
    are.0,
    are.1 ++ own,
    ap (λ (first : List (PostState M B)). first ++ own) are.2 ∙ append_assoc are.0 are.1 own,
    are.3,
    one_more are.1 own shares share are.4 is,
  )

  -- so do some of those that are left
  pub shared_more : (dies given left own later : List (PostState M B)) (shares news : List (Share M B)) (share : Share M B) → dies ≡ given ++ left
      → AreSharesOf runs given shares → left ≡ own ++ later → IsShareOf runs own share → news ≡ shares ++ share ∷ []
      → (now : List (PostState M B)) × (dies ≡ now ++ later) × AreSharesOf runs now news
  shared_more dies given left own later shares news share all are parts is now = (
    given ++ own,
    all ∙ (ap (λ (rest : List (PostState M B)). given ++ rest) parts ∙ sym (append_assoc given own later)),
    subst (λ (ss : List (Share M B)). AreSharesOf runs (given ++ own) ss) (sym now) (one_more given own shares share are is),
  )

  -- and all that are left
  pub shared_last : (dies given left : List (PostState M B)) (shares news : List (Share M B)) (share : Share M B) → dies ≡ given ++ left
      → AreSharesOf runs given shares → IsShareOf runs left share → news ≡ shares ++ share ∷ [] → AreSharesOf runs dies news
  shared_last dies given left shares news share all are is now =
      subst (λ (ds : List (PostState M B)). AreSharesOf runs ds news) (sym all)
      (subst (λ (ss : List (Share M B)). AreSharesOf runs (given ++ left) ss) (sym now) (one_more given left shares share are is))

  -- what the first of some shares have, and what the last one has
  pub record Last (dies : List (PostState M B)) (shares : List (Share M B)) (share : Share M B) : Type 0 where
    pub before : List (PostState M B)
    pub own : List (PostState M B)
    pub all : dies ≡ before ++ own
    pub first : AreSharesOf runs before shares
    pub last : IsShareOf runs own share

  pub last_of : (dies : List (PostState M B)) (shares : List (Share M B)) (share : Share M B) → AreSharesOf runs dies (shares ++ share ∷ []) → Last dies shares share
  last_of dies [] share are = record {
    before = [];
    own = are.0;
    all = are.2 ∙ (ap (λ (later : List (PostState M B)). are.0 ++ later) are.4 ∙ append-nil are.0);
    first = refl;
    last = are.3;
  }
  last_of dies (s ∷ shares) share are = let rest = last_of are.1 shares share are.4 in record {
    before = are.0 ++ rest.before;
    own = rest.own;
    all = are.2 ∙ (ap (λ (later : List (PostState M B)). are.0 ++ later) rest.all ∙ sym (append_assoc are.0 rest.before rest.own));
    first = (are.0, rest.before, refl, are.3, rest.first);
    last = rest.last;
  }

  -- the dies of one more worker come after those of the others
  pub gathers : (shares : List (Share M B)) (share : Share M B) (all own both : List (PostState M B)) → both ≡ all ++ own
      → ((dies : List (PostState M B)) → AreSharesOf runs dies shares → AllZip (IsSamePost runs) dies all)
      → ((dies : List (PostState M B)) → IsShareOf runs dies share → AllZip (IsSamePost runs) dies own)
      → (dies : List (PostState M B)) → AreSharesOf runs dies (shares ++ share ∷ []) → AllZip (IsSamePost runs) dies both
  gathers shares share all own both is so_far one dies are =
      let l = last_of dies shares share are in
      subst (λ (ds : List (PostState M B)). AllZip (IsSamePost runs) dies ds) (sym is)
      (subst (λ (ds : List (PostState M B)). AllZip (IsSamePost runs) ds (all ++ own)) (sym l.all)
      (zip_append (IsSamePost runs) l.before l.own all own (so_far l.before l.first) (one l.own l.last)))

  -- one share of a list that stays one
  pub all_stay_at : (first olds news : List (Share M B)) (k : ℕ) (share old new : Share M B) → k < length olds → get_or olds k share ≡ old
      → news ≡ set olds k new → AllZip (StaysShare runs) first olds → StaysShare runs old new → AllZip (StaysShare runs) first news
  all_stay_at first olds news k share old new below at is before stays =
      subst (λ (ss : List (Share M B)). AllZip (StaysShare runs) first ss) (sym is)
      (all_stay_trans first olds (set olds k new) before
      (all_stay_set olds k share new below (subst (λ (s : Share M B). StaysShare runs s new) (sym at) stays)))

  -- Dies of a list that were run where they stand

  pub ran_in_place : (n : ℕ) (first olds given news : List (PostState M B)) → n ≡ length olds → given ≡ olds → AllZip (IsSamePost runs) first olds
      → AllZip (IsSamePost runs) given news → AllZip (IsSamePost runs) first (take n (news ++ drop (length news) olds))
  ran_in_place n first olds given news is same before now =
      let many : length news ≡ length olds = AllZip-long (IsSamePost runs) given news now ∙ ap length same in
      subst (λ (dies : List (PostState M B)). AllZip (IsSamePost runs) first dies) (sym (written n olds news many is))
      (all_same_trans first olds news before (subst (λ (dies : List (PostState M B)). AllZip (IsSamePost runs) dies news) same now))

-- Parts of a list

pub cut_at : {A : Type 0} (n : ℕ) (xs first last : List A) → first ≡ take n xs → last ≡ drop n xs → xs ≡ first ++ last
cut_at n xs first last is rest =
    sym (take-append-drop n xs) ∙ (ap (λ ys. ys ++ drop n xs) (sym is) ∙ ap (λ ys. first ++ ys) (sym rest))

pub one_passed : {A : Type 0} (all first left later : List A) (x : A) → all ≡ first ++ left → left ≡ x ∷ later
    → all ≡ (first ++ x ∷ []) ++ later
one_passed all first left later x is parts =
    is ∙ (ap (λ rest. first ++ rest) parts ∙ sym (append_assoc first (x ∷ []) later))
