-- How the words of a field are read, one by one.
use Rattle.std.proofs.Common.{◌≡◌, ℕ, ◌+◌, List, [], ◌∷◌, ◌++◌, Bool, Option, Some, None, ◌-◌, length, take, drop, length-drop, refl, sym}
use Rattle.std.proofs.Common.{ap, ◌∙◌, append_assoc, arith, inl, inr}
use Rattle.std.specs.Prelude.{◌<◌, ◌≤◌, IfSome, nat_lt, option_map}
use Rattle.std.specs.List.{position, position_or_len, slice_split}
use Rattle.std.proofs.lemmas.Bool.{cases_Bool}
use Rattle.std.proofs.lemmas.List.{append-nil, take_all}
use Rattle.std.proofs.lemmas.List.Sums.{prefix_len-le-length}
use Rattle.std.proofs.lemmas.List.Splits.{slice_split_first}
use Rattle.text_base.specs.Words.{all_of, and_word, words_of}

-- these, and then those that are read
abbrev pub front_words : {A : Type 0} → List A → Option (List A) → Option (List A)
front_words xs None = None
front_words xs (Some more) = Some (xs ++ more)

-- `n`, and then as many as are read
abbrev pub front_count : {A : Type 0} → ℕ → Option (List A) → Option ℕ
front_count n None = None
front_count n (Some more) = Some (n + length more)

-- more than the bytes that are left, if any are
abbrev pub size_left : Option (List ℕ) → ℕ
size_left None = 0
size_left (Some text) = length text + 1

pub size-left : {A : Type 0} (f : A → List ℕ) (rest : Option A) (n : ℕ) → IfSome rest (λ more. length (f more) < n)
    → size_left (option_map f rest) ≤ n
size-left f None n few = omega arith
size-left f (Some more) n few = omega (arith, few)

-- a list that is one part
split-one : {A : Type 0} (p : A → Bool) (xs : List A) → position_or_len p xs ≡ length xs → slice_split p xs ≡ xs ∷ []
split-one p [] all = refl
split-one p (x ∷ xs) all = elim (cases_Bool (p x)) [
  | inl found ↦ absurd (grind (arith, rw found at all))
  | inr other ↦
      let rest : position_or_len p xs ≡ length xs = omega (arith, rw other at all) in
      rw (other, split-one p xs rest) refl
]

-- a list that is cut where an element passes
pub split-found : {A : Type 0} (p : A → Bool) (xs : List A) (i : ℕ) (d : A) → position p xs ≡ Some i → slice_split p xs ≡ take i xs
    ∷ slice_split p (drop (i + 1) xs)
split-found p xs i d found = elim (cases_Bool (nat_lt (position_or_len p xs) (length xs))) [
  | inl inside ↦
      let at : position_or_len p xs ≡ i = cc (rw inside at found) in
      rw (← at) (slice_split_first p xs d (grind (arith, inside)))
  | inr past ↦ absurd (cc (rw past at found))
]

-- a list in which no element passes
pub split-unfound : {A : Type 0} (p : A → Bool) (xs : List A) → position p xs ≡ None → slice_split p xs ≡ xs ∷ []
split-unfound p xs none = elim (cases_Bool (nat_lt (position_or_len p xs) (length xs))) [
  | inl inside ↦ absurd (cc (rw inside at none))
  | inr past ↦ split-one p xs (grind (arith, past, prefix_len-le-length))
]

front-more : {A : Type 0} (xs : List A) (x : A) (more : Option (List A)) → front_words (xs ++ x ∷ []) more
    ≡ front_words xs (and_word (Some x) more)
front-more xs x None = refl
front-more xs x (Some more) = ap Some (append_assoc xs (x ∷ []) more)

count-first : {A : Type 0} (n : ℕ) (x : A) (more : Option (List A)) → front_count (n + 1) more ≡ front_count n (and_word (Some x) more)
count-first n x None = refl
count-first n x (Some more) = ap Some (omega arith)

-- one more word says something
pub word-more : {A : Type 0} (read : List ℕ → Option A) (xs new : List A) (x : A) (word : List ℕ) (words more : List (List ℕ))
    (whole : Option (List A)) → words ≡ word ∷ more
    → Some x ≡ read word → new ≡ xs ++ x ∷ [] → front_words xs (all_of read words) ≡ whole → front_words new (all_of read more) ≡ whole
unfolding all_of
word-more read xs new x word words more whole split is made so-far = rw made (front-more xs x (all_of read more)
    ∙ rw (split, ← is) at so-far)

-- no word is left
pub words-end : {A : Type 0} (read : List ℕ → Option A) (xs : List A) (left : Option (List ℕ)) (whole : Option (List A)) → left ≡ None
    → front_words xs (all_of read (words_of left)) ≡ whole → Some xs ≡ whole
unfolding all_of
words-end read xs left whole none so-far = sym (ap Some (append-nil xs)) ∙ rw none at so-far

-- one more word says something, and is counted
pub count-more : {A : Type 0} (read : List ℕ → Option A) (n : ℕ) (x : A) (word : List ℕ) (words more : List (List ℕ)) (whole : Option ℕ)
    → words ≡ word ∷ more → Some x ≡ read word → front_count n (all_of read words) ≡ whole → front_count (n + 1) (all_of read more) ≡ whole
unfolding all_of
count-more read n x word words more whole split is so-far = count-first n x (all_of read more) ∙ rw (split, ← is) at so-far

-- no word is left to count
pub count-end : {A : Type 0} (read : List ℕ → Option A) (n : ℕ) (left : Option (List ℕ)) (whole : Option ℕ) → left ≡ None
    → front_count n (all_of read (words_of left)) ≡ whole → Some n ≡ whole
unfolding all_of
count-end read n left whole none so-far = ap Some (omega arith) ∙ rw none at so-far

-- a list from a place on, as a slice from that place on has it
pub from-place : {A : Type 0} (xs : List A) (n : ℕ) → take (length xs - n) (drop n xs) ≡ drop n xs
from-place xs n = take_all (length xs - n) (drop n xs) (omega (arith, length-drop n xs))
