-- A walk along the list of a count sees each of its blocks, and comes to its end within as many steps as there are blocks.
use Rattle.std.proofs.Common.{◌≡◌, ◌≢◌, ◌⊎◌, ℕ, ◌+◌, ◌<◌, ◌≤◌, List, length, get_or, Option, Some, None, refl}
use Rattle.std.proofs.Common.{sym, ap, ◌∙◌, subst, arith, inl, inr}
use Rattle.std.proofs.lemmas.Bool.{cases_eq}
use Rattle.victim_pick.specs.Candidates.{count_of, erases_of}
use Rattle.victim_pick.specs.Ties.{IsEarlier, IsFirstOf, IsFound, NotAfter}
use Rattle.victim_pick.specs.Links.{AreLinked}
use Rattle.victim_pick.proofs.Setting.{counted_below}

pub after_both : (erases : List (Option ℕ)) (a b c : ℕ) → NotAfter erases a b → NotAfter erases b c → NotAfter erases a c
after_both erases a b c ab bc = record {
  least_worn = omega (arith, ab.least_worn, bc.least_worn);
  first = λ same.
      let one : erases_of erases b ≡ erases_of erases a = omega (arith, same, ab.least_worn, bc.least_worn) in
      let other : erases_of erases c ≡ erases_of erases b = omega (arith, same, one) in
      omega (arith, ab.first one, bc.first other);
}

-- a walk that has done `step` steps, is at a block or at the end, and has seen the others, of which it found one
pub record IsWalked (counts erases : List (Option ℕ)) (place : ℕ → ℕ) (count step : ℕ) (found at : Option ℕ) : Type 0 where
  pub at_in : (block : ℕ) → at ≡ Some block → count_of counts block ≡ Some count
  pub near_end : (block : ℕ) → at ≡ Some block → place block + step < length counts
  pub found_in : (block : ℕ) → found ≡ Some block → count_of counts block ≡ Some count
  pub seen : (other : ℕ) → count_of counts other ≡ Some count
      → IsFound erases found other ⊎ ((block : ℕ) × (at ≡ Some block) × (place other ≤ place block))

pub walk_begins : (pages : ℕ) (counts firsts nexts befores erases : List (Option ℕ)) (count : ℕ) (found at : Option ℕ)
    → (are : AreLinked pages counts firsts nexts befores) → count ≤ pages → found ≡ None → at ≡ get_or firsts count None
    → IsWalked counts erases are.place count 0 found at
walk_begins pages counts firsts nexts befores erases count found at are fits none is =
    let first = are.firsts_are count fits in
    record {
      at_in = λ block at_is. first.counted block (sym is ∙ at_is);
      near_end = λ block at_is. omega (arith, first.below block (sym is ∙ at_is));
      found_in = λ block found_is. absurd (cc);
      seen = λ other counted.
          let head = first.highest other counted (are.places other (counted_below counts other count counted)) in
          inr (head.0, is ∙ head.1, head.2);
    }

pub walk_goes_on : (pages : ℕ) (counts firsts nexts befores erases : List (Option ℕ)) (count step block now : ℕ) (found at next : Option ℕ)
    → (are : AreLinked pages counts firsts nexts befores) → IsWalked counts erases are.place count step found at → at ≡ Some block
    → next ≡ get_or nexts block None → IsEarlier erases found block now
    → IsWalked counts erases are.place count (step + 1) (Some now) next
walk_goes_on pages counts firsts nexts befores erases count step block now found at next are walked at_is next_is earlier =
    let here = walked.at_in block at_is in
    let beyond = are.nexts_are block count here in
    record {
      at_in = λ b is. beyond.counted b (sym next_is ∙ is);
      near_end = λ b is. omega (arith, beyond.below b (sym next_is ∙ is), walked.near_end block at_is);
      found_in = λ b is.
          let same : now ≡ b = cc in
          elim earlier.from [
            | inl kept ↦ walked.found_in b (kept ∙ is)
            | inr came ↦ ap (λ (m : ℕ). count_of counts m) (sym same ∙ came) ∙ here
          ];
      seen = λ other counted. elim (walked.seen other counted) [
        | inl before ↦ inl (now, refl, after_both erases now before.0 other (earlier.before_one before.0 before.1) before.2)
        | inr ahead ↦
            let block_is : ahead.0 ≡ block = cc (ahead.1, at_is) in
            elim (cases_eq other block) [
              | inl same ↦ inl (now, refl, subst (λ (m : ℕ). NotAfter erases now m) (sym same) earlier.before_other)
              | inr apart ↦
                  let unlike : are.place other ≢ are.place block = (λ e. apart (are.apart other block
                  (counted_below counts other count counted)
                  (counted_below counts block count here) e)) in
                  let further = beyond.highest other counted (omega (arith, ahead.2, ap are.place block_is, unlike)) in
                  inr (further.0, next_is ∙ further.1, further.2)
            ]
      ];
    }

-- at the end of the list the walk has found the first
pub walk_ends : (counts erases : List (Option ℕ)) (place : ℕ → ℕ) (count step : ℕ) (found at : Option ℕ)
    → IsWalked counts erases place count step found at → ((block : ℕ) → at ≡ Some block → ⊥) → IsFirstOf counts erases count found
walk_ends counts erases place count step found at walked ended = record {
  counted = walked.found_in;
  before = λ other counted. elim (walked.seen other counted) [
    | inl before ↦ before
    | inr ahead ↦ absurd (ended ahead.0 ahead.1)
  ];
}
