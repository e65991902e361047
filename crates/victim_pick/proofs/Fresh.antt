-- The lists of a die without candidates.
use Rattle.std.proofs.Common.{◌≡◌, ℕ, ◌+◌, ◌^◌, ◌<◌, List, get_or, Option, Some, None, refl, arith, inl, inr}
use Rattle.std.specs.Prelude.{replicate}
use Rattle.std.proofs.lemmas.Bool.{cases_lt}
use Rattle.std.proofs.lemmas.List.{get_or-replicate, length-replicate, get_or_past}
use Rattle.victim_pick.specs.Candidates.{count_of}
use Rattle.victim_pick.specs.Links.{AreLinked}

abbrev nobody : ℕ → List (Option ℕ)
nobody n = replicate n None

pub none_at : (n i : ℕ) → get_or (nobody n) i None ≡ None
none_at n i =
    elim (cases_lt i n) [
      | inl below ↦ get_or-replicate n i None None below
      | inr past ↦ get_or_past (nobody n) i None (omega (arith, past, length-replicate {A = Option ℕ} n None))
    ]

-- no block has a count
pub none_counted : (n block count : ℕ) → count_of (nobody n) block ≡ Some count → ⊥
none_counted n block count is = let none = none_at n block in absurd (cc)

pub fresh_links : (pages blocks : ℕ) → pages < 2 ^ 32
    → AreLinked pages (replicate blocks None) (replicate (pages + 1) None) (replicate blocks None) (replicate blocks None)
fresh_links pages blocks few_pages = record {
  few_pages = few_pages;
  firsts_len = length-replicate {A = Option ℕ} (pages + 1) None;
  nexts_len = refl;
  befores_len = refl;
  fit = λ block count is. absurd (none_counted blocks block count is);
  place = λ block. block;
  places = λ block below. below;
  apart = λ one other one_below other_below same. same;
  firsts_are = λ count fits.
      let none = none_at (pages + 1) count in
      record {
        counted = λ block is. absurd (cc);
        below = λ block is. absurd (cc);
        highest = λ other is below. absurd (none_counted blocks other count is);
      };
  nexts_are = λ block count is. absurd (none_counted blocks block count is);
  befores_are = λ block count is. absurd (none_counted blocks block count is);
}
