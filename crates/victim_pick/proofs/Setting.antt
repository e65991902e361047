-- What stands among counts and links after one was set.
use Rattle.std.proofs.Common.{◌≡◌, ◌≢◌, ◌⊎◌, ℕ, ◌<◌, List, ◌++◌, length, get_or, set, take, drop, Option, Some}
use Rattle.std.proofs.Common.{None, refl, sym, ap, ◌∙◌, arith, inl, inr}
use Rattle.std.proofs.lemmas.Bool.{cases_eq, cases_lt}
use Rattle.std.proofs.lemmas.List.{get_or-set_same, get_or-set_other, length-set, get_or_past, append-nil, drop_all, take_all}
use Rattle.victim_pick.specs.Candidates.{count_of}
use Rattle.victim_pick.specs.Links.{set_at, set_first}

pub counted_below : (counts : List (Option ℕ)) (block count : ℕ) → count_of counts block ≡ Some count → block < length counts
counted_below counts block count is =
    elim (cases_lt block (length counts)) [
      | inl below ↦ below
      | inr past ↦ let none : get_or counts block None ≡ None = get_or_past counts block None past in absurd (cc)
    ]

pub now_counted : (counts : List (Option ℕ)) (block : ℕ) (new : Option ℕ) → block < length counts
    → count_of (set counts block new) block ≡ new
now_counted counts block new below = get_or-set_same counts block new None below

pub still_counted : (counts : List (Option ℕ)) (block other count : ℕ) (new : Option ℕ) → other ≢ block → count_of counts other ≡ Some count
    → count_of (set counts block new) other ≡ Some count
still_counted counts block other count new apart is = get_or-set_other counts block other new None apart ∙ is

-- who has a count now is the block that was set, or had it before
pub counted_after : (counts : List (Option ℕ)) (block other count : ℕ) (new : Option ℕ) → block < length counts
    → count_of (set counts block new) other ≡ Some count
    → ((other ≡ block) × (new ≡ Some count)) ⊎ ((other ≢ block) × (count_of counts other ≡ Some count))
counted_after counts block other count new below is =
    elim (cases_eq other block) [
      | inl same ↦ inl (
        same,
        sym (ap (λ (n : ℕ). get_or (set counts block new) n None) same ∙ get_or-set_same counts block new None below) ∙ is,
      )
      | inr apart ↦ inr (apart, sym (get_or-set_other counts block other new None apart) ∙ is)
    ]

-- a link leads to a block, or it doesn't
pub cases_link : (link : Option ℕ) (block : ℕ) → (link ≡ Some block) ⊎ (link ≢ Some block)
cases_link None block = inr (λ is. absurd (cc))
cases_link (Some other) block =
    elim (cases_eq other block) [
      | inl same ↦ inl (ap (λ (n : ℕ). Some n) same)
      | inr apart ↦ inr (λ is. apart (cc))
    ]

pub set_at-same : (links : List (Option ℕ)) (at : Option ℕ) (i : ℕ) (link : Option ℕ) → i < length links → at ≡ Some i
    → get_or (set_at links at link) i None ≡ link
set_at-same links None i link below is = absurd (cc)
set_at-same links (Some j) i link below is =
    let same : j ≡ i = cc in
    ap (λ (n : ℕ). get_or (set links n link) i None) same ∙ get_or-set_same links i link None below

pub set_at-other : (links : List (Option ℕ)) (at : Option ℕ) (i : ℕ) (link : Option ℕ) → at ≢ Some i
    → get_or (set_at links at link) i None ≡ get_or links i None
set_at-other links None i link apart = refl
set_at-other links (Some j) i link apart =
    get_or-set_other links j i link None (λ same. apart (ap (λ (n : ℕ). Some n) (sym same)))

pub length-set_at : (links : List (Option ℕ)) (at link : Option ℕ) → length (set_at links at link) ≡ length links
length-set_at links None link = refl
length-set_at links (Some j) link = length-set links j link

pub length-set_first : (firsts : List (Option ℕ)) (before : Option ℕ) (count : ℕ) (first : Option ℕ)
    → length (set_first firsts before count first) ≡ length firsts
length-set_first firsts None count first = length-set firsts count first
length-set_first firsts (Some before) count first = refl

-- a vector of which a slice of the same length was written is that slice
pub written_back : (len : ℕ) (new old : List (Option ℕ)) → length new ≡ length old → len ≡ length old
    → take len (new ++ drop (length new) old) ≡ new
written_back len new old same is =
    ap (λ (l : List (Option ℕ)). take len (new ++ l)) (drop_all (length new) old (omega (arith, same)))
    ∙ ap (λ (l : List (Option ℕ)). take len l) (append-nil new) ∙ take_all len new (omega (arith, same, is))
