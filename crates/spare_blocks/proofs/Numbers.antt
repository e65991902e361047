-- Which block has which number: what a table says after its changes.
use Rattle.std.proofs.Common.{◌≡◌, ◌≢◌, ◌⊎◌, ℕ, ◌+◌, ◌*◌, ◌<◌, ◌≤◌, cond, List, [], ◌∷◌, ◌++◌, length, get_or, set}
use Rattle.std.proofs.Common.{refl, ap, sym, ◌∙◌, subst, inl, inr, arith}
use Rattle.std.specs.List.{sum_by}
use Rattle.std.proofs.lemmas.Bool.{cases_eq, cases_lt}
use Rattle.std.proofs.lemmas.List.{get_or-set_same, get_or-set_other, length-set, get_or_past, get_or_append_left, get_or_push, length_push}
use Rattle.std.proofs.lemmas.List.Sums.{sum_by-set}
use Rattle.spare_blocks.specs.declared.cells.BlockUse.{BlockUse}
use Rattle.spare_blocks.specs.declared.cells.BlockUse.TheVariants as use_as
use Rattle.spare_blocks.specs.Tables.{Table, IsTable, IsSpare, use_of, on_part, is_spare, spares_in, replaced, without_spare, with_plan_block, with_other_block}
use Rattle.spare_blocks.specs.Trying.{cost_with}

-- Uses differ

pub bad-spare : use_as.Bad ≡ use_as.Spare → ⊥
bad-spare e = cc

pub bad-plan : (b : ℕ) → use_as.Bad ≡ use_as.InPlan b → ⊥
bad-plan b e = cc

pub plan-spare : (b : ℕ) → use_as.InPlan b ≡ use_as.Spare → ⊥
plan-spare b e = cc

pub plan-plan : (a b : ℕ) → use_as.InPlan a ≡ use_as.InPlan b → a ≡ b
plan-plan a b e = cc

-- a block that is used for something is one of the part's
used_within : (uses : List BlockUse) (x : ℕ) → (get_or uses x use_as.Bad ≡ use_as.Bad → ⊥) → x < length uses
used_within uses x other = elim (cases_lt x (length uses)) [
  | inl below ↦ below
  | inr past ↦ absurd (other (get_or_past uses x use_as.Bad past))
]

pub spare_within : (t : Table) (x : ℕ) → IsSpare t x → x < length t.uses
spare_within t x is = used_within t.uses x (λ bad. bad-spare (sym bad ∙ is))

pub plan_within : (t : Table) (x b : ℕ) → use_of t x ≡ use_as.InPlan b → x < length t.uses
plan_within t x b is = used_within t.uses x (λ bad. bad-plan b (sym bad ∙ is))

-- How many spare blocks there are

abbrev one : BlockUse → ℕ
one u = cond (is_spare u) 1 0

changed_count : (uses : List BlockUse) (x : ℕ) (u v : BlockUse) → x < length uses → get_or uses x use_as.Bad ≡ u
    → sum_by one (set uses x v) + one u ≡ sum_by one uses + one v
changed_count uses x u v below is =
    subst (λ (w : BlockUse). sum_by one (set uses x v) + one w ≡ sum_by one uses + one v) is (sum_by-set one uses x v use_as.Bad below)

pub spares_given_up : (t : Table) (spare : ℕ) → IsSpare t spare → spares_in (without_spare spare t) + 1 ≡ spares_in t
spares_given_up t spare is =
    let e : sum_by one (set t.uses spare use_as.Bad) + 1 ≡ sum_by one t.uses + 0 = changed_count t.uses spare use_as.Spare use_as.Bad
    (spare_within t spare is) is in
    omega (arith, e)

-- The block of a number isn't spare, and no other number has it

module _ (t : Table) (s : IsTable t) where
  pub numbered_apart : (b spare : ℕ) → b < length t.blocks → IsSpare t spare → on_part t b ≢ spare
  numbered_apart b spare lt is same = plan-spare b (sym (s.numbered b lt) ∙ (ap (use_of t) same ∙ is))

  pub numbers_apart : (b k : ℕ) → b < length t.blocks → k < length t.blocks → k ≢ b → on_part t k ≢ on_part t b
  numbers_apart b k lt less other same =
      other (plan-plan k b (sym (s.numbered k less) ∙ (ap (use_of t) same ∙ s.numbered b lt)))

  pub not_spare : (b : ℕ) → b < length t.blocks → IsSpare t (on_part t b) → ⊥
  not_spare b lt is = plan-spare b (sym (s.numbered b lt) ∙ is)

  -- a spare block failed
  pub without_sound : (spare : ℕ) → IsSpare t spare → IsTable (without_spare spare t)
  without_sound spare is = record {
    numbered = λ b lt. get_or-set_other t.uses spare (on_part t b) use_as.Bad use_as.Bad (numbered_apart b spare lt is) ∙ s.numbered b lt;
    listed = λ x b has. s.listed x b (listed_before x b has (cases_eq x spare));
    fewer = omega (arith, s.fewer, length-set t.uses spare use_as.Bad);
    few = omega (arith, s.few, length-set t.uses spare use_as.Bad);
  }
    where
      listed_before : (x b : ℕ) → get_or (set t.uses spare use_as.Bad) x use_as.Bad ≡ use_as.InPlan b → (x ≡ spare) ⊎ (x ≡ spare → ⊥)
          → get_or t.uses x use_as.Bad ≡ use_as.InPlan b
      listed_before x b has (inl same) = absurd (bad-plan b
          (sym (ap (λ (y : ℕ). get_or (set t.uses spare use_as.Bad) y use_as.Bad) same
          ∙ get_or-set_same t.uses spare use_as.Bad use_as.Bad (spare_within t spare is)) ∙ has))
      listed_before x b has (inr other) = sym (get_or-set_other t.uses spare x use_as.Bad use_as.Bad other) ∙ has

  pub without_other : (spare x : ℕ) → x ≢ spare → use_of (without_spare spare t) x ≡ use_of t x
  without_other spare x other = get_or-set_other t.uses spare x use_as.Bad use_as.Bad other

  pub without_spares : (spare x : ℕ) → IsSpare t spare → IsSpare (without_spare spare t) x → (x ≢ spare) × IsSpare t x
  without_spares spare x is has =
      let apart : x ≢ spare = λ same. bad-spare (sym (ap (λ (y : ℕ). use_of (without_spare spare t) y) same
      ∙ get_or-set_same t.uses spare use_as.Bad use_as.Bad (spare_within t spare is)) ∙ has) in
      (apart, sym (without_other spare x apart) ∙ has)

-- A spare block takes a number

module _ (t : Table) (s : IsTable t) (b spare : ℕ) (lt : b < length t.blocks) (is : IsSpare t spare) where
  abbrev on : ℕ
  on = on_part t b

  abbrev middle : List BlockUse
  middle = set t.uses on use_as.Bad

  on_within : on < length t.uses
  on_within = plan_within t on b (s.numbered b lt)

  apart : spare ≢ on
  apart same = numbered_apart t s b spare lt is (sym same)

  middle_spare : get_or middle spare use_as.Bad ≡ use_as.Spare
  middle_spare = get_or-set_other t.uses on spare use_as.Bad use_as.Bad apart ∙ is

  spare_in_middle : spare < length middle
  spare_in_middle = omega (arith, length-set t.uses on use_as.Bad, spare_within t spare is)

  pub use_here : use_of (replaced b spare t) spare ≡ use_as.InPlan b
  use_here = get_or-set_same middle spare (use_as.InPlan b) use_as.Bad spare_in_middle

  pub use_failed : use_of (replaced b spare t) on ≡ use_as.Bad
  use_failed =
      get_or-set_other middle spare on (use_as.InPlan b) use_as.Bad (λ same. apart (sym same))
      ∙ get_or-set_same t.uses on use_as.Bad use_as.Bad on_within

  pub use_other : (x : ℕ) → x ≢ spare → x ≢ on → use_of (replaced b spare t) x ≡ use_of t x
  use_other x far further =
      get_or-set_other middle spare x (use_as.InPlan b) use_as.Bad far ∙ get_or-set_other t.uses on x use_as.Bad use_as.Bad further

  pub on_here : on_part (replaced b spare t) b ≡ spare
  on_here = get_or-set_same t.blocks b spare 0 lt

  pub on_other : (k : ℕ) → k ≢ b → on_part (replaced b spare t) k ≡ on_part t k
  on_other k other = get_or-set_other t.blocks b k spare 0 other

  pub spares_replaced : spares_in (replaced b spare t) + 1 ≡ spares_in t
  spares_replaced =
      let e : sum_by one middle + 0 ≡ sum_by one t.uses + 0 = changed_count t.uses on (use_as.InPlan b) use_as.Bad on_within (s.numbered b lt) in
      let f : sum_by one (set middle spare (use_as.InPlan b)) + 1 ≡ sum_by one middle + 0 = changed_count middle spare use_as.Spare
      (use_as.InPlan b) spare_in_middle middle_spare in
      omega (arith, e, f)

  -- the spare blocks that are left
  pub replaced_spares : (x : ℕ) → IsSpare (replaced b spare t) x → (x ≢ spare) × IsSpare t x
  replaced_spares x has =
      let far : x ≢ spare = λ same. plan-spare b (sym use_here ∙ (ap (use_of (replaced b spare t)) (sym same) ∙ has)) in
      let further : x ≢ on = λ same. bad-spare (sym use_failed ∙ (ap (use_of (replaced b spare t)) (sym same) ∙ has)) in
      (far, sym (use_other x far further) ∙ has)

  pub replaced_bad : (x : ℕ) → use_of t x ≡ use_as.Bad → use_of (replaced b spare t) x ≡ use_as.Bad
  replaced_bad x bad = by_case (cases_eq x on)
    where
      far : x ≢ spare
      far same = bad-spare (sym bad ∙ (ap (use_of t) same ∙ is))

      by_case : (x ≡ on) ⊎ (x ≡ on → ⊥) → use_of (replaced b spare t) x ≡ use_as.Bad
      by_case (inl same) = ap (use_of (replaced b spare t)) same ∙ use_failed
      by_case (inr other) = use_other x far other ∙ bad

  pub replaced_sound : IsTable (replaced b spare t)
  replaced_sound = record {
    numbered = λ k less. numbered_after k (omega (arith, less, length-set t.blocks b spare)) (cases_eq k b);
    listed = λ x k has. listed_after x k has (cases_eq x spare) (cases_eq x on);
    fewer = omega (arith, s.fewer, length-set t.blocks b spare, length-set t.uses on use_as.Bad, length-set middle spare (use_as.InPlan b));
    few = omega (arith, s.few, length-set t.uses on use_as.Bad, length-set middle spare (use_as.InPlan b));
  }
    where
      numbered_after : (k : ℕ) → k < length t.blocks → (k ≡ b) ⊎ (k ≡ b → ⊥)
          → use_of (replaced b spare t) (on_part (replaced b spare t) k) ≡ use_as.InPlan k
      numbered_after k less (inl same) =
          ap (λ (j : ℕ). use_of (replaced b spare t) (on_part (replaced b spare t) j)) same
          ∙ (ap (use_of (replaced b spare t)) on_here ∙ (use_here ∙ ap use_as.InPlan (sym same)))
      numbered_after k less (inr other) =
          ap (use_of (replaced b spare t)) (on_other k other)
          ∙ (use_other (on_part t k) (numbered_apart t s k spare less is) (numbers_apart t s b k lt less other) ∙ s.numbered k less)

      listed_after : (x k : ℕ) → use_of (replaced b spare t) x ≡ use_as.InPlan k → (x ≡ spare) ⊎ (x ≡ spare → ⊥) → (x ≡ on) ⊎ (x ≡ on → ⊥)
          → (k < length (replaced b spare t).blocks) × (on_part (replaced b spare t) k ≡ x)
      listed_after x k has (inl same) far =
          let here : b ≡ k = plan-plan b k (sym use_here ∙ (ap (use_of (replaced b spare t)) (sym same) ∙ has)) in
          (omega (arith, here, lt, length-set t.blocks b spare), ap (on_part (replaced b spare t)) (sym here) ∙ (on_here ∙ sym same))
      listed_after x k has (inr far) (inl same) =
          absurd (bad-plan k (sym use_failed ∙ (ap (use_of (replaced b spare t)) (sym same) ∙ has)))
      listed_after x k has (inr far) (inr further) =
          let before = s.listed x k (sym (use_other x far further) ∙ has) in
          let other : k ≢ b = λ same. further (sym before.1 ∙ ap (on_part t) same) in
          (omega (arith, before.0, length-set t.blocks b spare), on_other k other ∙ before.1)

-- The part's next block

module _ (t : Table) (s : IsTable t) where
  pub plan_sound : length t.uses < 4294967295 → IsTable (with_plan_block t)
  plan_sound small = record {
    numbered = λ k less. numbered_after k less (cases_lt k (length t.blocks));
    listed = λ x k has. listed_after x k has (cases_lt x (length t.uses)) (cases_eq x (length t.uses));
    fewer = omega (arith, s.fewer, length_push t.blocks (length t.uses), length_push t.uses (use_as.InPlan (length t.blocks)));
    few = omega (arith, small, length_push t.uses (use_as.InPlan (length t.blocks)));
  }
    where
      numbered_after : (k : ℕ) → k < length (with_plan_block t).blocks → (k < length t.blocks) ⊎ (length t.blocks ≤ k) → use_of (with_plan_block t) (on_part (with_plan_block t) k) ≡ use_as.InPlan k
      numbered_after k less (inl below) =
          ap (use_of (with_plan_block t)) (get_or_append_left t.blocks (length t.uses ∷ []) 0 k below)
          ∙ (get_or_append_left t.uses (use_as.InPlan (length t.blocks) ∷ []) use_as.Bad (on_part t k)
          (plan_within t (on_part t k) k (s.numbered k below)) ∙ s.numbered k below)
      numbered_after k less (inr past) =
          let last : length t.blocks ≡ k = omega (arith, past, less, length_push t.blocks (length t.uses)) in
          ap (use_of (with_plan_block t)) (get_or_push t.blocks (length t.uses) 0 k last)
          ∙ (get_or_push t.uses (use_as.InPlan (length t.blocks)) use_as.Bad (length t.uses) refl ∙ ap use_as.InPlan last)

      listed_after : (x k : ℕ) → use_of (with_plan_block t) x ≡ use_as.InPlan k → (x < length t.uses) ⊎ (length t.uses ≤ x)
          → (x ≡ length t.uses) ⊎ (x ≡ length t.uses → ⊥) → (k < length (with_plan_block t).blocks) × (on_part (with_plan_block t) k ≡ x)
      listed_after x k has (inl below) which =
          let before = s.listed x k (sym (get_or_append_left t.uses (use_as.InPlan (length t.blocks) ∷ []) use_as.Bad x below) ∙ has) in (
            omega (arith, before.0, length_push t.blocks (length t.uses)),
            get_or_append_left t.blocks (length t.uses ∷ []) 0 k before.0 ∙ before.1,
          )
      listed_after x k has (inr past) (inl same) =
          let last : length t.blocks ≡ k = plan-plan (length t.blocks) k
          (sym (get_or_push t.uses (use_as.InPlan (length t.blocks)) use_as.Bad x (sym same)) ∙ has) in
          (omega (arith, last, length_push t.blocks (length t.uses)), get_or_push t.blocks (length t.uses) 0 k last ∙ sym same)
      listed_after x k has (inr past) (inr other) =
          absurd (bad-plan k (sym (get_or_past (t.uses ++ use_as.InPlan (length t.blocks) ∷ []) x use_as.Bad
          (omega (arith, past, other, length_push t.uses (use_as.InPlan (length t.blocks))))) ∙ has))

  pub other_sound : (u : BlockUse) → ((b : ℕ) → u ≡ use_as.InPlan b → ⊥) → length t.uses < 4294967295 → IsTable (with_other_block u t)
  other_sound u beside small = record {
    numbered = λ k less. get_or_append_left t.uses (u ∷ []) use_as.Bad (on_part t k) (plan_within t (on_part t k) k (s.numbered k less))
        ∙ s.numbered k less;
    listed = λ x k has. s.listed x k (listed_before x k has (cases_lt x (length t.uses)) (cases_eq x (length t.uses)));
    fewer = omega (arith, s.fewer, length_push t.uses u);
    few = omega (arith, small, length_push t.uses u);
  }
    where
      listed_before : (x k : ℕ) → get_or (t.uses ++ u ∷ []) x use_as.Bad ≡ use_as.InPlan k → (x < length t.uses) ⊎ (length t.uses ≤ x)
          → (x ≡ length t.uses) ⊎ (x ≡ length t.uses → ⊥) → use_of t x ≡ use_as.InPlan k
      listed_before x k has (inl below) which = sym (get_or_append_left t.uses (u ∷ []) use_as.Bad x below) ∙ has
      listed_before x k has (inr past) (inl same) = absurd (beside k (sym (get_or_push t.uses u use_as.Bad x (sym same)) ∙ has))
      listed_before x k has (inr past) (inr other) =
          absurd (bad-plan k (sym (get_or_past (t.uses ++ u ∷ []) x use_as.Bad (omega (arith, past, other, length_push t.uses u))) ∙ has))

-- What the spare blocks can still cost

pub cost_less : (pages spent : ℕ) (t u : Table) → spares_in u + 1 ≡ spares_in t → cost_with pages u spent + 2 * pages ≡ cost_with pages t spent
cost_less pages spent t u less =
    distributed (2 * pages) spent (spares_in u) ∙ ap (λ (n : ℕ). spent + 2 * pages * n) less
  where
    distributed : (k m n : ℕ) → m + k * n + k ≡ m + k * (n + 1)
    distributed k m n = grind arith

-- more was spent
pub cost_later : (pages : ℕ) (t : Table) (m n k : ℕ) → m ≤ n + k → cost_with pages t m ≤ cost_with pages t n + k
cost_later pages t m n k le = later (2 * pages * spares_in t)
  where
    later : (x : ℕ) → m + x ≤ n + x + k
    later x = omega (arith, le)
