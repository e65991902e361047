-- Blocks that are numbered one by one, and the table then.
use Rattle.std.proofs.Common.{◌≡◌, ◌≢◌, ◌⊎◌, ℕ, ◌+◌, ◌<◌, ◌≤◌, Bool, true, false, List, [], ◌∷◌, ◌++◌, length, get_or, nat_eq, refl, ap, sym, ◌∙◌, subst, inl, inr, arith}
use Rattle.std.specs.Prelude.{Option, Some, None, Contains}
use Rattle.std.specs.List.{list_any}
use Rattle.std.proofs.lemmas.Bool.{cases_eq, cases_lt}
use Rattle.std.proofs.lemmas.Bool.Decides.{nat_tests}
use Rattle.std.proofs.lemmas.List.Folds.{Any-from_list_any}
use Rattle.std.proofs.lemmas.List.{get_or_past, get_or_push, get_or_append_left, length_push}
use Rattle.std.proofs.lemmas.Option.{none-some}
use Rattle.slot_types.specs.declared.plans.Shape.{Shape}
use Rattle.slot_types.specs.Shapes.{IsShape}
use Rattle.spare_blocks.specs.declared.cells.BlockUse.{BlockUse}
use Rattle.spare_blocks.specs.declared.cells.BlockUse.TheVariants as use_as
use Rattle.spare_blocks.specs.declared.cells.Mark.{Mark}
use Rattle.spare_blocks.specs.declared.powering.Group.{Group}
use Rattle.spare_blocks.specs.declared.powering.Group.TheVariants as groups
use Rattle.spare_blocks.specs.declared.powering.Labelled.{Labelled}
use Rattle.spare_blocks.specs.Parts.{PartBlock, part_block, free_part_block, blank_cell}
use Rattle.spare_blocks.specs.Tables.{Table, IsTable, IsSpare, use_of, on_part, empty_table}
use Rattle.spare_blocks.specs.Powering.{mark_at, seen_at, HasNoMark, StartsWith, EndsBy, GoesAsFar, HasLabels, IsSeen, AreSeen, IsPoweredPart, SharesFirst, IsHolder, IsOwn, IsCovered, IsGroup, HasNumber, IsNumbered, AreNumbered, IsNeedless, IsPoweredTable}
use Rattle.spare_blocks.proofs.Numbers.{bad-plan}
use Rattle.spare_blocks.proofs.Prepared.{not_listed}
use Rattle.spare_blocks.proofs.Seen.{up_to, one_holder, holds_for}

-- so many blocks were numbered; those from there on are as they were
pub record AreNumberedTo (k : ℕ) (bad : List ℕ) (all : List (Option Labelled)) (t : Table) (before after : List PartBlock) : Type 0 where
  pub uses : length t.uses ≡ k
  pub numbered : AreNumbered bad all t before after
  pub ahead : (x : ℕ) → k ≤ x → part_block after x ≡ part_block before x

same_number : (x q : ℕ) → nat_eq x q ≡ true → x ≡ q
same_number x q e = grind (arith, nat_tests)

pub is_in : (xs : List ℕ) (q : ℕ) → list_any (λ y. nat_eq y q) xs ≡ true → Contains xs q
is_in xs q e =
    let a = Any-from_list_any (λ y. nat_eq y q) xs e in
    subst (λ (z : ℕ). Contains xs z) (same_number a.1 q a.4) (a.0, a.2, a.3)

no-number : HasNumber use_as.Bad → ⊥
no-number (b, e) = cc

bad-is-spare : use_as.Bad ≡ use_as.Spare → ⊥
bad-is-spare e = cc

pub none_numbered : (bad : List ℕ) (all : List (Option Labelled)) (blocks : List PartBlock) → AreNumberedTo 0 bad all empty_table blocks blocks
none_numbered bad all blocks = record {
  uses = refl;
  numbered = record {
    number = λ x has. refl;
    spare = λ x is. absurd (bad-is-spare is);
    known = λ x listed. refl;
    own = λ x lt off is. absurd (omega (arith, lt));
    once = λ x has. absurd (no-number has);
    groups = λ x lt. absurd (omega (arith, lt));
  };
  ahead = λ x le. refl;
}

module _ (k : ℕ) (bad : List ℕ) (all : List (Option Labelled)) (t u : Table) (before blocks after : List PartBlock) (listed : Bool) (group : Group)
    (is : AreNumberedTo k bad all t before blocks) (one : IsNumbered listed group t u blocks after)
    (told : Contains bad k → listed ≡ true) (free : (Contains bad k → ⊥) → listed ≡ false) (of : IsGroup all k group) where
  use_here : (x : ℕ) → x ≡ k → use_of u x ≡ one.becomes
  use_here x same =
      ap (λ (l : List BlockUse). get_or l x use_as.Bad) one.pushed
      ∙ get_or_push t.uses one.becomes use_as.Bad x (is.uses ∙ sym same)

  use_other : (x : ℕ) → x ≢ k → use_of u x ≡ use_of t x
  use_other x other = ap (λ (l : List BlockUse). get_or l x use_as.Bad) one.pushed ∙ by_case (cases_lt x (length t.uses))
    where
      by_case : (x < length t.uses) ⊎ (length t.uses ≤ x) → get_or (t.uses ++ one.becomes ∷ []) x use_as.Bad ≡ get_or t.uses x use_as.Bad
      by_case (inl below) = get_or_append_left t.uses (one.becomes ∷ []) use_as.Bad x below
      by_case (inr past) =
          get_or_past (t.uses ++ one.becomes ∷ []) x use_as.Bad (omega (arith, past, other, is.uses, length_push t.uses one.becomes))
          ∙ sym (get_or_past t.uses x use_as.Bad past)

  block_other : (x : ℕ) → x ≢ k → part_block after x ≡ part_block blocks x
  block_other x other = one.others x (λ same. other (same ∙ is.uses))

  group_own : (g : Group) → IsGroup all k g → IsOwn all k → g ≡ groups.Own
  group_own groups.Own own o = refl
  group_own groups.Covered c o = absurd (c.other (one_holder all c.labelled c.holder k c.holds (holds_here (some_is (sym o.is ∙ c.is)))))
    where
      some_is : {x y : Labelled} → Some x ≡ Some y → x ≡ y
      some_is e = grind arith

      holds_here : o.labelled ≡ c.labelled → IsHolder all c.labelled k
      holds_here e = subst (λ (l : Labelled). IsHolder all l k) e o.holder
  group_own groups.Blank none o = absurd (none-some o.labelled (sym none ∙ o.is))

  group_covered : (g : Group) → IsGroup all k g → IsCovered all k → g ≡ groups.Covered
  group_covered groups.Own o c = absurd (c.other (one_holder all c.labelled c.holder k c.holds (holds_here (some_is (sym o.is ∙ c.is)))))
    where
      some_is : {x y : Labelled} → Some x ≡ Some y → x ≡ y
      some_is e = grind arith

      holds_here : o.labelled ≡ c.labelled → IsHolder all c.labelled k
      holds_here e = subst (λ (l : Labelled). IsHolder all l k) e o.holder
  group_covered groups.Covered d c = refl
  group_covered groups.Blank none c = absurd (none-some c.labelled (sym none ∙ c.is))

  pub one_numbered : AreNumberedTo (k + 1) bad all u before after
  one_numbered = record {
    uses = ap (λ (l : List BlockUse). length l) one.pushed ∙ (length_push t.uses one.becomes ∙ ap (λ (n : ℕ). n + 1) is.uses);
    numbered = record {
      number = λ x has. number_at x has (cases_eq x k);
      spare = λ x has. spare_at x has (cases_eq x k);
      known = λ x has. known_at x has (cases_eq x k);
      own = λ x lt off o. own_at x lt off o (cases_eq x k);
      once = λ x has c. once_at x has c (cases_eq x k);
      groups = λ x lt. group_at x lt (cases_eq x k);
    };
    ahead = λ x le. block_other x (λ same. absurd (omega (arith, le, same))) ∙ is.ahead x (omega (arith, le));
  }
    where
      number_at : (x : ℕ) → HasNumber (use_of u x) → (x ≡ k) ⊎ (x ≡ k → ⊥) → part_block after x ≡ part_block before x
      number_at x has (inl same) =
          ap (part_block after) (same ∙ sym is.uses)
          ∙ (one.number (subst HasNumber (use_here x same) has)
          ∙ (ap (part_block blocks) is.uses ∙ (is.ahead k (omega arith) ∙ ap (part_block before) (sym same))))
      number_at x has (inr other) = block_other x other ∙ is.numbered.number x (subst HasNumber (use_other x other) has)

      spare_at : (x : ℕ) → IsSpare u x → (x ≡ k) ⊎ (x ≡ k → ⊥) → part_block after x ≡ free_part_block
      spare_at x has (inl same) = ap (part_block after) (same ∙ sym is.uses) ∙ one.spare (sym (use_here x same) ∙ has)
      spare_at x has (inr other) = block_other x other ∙ is.numbered.spare x (sym (use_other x other) ∙ has)

      known_at : (x : ℕ) → Contains bad x → (x ≡ k) ⊎ (x ≡ k → ⊥) → use_of u x ≡ use_as.Bad
      known_at x has (inl same) = use_here x same ∙ one.bad (told (subst (λ (y : ℕ). Contains bad y) same has))
      known_at x has (inr other) = use_other x other ∙ is.numbered.known x has

      own_at : (x : ℕ) → x < length u.uses → (Contains bad x → ⊥) → IsOwn all x → (x ≡ k) ⊎ (x ≡ k → ⊥) → HasNumber (use_of u x)
      own_at x lt off o (inl same) =
          subst HasNumber (sym (use_here x same)) (one.own (free (λ has. off (subst (λ (y : ℕ). Contains bad y) (sym same) has)))
          (group_own group of (subst (IsOwn all) same o)))
      own_at x lt off o (inr other) =
          subst HasNumber (sym (use_other x other)) (is.numbered.own x
          (omega (arith, lt, other, is.uses, ap (λ (l : List BlockUse). length l) one.pushed, length_push t.uses one.becomes)) off o)

      once_at : (x : ℕ) → HasNumber (use_of u x) → IsCovered all x → (x ≡ k) ⊎ (x ≡ k → ⊥) → ⊥
      once_at x has c (inl same) =
          one.once (subst HasNumber (use_here x same) has) (group_covered group of (subst (IsCovered all) same c))
      once_at x has c (inr other) = is.numbered.once x (subst HasNumber (use_other x other) has) c

      group_at : (x : ℕ) → x < length u.uses → (x ≡ k) ⊎ (x ≡ k → ⊥) → ((g : Group) × IsGroup all x g)
      group_at x lt (inl same) = (group, subst (λ (y : ℕ). IsGroup all y group) (sym same) of)
      group_at x lt (inr other) =
          is.numbered.groups x (omega (arith, lt, other, is.uses, ap (λ (l : List BlockUse). length l) one.pushed, length_push t.uses one.becomes))

-- The table, once all blocks were numbered

module _ (part : Shape) (shape : Shape) (bad : List ℕ) (all : List (Option Labelled)) (t : Table) (before after : List PartBlock)
    (up : IsPoweredPart part before) (seen : AreSeen part before bad all) (sound : IsTable t) (is : AreNumbered bad all t before after)
    (whole : length t.uses ≡ part.blocks) where
  is_listed : {x : ℕ} {s : Labelled} → seen_at all x ≡ Some s → Contains bad x → ⊥
  is_listed e listed = none-some _ (sym (seen.listed _ listed) ∙ e)

  below : {x : ℕ} {s : Labelled} → seen_at all x ≡ Some s → x < part.blocks
  below {x} {s} e = elim (cases_lt x part.blocks) [
    | inl lt ↦ lt
    | inr past ↦ absurd (none-some s (sym (get_or_past all x None (omega (arith, past, seen.count))) ∙ e))
  ]

  has_labels : (x : ℕ) (s : Labelled) → seen_at all x ≡ Some s → HasLabels (part_block before x) part.pages s
  has_labels x s e = subst (IsSeen (part_block before x) part.pages) e (seen.seen x (below e) (is_listed e))

  -- off cell beyond the block's pages has a label
  none_beyond : (x : ℕ) → x < part.blocks → (page : ℕ) → part.pages ≤ page → mark_at (part_block before x) page ≡ None
  none_beyond x lt page past =
      ap (λ (c : _). c.mark) (get_or_past (part_block before x).cells page blank_cell (omega (arith, past, up.closed x lt)))

  ends_after : (x : ℕ) (s : Labelled) → seen_at all x ≡ Some s → (last page : ℕ) → s.last ≤ last → last < page → mark_at (part_block before x) page ≡ None
  ends_after x s e last page le lt = elim (cases_lt page part.pages) [
    | inl inside ↦ (has_labels x s e).none page (omega (arith, le, lt)) inside
    | inr past ↦ none_beyond x (below e) page past
  ]

  -- where off label comes after a cell, the last one stands there or before
  not_after : (x : ℕ) (s : Labelled) → seen_at all x ≡ Some s → (last : ℕ) → EndsBy (part_block before x) last → s.last ≤ last
  not_after x s e last ends = elim (cases_lt last s.last) [
    | inl more ↦ absurd (none-some (has_labels x s e).last.0 (sym (ends s.last more) ∙ (has_labels x s e).last.1))
    | inr le ↦ le
  ]

  -- the block that holds the labels of this one goes as far
  as_far : (x y : ℕ) (s : Labelled) → seen_at all x ≡ Some s → IsHolder all s y → GoesAsFar (part_block before y) (part_block before x)
  as_far x y s e h =
      let hy = has_labels y h.own h.is in
      let hx = has_labels x s e in
      record {
        first = s.first;
        mark = s.mark;
        own_first = subst (λ (m : Mark). StartsWith (part_block before y) s.first m) h.same.1
            (subst (λ (n : ℕ). StartsWith (part_block before y) n h.own.mark) h.same.0 hy.starts);
        other_first = hx.starts;
        far = λ last ends page lt. ends_after x s e last page (far_enough last (not_after y h.own h.is last ends)) lt;
      }
    where
      far_enough : (last : ℕ) → h.own.last ≤ last → s.last ≤ last
      far_enough last le = elim (h.most x s e (refl, refl)) [
        | inl less ↦ omega (arith, less, le)
        | inr (same, after_it) ↦ omega (arith, same, le)
      ]

  own_holder : (y : ℕ) (s : Labelled) → IsHolder all s y → IsOwn all y
  own_holder y s h = record { labelled = h.own; is = h.is; holder = holds_for all s h.own y (sym h.same.0, sym h.same.1) h }

  needless_by : (x : ℕ) → x < part.blocks → (HasNumber (use_of t x) → ⊥) → (Contains bad x → ⊥) → (g : Group) → IsGroup all x g → IsNeedless bad t before x
  needless_by x lt none off groups.Own own = absurd (none (is.own x (omega (arith, lt, whole)) off own))
  needless_by x lt none off groups.Blank blank = inr (inl (λ page. elim (cases_lt page part.pages) [
    | inl inside ↦ (subst (IsSeen (part_block before x) part.pages) blank (seen.seen x lt off)) page inside
    | inr past ↦ none_beyond x lt page past
  ]))
  needless_by x lt none off groups.Covered c =
      let o = own_holder c.holder c.labelled c.holds in
      let number = is.own c.holder (omega (arith, below c.holds.is, whole)) (is_listed c.holds.is) o in
      let listed = sound.listed c.holder number.0 number.1 in
      inr (inr (
        number.0,
        listed.0,
        subst (λ (y : ℕ). GoesAsFar (part_block before y) (part_block before x)) (sym listed.1)
            (as_far x c.holder c.labelled c.is c.holds),
      ))

  needless : (x : ℕ) → x < part.blocks → (HasNumber (use_of t x) → ⊥) → IsNeedless bad t before x
  needless x lt none = by_listed (list_any (λ y. nat_eq y x) bad) refl
    where
      by_listed : (b : Bool) → list_any (λ y. nat_eq y x) bad ≡ b → IsNeedless bad t before x
      by_listed true e = inl (is_in bad x e)
      by_listed false e = needless_by x lt none (not_listed bad x e) (is.groups x (omega (arith, lt, whole))).0 (is.groups x (omega (arith, lt, whole))).1

  -- a block's first label is the one that was seen
  seen_first : (x : ℕ) (s : Labelled) (first : ℕ) (mark : Mark) → seen_at all x ≡ Some s → StartsWith (part_block before x) first mark
      → (s.first ≡ first) × (s.mark ≡ mark)
  seen_first x s first mark e w = by_order (cases_lt s.first first) (cases_lt first s.first)
    where
      hx : HasLabels (part_block before x) part.pages s
      hx = has_labels x s e

      some_mark : {a b : Mark} → Some a ≡ Some b → a ≡ b
      some_mark h = grind arith

      by_order : (s.first < first) ⊎ (first ≤ s.first) → (first < s.first) ⊎ (s.first ≤ first) → (s.first ≡ first) × (s.mark ≡ mark)
      by_order (inl less) q = absurd (none-some s.mark (sym (w.before s.first less) ∙ hx.starts.is))
      by_order (inr le) (inl more) = absurd (none-some mark (sym (hx.starts.before first more) ∙ w.is))
      by_order (inr le) (inr ge) =
          let same : s.first ≡ first = omega (arith, le, ge) in
          (same, some_mark (sym hx.starts.is ∙ (ap (mark_at (part_block before x)) same ∙ w.is)))

  -- a block with a number that starts with a label holds it
  starts_own : (x first : ℕ) (mark : Mark) → HasNumber (use_of t x) → x < part.blocks → StartsWith (part_block before x) first mark
      → ((o : IsOwn all x) × (o.labelled.first ≡ first) × (o.labelled.mark ≡ mark))
  starts_own x first mark has lt w = by_group (is.groups x (omega (arith, lt, whole))).0 (is.groups x (omega (arith, lt, whole))).1
    where
      unlisted : Contains bad x → ⊥
      unlisted listed = no-number (subst HasNumber (is.known x listed) has)

      first_within : first < part.pages
      first_within = elim (cases_lt first part.pages) [
        | inl inside ↦ inside
        | inr past ↦ absurd (none-some mark (sym (none_beyond x lt first past) ∙ w.is))
      ]

      by_group : (g : Group) → IsGroup all x g → ((o : IsOwn all x) × (o.labelled.first ≡ first) × (o.labelled.mark ≡ mark))
      by_group groups.Own o = let e = seen_first x o.labelled first mark o.is w in (o, e.0, e.1)
      by_group groups.Covered c = absurd (is.once x has c)
      by_group groups.Blank none = absurd (none-some mark (sym ((subst (IsSeen (part_block before x) part.pages) none (seen.seen x lt unlisted)) first first_within) ∙ w.is))

  once_there : (x y first : ℕ) (mark : Mark) → HasNumber (use_of t x) → HasNumber (use_of t y) → x < part.blocks → y < part.blocks
      → StartsWith (part_block before x) first mark → StartsWith (part_block before y) first mark → x ≡ y
  once_there x y first mark hx hy lx ly wx wy =
      let o = starts_own x first mark hx lx wx in
      let p = starts_own y first mark hy ly wy in
      one_holder all p.0.labelled x y (holds_for all o.0.labelled p.0.labelled x (o.1 ∙ sym p.1, o.2 ∙ sym p.2) o.0.holder) p.0.holder

  pub powered_table : IsShape shape → length t.blocks ≡ shape.blocks → IsPoweredTable shape bad t part before after
  powered_table limits count = record {
    limits = limits;
    table = sound;
    count = count;
    number = λ b lt. is.number (on_part t b) (b, sound.numbered b (omega (arith, lt, count)));
    within = λ b lt. within_by b (omega (arith, lt, count)) (cases_lt (on_part t b) (length t.uses));
    once = λ b c first mark lb lc wb wc. same_number_of b c (omega (arith, lb, count)) (omega (arith, lc, count))
        (once_there (on_part t b) (on_part t c) first mark (b, sound.numbered b (omega (arith, lb, count))) (c, sound.numbered c (omega (arith, lc, count)))
        (within_by b (omega (arith, lb, count)) (cases_lt (on_part t b) (length t.uses)))
        (within_by c (omega (arith, lc, count)) (cases_lt (on_part t c) (length t.uses))) wb wc);
    spare = is.spare;
    known = is.known;
    rest = needless;
  }
    where
      plan_same : {b c : ℕ} → use_as.InPlan b ≡ use_as.InPlan c → b ≡ c
      plan_same e = grind arith

      same_number_of : (b c : ℕ) → b < length t.blocks → c < length t.blocks → on_part t b ≡ on_part t c → b ≡ c
      same_number_of b c lb lc same = plan_same (sym (sound.numbered b lb) ∙ (ap (use_of t) same ∙ sound.numbered c lc))

      within_by : (b : ℕ) → b < length t.blocks → (on_part t b < length t.uses) ⊎ (length t.uses ≤ on_part t b) → on_part t b < part.blocks
      within_by b lt (inl less) = omega (arith, less, whole)
      within_by b lt (inr past) = absurd (bad-plan b (sym (get_or_past t.uses (on_part t b) use_as.Bad past) ∙ sound.numbered b lt))

-- What a list says of a block

pub told_listed : (bad : List ℕ) (k : ℕ) (b : Bool) → b ≡ list_any (λ y. nat_eq y k) bad → Contains bad k → b ≡ true
told_listed bad k true e listed = refl
told_listed bad k false e listed = absurd (not_listed bad k (sym e) listed)

pub told_unlisted : (bad : List ℕ) (k : ℕ) (b : Bool) → b ≡ list_any (λ y. nat_eq y k) bad → (Contains bad k → ⊥) → b ≡ false
told_unlisted bad k true e off = absurd (off (is_in bad k (sym e)))
told_unlisted bad k false e off = refl
