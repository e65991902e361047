-- A part in memory once its power has come.
use Rattle.std.proofs.Common.{◌≡◌, ◌⊎◌, ℕ, ◌+◌, ◌-◌, ◌<◌, ◌≤◌, List, [], ◌∷◌, ◌++◌, drop, length, get_or, map, set, replicate, take}
use Rattle.std.proofs.Common.{refl, ap, sym, ◌∙◌, subst, inl, inr, arith}
use Rattle.std.specs.Prelude.{All, vec_capacity}
use Rattle.std.proofs.lemmas.Bool.{cases_lt}
use Rattle.std.proofs.lemmas.List.{get_or-drop, get_or-map, get_or_past, length-append, length-drop, length-map, length-replicate, map-append, map-set, take_more, take_more_set}
use Rattle.std.proofs.lemmas.List.Elements.{All-get_or}
use Rattle.spare_blocks.specs.declared.memory.WearingBlock.{WearingBlock}
use Rattle.spare_blocks.specs.Parts.{PartBlock, part_block, lost_block}
use Rattle.spare_blocks.specs.Powering.{IsPoweredPart, AreWithin}
use Rattle.spare_blocks.specs.Wearing.{Wearing, closed_part_block, powered_wearing, torn_at, torn_cell}
use Rattle.spare_blocks.specs.WearingView.{seen_block, IsSoundWearingBlock}

-- a cell of one block is torn
pub torn_block : (items : List WearingBlock) (b page : ℕ) (r new : WearingBlock) → b < length items → r ≡ get_or items b r
    → new.cells.items ≡ set r.cells.items page torn_cell → new.erasing ≡ r.erasing → new.failed ≡ r.failed
    → map seen_block (set items b new) ≡ set (map seen_block items) b (torn_at page (part_block (map seen_block items) b))
torn_block items b page r new lt is cells erasing failed =
    let own : seen_block new ≡ torn_at page (seen_block r) = λ i. record { cells = cells i; erasing = erasing i; failed = failed i } in
    map-set seen_block items b new
    ∙ ap (set (map seen_block items) b) (own ∙ ap (torn_at page) (sym (get_or-map seen_block items b r lost_block lt ∙ ap seen_block (sym is))))

-- as many blocks as so many are closed, and the others are as they were
pub closed_more : (pages i : ℕ) (items start : List WearingBlock) (old new : WearingBlock) → i < length items → drop i items ≡ drop i start
    → old ≡ get_or items i old → seen_block new ≡ closed_part_block pages (seen_block old)
    → map seen_block (take i items) ≡ map (closed_part_block pages) (map seen_block (take i start))
    → map seen_block (take (i + 1) (set items i new)) ≡ map (closed_part_block pages) (map seen_block (take (i + 1) start))
closed_more pages i items start old new lt left is closed done =
    let plus_none : i ≡ i + 0 = omega arith in
    let there : get_or start i old ≡ old =
    ap (λ (k : ℕ). get_or start k old) plus_none ∙ (sym (get_or-drop i start 0 old)
    ∙ (ap (λ (l : List WearingBlock). get_or l 0 old) (sym left) ∙ (get_or-drop i items 0 old ∙ (ap (λ (k : ℕ). get_or items k old) (sym plus_none) ∙ sym is)))) in
    let below : i < length start = omega (arith, lt, length-drop i items, length-drop i start, ap (λ (l : List WearingBlock). length l) left) in
    ap (map seen_block) (take_more_set items i new lt)
    ∙ (map-append seen_block (take i items) (new ∷ [])
    ∙ (ap (λ (l : List PartBlock). l ++ seen_block new ∷ []) done
    ∙ (ap (λ (x : PartBlock). map (closed_part_block pages) (map seen_block (take i start)) ++ x ∷ []) (closed ∙ ap (λ (x : WearingBlock). closed_part_block pages (seen_block x)) (sym there))
    ∙ sym (ap (λ (l : List WearingBlock). map (closed_part_block pages) (map seen_block l)) (take_more start i old below)
    ∙ (ap (map (closed_part_block pages)) (map-append seen_block (take i start) (get_or start i old ∷ []))
    ∙ map-append (closed_part_block pages) (map seen_block (take i start)) (seen_block (get_or start i old) ∷ []))))))

-- a closed block is sound, and has room
pub closed_sound : (pages slots : ℕ) (old new : WearingBlock) → 0 < slots → IsSoundWearingBlock pages slots old
    → seen_block new ≡ closed_part_block pages (seen_block old) → vec_capacity new.cells ≡ vec_capacity old.cells → IsSoundWearingBlock pages slots new
closed_sound pages slots old new some s is capacity = record {
  within = omega (
    arith,
    s.within,
    ap (λ (b : PartBlock). length b.cells) is,
    length-append old.cells.items (replicate (pages - length old.cells.items) torn_cell),
    length-replicate (pages - length old.cells.items) torn_cell,
  );
  room = omega (arith, capacity, s.room);
  few_slots = omega (arith, ap (λ (b : PartBlock). b.erasing) is, some);
}

-- blocks that are sound have no more cells than pages
pub cells_within : (pages slots : ℕ) (items : List WearingBlock) → All (IsSoundWearingBlock pages slots) items → AreWithin pages (map seen_block items)
cells_within pages slots items all x = elim (cases_lt x (length items)) [
  | inl lt ↦ by_first items all x lt
  | inr past ↦ omega (
    arith,
    ap (λ (b : PartBlock). length b.cells) (get_or_past (map seen_block items) x lost_block (omega (arith, past, length-map items seen_block))),
  )
]
  where
    by_first : (bs : List WearingBlock) → All (IsSoundWearingBlock pages slots) bs → (k : ℕ) → k < length bs
        → length (part_block (map seen_block bs) k).cells ≤ pages
    by_first [] h k less = absurd (omega (arith, less))
    by_first (b ∷ bs) h k less =
        let s = All-get_or (IsSoundWearingBlock pages slots) (b ∷ bs) k b less h in
        omega (arith, s.within, ap (λ (q : PartBlock). length q.cells) (get_or-map seen_block (b ∷ bs) k b lost_block less))

-- each block is closed
pub powered_part : (m : Wearing) → length m.blocks ≡ m.shape.blocks → AreWithin m.shape.pages m.blocks
    → IsPoweredPart (powered_wearing m).shape (powered_wearing m).blocks
powered_part m count within = record {
  count = length-map m.blocks close ∙ count;
  closed = λ x lt. ap (λ (b : PartBlock). length b.cells) (here x (omega (arith, lt, count))) ∙ filled (part_block m.blocks x) (within x);
  quiet = λ x. elim (cases_lt x (length m.blocks)) [
    | inl lt ↦ ap (λ (b : PartBlock). b.erasing) (here x lt)
    | inr past ↦ ap (λ (b : PartBlock). b.erasing) (get_or_past (map close m.blocks) x lost_block (omega (arith, past, length-map m.blocks close)))
  ];
  whole = λ x lt. ap (λ (b : PartBlock). b.failed) (here x (omega (arith, lt, count)));
}
  where
    close : PartBlock → PartBlock
    close = closed_part_block m.shape.pages

    here : (x : ℕ) → x < length m.blocks → part_block (map close m.blocks) x ≡ close (part_block m.blocks x)
    here x lt = get_or-map close m.blocks x lost_block lost_block lt

    filled : (b : PartBlock) → length b.cells ≤ m.shape.pages → length (close b).cells ≡ m.shape.pages
    filled b le = omega (
      arith,
      le,
      length-append b.cells (replicate (m.shape.pages - length b.cells) torn_cell),
      length-replicate (m.shape.pages - length b.cells) torn_cell,
    )
