-- What a mount sees shows the pages.
use Rattle.std.proofs.Common.{◌≡◌, ◌⊎◌, ℕ, ◌==◌, ◌&&◌, not, Bool, true, false, List, ◌∷◌, Some, None, refl, ap}
use Rattle.std.proofs.Common.{◌∙◌, subst, inl, inr, arith}
use Rattle.std.proofs.lemmas.Bool.{cases_eq, eq-eqb, ne_eqb}
use Rattle.slot_types.specs.Places.{place_of}
use Rattle.slot_types.specs.declared.plans.DiePlan.{DiePlan}
use Rattle.slot_types.specs.declared.pages.PageData.{PageData}
use Rattle.slot_types.specs.declared.pages.Place.{Place}
use Rattle.slot_types.specs.declared.acts.Act.TheVariants as does
use Rattle.slot_types.specs.declared.replies.Entry.{Entry}
use Rattle.die_log.specs.Model.Log.{Log, Carried}
use Rattle.die_log.specs.Model.Flash.{Cells, block_at, cells, cells_after, contents, ran_by}
use Rattle.die_log.specs.Model.Start.{Start}
use Rattle.die_log.specs.Model.Opening.{IsOpening}
use Rattle.die_log.specs.Model.Answers.{IsExact}
use Rattle.die_log.specs.Invariants.SoundCells.{IsUnplaced, AreSoundCells}
use Rattle.die_log.proofs.Cells.Acts.{in_block}
use Rattle.die_log.proofs.Legal.Exact.{stands_well}
use Rattle.power_loss.specs.Labels.{Labels, Shown, labels, labels_after, counts_from, IsNewest, AreLabelled, CountFrom}
use Rattle.power_loss.specs.Labels.{HaveBytes, IsLabelled}
use Rattle.power_loss.specs.Seen.{MaySee, is_whole, MaySeeAfter, MaySeeDuring, MaySeePlaced}
use Rattle.power_loss.specs.Laws.{ShowsPages}
use Rattle.power_loss.proofs.Carrying.{IsSoundCarried, carried_sound}
use Rattle.power_loss.proofs.Exact.{stands_labelled}

-- Labels seen, and labels there

pub seen_newest : (plan : DiePlan) (c : Cells) (l : Labels) (seen : Shown) → MaySeePlaced c l.blocks seen → AreLabelled plan c l → (page : ℕ)
    (q : Place) → place_of c.places page ≡ Some q → IsNewest seen page q
seen_newest plan c l seen w h page q e =
    let n : IsNewest l.blocks page q = h.newest page q e in record {
      label = n.label;
      stands = w.whole page q e q refl ∙ n.stands;
      own = n.own;
      newest = λ r x f own other. n.newest r x (w.remains r x f) own other;
    }

-- labels of which those in blocks with placed pages are whole show the pages
pub shows : (plan : DiePlan) (c : Cells) (pages : List PageData) (l : Labels) (from : ℕ → ℕ) (seen : Shown)
    → MaySeePlaced c l.blocks seen → AreLabelled plan c l → HaveBytes c l.blocks pages → CountFrom c l.blocks from → ShowsPages c pages from seen
shows plan c pages l from seen w h bytes counts = record {
  placed = λ page q e. seen_newest plan c l seen w h page q e;
  bytes = λ page q x e f. bytes page q x e (w.remains q x f);
  counts = record {
    placed = λ page q x e f. counts.placed page q x e (w.remains q x f);
    unplaced = λ page none r x f own. counts.unplaced page none r x (w.remains r x f) own;
  };
}

-- A block in erase has no placed page

placed_seen : (c : Cells) (whole : ℕ → Bool) (blocks seen : Shown) → ((page : ℕ) (q : Place) → place_of c.places page ≡ Some q
    → whole q.block ≡ true) → MaySee whole blocks seen → MaySeePlaced c blocks seen
placed_seen c whole blocks seen ok w = record {
  long = w.long;
  whole = λ page q e place is. w.whole place (ap whole is ∙ ok page q e);
  remains = w.remains;
}

idle_whole : (plan : DiePlan) (c : Cells) → AreSoundCells plan c → (page : ℕ) (q : Place) → place_of c.places page ≡ Some q → is_whole c q.block ≡ true
idle_whole plan c s page q e = by_case (cases_eq (block_at c q.block).erasing 0)
  where
    by_case : ((block_at c q.block).erasing ≡ 0) ⊎ ((block_at c q.block).erasing ≡ 0 → ⊥) → is_whole c q.block ≡ true
    by_case (inl idle) = eq-eqb (block_at c q.block).erasing 0 idle
    by_case (inr busy) = absurd ((s.erasing q.block (omega arith)).2 page (in_block c page q.block q e refl))

pub after_placed : (plan : DiePlan) (c : Cells) (l : Labels) (seen : Shown) → AreSoundCells plan c → MaySeeAfter c l seen
    → MaySeePlaced c l.blocks seen
after_placed plan c l seen s w = placed_seen c (is_whole c) l.blocks seen (idle_whole plan c s) w

erase_placed : (plan : DiePlan) (c : Cells) (b : ℕ) (l : Labels) (seen : Shown) → AreSoundCells plan c → IsUnplaced c b
    → MaySee (λ a. is_whole c a && not (a == b)) l.blocks seen → MaySeePlaced c l.blocks seen
erase_placed plan c b l seen s none w = placed_seen c (λ a. is_whole c a && not (a == b)) l.blocks seen other w
  where
    other : (page : ℕ) (q : Place) → place_of c.places page ≡ Some q → (is_whole c q.block && not (q.block == b)) ≡ true
    other page q e =
        let whole : is_whole c q.block ≡ true = idle_whole plan c s page q e in
        let apart : (q.block == b) ≡ false = ne_eqb q.block b (λ is. none page (in_block c page b q e is)) in
        rw (whole, apart) refl

-- what may be seen during an act is what may be seen before it, or after it
pub during_placed : (plan : DiePlan) (c : Cells) (pages : List PageData) (l : Labels) (ran : Carried) (seen : Shown) → AreSoundCells plan c
    → AreSoundCells plan (cells_after plan ran c) → ((n b : ℕ) → ran ≡ Some (n, does.Erase b) → IsUnplaced c b) → MaySeeDuring plan c pages l ran seen
    → MaySeePlaced c l.blocks seen ⊎ MaySeePlaced (cells_after plan ran c) (labels_after plan c pages ran l).blocks seen
during_placed plan c pages l ran seen s t none w = by_carried ran none t w
  where
    either : (d : Cells) (m : Labels) → AreSoundCells plan d → MaySeeAfter c l seen ⊎ MaySeeAfter d m seen
        → MaySeePlaced c l.blocks seen ⊎ MaySeePlaced d m.blocks seen
    either d m t (inl v) = inl (after_placed plan c l seen s v)
    either d m t (inr v) = inr (after_placed plan d m seen t v)

    by_carried : (r : Carried) → ((n b : ℕ) → r ≡ Some (n, does.Erase b) → IsUnplaced c b) → AreSoundCells plan (cells_after plan r c)
        → MaySeeDuring plan c pages l r seen
        → MaySeePlaced c l.blocks seen ⊎ MaySeePlaced (cells_after plan r c) (labels_after plan c pages r l).blocks seen
    by_carried None ok t v = either c l t v
    by_carried (Some (n, does.Read page bytes)) ok t v = either c l t v
    by_carried (Some (n, does.Write page bytes)) ok t v =
        either (cells_after plan (Some (n, does.Write page bytes)) c) (labels_after plan c pages (Some (n, does.Write page bytes)) l) t v
    by_carried (Some (n, does.Trim page)) ok t v = either (cells_after plan (Some (n, does.Trim page)) c) l t v
    by_carried (Some (n, does.CopyRead page)) ok t v = either c l t v
    by_carried (Some (n, does.CopyProgram page)) ok t v =
        either (cells_after plan (Some (n, does.CopyProgram page)) c) (labels_after plan c pages (Some (n, does.CopyProgram page)) l) t v
    by_carried (Some (n, does.Erase b)) ok t v = inl (erase_placed plan c b l seen s (ok n b refl) v)

-- Logs

abbrev ShowsAfter : Start → Labels → Log → Shown → Type 0
ShowsAfter start first log seen = ShowsPages (cells start log) (contents start log) (counts_from start first log) seen

shows_by : (start : Start) (first : Labels) → IsOpening start → IsLabelled start first → (log : Log) → IsExact start log → (seen : Shown)
    → MaySeePlaced (cells start log) (labels start first log).blocks seen → ShowsAfter start first log seen
shows_by start first bound labelled log exact seen w =
    let h = stands_labelled start first bound labelled log exact in
    shows start.plan (cells start log) (contents start log) (labels start first log) (counts_from start first log) seen w h.labelled h.bytes h.counts

pub cells_sound : (start : Start) → IsOpening start → (log : Log) → IsExact start log → AreSoundCells start.plan (cells start log)
cells_sound start bound log exact = (stands_well start bound log exact).0.collects.sound

-- what may be seen after an exact log shows its pages
pub seen_after : (start : Start) (first : Labels) → IsOpening start → IsLabelled start first → (log : Log) → IsExact start log
    → (seen : Shown) → MaySeeAfter (cells start log) (labels start first log) seen → ShowsAfter start first log seen
seen_after start first bound labelled log exact seen w =
    shows_by start first bound labelled log exact seen
    (after_placed start.plan (cells start log) (labels start first log) seen (cells_sound start bound log exact) w)

erases_unplaced : (start : Start) (past : Log) (ran : Carried) → IsSoundCarried start past ran → (n b : ℕ) → ran ≡ Some (n, does.Erase b)
    → IsUnplaced (cells start past) b
erases_unplaced start past ran k n b is = ((subst (IsSoundCarried start past) is k).erases b refl).1

-- what may be seen during a slot is what may be seen before it, or after it
pub placed_during : (start : Start) → IsOpening start → (first : Labels) (e : Entry) (past : Log) → IsExact start (e ∷ past) → (seen : Shown)
    → MaySeeDuring start.plan (cells start past) (contents start past) (labels start first past) (ran_by e.reply) seen
    → MaySeePlaced (cells start past) (labels start first past).blocks seen
    ⊎ MaySeePlaced (cells start (e ∷ past)) (labels start first (e ∷ past)).blocks seen
placed_during start bound first e past exact seen w =
    during_placed start.plan (cells start past) (contents start past) (labels start first past) (ran_by e.reply) seen
    (cells_sound start bound past exact.0) (cells_sound start bound (e ∷ past) exact)
    (erases_unplaced start past (ran_by e.reply) (carried_sound start bound e past exact)) w

-- so it shows the pages as they were, or as they are
pub seen_during : (start : Start) (first : Labels) → IsOpening start → IsLabelled start first → (e : Entry) (past : Log)
    → IsExact start (e ∷ past) → (seen : Shown)
    → MaySeeDuring start.plan (cells start past) (contents start past) (labels start first past) (ran_by e.reply) seen
    → ShowsAfter start first past seen ⊎ ShowsAfter start first (e ∷ past) seen
seen_during start first bound labelled e past exact seen w = by_case (placed_during start bound first e past exact seen w)
  where
    by_case : MaySeePlaced (cells start past) (labels start first past).blocks seen
        ⊎ MaySeePlaced (cells start (e ∷ past)) (labels start first (e ∷ past)).blocks seen
        → ShowsAfter start first past seen ⊎ ShowsAfter start first (e ∷ past) seen
    by_case (inl v) = inl (shows_by start first bound labelled past exact.0 seen v)
    by_case (inr v) = inr (shows_by start first bound labelled (e ∷ past) exact seen v)
