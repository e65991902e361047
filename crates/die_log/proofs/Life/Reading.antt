-- A read tells what the last write or trim of its page left, in whichever life that was.
use Rattle.std.proofs.Common.{◌≡◌, ℕ, ◌<◌, ◌==◌, Bool, true, false, cond, List, [], ◌∷◌, ◌++◌, length, Option, Some, None, MatchOption}
use Rattle.std.proofs.Common.{refl, ap, sym, subst, ◌∙◌, inl, inr, arith, get_or, set, slice_get, eq-eqb, ne_eqb, unwrap_or}
use Rattle.std.specs.Prelude.{Contains, MatchBool}
use Rattle.std.specs.List.{filter_map, last_or, cons_option}
use Rattle.std.proofs.lemmas.Bool.{cases_eq}
use Rattle.std.proofs.lemmas.List.{get_or-set_same, get_or-set_other}
use Rattle.std.proofs.lemmas.List.Elements.{filter_map-append}
use Rattle.std.proofs.lemmas.Option.{slice_get_within, get_or_from_slice_get}
use Rattle.slot_types.specs.declared.plans.DiePlan.{DiePlan}
use Rattle.slot_types.specs.declared.pages.PageData.{PageData}
use Rattle.slot_types.specs.declared.acts.Act.TheVariants as does
use Rattle.slot_types.specs.declared.events.Op.{Op}
use Rattle.slot_types.specs.declared.events.Op.TheVariants as asks
use Rattle.slot_types.specs.declared.replies.Reply.{Reply}
use Rattle.slot_types.specs.declared.replies.Reply.TheVariants as replies
use Rattle.slot_types.specs.declared.replies.SlotReply.{SlotReply}
use Rattle.slot_types.specs.declared.replies.Waived.{Waived}
use Rattle.slot_types.specs.Operations.{page_of}
use Rattle.die_log.specs.Model.Log.{Log, Job, Carried, jobs, carried_slots, with_slot, waived_collections, work}
use Rattle.die_log.specs.Model.Flash.{contents, content, contents_after, ran_by}
use Rattle.die_log.specs.Model.Start.{Start, blank_page}
use Rattle.die_log.specs.Model.Answers.{IsExact}
use Rattle.die_log.specs.Results.Legal.{Does, IsNextOperation, IsNextCollectAct, IsLegalAct}
use Rattle.die_log.specs.Results.Limits.{IsWithinLimits}
use Rattle.die_log.specs.Model.Opening.{IsOpening}
use Rattle.die_log.specs.Results.Promises.{HasSlot}
use Rattle.die_log.specs.Model.Lives.{Lives, start_after, AreLives, HasLife, all_carried, content_left_on, last_content}
use Rattle.die_log.proofs.Exact.{moment_exact}
use Rattle.die_log.proofs.Legal.Exact.{exact_legal}
use Rattle.die_log.proofs.Limits.{keeps_limits}
use Rattle.die_log.proofs.Promises.{legal_act}
use Rattle.die_log.proofs.Renewal.{contents_len}
use Rattle.die_log.proofs.LogInvariants.OneMoreEntry.{contained}
use Rattle.die_log.proofs.Life.Starting.{plan_same, life_opens, life_exact}

-- The last of a list, or else this

abbrev last_of : {X : Type 0} → List X → X → X
last_of xs d = unwrap_or (last_or None xs) d

some_last : {X : Type 0} (x d e : X) (xs : List X) → unwrap_or (last_or (Some x) xs) d ≡ unwrap_or (last_or (Some x) xs) e
some_last x d e [] = refl
some_last x d e (y ∷ xs) = some_last y d e xs

last_append : {X : Type 0} (o : Option X) (xs ys : List X) → last_or o (xs ++ ys) ≡ last_or (last_or o xs) ys
last_append o [] ys = refl
last_append o (x ∷ xs) ys = last_append (Some x) xs ys

last_then : {X : Type 0} (o : Option X) (ys : List X) (d : X) → unwrap_or (last_or o ys) d ≡ last_of ys (unwrap_or o d)
last_then None ys d = refl
last_then (Some x) [] d = refl
last_then (Some x) (y ∷ ys) d = some_last y d x ys

-- what the later ones leave, after what the earlier ones left
last_joined : {X : Type 0} (xs ys : List X) (d : X) → last_of (xs ++ ys) d ≡ last_of ys (last_of xs d)
last_joined xs ys d = ap (λ o. unwrap_or o d) (last_append None xs ys) ∙ last_then (last_or None xs) ys d

-- One log

abbrev page_in : List PageData → ℕ → PageData
page_in pages page = get_or pages page blank_page

set_left : (pages : List PageData) (page p : ℕ) (bytes : PageData) → page < length pages
    → page_in (set pages p bytes) page ≡ unwrap_or (cond (p == page) (Some bytes) None) (page_in pages page)
set_left pages page p bytes lt = elim (cases_eq p page) [
  | inl same ↦
      ap (λ k. page_in (set pages k bytes) page) same
      ∙ (get_or-set_same pages page bytes blank_page lt
      ∙ sym (ap (λ b. unwrap_or (cond b (Some bytes) None) (page_in pages page)) (eq-eqb p page same)))
  | inr other ↦
      get_or-set_other pages p page bytes blank_page (λ e. other (sym e))
      ∙ sym (ap (λ b. unwrap_or (cond b (Some bytes) None) (page_in pages page)) (ne_eqb p page other))
]

act_left : (page : ℕ) (ran : Carried) (pages : List PageData) → page < length pages
    → page_in (contents_after ran pages) page ≡ unwrap_or (content_left_on page ran) (page_in pages page)
act_left page None pages lt = refl
act_left page (Some (n, does.Read p bytes)) pages lt = refl
act_left page (Some (n, does.Write p bytes)) pages lt = set_left pages page p bytes lt
act_left page (Some (n, does.Trim p)) pages lt = set_left pages page p blank_page lt
act_left page (Some (n, does.CopyRead p)) pages lt = refl
act_left page (Some (n, does.CopyProgram p)) pages lt = refl
act_left page (Some (n, does.Erase block)) pages lt = refl

last_one : (o : Option PageData) (d : PageData) → last_of (cons_option o []) d ≡ unwrap_or o d
last_one None d = refl
last_one (Some x) d = refl

slot_left : (page : ℕ) (reply : Reply) (cs : List Carried) (d : PageData)
    → last_of (filter_map (content_left_on page) (with_slot reply cs)) d
    ≡ unwrap_or (content_left_on page (ran_by reply)) (last_of (filter_map (content_left_on page) cs) d)
slot_left page (replies.Taken number) cs d = refl
slot_left page (replies.Refused refusal) cs d = refl
slot_left page (replies.Slot s) cs d =
    ap (λ (l : List PageData). last_of l d) (filter_map-append (content_left_on page) cs (s.ran ∷ []))
    ∙ (last_joined (filter_map (content_left_on page) cs) (cons_option (content_left_on page s.ran) []) d
    ∙ last_one (content_left_on page s.ran) (last_of (filter_map (content_left_on page) cs) d))

log_left : (start : Start) (log : Log) (page : ℕ) → page < length start.contents
    → content start log page ≡ last_of (filter_map (content_left_on page) (carried_slots log)) (page_in start.contents page)
log_left start [] page lt = refl
log_left start (e ∷ past) page lt =
    act_left page (ran_by e.reply) (contents start past) (omega (arith, lt, contents_len start past))
    ∙ (ap (λ d. unwrap_or (content_left_on page (ran_by e.reply)) d) (log_left start past page lt)
    ∙ sym (slot_left page e.reply (carried_slots past) (page_in start.contents page)))

-- All lives

first_len : (first : Start) (lives : Lives) → length (start_after first lives).contents ≡ length first.contents
first_len first [] = refl
first_len first (log ∷ earlier) = contents_len (start_after first earlier) log ∙ first_len first earlier

-- what the pages are where the next life starts is what was left on them
pub starts_as_left : (first : Start) (lives : Lives) (page : ℕ) → page < length first.contents
    → page_in (start_after first lives).contents page ≡ last_content first lives page
starts_as_left first [] page lt = refl
starts_as_left first (log ∷ earlier) page lt =
    log_left (start_after first earlier) log page (omega (arith, lt, first_len first earlier))
    ∙ (ap (λ d. last_of (filter_map (content_left_on page) (carried_slots log)) d) (starts_as_left first earlier page lt)
    ∙ (sym (last_joined (filter_map (content_left_on page) (all_carried earlier)) (filter_map (content_left_on page) (carried_slots log))
    (page_in first.contents page))
    ∙ sym (ap (λ (l : List PageData). last_of l (page_in first.contents page))
    (filter_map-append (content_left_on page) (all_carried earlier) (carried_slots log)))))

-- Reads

op_contained : (ops : List Op) (k : ℕ) (op : Op) → slice_get ops k ≡ Some op → Contains ops op
op_contained ops k op e = (k, slice_get_within ops k op e, get_or_from_slice_get ops k op op e)

read_page : (op : Op) (page : ℕ) (bytes : PageData) → Does op (does.Read page bytes) → page ≡ page_of op
read_page (asks.Read p) page bytes h = h
read_page (asks.Write p b) page bytes h = absurd h
read_page (asks.Trim p) page bytes h = absurd h

-- a page that is read is one of the die's
read_within : (start : Start) (past : Log) (number page : ℕ) (bytes : PageData) (ws : List Waived) (j : Job) → IsExact start past
    → IsLegalAct start past ws j number (does.Read page bytes) → page < start.plan.logical
read_within start past number page bytes ws j exact legal = by_kind j.collects legal.next
  where
    limits : IsWithinLimits start.plan j
    limits = (keeps_limits start past exact).each j (contained (jobs past) number j legal.known)

    by_op : (o : Option Op) → slice_get j.ops (work j.number past) ≡ o → MatchOption o ⊥ (λ op. Does op (does.Read page bytes))
        → page < start.plan.logical
    by_op None e h = absurd h
    by_op (Some op) e h = omega (
      arith,
      read_page op page bytes h,
      limits.pages op (op_contained j.ops (work j.number past) op e),
    )

    by_kind : (b : Bool) → MatchBool b (IsNextCollectAct start past number (does.Read page bytes))
        (IsNextOperation past j (does.Read page bytes)) → page < start.plan.logical
    by_kind true h = absurd h.2
    by_kind false h = by_op (slice_get j.ops (work j.number past)) refl h

pub reads_as_left : (first : Start) → IsOpening first → (lives : Lives) → AreLives first lives → (log : Log) (earlier : Lives)
    → HasLife lives log earlier → (s : SlotReply) (past : Log) (number page : ℕ) (bytes : PageData) → HasSlot log s past
    → s.ran ≡ Some (number, does.Read page bytes) → bytes ≡ last_content first (past ∷ earlier) page
reads_as_left first opens lives h log earlier has s past number page bytes slot ran =
    let start : Start = start_after first earlier in
    let bound : IsOpening start = life_opens first opens lives log earlier h has in
    let exact : IsExact start log = life_exact first lives log earlier h has in
    let here = moment_exact start slot.2.0 (slot.0 ∷ past) (subst (IsExact start) slot.2.1 exact) in
    let legal = legal_act start log s past number (does.Read page bytes) (exact_legal start bound log exact) slot ran in
    let within : page < length first.contents = omega (
      arith,
      read_within start past number page bytes (waived_collections past ++ s.waived) legal.0 here.0 legal.1,
      ap (λ (p : DiePlan). p.logical) (plan_same first earlier),
      opens.pages,
    ) in
    legal.1.says ∙ starts_as_left first (past ∷ earlier) page within
