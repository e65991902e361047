-- What a collection copies fits its collector's reserve.
use Rattle.std.proofs.Common.{◌≡◌, ℕ, ◌+◌, ◌<◌, ◌≤◌, ◌==◌, ◌&&◌, not, Bool, true, false, cond, List, [], ◌∷◌, count_by, get_or, Option}
use Rattle.std.proofs.Common.{Some, None, refl, ap, sym, subst, ◌∙◌, inl, inr, arith, slice_get, position, option_map}
use Rattle.std.specs.List.{cons_option, filter_map, range_with_len, last_or}
use Rattle.std.proofs.lemmas.Bool.{true≢false, cases_lt, cases_eq, and_parts, eqb-true, eq-eqb, ne_eqb, cond-true, cond-false}
use Rattle.std.proofs.lemmas.Option.{same_Some}
use Rattle.std.proofs.lemmas.List.Sums.{sum_by_push}
use Rattle.std.proofs.lemmas.List.Quantifiers.{position-Some}
use Rattle.slot_types.specs.Places.{is_at}
use Rattle.slot_types.specs.declared.plans.DiePlan.{DiePlan}
use Rattle.slot_types.specs.declared.pages.Place.{Place}
use Rattle.slot_types.specs.declared.acts.Act.{Act}
use Rattle.slot_types.specs.declared.acts.Act.TheVariants as does
use Rattle.slot_types.specs.declared.replies.Waived.{Waived}
use Rattle.die_log.specs.Model.Log.{Log, Job, job_at, acts, act_of, is_waived, work}
use Rattle.die_log.specs.Model.Flash.{Cells, cells, valid, valid_pages, block_at}
use Rattle.die_log.specs.Model.Work.{are_all, is_ready, is_copy_program, victim_of, shown_by, block_shown}
use Rattle.die_log.specs.Model.Accounts.{accounts, after_waivers}
use Rattle.die_log.specs.Invariants.TrueAccounts.{reserve_full}
use Rattle.die_log.specs.Model.Answers.{act_for, act_of_op, collect_act, read_or_erase, is_waivable, block_for, buffer_after, victim}
use Rattle.die_log.specs.Results.Legal.{is_among}
use Rattle.die_log.specs.Invariants.TrueAndLegal.{FewCopies}
use Rattle.die_log.specs.Invariants.TrueAccounts.{is_pending, copied_of}
use Rattle.die_log.proofs.Tokens.Sums.{one_if}
use Rattle.die_log.proofs.Tokens.Doing.{IsOfCollection, buffer_of, act_kind}
use Rattle.die_log.proofs.Cells.Steps.{opens}
use Rattle.die_log.proofs.LogInvariants.OneMoreEntry.{act_own, no_victim, shown_other}
use Rattle.die_log.proofs.LogInvariants.HeadActs.{block_some}
use Rattle.die_log.proofs.Tokens.Changes.{pending_other}
use Rattle.die_log.proofs.Tokens.Slots.{slot_waives, ran_acts, empty_if, IsTurn, was_pending}
use Rattle.die_log.proofs.Tokens.Turns.{turn_log, turn_copy}
use Rattle.die_log.proofs.Tokens.Begins.{fresh_finds, is_pending_if}
use Rattle.die_log.proofs.Tokens.Copying.{set_fewer, program_elsewhere, program_away, copy_is, IsPlacedAt, placed_at, some_valid}
use Rattle.die_log.specs.Model.Start.{Start}
use Rattle.die_log.specs.Model.Opening.{IsOpening}

-- The act of a collection

collect_of : (start : Start) (past : Log) (j : Job) (act : Act) → j.collects ≡ true → act_for start past j ≡ Some act
    → collect_act start.plan (cells start past) (buffer_of start.plan past j) (block_for start past j) ≡ Some act
collect_of start past j act is e = sym (ap (λ (t : Bool). cond t
    (collect_act start.plan (cells start past) (buffer_of start.plan past j) (block_for start past j))
    (act_of_op start past (slice_get j.ops (work j.number past)))) is) ∙ e

begun_block : (start : Start) (past : Log) (j : Job) → 0 < work j.number past → block_for start past j ≡ victim_of start j.number past
begun_block start past j h = cond-false (work j.number past == 0) (victim start past) (victim_of start j.number past)
    (ne_eqb (work j.number past) 0 (λ e. absurd (omega (arith, h, e))))

fresh_block : (start : Start) (past : Log) (j : Job) → work j.number past ≡ 0 → block_for start past j ≡ victim start past
fresh_block start past j e = cond-true (work j.number past == 0) (victim start past) (victim_of start j.number past)
    (eq-eqb (work j.number past) 0 e)

-- without acts the buffer is empty
fresh_buffer : (plan : DiePlan) (past : Log) (j : Job) → work j.number past ≡ 0 → buffer_of plan past j ≡ None
fresh_buffer plan past j e = ap (λ (l : List Act). buffer_after (last_or None l)) (empty_if (acts j.number past) e)

pub record IsCopy (start : Start) (past : Log) (j : Job) (page : ℕ) : Type 0 where
  pub block : ℕ
  pub victim_is : victim_of start j.number past ≡ Some block
  pub placed : IsPlacedAt (cells start past) page block

some_none : (page : ℕ) (o : Option ℕ) → o ≡ Some page → o ≡ None → ⊥
some_none page None e h = absurd cc
some_none page (Some p) e h = absurd cc

pub copy_facts : (start : Start) (past : Log) (j : Job) (page : ℕ) → j.collects ≡ true → act_for start past j ≡ Some (does.CopyProgram page)
    → IsCopy start past j page
copy_facts start past j page is e =
    let c : Cells = cells start past in
    let buffer : Option ℕ = buffer_of start.plan past j in
    let does_it = collect_of start past j (does.CopyProgram page) is e in
    let b = block_some start.plan c buffer (block_for start past j) (does.CopyProgram page) does_it in
    let k = copy_is start.plan c b.0 page buffer (sym (ap (λ o. collect_act start.plan c buffer o) b.1) ∙ does_it) in
    let begun : 0 < work j.number past = elim (cases_lt 0 (work j.number past))
    [ inl h ↦ h | inr h ↦ absurd (some_none page buffer k.0 (fresh_buffer start.plan past j (omega (arith, h)))) ] in
    record { block = b.0; victim_is = sym (begun_block start past j begun) ∙ b.1; placed = placed_at c page b.0 k.1 }

-- a copy finds the reserve above 0
pub few_now : (start : Start) (past : Log) (j : Job) (page : ℕ) → FewCopies start past → job_at past j.number ≡ Some j
    → is_ready start.plan past j ≡ true → j.collects ≡ true → act_for start past j ≡ Some (does.CopyProgram page)
    → copied_of (λ n. acts n past) j < reserve_full start.plan
few_now start past j page few known ready is e =
    let k = copy_facts start past j page is e in
    omega (
      arith,
      few.few j k.block known (is_pending_if start.plan past j ready is) k.victim_is,
      some_valid (cells start past) page k.block
          k.placed,
    )

-- A collection that begins shows its block

abbrev first_of_list : {Y : Type 0} → Y → List Y → Option Y
first_of_list d [] = Some d
first_of_list d (y ∷ ys) = Some y

first_by : {X Y : Type 0} (h : X → Option Y) (x : X) (rest : List Y) (y : Y) (ys : List Y) (o : Option Y) → h x ≡ o → cons_option o rest ≡ y
    ∷ ys → (rest ≡ y ∷ ys → (z : X) × (h z ≡ Some y)) → (z : X) × (h z ≡ Some y)
first_by h x rest y ys None is e ih = ih e
first_by h x rest y ys (Some v) is e ih = (x, is ∙ ap (λ l. first_of_list v l) e)

filter_first : {X Y : Type 0} (h : X → Option Y) (xs : List X) (y : Y) (ys : List Y) → filter_map h xs ≡ y ∷ ys → (x : X) × (h x ≡ Some y)
filter_first h [] y ys e = absurd cc
filter_first h (x ∷ xs) y ys e = first_by h x (filter_map h xs) y ys (h x) refl e (filter_first h xs y ys)

-- in this cell of the block
abbrev in_cell : ℕ → ℕ → Option Place → Bool
in_cell b cell = is_at (record { block = b; page = cell })

place_in : (b cell : ℕ) (o : Option Place) → in_cell b cell o ≡ true → option_map (λ (q : Place). q.block) o ≡ Some b
place_in b cell None e = absurd cc
place_in b cell (Some q) e = ap (λ (n : ℕ). Some n) (eqb-true q.block b (and_parts (q.block == b) (q.page == cell) e).0)

-- the first page of a block is placed in it
shown_first : (plan : DiePlan) (c : Cells) (b : ℕ) (pages : List ℕ) → valid_pages plan c b ≡ pages → block_shown c (read_or_erase b pages)
    ≡ Some b
shown_first plan c b [] e = refl
shown_first plan c b (page ∷ pages) e =
    let f = filter_first (λ cell. position (in_cell b cell) c.places) (range_with_len 0 plan.shape.pages) page pages e in
    let p = position-Some (in_cell b f.0) c.places page None f.1 in
    place_in b f.0 (get_or c.places page None) p.1

-- A slot

-- what is known of a slot in which a pending collection j does the act, besides its turn
pub record MayShow (start : Start) (past : Log) (ws : List Waived) (j : Job) : Type 0 where
  pub bound : IsOpening start
  pub few_before : FewCopies start past
  pub unwaivable : is_waivable start.plan past (after_waivers past ws (accounts start past)) j ≡ false

copies_more : (plan : DiePlan) (past : Log) (caller slot : ℕ) (ws : List Waived) (finished : Option ℕ) (j : Job) (act : Act)
    → copied_of (λ n. acts n (turn_log past caller slot ws finished j act)) j
    ≡ copied_of (λ n. acts n past) j + one_if (is_copy_program act)
copies_more plan past caller slot ws finished j act =
    ap (λ (l : List Act). count_by is_copy_program l) (ran_acts caller slot ws finished past j.number act).more
    ∙ sum_by_push (λ x. one_if (is_copy_program x)) (acts j.number past) act

-- a begun collection keeps its block
begun_shows : (start : Start) (past : Log) (number b : ℕ) (act : Option Act) (b' : ℕ) → victim_of start number past ≡ Some b
    → shown_by start past (victim_of start number past) act ≡ Some b' → b ≡ b'
begun_shows start past number b act b' e h = same_Some b b' (sym (ap (λ o. shown_by start past o act) e) ∙ h)

-- a collection that begins shows its victim
pub begin_shows : (start : Start) (past : Log) (j : Job) (act : Act) (v : ℕ) → act_for start past j ≡ Some act → j.collects ≡ true
    → work j.number past ≡ 0 → victim start past ≡ Some v → shown_by start past (victim_of start j.number past) (Some act) ≡ Some v
begin_shows start past j act v does_it is fresh found =
    let c : Cells = cells start past in
    let block : block_for start past j ≡ Some v = fresh_block start past j fresh ∙ found in
    let does : collect_act start.plan c None (Some v) ≡ Some act =
    sym (ap (λ o. collect_act start.plan c (buffer_of start.plan past j) o) block
    ∙ ap (λ o. collect_act start.plan c o (Some v)) (fresh_buffer start.plan past j fresh)) ∙ collect_of start past j act is does_it in
    let act_is : read_or_erase v (valid_pages start.plan c v) ≡ act = same_Some (read_or_erase v (valid_pages start.plan c v)) act does in
    let here : shown_by start past (victim_of start j.number past) (Some act)
    ≡ block_shown c act = ap (λ o. shown_by start past o (Some act))
    (no_victim start j.number past (empty_if (acts j.number past) fresh)) in
    here ∙ (sym (ap (block_shown c) act_is) ∙ shown_first start.plan c v (valid_pages start.plan c v) refl)

-- an act that programs nothing: a begun collection keeps its block, and one that begins shows its victim
pub still_few : (start : Start) (past : Log) (ws : List Waived) (j : Job) (act : Act) (b' : ℕ) → IsTurn start past ws j act
    → MayShow start past ws j → j.collects ≡ true
    → shown_by start past (victim_of start j.number past) (Some act) ≡ Some b' → copied_of (λ n. acts n past) j + valid (cells start past) b'
    ≤ reserve_full start.plan
still_few start past ws j act b' h m is shows = elim (cases_lt 0 (work j.number past)) [
  | inl begun ↦
      let c : Cells = cells start past in
      let b = block_some start.plan c (buffer_of start.plan past j) (block_for start past j) act (collect_of start past j act is h.does_it) in
      let known : victim_of start j.number past ≡ Some b.0 = sym (begun_block start past j begun) ∙ b.1 in
      let few = m.few_before.few j b.0 h.waits.known (was_pending start past ws j act h is) known in
      subst (λ n. copied_of (λ n. acts n past) j + valid (cells start past) n ≤ reserve_full start.plan)
      (begun_shows start past j.number b.0 (Some act) b' known shows) few
  | inr none ↦
      let fresh : work j.number past ≡ 0 = omega (arith, none) in
      let c : Cells = cells start past in
      let v = fresh_finds start past ws j m.bound h.true_before h.serve h.waivers h.waits m.unwaivable is fresh in
      let shown = begin_shows start past j act v.0 h.does_it is fresh v.1 in
      let same : v.0 ≡ b' = same_Some v.0 b' (sym shown ∙ shows) in
      let nothing : copied_of (λ n. acts n past) j ≡ 0 = ap (λ (l : List Act). count_by is_copy_program l)
      (empty_if (acts j.number past) fresh) in
      subst (λ n. copied_of (λ n. acts n past) j + valid (cells start past) n ≤ reserve_full start.plan) same (omega (arith, nothing, v.2))
]

-- the collection that is the head
few_own : (start : Start) (past : Log) (caller slot : ℕ) (ws : List Waived) (finished : Option ℕ) (j : Job) (act : Act) (b' : ℕ)
    → IsTurn start past ws j act → MayShow start past ws j → j.collects ≡ true → IsOfCollection act
    → shown_by start past (victim_of start j.number past) (Some act) ≡ Some b'
    → copied_of (λ n. acts n (turn_log past caller slot ws finished j act)) j + valid
    (cells start (turn_log past caller slot ws finished j act)) b' ≤ reserve_full start.plan
few_own start past caller slot ws finished j (does.Read page bytes) b' h m is kind shows = absurd kind
few_own start past caller slot ws finished j (does.Write page bytes) b' h m is kind shows = absurd kind
few_own start past caller slot ws finished j (does.Trim page) b' h m is kind shows = absurd kind
few_own start past caller slot ws finished j (does.CopyRead page) b' h m is kind shows =
    omega (
      arith,
      copies_more start.plan past caller slot ws finished j (does.CopyRead page),
      still_few start past ws j (does.CopyRead page) b' h m
          is shows,
    )
few_own start past caller slot ws finished j (does.Erase block) b' h m is kind shows =
    omega (
      arith,
      copies_more start.plan past caller slot ws finished j (does.Erase block),
      still_few start past ws j (does.Erase block) b' h m is
          shows,
    )
few_own start past caller slot ws finished j (does.CopyProgram page) b' h m is kind shows =
    let c : Cells = cells start past in
    let k = copy_facts start past j page is h.does_it in
    let same : k.block ≡ b' = begun_shows start past j.number k.block (Some (does.CopyProgram page)) b' k.victim_is shows in
    let pending_now = was_pending start past ws j (does.CopyProgram page) h is in
    let o = opens start.plan c (turn_copy start past caller slot ws finished j page m.bound h is).1 in
    let away = program_away start.plan c page k.block o.0 k.placed.place (omega (arith, m.bound.bound.shape.some_pages)) h.serve.sound
    (h.serve.victims_full j k.block h.waits.known pending_now k.victim_is) o.1 k.placed.stands k.placed.inside in
    subst (λ n. copied_of (λ n. acts n (turn_log past caller slot ws finished j (does.CopyProgram page))) j + valid
    (cells start (turn_log past caller slot ws finished j (does.CopyProgram page))) n ≤ reserve_full start.plan) same
    (omega (
      arith,
      copies_more start.plan past caller slot ws finished j (does.CopyProgram page),
      m.few_before.few j k.block h.waits.known
          pending_now k.victim_is,
      away,
    ))

-- no act places a page in a closed block
pub valid_less : (start : Start) (past : Log) (caller slot : ℕ) (ws : List Waived) (finished : Option ℕ) (j : Job) (act : Act) (b : ℕ)
    → IsOpening start → IsTurn start past ws j act → (block_at (cells start past) b).filled ≡ start.plan.shape.pages
    → valid (cells start (turn_log past caller slot ws finished j act)) b ≤ valid (cells start past) b
valid_less start past caller slot ws finished j (does.Read page bytes) b bound h closed = omega arith
valid_less start past caller slot ws finished j (does.Write page bytes) b bound h closed = program_elsewhere start.plan (cells start past) page b
    (omega (arith, bound.bound.shape.some_pages)) h.serve.sound closed
valid_less start past caller slot ws finished j (does.Trim page) b bound h closed = set_fewer (cells start past).places page b None refl
valid_less start past caller slot ws finished j (does.CopyRead page) b bound h closed = omega arith
valid_less start past caller slot ws finished j (does.CopyProgram page) b bound h closed = program_elsewhere start.plan (cells start past) page b
    (omega (arith, bound.bound.shape.some_pages)) h.serve.sound closed
valid_less start past caller slot ws finished j (does.Erase block) b bound h closed = omega arith

own_kind : (start : Start) (past : Log) (j : Job) (act : Act) → j.collects ≡ true → act_for start past j ≡ Some act → IsOfCollection act
own_kind start past j act is e = elim (act_kind start past j act e) [
  | inl k ↦ absurd (true≢false (sym is ∙ k.job))
  | inr k ↦ k.kind
]

-- a slot in which the head does an act keeps the copies few
pub few_turn : (start : Start) (past : Log) (caller slot : ℕ) (ws : List Waived) (finished : Option ℕ) (j : Job) (act : Act)
    → IsTurn start past ws j act → MayShow start past ws j → FewCopies start (turn_log past caller slot ws finished j act)
few_turn start past caller slot ws finished j act h m = record { few = each }
  where
    each : (i : Job) (b : ℕ) → job_at past i.number ≡ Some i
        → is_pending start.plan (λ n. acts n (turn_log past caller slot ws finished j act))
        (is_waived (turn_log past caller slot ws finished j act)) i ≡ true
        → victim_of start i.number (turn_log past caller slot ws finished j act) ≡ Some b
        → copied_of (λ n. acts n (turn_log past caller slot ws finished j act)) i + valid
        (cells start (turn_log past caller slot ws finished j act)) b ≤ reserve_full start.plan
    each i b known is shows =
        let log : Log = turn_log past caller slot ws finished j act in
        let a = ran_acts caller slot ws finished past j.number act in
        elim (cases_eq i.number j.number) [
          | inl e ↦
              let same : j ≡ i = same_Some j i (sym h.waits.known ∙ (ap (λ n. job_at past n) (sym e) ∙ known)) in
              let of_i : i.collects ≡ true = (and_parts i.collects (not (are_all start.plan i (acts i.number log)))
              (and_parts (i.collects && not (are_all start.plan i (acts i.number log))) (not (is_waived log i.number)) is).0).0 in
              let of_j : j.collects ≡ true = ap (λ (x : Job). x.collects) same ∙ of_i in
              let shown : shown_by start past (victim_of start j.number past) (Some act)
              ≡ Some b = ap (λ o. shown_by start past (victim_of start j.number past) o) (sym (act_own j.number act))
              ∙ (ap (λ (x : Job). victim_of start x.number log) same ∙ shows) in
              subst (λ (x : Job). copied_of (λ n. acts n log) x + valid (cells start log) b ≤ reserve_full start.plan) same
              (few_own start past caller slot ws finished j act b h m of_j (own_kind start past j act of_j h.does_it) shown)
          | inr apart ↦
              let w = slot_waives start caller slot ws (Some (j.number, act)) finished past h.serve.numbered h.waivers in
              let was = pending_other start.plan (λ n. acts n past) (λ n. acts n log) (is_waived past) (is_waived log) (λ n. is_among n ws) i w
              (a.other i.number apart) is in
              let none : act_of i.number (Some (j.number, act))
              ≡ None = cond-false (j.number == i.number) (Some act) None (ne_eqb j.number i.number (λ e. apart (sym e))) in
              let before : victim_of start i.number past ≡ Some b = sym
              (shown_other start past (victim_of start i.number past) (act_of i.number (Some (j.number, act))) none) ∙ shows in
              let copied : copied_of (λ n. acts n past) i
              ≡ copied_of (λ n. acts n log) i = ap (λ (l : List Act). count_by is_copy_program l) (a.other i.number apart) in
              omega (
                arith,
                copied,
                m.few_before.few i b known was before,
                valid_less start past caller slot ws finished j act b m.bound h
                    (h.serve.victims_full i b known was before),
              )
        ]
