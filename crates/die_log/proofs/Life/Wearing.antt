-- What a block wore: the erases of it that were finished.
use Rattle.std.proofs.Common.{◌≡◌, ℕ, ◌+◌, ◌<◌, ◌==◌, ◌&&◌, Bool, true, false, cond, List, [], ◌∷◌, ◌++◌, length, Option, Some, None, is_some}
use Rattle.std.proofs.Common.{MatchOption, refl, ap, sym, ◌∙◌, inl, inr, arith, get_or, set, slice_get, sum_by, eq-eqb, ne_eqb}
use Rattle.std.specs.List.{AllByRecursion}
use Rattle.std.proofs.lemmas.Bool.{cases_eq, cases_lt}
use Rattle.std.proofs.lemmas.List.{get_or-set_same, get_or-set_other, set_past}
use Rattle.std.proofs.lemmas.List.Sums.{sum_by-cons}
use Rattle.slot_types.specs.declared.acts.Act.{Act}
use Rattle.slot_types.specs.declared.acts.Act.TheVariants as does
use Rattle.slot_types.specs.declared.events.Event.{Event}
use Rattle.slot_types.specs.declared.events.Event.TheVariants as events
use Rattle.slot_types.specs.declared.replies.Reply.TheVariants as replies
use Rattle.slot_types.specs.declared.replies.SlotReply.{SlotReply}
use Rattle.slot_types.specs.declared.replies.Waived.{Waived}
use Rattle.die_log.specs.Model.Log.{Log, Job, acts, waived_collections, work}
use Rattle.die_log.specs.Model.Flash.{Cells, Block, cells, cells_after, block_at, free_block, cells_after_program_in, open_block, block_after_erase_slot}
use Rattle.die_log.specs.Model.Start.{Start}
use Rattle.die_log.specs.Model.Work.{are_all}
use Rattle.die_log.specs.Model.Answers.{IsExact, reply_if_accepted, refusals, choice, slot_reply, reply_with, act_for}
use Rattle.die_log.specs.Model.Opening.{IsOpening}
use Rattle.die_log.specs.Model.Lives.{Lives, start_after, AreLives, HaveEnded, ends_erase, erases_in}
use Rattle.die_log.proofs.Legality.{entry, exact_induction}
use Rattle.die_log.proofs.Cells.Steps.{within_blocks}
use Rattle.die_log.proofs.Legal.Exact.{StandsWell, stands_well, well_served, chosen_is, erases_own, has_pages, has_slots}
use Rattle.die_log.proofs.LogInvariants.HeadActs.{all_is, erases_push, job_erases_not, op_act, job_act}
use Rattle.die_log.proofs.Tokens.Waivers.{Waits}
use Rattle.die_log.proofs.Life.Starting.{ended_live, ended_opens}

abbrev one_if : Bool → ℕ
one_if b = cond b 1 0

-- Blocks

-- a block is replaced by one of as many erases
set_same : (blocks : List Block) (b a : ℕ) (s : Block) → s.erases ≡ (get_or blocks b free_block).erases
    → (get_or (set blocks b s) a free_block).erases ≡ (get_or blocks a free_block).erases
set_same blocks b a s e = elim (cases_lt b (length blocks)) [
  | inl lt ↦ elim (cases_eq a b) [
    | inl same ↦ rw same (ap (λ (x : Block). x.erases) (get_or-set_same blocks b s free_block lt) ∙ e)
    | inr apart ↦ ap (λ (x : Block). x.erases) (get_or-set_other blocks b a s free_block apart)
  ]
  | inr past ↦ ap (λ (bs : List Block). (get_or bs a free_block).erases) (set_past blocks b s past)
]

programs_keep : (page : ℕ) (o : Option ℕ) (c : Cells) (a : ℕ) → (block_at (cells_after_program_in page o c) a).erases ≡ (block_at c a).erases
programs_keep page None c a = refl
programs_keep page (Some b) c a = set_same c.blocks b a (record (block_at c b) { filled = (block_at c b).filled + 1 }) refl

-- the last slot of an erase counts
erased_counts : (s : Block) (slots : ℕ) (t : Bool) → (s.erasing + 1 == slots) ≡ t
    → (cond (s.erasing + 1 == slots) (record { filled = 0; erasing = 0; erases = s.erases + 1 }) (record s { erasing = s.erasing + 1 })).erases
    ≡ s.erases + one_if t
erased_counts s slots true e = rw e refl
erased_counts s slots false e = rw e (omega arith)

-- A slot

-- after the slot the block has had as many erases as before, and one more where one has ended
abbrev Counts : Start → Log → SlotReply → ℕ → Type 0
Counts start past s b =
    (block_at (cells_after start.plan s.ran (cells start past)) b).erases
    ≡ (block_at (cells start past) b).erases + one_if (ends_erase b (replies.Slot s))

never : (t : Bool) → one_if (t && false) ≡ 0
never true = refl
never false = refl

-- an act that erases nothing
stays : (start : Start) (past : Log) (b m : ℕ) (t : Bool) → m ≡ (block_at (cells start past) b).erases
    → m ≡ (block_at (cells start past) b).erases + one_if (t && false)
stays start past b m t e = omega (arith, e, never t)

pub is_collection : (start : Start) (past : Log) (j : Job) (b : ℕ) → act_for start past j ≡ Some (does.Erase b) → j.collects ≡ true
is_collection start past j b e = by_kind j.collects refl
  where
    by_kind : (t : Bool) → j.collects ≡ t → j.collects ≡ true
    by_kind true kind = kind
    by_kind false kind = absurd (job_erases_not (does.Erase b)
        (op_act start past (slice_get j.ops (work j.number past)) (does.Erase b) (job_act start past j (does.Erase b) kind e)) b refl)

finished_if : (t : Bool) (n : ℕ) → is_some (cond t (Some n) None) ≡ t
finished_if true n = refl
finished_if false n = refl

erase_counts : (start : Start) (past : Log) (ws : List Waived) (j : Job) (block b : ℕ) → IsOpening start → StandsWell start past
    → (ws' : List Waived) → Waits start.plan past ws' j → act_for start past j ≡ Some (does.Erase block)
    → Counts start past (reply_with start.plan past ws j (Some (does.Erase block))) b
erase_counts start past ws j block b bound h ws' waits e =
    let c : Cells = cells start past in
    let s : Block = block_at c block in
    let own = erases_own start past j block (has_slots start.plan bound.bound) h.0 waits.known waits.ready e in
    let filled : 0 < s.filled = omega (arith, own.0, has_pages start.plan bound.bound) in
    let within : block < length c.blocks = within_blocks start.plan c block filled (cases_lt block (length c.blocks)) in
    let kind : j.collects ≡ true = is_collection start past j block e in
    let last : are_all start.plan j (acts j.number past ++ does.Erase block ∷ []) ≡ (s.erasing + 1 == start.plan.shape.erase_slots) =
    all_is start.plan j (acts j.number past ++ does.Erase block ∷ []) kind
    ∙ ap (λ n. n == start.plan.shape.erase_slots) (omega (arith, erases_push (acts j.number past) block, own.1)) in
    let ended : is_some (reply_with start.plan past ws j (Some (does.Erase block))).finished ≡ (s.erasing + 1 == start.plan.shape.erase_slots) =
    finished_if (are_all start.plan j (acts j.number past ++ does.Erase block ∷ [])) j.number ∙ last in
    elim (cases_eq b block) [
      | inl same ↦
          let here : (block_at (cells_after start.plan (Some (j.number, does.Erase block)) c) b).erases
          ≡ s.erases + one_if (s.erasing + 1 == start.plan.shape.erase_slots) =
          ap (λ k. (get_or (set c.blocks block (block_after_erase_slot start.plan s)) k free_block).erases) same
          ∙ (ap (λ (x : Block). x.erases) (get_or-set_same c.blocks block (block_after_erase_slot start.plan s) free_block within)
          ∙ erased_counts s start.plan.shape.erase_slots (s.erasing + 1 == start.plan.shape.erase_slots) refl) in
          let counted : one_if (ends_erase b (replies.Slot (reply_with start.plan past ws j (Some (does.Erase block)))))
          ≡ one_if (s.erasing + 1 == start.plan.shape.erase_slots) =
          ap {B = ℕ} (λ t. one_if (t && (block == b))) ended
          ∙ (ap {B = ℕ} (λ t. one_if ((s.erasing + 1 == start.plan.shape.erase_slots) && t)) (eq-eqb block b (sym same))
          ∙ both (s.erasing + 1 == start.plan.shape.erase_slots)) in
          omega (arith, here, counted, ap (λ k. (block_at c k).erases) same)
      | inr apart ↦
          let here = ap (λ (x : Block). x.erases) (get_or-set_other c.blocks block b (block_after_erase_slot start.plan s) free_block apart) in
          let counted : one_if (ends_erase b (replies.Slot (reply_with start.plan past ws j (Some (does.Erase block))))) ≡ 0 =
          ap {B = ℕ} (λ t. one_if (is_some (reply_with start.plan past ws j (Some (does.Erase block))).finished && t))
          (ne_eqb block b (λ x. apart (sym x)))
          ∙ never (is_some (reply_with start.plan past ws j (Some (does.Erase block))).finished) in
          omega (arith, here, counted)
    ]
  where
    both : (t : Bool) → one_if (t && true) ≡ one_if t
    both true = refl
    both false = refl

act_counts : (start : Start) (past : Log) (ws : List Waived) (j : Job) (o : Option Act) (b : ℕ) → IsOpening start → StandsWell start past
    → (ws' : List Waived) → Waits start.plan past ws' j → act_for start past j ≡ o → Counts start past (reply_with start.plan past ws j o) b
act_counts start past ws j None b bound h ws' waits e = omega arith
act_counts start past ws j (Some (does.Read page bytes)) b bound h ws' waits e = stays start past b _ _ refl
act_counts start past ws j (Some (does.Write page bytes)) b bound h ws' waits e =
    stays start past b _ _ (programs_keep page (open_block start.plan (cells start past)) (cells start past) b)
act_counts start past ws j (Some (does.Trim page)) b bound h ws' waits e = stays start past b _ _ refl
act_counts start past ws j (Some (does.CopyRead page)) b bound h ws' waits e = stays start past b _ _ refl
act_counts start past ws j (Some (does.CopyProgram page)) b bound h ws' waits e =
    stays start past b _ _ (programs_keep page (open_block start.plan (cells start past)) (cells start past) b)
act_counts start past ws j (Some (does.Erase block)) b bound h ws' waits e = erase_counts start past ws j block b bound h ws' waits e

head_counts : (start : Start) (past : Log) (ws : List Waived) (o : Option Job) (b : ℕ) → IsOpening start → StandsWell start past
    → (ws' : List Waived) → MatchOption o (Unit {0}) (λ j. Waits start.plan past ws' j) → Counts start past (slot_reply start past ws o) b
head_counts start past ws None b bound h ws' waits = omega arith
head_counts start past ws (Some j) b bound h ws' waits = act_counts start past ws j (act_for start past j) b bound h ws' waits refl

-- A log

pub erases_counted : (start : Start) → IsOpening start → (log : Log) → IsExact start log → (b : ℕ)
    → (block_at (cells start log) b).erases ≡ (block_at start.cells b).erases + erases_in b log
erases_counted start bound = exact_induction start Q (λ b. omega arith) step
  where
    Q : Log → Type 0
    Q log = (b : ℕ) → (block_at (cells start log) b).erases ≡ (block_at start.cells b).erases + erases_in b log

    step : (past : Log) (caller : ℕ) (event : Event) → IsExact start past → Q past
        → AllByRecursion (λ c. c.0 ≡ false) (refusals start past event) → Q (entry caller event (reply_if_accepted start past event) ∷ past)
    step past caller (events.Submit task release due ops) exact ih none b = omega (
      arith,
      ih b,
      sum_by-cons (λ e. one_if (ends_erase b e.reply)) (entry caller (events.Submit task release due ops)
          (reply_if_accepted start past (events.Submit task release due ops))) past,
    )
    step past caller (events.Collect task release due) exact ih none b = omega (
      arith,
      ih b,
      sum_by-cons (λ e. one_if (ends_erase b e.reply)) (entry caller (events.Collect task release due)
          (reply_if_accepted start past (events.Collect task release due))) past,
    )
    step past caller events.Slot exact ih none b =
        let h = stands_well start bound past exact in
        let c = chosen_is start past (well_served start past bound h) in
        omega (
          arith,
          ih b,
          head_counts start past (choice start past).waived (choice start past).head b bound h
              (waived_collections past ++ (choice start past).waived) c.head,
          sum_by-cons (λ e. one_if (ends_erase b e.reply)) (entry caller events.Slot (reply_if_accepted start past events.Slot)) past,
        )

-- All lives

life_wear : (first : Start) → IsOpening first → (log : Log) (earlier : Lives) → HaveEnded first earlier
    → IsExact (start_after first earlier) log → (b : ℕ)
    → (block_at (start_after first earlier).cells b).erases ≡ (block_at first.cells b).erases + sum_by (erases_in b) earlier
    → (block_at (start_after first (log ∷ earlier)).cells b).erases ≡ (block_at first.cells b).erases + sum_by (erases_in b) (log ∷ earlier)
life_wear first opens log earlier ended exact b before = omega (
  arith,
  before,
  erases_counted (start_after first earlier) (ended_opens first opens earlier ended) log exact b,
  sum_by-cons (erases_in b) log earlier,
)

pub lives_wear : (first : Start) → IsOpening first → (lives : Lives) → AreLives first lives → (b : ℕ)
    → (block_at (start_after first lives).cells b).erases ≡ (block_at first.cells b).erases + sum_by (erases_in b) lives
lives_wear first opens [] h b = omega arith
lives_wear first opens (log ∷ earlier) h b =
    life_wear first opens log earlier h.0 h.1 b (lives_wear first opens earlier (ended_live first earlier h.0) b)
