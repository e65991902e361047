-- A slot keeps the accounts true.
use Rattle.std.proofs.Common.{◌≡◌, ℕ, ◌<◌, ◌==◌, ◌&&◌, not, nat_le, Bool, true, List, [], ◌∷◌, ◌++◌, length, drop, Option, Some, None, refl}
use Rattle.std.proofs.Common.{ap, sym, subst, ◌∙◌, inl, inr, arith, append-nil}
use Rattle.std.specs.List.{AllByRecursion, filter_map}
use Rattle.std.proofs.lemmas.Bool.{true≢false, cases_eq, eqb-true, eq-eqb, ne_eqb, and_parts, and_from, or_cases, cond-true, cond-false}
use Rattle.std.proofs.lemmas.List.Elements.{filter_map-append}
use Rattle.std.proofs.lemmas.List.Folds.{list_any-append}
use Rattle.slot_types.specs.declared.plans.DiePlan.{DiePlan}
use Rattle.slot_types.specs.declared.acts.Act.{Act}
use Rattle.slot_types.specs.declared.events.Event.TheVariants as events
use Rattle.slot_types.specs.declared.replies.Reply.TheVariants as replies
use Rattle.slot_types.specs.declared.replies.Entry.{Entry}
use Rattle.slot_types.specs.declared.replies.Waived.{Waived}
use Rattle.die_log.specs.Model.Log.{Log, Job, Carried, jobs, job_at, carried_slots, now, waived_collections, act_of, acts, work, is_waived}
use Rattle.die_log.specs.Model.Flash.{free}
use Rattle.slot_types.specs.Operations.{writes}
use Rattle.die_log.specs.Model.Work.{is_done, owed_writes}
use Rattle.plan_rules.specs.Accounts.{Accounts}
use Rattle.plan_rules.specs.Accounts as moves
use Rattle.die_log.specs.Model.Accounts.{accounts, after_act, after_waiver, after_waivers}
use Rattle.die_log.specs.Model.Answers.{act_for}
use Rattle.die_log.specs.Results.Legal.{is_among, AreWaivers}
use Rattle.die_log.proofs.Legality.{entry}
use Rattle.die_log.specs.Invariants.TrueAccounts.{AccountsAgree}
use Rattle.die_log.proofs.Tokens.Waivers.{Waits}
use Rattle.die_log.proofs.Tokens.Given.{CellsServe}
use Rattle.die_log.specs.Invariants.TrueAccounts.{left_of, held_of, is_pending, lent_to, HasTaskAndOps, AreTrueAccounts}
use Rattle.die_log.proofs.Tokens.Sums.{all_at, held_same, sum_same}
use Rattle.die_log.proofs.Tokens.Moves.{agree_same, agree_waived}
use Rattle.die_log.proofs.Tokens.Changes.{Waives, Acts, lent_idle, pending_idle, pending_after}
use Rattle.die_log.specs.Model.Start.{Start}

-- Waivers

pub agree_waivers : (start : Start) (past : Log) (earlier : List Waived) (a : Accounts) (ws : List Waived) (held lent : ℕ → ℕ)
    (owed free : ℕ) → AllByRecursion (HasTaskAndOps start.plan) (jobs past)
    → AccountsAgree start.plan a held lent owed free → AreWaivers start.plan past earlier a ws → AccountsAgree start.plan (after_waivers past ws a) held lent owed free
agree_waivers start past earlier a [] held lent owed free taken g h = g
agree_waivers start past earlier a (w ∷ ws) held lent owed free taken g (j, is, rest) =
    let next : after_waiver (job_at past w.number) a ≡ moves.accounts_after_waiver a j.task = ap (λ o. after_waiver o a) is.known in
    let within : j.task < length start.plan.caps = (all_at (HasTaskAndOps start.plan) (jobs past) w.number j taken is.known).task in
    subst (λ b. AccountsAgree start.plan (after_waivers past ws b) held lent owed free) (sym next) (
    agree_waivers start past (earlier ++ w ∷ []) (moves.accounts_after_waiver a j.task) ws held lent owed free taken
    (agree_waived start.plan a held lent owed free j.task g within is.spare) rest
    )

pub empty_if : {X : Type 0} (xs : List X) → length xs ≡ 0 → xs ≡ []
empty_if [] e = refl
empty_if (x ∷ xs) e = absurd (omega (arith, e))

-- what is waived in a slot has no act
pub waived_idle : (plan : DiePlan) (past : Log) (earlier : List Waived) (a : Accounts) (ws : List Waived) (n : ℕ)
    → ((k : ℕ) (j : Job) → job_at past k ≡ Some j → j.number ≡ k)
    → AreWaivers plan past earlier a ws → is_among n ws ≡ true → acts n past ≡ []
waived_idle plan past earlier a [] n numbered h is = absurd cc
waived_idle plan past earlier a (w ∷ ws) n numbered (j, one, rest) is =
    elim (or_cases (w.number == n) (is_among n ws) is) [
      | inl here ↦
          let e : j.number ≡ n = numbered w.number j one.known ∙ eqb-true w.number n here in
          empty_if (acts n past) (sym (ap (λ m. work m past) e) ∙ one.unbegun)
      | inr later ↦ waived_idle plan past (earlier ++ w ∷ []) (moves.accounts_after_waiver a j.task) ws n numbered rest later
    ]

-- Acts

abbrev pub slot_entry : ℕ → ℕ → List Waived → Carried → Option ℕ → Entry
slot_entry caller slot ws ran finished = entry caller events.Slot
    (replies.Slot (record { slot = slot; waived = ws; ran = ran; finished = finished }))

pub idle_acts : (caller slot : ℕ) (ws : List Waived) (finished : Option ℕ) (past : Log) (n : ℕ) → acts n past
    ≡ acts n (slot_entry caller slot ws None finished ∷ past)
idle_acts caller slot ws finished past n = sym (filter_map-append (λ c. act_of n c) (carried_slots past) (None ∷ []) ∙ append-nil (acts n past))

abbrev listed : Option Act → List Act
listed None = []
listed (Some act) = act ∷ []

one_listed : (n : ℕ) (c : Carried) (o : Option Act) → act_of n c ≡ o → filter_map (λ d. act_of n d) (c ∷ []) ≡ listed o
one_listed n c None e = rw e refl
one_listed n c (Some act) e = rw e refl

pub ran_acts : (caller slot : ℕ) (ws : List Waived) (finished : Option ℕ) (past : Log) (number : ℕ) (act : Act)
    → Acts (λ n. acts n past) (λ n. acts n (slot_entry caller slot ws (Some (number, act)) finished ∷ past)) number act
ran_acts caller slot ws finished past number act =
    let c : Carried = Some (number, act) in
    record {
      other = λ n apart.
          let none : act_of n c ≡ None = cond-false (number == n) (Some act) None (ne_eqb number n (λ e. apart (sym e))) in
          sym (filter_map-append (λ d. act_of n d) (carried_slots past) (c ∷ [])
          ∙ (ap (λ (l : List Act). acts n past ++ l) (one_listed n c None none) ∙ append-nil (acts n past)));
      more =
          let here : act_of number c ≡ Some act = cond-true (number == number) (Some act) None (eq-eqb number number refl) in
          filter_map-append (λ d. act_of number d) (carried_slots past) (c ∷ [])
          ∙ ap (λ (l : List Act). acts number past ++ l) (one_listed number c (Some act) here);
    }

pub slot_waives : (start : Start) (caller slot : ℕ) (ws : List Waived) (ran : Carried) (finished : Option ℕ) (past : Log)
    → ((k : ℕ) (j : Job) → job_at past k ≡ Some j → j.number ≡ k)
    → AreWaivers start.plan past (waived_collections past) (accounts start past) ws
    → Waives (λ n. acts n past) (is_waived past) (is_waived (slot_entry caller slot ws ran finished ∷ past)) (λ n. is_among n ws)
slot_waives start caller slot ws ran finished past numbered h = record {
  gone_is = λ n. list_any-append (λ w. w.number == n) (waived_collections past) ws;
  idle = λ n. waived_idle start.plan past (waived_collections past) (accounts start past) ws n numbered h;
}

waived_empty : (own : ℕ → List Act) (gone gone' am : ℕ → Bool) → Waives own gone gone' am → ((n : ℕ) → gone n ≡ true → own n ≡ []) → (n : ℕ)
    → gone' n ≡ true → own n ≡ []
waived_empty own gone gone' am w before n e = elim (or_cases (gone n) (am n) (sym (w.gone_is n) ∙ e)) [
  | inl earlier ↦ before n earlier
  | inr here ↦ w.idle n here
]

-- a slot that carries nothing
pub keeps_idle : (start : Start) (past : Log) (caller slot : ℕ) (ws : List Waived) (finished : Option ℕ) → AreTrueAccounts start past
    → CellsServe start past
    → AreWaivers start.plan past (waived_collections past) (accounts start past) ws → AreTrueAccounts start (slot_entry caller slot ws None finished ∷ past)
keeps_idle start past caller slot ws finished h c are =
    let log : Log = slot_entry caller slot ws None finished ∷ past in
    let own : ℕ → List Act = λ n. acts n past in
    let own' : ℕ → List Act = λ n. acts n log in
    let w = slot_waives start caller slot ws None finished past c.numbered are in
    let same = idle_acts caller slot ws finished past in
    record {
      agree = agree_same start.plan (after_waivers past ws (accounts start past)) (held_of own (jobs past))
          (lent_to start.plan own (is_waived past) (jobs past)) (held_of own' (jobs past)) (lent_to start.plan own' (is_waived log) (jobs past))
          (owed_writes past) (free start past) (owed_writes log) (free start log)
          (agree_waivers start past (waived_collections past) (accounts start past) ws _ _ (owed_writes past) (free start past) h.taken h.agree are)
          (held_same own own' (jobs past) (λ k i e. ap (λ (l : List Act). writes (drop (length l) i.ops)) (same i.number)))
          (lent_idle start.plan own own' (is_waived past) (is_waived log) (λ n. is_among n ws) (jobs past) w same)
          (sum_same (left_of own) (left_of own') (jobs past)
          (λ k i e. ap (λ (l : List Act). writes (drop (length l) i.ops)) (same i.number)))
          refl;
      taken = h.taken;
      one_each = λ t. omega (
        arith,
        h.one_each t,
        pending_idle start.plan own own' (is_waived past) (is_waived log) (λ n. is_among n ws)
            (jobs past) w same t,
      );
      idle_waived = λ n e. sym (same n) ∙ waived_empty (λ n. acts n past) (is_waived past) (is_waived log) (λ n. is_among n ws) w
          h.idle_waived n e;
    }

-- The head

-- what is known of a slot in which j does the act
pub record IsTurn (start : Start) (past : Log) (ws : List Waived) (j : Job) (act : Act) : Type 0 where
  pub true_before : AreTrueAccounts start past
  pub serve : CellsServe start past
  pub waivers : AreWaivers start.plan past (waived_collections past) (accounts start past) ws
  pub waits : Waits start.plan past (waived_collections past ++ ws) j
  pub does_it : act_for start past j ≡ Some act

pub is_undone : (start : Start) (past : Log) (ws : List Waived) (j : Job) (act : Act) → IsTurn start past ws j act
    → not (is_done start.plan past j) ≡ true
is_undone start past ws j act h =
    let ready = and_parts (nat_le j.release (now past) && not (is_done start.plan past j)) (not (is_waived past j.number)) h.waits.ready in
    (and_parts (nat_le j.release (now past)) (not (is_done start.plan past j)) ready.0).1

is_unwaived : (start : Start) (past : Log) (ws : List Waived) (j : Job) (act : Act) → IsTurn start past ws j act
    → not (is_waived past j.number) ≡ true
is_unwaived start past ws j act h = (and_parts (nat_le j.release (now past) && not (is_done start.plan past j)) (not (is_waived past j.number))
    h.waits.ready).1

pub was_pending : (start : Start) (past : Log) (ws : List Waived) (j : Job) (act : Act) → IsTurn start past ws j act → j.collects ≡ true
    → is_pending start.plan (λ n. acts n past) (is_waived past) j ≡ true
was_pending start past ws j act h is =
    and_from (j.collects && not (is_done start.plan past j)) (not (is_waived past j.number))
    (and_from j.collects (not (is_done start.plan past j)) is (is_undone start past ws j act h)) (is_unwaived start past ws j act h)

-- the accounts before the act
pub before_act : (start : Start) (past : Log) (ws : List Waived) (j : Job) (act : Act) → IsTurn start past ws j act
    → AccountsAgree start.plan (after_waivers past ws (accounts start past)) (held_of (λ n. acts n past) (jobs past))
    (lent_to start.plan (λ n. acts n past) (is_waived past) (jobs past)) (owed_writes past) (free start past)
before_act start past ws j act h = agree_waivers start past (waived_collections past) (accounts start past) ws _ _ (owed_writes past) (free start past)
    h.true_before.taken h.true_before.agree h.waivers

pub of_job : (start : Start) (past : Log) (ws : List Waived) (j : Job) (act : Act) → IsTurn start past ws j act → HasTaskAndOps start.plan j
of_job start past ws j act h = all_at (HasTaskAndOps start.plan) (jobs past) j.number j h.true_before.taken h.waits.known

-- the accounts after a slot agree, if those after its act do
pub from_act : (start : Start) (past : Log) (caller slot : ℕ) (ws : List Waived) (finished : Option ℕ) (j : Job) (act : Act)
    → IsTurn start past ws j act
    → (let log : Log = slot_entry caller slot ws (Some (j.number, act)) finished ∷ past in
    AccountsAgree start.plan (after_act start.plan (Some j) (acts j.number past) act (after_waivers past ws (accounts start past)))
    (held_of (λ n. acts n log) (jobs past)) (lent_to start.plan (λ n. acts n log) (is_waived log) (jobs past)) (owed_writes log) (free start log))
    → AreTrueAccounts start (slot_entry caller slot ws (Some (j.number, act)) finished ∷ past)
from_act start past caller slot ws finished j act h agree =
    let log : Log = slot_entry caller slot ws (Some (j.number, act)) finished ∷ past in
    let w = slot_waives start caller slot ws (Some (j.number, act)) finished past h.serve.numbered h.waivers in
    let a = ran_acts caller slot ws finished past j.number act in
    record {
      agree = subst (λ o. AccountsAgree start.plan (after_act start.plan o (acts j.number past) act (after_waivers past ws (accounts start past)))
          (held_of (λ n. acts n log) (jobs past)) (lent_to start.plan (λ n. acts n log) (is_waived log) (jobs past)) (owed_writes log) (free start log))
          (sym h.waits.known) agree;
      taken = h.true_before.taken;
      one_each = λ t. omega (
        arith,
        h.true_before.one_each t,
        pending_after start.plan (λ n. acts n past) (λ n. acts n log) (is_waived past)
            (is_waived log) (λ n. is_among n ws) (jobs past) j act h.serve.numbered h.waits.known w a (was_pending start past ws j act h) t,
      );
      idle_waived = λ n e. elim (cases_eq n j.number) [
        | inl is ↦ absurd (true≢false (sym e ∙ (ap (is_waived log) is ∙ h.waits.new)))
        | inr apart ↦ sym (a.other n apart) ∙ waived_empty (λ n. acts n past) (is_waived past) (is_waived log) (λ n. is_among n ws) w
            h.true_before.idle_waived n e
      ];
    }
