-- Where a log may start again.
use Rattle.std.proofs.Common.{◌≡◌, ◌⊎◌, ℕ, ◌+◌, ◌-◌, ◌*◌, ◌<◌, ◌≤◌, List, length, Option, Some, None, refl, ap, sym}
use Rattle.std.proofs.Common.{◌∙◌, inl, inr}
use Rattle.std.proofs.Common.{arith, replicate, sum, position, nat_lt, true, false}
use Rattle.std.specs.Prelude.{sum_by}
use Rattle.std.proofs.lemmas.Bool.{true≢false, cases_lt, cases_Bool, and_parts, and_from, ltb-true, lt-ltb}
use Rattle.std.proofs.lemmas.List.{length-replicate, get_or-replicate}
use Rattle.std.proofs.lemmas.List.Folds.{sum_by-replicate}
use Rattle.std.proofs.lemmas.List.Quantifiers.{position-Some}
use Rattle.slot_types.specs.declared.plans.DiePlan.{DiePlan}
use Rattle.slot_types.specs.declared.pages.PageData.{PageData}
use Rattle.slot_types.specs.declared.plans.Times.{Times}
use Rattle.plan_rules.specs.Bound.{MeetsBound, fmax_of}
use Rattle.plan_rules.proofs.Spread.{choice}
use Rattle.die_log.specs.Model.Flash.{Cells, Block, free_block, block_at, is_open, free_in}
use Rattle.die_log.specs.Invariants.SoundCells.{AreSoundCells, IsOpen}
use Rattle.die_log.specs.Invariants.TrueAccounts.{AccountsAgree, reserve_full}
use Rattle.die_log.specs.Results.Supply.{AreStocked}
use Rattle.die_log.proofs.Cells.Steps.{no_position}
use Rattle.die_log.proofs.Cells.FreePages.{free_idle}
use Rattle.die_log.proofs.Tokens.Searches.{sum_places}
use Rattle.die_log.proofs.Tokens.Opening.{none_at}
use Rattle.power_loss.specs.Laws.{ForAllRecoverable, Opens}
use Rattle.power_loss.specs.Recovery.{AreIdle, mounted_start, full_accounts, IsWorthIt}

pub all_open : ForAllRecoverable Opens
all_open plan bound c pages l from h idle a agree = (
  record { bound = bound; sound = h.sound; idle = idle; agree = agree; pages = h.contents; blank = h.blank },
  record { labelled = h.labelled; bytes = h.bytes },
)

-- Accounts

pub full_agree : (plan : DiePlan) (free : ℕ) → sum plan.caps + length plan.caps * (plan.shape.pages - plan.alpha) ≤ free
    → AccountsAgree plan (full_accounts plan free) (λ task. 0) (λ task. 0) 0 free
full_agree plan free enough = record {
  plan_is = refl;
  balances_len = refl;
  holds_len = length-replicate (length plan.caps) 0;
  reserves_len = length-replicate (length plan.caps) (reserve_full plan);
  owned = λ t. omega (arith, none_at (length plan.caps) t);
  holds_are = λ t h. none_at (length plan.caps) t;
  reserves_are = λ t h. omega (arith, get_or-replicate (length plan.caps) t (reserve_full plan) 0 h);
  owed_is = omega (arith, sum_by-replicate (λ (n : ℕ). n) (length plan.caps) 0);
  total_is = omega (
    arith,
    sum_by-replicate (λ (n : ℕ). n) (length plan.caps) 0,
    sum_by-replicate (λ (n : ℕ). n) (length plan.caps) (reserve_full plan),
  );
}

-- full accounts lack nothing
pub full_stocked : (plan : DiePlan) (c : Cells) (pages : List PageData) (free : ℕ) (times : Times)
    → AreStocked (mounted_start plan c pages (full_accounts plan free)) times
full_stocked plan c pages free times task lt = omega arith

-- The pigeonhole

abbrev free_at : DiePlan → Cells → ℕ → ℕ
free_at plan c b = free_in plan (block_at c b)

abbrev opened : DiePlan → Cells → Option ℕ
opened plan c = position (is_open plan) c.blocks

opened_of : (plan : DiePlan) (c : Cells) (b : ℕ) → is_open plan (block_at c b) ≡ true → IsOpen plan c b
opened_of plan c b h =
    let parts = and_parts (nat_lt 0 (block_at c b).filled) (nat_lt (block_at c b).filled plan.shape.pages) h in
    (ltb-true 0 (block_at c b).filled parts.0, ltb-true (block_at c b).filled plan.shape.pages parts.1)

writing_is : (plan : DiePlan) (c : Cells) (b : ℕ) (o : Option ℕ) → AreSoundCells plan c → b < length c.blocks → is_open plan (block_at c b) ≡ true
    → opened plan c ≡ o → o ≡ Some b
writing_is plan c b None s lt is e = absurd (true≢false (sym is ∙ no_position (is_open plan) c.blocks e b free_block lt))
writing_is plan c b (Some d) s lt is e =
    let p = position-Some (is_open plan) c.blocks d free_block e in
    ap (λ (n : ℕ). Some n) (s.one_open d b (opened_of plan c d p.1) (opened_of plan c b is))

-- a block that isn't open has no page free, or all
other_free : (plan : DiePlan) (s : Block) → s.erasing ≡ 0 → is_open plan s ≡ false → (free_in plan s ≡ 0) ⊎ (plan.shape.pages ≤ free_in plan s)
other_free plan s idle e = elim (cases_lt 0 s.filled) [
  | inl some ↦ elim (cases_lt s.filled plan.shape.pages) [
    | inl few ↦ absurd (true≢false (sym (and_from (nat_lt 0 s.filled) (nat_lt s.filled plan.shape.pages) (lt-ltb 0 s.filled some)
        (lt-ltb s.filled plan.shape.pages few)) ∙ e))
    | inr closed ↦ inl (omega (arith, closed, free_idle plan s idle))
  ]
  | inr none ↦ inr (omega (arith, none, free_idle plan s idle))
]

one_open : (plan : DiePlan) (c : Cells) (b : ℕ) → AreSoundCells plan c → AreIdle c → b < plan.shape.blocks
    → (opened plan c ≡ Some b) ⊎ ((free_at plan c b ≡ 0) ⊎ (plan.shape.pages ≤ free_at plan c b))
one_open plan c b s idle lt = elim (cases_Bool (is_open plan (block_at c b))) [
  | inl is ↦ inl (writing_is plan c b (opened plan c) s (omega (arith, lt, s.blocks)) is refl)
  | inr not_open ↦ inr (other_free plan (block_at c b) (idle b) not_open)
]

abbrev nobody : Option ℕ
nobody = None

-- with few pages free, a block is worth it
pub finds_block : (plan : DiePlan) (c : Cells) → MeetsBound plan → AreSoundCells plan c → AreIdle c → sum_by (free_in plan) c.blocks ≤ fmax_of plan
    → (b : ℕ) × IsWorthIt plan c b
finds_block plan c bound s idle few =
    let tasks : ℕ = length plan.caps in
    let some : 0 < tasks = omega (arith, bound.limits.some_tasks) in
    let found = choice plan (free_at plan c) c.places (replicate tasks nobody) (opened plan c) bound (record {
      places_len = s.places;
      victims_len = length-replicate {A = Option ℕ} tasks None;
      none_yet = (0, omega (arith, length-replicate {A = Option ℕ} tasks None), get_or-replicate {A = Option ℕ} tasks 0 None None some);
      one_open = λ b below. one_open plan c b s idle below;
      few_free = omega (
        arith,
        few,
        sum_places (free_in plan) (free_at plan c) free_block 0 plan.shape.blocks c.blocks s.blocks (λ i. ap (free_at plan c) (omega arith)),
      );
    }) in
    let b : ℕ = found.0 in (
      b,
      record {
        stands = omega (arith, found.1.in_range, s.blocks);
        closed = omega (arith, found.1.closed, s.within b, free_idle plan (block_at c b) (idle b));
        few = found.1.few_valid;
      },
    )
