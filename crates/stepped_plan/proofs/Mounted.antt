-- A die that begins where a mount ended begins a life, with full accounts.
use Rattle.std.proofs.Common.{◌≡◌, ℕ, List, [], refl, ap, sym, subst}
use Rattle.std.specs.Prelude.{false, Option, None, Some}
use Rattle.slot_types.specs.declared.acts.Act.{Act}
use Rattle.slot_types.specs.declared.pages.PageData.{PageData}
use Rattle.slot_types.specs.declared.plans.DiePlan.{DiePlan}
use Rattle.demand_rules.specs.declared.terms.Terms.{Terms}
use Rattle.die_checkpoint.specs.declared.checkpoint.Checkpoint.{Checkpoint}
use Rattle.die_log.specs.Model.Start.{Start}
use Rattle.die_log.specs.Results.DemandedLives.{AreFull}
use Rattle.die_log.proofs.Life.Demanding.{balances_full}
use Rattle.power_loss.specs.Aside.{MountsTo}
use Rattle.power_loss.specs.Labels.{Labels, Shown}
use Rattle.power_loss.specs.Mounted.{all_count}
use Rattle.die_mount.specs.declared.mounted.Mounted.{Mounted}
use Rattle.die_mount.specs.Cutting.{GoesBy}
use Rattle.die_mount.specs.Ending.{IsEndOf}
use Rattle.die_mount.specs.Mounting.{IsAtEnd, Mounting}
use Rattle.slot_core.specs.Core.{nothing_reserved}
use Rattle.ongoing_log.specs.PastLives.{PastLife}
use Rattle.ongoing_log.specs.Ongoing.{begun_after}
use Rattle.ongoing_die.specs.Standing.{OngoingParts}
use Rattle.stepped_die.specs.declared.mirror.MirrorNand.{MirrorNand}
use Rattle.stepped_die.specs.declared.part.Part.{Part}
use Rattle.stepped_die.specs.Names.{memory_left, pages_named}
use Rattle.stepped_die.specs.Numbered.{NamesPages}
use Rattle.stepped_die.specs.Stepped.{Stepped}
use Rattle.stepped_die.proofs.Mounted.{begins_life}
use Rattle.slot_core.specs.Core.{Core}
use Rattle.slot_core.specs.Resumptions.{start_with}
use Rattle.stepped_plan.specs.Numbered.{NumbersPlanned}
use Rattle.stepped_plan.specs.declared.stage.Stage.{Stage}
use Rattle.stepped_plan.specs.declared.stage.Stage.TheVariants as stages
use Rattle.stepped_plan.specs.Resuming.{HasGoneOn, HasGoneOnAt}
use Rattle.stepped_plan.specs.Stages.{StandsWith}

pub begins_planned : (pages : List PageData) (before : Shown) (erased next : ℕ) (acts : List Act) (m : Mounting) (end : Mounted) (terms : Terms)
    (longest : ℕ) (names : List PageData) (part : Part) (die : OngoingParts MirrorNand) → GoesBy pages before erased next acts m → IsAtEnd m
    → IsEndOf m end → NamesPages m.cells.places names pages → HasGoneOn m.plan terms longest end.checkpoint names die
    → part ≡ record { aside = end.aside; serial = end.next; stands = false }
    → (first : Labels) × MountsTo m.plan all_count before die.die.core.start first × AreFull die.die.core.start
    × ((from : Start) (past : List PastLife) (tasks : ℕ) → NumbersPlanned from first (begun_after past tasks) part)
begins_planned pages before erased next acts m end terms longest names part die g h e named on part_is =
    let c : Checkpoint = end.checkpoint in
    let made : Start = start_with m.plan c (pages_named c.places names) in
    let plain : Stepped = record {
      core = record {
        start = made;
        device = record { memory = memory_left m.plan.shape c names };
        stopped = false;
        reserved = nothing_reserved;
        lasting = nothing_reserved;
        log = [];
      };
      begun = None;
      part = part;
    } in
    let b = begins_life pages before erased next acts m end names plain g h e named
    (record { start = refl; device = refl; runs = refl; reserves = refl; lasts = refl; log = refl; idle = refl }) part_is in
    let starts : die.die.core.start ≡ made = ap (λ (core : Core MirrorNand). core.start) on.core in (
      b.0,
      subst (λ (x : Start). MountsTo m.plan all_count before x b.0) (sym starts) b.1,
      subst AreFull (sym starts) (balances_full made (ap (λ (x : Checkpoint). x.balances) e.checkpoint)),
      λ from past tasks. b.2,
    )

-- where it stands between two slots
pub gone_on_at : (plan : DiePlan) (terms : Terms) (longest : ℕ) (c : Checkpoint) (names : List PageData) (stage : Option Stage)
    (die : OngoingParts MirrorNand) → HasGoneOnAt plan terms longest c names stage → StandsWith stage die
    → HasGoneOn plan terms longest c names die
gone_on_at plan terms longest c names (Some (stages.Between own)) die h same =
    subst (λ (d : OngoingParts MirrorNand). HasGoneOn plan terms longest c names d) (sym same) h
gone_on_at plan terms longest c names (Some (stages.Within within begun)) die h same = absurd h
gone_on_at plan terms longest c names None die h same = absurd h
