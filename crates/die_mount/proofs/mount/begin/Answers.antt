use Rattle.std.proofs.Common.{◌≡◌, ◌∙◌, ◌+◌, ◌/◌, ◌<◌, ℕ, List, Option, ap, sym, subst, refl, arith}
use Rattle.slot_types.specs.declared.pages.Place.{Place}
use Rattle.slot_types.specs.declared.plans.DiePlan.{DiePlan}
use Rattle.slot_types.specs.declared.plans.Shape.{Shape}
use Rattle.plan_rules.specs.Bound.{MeetsBound, fmax_of}
use Rattle.page_map.specs.Placing.{HaveOwnCells, Placing}
use Rattle.page_map.specs.PlacesFaults.{AreCells}
use Rattle.die_log.specs.Model.Flash.{Cells}
use Rattle.power_loss.specs.Aside.{most_rounds_beside, part_of}
use Rattle.die_mount.specs.Beginning.{IsScanned}
use Rattle.die_mount.specs.Mounting.{Mounting, BeginsWith}
use Rattle.die_mount.specs.Nexts.{BeginsFirst}
use Rattle.die_mount.specs.PartState.{PartState, closed_but}
use Rattle.die_mount.specs.Scanned.{Scanned}
use Rattle.die_mount.specs.SoundMount.{CountsPart, StandsWell}
use Rattle.die_mount.specs.declared.stage.Stage.TheVariants as stage
use Rattle.die_mount.proofs.Beginning.{begins, begun, begun_counts, begun_stands, enough_fits}
use Rattle.die_mount.proofs.mount.begin.Goals as goal

-- the part that was made of the map
part_is : (plan : DiePlan) (s : Scanned) (block : ℕ) (p : PartState) (shape : Shape) (map : Placing) → p ≡ closed_but shape map.places block → IsScanned plan s
    → shape ≡ s.shape → map ≡ record { shape = s.shape; places = s.places } → p ≡ closed_but (part_of plan).shape s.places block
part_is plan s block p shape map is fits same at =
    is ∙ ap (λ (x : Shape). closed_but x map.places block) (same ∙ fits.shape) ∙ ap (λ (x : Placing). closed_but (part_of plan).shape x.places block) at

-- and the mount of it
mount_is : (plan : DiePlan) (places : List (Option Place)) (block next fmax : ℕ) (counts : List ℕ) (p : PartState) → MeetsBound plan → fmax ≡ fmax_of plan
    → p ≡ closed_but (part_of plan).shape places block → begun plan places block next counts
    ≡ record { plan = plan; cells = p.cells; counts = counts; next = next; rounds = fmax / plan.alpha; stage = stage.First block 0 }
mount_is plan places block next fmax counts p bound most is =
    ap (λ (x : PartState). made x.cells (most_rounds_beside plan)) (sym is)
    ∙ ap (λ (n : ℕ). made p.cells (n / plan.alpha)) (enough_fits plan bound ∙ sym most)
  where
    made : Cells → ℕ → Mounting
    made c rounds = record { plan = plan; cells = c; counts = counts; next = next; rounds = rounds; stage = stage.First block 0 }

pub invariant_of-result : goal.invariant_of-result
invariant_of-result c =
    let plan = c.args.plan in
    let s = c.args.scan in
    let fits = c.requires.fits in
    let bound = fits.may.0 in
    let beside = fits.may.1 in
    let lt : c.args.block < plan.shape.blocks + 1 = omega (arith, c.requires.idle.stands, ap (λ (x : Shape). x.blocks) fits.shape) in
    let is = part_is plan s c.args.block c.in-Ok.part c.into_map-map.result.0 c.into_map-map.result.1 c.in-Ok.ensures.ok fits c.into_map-map.ensures.shape
    c.into_map-map.ensures.map in
    let at = mount_is plan s.places c.args.block c.args.serial c.figures-fmax.result.fmax c.args.counts.items c.in-Ok.part bound c.figures-fmax.ensures.fmax is in
    let cells : AreCells (part_of plan).shape s.places =
    subst (λ (x : Shape). AreCells x s.places) (c.into_map-map.ensures.shape ∙ fits.shape)
    (subst (λ (x : Placing). AreCells c.into_map-map.result.0 x.places) c.into_map-map.ensures.map c.in-Ok.ensures.cells) in
    let apart : HaveOwnCells s.places = subst (λ (x : Placing). HaveOwnCells x.places) c.into_map-map.ensures.map c.in-Ok.ensures.apart in
    record {
      stands = subst StandsWell at
          (begun_stands plan s.places c.args.block lt bound beside fits.logical cells apart c.requires.idle.none c.args.serial c.args.counts.items
          c.requires.serial c.requires.counts);
      counts = subst (λ (p : PartState). CountsPart (record {
        plan = plan;
        cells = p.cells;
        counts = c.args.counts.items;
        next = c.args.serial;
        rounds = c.figures-fmax.result.fmax / plan.alpha;
        stage = stage.First c.args.block 0;
      }) p) (sym is)
          (subst (λ (n : ℕ). CountsPart (record {
            plan = plan;
            cells = (closed_but (part_of plan).shape s.places c.args.block).cells;
            counts = c.args.counts.items;
            next = c.args.serial;
            rounds = n / plan.alpha;
            stage = stage.First c.args.block 0;
          }) (closed_but (part_of plan).shape s.places c.args.block))
          (enough_fits plan bound ∙ sym c.figures-fmax.ensures.fmax)
          (begun_counts plan s.places c.args.block lt bound beside fits.logical cells apart c.requires.idle.none c.args.serial c.args.counts.items));
      goal = omega (arith, enough_fits plan bound, c.figures-fmax.ensures.fmax, bound.limits.some_alpha);
    }

pub returns-clause-ok : goal.returns-clause-ok
returns-clause-ok c = λ seen found may above.
    let plan = c.args.plan in
    let s = c.args.scan in
    let fits = c.requires.fits in
    let lt : c.args.block < plan.shape.blocks + 1 = omega (arith, c.requires.idle.stands, ap (λ (x : Shape). x.blocks) fits.shape) in
    let is = part_is plan s c.args.block c.in-Ok.part c.into_map-map.result.0 c.into_map-map.result.1 c.in-Ok.ensures.ok fits c.into_map-map.ensures.shape
    c.into_map-map.ensures.map in
    subst (BeginsWith plan seen)
    (mount_is plan s.places c.args.block c.args.serial c.figures-fmax.result.fmax c.args.counts.items c.in-Ok.part fits.may.0 c.figures-fmax.ensures.fmax is)
    (begins plan s.places c.args.block lt c.args.serial c.args.counts.items seen c.requires.idle.none found may above)

pub returns-clause-first : goal.returns-clause-first
returns-clause-first c =
    let plan = c.args.plan in
    let s = c.args.scan in
    let fits = c.requires.fits in
    let lt : c.args.block < plan.shape.blocks + 1 = omega (arith, c.requires.idle.stands, ap (λ (x : Shape). x.blocks) fits.shape) in
    let is = part_is plan s c.args.block c.in-Ok.part c.into_map-map.result.0 c.into_map-map.result.1 c.in-Ok.ensures.ok fits c.into_map-map.ensures.shape
    c.into_map-map.ensures.map in
    subst (BeginsFirst plan)
    (mount_is plan s.places c.args.block c.args.serial c.figures-fmax.result.fmax c.args.counts.items c.in-Ok.part fits.may.0 c.figures-fmax.ensures.fmax is)
    (record { block = c.args.block; stands = lt; plan_is = refl; stage_is = refl; rounds_is = refl; blocks = refl })
