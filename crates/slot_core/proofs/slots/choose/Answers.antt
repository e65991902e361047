use Rattle.std.proofs.Common.{List, [], ◌∷◌, refl, ap, ◌∙◌, length, length-append, arith}
use Rattle.slot_types.specs.declared.replies.Waived.{Waived}
use Rattle.job_table.specs.Table.{Table}
use Rattle.slot_core.specs.ReservedSlots.{open_collections}
use Rattle.slot_core.proofs.Beginning.{begin_leaves, looks_idle, looks_fit, looks_turn, looks_waived, looks_few, looks_closed}
use Rattle.slot_core.proofs.slots.choose.Goals as goal

pub loop-number-init : goal.loop-number-init
loop-number-init g c = record {
  within = c.requires.1.1.0;
  clock = c.requires.1.1.1;
  closed = omega arith;
  plan = refl;
  alive = c.requires.1.0;
  device = refl;
  places = refl;
  reserve = refl;
  lasting = refl;
}

pub head-requires-clause-running : goal.head-requires-clause-running
head-requires-clause-running g c = c.loop-number.invariant.within.table.running

pub head-requires-clause-forward : goal.head-requires-clause-forward
head-requires-clause-forward g c = c.loop-number.invariant.clock

pub returns-in_default-clause-idle : goal.returns-in_default-clause-idle
returns-in_default-clause-idle g c = (
  looks_idle g.from.0 g.N.Nand.blocks g.from.1 c.args.present c.loop-number.said (record c.loop-number.table { clock = c.args.present }) c.head.new.self
      c.loop-number.volume c.loop-number.invariant.within c.head.ensures.clock,
  c.in_default.ensures.idle,
)

pub returns-in_default-clause-plan : goal.returns-in_default-clause-plan
returns-in_default-clause-plan g c = c.loop-number.invariant.plan

pub returns-in_default-clause-alive : goal.returns-in_default-clause-alive
returns-in_default-clause-alive g c = c.loop-number.invariant.alive

pub returns-in_default-clause-places : goal.returns-in_default-clause-places
returns-in_default-clause-places g c = c.loop-number.invariant.places

pub returns-in_default-clause-reserve : goal.returns-in_default-clause-reserve
returns-in_default-clause-reserve g c = ap (λ (t : Table). t.reserve) c.head.ensures.clock ∙ c.loop-number.invariant.reserve

pub returns-in_default-clause-lasting : goal.returns-in_default-clause-lasting
returns-in_default-clause-lasting g c = ap (λ (t : Table). t.lasting) c.head.ensures.clock ∙ c.loop-number.invariant.lasting

pub returns-in_default-clause-device : goal.returns-in_default-clause-device
returns-in_default-clause-device g c = c.loop-number.invariant.device

pub begin-waived-requires-clause-alive : goal.begin-waived-requires-clause-alive
begin-waived-requires-clause-alive g c = c.loop-number.invariant.alive

pub begin-waived-requires-clause-task : goal.begin-waived-requires-clause-task
begin-waived-requires-clause-task g c =
    (looks_fit g.from.0 g.N.Nand.blocks g.from.1 c.args.present c.loop-number.said (record c.loop-number.table { clock = c.args.present })
    c.head.new.self c.in-Some.number c.loop-number.volume c.in-Some-job.job
    c.loop-number.invariant.within c.in-Some.ensures.clock c.in-Some.ensures.head c.in-Some-job.ensures).0

pub begin-waived-requires-clause-idle : goal.begin-waived-requires-clause-idle
begin-waived-requires-clause-idle g c =
    (looks_fit g.from.0 g.N.Nand.blocks g.from.1 c.args.present c.loop-number.said (record c.loop-number.table { clock = c.args.present })
    c.head.new.self c.in-Some.number c.loop-number.volume c.in-Some-job.job
    c.loop-number.invariant.within c.in-Some.ensures.clock c.in-Some.ensures.head c.in-Some-job.ensures).1

pub returns-in-None-waived-clause-turn : goal.returns-in-None-waived-clause-turn
returns-in-None-waived-clause-turn g c =
    looks_turn g.from.0 g.N.Nand.blocks g.from.1 c.args.present c.loop-number.said (record c.loop-number.table { clock = c.args.present })
    c.head.new.self c.in-Some.number c.loop-number.volume c.begin-waived.new.volume c.in-Some-job.job
    c.loop-number.invariant.within c.in-Some.ensures.clock c.in-Some.ensures.head c.in-Some-job.ensures c.in-None-waived.ensures

pub returns-in-None-waived-clause-plan : goal.returns-in-None-waived-clause-plan
returns-in-None-waived-clause-plan g c = (begin_leaves g.N.Nand.blocks c.loop-number.volume c.begin-waived.new.volume c.in-Some-job.job _
    c.begin-waived.ensures).plan ∙ c.loop-number.invariant.plan

pub returns-in-None-waived-clause-alive : goal.returns-in-None-waived-clause-alive
returns-in-None-waived-clause-alive g c = (begin_leaves g.N.Nand.blocks c.loop-number.volume c.begin-waived.new.volume c.in-Some-job.job _
    c.begin-waived.ensures).failed ∙ c.loop-number.invariant.alive

pub returns-in-None-waived-clause-places : goal.returns-in-None-waived-clause-places
returns-in-None-waived-clause-places g c = (begin_leaves g.N.Nand.blocks c.loop-number.volume c.begin-waived.new.volume c.in-Some-job.job _
    c.begin-waived.ensures).places ∙ c.loop-number.invariant.places

pub returns-in-None-waived-clause-reserve : goal.returns-in-None-waived-clause-reserve
returns-in-None-waived-clause-reserve g c = ap (λ (t : Table). t.reserve) c.head.ensures.clock ∙ c.loop-number.invariant.reserve

pub returns-in-None-waived-clause-lasting : goal.returns-in-None-waived-clause-lasting
returns-in-None-waived-clause-lasting g c = ap (λ (t : Table). t.lasting) c.head.ensures.clock ∙ c.loop-number.invariant.lasting

pub returns-in-None-waived-clause-device : goal.returns-in-None-waived-clause-device
returns-in-None-waived-clause-device g c = (begin_leaves g.N.Nand.blocks c.loop-number.volume c.begin-waived.new.volume c.in-Some-job.job _
    c.begin-waived.ensures).device ∙ c.loop-number.invariant.device

pub waive-requires-clause-running : goal.waive-requires-clause-running
waive-requires-clause-running g c =
    (looks_idle g.from.0 g.N.Nand.blocks g.from.1 c.args.present c.loop-number.said (record c.loop-number.table { clock = c.args.present })
    c.head.new.self c.loop-number.volume c.loop-number.invariant.within c.head.ensures.clock).table.running

pub push_within-requires : goal.push_within-requires
push_within-requires g c = (
  omega arith,
  looks_few g.from.0 g.N.Nand.blocks g.from.1 c.args.present c.loop-number.said (record c.loop-number.table { clock = c.args.present }) c.head.new.self
      c.in-Some.number c.in-Some-waived.given c.loop-number.volume c.begin-waived.new.volume c.in-Some-job.job
      c.loop-number.invariant.within c.in-Some.ensures.clock c.in-Some.ensures.head c.in-Some-job.ensures c.in-Some-waived.ensures,
)

pub loop-number-smaller : goal.loop-number-smaller
loop-number-smaller g c =
    omega (
      arith,
      ap (λ (ws : List Waived). length ws) c.push_within.ensures,
      length-append c.loop-number.said (record { number = c.in-Some.number; given = c.in-Some-waived.given } ∷ []),
      looks_few g.from.0 g.N.Nand.blocks g.from.1 c.args.present c.loop-number.said (record c.loop-number.table { clock = c.args.present })
          c.head.new.self c.in-Some.number c.in-Some-waived.given c.loop-number.volume c.begin-waived.new.volume c.in-Some-job.job
          c.loop-number.invariant.within c.in-Some.ensures.clock c.in-Some.ensures.head c.in-Some-job.ensures c.in-Some-waived.ensures,
    )

pub loop-number-preserved : goal.loop-number-preserved
loop-number-preserved g c = record {
  within = looks_waived g.from.0 g.N.Nand.blocks g.from.1 c.args.present c.loop-number.said c.push_within.new.self
      (record c.loop-number.table { clock = c.args.present }) c.head.new.self c.waive.new.self c.in-Some.number c.in-Some-waived.given
      c.loop-number.volume c.begin-waived.new.volume c.in-Some-job.job c.loop-number.invariant.within c.in-Some.ensures.clock
      c.in-Some.ensures.head c.in-Some-job.ensures c.in-Some-waived.ensures c.waive.ensures c.push_within.ensures;
  clock = omega (arith, ap (λ (t : Table). t.clock) c.waive.ensures, ap (λ (t : Table). t.clock) c.head.ensures.clock);
  closed = omega (
    arith,
    c.loop-number.invariant.closed,
    looks_closed g.N.Nand.blocks c.args.present (record c.loop-number.table { clock = c.args.present }) c.head.new.self c.waive.new.self
        c.in-Some.number c.in-Some-waived.given c.loop-number.volume c.begin-waived.new.volume c.in-Some-job.job
        c.in-Some.ensures.clock c.in-Some.ensures.head c.in-Some-job.ensures c.in-Some-waived.ensures c.waive.ensures,
    ap (λ (ws : List Waived). length ws) c.push_within.ensures,
    length-append c.loop-number.said (record { number = c.in-Some.number; given = c.in-Some-waived.given } ∷ []),
  );
  plan = (begin_leaves g.N.Nand.blocks c.loop-number.volume c.begin-waived.new.volume c.in-Some-job.job _ c.begin-waived.ensures).plan
      ∙ c.loop-number.invariant.plan;
  alive = (begin_leaves g.N.Nand.blocks c.loop-number.volume c.begin-waived.new.volume c.in-Some-job.job _ c.begin-waived.ensures).failed
      ∙ c.loop-number.invariant.alive;
  device = (begin_leaves g.N.Nand.blocks c.loop-number.volume c.begin-waived.new.volume c.in-Some-job.job _ c.begin-waived.ensures).device
      ∙ c.loop-number.invariant.device;
  places = (begin_leaves g.N.Nand.blocks c.loop-number.volume c.begin-waived.new.volume c.in-Some-job.job _ c.begin-waived.ensures).places
      ∙ c.loop-number.invariant.places;
  reserve = ap (λ (t : Table). t.reserve) c.waive.ensures ∙ (ap (λ (t : Table). t.reserve) c.head.ensures.clock ∙ c.loop-number.invariant.reserve);
  lasting = ap (λ (t : Table). t.lasting) c.waive.ensures ∙ (ap (λ (t : Table). t.lasting) c.head.ensures.clock ∙ c.loop-number.invariant.lasting);
}

pub returns-in_default-clause-closed : goal.returns-in_default-clause-closed
returns-in_default-clause-closed g c = omega (
  arith,
  c.loop-number.invariant.closed,
  ap (λ (t : Table). open_collections t.jobs)
      c.head.ensures.clock,
)

pub returns-in-None-waived-clause-closed : goal.returns-in-None-waived-clause-closed
returns-in-None-waived-clause-closed g c = omega (
  arith,
  c.loop-number.invariant.closed,
  ap (λ (t : Table). open_collections t.jobs)
      c.head.ensures.clock,
)
