use Rattle.std.proofs.Common.{◌≡◌, ◌+◌, ◌++◌, map, take, vec_len, vec_capacity}
use Rattle.event_log.specs.Waivers.{waiver_of}
use Rattle.event_log.proofs.waivers.note_waivers.Given as goal

abbrev pub invariant-loop-w : goal.invariant-loop-w
invariant-loop-w l = record {
  noted : l.waivers.items ≡ l.fn.waivers.items ++ map (waiver_of l.event) (take l.w-index l.waived);
  len : vec_len l.waivers ≡ vec_len l.fn.waivers + l.w-index;
  capacity : vec_capacity l.waivers ≡ vec_capacity l.fn.waivers;
}
