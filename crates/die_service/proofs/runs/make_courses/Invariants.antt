use Rattle.std.proofs.Common.{◌≡◌, ◌++◌, List, map}
use Rattle.std.specs.Prelude.{vec_len, vec_capacity}
use Rattle.std.specs.List.{AllByRecursion}
use Rattle.std.specs.Vec.Iter.{into_iter_items}
use Rattle.die_service.specs.declared.feeds.Arrival.{Arrival}
use Rattle.die_service.specs.Runs.{AllArrive}
use Rattle.die_service.specs.Drives.{whole_course}
use Rattle.die_service.proofs.runs.make_courses.Given as goal

abbrev pub invariant-loop-feed : goal.invariant-loop-feed
invariant-loop-feed l = record {
  can_next : (goal.iterator-loop-feed).can_next l.feed-iterator;
  is_finite : (goal.iterator-loop-feed).is_finite l.feed-iterator;
  room : vec_capacity l.courses ≡ vec_len l.fn.feeds;
  feeds : l.fn.feeds.items ≡ l.yielded ++ into_iter_items l.feed-iterator;
  courses : l.courses.items ≡ map whole_course l.yielded;
  arrive : AllByRecursion (λ (feed : List Arrival). AllArrive feed) (into_iter_items l.feed-iterator);
}
