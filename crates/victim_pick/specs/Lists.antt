-- What contracts see of the lists, and what is true of them.
use Rattle.victim_pick.specs.declared.lists.Lists.TheInside.{Inside}
use Rattle.victim_pick.specs.Links.{AreLinked, CountLists}

abbrev pub counted_of : Inside → CountLists
counted_of l = record { pages = l.pages; counts = l.counts.items }

abbrev pub IsLinked : Inside → Type 0
IsLinked l = AreLinked l.pages l.counts.items l.firsts.items l.nexts.items l.befores.items
