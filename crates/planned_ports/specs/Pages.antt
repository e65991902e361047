-- Which pages a task's port may use.
use Rattle.std.specs.Prelude.{ℕ, ◌+◌, nat_le, nat_lt, ◌&&◌, not, Bool, true, List, find, Option, Some, None, option_map}
use Rattle.slot_types.specs.declared.events.Op.{Op}
use Rattle.slot_types.specs.Operations.{page_of}
use Rattle.planned_ports.specs.declared.pages.PageRange.{PageRange}

abbrev pub is_in_range : PageRange → ℕ → Bool
is_in_range range page = nat_le range.first page && nat_lt page (range.first + range.count)

-- a port without a range may use each page
abbrev pub may_use : Option PageRange → ℕ → Bool
may_use None page = true
may_use (Some range) page = is_in_range range page

-- the page of the first operation that is on none of its pages
abbrev pub foreign_page : Option PageRange → List Op → Option ℕ
foreign_page pages ops = option_map page_of (find (λ op. not (may_use pages (page_of op))) ops)
