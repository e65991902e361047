-- Names and operations as C has them.
use Rattle.std.specs.Prelude.{Bool, nat_le, List, map, take, replicate, ◌==◌, if◌then◌else◌}
use Rattle.slot_types.specs.declared.pages.PageData.{PageData}
use Rattle.slot_types.specs.declared.events.Op.{Op}
use Rattle.slot_types.specs.declared.events.Op.TheVariants as asks
use Rattle.flash_c.specs.declared.shapes.FlashName.{FlashName}
use Rattle.flash_c.specs.declared.shapes.FlashOp.{FlashOp}

-- the page that a name stands for, and the name of a page
abbrev pub page_in : FlashName → PageData
page_in name = record { 0 = name.bytes }

abbrev pub name_of : PageData → FlashName
name_of page = record { bytes = page.0 }

-- what stands where there is no name: sixteen bytes 0xFF
abbrev pub no_name : FlashName
no_name = record { bytes = replicate 16 255 }

-- the operation that one of C stands for: kind 0 reads, 1 writes, 2 trims
abbrev pub op_in : FlashOp → Op
op_in op = if op.kind == 0 then asks.Read op.page else (if op.kind == 1 then asks.Write op.page (page_in op.name) else asks.Trim op.page)

abbrev pub is_of_a_kind : FlashOp → Bool
is_of_a_kind op = nat_le op.kind 2

-- what is looked at: no more than 65 operations, since a job has 64 at most
abbrev pub ops_looked_at : List FlashOp → List FlashOp
ops_looked_at ops = take 65 ops

abbrev pub ops_in : List FlashOp → List Op
ops_in ops = map op_in (ops_looked_at ops)
