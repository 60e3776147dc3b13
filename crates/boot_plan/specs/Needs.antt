-- What objects need: nothing, the page of a device, or a block of so many bits. An endpoint and a notification need 4 bits,
-- a thread 10, a CNode 4 more than it has, a frame 12; a page directory needs 14 and a page table 10 on arm11, and each page
-- table 12 on AArch64. An interrupt needs nothing. A frame with an address of its own is a device's.
use Rattle.std.specs.Prelude.{ℕ, ◌+◌, ◌%◌, ◌==◌, leb, Bool, true, List, map, Option, Some, None}
use Rattle.std.specs.List.{list_all}
use Rattle.cap_model.specs.declared.level.Arch.{Arch}
use Rattle.cap_model.specs.declared.level.Arch.TheVariants.{Arm11, Aarch64}
use Rattle.cap_model.specs.declared.level.Level.{Level}
use Rattle.cap_model.specs.declared.level.Level.TheVariants as levels
use Rattle.cap_model.specs.declared.object.Object.{Object}
use Rattle.cap_model.specs.declared.object.Object.TheVariants.{Endpoint, Notification, CNode, Thread, Frame, Pages, Irq}
use Rattle.cap_model.specs.declared.spec.Spec.{Spec}
use Rattle.boot_plan.specs.declared.need.Need.{Need}
use Rattle.boot_plan.specs.declared.need.Need.TheVariants.{Nothing, DevicePage, Block}

abbrev pub table_bits : Arch → Level → ℕ
table_bits Aarch64 level = 12
table_bits Arm11 levels.Table = 10
table_bits Arm11 level = 14

abbrev pub page_need : Option ℕ → Need
page_need None = Block 12
page_need (Some paddr) = DevicePage paddr

abbrev pub need : Arch → Object → Need
need arch Endpoint = Block 4
need arch Notification = Block 4
need arch (CNode bits slots) = Block (bits + 4)
need arch (Thread tcb) = Block 10
need arch (Frame paddr fill) = page_need paddr
need arch (Pages level slots) = Block (table_bits arch level)
need arch (Irq notification) = Nothing

-- what the objects of a spec need, in their order
abbrev pub needs : Spec → List Need
needs spec = map (λ entry. need spec.arch entry.object) spec.entries

-- the bits of its block; a page has 12
abbrev pub bits_of : Need → ℕ
bits_of Nothing = 0
bits_of (DevicePage paddr) = 12
bits_of (Block bits) = bits

-- a block of at most 20 bits, or a page at a multiple of its size
abbrev pub is_usual : Need → Bool
is_usual Nothing = true
is_usual (DevicePage paddr) = paddr % 4096 == 0
is_usual (Block bits) = leb bits 20

abbrev pub are_usual : List Need → Bool
are_usual = list_all is_usual

-- a CNode has at most 16 bits
abbrev pub has_few_bits : Object → Bool
has_few_bits (CNode bits slots) = leb bits 16
has_few_bits _ = true
