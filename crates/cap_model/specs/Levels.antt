-- The architectures' page tables. The levels are, from the outermost inwards, `pgd`, `pud`, `pd` and `pt`.
use Rattle.std.specs.Prelude.{ℕ, Bool, true, false, Option, Some, None}
use Rattle.cap_model.specs.declared.level.Arch.{Arch}
use Rattle.cap_model.specs.declared.level.Arch.TheVariants.{Arm11, Aarch64}
use Rattle.cap_model.specs.declared.level.Level.{Level}
use Rattle.cap_model.specs.declared.level.Level.TheVariants.{Global, Upper, Directory, Table}
use Rattle.cap_model.specs.declared.kind.Kind.{Kind}
use Rattle.cap_model.specs.declared.kind.Kind.TheVariants.{Pages, Frame}

-- how many slots a page table of this level has; none where the architecture doesn't have the level
abbrev pub size : Arch → Level → Option ℕ
size Arm11 Global = None
size Arm11 Upper = None
size Arm11 Directory = Some 4096
size Arm11 Table = Some 256
size Aarch64 Global = Some 512
size Aarch64 Upper = Some 512
size Aarch64 Directory = Some 512
size Aarch64 Table = Some 512

-- what the slots of a page table of this level name
abbrev pub child : Level → Kind
child Global = Pages Upper
child Upper = Pages Directory
child Directory = Pages Table
child Table = Frame

-- whether a page table of this level is a space root: a `pd` on arm11, a `pgd` on AArch64
abbrev pub is_root_level : Arch → Level → Bool
is_root_level Arm11 Directory = true
is_root_level Aarch64 Global = true
is_root_level _ _ = false
