-- Faults at lines of a text.
use Rattle.std.specs.Prelude.{◌≡◌, ℕ, List}
use Rattle.cam_base.specs.declared.error.Refused.{Refused}
use Rattle.cam_base.specs.declared.error.Refused.TheVariants as refused
use Rattle.cam_base.specs.declared.text_fault.TextCode.{TextCode}
use Rattle.cam_base.specs.declared.text_fault.TextFault.{TextFault}
use Rattle.cam_base.specs.Lines.{Line, end_of}

-- a code, and the name that a fault speaks of
abbrev pub Wrong : Type 0
Wrong = TextCode × List ℕ

-- the fault that stands at a line
abbrev pub at_line : Line → Wrong → TextFault
at_line line what = record { code = what.0; first = line.first; end = end_of line; name = what.1 }

-- the fault at a line, unless memory ran out
abbrev pub IsRefusal : Line → Wrong → Refused TextFault → Type 0
IsRefusal line what (refused.Fault fault) = fault ≡ at_line line what
IsRefusal line what refused.NoMemory = Unit {0}
