-- The codes of inputs' faults, and what is told of the faults of each kind of text.
use Rattle.std.specs.Prelude.{ℕ, [], List, codes}
use Rattle.boot_plan.specs.UntypedTexts as untypeds
use Rattle.boot_plan.specs.declared.untyped.UntypedFault.{UntypedFault}
use Rattle.cam_base.specs.TextCodes as texts
use Rattle.cam_base.specs.declared.text_fault.TextFault.{TextFault}
use Rattle.sect_table.specs.Codes as elves
use Rattle.sect_table.specs.declared.fault.ElfFault.{ElfFault}
use Rattle.text_commands.specs.declared.code.Hindrance.{Hindrance}
use Rattle.text_commands.specs.declared.code.Hindrance.TheVariants as hindrances
use Rattle.text_commands.specs.declared.code.InputCode.{InputCode}
use Rattle.text_commands.specs.declared.code.InputCode.TheVariants.{Text, Elf, Untyped, Hindered}
use Rattle.text_commands.specs.declared.fault.InputFault.{InputFault}

abbrev pub hindrance_word : Hindrance → List ℕ
hindrance_word hindrances.HoldsTcb = codes "A1"
hindrance_word hindrances.AuditLimit = codes "A2"
hindrance_word hindrances.CertificateLimit = codes "A3"
hindrance_word hindrances.NoRoom = codes "B1"
hindrance_word hindrances.NoDevice = codes "B2"
hindrance_word hindrances.Overlap = codes "B3"
hindrance_word hindrances.SharedFrame = codes "B4"

abbrev pub hindrance_title : Hindrance → List ℕ
hindrance_title hindrances.HoldsTcb = codes "HoldsTcb"
hindrance_title hindrances.AuditLimit = codes "Limit"
hindrance_title hindrances.CertificateLimit = codes "Limit"
hindrance_title hindrances.NoRoom = codes "NoRoom"
hindrance_title hindrances.NoDevice = codes "NoDevice"
hindrance_title hindrances.Overlap = codes "Overlap"
hindrance_title hindrances.SharedFrame = codes "SharedFrame"

-- the letter and the number
abbrev pub word_of : InputCode → List ℕ
word_of (Text code) = texts.word_of code
word_of (Elf code) = elves.word_of code
word_of (Untyped code) = untypeds.word_of code
word_of (Hindered hindrance) = hindrance_word hindrance

abbrev pub title_of : InputCode → List ℕ
title_of (Text code) = texts.title_of code
title_of (Elf code) = elves.title_of code
title_of (Untyped code) = untypeds.title_of code
title_of (Hindered hindrance) = hindrance_title hindrance

abbrev pub tell_text : TextFault → InputFault
tell_text fault = record { code = Text fault.code; first = fault.first; end = fault.end; name = fault.name }

abbrev pub tell_elf : ElfFault → InputFault
tell_elf fault = record { code = Elf fault.code; first = fault.first; end = fault.end; name = [] }

abbrev pub tell_untyped : UntypedFault → InputFault
tell_untyped fault = record { code = Untyped fault.code; first = fault.first; end = fault.end; name = [] }
