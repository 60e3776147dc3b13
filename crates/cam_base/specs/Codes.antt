-- The faults of a source: the number and the title of each code.
use Rattle.std.specs.Prelude.{ℕ, List, codes}
use Rattle.cam_base.specs.declared.code.Code.{Code}
use Rattle.cam_base.specs.declared.code.Code.TheVariants as code

abbrev pub number_of : Code → ℕ
number_of code.Byte = 1
number_of code.Unclosed = 2
number_of code.Number = 3
number_of code.Syntax = 4
number_of code.NoFile = 5
number_of code.BadPath = 6
number_of code.SecondAssembly = 7
number_of code.NoAssembly = 8
number_of code.Duplicate = 9
number_of code.Unknown = 10
number_of code.Recursive = 11
number_of code.CompositeBody = 12
number_of code.Export = 13
number_of code.Kind = 14
number_of code.TypeMismatch = 15
number_of code.EndCount = 16
number_of code.UsedTwice = 17
number_of code.Unconnected = 18
number_of code.Placement = 19
number_of code.Value = 20
number_of code.SettingTwice = 21
number_of code.Missing = 22
number_of code.DeviceOverlap = 23
number_of code.IrqTwice = 24
number_of code.BadgeTwice = 25
number_of code.NoSections = 26
number_of code.BadSections = 27
number_of code.SectionOverlap = 28
number_of code.Window = 29
number_of code.Limit = 30
number_of code.LeftOut = 31

abbrev pub title_of : Code → List ℕ
title_of code.Byte = codes "Byte"
title_of code.Unclosed = codes "Unclosed"
title_of code.Number = codes "Number"
title_of code.Syntax = codes "Syntax"
title_of code.NoFile = codes "NoFile"
title_of code.BadPath = codes "BadPath"
title_of code.SecondAssembly = codes "SecondAssembly"
title_of code.NoAssembly = codes "NoAssembly"
title_of code.Duplicate = codes "Duplicate"
title_of code.Unknown = codes "Unknown"
title_of code.Recursive = codes "Recursive"
title_of code.CompositeBody = codes "CompositeBody"
title_of code.Export = codes "Export"
title_of code.Kind = codes "Kind"
title_of code.TypeMismatch = codes "TypeMismatch"
title_of code.EndCount = codes "EndCount"
title_of code.UsedTwice = codes "UsedTwice"
title_of code.Unconnected = codes "Unconnected"
title_of code.Placement = codes "Placement"
title_of code.Value = codes "Value"
title_of code.SettingTwice = codes "SettingTwice"
title_of code.Missing = codes "Missing"
title_of code.DeviceOverlap = codes "DeviceOverlap"
title_of code.IrqTwice = codes "IrqTwice"
title_of code.BadgeTwice = codes "BadgeTwice"
title_of code.NoSections = codes "NoSections"
title_of code.BadSections = codes "BadSections"
title_of code.SectionOverlap = codes "SectionOverlap"
title_of code.Window = codes "Window"
title_of code.Limit = codes "Limit"
title_of code.LeftOut = codes "LeftOut"
