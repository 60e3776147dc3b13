-- The spec of a system and the labels of its objects, both from one list of parts, so that an object and its label can't fall
-- apart.
use Rattle.std.specs.Prelude.{ℕ, List, map}
use Rattle.system_spec.specs.Below.{Object, Spec}
use Rattle.arch_policy.specs.Tables.{number_of}
use Rattle.cap_model.specs.declared.object_labels.Labels.{Labels}
use Rattle.cap_model.specs.declared.spec.Entry.{Entry}
use Rattle.system_spec.specs.declared.part.Part.{Part}
use Rattle.system_spec.specs.Names.{name_of}
use Rattle.system_spec.specs.Objects.{lines, object}
use Rattle.system_spec.specs.Parts.{parts}
use Rattle.system_spec.specs.Tables.{Tables, arch}

abbrev pub part_name : Part → List ℕ
part_name p = name_of p.series p.number

abbrev pub entry_with : Part → Object → Entry
entry_with p o = record { name = part_name p; object = o }

abbrev pub entry : Tables → Part → Entry
entry t p = entry_with p (object t p.what)

abbrev pub spec_of : Tables → Spec
spec_of t = record { arch = arch t; entries = map (entry t) (parts t); irqs = lines t }

abbrev pub part_label : Tables → Part → ℕ
part_label t p = number_of t.numbers p.owner

abbrev pub labels_of : Tables → Labels
labels_of t = record { by_object = map (part_label t) (parts t) }
