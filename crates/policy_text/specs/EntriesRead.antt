-- What entries mean that stand in a text, and the fields behind a field.
use Rattle.std.specs.Prelude.{ℕ, List, [], map, Option, Some, None}
use Rattle.policy_text.specs.Below.{Bor, fields}
use Rattle.policy_text.specs.Entries as spec
use Rattle.policy_text.specs.PolicyFaults.{Told}
use Rattle.policy_text.specs.declared.entry.Entry.{Entry}
use Rattle.policy_text.specs.declared.entry.Entry.TheVariants.{Label, Object, Edge}
use Rattle.policy_text.specs.declared.entry.EntryLine.{EntryLine}
use Rattle.cam_base.specs.LinesLeft.{line_of}

abbrev pub meant : Entry → spec.Entry
meant (Label number name) = spec.label number.text.now name.now
meant (Object word number) = spec.object word.now number.text.now
meant (Edge from authority to) = spec.edge from.text.now authority to.text.now

abbrev pub told_line : EntryLine → Told
told_line t = (line_of t.line, meant t.entry)

abbrev pub told_lines : List EntryLine → List Told
told_lines = map told_line

-- the fields of what stands behind a space, none where none stands there
abbrev pub fields_behind : Option (Bor (List ℕ)) → List (List ℕ)
fields_behind None = []
fields_behind (Some text) = fields text.now
