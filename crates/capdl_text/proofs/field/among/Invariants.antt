use Rattle.capdl_text.proofs.Common.{drop, field_among, ◌≡◌}
use Rattle.capdl_text.proofs.field.among.Given as goal

abbrev pub invariant-loop-field : goal.invariant-loop-field
invariant-loop-field l = field_among (drop l.field-index l.fields) l.word ≡ field_among l.fields l.word
