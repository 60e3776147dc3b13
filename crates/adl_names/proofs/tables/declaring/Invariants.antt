use Rattle.adl_names.proofs.Common.{Name, declared_by, declaring_told, drop, flat_map, naming, noted, repeats, ◌≡◌}
use Rattle.adl_names.specs.Tables.{noting, words_of}
use Rattle.adl_names.specs.Words.{first_named}
use Rattle.adl_names.proofs.tables.declaring.Given as goal

abbrev pub invariant-loop-member : goal.invariant-loop-member
invariant-loop-member l = record {
  noted : noting l.table l.first (flat_map declared_by (drop l.member-index l.members)) ≡ noted l.fn.first
      (repeats (words_of l.members));
  declared : (n : Name) → naming (declaring_told l.table) (flat_map declared_by (drop l.member-index l.members))
      n ≡ first_named (flat_map declared_by l.members) n;
}
