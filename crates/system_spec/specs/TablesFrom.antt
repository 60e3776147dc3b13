-- The tables of a source: its slots, its spaces and the numbers of its labels are those of its flat, settled system.
use Rattle.system_spec.specs.Below.{Flat, Images, Settled, Source}
use Rattle.arch_policy.specs.Labels.{label_numbers}
use Rattle.cspace_layout.specs.Uses.{slots_of}
use Rattle.vspace_layout.specs.Given.{given}
use Rattle.vspace_layout.specs.Laid.{spaces_of}
use Rattle.system_spec.specs.Tables.{Tables}

abbrev pub tables_from : Source → Flat → Settled → Images → Tables
tables_from source flat settled images = record {
  source = source;
  flat = flat;
  settled = settled;
  images = images;
  slots = slots_of source flat;
  spaces = spaces_of (given source flat settled images);
  numbers = label_numbers flat;
}
