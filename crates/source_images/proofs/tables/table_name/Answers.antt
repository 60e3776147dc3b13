use Rattle.source_images.proofs.Common.{IsUtf8, subst, sym}
use Rattle.source_images.proofs.NameTexts.{name_utf8}
use Rattle.source_images.proofs.tables.table_name.Goals as goal

pub as_text-requires : goal.as_text-requires
as_text-requires c = subst IsUtf8 (sym c.as_bytes.ensures.bytes) (name_utf8 c.args.name.now c.as_bytes.ensures.name)
