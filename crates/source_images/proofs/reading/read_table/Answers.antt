use Rattle.source_images.proofs.Common.{ap, reading_of, string_bytes, table, table_told, ◌∙◌}
use Rattle.cam_io.specs.FileBytes.{bytes_in}
use Rattle.source_images.proofs.TableReads.{found_table}
use Rattle.source_images.proofs.reading.read_table.Goals as goal

pub returns-in_ok-reading_of-in-Ok-clause-read : goal.returns-in_ok-reading_of-in-Ok-clause-read
returns-in_ok-reading_of-in-Ok-clause-read g c m told =
    let lends = g.F.Files.lends c.see_table.new.files in
    let bytes = bytes_in c.in-Ok.bytes (lends (string_bytes c.args.table.now.file)) in
    let named = ap (λ name. bytes_in c.in-Ok.bytes (lends name)) c.as_str.ensures.value in (
      table bytes,
      found_table m _ bytes (c.in-Ok.ensures.whole m told) c.in-Ok.ensures.limit,
      c.in_ok-reading_of-in-Ok.ensures
          ∙ ap (λ z. reading_of c.args.file (table_told c.args.table.now) (table z)) (c.lend.ensures ∙ named),
    )
