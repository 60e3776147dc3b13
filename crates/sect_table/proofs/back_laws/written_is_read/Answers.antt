use Rattle.sect_table.proofs.Common.{IsRead, subst, sym, table_text}
use Rattle.sect_table.proofs.Rows.{answered}
use Rattle.sect_table.proofs.Sound.{has_table, name_is}
use Rattle.sect_table.proofs.back_laws.written_is_read.Goals as goal

pub returns : goal.returns
returns c = λ file name bytes image r b elf read.
    answered file image r (has_table name bytes image b elf) (subst (λ k. IsRead file k (table_text image) r)
    (sym (name_is name bytes image elf)) read)
