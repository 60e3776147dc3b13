use Rattle.sect_table.proofs.Common.{None, ap, headers_fault, headers_left, length, limit_fault, refl, sections_of_all, sym, ◌∙◌, ◌≡◌}
use Rattle.sect_table.proofs.Reading.{elf_from, fault_of, sections_refused, sound_of}
use Rattle.sect_table.proofs.ElfTables.{fields_fit}
use Rattle.sect_table.proofs.read.read_elf.Goals as goal

pub returns-in-Err : goal.returns-in-Err
returns-in-Err c = fault_of c.args.bytes.now c.in-Err.fault c.in-Err.ensures

pub of-requires : goal.of-requires
of-requires c = (sound_of c.args.bytes.now c.in-Ok.class c.in-Ok.ensures).table

pub sections_of-requires : goal.sections_of-requires
sections_of-requires c =
    ap (λ n. headers_fault n (headers_left c.of.result)) (ap length c.of.ensures.file)
    ∙ ap (headers_fault (length c.args.bytes.now)) c.of.ensures.headers
    ∙ (sound_of c.args.bytes.now c.in-Ok.class c.in-Ok.ensures).headers

pub returns-in_err-sections : goal.returns-in_err-sections
returns-in_err-sections c = sections_refused c.args.name.now c.args.bytes.now c.in-Ok.class _ c.from_residual.result
    c.in_err-sections.field-0.0 c.in-Ok.ensures c.of.ensures.headers c.in_err-sections.ensures c.from_residual.ensures.1

pub of-requires-2 : goal.of-requires-2
of-requires-2 c = fields_fit c.in-Ok.class c.args.bytes.now (sound_of c.args.bytes.now c.in-Ok.class c.in-Ok.ensures).table

pub returns : goal.returns
returns c =
    let n = c.in_ok-copy.ensures in
    let a = c.arch.ensures in
    let f = c.of-2.ensures.header in
    let s = c.in_ok-sections.ensures.1 ∙ ap sections_of_all c.of.ensures.headers in
    elf_from c.args.name.now c.args.bytes.now c.in-Ok.class _ c.in-Ok.ensures (ap limit_fault (sym c.of.ensures.headers)
    ∙ c.in_ok-sections.ensures.0) (rw (n, a, f, s) refl)
