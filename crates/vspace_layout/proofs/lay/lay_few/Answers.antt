use Rattle.vspace_layout.proofs.Common.{AreFit, AreOutlined, List, MappedPage, ap, arch, base, capped, codes, given_by, limit_over, map, mapped_by, outlines, page_counts, sections_end, spaces_in, subst, sum, sym, table_counts, tables_of, wired_of}
use Rattle.vspace_layout.proofs.Common.{◌∙◌}
use Rattle.vspace_layout.proofs.Fit.{are_fit}
use Rattle.vspace_layout.proofs.Joined.{outlined}
use Rattle.vspace_layout.proofs.Joining.{mapped_same, tables_counted}
use Rattle.vspace_layout.proofs.Laying.{laid}
use Rattle.vspace_layout.proofs.Limits.{none_over, tables_over}
use Rattle.vspace_layout.proofs.lay.lay_few.Goals as goal

pub all_mapped-requires-clause-outlined : goal.all_mapped-requires-clause-outlined
all_mapped-requires-clause-outlined c =
    let t = given_by c.args.wiring.now c.args.images.now in
    subst (AreOutlined t.flat t.settled) (sym c.requires.outlines) (outlined t c.requires.settled c.requires.few)

pub lay-requires-clause-mapped : goal.lay-requires-clause-mapped
lay-requires-clause-mapped c =
    let t = given_by c.args.wiring.now c.args.images.now in
    let mapped = c.in_ok-mapped.ensures ∙ ap (mapped_by t.flat t.settled t.images) c.requires.outlines ∙ mapped_same t in
    subst (λ ms. AreFit t.flat t.settled ms) (sym mapped) (are_fit t c.requires.settled c.requires.few)

pub lay-requires-clause-outlined : goal.lay-requires-clause-outlined
lay-requires-clause-outlined c =
    let t = given_by c.args.wiring.now c.args.images.now in
    subst (AreOutlined t.flat t.settled) (sym c.requires.outlines) (outlined t c.requires.settled c.requires.few)

pub returns-in-Some-clause-faults : goal.returns-in-Some-clause-faults
returns-in-Some-clause-faults c =
    let t = given_by c.args.wiring.now c.args.images.now in
    let mapped = c.deref.ensures.value ∙ c.in_ok-mapped.ensures
    ∙ ap (mapped_by t.flat t.settled t.images) c.requires.outlines ∙ mapped_same t in
    let tables =
    c.all_tables-tables.ensures
    ∙ ap (λ a. capped (sum (map (tables_of a) c.deref.result.now))) c.arch.ensures
    ∙ ap (λ (z : List (List MappedPage)). capped (sum (map (tables_of (arch t)) z))) mapped
    ∙ ap capped (sym (tables_counted t)) in
    tables_over t.source (sum (page_counts t)) (sum (table_counts t)) c.in-Some.fault c.source-source.ensures.within.assembly
    c.requires.few (sym (ap (λ n. limit_over t.source n (codes "tables")) tables)
    ∙ sym (c.in_ok-fault.ensures
    ∙ ap (λ s. limit_over s c.all_tables-tables.result (codes "tables")) c.source-source.ensures.source)
    ∙ c.in-Some.is)

pub returns-clause-faults : goal.returns-clause-faults
returns-clause-faults c =
    let t = given_by c.args.wiring.now c.args.images.now in
    let mapped = c.deref.ensures.value ∙ c.in_ok-mapped.ensures
    ∙ ap (mapped_by t.flat t.settled t.images) c.requires.outlines ∙ mapped_same t in
    let tables =
    c.all_tables-tables.ensures
    ∙ ap (λ a. capped (sum (map (tables_of a) c.deref.result.now))) c.arch.ensures
    ∙ ap (λ (z : List (List MappedPage)). capped (sum (map (tables_of (arch t)) z))) mapped
    ∙ ap capped (sym (tables_counted t)) in
    none_over t.source (sum (page_counts t)) (sum (table_counts t)) c.source-source.ensures.within.assembly c.requires.few
    (sym (ap (λ n. limit_over t.source n (codes "tables")) tables)
    ∙ sym (c.in_ok-fault.ensures
    ∙ ap (λ s. limit_over s c.all_tables-tables.result (codes "tables")) c.source-source.ensures.source)
    ∙ c.in_default.is)

pub returns-clause-spaces : goal.returns-clause-spaces
returns-clause-spaces c =
    let t = given_by c.args.wiring.now c.args.images.now in
    let mapped = c.in_ok-mapped.ensures ∙ ap (mapped_by t.flat t.settled t.images) c.requires.outlines ∙ mapped_same t in
    c.in_ok-lay.ensures
    ∙ ap (λ os. spaces_in t.flat t.settled c.sections_end-base.result os c.in_ok-mapped.mapped.items) c.requires.outlines
    ∙ ap (λ b. spaces_in t.flat t.settled b (outlines (wired_of t)) c.in_ok-mapped.mapped.items)
    (c.sections_end-base.ensures ∙ ap sections_end c.arch-2.ensures)
    ∙ ap (λ ms. spaces_in t.flat t.settled (base t) (outlines (wired_of t)) ms) mapped
    ∙ laid t
