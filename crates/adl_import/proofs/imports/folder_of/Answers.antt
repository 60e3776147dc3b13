use Rattle.adl_import.proofs.Common.{ap, eq-eqb, folder_of, ne_eqb, sym, ◌∙◌}
use Rattle.adl_import.proofs.Folders.{folder_of-past, folder_of-at}
use Rattle.adl_import.proofs.imports.folder_of.Goals as goal

pub loop-last-preserved : goal.loop-last-preserved
loop-last-preserved c =
    sym (ap folder_of c.in-Some.ensures.cases.0 ∙ folder_of-past c.in-Some.front.now c.in-Some.last.now
    (ne_eqb c.in-Some.last.now 47 c.if-last-eq47.false)) ∙ c.loop-last.invariant

pub returns-then-last-eq47 : goal.returns-then-last-eq47
returns-then-last-eq47 c =
    c.in-Some.ensures.cases.0
    ∙ sym (folder_of-at c.in-Some.front.now c.in-Some.last.now (eq-eqb c.in-Some.last.now 47 c.if-last-eq47.true))
    ∙ ap folder_of (sym c.in-Some.ensures.cases.0) ∙ c.loop-last.invariant
