use Rattle.cert_check.proofs.Common.{Edge, eq-same, has, has_at, subst, sym, true, ◌∙◌, ◌≡◌}
use Rattle.cert_check.proofs.beside.Beside.has.Goals as goal

pub returns-in-Some : goal.returns-in-Some
returns-in-Some c =
    let same : c.in-Some.other ≡ c.args.edge.now = eq-same c.in-Some.other c.args.edge.now (sym c.eq.ensures ∙ c.if-eq.true) in
    sym (subst (λ (e : Edge). has c.args.table.now e ≡ true) same (has_at c.args.table.now c.draw_near.new.self.at
    c.in-Some.other (cc)))
