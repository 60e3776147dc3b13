use Rattle.vspace_layout.proofs.Common.{Ok, arith, items_from_extend, page_of, rules, ℕ}
use Rattle.std.proofs.lemmas.Iterator.{YieldsList-from_map, YieldsList-from_range}
use Rattle.vspace_layout.proofs.mapped.push_region.Goals as goal

pub returns : goal.returns
returns c =
    let n = c.args.region.pages in
    let all = items_from_extend {E = ℕ} (Ok c.in_ok-extend.field-0) c.in_ok-extend.ensures.ran
    (YieldsList-from_map _ (page_of c.args.wiring.now.settled c.args.start c.args.region)
    (YieldsList-from_range 0 n n c.map-all.ensures.source (omega arith)) c.map-all.ensures.closure (λ x r q k. search rules)) in
    all.0
