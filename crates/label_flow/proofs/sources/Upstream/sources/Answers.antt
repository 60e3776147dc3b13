use Rattle.label_flow.proofs.Common.{AreSources, Edge, List, Option, Searches, arith, length, map, subst, sym, turned, ℕ, ◌≡◌}
use Rattle.label_flow.proofs.Turning.{is_placed, far_sources, finds_sources}
use Rattle.label_flow.proofs.sources.Upstream.sources.Goals as goal

pub returns-then-to-self : goal.returns-then-to-self
returns-then-to-self c =
    let u = c.self.inside in
    let far = far_sources u.edges.items c.args.to u.count c.self.invariant.0 (omega (arith, c.if-to-self.true)) in
    subst (λ (es : List Edge). AreSources es c.args.to (is_placed c.args.to c.new.result.items)) c.self.view_is
    (subst (λ (ps : List (Option ℕ)). AreSources (map turned u.edges.items) c.args.to (is_placed c.args.to ps))
    (sym c.new.ensures.items) far)

pub returns : goal.returns
returns c =
    let u = c.self.inside in
    let s = c.in_ok-search.search in
    let searches = subst (λ (es : List Edge). Searches es c.args.to u.count s (length s.found.items)) c.as_slice.ensures.value
    c.in_ok-search.ensures in
    subst (λ (es : List Edge). AreSources es c.args.to (is_placed c.args.to s.places.items)) c.self.view_is
    (finds_sources u.edges.items c.args.to u.count s searches)
