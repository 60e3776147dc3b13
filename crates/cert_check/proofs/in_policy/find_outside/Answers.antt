use Rattle.cert_check.proofs.Common.{BreaksPolicy, Edge, Some, arith, length, refl, rules, slice_get, slice_get_read, subst, sym, ℕ, ◌≡◌}
use Rattle.cap_model.specs.EdgesLeft.{edges_left}
use Rattle.cert_check.proofs.FirstFound.{itself, outside_found, outside_none}
use Rattle.cert_check.proofs.Search.{NoneUpTo, none_more}
use Rattle.std.proofs.lemmas.Iterator.Consumers.{YieldsList-end, YieldsList-from_first, YieldsList-turn}
use Rattle.std.proofs.lemmas.List.{length_push}
use Rattle.cert_check.proofs.in_policy.find_outside.Goals as goal
use Rattle.cert_check.proofs.in_policy.find_outside.Goals.{else-edge-via-then-edge+else-not-has, else-edge-via-else-edge}

pub loop-edge-preserved : goal.loop-edge-preserved
loop-edge-preserved c =
    let cert = c.args.cert.now in
    let start : edges_left c.into_iter-edge-iterator.result ≡ cert = search rules in
    let t = YieldsList-turn (YieldsList-from_first (λ (x : Edge). x) edges_left cert start) c.loop-edge.yielded
    c.loop-edge.edge-iterator c.loop-edge.yielded_by c.next.result c.next.new.self c.in-Some.edge c.in-Some.is
    c.next.ensures.steps in
    let here : slice_get cert (length c.loop-edge.yielded) ≡ Some c.in-Some.edge =
    slice_get_read cert (length cert) (length c.loop-edge.yielded) c.in-Some.edge refl t.0 t.1 in
    subst (λ (n : ℕ). NoneUpTo (BreaksPolicy c.args.policy.now cert) itself cert n)
    (sym (length_push c.loop-edge.yielded c.in-Some.edge))
    (none_more (BreaksPolicy c.args.policy.now cert) itself cert (length c.loop-edge.yielded) c.in-Some.edge c.loop-edge.invariant
    here (elim c.else-edge.branch [
      | else-edge-via-then-edge+else-not-has w ↦ λ x same p. (let l = p.lacks in cc)
      | else-edge-via-else-edge w ↦ λ x same p. p.differ (cc)
    ]))

pub returns-then-not-has : goal.returns-then-not-has
returns-then-not-has c =
    let cert = c.args.cert.now in
    let start : edges_left c.into_iter-edge-iterator.result ≡ cert = search rules in
    let t = YieldsList-turn (YieldsList-from_first (λ (x : Edge). x) edges_left cert start) c.loop-edge.yielded
    c.loop-edge.edge-iterator c.loop-edge.yielded_by c.next.result c.next.new.self c.in-Some.edge c.in-Some.is
    c.next.ensures.steps in
    outside_found c.args.policy.now cert (length c.loop-edge.yielded) c.in-Some.edge c.iter-edge-items.ensures.sorted
    (slice_get_read cert (length cert) (length c.loop-edge.yielded) c.in-Some.edge refl t.0 t.1) c.loop-edge.invariant
    c.if-edge.true (cc)

pub returns : goal.returns
returns c =
    let cert = c.args.cert.now in
    let start : edges_left c.into_iter-edge-iterator.result ≡ cert = search rules in
    let t = YieldsList-end (YieldsList-from_first (λ (x : Edge). x) edges_left cert start) c.loop-edge.yielded
    c.loop-edge.edge-iterator c.loop-edge.yielded_by c.next.result c.next.new.self c.in-None.is c.next.ensures.steps in
    let long = t.1 in
    outside_none c.args.policy.now cert (length c.loop-edge.yielded) (omega arith) c.loop-edge.invariant
