use Rattle.cap_audit.proofs.Common.{Edge, Notes, Some, arith, length, refl, rules, slice_get, subst, sym, ℕ, ◌≡◌}
use Rattle.cap_audit.proofs.Gaining.{IsBefore, before_all, before_more, before_none, before_one}
use Rattle.cap_model.specs.EdgesLeft.{edges_left}
use Rattle.std.proofs.lemmas.Iterator.Consumers.{YieldsList-end, YieldsList-from_first, YieldsList-turn}
use Rattle.std.proofs.lemmas.List.{length_push}
use Rattle.std.proofs.lemmas.Option.{slice_get_read}
use Rattle.cap_audit.proofs.making.Making.note_table.Goals as goal

pub loop-edge-init : goal.loop-edge-init
loop-edge-init c = before_none c.args.table.now c.args.self.now

pub loop-edge-preserved : goal.loop-edge-preserved
loop-edge-preserved c =
    let table = c.args.table.now in
    let n : ℕ = length c.loop-edge.yielded in
    let start : edges_left c.into_iter-edge-iterator.result ≡ table = search rules in
    let t = YieldsList-turn (YieldsList-from_first (λ (x : Edge). x) edges_left table start) c.loop-edge.yielded
    c.loop-edge.edge-iterator c.loop-edge.yielded_by c.next.result c.next.new.self c.in-Some.edge c.in-Some.is
    c.next.ensures.steps in
    let here : slice_get table n ≡ Some c.in-Some.edge = slice_get_read table (length table) n c.in-Some.edge refl t.0 t.1 in
    subst (λ (k : ℕ). Notes (IsBefore table k) c.args.self.now c.note.new.self)
    (sym (length_push c.loop-edge.yielded c.in-Some.edge))
    (before_more table n c.args.self.now c.loop-edge.self c.note.new.self c.loop-edge.invariant
    (before_one table n c.in-Some.edge c.loop-edge.self c.note.new.self here c.in_ok-note.ensures))

pub returns : goal.returns
returns c =
    let table = c.args.table.now in
    let start : edges_left c.into_iter-edge-iterator.result ≡ table = search rules in
    let t = YieldsList-end (YieldsList-from_first (λ (x : Edge). x) edges_left table start) c.loop-edge.yielded
    c.loop-edge.edge-iterator c.loop-edge.yielded_by c.next.result c.next.new.self c.in-None.is c.next.ensures.steps in
    let long = t.1 in
    before_all table (length c.loop-edge.yielded) c.args.self.now c.loop-edge.self (omega arith) c.loop-edge.invariant
