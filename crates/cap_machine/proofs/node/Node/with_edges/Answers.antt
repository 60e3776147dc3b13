use Rattle.cap_machine.proofs.Common.{Content, List, Node, OfContent, ap, arith, length, length_push, ℕ, ◌∙◌, ◌≡◌, ◌≤◌}
use Rattle.std.specs.Map.Iter.{deref_pair}
use Rattle.std.proofs.lemmas.Map.Iter.{iter_turn, iter_end}
use Rattle.cap_machine.proofs.Gathering.{first_more, all_first}
use Rattle.cap_machine.proofs.node.Node.with_edges.Goals as goal

pub loop-content-preserved : goal.loop-content-preserved
loop-content-preserved c =
    let begun : ◌≡◌ {A = List (ℕ × Content)} c.into_iter-content-iterator.result c.self.inside.contents.entries =
    c.into_iter-content-iterator.ensures.into_iter_gives.0 in
    let start : ◌≡◌ {A = List (ℕ × Content)} c.into_iter-content-iterator.result c.args.self.now.slots =
    begun ∙ ap (λ (n : Node). n.slots) c.self.view_is in
    let turn =
    iter_turn deref_pair c.args.self.now.slots c.loop-content.yielded c.into_iter-content-iterator.result
    c.loop-content.content-iterator c.next.new.self c.next.result start c.loop-content.yielded_by
    (c.in-Some.field-0-0, c.in-Some.content) c.in-Some.is c.next.ensures.steps in
    let more = length_push c.loop-content.yielded (c.in-Some.field-0-0, c.in-Some.content) in
    rw more
    (first_more (λ place (slot : ℕ × Content). OfContent c.args.spec.now c.args.labels.now.by_object c.args.from slot.1)
    c.args.self.now.slots (length c.loop-content.yielded)
    (c.in-Some.field-0-0.now, c.in-Some.content.now) _ _ _ turn.1 c.loop-content.invariant c.in_ok-edges.ensures)

pub returns : goal.returns
returns c =
    let begun : ◌≡◌ {A = List (ℕ × Content)} c.into_iter-content-iterator.result c.self.inside.contents.entries =
    c.into_iter-content-iterator.ensures.into_iter_gives.0 in
    let start : ◌≡◌ {A = List (ℕ × Content)} c.into_iter-content-iterator.result c.args.self.now.slots =
    begun ∙ ap (λ (n : Node). n.slots) c.self.view_is in
    let end =
    iter_end deref_pair c.args.self.now.slots c.loop-content.yielded c.into_iter-content-iterator.result
    c.loop-content.content-iterator c.next.new.self c.next.result start c.loop-content.yielded_by c.in-None.is
    c.next.ensures.steps in
    let all : length c.args.self.now.slots ≤ length c.loop-content.yielded = (let e = end.1 in omega arith) in
    all_first (λ place (slot : ℕ × Content). OfContent c.args.spec.now c.args.labels.now.by_object c.args.from slot.1)
    c.args.self.now.slots (length c.loop-content.yielded) _ _ all c.loop-content.invariant
