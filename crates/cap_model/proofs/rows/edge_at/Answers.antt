use Rattle.cap_model.proofs.Common.{ap, arith, edge_to, length, map, reply_to, slice_get, ◌-◌, ◌<◌, ◌∙◌, ◌≡◌, ◌≤◌}
use Rattle.cap_model.proofs.RowEdges.{at_front, at_reply, at_back}
use Rattle.cap_model.proofs.rows.edge_at.Goals as goal

pub returns-then-at-class : goal.returns-then-at-class
returns-then-at-class c =
    c.pair_edge.ensures ∙ ap (λ xs. slice_get (map (edge_to c.args.row.now.label) xs) c.args.at) c.as_slice.ensures.value
    ∙ at_front c.args.class.now c.args.row.now c.requires.within c.args.at c.if-at-class.true

pub returns-then-at-class-2 : goal.returns-then-at-class-2
returns-then-at-class-2 c =
    let long = c.args.row.now.replies.ok.0 in
    let e = c.len-replies.ensures in
    let l = c.if-at-class-2.true in
    let less : c.args.at - c.args.class.now.before < length c.args.row.now.replies.items = omega arith in
    c.reply_edge.ensures ∙ ap (λ xs. slice_get (map (reply_to c.args.row.now.label) xs) (c.args.at - c.args.class.now.before))
    c.as_slice-then-at-class-2.ensures.value
    ∙ at_reply c.args.class.now c.args.row.now c.requires.within c.args.at c.if-at-class.false less

pub returns-else-at-class-2 : goal.returns-else-at-class-2
returns-else-at-class-2 c =
    let long = c.args.row.now.replies.ok.0 in
    let e = c.len-replies.ensures in
    let l = c.if-at-class-2.false in
    let le : length c.args.row.now.replies.items ≤ c.args.at - c.args.class.now.before = omega arith in
    let same : c.len-replies.result ≡ length c.args.row.now.replies.items = omega arith in
    c.pair_edge-else-at-class-2.ensures
    ∙ ap (λ xs. slice_get (map (edge_to c.args.row.now.label) xs) (c.args.at - c.len-replies.result))
    c.as_slice-else-at-class-2.ensures.value
    ∙ ap (λ n. slice_get (map (edge_to c.args.row.now.label) c.args.class.now.pairs.items) (c.args.at - n)) same
    ∙ at_back c.args.class.now c.args.row.now c.requires.within c.args.at c.if-at-class.false le
