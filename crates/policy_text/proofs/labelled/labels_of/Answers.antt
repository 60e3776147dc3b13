use Rattle.policy_text.proofs.Common.{List, None, Some, ap, bytes_eq, bytes_eq-sym, cond, drop_all, object_label, option_or, option_or-none, spread_found, sym, ℕ, ◌∙◌}
use Rattle.policy_text.proofs.Labelling.{label_more}
use Rattle.policy_text.proofs.labelled.labels_of.Goals as goal

pub loop-object-preserved : goal.loop-object-preserved
loop-object-preserved c = λ name.
    let o = c.object-item.result in
    label_more name c.args.objects.now c.loop-object.object-index o (spread_found c.loop-object.table name)
    (spread_found c.add.new.self name) (object_label c.args.objects.now name)
    c.loop-object-test.true c.object-item.is (c.loop-object.invariant name)
    (c.in_ok-add.ensures.found name
    ∙ ap (λ b. option_or (spread_found c.loop-object.table name) (cond b (Some o.1) None))
    (ap (bytes_eq name) c.as_bytes.ensures.bytes ∙ bytes_eq-sym name o.0))

pub returns : goal.returns
returns c = λ name.
    option_or-none (spread_found c.loop-object.table name)
    ∙ ap (λ (os : List (List ℕ × ℕ)). option_or (spread_found c.loop-object.table name) (object_label os name))
    (sym (drop_all c.loop-object.object-index c.args.objects.now c.loop-object-test.false))
    ∙ c.loop-object.invariant name
