use Rattle.adl_flatten.proofs.TemplateCommon.{all_filled, arith, body, false, filled_more, filled_same, get_or, get_or_read, inner_filled, length, order_below, read_in, refl, sym, true≢false, ◌∙◌}
use Rattle.adl_flatten.proofs.Filling.{IsHeldTemplate, kinds_in}
use Rattle.adl_flatten.proofs.template.assembly_template.Goals.{else-index, then-index+in_ok-template}
use Rattle.adl_flatten.proofs.template.assembly_template.Goals as goal

pub index-requires : goal.index-requires
index-requires c =
    let b = order_below c.args.program.now c.order-number-items.result.now c.loop-number.number-index c.order-number-items.ensures
    c.loop-number-test.true in
    omega (arith, b, c.in_ok-held.ensures.length_is, c.in_ok-held.held.ok.0)

pub template_of-requires : goal.template_of-requires
template_of-requires c =
    let h = c.args.program.now in
    let order = c.order-number-items.result.now in
    let i = c.loop-number.number-index in
    let number = get_or order i 0 in
    let l = order_below h order i c.order-number-items.ensures c.loop-number-test.true in
    let held = c.in_ok-held.ensures in
    let marked = sym (get_or_read c.in_ok-held.held.items number c.index.result.now (omega (arith, l, held.length_is))
    c.index.ensures false) ∙ c.if-index.true in
    rw c.as_slice.ensures.value (record {
      ready = c.requires.ready;
      number = l;
      few = held.few number l marked;
      within = kinds_in h c.requires.ready number (length c.loop-number.all.items) l c.loop-number.invariant.length_is;
      each = λ t j d b.
          c.loop-number.invariant.each _ t (inner_filled h order i (get_or (body h number).parts j d) c.order-number-items.ensures
          c.loop-number-test.true (read_in (body h number).parts j d b)) (held.inner number l refl marked j d b);
    })

pub index_mut-requires : goal.index_mut-requires
index_mut-requires c =
    let b = order_below c.args.program.now c.order-number-items.result.now c.loop-number.number-index c.order-number-items.ensures
    c.loop-number-test.true in
    omega (arith, b, c.loop-number.invariant.length_is, c.loop-number.all.ok.0)

pub loop-number-preserved : goal.loop-number-preserved
loop-number-preserved c =
    let h = c.args.program.now in
    let held = c.in_ok-held.held.items in
    let order = c.order-number-items.result.now in
    let i = c.loop-number.number-index in
    let all = c.loop-number.all.items in
    let l = order_below h order i c.order-number-items.ensures c.loop-number-test.true in
    elim c.if-index.branch [
      | then-index+in_ok-template w ↦
          rw w.all-is (filled_more (IsHeldTemplate h held) h order all i w.replace-empty.new.dest c.order-number-items.ensures
          c.loop-number-test.true c.loop-number.invariant
          (rw w.replace-empty.ensures.after (λ m. w.in_ok-template.ensures)))
      | else-index w ↦
          rw w.all-is (filled_same (IsHeldTemplate h held) h order all i c.loop-number-test.true c.loop-number.invariant
          (λ t m.
          absurd
          (true≢false
          (sym m
          ∙ sym (get_or_read held (get_or order i 0) c.index.result.now (omega (arith, l, c.in_ok-held.ensures.length_is))
          c.index.ensures false) ∙ w.if-index.false))))
    ]

pub returns : goal.returns
returns c =
    let h = c.args.program.now in
    let held = c.in_ok-held.held.items in
    rw (c.replace.ensures.value, c.index_mut-2.ensures.value, c.top_number-top.ensures.number)
    (all_filled (IsHeldTemplate h held) h c.order-number-items.result.now c.loop-number.all.items c.loop-number.number-index
    c.order-number-items.ensures c.loop-number-test.false c.loop-number.invariant
    (length h.bodies) c.index_mut-2.result.now (omega arith) c.in_ok-held.ensures.top)
