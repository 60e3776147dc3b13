use Rattle.cap_audit.proofs.Common.{Entry, List, ap, arith, cap_count, get_or, length, subst, sym, ℕ, ◌+◌, ◌<◌, ◌∙◌, ◌≡◌, ◌≤◌}
use Rattle.cap_audit.proofs.Counting.{Counted, counted_all, counted_more, kept_caps}
use Rattle.cap_audit.proofs.count.caps.Goals as goal

pub overflow_add-count : goal.overflow_add-count
overflow_add-count c =
    let less : c.loop-entry.entry-index < length c.args.spec.now.entries =
    subst (λ (es : List Entry). c.loop-entry.entry-index < length es) c.as_slice-entry-items.ensures c.loop-entry-test.true in
    let few : cap_count (get_or c.args.spec.now.entries c.loop-entry.entry-index c.entry-item.result).object ≤ 65536 =
    kept_caps c.args.spec.now c.loop-entry.entry-index c.entry-item.result c.requires less in
    let is : c.entry-item.result ≡ get_or c.args.spec.now.entries c.loop-entry.entry-index c.entry-item.result =
    c.entry-item.is ∙ ap (λ (es : List Entry). get_or es c.loop-entry.entry-index c.entry-item.result)
    c.as_slice-entry-items.ensures in
    let same : c.cap_count-count.result ≡ cap_count (get_or c.args.spec.now.entries c.loop-entry.entry-index
    c.entry-item.result).object = c.cap_count-count.ensures ∙ ap (λ (e : Entry). cap_count e.object) is in
    let small = c.loop-entry.invariant.small in
    let all = c.requires.few in
    omega (arith, small, all, same, few, less)

pub loop-entry-preserved : goal.loop-entry-preserved
loop-entry-preserved c =
    let less : c.loop-entry.entry-index < length c.args.spec.now.entries =
    subst (λ (es : List Entry). c.loop-entry.entry-index < length es) c.as_slice-entry-items.ensures c.loop-entry-test.true in
    let few : cap_count (get_or c.args.spec.now.entries c.loop-entry.entry-index c.entry-item.result).object ≤ 65536 =
    kept_caps c.args.spec.now c.loop-entry.entry-index c.entry-item.result c.requires less in
    let is : c.entry-item.result ≡ get_or c.args.spec.now.entries c.loop-entry.entry-index c.entry-item.result =
    c.entry-item.is ∙ ap (λ (es : List Entry). get_or es c.loop-entry.entry-index c.entry-item.result)
    c.as_slice-entry-items.ensures in
    subst (λ (x : ℕ). Counted (λ (e : Entry). cap_count e.object) c.args.spec.now.entries (c.loop-entry.entry-index + 1)
    (c.loop-entry.count + x))
    (sym (c.cap_count-count.ensures ∙ ap (λ (e : Entry). cap_count e.object) is))
    (counted_more (λ (e : Entry). cap_count e.object) c.args.spec.now.entries c.loop-entry.entry-index c.loop-entry.count
    c.entry-item.result less few c.loop-entry.invariant)

pub returns : goal.returns
returns c =
    let all : length c.args.spec.now.entries ≤ c.loop-entry.entry-index =
    subst (λ (es : List Entry). length es ≤ c.loop-entry.entry-index) c.as_slice-entry-items.ensures
    c.loop-entry-test.false in
    counted_all (λ (e : Entry). cap_count e.object) c.args.spec.now.entries c.loop-entry.entry-index c.loop-entry.count all
    c.loop-entry.invariant
