use Rattle.cap_audit.proofs.Common.{Cap, Entry, HasNoThread, IsThreadSlot, List, Some, ap, get_or, length, slots_of, subst, ℕ, ◌<◌, ◌∙◌, ◌≤◌}
use Rattle.cap_audit.proofs.Refusing.{none_start, none_more, none_all, first_found, slots_item}
use Rattle.cap_audit.proofs.refuse.first_thread.Goals as goal

pub loop-c-init : goal.loop-c-init
loop-c-init c = none_start c.args.spec.now

pub returns-in-Some-clause-some : goal.returns-in-Some-clause-some
returns-in-Some-clause-some c =
    let item : Entry = c.index-entries-c.result in
    let less : c.loop-c.c < length c.args.spec.now.entries = subst (λ (es : List Entry). c.loop-c.c < length es)
    c.as_slice-entries.ensures c.loop-c-test.true in
    let same = c.slots_of.ensures ∙ (ap (λ (es : List Entry). slots_of (Some (get_or es c.loop-c.c item).object))
    c.as_slice-entries.ensures ∙ slots_item c.args.spec.now c.loop-c.c item less) in
    first_found c.args.spec.now c.loop-c.c c.in-Some.slot c.requires c.loop-c.invariant
    (subst (λ (slots : List (ℕ × Cap)). IsThreadSlot c.args.spec.now slots c.in-Some.slot) same c.in-Some.ensures.some)

pub loop-c-preserved : goal.loop-c-preserved
loop-c-preserved c =
    let item : Entry = c.index-entries-c.result in
    let less : c.loop-c.c < length c.args.spec.now.entries = subst (λ (es : List Entry). c.loop-c.c < length es)
    c.as_slice-entries.ensures c.loop-c-test.true in
    let same = c.slots_of.ensures ∙ (ap (λ (es : List Entry). slots_of (Some (get_or es c.loop-c.c item).object))
    c.as_slice-entries.ensures ∙ slots_item c.args.spec.now c.loop-c.c item less) in
    none_more c.args.spec.now c.loop-c.c c.loop-c.invariant (subst (λ (slots : List (ℕ × Cap)). HasNoThread c.args.spec.now slots)
    same c.in-None.ensures.none)

pub returns-clause-none : goal.returns-clause-none
returns-clause-none c =
    let all : length c.args.spec.now.entries ≤ c.loop-c.c = subst (λ (es : List Entry). length es ≤ c.loop-c.c)
    c.as_slice-entries.ensures c.loop-c-test.false in
    none_all c.args.spec.now c.loop-c.c all c.loop-c.invariant
