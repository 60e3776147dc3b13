use Rattle.boot_plan.proofs.Common.{Need, Nothing, arith, false, sym, true, ◌∙◌}
use Rattle.boot_plan.proofs.Pages.{new_page, no_page, page_told, refusal_begin, refusal_end, set_begin, set_more, set_still, set_told, shared_page, skip}
use Rattle.boot_plan.proofs.device.device_refusal.Goals as goal

pub loop-frame-init : goal.loop-frame-init
loop-frame-init c = record {
  set = set_begin c.args.needs.now c.new-seen.result c.new-seen.ensures.empty;
  refusal = refusal_begin c.args.regions.now c.args.needs.now;
}

pub loop-frame-preserved-in_default : goal.loop-frame-preserved-in_default
loop-frame-preserved-in_default c =
    let d : Need = Nothing in
    let s = skip c.args.regions.now c.args.needs.now c.loop-frame.frame d c.loop-frame-test.true
    (λ paddr e. c.in_default.not-DevicePage paddr e) in
    record {
      set = set_still _ _ c.loop-frame.seen c.loop-frame.invariant.set s.before;
      refusal = sym s.refusal ∙ c.loop-frame.invariant.refusal;
    }

pub returns-then-not-shares_any : goal.returns-then-not-shares_any
returns-then-not-shares_any c =
    let d : Need = Nothing in
    let rs = c.args.regions.now in
    let ns = c.args.needs.now in
    let i = c.loop-frame.frame in
    let first = c.in-DevicePage.first in
    let none = page_told rs c.in_ok-index.index ns i d first false c.in_ok-index.ensures c.loop-frame-test.true c.requires.usual
    c.in-DevicePage.is (sym c.if-not-shares_any.true ∙ c.shares_any.ensures) in
    sym (no_page rs ns i d first c.loop-frame-test.true c.in-DevicePage.is none) ∙ c.loop-frame.invariant.refusal

pub returns-then-not-branch : goal.returns-then-not-branch
returns-then-not-branch c =
    let d : Need = Nothing in
    let rs = c.args.regions.now in
    let ns = c.args.needs.now in
    let i = c.loop-frame.frame in
    let first = c.in-DevicePage.first in
    let there = page_told rs c.in_ok-index.index ns i d first true c.in_ok-index.ensures c.loop-frame-test.true c.requires.usual
    c.in-DevicePage.is (sym c.if-not-shares_any.false ∙ c.shares_any.ensures) in
    let needed = set_told _ c.loop-frame.seen first c.in_ok-insert.field-0 true c.loop-frame.invariant.set
    c.in_ok-insert.ensures.added c.if-not-branch.true in
    sym (shared_page rs ns i d first c.loop-frame-test.true c.in-DevicePage.is there needed) ∙ c.loop-frame.invariant.refusal

pub loop-frame-preserved : goal.loop-frame-preserved
loop-frame-preserved c =
    let d : Need = Nothing in
    let rs = c.args.regions.now in
    let ns = c.args.needs.now in
    let i = c.loop-frame.frame in
    let first = c.in-DevicePage.first in
    let there = page_told rs c.in_ok-index.index ns i d first true c.in_ok-index.ensures c.loop-frame-test.true c.requires.usual
    c.in-DevicePage.is (sym c.if-not-shares_any.false ∙ c.shares_any.ensures) in
    let new = set_told _ c.loop-frame.seen first c.in_ok-insert.field-0 false c.loop-frame.invariant.set
    c.in_ok-insert.ensures.added c.if-not-branch.false in
    let goes = new_page rs ns i d first c.loop-frame-test.true c.in-DevicePage.is there new in
    record {
      set = set_more _ _ c.loop-frame.seen c.insert.new.self first c.loop-frame.invariant.set
          (λ q. c.in_ok-insert.ensures.updates.0 q) goes.before;
      refusal = sym goes.refusal ∙ c.loop-frame.invariant.refusal;
    }

pub returns : goal.returns
returns c = sym (refusal_end c.args.regions.now c.args.needs.now c.loop-frame.frame (omega arith))
    ∙ c.loop-frame.invariant.refusal
