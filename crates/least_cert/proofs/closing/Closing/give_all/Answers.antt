use Rattle.least_cert.proofs.Common.{arith, get_or, has_at, slice_get-get_or}
use Rattle.least_cert.proofs.Growth.{gift_moves, gives_all, gives_more, gives_none, no_edge}
use Rattle.least_cert.proofs.closing.Closing.give_all.Goals as goal

pub loop-gift-init : goal.loop-gift-init
loop-gift-init c = gives_none c.args.gifts.now c.args.self.now c.requires.sound

pub give-requires-clause-flows : goal.give-requires-clause-flows
give-requires-clause-flows c =
    let g = get_or c.args.gifts.now c.loop-gift.gift-index no_edge in
    (gift_moves c.args.self.now c.loop-gift.self c.loop-gift.invariant.grows.spec_is c.loop-gift.invariant.grows.labels_is g
    (c.requires.gifts g (has_at c.args.gifts.now c.loop-gift.gift-index g
    (slice_get-get_or c.args.gifts.now c.loop-gift.gift-index no_edge c.loop-gift-test.true)))).flows

pub loop-gift-preserved : goal.loop-gift-preserved
loop-gift-preserved c =
    gives_more c.args.gifts.now c.loop-gift.gift-index (get_or c.args.gifts.now c.loop-gift.gift-index no_edge) c.args.self.now
    c.loop-gift.self c.give.new.self
    (slice_get-get_or c.args.gifts.now c.loop-gift.gift-index no_edge c.loop-gift-test.true) c.loop-gift.invariant
    c.in_ok-give.ensures.given

pub returns-clause-given : goal.returns-clause-given
returns-clause-given c = gives_all c.args.gifts.now c.loop-gift.gift-index c.args.self.now c.loop-gift.self
    (let t = c.loop-gift-test.false in omega arith) c.loop-gift.invariant
