use Rattle.cap_audit.proofs.Common.{Contains-get_or, Gains, Made, OfDeed, OwnsBoth, Pick, arith, get_or, slice_get-get_or, subst, sym}
use Rattle.cap_audit.proofs.Gaining.{AtPlace, below_none, some_all, some_more}
use Rattle.cap_audit.proofs.WaysMeeting.{no_member}
use Rattle.cap_audit.proofs.making.Making.act_to_each.Goals as goal

no_pick : Pick
no_pick = record { number = 0; cap = no_member.cap }

pub loop-to-init : goal.loop-to-init
loop-to-init c =
    below_none (AtPlace (λ (to : Pick). OfDeed c.args.self.now.spec c.args.self.now.labels c.args.deed c.args.from.now.cap
    to.cap) c.args.tos.now) c.args.self.now c.requires.so_far

pub act-requires-clause-owns : goal.act-requires-clause-owns
unfolding no_pick
act-requires-clause-owns c =
    let own = c.requires.own in
    let there = Contains-get_or c.args.tos.now c.loop-to.to-index no_pick c.loop-to-test.true in
    subst (λ (x : Made). OwnsBoth x.spec x.found c.args.t c.args.deed c.args.from.now
    (get_or c.args.tos.now c.loop-to.to-index no_pick)) (sym c.loop-to.invariant.same) (record {
      node = own.node;
      root = own.root;
      own_from = own.own_from;
      own_to = own.own_to (get_or c.args.tos.now c.loop-to.to-index no_pick) there;
      is_from = own.is_from;
      is_to = own.is_to (get_or c.args.tos.now c.loop-to.to-index no_pick) there;
    })

pub loop-to-preserved : goal.loop-to-preserved
unfolding no_pick
loop-to-preserved c =
    let m : Made = c.args.self.now in
    let to : Pick = get_or c.args.tos.now c.loop-to.to-index no_pick in
    some_more (λ (to : Pick). OfDeed m.spec m.labels c.args.deed c.args.from.now.cap to.cap) c.args.tos.now c.loop-to.to-index to
    m c.loop-to.self c.act.new.self
    (slice_get-get_or c.args.tos.now c.loop-to.to-index no_pick c.loop-to-test.true) c.loop-to.invariant
    (subst (λ (x : Made). Gains (OfDeed x.spec x.labels c.args.deed c.args.from.now.cap to.cap) c.loop-to.self c.act.new.self)
    c.loop-to.invariant.same c.in_ok-act.ensures)

pub returns : goal.returns
returns c =
    let m : Made = c.args.self.now in
    some_all (λ (to : Pick). OfDeed m.spec m.labels c.args.deed c.args.from.now.cap to.cap) c.args.tos.now c.loop-to.to-index m
    c.loop-to.self (let t = c.loop-to-test.false in omega arith) c.loop-to.invariant
