use Rattle.cap_audit.proofs.Common.{Contains-get_or, Gains, Made, OfDeed, OfSome, OwnsFrom, Pick, arith, get_or, slice_get-get_or, subst, sym}
use Rattle.cap_audit.proofs.Gaining.{AtPlace, below_none, some_all, some_more}
use Rattle.cap_audit.proofs.WaysMeeting.{no_member}
use Rattle.cap_audit.proofs.making.Making.act_from_each.Goals as goal

no_pick : Pick
no_pick = record { number = 0; cap = no_member.cap }

pub loop-from-init : goal.loop-from-init
loop-from-init c =
    below_none
    (AtPlace (λ (from : Pick). OfSome (λ (to : Pick). OfDeed c.args.self.now.spec c.args.self.now.labels c.args.deed
    from.cap to.cap) c.args.tos.now) c.args.froms.now) c.args.self.now
    c.requires.so_far

pub act_to_each-requires-clause-own : goal.act_to_each-requires-clause-own
unfolding no_pick
act_to_each-requires-clause-own c =
    let own = c.requires.own in
    let there = Contains-get_or c.args.froms.now c.loop-from.from-index no_pick c.loop-from-test.true in
    subst (λ (x : Made). OwnsFrom x.spec x.found c.args.t c.args.deed (get_or c.args.froms.now c.loop-from.from-index no_pick)
    c.args.tos.now) (sym c.loop-from.invariant.same) (record {
      node = own.node;
      root = own.root;
      own_from = own.own_from (get_or c.args.froms.now c.loop-from.from-index no_pick) there;
      is_from = own.is_from (get_or c.args.froms.now c.loop-from.from-index no_pick) there;
      own_to = own.own_to;
      is_to = own.is_to;
    })

pub loop-from-preserved : goal.loop-from-preserved
unfolding no_pick
loop-from-preserved c =
    let m : Made = c.args.self.now in
    let from : Pick = get_or c.args.froms.now c.loop-from.from-index no_pick in
    some_more (λ (from : Pick). OfSome (λ (to : Pick). OfDeed m.spec m.labels c.args.deed from.cap to.cap) c.args.tos.now)
    c.args.froms.now c.loop-from.from-index from m c.loop-from.self
    c.act_to_each.new.self (slice_get-get_or c.args.froms.now c.loop-from.from-index no_pick c.loop-from-test.true)
    c.loop-from.invariant
    (subst (λ (x : Made). Gains (OfSome (λ (to : Pick). OfDeed x.spec x.labels c.args.deed from.cap to.cap) c.args.tos.now)
    c.loop-from.self c.act_to_each.new.self) c.loop-from.invariant.same
    c.in_ok-act_to_each.ensures)

pub returns : goal.returns
returns c =
    let m : Made = c.args.self.now in
    some_all (λ (from : Pick). OfSome (λ (to : Pick). OfDeed m.spec m.labels c.args.deed from.cap to.cap) c.args.tos.now)
    c.args.froms.now c.loop-from.from-index m c.loop-from.self
    (let t = c.loop-from-test.false in omega arith) c.loop-from.invariant
