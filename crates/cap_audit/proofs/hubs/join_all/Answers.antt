use Rattle.cap_audit.proofs.Common.{Contains-get_or, Member, Passes, arith, get_or, opposite}
use Rattle.cap_audit.proofs.InRows.{each_more, each_of_all}
use Rattle.cap_audit.proofs.Paths.{widened_same}
use Rattle.cap_audit.proofs.WaysMeeting.{member_on, no_member, passes_on, widened_then, widened_web}
use Rattle.cap_audit.proofs.hubs.join_all.Goals as goal

pub loop-other-init : goal.loop-other-init
loop-other-init c = record {
  widened = widened_same c.args.spec.now c.args.web.now c.requires.web;
  paths = λ k other less h. absurd (omega arith);
}

pub join-requires-clause-web : goal.join-requires-clause-web
join-requires-clause-web c = widened_web c.args.spec.now c.args.web.now c.loop-other.web c.loop-other.invariant.widened

pub join-requires-clause-both : goal.join-requires-clause-both
join-requires-clause-both c =
    let other : Member = get_or c.args.others.now c.loop-other.other-index no_member in (
      c.requires.both.0,
      member_on c.args.spec.now c.args.web.now.findings c.loop-other.web.findings c.loop-other.invariant.widened.later.grows
          c.requires.both.0 c.args.by c.args.side c.args.member c.requires.both.1,
      member_on c.args.spec.now c.args.web.now.findings c.loop-other.web.findings c.loop-other.invariant.widened.later.grows
          c.requires.both.0 c.args.by (opposite c.args.side) other
          (c.requires.both.2 other (Contains-get_or c.args.others.now c.loop-other.other-index no_member c.loop-other-test.true)),
    )

pub loop-other-preserved : goal.loop-other-preserved
loop-other-preserved c = record {
  widened = widened_then c.args.spec.now _ _ _ c.loop-other.invariant.widened c.in_ok-join.ensures.widened;
  paths =
      each_more (λ (other : Member). Passes c.args.side c.join.new.web.net c.args.member.node other.node) c.args.others.now
      c.loop-other.other-index _
      (λ k other less h. passes_on c.args.side c.loop-other.web.net c.join.new.web.net c.in_ok-join.ensures.widened.widens _ _
      (c.loop-other.invariant.paths k other less h)) c.in_ok-join.ensures.passes;
}

pub returns : goal.returns
returns c = record {
  widened = c.loop-other.invariant.widened;
  paths = each_of_all (λ (other : Member). Passes c.args.side c.loop-other.web.net c.args.member.node other.node)
      c.args.others.now c.loop-other.other-index c.loop-other-test.false c.loop-other.invariant.paths;
}
