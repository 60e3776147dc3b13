use Rattle.cap_audit.proofs.Common.{IsMember, Passes, Side, opposite, subst, sym}
use Rattle.cap_audit.proofs.hubs.join.Goals as goal

pub meet-requires-clause-both : goal.meet-requires-clause-both
meet-requires-clause-both c = (
  c.requires.both.0,
  subst (λ (s : Side). IsMember c.args.spec.now c.args.web.now.findings c.requires.both.0 c.args.by s c.args.member)
      c.in-Giving.is c.requires.both.1,
  subst (λ (s : Side). IsMember c.args.spec.now c.args.web.now.findings c.requires.both.0 c.args.by (opposite s) c.args.other)
      c.in-Giving.is c.requires.both.2,
)

pub meet-requires-in-Taking-clause-both : goal.meet-requires-in-Taking-clause-both
meet-requires-in-Taking-clause-both c = (
  c.requires.both.0,
  subst (λ (s : Side). IsMember c.args.spec.now c.args.web.now.findings c.requires.both.0 c.args.by (opposite s) c.args.other)
      c.in-Taking.is c.requires.both.2,
  subst (λ (s : Side). IsMember c.args.spec.now c.args.web.now.findings c.requires.both.0 c.args.by s c.args.member)
      c.in-Taking.is c.requires.both.1,
)

pub returns-in_ok-meet-in-Giving-clause-passes : goal.returns-in_ok-meet-in-Giving-clause-passes
returns-in_ok-meet-in-Giving-clause-passes c =
    subst (λ (s : Side). Passes s c.meet.new.web.net c.args.member.node c.args.other.node) (sym c.in-Giving.is)
    c.in_ok-meet-in-Giving.ensures.path

pub returns-in_ok-meet-in-Taking-clause-passes : goal.returns-in_ok-meet-in-Taking-clause-passes
returns-in_ok-meet-in-Taking-clause-passes c =
    subst (λ (s : Side). Passes s c.meet-in-Taking.new.web.net c.args.member.node c.args.other.node) (sym c.in-Taking.is)
    c.in_ok-meet-in-Taking.ensures.path
