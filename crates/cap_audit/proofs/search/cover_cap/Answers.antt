use Rattle.cap_audit.proofs.Common.{sym, ◌∙◌}
use Rattle.cap_audit.proofs.Looking.{link_covers}
use Rattle.cap_audit.proofs.search.cover_cap.Goals as goal

pub returns-then-is_kind : goal.returns-then-is_kind
returns-then-is_kind c =
    link_covers c.args.spec.now c.args.web.now c.args.hubs.now c.args.member.node c.args.member.cap c.link.new.web c.requires.hubs
    (sym c.is_kind.ensures ∙ c.if-is_kind.true) c.in_ok-link.ensures
