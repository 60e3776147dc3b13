use Rattle.cert_check.proofs.Common.{OfPartners, arith, first_authority, has_at, length, ◌∙◌}
use Rattle.cert_check.proofs.FirstFound.{edge_none, edge_found}
use Rattle.cert_check.proofs.Pairs.{first_has, first_is}
use Rattle.cert_check.proofs.Search.{none_on}
use Rattle.cert_check.proofs.Violations.{first_of}
use Rattle.cert_check.proofs.Walks.{last_reach, led_past, like_past, looked_past, walked_on}
use Rattle.cert_check.proofs.meeting_walk.least_by.Goals as goal
use Rattle.cert_check.proofs.meeting_walk.least_by.Goals.{then-leads+then-not-goes_like+in_default-least_of, then-leads+else-not-goes_like, else-leads}

pub goes_like-requires-clause-last : goal.goes_like-requires-clause-last
goes_like-requires-clause-last c = last_reach c.args.rule c.args.cert.now c.args.partners.now.ends.items c.loop-at.next
    c.loop-at.last c.loop-at.invariant

pub least_of-requires-clause-there : goal.least_of-requires-clause-there
least_of-requires-clause-there c =
    rw c.met-met.ensures.edge (has_at c.args.cert.now c.in-Some.at c.in-Some.edge c.in-Some.ensures.found.there)

pub returns-in-Some-least_of : goal.returns-in-Some-least_of
returns-in-Some-least_of c =
    edge_found c.args.cert.now (OfPartners c.args.rule c.args.cert.now c.args.partners.now.ends.items)
    (λ v of. first_has c.args.cert.now c.args.rule v of.breaks)
    c.in-Some.at c.met-met.result.edge c.in-Some-least_of.found c.next_of.ensures.sorted
    (rw c.met-met.ensures.edge c.in-Some.ensures.found.there)
    (walked_on c.args.rule c.args.cert.now c.args.partners.now.ends.items c.loop-at.next c.in-Some.at c.loop-at.last
    c.in-Some.ensures.found.on (rw c.first-first.ensures at c.in-Some.ensures.found.others)
    c.loop-at.invariant).none c.in-Some-least_of.ensures

pub loop-at-preserved : goal.loop-at-preserved
loop-at-preserved c =
    let rule = c.args.rule in
    let cert = c.args.cert.now in
    let ends = c.args.partners.now.ends.items in
    let walked = (walked_on c.args.rule c.args.cert.now c.args.partners.now.ends.items c.loop-at.next c.in-Some.at c.loop-at.last
    c.in-Some.ensures.found.on (rw c.first-first.ensures at c.in-Some.ensures.found.others)
    c.loop-at.invariant) in
    elim c.if-leads.branch [
      | then-leads+then-not-goes_like+in_default-least_of w ↦ rw w.last-is
          (looked_past rule cert ends c.in-Some.at w.met-met.result c.loop-at.last walked
          (rw w.met-met.ensures.edge c.in-Some.ensures.found.there)
          (rw w.met-met.ensures.edge (c.in-Some.ensures.found.of ∙ c.first-first.ensures))
          (rw w.met-met.ensures.edge w.met-met.ensures.reach) w.in_default-least_of.ensures)
      | then-leads+else-not-goes_like w ↦ rw w.last-is
          (like_past rule cert ends c.in-Some.at w.met-met.result c.loop-at.last c.requires.met walked
          (rw w.met-met.ensures.edge c.in-Some.ensures.found.there)
          (w.goes_like.ensures w.if-not-goes_like.false))
      | else-leads w ↦ rw w.last-is
          (led_past rule cert ends c.in-Some.at c.in-Some.edge c.loop-at.last c.next_of.ensures.sorted c.requires.met walked
          c.in-Some.ensures.found.there
          (c.in-Some.ensures.found.of ∙ c.first-first.ensures) (c.leads.ensures w.if-leads.false))
    ]

pub returns : goal.returns
returns c =
    let rule = c.args.rule in
    let cert = c.args.cert.now in
    let ends = c.args.partners.now.ends.items in
    edge_none cert (OfPartners rule cert ends) (λ v of. first_has cert rule v of.breaks) (length cert) (omega arith)
    (none_on (OfPartners rule cert ends) first_of cert (first_authority rule) c.loop-at.next (length cert)
    (λ v of. first_is cert rule v of.breaks)
    (rw c.first-first.ensures at c.in_default.ensures.none) c.loop-at.invariant.none)
