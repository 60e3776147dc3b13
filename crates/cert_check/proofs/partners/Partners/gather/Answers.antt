use Rattle.cert_check.proofs.Common.{ap, arith, length, ◌∙◌}
use Rattle.arrayvec.proofs.ArrayVecLemmas.{items-with_items}
use Rattle.cert_check.proofs.Walks.{partners_on, partners_past, partners_more, partners_sorted, rising_of}
use Rattle.cert_check.proofs.partners.Partners.gather.Goals as goal
use Rattle.cert_check.proofs.partners.Partners.gather.Goals.{then-leads, else-leads}

pub loop-past-preserved-in-Some : goal.loop-past-preserved-in-Some
loop-past-preserved-in-Some c =
    let rule = c.args.rule in
    let cert = c.args.cert.now in
    let ends = c.loop-past.self.ends.items in
    let part = partners_on rule cert c.args.from c.loop-past.past c.in-Some.at ends c.loop-past.invariant.part
    (rw c.partner-partner.ensures at c.in-Some.ensures.found.others) in
    let few = c.loop-past.invariant.few in
    let on = c.in-Some.ensures.found.on in
    elim c.if-leads.branch [
      | then-leads w ↦ rw w.self-is (record {
        part = rw w.push.ensures.items
            (partners_more rule cert c.args.from c.in-Some.at c.in-Some.edge ends part c.in-Some.ensures.found.there
            (c.in-Some.ensures.found.of ∙ c.partner-partner.ensures));
        few = (let l = w.push.ensures.len in omega arith);
      })
      | else-leads w ↦ rw w.self-is (record {
        part = partners_past rule cert c.args.from c.in-Some.at c.in-Some.edge ends part c.in-Some.ensures.found.there
            (λ is. c.leads.ensures w.if-leads.false);
        few = omega arith;
      })
    ]

pub returns-clause-partners : goal.returns-clause-partners
returns-clause-partners c =
    rw (items-with_items c.loop-past.self.ends c.sort_unstable.new.self (c.sort_unstable.ensures.len
    ∙ ap length c.deref_mut.ensures.value))
    (partners_sorted c.args.rule c.args.cert.now c.args.from c.loop-past.past c.loop-past.self.ends.items c.sort_unstable.new.self
    (rw c.deref_mut.ensures.value at c.sort_unstable.ensures.permutation)
    c.loop-past.invariant.part)

pub returns-clause-rising : goal.returns-clause-rising
returns-clause-rising c =
    rw (items-with_items c.loop-past.self.ends c.sort_unstable.new.self (c.sort_unstable.ensures.len
    ∙ ap length c.deref_mut.ensures.value))
    (rising_of c.sort_unstable.new.self c.sort_unstable.ensures.sorted)
