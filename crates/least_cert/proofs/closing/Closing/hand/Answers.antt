use Rattle.least_cert.proofs.Common.{Edge, IsLess, PutsGift, subst}
use Rattle.least_cert.proofs.Growth.{gift_given}
use Rattle.least_cert.proofs.closing.Closing.hand.Goals as goal

pub returns-clause-given : goal.returns-clause-given
returns-clause-given c =
    gift_given c.args.giver c.args.taker c.args.self.now c.copy.new.self c.put_gift.new.self c.in_ok-copy.ensures.copied
    (subst (λ (x : Edge). PutsGift x c.copy.new.self c.put_gift.new.self) c.edge_of.ensures.is c.in_ok-put_gift.ensures)
    (subst IsLess c.edge_of.ensures.is c.edge_of.ensures.less) c.requires.flows
