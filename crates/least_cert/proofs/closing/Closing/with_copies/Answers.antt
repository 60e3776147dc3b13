use Rattle.least_cert.proofs.Common.{Adds, Edge, IsCopy, List, subst, sym}
use Rattle.least_cert.proofs.Spreading.{appended}
use Rattle.least_cert.proofs.closing.Closing.with_copies.Goals as goal

pub returns : goal.returns
returns c =
    subst (λ (xs : List Edge). Adds (IsCopy c.args.self.now c.args.giver c.args.taker) c.args.edges.items xs)
    (sym (rw c.as_slice.ensures.value at c.in_ok-edges.ensures))
    (appended (IsCopy c.args.self.now c.args.giver c.args.taker) c.args.edges.items c.in_ok-copies.copies.items
    c.in_ok-copies.ensures.only c.in_ok-copies.ensures.every)
