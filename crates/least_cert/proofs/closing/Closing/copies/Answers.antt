use Rattle.least_cert.proofs.Common.{Closure, Edge, has, subst, true, ◌<◌, ◌^◌, ◌≡◌}
use Rattle.least_cert.proofs.Growth.{are_copies}
use Rattle.least_cert.proofs.closing.Closing.copies.Goals as goal

pub returns : goal.returns
returns c =
    are_copies c.args.giver c.args.taker c.args.self.now c.requires c.in_ok-edges.edges.items c.in_ok-copies.copies.items
    (subst (λ (m : Closure). (e : Edge) → has c.in_ok-edges.edges.items e ≡ true
    → (has m.known e ≡ true) × (e.from ≡ c.args.giver)) c.self.view_is c.in_ok-edges.ensures.from)
    (subst (λ (m : Closure). (e : Edge) → has m.known e ≡ true → e.from ≡ c.args.giver → e.to < 2 ^ 32
    → has c.in_ok-edges.edges.items e ≡ true) c.self.view_is c.in_ok-edges.ensures.every)
    (rw c.as_slice.ensures.value at c.in_ok-copies.ensures)
