use Rattle.least_cert.proofs.Common.{AddsAll, Edge, List, has, subst, true, ◌≡◌}
use Rattle.least_cert.proofs.Growth.{copies_made, copy_least}
use Rattle.least_cert.proofs.closing.Closing.copy.Goals as goal

pub add_all-requires-clause-least : goal.add_all-requires-clause-least
add_all-requires-clause-least c = λ e h.
    copy_least c.args.giver c.args.taker c.args.self.now c.requires.sound c.requires.flows e
    (c.in_ok-copies.ensures.only e (subst (λ (xs : List Edge). has xs e ≡ true) c.as_slice.ensures.value h))

pub returns-clause-copied : goal.returns-clause-copied
returns-clause-copied c =
    copies_made c.args.giver c.args.taker c.args.self.now c.requires.sound c.in_ok-copies.copies.items c.add_all.new.self
    c.in_ok-copies.ensures
    (subst (λ (xs : List Edge). AddsAll xs c.args.self.now c.add_all.new.self) c.as_slice.ensures.value
    c.in_ok-add_all.ensures.added)
