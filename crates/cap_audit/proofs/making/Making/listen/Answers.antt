use Rattle.cap_audit.proofs.Common.{Contains, Greets, List, Made, OfKinds, OfListening, OfSome, Pair, false, length, row_at, stand_in, subst, sym, ℕ, ◌==◌, ◌∙◌, ◌≡◌}
use Rattle.cap_audit.specs.declared.picks.Wanted.TheVariants as wants
use Rattle.cap_audit.proofs.Assembling.{gate_meets}
use Rattle.cap_audit.proofs.Looping.{listen_by, listen_none, no_head}
use Rattle.cap_audit.proofs.Meeting.{greets_by, greets_none}
use Rattle.cap_audit.proofs.Picking.{picked_from}
use Rattle.cap_audit.proofs.making.Making.listen.Goals as goal

pub returns-then-not-is_head : goal.returns-then-not-is_head
returns-then-not-is_head c =
    let m : Made = c.args.self.now in
    let fails : (stand_in m.heads c.args.pair.node == c.args.pair.node) ≡ false = cc in
    greets_none c.args.company.now.rosters c.args.company.now.members m c.args.met.now c.requires.are_met
    (OfListening m.spec m.labels m.found m.heads c.args.company.now.rosters c.args.company.now.members
    c.args.company.now.gates c.args.pair) c.requires.so_far
    (no_head m c.args.company.now.rosters c.args.company.now.members c.args.company.now.gates c.args.pair fails)

pub returns-in-None : goal.returns-in-None
returns-in-None c =
    let m : Made = c.args.self.now in
    greets_none c.args.company.now.rosters c.args.company.now.members m c.args.met.now c.requires.are_met
    (OfListening m.spec m.labels m.found m.heads c.args.company.now.rosters c.args.company.now.members
    c.args.company.now.gates c.args.pair) c.requires.so_far
    (listen_none m c.args.company.now.rosters c.args.company.now.members c.args.company.now.gates c.args.pair
    (sym c.pick.ensures ∙ c.in-None.is))

pub meet_all-requires-clause-doors : goal.meet_all-requires-clause-doors
meet_all-requires-clause-doors c = λ door there.
    let m : Made = c.args.self.now in
    let from = picked_from m.spec m.found wants.Listener c.args.pair.held c.in-Some.pick (sym c.pick.ensures ∙ c.in-Some.is) in
    gate_meets m.spec m.found m.heads c.args.company.now.gates (length m.found.queue) c.requires.ready.are_gates c.args.pair
    c.in-Some.pick.cap from.0 from.2 door
    (subst (λ (xs : List Pair). Contains xs door) c.row-gate.ensures there)

pub returns-in_ok-meet_all-in-Some : goal.returns-in_ok-meet_all-in-Some
returns-in_ok-meet_all-in-Some c =
    let m : Made = c.args.self.now in
    let rosters : List (List ℕ) = c.args.company.now.rosters in
    let members : List (List ℕ) = c.args.company.now.members in
    let gates : List (List Pair) = c.args.company.now.gates in
    greets_by rosters members (OfSome (λ (door : Pair). OfKinds m.labels rosters members door.node c.args.pair.node)
    (row_at gates c.in-Some.pick.cap.object))
    (OfListening m.spec m.labels m.found m.heads rosters members gates c.args.pair) (listen_by m rosters members gates c.args.pair
    c.in-Some.pick (sym c.pick.ensures ∙ c.in-Some.is)) m c.meet_all.new.self
    c.meet_all.new.met
    (subst
    (λ (xs : List Pair). Greets rosters members
    (OfSome (λ (door : Pair). OfKinds m.labels rosters members door.node c.args.pair.node) xs) m c.meet_all.new.self
    c.meet_all.new.met) c.row-gate.ensures
    c.in_ok-meet_all-in-Some.ensures)
