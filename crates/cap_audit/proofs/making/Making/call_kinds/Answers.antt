use Rattle.cap_audit.proofs.Common.{ArePlaces, Between, List, Made, OfKinds, OfSome, Place, subst, sym, ℕ}
use Rattle.cap_audit.proofs.Gaining.{gains_by}
use Rattle.cap_audit.proofs.Meeting.{kinds_by_places, places_meet}
use Rattle.cap_audit.proofs.making.Making.call_kinds.Goals as goal

pub call_all-requires-clause-meet : goal.call_all-requires-clause-meet
call_all-requires-clause-meet c =
    let m : Made = c.args.self.now in
    places_meet m.spec m.found c.args.door.held.value c.args.pair.held.value c.row.result.now c.row-2.result.now
    c.as_slice.result.now c.as_slice-2.result.now
    (subst (λ (xs : List Place). ArePlaces m.found c.row.result.now c.args.door.held.value xs)
    (sym c.as_slice.ensures.value) c.in_ok-callers.ensures)
    (subst (λ (xs : List Place). ArePlaces m.found c.row-2.result.now c.args.pair.held.value xs)
    (sym c.as_slice-2.ensures.value) c.in_ok-peers.ensures) c.requires.meet

pub returns : goal.returns
returns c =
    let m : Made = c.args.self.now in
    let rosters : List (List ℕ) = c.args.company.now.rosters in
    let members : List (List ℕ) = c.args.company.now.members in
    let P = OfSome (λ (peer : Place). OfSome (λ (at : Place). Between m.labels rosters at.node peer.node) c.as_slice.result.now)
    c.as_slice-2.result.now in
    gains_by P (OfKinds m.labels rosters members c.args.door.node c.args.pair.node)
    (kinds_by_places m.spec m.found m.heads rosters members c.args.company.now.gates c.requires.ready c.args.door.node
    c.args.pair.node c.args.door.held.value c.args.pair.held.value c.row.result.now c.row-2.result.now c.as_slice.result.now
    c.as_slice-2.result.now c.requires.door c.requires.pair c.row.ensures c.row-2.ensures
    (subst (λ (xs : List Place). ArePlaces m.found c.row.result.now c.args.door.held.value xs)
    (sym c.as_slice.ensures.value) c.in_ok-callers.ensures)
    (subst (λ (xs : List Place). ArePlaces m.found c.row-2.result.now c.args.pair.held.value xs)
    (sym c.as_slice-2.ensures.value) c.in_ok-peers.ensures) m.labels) m c.call_all.new.self c.in_ok-call_all.ensures
