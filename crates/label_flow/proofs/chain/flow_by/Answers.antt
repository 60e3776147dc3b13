use Rattle.label_flow.proofs.Common.{Found, Some, arith, get_or_from_slice_get, length, slice_get, slice_get_within, subst, sym, ◌<◌, ◌∙◌, ◌≡◌}
use Rattle.label_flow.proofs.Passed.{at_contains}
use Rattle.label_flow.proofs.Searching.{ends_apart, ends_shortest, place_read}
use Rattle.label_flow.proofs.chain.flow_by.Goals as goal

pub returns-in-None : goal.returns-in-None
returns-in-None c =
    let s = c.in_ok-search.search in
    let searches = c.in_ok-search.ensures in
    let within : c.args.to < length s.places.items = omega (arith, searches.wide, c.requires.to) in
    let read = place_read s.places.items c.args.to c.index.result.now within c.index.ensures in
    ends_apart c.args.edges.now c.args.from c.args.to c.args.count s searches (read ∙ c.in-None.is)

pub index-requires-in-Some : goal.index-requires-in-Some
index-requires-in-Some c =
    let s = c.in_ok-search.search in
    let searches = c.in_ok-search.ensures in
    let within : c.args.to < length s.places.items = omega (arith, searches.wide, c.requires.to) in
    let placed = place_read s.places.items c.args.to c.index.result.now within c.index.ensures ∙ c.in-Some.is in
    let p = searches.is.placed c.args.to c.in-Some.place placed in
    omega (arith, slice_get_within s.found.items c.in-Some.place p.0 p.1, s.found.ok.0)

pub chain_to-requires-clause-found : goal.chain_to-requires-clause-found
chain_to-requires-clause-found c =
    let s = c.in_ok-search.search in
    let searches = c.in_ok-search.ensures in
    let within : c.args.to < length s.places.items = omega (arith, searches.wide, c.requires.to) in
    let placed = place_read s.places.items c.args.to c.index.result.now within c.index.ensures ∙ c.in-Some.is in
    let p = searches.is.placed c.args.to c.in-Some.place placed in
    let same : c.index-in-Some.result.now ≡ p.0 = c.index-in-Some.ensures ∙ get_or_from_slice_get s.found.items c.in-Some.place
    p.0 c.index-in-Some.result.now p.1 in
    at_contains s.found.items c.in-Some.place c.index-in-Some.result.now
    (subst (λ (f : Found). slice_get s.found.items c.in-Some.place ≡ Some f) (sym same) p.1)

pub returns : goal.returns
returns c =
    let s = c.in_ok-search.search in
    let searches = c.in_ok-search.ensures in
    let within : c.args.to < length s.places.items = omega (arith, searches.wide, c.requires.to) in
    let placed = place_read s.places.items c.args.to c.index.result.now within c.index.ensures ∙ c.in-Some.is in
    let p = searches.is.placed c.args.to c.in-Some.place placed in
    let same : c.index-in-Some.result.now ≡ p.0 = c.index-in-Some.ensures ∙ get_or_from_slice_get s.found.items c.in-Some.place
    p.0 c.index-in-Some.result.now p.1 in
    ends_shortest c.args.edges.now c.args.from c.args.to c.args.count s c.in-Some.place c.index-in-Some.result.now
    c.in_ok-chain-in-Some.chain searches placed
    (subst (λ (f : Found). slice_get s.found.items c.in-Some.place ≡ Some f) (sym same) p.1) c.in_ok-chain-in-Some.ensures.leads
    c.in_ok-chain-in-Some.ensures.long
