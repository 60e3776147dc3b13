-- Edges turned round: chains over them lead back.
use Rattle.std.proofs.Common.{rules}
use Rattle.label_flow.proofs.Common.{AreBelow, AreSources, Bool, Chain, Contains, Edge, Found, IsClosed, IsSearch, List, None, Option, Passes, Search, Searches, Some, [], ap, arith, contains_at, eqb-true, false, from_holder, inl, inr, is_some}
use Rattle.label_flow.proofs.Common.{length, map, option_map, place_of, refl, slice_get, slice_get-map, subst, suc, sym, to_holder, true, turned, zero, ℕ, ◌++◌, ◌+◌, ◌<◌, ◌==◌, ◌||◌, ◌∙◌, ◌∷◌, ◌≡◌, ◌≤◌, ◌⊎◌}
use Rattle.std.proofs.Math.Bool.{or-true}
use Rattle.label_flow.proofs.Passed.{at_contains, chain_more, flows_pass, none_apart}
use Rattle.label_flow.proofs.Searching.{ends_apart}

passes_back : (e : Edge) (l m : ℕ) → Passes e l m → Passes (turned e) m l
passes_back e l m (from_holder goes same also) = from_holder goes also same
passes_back e l m (to_holder goes same also) = to_holder goes also same

turned_there : (edges : List Edge) (e : Edge) → Contains edges e → Contains (map turned edges) (turned e)
turned_there edges e there =
    let place = contains_at edges e there in
    at_contains (map turned edges) place.0 (turned e) (slice_get-map turned edges place.0
    ∙ ap (λ (o : Option Edge). option_map turned o) place.1)

pub turned_twice : (edges : List Edge) → map turned (map turned edges) ≡ edges
turned_twice [] = refl
turned_twice (e ∷ edges) = ap (λ (rest : List Edge). e ∷ rest) (turned_twice edges)

abbrev Leads : List Edge → ℕ → ℕ → Type 0
Leads edges l m = (chain : List Edge) × Chain edges l chain m

chain_back : (edges : List Edge) (l m : ℕ) (chain : List Edge) → Chain edges l chain m → Leads (map turned edges) m l
chain_back edges l m [] same = ([], sym same)
chain_back edges l m (e ∷ chain) (mid, there, passes, rest) =
    let back = chain_back edges mid m chain rest in (
      back.0 ++ turned e ∷ [],
      chain_more (map turned edges) back.0 (turned e) m mid l back.1 (turned_there edges e there)
          (passes_back e l mid passes),
    )

-- what is found was led to
found_chain : (edges : List Edge) (from : ℕ) (found : List Found) (places : List (Option ℕ)) (done : ℕ)
    → IsSearch edges from found places done → (n i : ℕ) (f : Found) → slice_get found i ≡ Some f → f.depth ≡ n
    → Leads edges from f.label
found_chain edges from found places done s zero i f got deep = elim (s.met i f got) [
  | inl root ↦ ([], sym root.0)
  | inr step ↦ absurd (let d = step.deeper in omega arith)
]
found_chain edges from found places done s (suc n) i f got deep = elim (s.met i f got) [
  | inl root ↦ ([], sym root.0)
  | inr step ↦ (let before = found_chain edges from found places done s n f.previous step.before step.there
      (let d = step.deeper in omega arith) in (
        before.0 ++ step.edge ∷ [],
        chain_more edges before.0 step.edge from step.before.label f.label before.1
            (at_contains edges f.by step.edge step.by) step.passes,
      ))
]

-- a chain ends where it began or at an end of an edge
chain_below : (edges : List Edge) (count : ℕ) → AreBelow count edges → (l m : ℕ) (chain : List Edge) → Chain edges l chain m
    → (l ≡ m) ⊎ (l < count)
chain_below edges count below l m [] same = inl same
chain_below edges count below l m (e ∷ chain) (mid, there, passes, rest) = inr (go passes (below.ends e there)) where
  go : Passes e l mid → (e.from < count) × (e.to < count) → l < count
  go (from_holder goes same also) ends = subst (λ (n : ℕ). n < count) (sym same) ends.0
  go (to_holder goes same also) ends = subst (λ (n : ℕ). n < count) (sym same) ends.1

abbrev pub is_placed : ℕ → List (Option ℕ) → ℕ → Bool
is_placed to places l = l == to || is_some (place_of places l)

module _ (edges : List Edge) (to count : ℕ) (s : Search) (searches : Searches edges to count s (length s.found.items)) where
  from_found : (l : ℕ) → is_placed to s.places.items l ≡ true → Leads edges to l
  from_found l h = go (l == to) refl where
    placed : (o : Option ℕ) → place_of s.places.items l ≡ o → is_some o ≡ true → Leads edges to l
    placed None is some = absurd cc
    placed (Some i) is some =
        let p = searches.is.placed l i is in
        subst (λ (n : ℕ). Leads edges to n) p.2 (found_chain edges to s.found.items s.places.items (length s.found.items)
        searches.is p.0.depth i p.0 p.1 refl)

    go : (b : Bool) → (l == to) ≡ b → Leads edges to l
    go true e = ([], sym (eqb-true l to e))
    go false e =
        placed (place_of s.places.items l) refl (let w : false || is_some (place_of s.places.items l) ≡ true = rw e at h in w)

  to_found : (l : ℕ) → Leads edges to l → is_placed to s.places.items l ≡ true
  to_found l leads = search (rules, or-true, none_apart, ends_apart)

-- a search over turned edges finds the sources
pub finds_sources : (edges : List Edge) (to count : ℕ) (s : Search) → Searches edges to count s (length s.found.items)
    → AreSources (map turned edges) to (is_placed to s.places.items)
finds_sources edges to count s searches l = (
  λ h. (let leads = from_found edges to count s searches l h in chain_back edges to l leads.0 leads.1),
  λ leads. (let back = chain_back (map turned edges) l to leads.0 leads.1 in
      to_found edges to count s searches l (subst (λ (es : List Edge). Leads es to l) (turned_twice edges) back)),
)

-- a label that no edge has is its only source
pub far_sources : (edges : List Edge) (to count : ℕ) → AreBelow count edges → count ≤ to
    → AreSources (map turned edges) to (is_placed to [])
far_sources edges to count below far l = (
  λ h. (let same : l ≡ to = go (l == to) refl h in ([], same)),
  λ leads. (let back = chain_back (map turned edges) l to leads.0 leads.1 in
      let over : Leads edges to l = subst (λ (es : List Edge). Leads es to l) (turned_twice edges) back in
      elim (chain_below edges count below to l over.0 over.1) [
        | inl same ↦ (let e : (l == to) ≡ true = grind arith in rw e refl)
        | inr less ↦ absurd (omega arith)
      ]),
) where
  go : (b : Bool) → (l == to) ≡ b → is_placed to [] l ≡ true → l ≡ to
  go true e h = eqb-true l to e
  go false e h = absurd (let w : false ≡ true = rw e at h in cc)

pub sources_closed : (edges : List Edge) (to : ℕ) (has : ℕ → Bool) → AreSources edges to has → IsClosed edges has
sources_closed edges to has are l m flows here =
    let p = (flows_pass edges l m).0 flows in
    let on = (are m).0 here in
    (are l).1 (p.0 ∷ on.0, (m, p.1, p.2, on.1))
