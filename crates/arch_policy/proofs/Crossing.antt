-- What the ends of a connection give with each other, end by end.
use Rattle.arch_policy.proofs.Common.{Authority, Bool, Edge, FlatEnd, From, List, Tables, To, [], ap, append-nil, cond, crossed, edge, false, flat_map, flat_map-gather, gather, gather_same, labels_in_role, leaf_label, refl, same_role, sym, true}
use Rattle.arch_policy.proofs.Common.{where_true, ℕ, ◌++◌, ◌∙◌, ◌∷◌, ◌≡◌}

gather_flat : {X Y : Type 0} (h : X → List Y) (xs : List X) → gather (λ k x. h x) xs ≡ flat_map h xs
gather_flat h [] = refl
gather_flat h (x ∷ xs) = ap (λ z. h x ++ z) (gather_flat h xs)

one_where : {X Y : Type 0} (f : X → Y) (b : Bool) (x : X) → flat_map (λ y. f y ∷ []) (where_true b x) ≡ where_true b (f x)
one_where f true x = refl
one_where f false x = refl

all_where : {X Y : Type 0} (h : X → List Y) (b : Bool) (x : X) → flat_map h (where_true b x) ≡ cond b (h x) []
all_where h true x = append-nil (h x)
all_where h false x = refl

module _ (t : Tables) where
  pub to_ends : (l : ℕ) (a : Authority) (ends : List FlatEnd)
      → gather (λ n e. where_true (same_role e.role From) (edge l a (leaf_label t e.leaf))) ends ≡ gather (λ j m. edge l a m ∷ [])
      (labels_in_role t From ends)
  to_ends l a ends =
      let one : ℕ → List Edge = λ m. edge l a m ∷ [] in
      sym (gather_flat one (labels_in_role t From ends)
      ∙ flat_map-gather one (λ n (e : FlatEnd). where_true (same_role e.role From) (leaf_label t e.leaf)) ends
      ∙ gather_same (λ n (e : FlatEnd). flat_map one (where_true (same_role e.role From) (leaf_label t e.leaf)))
      (λ n e. where_true (same_role e.role From) (edge l a (leaf_label t e.leaf))) ends
      (λ n e s. one_where (λ m. edge l a m) (same_role e.role From) (leaf_label t e.leaf)))

  -- from the label of one end
  abbrev pub from_end : Authority → List FlatEnd → FlatEnd → List Edge
  from_end a ends e =
      cond (same_role e.role To) (gather (λ j m. edge (leaf_label t e.leaf) a m ∷ []) (labels_in_role t From ends)) []

  pub from_ends : (a : Authority) (ends : List FlatEnd)
      → gather (λ n e. from_end a ends e) ends ≡ crossed (labels_in_role t To ends) a (labels_in_role t From ends)
  from_ends a ends =
      let each : ℕ → List Edge = λ l. gather (λ j m. edge l a m ∷ []) (labels_in_role t From ends) in
      sym (gather_flat each (labels_in_role t To ends)
      ∙ flat_map-gather each (λ n (e : FlatEnd). where_true (same_role e.role To) (leaf_label t e.leaf)) ends
      ∙ gather_same (λ n (e : FlatEnd). flat_map each (where_true (same_role e.role To) (leaf_label t e.leaf)))
      (λ n e. from_end a ends e) ends
      (λ n e s. all_where each (same_role e.role To) (leaf_label t e.leaf)))
