-- The connections of a flat system and their ends, as those of the hierarchy.
use Rattle.flat_laws.proofs.Common.{AreNamesSound, End, FlatConnection, FlatEnd, IsIn, List, Placed, Reached, Some, Source, Strung, [], ap, connections, flat_connection, flat_end, flat_of, from_filter_map, from_get_map, get_map, hierarchy_of, in_get}
use Rattle.flat_laws.proofs.Common.{inl, inr, joined, joined_by, leaf_number, leaf_number_is, leaf_of, leaves, map, map_some, option_map, refl, slice_get, suc, sym, ℕ, ◌++◌, ◌∙◌, ◌∷◌, ◌≡◌}

pub place_in : {X : Type 0} (xs : List X) (x : X) → IsIn x xs → (n : ℕ) × (slice_get xs n ≡ Some x)
place_in [] x i = absurd i
place_in (y ∷ xs) x (inl e) = (0, ap Some e)
place_in (y ∷ xs) x (inr i) = let k = place_in xs x i in (suc k.0, k.1)

-- a flat connection is that of a connection of the hierarchy
pub strung_of : (s : Source) (k : ℕ) (c : FlatConnection) → slice_get (flat_of s).connections k ≡ Some c
    → (x : Strung) × IsIn x (connections (hierarchy_of s)) × (flat_connection (hierarchy_of s) x ≡ c)
strung_of s k c e =
    let h = hierarchy_of s in
    let x = from_get_map (flat_connection h) (connections h) k c e in
    (x.0, in_get (connections h) k x.0 x.1, x.2)

-- a flat end is that of an end, at the leaf that it joins
pub record IsEnd (s : Source) (x : Strung) (e : FlatEnd) : Type 0 where
  pub end : End
  pub stands : IsIn end x.wire.1.ends
  pub reach : Reached
  pub joined : joined_by (hierarchy_of s) x.inside end ≡ Some reach
  pub flat : flat_end (hierarchy_of s) x.path end reach ≡ e
  pub placed : Placed
  pub is_part : placed.part ≡ reach.part
  pub is_leaf : IsIn placed (leaves (hierarchy_of s))
  pub leaf : slice_get (flat_of s).leaves e.leaf ≡ Some (leaf_of (hierarchy_of s) placed)

pub end_of : (s : Source) → AreNamesSound s → (n : ℕ) (c : FlatConnection) (e : FlatEnd) (x : Strung)
    → IsIn x (connections (hierarchy_of s)) → flat_connection (hierarchy_of s) x ≡ c → slice_get c.ends n ≡ Some e → IsEnd s x e
end_of s sound n c e x i f g =
    let h = hierarchy_of s in
    let there = in_get (flat_connection h x).ends n e (ap (λ (z : FlatConnection). slice_get z.ends n) f ∙ g) in
    let d = from_filter_map (λ (z : End). option_map (flat_end h x.path z) (joined_by h x.inside z)) e x.wire.1.ends there in
    let r = map_some (flat_end h x.path d.0) (joined_by h x.inside d.0) e d.2 in
    let m = place_in x.wire.1.ends d.0 d.1 in
    let leaf = (joined s sound x m.0 d.0 r.0 i m.1 r.1).1 in
    let placed : Placed = record { path = x.path ++ r.0.path; part = r.0.part } in
    let a = place_in (leaves h) placed leaf in
    record {
      end = d.0;
      stands = d.1;
      reach = r.0;
      joined = r.1;
      flat = r.2;
      placed = placed;
      is_part = refl;
      is_leaf = leaf;
      leaf = ap (λ (z : FlatEnd). slice_get (map (leaf_of h) (leaves h)) z.leaf) (sym r.2) ∙ get_map (leaf_of h) (leaves h)
          (leaf_number h placed.path) placed (ap (slice_get (leaves h)) (leaf_number_is s sound a.0 placed a.1) ∙ a.1);
    }
