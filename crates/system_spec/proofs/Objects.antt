-- What stands at the place of a part, and which parts there are
use Rattle.std.proofs.Common.{rules}
use Rattle.system_spec.proofs.Common.{CNodeOf, Connector, Domain, EndpointOf, FlatConnection, IsIn, List, OfConnection, OfDomain, Owned, Part, Rpc, Some, Tables, [], ap, cnodes, endpoint, endpoint_by, entry, entry_name, entry_object, flat_map}
use Rattle.system_spec.proofs.Common.{gather, get_map, get_ones, in_gather, in_left, in_right, inl, notification, notification_by, numbered, owned, part, parts, place, refl, sections, slice_get, subst, suc, sym, zero, ℕ, ◌∷◌, ◌≡◌}
use Rattle.system_spec.specs.declared.series.Series.TheVariants as series
use Rattle.system_spec.specs.SpecLaws.{ObjectsStand, PartsAreThere}
use Rattle.system_spec.proofs.Standing.{stands}

pub objects_stand : (t : Tables) → ObjectsStand t
objects_stand t = search (rules, get_map, stands)

-- ---- which parts there are

pub in_together : {X : Type 0} (ss : List (List X)) (n : ℕ) (s : List X) (x : X) → slice_get ss n ≡ Some s → IsIn x s
    → IsIn x (flat_map (λ z. z) ss)
in_together [] n s x e i = cc
in_together {X} (r ∷ ss) zero s x e i = search (rules, in_left)
in_together (r ∷ ss) (suc n) s x e i = in_right x r (flat_map (λ z. z) ss) (in_together ss n s x e i)

pub has_cnode : (t : Tables) (d : ℕ) (x : Domain) → slice_get t.flat.domains d ≡ Some x
    → IsIn (part series.CNode d (OfDomain d) (CNodeOf d)) (parts t)
has_cnode t d x e =
    let f : ℕ → Domain → Owned = λ n z. owned (OfDomain n) (CNodeOf n) in
    let g : ℕ → Owned → List Part = λ n z. part series.CNode n z.owner z.what ∷ [] in
    let p = part series.CNode d (OfDomain d) (CNodeOf d) in
    in_together (sections t) 0 (numbered series.CNode (cnodes t.flat.domains)) p refl
    (in_gather g p (cnodes t.flat.domains) d (owned (OfDomain d) (CNodeOf d)) (get_ones f t.flat.domains d x e) (inl refl))

pub has_endpoint : (t : Tables) (k : ℕ) (c : FlatConnection) → slice_get t.flat.connections k ≡ Some c → c.connector ≡ Rpc
    → IsIn (part series.Ep k (OfConnection k) (EndpointOf k)) (parts t)
has_endpoint t k c e r =
    let p = part series.Ep k (OfConnection k) (EndpointOf k) in
    let P : Connector → Type 0 = λ z. IsIn p (endpoint_by k z) in
    in_together (sections t) 2 (gather endpoint t.flat.connections) p refl (in_gather endpoint p t.flat.connections k c e
    (subst P (sym r) (inl refl)))

pub has_notification : (t : Tables) (k : ℕ) (c : FlatConnection) → slice_get t.flat.connections k ≡ Some c → (p : Part)
    → IsIn p (notification_by k c.connector) → IsIn p (parts t)
has_notification t k c e p i = in_together (sections t) 3 (gather notification t.flat.connections) p refl
    (in_gather notification p t.flat.connections k c e i)

pub parts_are_there : (t : Tables) → PartsAreThere t
parts_are_there t = record { cnode = has_cnode t; endpoint = has_endpoint t; notification = has_notification t }
