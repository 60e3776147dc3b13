-- Only one flat system is as the relations of a hierarchy have it.
use Rattle.front_laws.proofs.Common.{AreConnections, AreDomains, AreLeaves, AreNamesSound, Bool, Component, Domain, End, FlatConnection, FlatEnd, Hierarchy, IsByHierarchy, IsConnectionBefore, IsDomainBefore, IsDomainOf, IsEndOf, IsIn, IsInside}
use Rattle.front_laws.proofs.Common.{IsLeafOf, IsPathBefore, IsWireBefore, IsWireOf, Leaf, List, Member, Name, Option, Part, Path, Reached, Some, Source, Strung, Wire, [], ap, arith, body, cases_Bool, cases_lt, connections}
use Rattle.front_laws.proofs.Common.{connections_stand, domain_of, false, from_get_map, from_map, get_map, hierarchy_of, in_map, in_place, inl, inr, joined_by, joins_joined, length, map, names_once, part_at, refl, subst, suc, sym}
use Rattle.front_laws.proofs.Common.{rules, top_number, true, wires_once, ℕ, ◌++◌, ◌<◌, ◌∙◌, ◌∷◌, ◌≡◌, ◌⊎◌}
use Rattle.adl_ast.specs.declared.component.Member.TheVariants as members
use Rattle.cam_base.proofs.Lists.{snoc_same}
use Rattle.adl_meaning.specs.declared.flat.Flat.{Flat}
use Rattle.adl_meaning.specs.Prelude.{Interface, slice_get}
use Rattle.front_laws.proofs.ByHierarchy.{domain_of_is}
use Rattle.front_laws.proofs.OneOrder.{once_place, paths_one_way, same_order, wires_one_way}
use Rattle.front_laws.proofs.Ordered.{order_map}

-- ---- lists that agree

same_by : {X K : Type 0} (key : X → K) (xs ys : List X) → map key xs ≡ map key ys
    → ((x y : X) → IsIn x xs → IsIn y ys → key x ≡ key y → x ≡ y) → xs ≡ ys
same_by key [] [] e f = refl
same_by key (x ∷ xs) (y ∷ ys) e f =
    let heads : key x ≡ key y = cc in
    let tails : map key xs ≡ map key ys = cc in
    ap (λ z. z ∷ xs) (f x y (inl refl) (inl refl) heads)
    ∙ ap (λ z. y ∷ z) (same_by key xs ys tails (λ a b i j. f a b (inr i) (inr j)))
same_by key _ _ e f = cc

same_at : {X : Type 0} (xs ys : List X) → length xs ≡ length ys → ((n : ℕ) (x y : X) → slice_get xs n ≡ Some x
    → slice_get ys n ≡ Some y → x ≡ y) → xs ≡ ys
same_at [] [] e f = refl
same_at (x ∷ xs) (y ∷ ys) e f =
    ap (λ z. z ∷ xs) (f 0 x y refl refl) ∙ ap (λ z. y ∷ z) (same_at xs ys (omega (arith, e)) (λ n a b i j. f (suc n) a b i j))
same_at _ _ e f = absurd (omega (arith, e))

-- ---- leaves and domains

same_paths : (s : Source) → AreNamesSound s → (f g : Flat) → AreLeaves (hierarchy_of s) f → AreLeaves (hierarchy_of s) g
    → map (λ l. l.path) f.leaves ≡ map (λ l. l.path) g.leaves
same_paths s sound f g a b =
    let h = hierarchy_of s in let top = top_number h in
    let R : Path → Path → Type 0 = λ p q. IsPathBefore h top p q in
    same_order R (λ p q r t. paths_one_way h (names_once s sound) (length p) top p q (omega arith) r t)
    (map (λ (l : Leaf). l.path) f.leaves) (map (λ (l : Leaf). l.path) g.leaves)
    (order_map R (λ (l : Leaf). l.path) f.leaves a.order) (order_map R (λ (l : Leaf). l.path) g.leaves b.order)
    (λ p i. (b.paths p).1 ((a.paths p).0 i)) (λ p i. (a.paths p).1 ((b.paths p).0 i))

-- the leaf of one number in the other
beside : (f g : Flat) → map (λ l. l.path) f.leaves ≡ map (λ l. l.path) g.leaves → (n : ℕ) (l : Leaf)
    → slice_get f.leaves n ≡ Some l → (m : Leaf) × (slice_get g.leaves n ≡ Some m) × (m.path ≡ l.path)
beside f g e n l i = from_get_map (λ (l : Leaf). l.path) g.leaves n l.path (ap (λ ps. slice_get ps n) (sym e)
    ∙ get_map (λ (l : Leaf). l.path) f.leaves n l i)

same_hardware : (h : Hierarchy) (f g : Flat) (l m : Leaf) → IsLeafOf h f l → IsLeafOf h g m → l.path ≡ m.path
    → l.hardware ≡ m.hardware
same_hardware h f g l m a b e = search (rules)

inside_too : (h : Hierarchy) (f g : Flat) → AreLeaves h f → AreLeaves h g
    → map (λ l. l.path) f.leaves ≡ map (λ l. l.path) g.leaves → (d : Path) (n : ℕ) → IsInside h f d n → IsInside h g d n
inside_too h f g a b e d n k =
    let m = beside f g e n k.leaf k.there in
    let P : Path → Type 0 = λ z. IsDomainOf h z d in
    let same = same_hardware h f g k.leaf m.0 (a.each k.leaf (in_place k.leaf f.leaves n k.there))
    (b.each m.0 (in_place m.0 g.leaves n m.1)) (sym m.2) in
    record { leaf = m.0; there = m.1; software = sym same ∙ k.software; domain = subst P (sym m.2) k.domain }

same_domain : (x y : Domain) → x.path ≡ y.path → x.leaves ≡ y.leaves → x ≡ y
same_domain x y a b = search (rules)

-- a domain of the one is one of the other
domain_too : (h : Hierarchy) (f g : Flat) → AreLeaves h f → AreLeaves h g
    → map (λ l. l.path) f.leaves ≡ map (λ l. l.path) g.leaves → AreDomains h f → AreDomains h g
    → (x : Domain) → IsIn x f.domains → IsIn x g.domains
domain_too h f g a b e c d x i =
    let k = (c.paths x.path).0 (in_map (λ (z : Domain). z.path) x f.domains i) in
    let j = (d.paths x.path).1 (k.0, inside_too h f g a b e x.path k.0 k.1) in
    let y = from_map (λ (z : Domain). z.path) x.path g.domains j in
    let leaves : y.0.leaves ≡ x.leaves = same_order ◌<◌ (λ m n r t. omega (arith, r, t)) y.0.leaves x.leaves (d.rising y.0 y.1)
    (c.rising x i)
    (λ n r. (c.leaves x i n).1 (inside_too h g f b a (sym e) x.path n (let Q : Path → Type 0 = λ p. IsInside h g p n in
    subst Q y.2 ((d.leaves y.0 y.1 n).0 r)))) (λ n r. (d.leaves y.0 y.1 n).1 (let Q : Path → Type 0 = λ p. IsInside h g p n in
    subst Q (sym y.2) (inside_too h f g a b e x.path n ((c.leaves x i n).0 r)))) in
    subst (λ z. IsIn z g.domains) (same_domain y.0 x y.2 leaves) y.1

same_domains : (h : Hierarchy) (f g : Flat) → AreLeaves h f → AreLeaves h g
    → map (λ l. l.path) f.leaves ≡ map (λ l. l.path) g.leaves → AreDomains h f → AreDomains h g → f.domains ≡ g.domains
same_domains h f g a b e c d =
    same_order IsDomainBefore (λ x y r t. let p = r.before t.first t.stands in let q = t.before r.first r.stands in
    omega (arith, p, q)) f.domains g.domains c.order d.order (domain_too h f g a b e c d) (domain_too h g f b a (sym e) d c)

same_leaf : (l m : Leaf) → l.path ≡ m.path → l.component ≡ m.component → l.place ≡ m.place → l.hardware ≡ m.hardware
    → l.domain ≡ m.domain → l ≡ m
same_leaf l m a b c d e = search (rules)

leaf_is : (h : Hierarchy) (f g : Flat) → AreDomains h f → f.domains ≡ g.domains → (l m : Leaf) → IsLeafOf h f l → IsLeafOf h g m
    → l.path ≡ m.path → l ≡ m
leaf_is h f g c ds l m a b e =
    let v = b.stands in
    let w = subst (λ z. part_at h (top_number h) z ≡ Some a.part) e a.stands in
    let same : a.part ≡ b.part = cc in
    let x = a.component in
    let y = ap (λ (z : Part). (body h z.kind).item) same ∙ b.component in
    let component : l.component ≡ m.component = cc in
    let place = a.place ∙ ap (λ (z : Part). z.instance.component.place) same ∙ sym b.place in
    let hardware = same_hardware h f g l m a b e in
    same_leaf l m e component place hardware (by_kind (cases_Bool l.hardware) hardware)
  where
    by_kind : (l.hardware ≡ true) ⊎ (l.hardware ≡ false) → l.hardware ≡ m.hardware → l.domain ≡ m.domain
    by_kind (inl t) k = a.device t ∙ sym (b.device (sym k ∙ t))
    by_kind (inr t) k =
        let p = a.domain t in let q = b.domain (sym k ∙ t) in
        let same : p.1 ≡ q.1 = sym (domain_of_is h l.path p.1 p.3) ∙ ap (domain_of h) e ∙ domain_of_is h m.path q.1 q.3 in
        let here : slice_get (map (λ (z : Domain). z.path) f.domains) p.0 ≡ Some p.1 = search (rules, get_map) in
        let there : slice_get (map (λ (z : Domain). z.path) f.domains) q.0 ≡ Some p.1 = search (rules, get_map) in
        p.2 ∙ ap Some (once_place (map (λ (z : Domain). z.path) f.domains) p.0 q.0 p.1 c.once here there) ∙ sym q.2

same_leaves : (h : Hierarchy) (f g : Flat) → AreLeaves h f → AreLeaves h g
    → map (λ l. l.path) f.leaves ≡ map (λ l. l.path) g.leaves → AreDomains h f → f.domains ≡ g.domains → f.leaves ≡ g.leaves
same_leaves h f g a b e c ds = same_by (λ (l : Leaf). l.path) f.leaves g.leaves e
    (λ l m i j p. leaf_is h f g c ds l m (a.each l i) (b.each m j) p)

-- ---- ends

same_end : (e d : FlatEnd) → e.role ≡ d.role → e.leaf ≡ d.leaf → e.member ≡ d.member → e.place ≡ d.place → e ≡ d
same_end e d a b c p = search (rules)

-- two that are both the first interface of the name
same_member : (ms : List Member) (i : Name) (a b : ℕ) (x y : Interface) → slice_get ms a ≡ Some (members.Interface x)
    → x.id.name ≡ i → slice_get ms b ≡ Some (members.Interface y) → y.id.name ≡ i
    → ((k : ℕ) (m : Interface) → k < a → slice_get ms k ≡ Some (members.Interface m) → m.id.name ≡ i → ⊥)
    → ((k : ℕ) (m : Interface) → k < b → slice_get ms k ≡ Some (members.Interface m) → m.id.name ≡ i → ⊥) → a ≡ b
same_member ms i a b x y p n q m first second = search (rules, cases_lt)

end_is : (s : Source) → AreNamesSound s → (f g : Flat) → AreLeaves (hierarchy_of s) f → f.leaves ≡ g.leaves → (x : Strung)
    → IsIn x (connections (hierarchy_of s)) → (n : ℕ) (e d : FlatEnd)
    → IsEndOf (hierarchy_of s) f x.path x.wire n e → IsEndOf (hierarchy_of s) g x.path x.wire n d → e ≡ d
end_is s sound f g a ls x there n e d p q =
    let h = hierarchy_of s in
    let j = joins_joined s sound x n e.role p.leaf.path p.interface there p.joins in
    let k = joins_joined s sound x n d.role q.leaf.path q.interface there q.joins in let j1 = j.1 in
    let k1 = k.1 in
    let end : j.0 ≡ k.0 = cc in
    let role : e.role ≡ d.role = sym j.2 ∙ ap (λ (z : End). z.role) end ∙ k.2 in
    let j4 = j.4 in let k4 = ap (joined_by h x.inside) end ∙ k.4 in
    let reach : j.3 ≡ k.3 = cc in
    let path : p.leaf.path ≡ q.leaf.path = sym j.5 ∙ ap (λ (z : Reached). x.path ++ z.path) reach ∙ k.5 in
    let name : p.interface ≡ q.interface = sym j.6 ∙ ap (λ (z : Reached). z.interface) reach ∙ k.6 in
    let here = get_map (λ (l : Leaf). l.path) f.leaves e.leaf p.leaf p.there in
    let other = ap (λ zs. slice_get (map (λ (l : Leaf). l.path) zs) d.leaf) ls ∙ get_map (λ (l : Leaf). l.path) g.leaves d.leaf
    q.leaf q.there ∙ ap Some (sym path) in
    let leaf = once_place (map (λ (l : Leaf). l.path) f.leaves) e.leaf d.leaf p.leaf.path a.once here other in
    let p1 = p.stands in let q1 = ap (part_at h (top_number h)) path ∙ q.stands in
    let part : p.part ≡ q.part = cc in
    let p2 = p.of_leaf in
    let q2 = ap (λ (z : Part). (body h z.kind).component) part ∙ q.of_leaf in
    let component : p.component ≡ q.component = cc in
    let P : Component → Type 0 = λ c. slice_get c.members d.member ≡ Some (members.Interface q.member) in
    let Q : Component → Type 0 = λ c. (k : ℕ) (m : Interface) → k < d.member → slice_get c.members k ≡ Some (members.Interface m)
    → m.id.name ≡ q.interface → ⊥ in
    let member = same_member p.component.members p.interface e.member d.member p.member q.member p.placed p.named
    (subst P (sym component) q.placed) (q.named ∙ sym name) p.first
    (λ k m l i t. subst Q (sym component) q.first k m l i (t ∙ name)) in
    let p3 = p.numbered in let q3 = q.numbered in
    let own : p.end ≡ q.end = cc in
    same_end e d role leaf member (p.place ∙ ap (λ (z : End). z.place) own ∙ sym q.place)

-- ---- connections

same_connection : (c d : FlatConnection) → c.path ≡ d.path → c.connector ≡ d.connector → c.place ≡ d.place
    → c.ends ≡ d.ends → c ≡ d
same_connection c d a b p e = search (rules)

wire_is : (s : Source) → AreNamesSound s → (f g : Flat) → AreLeaves (hierarchy_of s) f → f.leaves ≡ g.leaves
    → (c d : FlatConnection) (q : Path) (w : Wire) → IsWireOf (hierarchy_of s) f c q w → IsWireOf (hierarchy_of s) g d q w → c ≡ d
wire_is s sound f g a ls c d q w i j =
    let x : Strung = record { path = q; inside = i.inside; wire = w } in
    let there = (connections_stand s sound x).1 (i.there, i.stands) in
    same_connection c d (i.path ∙ sym j.path) (i.connector ∙ sym j.connector) (i.place ∙ sym j.place)
    (same_at c.ends d.ends (i.as_many ∙ sym j.as_many) (λ n e k y z. end_is s sound f g a ls x there n e k (i.ends n e y)
    (j.ends n k z)))

connection_too : (s : Source) → AreNamesSound s → (f g : Flat) → AreLeaves (hierarchy_of s) f → f.leaves ≡ g.leaves
    → AreConnections (hierarchy_of s) f → AreConnections (hierarchy_of s) g
    → (c : FlatConnection) → IsIn c f.connections → IsIn c g.connections
connection_too s sound f g a ls p q c i =
    let x = p.each c i in let y = q.all x.0 x.2.inside x.1 x.2.there x.2.stands in
    subst (λ z. IsIn z g.connections) (sym (wire_is s sound f g a ls c y.0 x.0 x.1 x.2 y.2)) y.1

connections_one_way : (s : Source) → AreNamesSound s → (c d : FlatConnection) → IsConnectionBefore (hierarchy_of s) c d
    → IsConnectionBefore (hierarchy_of s) d c → ⊥
connections_one_way s sound c d r t =
    let h = hierarchy_of s in let top = top_number h in
    let e = snoc_same r.path t.other_path r.name t.other_name (sym r.first ∙ t.second) in
    let k = snoc_same r.other_path t.path r.other_name t.name (sym r.second ∙ t.first) in
    let P : Path → Type 0 = λ z. IsWireBefore h top z t.name t.other_path t.other_name in
    let Q : Name → Type 0 = λ z. IsWireBefore h top r.other_path z t.other_path t.other_name in
    let R : Path → Type 0 = λ z. IsWireBefore h top r.other_path r.other_name z t.other_name in
    let S : Name → Type 0 = λ z. IsWireBefore h top r.other_path r.other_name r.path z in
    wires_one_way h (names_once s sound) (wires_once s sound) (length r.path) top r.path r.name r.other_path r.other_name
    (omega arith) r.before (subst S (sym e.1) (subst R (sym e.0) (subst Q (sym k.1) (subst P (sym k.0) t.before))))

-- ---- all

pub one_flat : (s : Source) → AreNamesSound s → (f g : Flat) → IsByHierarchy (hierarchy_of s) f
    → IsByHierarchy (hierarchy_of s) g → f ≡ g
one_flat s sound f g a b =
    let h = hierarchy_of s in let paths = same_paths s sound f g a.leaves b.leaves in
    let ds = same_domains h f g a.leaves b.leaves paths a.domains b.domains in
    let ls = same_leaves h f g a.leaves b.leaves paths a.domains ds in
    let cs : f.connections ≡ g.connections = same_order (IsConnectionBefore h) (connections_one_way s sound) f.connections
    g.connections a.connections.order b.connections.order
    (connection_too s sound f g a.leaves ls a.connections b.connections) (connection_too s sound g f b.leaves (sym ls)
    b.connections a.connections) in
    let make : List Leaf → List Domain → List FlatConnection → Flat = λ x y z. record {
      leaves = x;
      domains = y;
      connections = z;
    } in
    ap (λ z. make z f.domains f.connections) ls ∙ ap (λ z. make g.leaves z f.connections) ds
    ∙ ap (λ z. make g.leaves g.domains z) cs
