-- Instances at paths.
use Rattle.adl_hierarchy.proofs.Common.{Bool, Composition, Hierarchy, IsFinite, IsIn, List, Name, None, Option, Part, Path, Some, Source, [], ap, at, body, bytes_eq, bytes_eq-Decides, false, found, graph, hierarchy_of, is_composite, is_some}
use Rattle.adl_hierarchy.proofs.Common.{kind_named, length, name_of, option_and_then, option_and_then_some, part_at, part_named, parts_in, refl, subst, sym, true, ℕ, ◌++◌, ◌∙◌, ◌∷◌, ◌≡◌, ◌≤◌}
use Rattle.adl_meaning.specs.Prelude.{Walk}
use Rattle.adl_hierarchy.proofs.Bodies.{parts_of}
use Rattle.adl_hierarchy.proofs.Steps.{listed, kind_in, shallow}

-- an instance found by name is one of the name
pub named_in : (xs : List Part) (n : Name) (x : Part) → part_named xs n ≡ Some x → IsIn x xs × (name_of x ≡ n)
named_in xs n x e = let k = found (λ (x : Part). bytes_eq n x.instance.id.name) xs x e in
    (k.0, sym ((bytes_eq-Decides n (name_of x)).0 k.1))

-- ---- one name further

pub part_behind : (h : Hierarchy) (k : ℕ) (n : Name) (p : Path) (y x : Part) → part_named (body h k).parts n ≡ Some y
    → part_at h y.kind p ≡ Some x → part_at h k (n ∷ p) ≡ Some x
part_behind h k n [] y x e f = cc
part_behind h k n (m ∷ p) y x e f = ap (λ o. option_and_then (λ (z : Part). part_at h z.kind (m ∷ p)) o) e ∙ f

pub at_behind : (h : Hierarchy) (k : ℕ) (n : Name) (p : Path) (y : Part) (m : ℕ) → part_named (body h k).parts n ≡ Some y
    → at h y.kind p ≡ Some m → at h k (n ∷ p) ≡ Some m
at_behind h k n p y m e f = ap (λ o. option_and_then (λ (z : Part). at h z.kind p) o) e ∙ f

-- the first instance on the way
pub first_on : (h : Hierarchy) (k : ℕ) (n : Name) (p : Path) (m : ℕ) → at h k (n ∷ p) ≡ Some m
    → (y : Part) × (part_named (body h k).parts n ≡ Some y) × (at h y.kind p ≡ Some m)
first_on h k n p m e = option_and_then_some (λ (z : Part). at h z.kind p) (part_named (body h k).parts n) m e (λ y a b. (y, a, b))

-- ---- instances and bodies at one path

pub at_part : (h : Hierarchy) (k : ℕ) (p : Path) (x : Part) → part_at h k p ≡ Some x → at h k p ≡ Some x.kind
at_part h k [] x e = cc
at_part h k (n ∷ []) x e = at_behind h k n [] x x.kind e refl
at_part h k (n ∷ m ∷ p) x e =
    option_and_then_some (λ (z : Part). part_at h z.kind (m ∷ p)) (part_named (body h k).parts n) x e
    (λ y a b. at_behind h k n (m ∷ p) y x.kind a (at_part h y.kind (m ∷ p) x b))

pub part_from_at : (h : Hierarchy) (k : ℕ) (n : Name) (p : Path) (m : ℕ) → at h k (n ∷ p) ≡ Some m
    → (x : Part) × (part_at h k (n ∷ p) ≡ Some x) × (x.kind ≡ m)
part_from_at h k n [] m e = let y = first_on h k n [] m e in (y.0, y.1, let f = y.2 in cc)
part_from_at h k n (c ∷ p) m e =
    let y = first_on h k n (c ∷ p) m e in
    let x = part_from_at h y.0.kind c p m y.2 in
    (x.0, part_behind h k n (c ∷ p) y.0 x.0 y.1 x.1, x.2)

-- ---- paths one after the other

pub at_append : (h : Hierarchy) (k m : ℕ) (q p : Path) → at h k q ≡ Some m → at h k (q ++ p) ≡ at h m p
at_append h k m [] p e = let s : k ≡ m = cc in ap (λ z. at h z p) s
at_append h k m (n ∷ q) p e =
    let y = first_on h k n q m e in
    ap (λ o. option_and_then (λ (z : Part). at h z.kind (q ++ p)) o) y.1 ∙ at_append h y.0.kind m q p y.2

pub part_append : (h : Hierarchy) (k m : ℕ) (q p : Path) (x : Part) → at h k q ≡ Some m → part_at h m p ≡ Some x
    → part_at h k (q ++ p) ≡ Some x
part_append h k m [] p x e f = let s : k ≡ m = cc in ap (λ z. part_at h z p) s ∙ f
part_append h k m (n ∷ q) p x e f =
    let y = first_on h k n q m e in
    part_behind h k n (q ++ p) y.0 x y.1 (part_append h y.0.kind m q p x y.2 f)

-- a path to an instance ends with its name
pub last_of : (h : Hierarchy) (k : ℕ) (p : Path) (x : Part) → part_at h k p ≡ Some x → (q : Path) × (p ≡ q ++ name_of x ∷ [])
last_of h k [] x e = cc
last_of h k (n ∷ []) x e = ([], ap (λ z. z ∷ []) (sym (named_in (body h k).parts n x e).1))
last_of h k (n ∷ m ∷ p) x e =
    option_and_then_some (λ (z : Part). part_at h z.kind (m ∷ p)) (part_named (body h k).parts n) x e (λ y a b.
    let r = last_of h y.kind (m ∷ p) x b in (n ∷ r.0, ap (λ z. n ∷ z) r.1))

-- ---- lengths

pub body_in : (h : Hierarchy) → IsFinite h → (k m : ℕ) (p : Path) → k ≤ length h.bodies → at h k p ≡ Some m → m ≤ length h.bodies
body_in h f k m [] l e = let s : k ≡ m = cc in let P : ℕ → Type 0 = λ z. z ≤ length h.bodies in subst P s l
body_in h f k m (n ∷ p) l e = let y = first_on h k n p m e in
    body_in h f y.0.kind m p (kind_in h f k y.0 l (named_in (body h k).parts n y.0 y.1).0) y.2

walk_to : (h : Hierarchy) → IsFinite h → (k m : ℕ) (p : Path) → k ≤ length h.bodies → at h k p ≡ Some m
    → Walk (graph h) k m (length p)
walk_to h f k m [] l e = cc
walk_to h f k m (n ∷ p) l e =
    let y = first_on h k n p m e in
    let i = (named_in (body h k).parts n y.0 y.1).0 in
    (y.0.kind, listed h k y.0 l i, walk_to h f y.0.kind m p (kind_in h f k y.0 l i) y.2)

-- a path has no more names than there are components
pub path_short : (h : Hierarchy) → IsFinite h → (k m : ℕ) (p : Path) → k ≤ length h.bodies → at h k p ≡ Some m
    → length p ≤ length h.bodies
path_short h f k m p l e = shallow h f k l (length p) m (walk_to h f k m p l e)

-- ---- bodies without a composition

-- a body without a composition has no instances
abbrev pub AreComposed : Hierarchy → Type 0
AreComposed h = (k : ℕ) → is_composite h k ≡ false → (body h k).parts ≡ []

pub are_composed : (s : Source) → AreComposed (hierarchy_of s)
are_composed s k e = parts_of s k ∙ by_case (body (hierarchy_of s) k).composition e
  where
    by_case : (o : Option Composition) → is_some o ≡ false → parts_in (kind_named s) o ≡ []
    by_case None e = refl
    by_case (Some k) e = cc

-- so one in which an instance is found is a composite
pub is_outer : (h : Hierarchy) → AreComposed h → (k : ℕ) (n : Name) (x : Part) → part_named (body h k).parts n ≡ Some x
    → is_composite h k ≡ true
is_outer h a k n x e = by_case (is_composite h k) (a k)
  where
    by_case : (b : Bool) → (b ≡ false → (body h k).parts ≡ []) → b ≡ true
    by_case true h = refl
    by_case false none = let t : part_named [] n ≡ Some x = ap (λ xs. part_named xs n) (sym (none refl)) ∙ e in cc
