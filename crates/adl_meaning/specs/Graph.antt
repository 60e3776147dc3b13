-- Components by number: g lists for each one the types of its instances.
use Rattle.std.specs.Prelude.{◌≡◌, ◌<◌, ◌==◌, ℕ, zero, suc, Bool, true, ◌||◌, ◌&&◌, List, [], length, take, slice_index_or, slice_index}
use Rattle.adl_meaning.specs.Below.{list_any}

-- whether the list has the number
abbrev pub has : List ℕ → ℕ → Bool
has xs x = list_any (λ y. x == y) xs

-- the types of the instances of component a
abbrev pub inner_of : List (List ℕ) → ℕ → List ℕ
inner_of g a = slice_index_or g a []

-- every type is one of the components
abbrev pub InRange : List (List ℕ) → Type 0
InRange g = (a c : ℕ) → a < length g → has (inner_of g a) c ≡ true → c < length g

-- n steps lead from a to b, each from a component to the type of one of its instances
abbrev pub Walk : List (List ℕ) → ℕ → ℕ → ℕ → Type 0
Walk g a b zero = a ≡ b
Walk g a b (suc n) = (c : ℕ) × (has (inner_of g a) c ≡ true) × Walk g c b n

-- a is b, or a holds b, directly or through others
abbrev pub Holds : List (List ℕ) → ℕ → ℕ → Type 0
Holds g a b = (n : ℕ) × Walk g a b n

-- no component holds itself: no instance in a has a type that is a or holds a
abbrev pub IsAcyclic : List (List ℕ) → Type 0
IsAcyclic g = (a c n : ℕ) → a < length g → has (inner_of g a) c ≡ true → Walk g c a n → ⊥

-- each component, and each after the types of its instances
pub record IsInnerFirst (g : List (List ℕ)) (order : List ℕ) : Type 0 where
  pub below : (a : ℕ) → has order a ≡ true → a < length g
  pub whole : (a : ℕ) → a < length g → has order a ≡ true
  pub inner : (i c : ℕ) → i < length order → has (inner_of g (slice_index order i)) c ≡ true → has (take i order) c ≡ true

-- a is b, or holds b directly, or through components with numbers below k
abbrev pub through : List (List ℕ) → ℕ → ℕ → ℕ → Bool
through g zero a b = a == b || has (inner_of g a) b
through g (suc k) a b = through g k a b || (through g k a k && through g k k b)

-- the test of Holds
abbrev pub is_held : List (List ℕ) → ℕ → ℕ → Bool
is_held g a b = through g (length g) a b
