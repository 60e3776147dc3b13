-- Where the frames of connections' memory stand.
use Rattle.vspace_layout.proofs.Common.{AreFirsts, Bool, Flat, FlatConnection, FlatEnd, List, None, Option, Settled, Some, [], ap, arith, at_place, before, cond, false, first_number, first_numbers, first_of, first_to, firsts_from, frames_at}
use Rattle.vspace_layout.proofs.Common.{frames_by, frames_where, from_get_map, gather, gather_ones, gather_same, gather_turn, get_map, get_or, get_or_default, get_or_from_slice_get, is_that, key_of, leads_to, length, length-map, length_append}
use Rattle.vspace_layout.proofs.Common.{memory_before, memory_first, memory_firsts, memory_part, option_and_then, option_map_or, places_of, position, position-Some, position_from, position_from-zero, refl, register_frames, register_part, registers}
use Rattle.vspace_layout.proofs.Common.{registers_before, rules, same_Some, same_key, shared_frames, shared_part, slice_get, suc, sym, take, true, zero, ℕ, ◌++◌, ◌+◌, ◌<◌, ◌^◌, ◌∙◌, ◌∷◌, ◌≡◌, ◌≤◌}
use Rattle.vspace_layout.proofs.FirstPorts.{same_key-refl}
use Rattle.vspace_layout.proofs.Joining.{gather_mapped}
use Rattle.vspace_layout.proofs.Laying.{ones_or}

-- the turn of a loop over a slice of copies
pub copy_turn : {X Y : Type 0} (f : ℕ → X → List Y) (xs : List X) (i : ℕ) (d : X) (old mid new : List Y) → i < length xs
    → mid ≡ old ++ gather f (take i xs) → new ≡ mid ++ f i (get_or xs i d)
    → new ≡ old ++ gather f (take (i + 1) xs)
copy_turn f xs i d old mid new l e g = gather_turn f xs xs i (get_or xs i d) old mid new refl l
    (get_or_default xs i d (get_or xs i d) l) e g

pub before_upto : {X Y : Type 0} (f : ℕ → X → List Y) (xs : List X) (k : ℕ) → before f xs k ≤ length (gather f xs)
before_upto f [] zero = omega arith
before_upto f [] (suc k) = omega arith
before_upto f (x ∷ xs) zero = omega arith
before_upto f (x ∷ xs) (suc k) =
    let ih = before_upto (λ n y. f (suc n) y) xs k in
    let a = length_append (f 0 x) (gather (λ n y. f (suc n) y) (take k xs)) in
    let b = length_append (f 0 x) (gather (λ n y. f (suc n) y) xs) in
    omega (arith, ih, a, b)

-- what a loop that reads how many there are puts into its list
pub places_more : {X Y : Type 0} (f : ℕ → X → List Y) (xs : List X) (i : ℕ) (old mid : List Y) → mid ≡ old ++ gather f (take i xs)
    → length mid ≡ length old + before f xs i
places_more f xs i old mid e = ap (λ (z : List _). length z) e ∙ length_append old (gather f (take i xs))

place_there : {X Y : Type 0} (start : ℕ) (f : ℕ → X → List Y) (xs : List X) (k : ℕ) (x : X) → slice_get xs k ≡ Some x
    → get_or (places_of start f xs) k 0 ≡ start + before f xs k
place_there {X} start f xs k x e = ones_or (λ n (y : X). start + before f xs n) xs k
    ∙ ap (λ o. option_map_or (λ (y : X). start + before f xs k) o 0) e

-- ---- the first connection

found_from : {X : Type 0} (is : X → Bool) (a : ℕ) (xs : List X) (k : ℕ) (x : X) → slice_get xs k ≡ Some x → is x ≡ true
    → (n : ℕ) × (position_from is a xs ≡ Some n)
found_from is a [] k x e t = cc
found_from {X} is a (y ∷ xs) zero x e t =
    (a, ap (λ b. cond b (Some a) (position_from is (a + 1) xs)) (ap is (same_Some y x e) ∙ t))
found_from is a (y ∷ xs) (suc k) x e t = by_test (is y) (found_from is (a + 1) xs k x e t)
  where
    by_test : (b : Bool) → (n : ℕ) × (position_from is (a + 1) xs ≡ Some n)
        → (n : ℕ) × (cond b (Some a) (position_from is (a + 1) xs) ≡ Some n)
    by_test true r = (a, refl)
    by_test false r = r

pub position_found : {X : Type 0} (is : X → Bool) (xs : List X) (k : ℕ) (x : X) → slice_get xs k ≡ Some x → is x ≡ true
    → (n : ℕ) × (position is xs ≡ Some n)
position_found is xs k x e t =
    let f : (n : ℕ) × (position_from is 0 xs ≡ Some n) = found_from is 0 xs k x e t in
    (f.0, position_from-zero is xs ∙ f.1)

-- a connection to registers has a first one
has_first : (cs : List FlatConnection) (k : ℕ) (c : FlatConnection) (x : FlatEnd) → slice_get cs k ≡ Some c → registers c ≡ Some x
    → (n : ℕ) × (position (leads_to x) cs ≡ Some n)
has_first cs k c x e r =
    let led : leads_to x c ≡ true = ap (λ o. option_map_or (λ y. same_key (key_of y) (key_of x)) o false) r
    ∙ same_key-refl (key_of x) in
    position_found (leads_to x) cs k c e led

within : (cs : List FlatConnection) (x : FlatEnd) (d : FlatConnection) (n : ℕ) → position (leads_to x) cs ≡ Some n → n < length cs
within cs x d n e = (position-Some (leads_to x) cs n d e).0

-- the frames of registers by the first connection to them
pub frames_by_first : (flat : Flat) (settled : Settled) (k : ℕ) (c : FlatConnection)
    → frames_by settled (first_number flat.connections c) k c ≡ register_frames flat settled k c
frames_by_first flat settled k c = by_end (registers c)
  where
    by_end : (o : Option FlatEnd)
        → option_map_or (frames_where settled (is_that (option_and_then (λ e. position (leads_to e) flat.connections) o) k) k c) o
        [] ≡ option_map_or (frames_at flat settled k c) o []
    by_end None = refl
    by_end (Some e) = refl

-- the first connection as it is read from the list of all
pub first_read : (cs : List FlatConnection) (firsts : List (Option ℕ)) (i : ℕ) (c : FlatConnection) → firsts ≡ first_numbers cs
    → slice_get cs i ≡ Some c → get_or firsts i None ≡ first_number cs c
first_read cs firsts i c e at = ap (λ z. get_or z i None) e ∙ get_or_from_slice_get (first_numbers cs) i (first_number cs c) None
    (get_map (first_number cs) cs i c at)

-- ---- numbers

abbrev pub shared_places : Flat → Settled → List ℕ
shared_places flat settled = places_of 0 (shared_frames settled) flat.connections

abbrev pub register_places : Flat → Settled → List ℕ
register_places flat settled = places_of (length (shared_part flat settled)) (register_frames flat settled) flat.connections

first_told : (flat : Flat) (settled : Settled) (k : ℕ) (c : FlatConnection) → slice_get flat.connections k ≡ Some c
    → first_of (shared_places flat settled) (register_places flat settled) (first_number flat.connections c) k ≡ memory_before
    flat settled k c
first_told flat settled k c at = by_end (registers c) refl
  where
    cs : List FlatConnection
    cs = flat.connections

    by_first : (x : FlatEnd) (o : Option ℕ) (n : ℕ) (d : FlatConnection) → o ≡ Some n → slice_get cs n ≡ Some d
        → first_of (shared_places flat settled) (register_places flat settled) o k ≡ length
        (shared_part flat settled) + option_map_or (before (register_frames flat settled) cs) o 0
    by_first x o n d e there =
        ap (λ p. first_of (shared_places flat settled) (register_places flat settled) p k) e
        ∙ place_there (length (shared_part flat settled)) (register_frames flat settled) cs n d there
        ∙ sym (ap (λ p. length (shared_part flat settled) + option_map_or (before (register_frames flat settled) cs) p 0) e)

    by_end : (o : Option FlatEnd) → registers c ≡ o → first_of (shared_places flat settled) (register_places flat settled)
        (option_and_then (λ e. position (leads_to e) cs) o) k
        ≡ option_map_or (registers_before flat settled) o (before (shared_frames settled) cs k)
    by_end None e = let here = place_there 0 (shared_frames settled) cs k c at in omega (arith, here)
    by_end (Some x) e =
        let first : (n : ℕ) × (position (leads_to x) cs ≡ Some n) = has_first cs k c x at e in
        let there : (d : FlatConnection) × (slice_get cs first.0 ≡ Some d) =
        at_place cs first.0 (within cs x c first.0 first.1) in
        by_first x (position (leads_to x) cs) first.0 there.0 first.1 there.1

pub memory_upto : (flat : Flat) (settled : Settled) (k : ℕ) (c : FlatConnection)
    → memory_before flat settled k c ≤ length (memory_part flat settled)
memory_upto flat settled k c = by_end (registers c)
  where
    cs : List FlatConnection
    cs = flat.connections

    by_first : (o : Option ℕ) → length (shared_part flat settled) + option_map_or (before (register_frames flat settled) cs) o
        0 ≤ length (memory_part flat settled)
    by_first None = let a = length_append (shared_part flat settled) (register_part flat settled) in omega (arith, a)
    by_first (Some n) = let a = length_append (shared_part flat settled) (register_part flat settled) in
        let b = before_upto (register_frames flat settled) cs n in omega (arith, a, b)

    by_end : (o : Option FlatEnd) → option_map_or (registers_before flat settled) o (before (shared_frames settled) cs k) ≤ length
        (memory_part flat settled)
    by_end None = let a = length_append (shared_part flat settled) (register_part flat settled) in
        let b = before_upto (shared_frames settled) cs k in omega (arith, a, b)
    by_end (Some x) = by_first (first_to flat x)

pub firsts_are : (own : ℕ) (flat : Flat) (settled : Settled)
    → firsts_from own (shared_places flat settled) (register_places flat settled) (first_numbers flat.connections) ≡ memory_firsts
    own flat settled
firsts_are own flat settled =
    gather_mapped (λ k first. (own + first_of (shared_places flat settled) (register_places flat settled) first k) ∷ [])
    (first_number flat.connections) flat.connections
    ∙ gather_same (λ k (c : FlatConnection). (own + first_of (shared_places flat settled) (register_places flat settled)
    (first_number flat.connections c) k) ∷ []) (λ k (c : FlatConnection). memory_first own flat settled k c ∷ [])
    flat.connections
    (λ k c e. ap (λ n. (own + n) ∷ []) (first_told flat settled k c e))

first_within : (cs : List FlatConnection) (c : FlatConnection) (n : ℕ) → first_number cs c ≡ Some n → n < length cs
first_within cs c n e = by_end (registers c) e
  where
    by_end : (o : Option FlatEnd) → option_and_then (λ x. position (leads_to x) cs) o ≡ Some n → n < length cs
    by_end None e = cc
    by_end (Some x) e = within cs x c n e

pub are_firsts : (own : ℕ) (flat : Flat) (settled : Settled) → own + length (memory_part flat settled) < 2 ^ 64
    → AreFirsts own (shared_places flat settled) (register_places flat settled) (first_numbers flat.connections)
are_firsts own flat settled small = record {
  each = gather_ones (λ n (y : FlatConnection). 0 + before (shared_frames settled) cs n) cs
      ∙ sym (length-map cs (first_number cs));
  listed = λ k n e.
      let c : (c : FlatConnection) × (slice_get cs k ≡ Some c) × (first_number cs c ≡ Some n) =
      from_get_map (first_number cs) cs k (Some n) e in
      let l : n < length cs = first_within cs c.0 n c.2 in
      let s =
      gather_ones (λ m (y : FlatConnection). length (shared_part flat settled) + before (register_frames flat settled) cs m)
      cs in
      omega (arith, l, s);
  few = λ k first e.
      let c : (c : FlatConnection) × (slice_get cs k ≡ Some c) × (first_number cs c ≡ first) =
      from_get_map (first_number cs) cs k first e in
      let same = ap (λ o. first_of (shared_places flat settled) (register_places flat settled) o k) c.2 in
      let is = first_told flat settled k c.0 c.1 in
      let most = memory_upto flat settled k c.0 in
      omega (arith, small, same, is, most);
}
  where
    cs : List FlatConnection
    cs = flat.connections
