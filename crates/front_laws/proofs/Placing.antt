-- Where placed objects lie.
use Rattle.front_laws.proofs.Common.{AllByRecursion, AreApart, AreBlocksPlaced, AreDevicesPlaced, Bool, List, Need, None, Option, Some, Untyped, [], ap, arith, cases_lt, false, inl, inr, refl, slice_get, subst, suc, true, zero, ℕ}
use Rattle.front_laws.proofs.Common.{rules, ◌+◌, ◌<◌, ◌^◌, ◌∙◌, ◌∷◌, ◌≡◌, ◌≤◌}
use Rattle.boot_plan.specs.Needs.{bits_of}
use Rattle.boot_plan.specs.Placed.{AllApart, AllSuit, Apart, Bytes, LieIn, LieInOne, Placed, Suits, all_bytes}
use Rattle.cam_base.specs.Gather.{IsIn}

abbrev bytes_of : Need → ℕ → Bytes
bytes_of n first = record { first = first; bits = bits_of n }

all_by : {X : Type 0} (P : X → Type 0) (xs : List X) (x : X) → AllByRecursion P xs → IsIn x xs → P x
all_by P [] x a i = absurd i
all_by {X} P (y ∷ xs) x a (inl e) = subst P e a.0
all_by P (y ∷ xs) x a (inr i) = all_by P xs x a.1 i

lies_in_one : (device : Bool) (b : Bytes) (rs : List Untyped) → LieInOne device b rs
    → (r : Untyped) × IsIn r rs × LieIn device b r
lies_in_one device b [] l = absurd l
lies_in_one device b (r ∷ rs) (inl l) = (r, inl refl, l)
lies_in_one device b (r ∷ rs) (inr l) = let k = lies_in_one device b rs l in (k.0, inr k.1, k.2)

suit_at : (rs : List Untyped) (ns : List Need) (places : List (Option ℕ)) (k : ℕ) (n : Need) → AllSuit rs ns places
    → slice_get ns k ≡ Some n → (p : Option ℕ) × (slice_get places k ≡ Some p) × Suits rs n p
suit_at rs [] places k n a e = cc
suit_at rs (m ∷ ns) [] k n a e = absurd a
suit_at rs (m ∷ ns) (p ∷ places) zero n a e = let same : m ≡ n = cc in let P : Need → Type 0 = λ z. Suits rs z p in
    (p, refl, subst P same a.0)
suit_at rs (m ∷ ns) (p ∷ places) (suc k) n a e = suit_at rs ns places k n a.1 e

bytes_in : (ns : List Need) (places : List (Option ℕ)) (k : ℕ) (n : Need) (first : ℕ) → slice_get ns k ≡ Some n
    → slice_get places k ≡ Some (Some first) → IsIn (bytes_of n first) (all_bytes ns places)
bytes_in (m ∷ ns) (Some p ∷ places) zero n first e f = let a : m ≡ n = cc in let b : p ≡ first = cc in
    inl (ap (λ z. bytes_of z p) a ∙ ap (bytes_of n) b)
bytes_in (m ∷ ns) (Some p ∷ places) (suc k) n first e f = inr (bytes_in ns places k n first e f)
bytes_in (m ∷ ns) (None ∷ places) (suc k) n first e f = bytes_in ns places k n first e f
bytes_in _ _ _ n first e f = cc

apart_at : (ns : List Need) (places : List (Option ℕ)) (i j : ℕ) (n m : Need) (a b : ℕ) → AllApart (all_bytes ns places) → i < j
    → slice_get ns i ≡ Some n → slice_get places i ≡ Some (Some a) → slice_get ns j ≡ Some m → slice_get places j ≡ Some (Some b)
    → Apart (bytes_of n a) (bytes_of m b)
apart_at (x ∷ ns) (p ∷ places) i zero n m a b all l e f g h = absurd (omega (arith, l))
apart_at (x ∷ ns) (Some p ∷ places) zero (suc j) n m a b all l e f g h = search (rules, all_by, bytes_in)
apart_at (x ∷ ns) (Some p ∷ places) (suc i) (suc j) n m a b all l e f g h =
    apart_at ns places i j n m a b all.1 (omega (arith, l)) e f g h
apart_at (x ∷ ns) (None ∷ places) (suc i) (suc j) n m a b all l e f g h =
    apart_at ns places i j n m a b all (omega (arith, l)) e f g h
apart_at _ _ _ _ n m a b all l e f g h = cc

-- bytes that are apart share no address
no_address : (n m : Need) (a b address : ℕ) → Apart (bytes_of n a) (bytes_of m b) → a ≤ address → address < a + 2 ^ bits_of n
    → b ≤ address → address < b + 2 ^ bits_of m → ⊥
no_address n m a b address (inl l) p q r s = omega (arith, l, q, r)
no_address n m a b address (inr l) p q r s = omega (arith, l, p, s)

pub apart : (rs : List Untyped) (ns : List Need) (places : List (Option ℕ)) → Placed ns rs places → AreApart ns places
apart rs ns places placed i j a b address x y p q = search (rules, cases_lt, no_address, apart_at)

pub devices_placed : (rs : List Untyped) (ns : List Need) (places : List (Option ℕ)) → Placed ns rs places
    → AreDevicesPlaced rs ns places
devices_placed rs ns places placed k paddr e = search (rules, suit_at, lies_in_one)

pub blocks_placed : (rs : List Untyped) (ns : List Need) (places : List (Option ℕ)) → Placed ns rs places
    → AreBlocksPlaced rs ns places
blocks_placed rs ns places placed k bits e = search (rules, suit_at, lies_in_one)
