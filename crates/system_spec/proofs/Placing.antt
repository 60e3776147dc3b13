-- Places as they are counted
use Rattle.std.proofs.Common.{rules}
use Rattle.system_spec.proofs.Common.{Bool, Connector, EndpointOf, FlatConnection, Interrupt, IrqOf, List, LockOf, Notification, NotificationOf, OwnLock, Owner, Rpc, SlotUse, Some, Tables, [], add-one, ap, arith, at_place, before, cond, endpoint}
use Rattle.system_spec.proofs.Common.{endpoint_by, false, first_of, gather, gather_more, gather_same, gather_turn, get_ones, get_or, get_or_from_slice_get, has_endpoint, has_irq, has_notification, holds_lock, irq, irq_by, irq_owner, joint, joint_by}
use Rattle.system_spec.proofs.Common.{length, length_append, lock, mark, notification, notification_by, one, option_map_or, place, places_from, refl, slice_get, slice_get-get_or, slice_get_read, slice_index, stands, subst, suc, sym, take, taken_le}
use Rattle.system_spec.proofs.Common.{true, uses_at, ℕ, ◌++◌, ◌+◌, ◌<◌, ◌∙◌, ◌∷◌, ◌≡◌, ◌≤◌}
use Rattle.system_spec.specs.declared.places.Standing.{Standing}
use Rattle.system_spec.specs.declared.places.Standing.TheVariants as standings

pub grown_length : {X Y : Type 0} (F : ℕ → X → List Y) (xs : List X) (i : ℕ) (x : X) → i < length xs → x ≡ get_or xs i x
    → length (gather F (take (i + 1) xs)) ≡ length (gather F (take i xs)) + length (F i x)
grown_length {X} {Y} F xs i x l is =
    let at : slice_get xs i ≡ Some x = slice_get_read xs (length xs) i x refl l is in
    ap (λ (z : List Y). length z) (ap (λ k. gather F (take k xs)) (add-one i) ∙ gather_more F xs i x at)
    ∙ length_append (gather F (take i xs)) (F i x)

-- lists of one length at each element have one length
pub as_long : {X Y Z : Type 0} (F : ℕ → X → List Y) (G : ℕ → X → List Z) (xs : List X)
    → ((k : ℕ) (x : X) → length (F k x) ≡ length (G k x)) → length (gather F xs) ≡ length (gather G xs)
as_long F G [] h = refl
as_long F G (x ∷ xs) h =
    let F' : ℕ → _ → List _ = λ k y. F (suc k) y in
    let G' : ℕ → _ → List _ = λ k y. G (suc k) y in
    omega (
      arith,
      h 0 x,
      as_long F' G' xs (λ k y. h (suc k) y),
      length_append (F 0 x) (gather F' xs),
      length_append (G 0 x)
          (gather G' xs),
    )

length-mark : (standing : Standing) (k : ℕ) (c : FlatConnection) → length (mark standing k c) ≡ one (stands standing c.connector)
length-mark standing k c = search (rules)

length-endpoint : (k : ℕ) (c : Connector) → length (endpoint_by k c) ≡ one (has_endpoint c)
length-endpoint k Rpc = refl
length-endpoint k _ = refl

length-notification : (k : ℕ) (c : Connector) → length (notification_by k c) ≡ one (has_notification c)
length-notification k Notification = refl
length-notification k Interrupt = refl
length-notification k _ = refl

length-irq : (k : ℕ) (o : Owner) (c : Connector) → length (irq_by k o c) ≡ one (has_irq c)
length-irq k o Interrupt = refl
length-irq k o _ = refl

pub endpoints_marked : (cs : List FlatConnection) → length (gather (mark standings.Endpoint) cs) ≡ length (gather endpoint cs)
endpoints_marked cs = as_long (mark standings.Endpoint) endpoint cs (λ k c. length-mark standings.Endpoint k c
    ∙ sym (length-endpoint k c.connector))

pub notifications_marked : (cs : List FlatConnection) → length (gather (mark standings.Notification) cs) ≡ length
    (gather notification cs)
notifications_marked cs = as_long (mark standings.Notification) notification cs (λ k c. length-mark standings.Notification k c
    ∙ sym (length-notification k c.connector))

pub irqs_marked : (cs : List FlatConnection) → length (gather (mark standings.Interrupt) cs) ≡ length (gather irq cs)
irqs_marked cs = as_long (mark standings.Interrupt) irq cs (λ k c. length-mark standings.Interrupt k c
    ∙ sym (length-irq k (irq_owner k c) c.connector))

-- ---- tables of places

placed : (standing : Standing) (F : ℕ → ℕ) (first : ℕ) (cs : List FlatConnection) (places : List ℕ)
    → ((k : ℕ) → first + before (mark standing) cs k ≡ F k) → places ≡ places_from standing first cs
    → places ≡ gather (λ k c. F k ∷ []) cs
placed standing F first cs places h e = e ∙ gather_same (λ k (c : FlatConnection). (first + before (mark standing) cs k) ∷ [])
    (λ k c. F k ∷ []) cs (λ k c at. ap (λ n. n ∷ []) (h k))

pub endpoints_placed : (t : Tables) (first : ℕ) (places : List ℕ) → first ≡ first_of t 2
    → places ≡ places_from standings.Endpoint first t.flat.connections
    → places ≡ gather (λ k c. place t (EndpointOf k) ∷ []) t.flat.connections
endpoints_placed t first places f e = placed standings.Endpoint (λ k. place t (EndpointOf k)) first t.flat.connections places
    (λ k. omega (arith, f, endpoints_marked (take k t.flat.connections))) e

pub notifications_placed : (t : Tables) (first : ℕ) (places : List ℕ) → first ≡ first_of t 3
    → places ≡ places_from standings.Notification first t.flat.connections
    → places ≡ gather (λ k c. place t (NotificationOf k) ∷ []) t.flat.connections
notifications_placed t first places f e = placed standings.Notification (λ k. place t (NotificationOf k)) first t.flat.connections
    places (λ k. omega (arith, f, notifications_marked (take k t.flat.connections))) e

pub irqs_placed : (t : Tables) (first : ℕ) (places : List ℕ) → first ≡ first_of t 5
    → places ≡ places_from standings.Interrupt first t.flat.connections
    → places ≡ gather (λ k c. place t (IrqOf k) ∷ []) t.flat.connections
irqs_placed t first places f e = placed standings.Interrupt (λ k. place t (IrqOf k)) first t.flat.connections places
    (λ k. omega (arith, f, irqs_marked (take k t.flat.connections))) e

-- ---- turns of loops

pub places_turn : (standing : Standing) (first : ℕ) (cs : List FlatConnection) (i next : ℕ) (c : FlatConnection)
    (old new : List ℕ) → i < length cs → c ≡ get_or cs i c
    → next ≡ first + length (gather (mark standing) (take i cs))
    → old ≡ gather (λ k c. (first + before (mark standing) cs k) ∷ []) (take i cs) → new ≡ old ++ next ∷ []
    → new ≡ gather (λ k c. (first + before (mark standing) cs k) ∷ []) (take (i + 1) cs)
places_turn standing first cs i next c old new l is n o e =
    gather_turn (λ k (c : FlatConnection). (first + before (mark standing) cs k) ∷ []) cs cs i c [] old new refl l is o
    (e ∙ ap (λ z. old ++ z ∷ []) n)

pub mark_turn : (standing : Standing) (first : ℕ) (cs : List FlatConnection) (i next more : ℕ) (c : FlatConnection)
    → i < length cs → c ≡ get_or cs i c → more ≡ one (stands standing c.connector)
    → next ≡ first + length (gather (mark standing) (take i cs))
    → next + more ≡ first + length (gather (mark standing) (take (i + 1) cs))
mark_turn standing first cs i next more c l is m n =
    omega (arith, m, n, grown_length (mark standing) cs i c l is, length-mark standing i c)

-- ---- reading

-- the place of a connection in a table of places
pub place_found : {X : Type 0} (F : ℕ → ℕ) (cs : List X) (places : List ℕ) (k : ℕ) → places ≡ gather (λ k c. F k ∷ []) cs
    → k < length cs → slice_index places k ≡ F k
place_found {X} F cs places k e l =
    let x : (c : X) × (slice_get cs k ≡ Some c) = at_place cs k l in
    get_or_from_slice_get places k (F k) 0 (ap (λ z. slice_get z k) e ∙ get_ones (λ k (c : X). F k) cs k x.0 x.1)

pub joint_read : (t : Tables) (read : List FlatConnection) (k : ℕ) (d : FlatConnection) → read ≡ t.flat.connections
    → k < length t.flat.connections → joint t k ≡ joint_by k (get_or read k d).connector
joint_read t read k d same l = search (rules, slice_get-get_or)

pub not_called : (k : ℕ) (c : Connector) → (c ≡ Rpc → ⊥) → joint_by k c ≡ NotificationOf k
not_called k Rpc h = absurd (h refl)
not_called k _ h = refl

-- ---- locks

pub length-lock : (d n : ℕ) (u : SlotUse) → length (lock d n u) ≡ one (holds_lock u)
length-lock d n (OwnLock leaf m) = refl
length-lock d n _ = refl

pub lock_turn : (t : Tables) (d : ℕ) (uses : List SlotUse) (n at more : ℕ) (u : SlotUse) → uses ≡ uses_at t d → n < length uses
    → u ≡ get_or uses n u → more ≡ one (holds_lock u)
    → at ≡ place t (LockOf d n) → at + more ≡ place t (LockOf d (n + 1))
lock_turn t d uses n at more u same l is m p =
    let here = ap (λ z. length (gather (lock d) (take n z))) same in
    let next = ap (λ z. length (gather (lock d) (take (n + 1) z))) same in
    omega (arith, m, p, here, next, grown_length (lock d) uses n u l is, length-lock d n u)

-- no lock of a domain stands behind as many as there are
pub lock_within : (t : Tables) (d : ℕ) (uses : List SlotUse) (n first at : ℕ) → uses ≡ uses_at t d → first ≡ place t (LockOf d 0)
    → at ≡ place t (LockOf d n) → at ≤ first + length (gather (lock d) uses)
lock_within t d uses n first at same f p = search (rules, taken_le)
