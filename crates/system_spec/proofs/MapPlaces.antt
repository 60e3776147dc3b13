-- Places of the threads and the locks that lines of the map name
use Rattle.std.proofs.Common.{rules}
use Rattle.system_spec.proofs.Common.{AreFew, List, LockOf, OfDomain, Part, SlotUse, Tables, ThreadOf, ThreadPlace, ap, arith, before, domain_locks, domain_tcbs, domain_threads, first_of, gather, gather_ones, length, lock, locks, owned}
use Rattle.system_spec.proofs.Common.{place, refl, subst, sym, take, take_all, taken_le, tcbs, thread_lines_from, threads_at, together, uses_at, ℕ, ◌+◌, ◌<◌, ◌^◌, ◌∙◌, ◌≡◌, ◌≤◌}
use Rattle.system_spec.specs.declared.series.Series.TheVariants as series
use Rattle.system_spec.proofs.Domains.{grown, taken_none}
use Rattle.system_spec.proofs.Bounds.{ends, length-numbered, section_few}
use Rattle.system_spec.specs.Parts.{but_frames}

-- ---- threads

thread_end : (t : Tables) → AreFew t → first_of t 1 + length (tcbs t) < 2 ^ 32
thread_end t few = omega (arith, section_few t few 1 _ refl, length-numbered series.Tcb (tcbs t))

-- the first thread of the next domain stands behind those of this one
pub threads_turn : (t : Tables) (first d next : ℕ) (threads : List ThreadPlace) → threads ≡ threads_at t d
    → d < length t.flat.domains → next ≡ first + before (domain_tcbs t) t.flat.domains d
    → next + length threads ≡ first + before (domain_tcbs t) t.flat.domains (d + 1)
threads_turn t first d next threads same l e =
    let long = gather_ones (λ i (y : ThreadPlace). owned (OfDomain d) (ThreadOf d i)) (threads_at t d) in
    let more = grown (domain_tcbs t) t.flat.domains d (length (threads_at t d)) l (λ x. long) in
    omega (arith, e, ap (λ (z : List ThreadPlace). length z) same, more)

pub threads_within : (t : Tables) → AreFew t → (first d next : ℕ) → first ≡ first_of t 1
    → next ≡ first + before (domain_tcbs t) t.flat.domains d → next < 2 ^ 32
threads_within t few first d next f e = omega (arith, f, e, taken_le (domain_tcbs t) t.flat.domains d, thread_end t few)

pub domain_threads_are : (t : Tables) (first d next : ℕ) (threads : List ThreadPlace) → first ≡ first_of t 1
    → next ≡ first + before (domain_tcbs t) t.flat.domains d → threads ≡ threads_at t d
    → thread_lines_from next threads ≡ domain_threads t d
domain_threads_are t first d next threads f e same = search (rules)

-- ---- locks

-- the first lock of a domain
pub first_lock_is : (t : Tables) (first d next : ℕ) → first ≡ first_of t 4
    → next ≡ first + before (domain_locks t) t.flat.domains d → next ≡ place t (LockOf d 0)
first_lock_is t first d next f e = omega (arith, f, e, taken_none (lock d) (uses_at t d))

pub locks_turn : (t : Tables) (first d next after : ℕ) (uses : List SlotUse) → uses ≡ uses_at t d → d < length t.flat.domains
    → next ≡ first + before (domain_locks t) t.flat.domains d
    → after ≡ next + length (gather (lock d) uses) → after ≡ first + before (domain_locks t) t.flat.domains (d + 1)
locks_turn t first d next after uses same l e a =
    let more = grown (domain_locks t) t.flat.domains d (length (gather (lock d) (uses_at t d))) l (λ x. refl) in
    omega (arith, e, a, ap (λ z. length (gather (lock d) z)) same, more)

pub locks_within : (t : Tables) → AreFew t → (first d after : ℕ) → first ≡ first_of t 4
    → after ≡ first + before (domain_locks t) t.flat.domains d → after < 2 ^ 32
locks_within t few first d after f e = omega (arith, f, e, taken_le (domain_locks t) t.flat.domains d, (ends t few).locks)

-- behind the locks of a domain
pub lock_end : (t : Tables) (d : ℕ) (uses : List SlotUse) (n first at : ℕ) → uses ≡ uses_at t d → length uses ≤ n
    → first ≡ place t (LockOf d 0) → at ≡ place t (LockOf d n) → at ≡ first + length (gather (lock d) uses)
lock_end t d uses n first at same le f p = search (rules, take_all)

-- ---- sections

pub few_in : (t : Tables) (xs : List (List Part)) → xs ≡ but_frames t → AreFew t → length (together xs) < 2 ^ 32
few_in t xs same few =
    let all = (ends t few).frames in
    let here : length (together (but_frames t)) < 2 ^ 32 = omega (arith, all) in
    subst (λ (z : List (List Part)). length (together z) < 2 ^ 32) (sym same) here

pub first_is : (t : Tables) (xs : List (List Part)) (n first : ℕ) → xs ≡ but_frames t → first ≡ length (together (take n xs))
    → first ≡ length (together (take n (but_frames t)))
first_is t xs n first same e = e ∙ ap (λ (z : List (List Part)). length (together (take n z))) same
