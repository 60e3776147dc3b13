-- Frames stand under their numbers
use Rattle.vspace_layout.proofs.Common.{Bool, Flat, FlatConnection, FlatEnd, FrameInfo, FramesStand, Given, List, MappedPage, None, OfConnection, OfDomain, Option, Own, Some, [], and_parts, ap, arith, at_place, before, cond, eq-eqb, eqb-true, false}
use Rattle.vspace_layout.proofs.Common.{first_to, frame, frames, frames_at, gathered, get_behind, get_front, get_or, get_or_from_slice_get, is_shared, leads_to, length, map, mapped_pages, memory_before, memory_number, memory_pages, memory_part}
use Rattle.vspace_layout.proofs.Common.{number_shown, option_map_or, own_frame, own_frames, own_number, own_part, position, position-Some, range_with_len, refl, register_frame, register_frames, register_part, registers, registers_before}
use Rattle.vspace_layout.proofs.Common.{registers_in, rules, same_port, shared_frames, shared_part, slice_get, suc, sym, true, zero, ℕ, ◌&&◌, ◌+◌, ◌<◌, ◌∙◌, ◌≡◌}
use Rattle.std.specs.Prelude.{◌==◌}
use Rattle.adl_meaning.specs.declared.connector.Connector.{Connector}
use Rattle.adl_meaning.specs.declared.connector.Connector.TheVariants.{Mmio}
use Rattle.cap_model.specs.declared.object.Fill.{Fill}

-- ---- lists

numbered : {X : Type 0} (f : ℕ → X) (a n j : ℕ) → j < n → slice_get (map f (range_with_len a n)) j ≡ Some (f (a + j))
numbered f a zero j l = absurd (omega (arith, l))
numbered f a (suc n) zero l = let e : a ≡ a + 0 = omega arith in ap (λ z. Some (f z)) e
numbered f a (suc n) (suc j) l =
    let e : a + 1 + j ≡ a + suc j = omega arith in
    numbered f (a + 1) n j (omega (arith, l)) ∙ ap (λ z. Some (f z)) e

from_zero : {X : Type 0} (f : ℕ → X) (n j : ℕ) → j < n → slice_get (map f (range_with_len 0 n)) j ≡ Some (f j)
from_zero f n j l = let e : 0 + j ≡ j = omega arith in numbered f 0 n j l ∙ ap (λ z. Some (f z)) e

-- ---- own frames

own_stands : (t : Given) (d n : ℕ) (p : MappedPage) (fill : Option Fill) → slice_get (mapped_pages t d) n ≡ Some p
    → p.shown ≡ Own fill → d < length t.flat.domains → slice_get (frames t) (number_shown t d n p.shown) ≡ Some
    (frame (OfDomain d) None fill)
own_stands t d n p fill e s l =
    let y = frame (OfDomain d) None fill in
    let f : ℕ → MappedPage → List FrameInfo = λ m q. own_frame d q.shown in
    let shown : number_shown t d n p.shown ≡ own_number t d n = ap (λ z. number_shown t d n z) s in
    let x = at_place t.flat.domains d l in
    let inner : slice_get (own_frame d p.shown) 0 ≡ Some y = ap (λ z. slice_get (own_frame d z) 0) s in
    let sum : before f (mapped_pages t d) n ≡ before f (mapped_pages t d) n + 0 = omega arith in
    let i = gathered f (mapped_pages t d) n p 0 y (before f (mapped_pages t d) n) e inner sum in
    let o = gathered (own_frames t) t.flat.domains d x.0 (before f (mapped_pages t d) n) y (own_number t d n) x.1 i refl in
    ap (λ k. slice_get (frames t) k) shown ∙ get_front (own_part t) (memory_part t.flat t.settled) (own_number t d n) y o

-- ---- shared memory

no_registers : (c : Connector) (ends : List FlatEnd) → is_shared c ≡ true → registers_in c ends ≡ None
no_registers Mmio ends e = cc
no_registers _ ends e = refl

-- registers are of hardware
pub registers_mmio : (c : Connector) (ends : List FlatEnd) (e : FlatEnd) → registers_in c ends ≡ Some e → c ≡ Mmio
registers_mmio Mmio ends e h = refl
registers_mmio _ ends e h = absurd cc

-- an end has the port of itself
pub own_port : (e : FlatEnd) → same_port e e ≡ true
own_port e = ap (λ b. b && (e.member == e.member)) (eq-eqb e.leaf e.leaf refl) ∙ eq-eqb e.member e.member refl

-- the number of a page of a connection that is there
number_at : (t : Given) (k j : ℕ) (c : FlatConnection) → slice_get t.flat.connections k ≡ Some c
    → memory_number t k j ≡ length (own_part t) + memory_before t.flat t.settled k c + j
number_at t k j c e = ap (λ o. option_map_or (λ c. length (own_part t) + memory_before t.flat t.settled k c) o 0 + j) e

shared_stands : (t : Given) (k j : ℕ) (c : FlatConnection) → slice_get t.flat.connections k ≡ Some c
    → is_shared c.connector ≡ true → j < memory_pages t.settled k c
    → slice_get (frames t) (memory_number t k j) ≡ Some (frame (OfConnection k) None None)
shared_stands t k j c e s l =
    let y = frame (OfConnection k) None None in
    let g : ℕ → FrameInfo = λ i. y in
    let n = memory_pages t.settled k c in
    let here : slice_get (shared_frames t.settled k c) j ≡ Some y = ap (λ b. slice_get (cond b (map g (range_with_len 0 n)) []) j)
    s ∙ from_zero g n j l in
    let sum = before (shared_frames t.settled) t.flat.connections k + j in
    let o = gathered (shared_frames t.settled) t.flat.connections k c j y sum e here refl in
    let front : memory_before t.flat t.settled k c ≡ before (shared_frames t.settled) t.flat.connections k =
    ap (λ r. option_map_or (registers_before t.flat t.settled) r (before (shared_frames t.settled) t.flat.connections k))
    (no_registers c.connector c.ends s) in
    let number = number_at t k j c e in
    let behind : memory_number t k j ≡ length (own_part t) + sum = omega (arith, number, front) in
    get_behind (own_part t) (memory_part t.flat t.settled) sum (memory_number t k j) behind
    ∙ get_front (shared_part t.flat t.settled) (register_part t.flat t.settled) sum y o

-- ---- registers

abbrev port_at : ℕ → ℕ → FlatConnection → Bool
port_at leaf member c = option_map_or (λ f. f.leaf == leaf && f.member == member) (registers c) false

-- the first connection to registers is its own first
first_same : (flat : Flat) (e f : FlatEnd) → same_port e f ≡ true → first_to flat f ≡ first_to flat e
first_same flat e f s = search (rules, and_parts, eqb-true)

registers_stand : (t : Given) (k j n : ℕ) (c d : FlatConnection) (e f : FlatEnd) → slice_get t.flat.connections k ≡ Some c
    → registers c ≡ Some e → first_to t.flat e ≡ Some n → slice_get t.flat.connections n ≡ Some d → registers d ≡ Some f
    → j < memory_pages t.settled n d → slice_get (frames t) (memory_number t k j) ≡ Some (register_frame t.settled n d f j)
registers_stand t k j n c d e f at has first there leads l =
    let cs = t.flat.connections in
    let y = register_frame t.settled n d f j in
    let found = position-Some (leads_to e) cs n d first in
    let same : d ≡ get_or cs n d = sym (get_or_from_slice_get cs n d d there) in
    let led : same_port e f ≡ true = ap (λ r. option_map_or (same_port e) r false) (sym leads) ∙ ap (leads_to e) same ∙ found.1 in
    let own : first_to t.flat f ≡ Some n = first_same t.flat e f led ∙ first in
    let list = map (register_frame t.settled n d f) (range_with_len 0 (memory_pages t.settled n d)) in
    let here : slice_get (register_frames t.flat t.settled n d) j ≡ Some y =
    ap (λ r. slice_get (option_map_or (frames_at t.flat t.settled n d) r []) j) leads
    ∙ ap (λ o. slice_get (cond (option_map_or (λ m. m == n) o false) list []) j) own
    ∙ ap (λ b. slice_get (cond b list []) j) (eq-eqb n n refl)
    ∙ from_zero (register_frame t.settled n d f) (memory_pages t.settled n d) j l in
    let sum = before (register_frames t.flat t.settled) cs n + j in
    let o = gathered (register_frames t.flat t.settled) cs n d j y sum there here refl in
    let shared = length (shared_part t.flat t.settled) in
    let front : memory_before t.flat t.settled k c ≡ shared + before (register_frames t.flat t.settled) cs n =
    ap (λ r. option_map_or (registers_before t.flat t.settled) r (before (shared_frames t.settled) cs k)) has
    ∙ ap (λ o. shared + option_map_or (before (register_frames t.flat t.settled) cs) o 0) first in
    let number = number_at t k j c at in
    let behind : memory_number t k j ≡ length (own_part t) + (shared + sum) = omega (arith, number, front) in
    get_behind (own_part t) (memory_part t.flat t.settled) (shared + sum) (memory_number t k j) behind
    ∙ get_behind (shared_part t.flat t.settled) (register_part t.flat t.settled) sum (shared + sum) refl ∙ o

pub frames_stand : (t : Given) → FramesStand t
frames_stand t = record { own = own_stands t; shared = shared_stands t; registers = registers_stand t }
