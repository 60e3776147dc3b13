-- States in which nobody waits and nothing is pending, and what one such state has beyond another.
use Rattle.std.proofs.Common.{rules}
use Rattle.cap_audit.proofs.Common.{Acts, Bool, Cap, Capability, Contains, Contains-from_lookup, Contains-push_cases, Content, HasRoot, IsKept, List, Node, None, Object, Option, Quiet, Run, Some, Spec, State, Step, StepTo, [], added}
use Rattle.cap_audit.proofs.Common.{and_parts, ap, append-nil, arith, behind, boot, boot_fits, boot_node, boot_slot, content_at, content_in, false, filter, filter-append, first, first_or_behind, fits, get_or, get_or-set_same, grown, grown_at, inl}
use Rattle.cap_audit.proofs.Common.{inr, is_at, is_at_below, keeps, keeps_slots, leb, length, list_all, map, nat_lt, no_node, node_at, not, object_at, object_kept, read_written, refl, rest_rises, rise, set, slots_at, slots_of, step_fits, subst, sym}
use Rattle.cap_audit.proofs.Common.{true, without, without_at, ℕ, ◌&&◌, ◌++◌, ◌<◌, ◌==◌, ◌^◌, ◌∙◌, ◌∷◌, ◌≡◌}
use Rattle.std.specs.Map.{lookup}
use Rattle.cap_model.specs.declared.kind.Kind.TheVariants as kinds
use Rattle.cap_model.specs.declared.object.Object.TheVariants as objects
use Rattle.cap_audit.specs.Quiet.{IsFresh, AreFresh, AreKept}
use Rattle.cap_audit.proofs.BootParts.{node_of, boot_node_at, boot_content, root_boot, nobody_waits}

-- a run behind a run
pub run_append : (spec : Spec) (xs ys : List Step) (s mid new : State) → Run spec s xs mid → Run spec mid ys new
    → Run spec s (xs ++ ys) new
run_append spec [] ys s mid new a b = subst (λ (x : State). Run spec x ys new) a b
run_append spec (x ∷ xs) ys s mid new (next, one, rest) b = (next, one, run_append spec xs ys next mid new rest b)

-- look-ups by number

lookup_here : {X : Type 0} (e : ℕ × X) (es : List (ℕ × X)) (i : ℕ) → (e.0 == i) ≡ true → lookup (λ n. n == i) (e ∷ es) ≡ Some e.1
lookup_here e es i is = rw is refl

lookup_behind : {X : Type 0} (e : ℕ × X) (es : List (ℕ × X)) (i : ℕ) → (e.0 == i) ≡ false
    → lookup (λ n. n == i) (e ∷ es) ≡ lookup (λ n. n == i) es
lookup_behind e es i is = rw is refl

lookup_front : {X : Type 0} (es fs : List (ℕ × X)) (i : ℕ) (v : X) → lookup (λ n. n == i) es ≡ Some v
    → lookup (λ n. n == i) (es ++ fs) ≡ Some v
lookup_front [] fs i v h = absurd cc
lookup_front {X} (e ∷ es) fs i v h = go (e.0 == i) refl (λ k. lookup_front es fs i v k) where
  go : (b : Bool) → (e.0 == i) ≡ b → (lookup (λ n. n == i) es ≡ Some v → lookup (λ n. n == i) (es ++ fs) ≡ Some v)
      → lookup (λ n. n == i) (e ∷ (es ++ fs)) ≡ Some v
  go true is rest = lookup_here e (es ++ fs) i is ∙ (sym (lookup_here e es i is) ∙ h)
  go false is rest = lookup_behind e (es ++ fs) i is ∙ rest (sym (lookup_behind e es i is) ∙ h)

lookup_back : {X : Type 0} (es fs : List (ℕ × X)) (i : ℕ) → lookup (λ n. n == i) es ≡ None
    → lookup (λ n. n == i) (es ++ fs) ≡ lookup (λ n. n == i) fs
lookup_back [] fs i h = refl
lookup_back {X} (e ∷ es) fs i h = go (e.0 == i) refl (λ k. lookup_back es fs i k) where
  go : (b : Bool) → (e.0 == i) ≡ b → (lookup (λ n. n == i) es ≡ None → lookup (λ n. n == i) (es ++ fs) ≡ lookup (λ n. n == i) fs)
      → lookup (λ n. n == i) (e ∷ (es ++ fs)) ≡ lookup (λ n. n == i) fs
  go true is rest = absurd (let x : ◌≡◌ {A = Option X} None (Some e.1) = sym h ∙ lookup_here e es i is in cc)
  go false is rest = lookup_behind e (es ++ fs) i is ∙ rest (sym (lookup_behind e es i is) ∙ h)

pub there_by_lookup : (node : Node) (i : ℕ) (content : Content) → content_at node i ≡ Some content
    → Contains node.slots (i, content)
there_by_lookup node i content h = Contains-from_lookup {eq = λ q n. n == q} (λ x y e. grind arith) i content node.slots h

next_free : (node : Node) → IsFresh node → content_at node node.next ≡ None
unfolding IsFresh
next_free node fresh = go (content_at node node.next) refl where
  go : (o : Option Content) → content_at node node.next ≡ o → o ≡ None
  go None h = refl
  go (Some content) h =
      absurd (let less : node.next < node.next = fresh node.next content (there_by_lookup node node.next content h) in
      omega arith)

pub grown_there : (node : Node) (content : Content) → IsFresh node → content_at (grown node content) node.next ≡ Some content
grown_there node content fresh = search (rules, lookup_back, next_free)

pub grown_keeps : (node : Node) (content : Content) (i : ℕ) (old : Content) → content_at node i ≡ Some old
    → content_at (grown node content) i ≡ Some old
grown_keeps node content i old h = lookup_front node.slots ((node.next, content) ∷ []) i old h

pub grown_fresh : (node : Node) (content : Content) → IsFresh node → IsFresh (grown node content)
unfolding IsFresh
grown_fresh node content fresh i x there = elim (Contains-push_cases node.slots (node.next, content) (i, x) there) [
  | inl old ↦ (let less : i < node.next = fresh i x old in omega arith)
  | inr new ↦ (let same : node.next ≡ i = ap (λ (p : ℕ × Content). p.0) new in omega arith)
]

-- at boot

pub above : (x : ℕ × Cap) (slots : List (ℕ × Cap)) (i : ℕ) (cap : Cap) → rise (x ∷ slots) ≡ true
    → Contains slots (i, cap) → x.0 < i
above x [] i cap rises there = absurd (let w = there.1 in omega arith)
above x (y ∷ slots) i cap rises there =
    let both = and_parts (nat_lt x.0 y.0) (rise (y ∷ slots)) rises in
    let less : x.0 < y.0 = (let h : nat_lt x.0 y.0 ≡ true = both.0 in grind arith) in
    elim (first_or_behind y slots (i, cap) there) [
      | inl same ↦ (let n : y.0 ≡ i = ap (λ (p : ℕ × Cap). p.0) same in omega arith)
      | inr more ↦ (let h : y.0 < i = above y slots i cap both.1 more in omega arith)
    ]

slot_found : (slots : List (ℕ × Cap)) (i : ℕ) (cap : Cap) → rise slots ≡ true → Contains slots (i, cap)
    → lookup (λ n. n == i) (map boot_slot slots) ≡ Some (Capability cap)
slot_found [] i cap rises there = absurd (let w = there.1 in omega arith)
slot_found (x ∷ slots) i cap rises there = elim (first_or_behind x slots (i, cap) there) [
  | inl same ↦ search (rules)
  | inr more ↦ (
      let other : (x.0 == i) ≡ false = (let less : x.0 < i = above x slots i cap rises more in grind arith) in
      rw other (slot_found slots i cap (rest_rises x slots rises) more))
]

all_below : (spec : Spec) (bound : ℕ) (slots : List (ℕ × Cap)) (i : ℕ) (cap : Cap)
    → list_all (λ (slot : ℕ × Cap). nat_lt slot.0 bound && fits spec slot.1) slots ≡ true → Contains slots (i, cap) → i < bound
all_below spec bound [] i cap all there = absurd (let w = there.1 in omega arith)
all_below spec bound (x ∷ slots) i cap all there =
    let both = and_parts (nat_lt x.0 bound && fits spec x.1)
    (list_all (λ (slot : ℕ × Cap). nat_lt slot.0 bound && fits spec slot.1) slots) all in
    elim (first_or_behind x slots (i, cap) there) [
      | inl same ↦ search (rules, nat_lt, and_parts)
      | inr more ↦ all_below spec bound slots i cap both.1 more
    ]

-- what the slots of an object of a kept spec are at boot
object_found : (spec : Spec) (object : Object) (i : ℕ) (cap : Cap) → keeps spec object ≡ true
    → Contains (slots_of (Some object)) (i, cap)
    → (i < (boot_node object).next) × (content_at (boot_node object) i ≡ Some (Capability cap))
object_found spec (objects.CNode bits slots) i cap kept there =
    let of_slots = and_parts (rise slots) (list_all (λ (slot : ℕ × Cap). nat_lt slot.0 (2 ^ bits) && fits spec slot.1)
    slots) (and_parts (nat_lt 0 bits && leb bits 16) (keeps_slots (fits spec) (2 ^ bits) slots) kept).1 in
    (all_below spec (2 ^ bits) slots i cap of_slots.1 there, slot_found slots i cap of_slots.0 there)
object_found spec _ i cap kept there = absurd (let w = there.1 in omega arith)

boot_found : (spec : Spec) (c i : ℕ) (cap : Cap) → IsKept spec → Contains (slots_at spec c) (i, cap)
    → (i < (node_at (boot spec) c).next) × (content_in (boot spec) c i ≡ Some (Capability cap))
boot_found spec c i cap kept there = go (object_at spec c) refl where
  go : (o : Option Object) → object_at spec c ≡ o → (i < (node_at (boot spec) c).next)
      × (content_in (boot spec) c i ≡ Some (Capability cap))
  go None h = absurd (let x : Contains (slots_of None) (i, cap) = subst (λ (o : Option Object). Contains (slots_of o) (i, cap)) h
      there in let w = x.1 in omega arith)
  go (Some object) h =
      let here : node_at (boot spec) c ≡ boot_node object = boot_node_at spec c ∙ ap node_of h in
      let f = object_found spec object i cap (object_kept spec c object kept h)
      (subst (λ (o : Option Object). Contains (slots_of o) (i, cap)) h there) in (
        subst (λ (n : Node). i < n.next) (sym here) f.0,
        subst (λ (n : Node). content_at n i ≡ Some (Capability cap))
            (sym here) f.1,
      )

pub slot_at_boot : (spec : Spec) (c i : ℕ) (cap : Cap) → IsKept spec → Contains (slots_at spec c) (i, cap)
    → content_in (boot spec) c i ≡ Some (Capability cap)
slot_at_boot spec c i cap kept there = (boot_found spec c i cap kept there).1

boot_fresh : (spec : Spec) (c : ℕ) → IsKept spec → IsFresh (node_at (boot spec) c)
unfolding IsFresh
boot_fresh spec c kept i content there = let b = boot_content spec c i content there in (boot_found spec c i b.0 kept b.1).0

-- lists of CNodes

pub kept_on : (a b c : List Node) → AreKept a b → AreKept b c → AreKept a c
unfolding AreKept
kept_on a b c f g d i content h = g d i content (f d i content h)

pub kept_at : (a b : List Node) (d i : ℕ) (content : Content) → AreKept a b → content_at (get_or a d no_node) i ≡ Some content
    → content_at (get_or b d no_node) i ≡ Some content
unfolding AreKept
kept_at a b d i content f h = f d i content h

pub kept_same : (a : List Node) → AreKept a a
unfolding AreKept
kept_same a d i content h = h

-- a write of a node that is fresh and keeps what was there
written_fresh : (nodes : List Node) (d : ℕ) (node : Node) → AreFresh nodes → IsFresh node → AreFresh (set nodes d node)
unfolding AreFresh
written_fresh nodes d node fresh here c = search (rules, read_written)

written_kept : (nodes : List Node) (d : ℕ) (node : Node)
    → ((i : ℕ) (content : Content) → content_at (get_or nodes d no_node) i ≡ Some content → content_at node i ≡ Some content)
    → AreKept nodes (set nodes d node)
unfolding AreKept
written_kept nodes d node here c i content h = search (rules, read_written)

pub grown_all_fresh : (nodes : List Node) (d : ℕ) (content : Content) → AreFresh nodes → AreFresh (grown_at nodes d content)
unfolding AreFresh
grown_all_fresh nodes d content fresh = written_fresh nodes d (grown (get_or nodes d no_node) content) fresh
    (grown_fresh (get_or nodes d no_node) content (fresh d))

pub grown_all_kept : (nodes : List Node) (d : ℕ) (content : Content) → AreKept nodes (grown_at nodes d content)
grown_all_kept nodes d content = written_kept nodes d (grown (get_or nodes d no_node) content)
    (λ i old h. grown_keeps (get_or nodes d no_node) content i old h)

pub grown_at_next : (nodes : List Node) (d : ℕ) (content : Content) → AreFresh nodes → d < length nodes
    → content_at (get_or (grown_at nodes d content) d no_node) (get_or nodes d no_node).next ≡ Some content
unfolding AreFresh
grown_at_next nodes d content fresh less = search (rules, get_or-set_same, grown_there)

-- a content that is taken out again leaves the CNode as it was, but for its next number

all_others : (es : List (ℕ × Content)) (k : ℕ) → ((i : ℕ) (x : Content) → Contains es (i, x) → i < k)
    → filter (λ (slot : ℕ × Content). not (slot.0 == k)) es ≡ es
all_others [] k less = refl
all_others (e ∷ es) k less =
    let here : e.0 < k = less e.0 e.1 (first e es (e.0, e.1) refl) in
    let other : (e.0 == k) ≡ false = grind arith in
    rw other (ap (λ (rest : List (ℕ × Content)). e ∷ rest) (all_others es k (λ i x there. less i x (behind e es (i, x) there))))

out_again : (node : Node) (content : Content) → IsFresh node → (without (grown node content) node.next).slots ≡ node.slots
unfolding IsFresh
out_again node content fresh = search (rules, filter-append, all_others, append-nil)

out_fresh : (node : Node) (content : Content) → IsFresh node → IsFresh (without (grown node content) node.next)
unfolding IsFresh
out_fresh node content fresh i x there =
    let less : i < node.next =
    fresh i x (subst (λ (es : List (ℕ × Content)). Contains es (i, x)) (out_again node content fresh) there) in
    omega arith

out_keeps : (node : Node) (content : Content) (i : ℕ) (old : Content) → IsFresh node → content_at node i ≡ Some old
    → content_at (without (grown node content) node.next) i ≡ Some old
out_keeps node content i old fresh h = subst (λ (es : List (ℕ × Content)). lookup (λ n. n == i) es ≡ Some old)
    (sym (out_again node content fresh)) h

-- the same in a list of CNodes

pub out_all_fresh : (nodes : List Node) (d : ℕ) (content : Content) → AreFresh nodes → d < length nodes
    → AreFresh (without_at (grown_at nodes d content) d (get_or nodes d no_node).next)
unfolding AreFresh
out_all_fresh nodes d content fresh less = search (rules, get_or-set_same, written_fresh, grown_all_fresh, out_fresh)

pub out_all_kept : (nodes : List Node) (d : ℕ) (content : Content) → AreFresh nodes → d < length nodes
    → AreKept nodes (without_at (grown_at nodes d content) d (get_or nodes d no_node).next)
unfolding AreFresh AreKept
out_all_kept nodes d content fresh less c i old h = search (rules, get_or-set_same, read_written, grown_all_kept, out_keeps)

-- quiet states

pub boot_quiet : (spec : Spec) → IsKept spec → Quiet spec (boot spec)
unfolding AreFresh
boot_quiet spec kept = search (rules, boot_fits, boot_fresh, kept_same)

-- from s these steps lead to a quiet state that has what s has
pub record Onward (spec : Spec) (s : State) (new : State) : Type 0 where
  pub steps : List Step
  pub run : Run spec s steps new
  pub quiet : Quiet spec new
  pub kept : AreKept s.nodes new.nodes

-- these steps lead from s to a quiet state that has the capability in d besides, at d's next number
pub record Lands (spec : Spec) (s : State) (d : ℕ) (cap : Cap) (steps : List Step) : Type 0 where
  pub new : State
  pub run : Run spec s steps new
  pub quiet : Quiet spec new
  pub nodes : new.nodes ≡ grown_at s.nodes d (Capability cap)

pub onward_same : (spec : Spec) (s : State) → Quiet spec s → Onward spec s s
onward_same spec s q = record { steps = []; run = refl; quiet = q; kept = kept_same s.nodes }

pub onward_then : (spec : Spec) (s mid new : State) → Onward spec s mid → Onward spec mid new → Onward spec s new
onward_then spec s mid new a b = search (rules, run_append, kept_on)

module _ (spec : Spec) (s : State) (q : Quiet spec s) where
  pub quiet_acts : (t c : ℕ) → HasRoot spec t c → Acts s t c
  quiet_acts t c root = search (rules, nobody_waits, root_boot)

  pub quiet_cnode : (t c : ℕ) → HasRoot spec t c → is_at spec kinds.CNode c ≡ true
  quiet_cnode t c root = (q.fits.threads t).root c (quiet_acts t c root).root

  pub quiet_node : (c : ℕ) → is_at spec kinds.CNode c ≡ true → c < length s.nodes
  quiet_node c is = let less : c < length spec.entries = is_at_below spec kinds.CNode c is in
      let same : length s.nodes ≡ length spec.entries = q.fits.as_many_nodes in omega arith

  -- one step that copies a capability
  pub copied : (d : ℕ) (cap : Cap) (step : Step) → StepTo spec s step (added s d cap) → Lands spec s d cap (step ∷ [])
  copied d cap step leads = search (rules, step_fits, grown_all_fresh, kept_on, grown_all_kept)

  -- where the copy is
  pub landed_there : (d : ℕ) (cap : Cap) (steps : List Step) → is_at spec kinds.CNode d ≡ true → (l : Lands spec s d cap steps)
      → content_in l.new d (node_at s d).next ≡ Some (Capability cap)
  landed_there d cap steps is l = search (rules, grown_at_next, quiet_node)

  pub lands_onward : (d : ℕ) (cap : Cap) (steps : List Step) → (l : Lands spec s d cap steps) → Onward spec s l.new
  lands_onward d cap steps l = search (rules, grown_all_kept)
