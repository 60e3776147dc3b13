-- A step leads from a state that fits the spec to one that fits it.
use Rattle.cap_machine.proofs.Common.{Bind, Bool, Call, Capability, Contains, Content, ContentFits, Drop, FitsSpec, Grant, IsSome, List, Map, Mapped, MappedFits, Node, NodeFits, None, Option, Pending, Put, Reply, ReplyFits, ReplyTo, Save}
use Rattle.cap_machine.proofs.Common.{SavedReply, SetCspace, SetVspace, Some, Spec, State, Step, StepTo, Take, ThreadFits, ThreadState, [], added, ap, arith, content_in, dropped, false, filter, get_or, grown, grown_at, inl, inr, is_at, is_space_root}
use Rattle.cap_machine.proofs.Common.{length-set, lessened, no_thread, node_at, refl, replied, rules, set, subst, sym, thread_at, true, waiting, with_pending, with_root, with_space, without, without_at, ℕ, ◌==◌, ◌∷◌, ◌≡◌, ◌⊎◌}
use Rattle.std.proofs.lemmas.List.Elements.{Contains-append_left, Contains-append_right, Contains-push, Contains-push_cases}
use Rattle.std.proofs.lemmas.Map.Views.{Contains-from_lookup}
use Rattle.cap_model.specs.declared.kind.Kind.TheVariants as kinds
use Rattle.cap_machine.proofs.Applied.{read_written}

-- elements

pub behind : {A : Type 0} (x : A) (xs : List A) (y : A) → Contains xs y → Contains (x ∷ xs) y
behind x xs y there = Contains-append_right (x ∷ []) xs y there

pub first : {A : Type 0} (x : A) (xs : List A) (y : A) → x ≡ y → Contains (x ∷ xs) y
first {A} x xs y same = subst (λ (z : A). Contains (x ∷ xs) z) same (Contains-append_left (x ∷ []) xs x (Contains-push [] x))

pub first_or_behind : {A : Type 0} (x : A) (xs : List A) (y : A) → Contains (x ∷ xs) y → (x ≡ y) ⊎ Contains xs y
first_or_behind x xs y there = grind (arith)

pub from_filter : {A : Type 0} (p : A → Bool) (xs : List A) (y : A) → Contains (filter p xs) y → Contains xs y
from_filter p [] y there = there
from_filter {A} p (x ∷ xs) y there = go (p x) refl (from_filter p xs y) where
  go : (b : Bool) → p x ≡ b → (Contains (filter p xs) y → Contains xs y) → Contains (x ∷ xs) y
  go true h rest = search (rules, first_or_behind, first, behind)
  go false h rest = let here : Contains (filter p xs) y = (let e : filter p (x ∷ xs) ≡ filter p xs = rw h refl in
      subst (λ (zs : List A). Contains zs y) e there) in behind x xs y (rest here)

some_is : {A : Type 0} (o : Option A) (x : A) → o ≡ Some x → IsSome o
some_is {A} o x h = subst (λ (z : Option A). IsSome z) (sym h) refl

none_not : {A : Type 0} (x : A) → ◌≡◌ {A = Option A} None (Some x) → ⊥
none_not x h = cc

-- threads that have roots go on having them
Roots : List ThreadState → List ThreadState → Type 0
Roots old new = (t : ℕ) → IsSome (get_or old t no_thread).root → IsSome (get_or new t no_thread).root

module _ (spec : Spec) where
  reply_moves : (old new : List ThreadState) → Roots old new → (reply : Pending) → ReplyFits spec old reply
      → ReplyFits spec new reply
  unfolding Roots
  reply_moves old new roots reply f = record { thread = f.thread; rooted = roots reply.caller f.rooted }

  content_moves : (old new : List ThreadState) → Roots old new → (content : Content) → ContentFits spec old content
      → ContentFits spec new content
  content_moves old new roots (Capability x) f = f
  content_moves old new roots (SavedReply reply) f = reply_moves old new roots reply f

  node_moves : (old new : List ThreadState) → Roots old new → (c : ℕ) (node : Node) → NodeFits spec old c node
      → NodeFits spec new c node
  node_moves old new roots c node f = record {
    kind = f.kind;
    slots = λ i content there. content_moves old new roots content
        (f.slots i content there);
  }

  thread_moves : (old new : List ThreadState) → Roots old new → (t : ℕ) (thread : ThreadState) → ThreadFits spec old t thread
      → ThreadFits spec new t thread
  thread_moves old new roots t thread f =
      record {
        kind = f.kind;
        root = f.root;
        space = f.space;
        pending = λ reply owes. reply_moves old new roots reply
            (f.pending reply owes);
        holder = f.holder;
      }

  -- one CNode anew
  with_node : (s : State) (c : ℕ) (node : Node) → FitsSpec spec s → NodeFits spec s.threads c node
      → FitsSpec spec (record s { nodes = set s.nodes c node })
  with_node s c node f fine = search (rules, length-set, read_written)

  roots_kept : (threads : List ThreadState) (t : ℕ) (thread : ThreadState) → (IsSome (get_or threads t no_thread).root
      → IsSome thread.root) → Roots threads (set threads t thread)
  unfolding Roots
  roots_kept threads t thread keeps k rooted = search (rules, read_written)

  -- one thread anew
  with_thread : (s : State) (t : ℕ) (thread : ThreadState) → FitsSpec spec s → (IsSome (thread_at s t).root → IsSome thread.root)
      → ThreadFits spec s.threads t thread → FitsSpec spec (record s { threads = set s.threads t thread })
  with_thread s t thread f keeps fine =
      let roots : Roots s.threads (set s.threads t thread) = roots_kept s.threads t thread keeps in
      record {
        as_many_nodes = f.as_many_nodes;
        as_many_threads = rw (length-set s.threads t thread) f.as_many_threads;
        as_many_irqs = f.as_many_irqs;
        nodes = λ c. node_moves s.threads (set s.threads t thread) roots c (node_at s c) (f.nodes c);
        threads = search (rules, read_written, set, thread_moves);
        irqs = f.irqs;
        mapped = f.mapped;
      }

  -- what acts, and what is named

  is_thread : (s : State) (t c : ℕ) → FitsSpec spec s → (thread_at s t).root ≡ Some c → is_at spec kinds.Thread t ≡ true
  is_thread s t c f rooted = search (rules, none_not)

  is_cnode : (s : State) (t c : ℕ) → FitsSpec spec s → (thread_at s t).root ≡ Some c → is_at spec kinds.CNode c ≡ true
  is_cnode s t c f rooted = (f.threads t).root c rooted

  content_fits : (s : State) (c i : ℕ) (content : Content) → FitsSpec spec s → content_in s c i ≡ Some content
      → ContentFits spec s.threads content
  content_fits s c i content f there =
      (f.nodes c).slots i content (Contains-from_lookup {eq = λ q n. n == q} (λ x y h. grind arith) i content
      (node_at s c).slots there)

  -- the changes

  adds : (s : State) (c : ℕ) (content : Content) → FitsSpec spec s → is_at spec kinds.CNode c ≡ true
      → ContentFits spec s.threads content → FitsSpec spec (record s { nodes = grown_at s.nodes c content })
  adds s c content f is fine = with_node s c (grown (node_at s c) content) f (record {
    kind = inr is;
    slots = λ i x there. elim (Contains-push_cases (node_at s c).slots ((node_at s c).next, content) (i, x) there) [
      | inl old ↦ (f.nodes c).slots i x old
      | inr new ↦ let same : content ≡ x = ap (λ (p : ℕ × Content). p.1) new in
          subst (λ (z : Content). ContentFits spec s.threads z) same fine
    ];
  })

  drops : (s : State) (c i : ℕ) → FitsSpec spec s → is_at spec kinds.CNode c ≡ true
      → FitsSpec spec (record s { nodes = without_at s.nodes c i })
  drops s c i f is = with_node s c (without (node_at s c) i) f (record {
    kind = inr is;
    slots = λ n x there. (f.nodes c).slots n x (from_filter _ (node_at s c).slots (n, x) there);
  })

  waits : (s : State) (t : ℕ) (b : Bool) → FitsSpec spec s → is_at spec kinds.Thread t ≡ true
      → FitsSpec spec (record s { threads = waiting s.threads t b })
  waits s t b f is =
      let old : ThreadFits spec s.threads t (thread_at s t) = f.threads t in
      with_thread s t (record (thread_at s t) { waits = b }) f (λ h. h) (record {
        kind = inr is;
        root = old.root;
        space = old.space;
        pending = old.pending;
        holder = old.holder;
      })

  owes_none : (s : State) (t : ℕ) → FitsSpec spec s → is_at spec kinds.Thread t ≡ true
      → FitsSpec spec (record s { threads = with_pending s.threads t None })
  owes_none s t f is = search (rules, with_thread, none_not)

  owes : (s : State) (t c : ℕ) (reply : Pending) → FitsSpec spec s → (thread_at s t).root ≡ Some c
      → ReplyFits spec s.threads reply → FitsSpec spec (record s { threads = with_pending s.threads t (Some reply) })
  owes s t c reply f rooted fine = search (rules, with_thread, is_thread, some_is)

  roots : (s : State) (t c : ℕ) → FitsSpec spec s → is_at spec kinds.Thread t ≡ true → is_at spec kinds.CNode c ≡ true
      → FitsSpec spec (record s { threads = with_root s.threads t c })
  roots s t c f is node = search (rules, with_thread)

  spaces : (s : State) (t d : ℕ) → FitsSpec spec s → is_at spec kinds.Thread t ≡ true → is_space_root spec d ≡ true
      → FitsSpec spec (record s { threads = with_space s.threads t d })
  spaces s t d f is space = search (rules, with_thread)

  replies : (s : State) (t c : ℕ) (reply : Pending) → FitsSpec spec s → (thread_at s t).root ≡ Some c
      → (thread_at s t).pending ≡ Some reply → FitsSpec spec (replied s t reply.caller)
  replies s t c reply f rooted h =
      waits (record s { threads = with_pending s.threads t None }) reply.caller false (owes_none s t f (is_thread s t c f rooted))
      ((f.threads t).pending reply h).thread

  pub step_fits : (s new : State) (step : Step) → FitsSpec spec s → StepTo spec s step new → FitsSpec spec new
  step_fits s new (Take t i j r) f (c, to, x, acts, own, there, e) =
      rw e (adds s c (Capability (lessened x r)) f (is_cnode s t c f acts.root)
      (content_fits s to.object j (Capability x) f there))
  step_fits s new (Put t i j r) f (c, to, x, acts, own, there, e) =
      rw e (adds s to.object (Capability (lessened x r)) f own.is (content_fits s c j (Capability x) f there))
  step_fits s new (Grant t i u j k r) f (c, to, x, d, from, acts, own, may, there, peer, e) =
      rw e (adds s d (Capability (lessened x r)) f (is_cnode s u d f peer.acts.root) (content_fits s c k (Capability x) f there))
  step_fits s new (Call t i u j) f (c, to, d, from, acts, own, may, peer, e) =
      let is : is_at spec kinds.Thread t ≡ true = is_thread s t c f acts.root in
      rw e (waits (record s { threads = with_pending s.threads u (Some (record { caller = t; grants = from.rights.grant })) }) t
      true (owes s u d (record { caller = t; grants = from.rights.grant }) f peer.acts.root
      (record { thread = is; rooted = some_is (thread_at s t).root c acts.root })) is)
  step_fits s new (Reply t None) f (c, p, acts, h, e) = rw e (replies s t c p f acts.root h)
  step_fits s new (Reply t (Some copy)) f (c, p, x, d, acts, h, grants, there, root, e) =
      rw e (adds (replied s t p.caller) d (Capability (lessened x copy.1)) (replies s t c p f acts.root h)
      (is_cnode s p.caller d f root) (content_fits s c copy.0 (Capability x) f there))
  step_fits s new (SetCspace t i j) f (c, to, x, acts, own, of, e) = rw e (roots s to.object x.object f own.is of.is)
  step_fits s new (SetVspace t i j) f (c, to, x, acts, own, of, e) = rw e (spaces s to.object x.object f own.is of.is)
  step_fits s new (Map t i j r) f (c, frame, x, acts, own, of, e) = rw e (record {
    as_many_nodes = f.as_many_nodes;
    as_many_threads = f.as_many_threads;
    as_many_irqs = f.as_many_irqs;
    nodes = f.nodes;
    threads = f.threads;
    irqs = f.irqs;
    mapped = λ m there. elim (Contains-push_cases s.mapped _ m there) [
      | inl old ↦ f.mapped m old
      | inr same ↦ subst (λ (z : Mapped). MappedFits spec z) same (record { space = of.is; frame = own.is })
    ];
  })
  step_fits s new (Bind t i j) f (c, irq, x, acts, own, of, writes, e) = search (rules, length-set, read_written)
  step_fits s new (Drop t i) f (c, x, acts, there, e) = rw e (drops s c i f (is_cnode s t c f acts.root))
  step_fits s new (Save t) f (c, p, acts, h, e) =
      rw e (owes_none (record s { nodes = grown_at s.nodes c (SavedReply p) }) t
      (adds s c (SavedReply p) f (is_cnode s t c f acts.root) ((f.threads t).pending p h)) (is_thread s t c f acts.root))
  step_fits s new (ReplyTo t i None) f (c, p, acts, there, e) =
      rw e (waits (record s { nodes = without_at s.nodes c i }) p.caller false
      (drops s c i f (is_cnode s t c f acts.root)) (content_fits s c i (SavedReply p) f there).thread)
  step_fits s new (ReplyTo t i (Some copy)) f (c, p, x, d, acts, own, grants, there, root, e) =
      let more : FitsSpec spec (added s d (lessened x copy.1)) = adds s d (Capability (lessened x copy.1)) f
      (is_cnode s p.caller d f root) (content_fits s c copy.0 (Capability x) f there) in
      rw e (waits (dropped (added s d (lessened x copy.1)) c i) p.caller false (drops (added s d (lessened x copy.1)) c i more
      (is_cnode s t c f acts.root)) (content_fits s c i (SavedReply p) f own).thread)
