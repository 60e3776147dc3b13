-- Two states that are alike at the objects of a set. They stay alike where one is written at another object, or both alike.
use Rattle.std.proofs.Common.{rules}
use Rattle.flow_model.proofs.LawsCommon.{Acts, Bool, Cap, Contains, Content, List, Mapped, Node, None, Option, Owes, Own, Pending, Some, State, ThreadState, [], arith, behind, content_at, content_in, false, filter, filter-append, first}
use Rattle.flow_model.proofs.LawsCommon.{first_or_behind, from_filter, get_or, grown, grown_at, inl, inr, irq_at, length, length-set, no_node, no_thread, node_at, read_written, refl, set, subst, suc, sym, thread_at, true, waiting, with_pending, with_root}
use Rattle.flow_model.proofs.LawsCommon.{with_space, without, without_at, zero, ℕ, ◌++◌, ◌∙◌, ◌∷◌, ◌≡◌}

pub record Alike (side : ℕ → Bool) (s : State) (r : State) : Type 0 where
  pub nodes_long : length s.nodes ≡ length r.nodes
  pub threads_long : length s.threads ≡ length r.threads
  pub irqs_long : length s.irqs ≡ length r.irqs
  pub nodes : (c : ℕ) → side c ≡ true → node_at s c ≡ node_at r c
  pub threads : (t : ℕ) → side t ≡ true → thread_at s t ≡ thread_at r t
  pub irqs : (d : ℕ) → side d ≡ true → irq_at s d ≡ irq_at r d
  pub mapped : filter (λ (m : Mapped). side m.space) s.mapped ≡ filter (λ (m : Mapped). side m.space) r.mapped

-- ---- lists

other_write : {A : Type 0} (side : ℕ → Bool) (xs : List A) (i k : ℕ) (v d : A) → side i ≡ false → side k ≡ true
    → get_or (set xs i v) k d ≡ get_or xs k d
other_write side xs i k v d out here = search (rules, read_written)

same_write : {A : Type 0} (xs ys : List A) (i k : ℕ) (v d : A) → length xs ≡ length ys → get_or xs k d ≡ get_or ys k d
    → get_or (set xs i v) k d ≡ get_or (set ys i v) k d
same_write [] [] i k v d l e = e
same_write [] (y ∷ ys) i k v d l e = absurd (omega arith)
same_write (x ∷ xs) [] i k v d l e = absurd (omega arith)
same_write (x ∷ xs) (y ∷ ys) zero zero v d l e = refl
same_write (x ∷ xs) (y ∷ ys) zero (suc k) v d l e = e
same_write (x ∷ xs) (y ∷ ys) (suc i) zero v d l e = e
same_write (x ∷ xs) (y ∷ ys) (suc i) (suc k) v d l e = let m : length xs ≡ length ys = omega arith in same_write xs ys i k v d m e

same_length : {A : Type 0} (xs ys : List A) (i : ℕ) (v : A) → length xs ≡ length ys → length (set xs i v) ≡ length (set ys i v)
same_length xs ys i v l = length-set xs i v ∙ l ∙ sym (length-set ys i v)

to_filter : {A : Type 0} (p : A → Bool) (xs : List A) (y : A) → Contains xs y → p y ≡ true → Contains (filter p xs) y
to_filter p [] y there h = there
to_filter {A} p (x ∷ xs) y there h = elim (first_or_behind x xs y there) [
  | inl same ↦ (let e : filter p (x ∷ xs) ≡ x ∷ filter p xs = (let k : p x ≡ true = subst (λ (z : A). p z ≡ true) (sym same) h in
      rw k refl) in
      subst (λ (zs : List A). Contains zs y) (sym e) (first x (filter p xs) y same))
  | inr more ↦ go (p x) refl (to_filter p xs y more h)
] where
  go : (b : Bool) → p x ≡ b → Contains (filter p xs) y → Contains (filter p (x ∷ xs)) y
  go true k rest = let e : filter p (x ∷ xs) ≡ x ∷ filter p xs = rw k refl in
      subst (λ (zs : List A). Contains zs y) (sym e) (behind x (filter p xs) y rest)
  go false k rest = let e : filter p (x ∷ xs) ≡ filter p xs = rw k refl in subst (λ (zs : List A). Contains zs y) (sym e) rest

filter_none : {A : Type 0} (p : A → Bool) (xs : List A) (x : A) → p x ≡ false → filter p (xs ++ x ∷ []) ≡ filter p xs
filter_none p [] x h = rw h refl
filter_none {A} p (y ∷ ys) x h = go (p y) refl (filter_none p ys x h) where
  go : (b : Bool) → p y ≡ b → filter p (ys ++ x ∷ []) ≡ filter p ys → filter p (y ∷ ys ++ x ∷ []) ≡ filter p (y ∷ ys)
  go true k rest = rw (k, rest) refl
  go false k rest = rw (k, rest) refl

-- ---- one state is written at an object that is not of the set

module _ (side : ℕ → Bool) (s r : State) (alike : Alike side s r) where
  pub others_node : (c : ℕ) (node : Node) → side c ≡ false → Alike side (record s { nodes = set s.nodes c node }) r
  others_node c node out = search (rules, length-set, other_write, no_node)

  pub others_thread : (t : ℕ) (thread : ThreadState) → side t ≡ false
      → Alike side (record s { threads = set s.threads t thread }) r
  others_thread t thread out = search (rules, length-set, other_write, no_thread)

  pub others_irq : (d : ℕ) (bound : Option ℕ) → side d ≡ false → Alike side (record s { irqs = set s.irqs d bound }) r
  others_irq d bound out = search (rules, length-set, other_write)

  pub others_mapped : (m : Mapped) → side m.space ≡ false → Alike side (record s { mapped = s.mapped ++ m ∷ [] }) r
  others_mapped m out = search (rules, filter_none)

  -- ---- the same is written in both

  pub both_nodes : (c : ℕ) (node : Node)
      → Alike side (record s { nodes = set s.nodes c node }) (record r { nodes = set r.nodes c node })
  both_nodes c node = search (rules, same_length, same_write, no_node)

  pub both_threads : (t : ℕ) (thread : ThreadState) → Alike side (record s { threads = set s.threads t thread })
      (record r { threads = set r.threads t thread })
  both_threads t thread = search (rules, same_length, same_write, no_thread)

  pub both_irqs : (d : ℕ) (bound : Option ℕ)
      → Alike side (record s { irqs = set s.irqs d bound }) (record r { irqs = set r.irqs d bound })
  both_irqs d bound = search (rules, same_length, same_write)

  pub both_mapped : (m : Mapped)
      → Alike side (record s { mapped = s.mapped ++ m ∷ [] }) (record r { mapped = r.mapped ++ m ∷ [] })
  both_mapped m = search (rules, filter-append, filter)

  pub both_grown : (c : ℕ) (content : Content) → side c ≡ true → Alike side (record s { nodes = grown_at s.nodes c content })
      (record r { nodes = grown_at r.nodes c content })
  both_grown c content here = search (rules, grown_at, set, grown, both_nodes, node_at)

  pub both_without : (c i : ℕ) → side c ≡ true → Alike side (record s { nodes = without_at s.nodes c i })
      (record r { nodes = without_at r.nodes c i })
  both_without c i here = search (rules, without_at, set, without, both_nodes, node_at)

  pub both_waiting : (t : ℕ) (b : Bool) → side t ≡ true → Alike side (record s { threads = waiting s.threads t b })
      (record r { threads = waiting r.threads t b })
  both_waiting t b here = search (rules, waiting, set, both_threads, thread_at)

  pub both_pending : (t : ℕ) (pending : Option Pending) → side t ≡ true
      → Alike side (record s { threads = with_pending s.threads t pending })
      (record r { threads = with_pending r.threads t pending })
  both_pending t pending here = search (rules, with_pending, set, both_threads, thread_at)

  pub both_root : (t c : ℕ) → side t ≡ true → Alike side (record s { threads = with_root s.threads t c })
      (record r { threads = with_root r.threads t c })
  both_root t c here = search (rules, with_root, set, both_threads, thread_at)

  pub both_space : (t d : ℕ) → side t ≡ true → Alike side (record s { threads = with_space s.threads t d })
      (record r { threads = with_space r.threads t d })
  both_space t d here = search (rules, with_space, set, both_threads, thread_at)

  -- ---- what one state has at objects of the set, the other has too

  pub waits_too : (t : ℕ) (b : Bool) → side t ≡ true → (thread_at s t).waits ≡ b → (thread_at r t).waits ≡ b
  waits_too t b here h = subst (λ (x : ThreadState). x.waits ≡ b) (alike.threads t here) h

  pub root_too : (t : ℕ) (o : Option ℕ) → side t ≡ true → (thread_at s t).root ≡ o → (thread_at r t).root ≡ o
  root_too t o here h = subst (λ (x : ThreadState). x.root ≡ o) (alike.threads t here) h

  pub space_too : (t : ℕ) (o : Option ℕ) → side t ≡ true → (thread_at s t).space ≡ o → (thread_at r t).space ≡ o
  space_too t o here h = subst (λ (x : ThreadState). x.space ≡ o) (alike.threads t here) h

  pub owes_too : (t : ℕ) (pending : Pending) → side t ≡ true → Owes s t pending → Owes r t pending
  owes_too t pending here h = subst (λ (x : ThreadState). x.pending ≡ Some pending) (alike.threads t here) h

  pub acts_too : (t c : ℕ) → side t ≡ true → Acts s t c → Acts r t c
  acts_too t c here acts = record { runs = waits_too t false here acts.runs; root = root_too t (Some c) here acts.root }

  pub content_too : (c i : ℕ) (o : Option Content) → side c ≡ true → content_in s c i ≡ o → content_in r c i ≡ o
  content_too c i o here h = subst (λ (n : Node). content_at n i ≡ o) (alike.nodes c here) h

  pub own_too : (kind : ℕ → Bool) (c i : ℕ) (cap : Cap) → side c ≡ true → Own kind s c i cap → Own kind r c i cap
  own_too kind c i cap here own = record { there = content_too c i _ here own.there; is = own.is }

  pub irq_too : (d : ℕ) (o : Option ℕ) → side d ≡ true → irq_at s d ≡ o → irq_at r d ≡ o
  irq_too d o here h = sym (alike.irqs d here) ∙ h

  pub mapped_too : (m : Mapped) → side m.space ≡ true → Contains s.mapped m → Contains r.mapped m
  mapped_too m here there =
      let p = λ (m : Mapped). side m.space in
      from_filter p r.mapped m (subst (λ (ms : List Mapped). Contains ms m) alike.mapped (to_filter p s.mapped m there here))
