-- The steps of a run can be read back: who acts has a root, so is a thread, and its name is a word; and the numbers that steps
-- name hold something, so lie below the next number of a CNode, which grows by one a step at most.
use Rattle.step_text.proofs.Common.{All, All-cons, All-nil, AllByRecursion, Bool, Decides-eqb, Decides-ltb, Entry, IsNamed, IsNumber, IsReadable, List, None, Option, Some, Spec, Step, [], all_at, and_parts, ap, arith, bytes_eq, cond, false, get_or}
use Rattle.step_text.proofs.Common.{inl, inr, is_name, is_thread, is_word_byte, kind_is, length, list_all, nat_lt, not, position_or_len, refl, set, slice_get, subst, suc, sym, thread_named, true, zero, ℕ}
use Rattle.step_text.proofs.Common.{rules, ◌&&◌, ◌++◌, ◌+◌, ◌<◌, ◌==◌, ◌^◌, ◌∙◌, ◌∷◌, ◌≡◌, ◌≤◌, ◌⊎◌}
use Rattle.std.proofs.lemmas.Option.{get_or_from_slice_get, slice_get_within}
use Rattle.std.specs.Map.{keys_of, lookup}
use Rattle.cap_machine.proofs.Applied.{nexts_fit, read_written}
use Rattle.cap_machine.proofs.Booting.{all_bootable, boot_fits, boot_nexts_fit}
use Rattle.cap_machine.proofs.Fitting.{step_fits}
use Rattle.cap_machine.proofs.NodeSlots.{below_filter, below_last, boot_below}
use Rattle.cap_machine.proofs.Table.{in_table}
use Rattle.cap_machine.specs.Decide.{changed}
use Rattle.cap_machine.specs.Effects.{grown_at, without_at}
use Rattle.cap_machine.specs.Progress.{Bootable, NextsFit}
use Rattle.cap_machine.specs.Runs.{Run}
use Rattle.cap_machine.specs.StepTable.{Acts, StepTo}
use Rattle.cap_machine.specs.declared.change.Change.{Change}
use Rattle.cap_machine.specs.declared.change.Change.TheVariants as changes
use Rattle.cap_machine.specs.declared.step.Step.TheVariants as steps
use Rattle.cap_model.proofs.BootPlaces.{at_entry}
use Rattle.cap_model.proofs.Found.{found}
use Rattle.cap_model.specs.FitsSpec.{FitsSpec}
use Rattle.cap_model.specs.Kept.{IsKept}
use Rattle.cap_model.specs.Kinds.{is_at, kind_at, kind_of_object}
use Rattle.cap_model.specs.State.{Node, State, boot, boot_node, content_in, no_node, no_thread, node_at, thread_at}
use Rattle.cap_model.specs.declared.kind.Kind.{Kind}
use Rattle.cap_model.specs.declared.kind.Kind.TheVariants as kinds
use Rattle.cap_model.specs.declared.object.Object.{Object}
use Rattle.cap_model.specs.declared.object.Object.TheVariants as objects
use Rattle.cap_model.specs.declared.state.Content.{Content}
use Rattle.cap_model.specs.declared.state.Content.TheVariants.{Capability, SavedReply}

-- ---- numbers lie below the next number

abbrev AllBelow : List Node → Type 0
AllBelow nodes = (c : ℕ) → AllByRecursion (λ n. n < (get_or nodes c no_node).next) (keys_of (get_or nodes c no_node).slots)

abbrev IsBelow : Node → Type 0
IsBelow node = AllByRecursion (λ n. n < node.next) (keys_of node.slots)

below_written : (nodes : List Node) (c : ℕ) (node : Node) → AllBelow nodes → IsBelow node → AllBelow (set nodes c node)
below_written nodes c node all here k =
    elim (read_written nodes c k node no_node) [
      | inl e ↦ subst IsBelow (sym e) (all k)
      | inr e ↦ subst IsBelow (sym e.1) here
    ]

grows : (nodes : List Node) (c : ℕ) (content : Content) → AllBelow nodes → AllBelow (grown_at nodes c content)
grows nodes c content all = search (rules, below_written, below_last)

drops : (nodes : List Node) (c i : ℕ) → AllBelow nodes → AllBelow (without_at nodes c i)
drops nodes c i all = search (rules, below_written, below_filter)

change_below : (s : State) (change : Change) → AllBelow s.nodes → AllBelow (changed s change).nodes
change_below s (changes.Add node x) all = grows s.nodes node (Capability x) all
change_below s (changes.Call t u grants) all = all
change_below s (changes.Reply t caller) all = all
change_below s (changes.ReplyAdd t caller node x) all = grows s.nodes node (Capability x) all
change_below s (changes.Root thread node) all = all
change_below s (changes.Space thread root) all = all
change_below s (changes.Map added) all = all
change_below s (changes.Bind irq notification) all = all
change_below s (changes.Drop node i) all = drops s.nodes node i all
change_below s (changes.Save t node pending) all = grows s.nodes node (SavedReply pending) all
change_below s (changes.Release node i caller) all = drops s.nodes node i all
change_below s (changes.ReleaseAdd node i caller to x) all = drops (grown_at s.nodes to (Capability x)) node i
    (grows s.nodes to (Capability x) all)

boot_node_below : (object : Object) → Bootable object → IsBelow (boot_node object)
boot_node_below (objects.CNode bits slots) b = boot_below (2 ^ bits) slots b.2
boot_node_below objects.Endpoint b = tt
boot_node_below objects.Notification b = tt
boot_node_below (objects.Thread tcb) b = tt
boot_node_below (objects.Frame paddr fill) b = tt
boot_node_below (objects.Pages level slots) b = tt
boot_node_below (objects.Irq notification) b = tt

all_boot_below : (spec : Spec) → IsKept spec → AllBelow (boot spec).nodes
all_boot_below spec kept c =
    elim (at_entry boot_node spec.entries c no_node) [
      | inl there ↦ subst IsBelow (sym there.2) (boot_node_below there.0.object (at_place there.0 there.1))
      | inr none ↦ subst IsBelow (sym none) tt
    ]
  where
    at_place : (entry : Entry) → slice_get spec.entries c ≡ Some entry → Bootable entry.object
    at_place entry there =
        subst (λ (e : Entry). Bootable e.object) (get_or_from_slice_get spec.entries c entry entry there)
        (all_bootable spec kept c entry (slice_get_within spec.entries c entry there))

found_below : (slots : List (ℕ × Content)) (i bound : ℕ) (content : Content) → AllByRecursion (λ n. n < bound) (keys_of slots)
    → lookup (λ n. n == i) slots ≡ Some content → i < bound
found_below [] i bound content all there = absurd cc
found_below ((n, x) ∷ slots) i bound content all there = go (n == i) refl (λ h. found_below slots i bound content all.1 h)
  where
    go : (b : Bool) → (n == i) ≡ b → (lookup (λ n. n == i) slots ≡ Some content → i < bound) → i < bound
    go true e rest = let same : n ≡ i = (Decides-eqb n i).0 e in let less = all.0 in omega (arith, same, less)
    go false e rest = rest (rw e at there)

-- ---- threads by name

-- the first of those that pass two tests, where it is the first that passes the second one
first_of_both : {A : Type 0} (p q : A → Bool) (xs : List A) (t : ℕ) (x : A) → slice_get xs t ≡ Some x → p x ≡ true
    → position_or_len q xs ≡ t → position_or_len (λ y. p y && q y) xs ≡ t
first_of_both p q [] t x there passes first = absurd cc
first_of_both p q (y ∷ xs) zero x there passes first = search (rules)
first_of_both p q (y ∷ xs) (suc t) x there passes first = go (q y) refl (λ less. first_of_both p q xs t x there passes less)
  where
    neither_passes : (b : Bool) → position_or_len (λ y. p y && q y) xs ≡ t
        → cond (not (b && false)) (1 + position_or_len (λ y. p y && q y) xs) 0 ≡ suc t
    neither_passes true rest = omega (arith, rest)
    neither_passes false rest = omega (arith, rest)

    go : (b : Bool) → q y ≡ b → (position_or_len q xs ≡ t → position_or_len (λ y. p y && q y) xs ≡ t)
        → position_or_len (λ y. p y && q y) (y ∷ xs) ≡ suc t
    go true e rest = let no : 0 ≡ suc t = rw e at first in absurd cc
    go false e rest = grind (arith, neither_passes)

place_is : (n t length : ℕ) → cond (nat_lt n length) (Some n) None ≡ Some t → n ≡ t
place_is n t length is = search (rules)

thread_of : (object : Object) → kind_of_object object ≡ kinds.Thread → is_thread object ≡ true
thread_of (objects.Thread tcb) is = refl
thread_of objects.Endpoint is = absurd cc
thread_of objects.Notification is = absurd cc
thread_of (objects.CNode bits slots) is = absurd cc
thread_of (objects.Frame paddr fill) is = absurd cc
thread_of (objects.Pages level slots) is = absurd cc
thread_of (objects.Irq notification) is = absurd cc

word_of_name : (name : List ℕ) → is_name name ≡ true → list_all is_word_byte name ≡ true
word_of_name [] is = absurd cc
word_of_name (b ∷ bs) is = search (rules, and_parts)

module _ (spec : Spec) (kept : IsKept spec) (named : list_all (λ entry. is_name entry.name) spec.entries ≡ true) where
  entry_named : (t : ℕ) (entry : Entry) → slice_get spec.entries t ≡ Some entry → is_thread entry.object ≡ true → IsNamed spec t
  entry_named t entry there thread =
      record {
        word = rw there (word_of_name entry.name (all_at (λ (e : Entry). is_name e.name) spec.entries t entry named there));
        found = rw there place;
      }
    where
      place : thread_named spec entry.name ≡ Some t
      place =
          let first : position_or_len (λ (e : Entry). bytes_eq e.name entry.name) spec.entries ≡ t =
          place_is _ t (length spec.entries) (found spec t entry kept there) in
          let both = first_of_both (λ (e : Entry). is_thread e.object) (λ e. bytes_eq e.name entry.name) spec.entries t entry
          there thread first in
          let less : nat_lt t (length spec.entries) ≡ true = search (rules, slice_get_within) in
          rw (both, less) refl

  thread_is_named : (t : ℕ) → is_at spec kinds.Thread t ≡ true → IsNamed spec t
  thread_is_named t is = go (slice_get spec.entries t) refl (kind_is spec kinds.Thread t is)
    where
      go : (o : Option Entry) → slice_get spec.entries t ≡ o → kind_at spec t ≡ Some kinds.Thread → IsNamed spec t
      go None e kind = let no : ◌≡◌ {A = Option Kind} None (Some kinds.Thread) = rw e at kind in absurd cc
      go (Some entry) e kind =
          let there : ◌≡◌ {A = Option Kind} (Some (kind_of_object entry.object)) (Some kinds.Thread) = rw e at kind in
          let same : kind_of_object entry.object ≡ kinds.Thread = cc in
          entry_named t entry e (thread_of entry.object same)

  -- a state of a run, behind so many steps
  record IsReached (s : State) (n : ℕ) : Type 0 where
    pub fits : FitsSpec spec s
    pub nexts : NextsFit s.nodes n
    pub below : AllBelow s.nodes

  begun : IsReached (boot spec) 0
  begun = search (rules, boot_fits, boot_nexts_fit, all_bootable, all_boot_below)

  goes_on : (s new : State) (n : ℕ) (step : Step) → IsReached s n → StepTo spec s step new → IsReached new (n + 1)
  goes_on s new n step r to = search (rules, in_table, step_fits, nexts_fit, change_below)

  module _ (s : State) (n : ℕ) (few : n < 2 ^ 63) (r : IsReached s n) where
    small : (c i : ℕ) (content : Content) → content_in s c i ≡ Some content → IsNumber i
    small c i content there =
        let under = found_below (node_at s c).slots i (node_at s c).next content (r.below c) there in
        let most = r.nexts.fits c in
        omega (arith, under, most, few)

    acts_named : (t c : ℕ) → Acts s t c → IsNamed spec t
    acts_named t c acts = go (r.fits.threads t).kind
      where
        go : (thread_at s t ≡ no_thread) ⊎ (is_at spec kinds.Thread t ≡ true) → IsNamed spec t
        go (inl none) = let no : no_thread.root ≡ Some c = subst (λ z. z.root ≡ Some c) none acts.root in absurd cc
        go (inr is) = thread_is_named t is

    step_readable : (step : Step) (new : State) → StepTo spec s step new → IsReadable spec step
    step_readable (steps.Take t i j x) new (c, to, cap, acts, own, there, e) =
        (acts_named t c acts, small c i (Capability to) own.there, small to.object j (Capability cap) there)
    step_readable (steps.Put t i j x) new (c, to, cap, acts, own, there, e) =
        (acts_named t c acts, small c i (Capability to) own.there, small c j (Capability cap) there)
    step_readable (steps.Grant t i u j k x) new (c, to, cap, d, from, acts, own, may, there, peer, e) =
        search (rules, acts_named, small)
    step_readable (steps.Call t i u j) new (c, to, d, from, acts, own, may, peer, e) = search (rules, acts_named, small)
    step_readable (steps.Reply t None) new (c, pending, acts, owes, e) = acts_named t c acts
    step_readable (steps.Reply t (Some copy)) new (c, pending, cap, d, acts, owes, grants, there, root, e) =
        (acts_named t c acts, small c copy.0 (Capability cap) there)
    step_readable (steps.SetCspace t i j) new (c, to, cap, acts, own, of, e) =
        (acts_named t c acts, small c i (Capability to) own.there, small c j (Capability cap) of.there)
    step_readable (steps.SetVspace t i j) new (c, to, cap, acts, own, of, e) =
        (acts_named t c acts, small c i (Capability to) own.there, small c j (Capability cap) of.there)
    step_readable (steps.Map t i j x) new (c, frame, cap, acts, own, of, e) =
        (acts_named t c acts, small c i (Capability frame) own.there, small c j (Capability cap) of.there)
    step_readable (steps.Bind t i j) new (c, irq, cap, acts, own, of, writes, e) =
        (acts_named t c acts, small c i (Capability irq) own.there, small c j (Capability cap) of.there)
    step_readable (steps.Drop t i) new (c, content, acts, there, e) = (acts_named t c acts, small c i content there)
    step_readable (steps.Save t) new (c, pending, acts, owes, e) = acts_named t c acts
    step_readable (steps.ReplyTo t i None) new (c, reply, acts, there, e) =
        (acts_named t c acts, small c i (SavedReply reply) there)
    step_readable (steps.ReplyTo t i (Some copy)) new (c, reply, cap, d, acts, own, grants, there, root, e) =
        (acts_named t c acts, small c i (SavedReply reply) own, small c copy.0 (Capability cap) there)

  all_readable : (list : List Step) (s new : State) (n : ℕ) → n + length list < 2 ^ 63 → IsReached s n → Run spec s list new
      → All (IsReadable spec) list
  all_readable [] s new n few r run = All-nil (IsReadable spec)
  all_readable (step ∷ list) s new n few r (then, one, more) =
      All-cons (IsReadable spec) step list (step_readable s n (omega (arith, few)) r step then one)
      (all_readable list then new (n + 1) (omega (arith, few)) (goes_on s then n step r one) more)

  pub run_readable : (list : List Step) (new : State) → Run spec (boot spec) list new → length list < 2 ^ 63
      → All (IsReadable spec) list
  run_readable list new run few = all_readable list (boot spec) new 0 (omega (arith, few)) begun run
