-- The edges of a least certificate go from labels of objects to labels of objects.
use Rattle.text_commands.proofs.Common.{Authority, Bool, Contains, Edge, FitsSpec, Has, IsLeast, KeepsRules, List, Node, None, Option, Some, Spec, [], and_parts, ap, arith, boot, edge, false, filter, has, inl, inr, irq_at, length, list_any}
use Rattle.text_commands.proofs.Common.{nat_tests, no_node, no_thread, node_at, refl, same_edge, same_edge_true, slice_index, subst, suc, sym, table_keeps, thread_at, true, zero, ℕ, ◌&&◌, ◌<◌, ◌==◌, ◌||◌, ◌∙◌, ◌∷◌, ◌≡◌, ◌⊎◌}
use Rattle.std.proofs.lemmas.Map.Views.{any-filter_same}
use Rattle.cap_model.specs.ObjectLabels.{label_of}
use Rattle.authorities.specs.declared.authority.Authority.TheVariants.{Receive, AsyncSend, Grant, Control, Call, Reply, GrantBack, Handle}
use Rattle.cap_machine.proofs.Booting.{boot_fits}
use Rattle.cap_model.proofs.BootPlaces.{contains_at}
use Rattle.cap_model.proofs.Kept.{fits_below, is_at_below, object_below, object_kept, root_below, slot_kept}
use Rattle.cap_model.specs.Auth.{Held, Structural, buffer_of, table_of}
use Rattle.cap_model.specs.Kept.{IsKept, fits, fits_as, if_any, keeps_table}
use Rattle.cap_model.specs.Kinds.{is_at}
use Rattle.cap_model.specs.Levels.{child, size}
use Rattle.cap_model.specs.Lookup.{object_at}
use Rattle.cap_model.specs.declared.cap.Cap.{Cap}
use Rattle.cap_model.specs.declared.kind.Kind.TheVariants as kinds
use Rattle.cap_model.specs.declared.level.Level.{Level}
use Rattle.cap_model.specs.declared.object.Object.{Object}
use Rattle.cap_model.specs.declared.object.Object.TheVariants as objects
use Rattle.cap_model.specs.declared.object.Tcb.{Tcb}
use Rattle.cap_model.specs.declared.state.Content.{Content}
use Rattle.cap_model.specs.declared.state.Content.TheVariants.{Capability, SavedReply}
use Rattle.cap_model.specs.declared.state.ThreadState.{ThreadState}

-- it is one of them
abbrev pub is_among : List ℕ → ℕ → Bool
is_among labels l = list_any (λ n. n == l) labels

index_among : (labels : List ℕ) (k : ℕ) → k < length labels → is_among labels (slice_index labels k) ≡ true
index_among [] k less = let no : k < 0 = less in absurd (omega (arith, no))
index_among (n ∷ labels) zero less = let same : (n == n) ≡ true = grind (arith, nat_tests) in
    ap (λ b. b || is_among labels n) same
index_among (n ∷ labels) (suc k) less = go (n == slice_index labels k) (index_among labels k (omega (arith, less)))
  where
    go : (b : Bool) → is_among labels (slice_index labels k) ≡ true → (b || is_among labels (slice_index labels k)) ≡ true
    go true h = refl
    go false h = h

none_there : (i : ℕ) (content : Content) (node : Node) → node ≡ no_node → Contains node.slots (i, content) → ⊥
none_there i content node none there = let at = contains_at {A = ℕ × Content} [] (i, content)
    (subst (λ (z : Node). Contains z.slots (i, content)) none there) in let no = at.1 in cc

module _ (spec : Spec) (labels : List ℕ) (kept : IsKept spec) (each : length labels ≡ length spec.entries) where
  abbrev good : ℕ → Bool
  good = is_among labels

  abbrev GoodEnds : ℕ → ℕ → Type 0
  GoodEnds l m = (good l ≡ true) × (good m ≡ true)

  at_object : (o l : ℕ) → o < length spec.entries → l ≡ label_of labels o → good l ≡ true
  at_object o l below is = ap good is ∙ index_among labels o (rw each below)

  of_objects : (c o l m : ℕ) → c < length spec.entries → o < length spec.entries → l ≡ label_of labels c → m ≡ label_of labels o
      → GoodEnds l m
  of_objects c o l m from to is be = (at_object c l from is, at_object o m to be)

  sound : FitsSpec spec (boot spec)
  sound = boot_fits spec kept

  held_ends : (l : ℕ) (a : Authority) (m : ℕ) → Held spec labels (boot spec) l a m → GoodEnds l m
  held_ends l a m (c, i, cap, there, conferred, from, to) = go (sound.nodes c).kind
    where
      go : (node_at (boot spec) c ≡ no_node) ⊎ (is_at spec kinds.CNode c ≡ true) → GoodEnds l m
      go (inl none) = absurd (none_there i (Capability cap) (node_at (boot spec) c) none there)
      go (inr is) = of_objects c cap.object l m (is_at_below spec kinds.CNode c is) ((sound.nodes c).slots i (Capability cap)
          there) from to

  buffer_kept : (tcb : Tcb) (cap : Cap) → tcb.buffer ≡ Some cap → if_any (fits_as spec kinds.Frame) tcb.buffer ≡ true
      → cap.object < length spec.entries
  buffer_kept tcb cap is h = grind (arith, fits_below, and_parts)

  buffer_ends : (t : ℕ) (cap : Cap) (here : Option Object) → object_at spec t ≡ here → buffer_of here ≡ Some cap
      → (t < length spec.entries) × (cap.object < length spec.entries)
  buffer_ends t cap (Some (objects.Thread tcb)) e is =
      let keeps = object_kept spec t (objects.Thread tcb) kept e in
      let halves = and_parts _ _ keeps in
      let rest = and_parts _ _ halves.1 in
      (object_below spec t (objects.Thread tcb) e, buffer_kept tcb cap is rest.1)
  buffer_ends t cap _ e is = absurd cc

  slot_below : (level : Level) (o : Option ℕ) (slots : List (ℕ × Cap)) (i : ℕ) (cap : Cap) → keeps_table spec level o slots ≡ true
      → Contains slots (i, cap) → cap.object < length spec.entries
  slot_below level None slots i cap h there = absurd cc
  slot_below level (Some n) slots i cap h there =
      let at = contains_at slots (i, cap) there in
      let test = slot_kept (fits_as spec (child level)) n slots at.0 (i, cap) h at.1 in
      fits_below spec cap (and_parts (is_at spec (child level) cap.object) (fits spec cap) test.1).1

  nothing_in : (i : ℕ) (cap : Cap) → Contains {X = ℕ × Cap} [] (i, cap) → ⊥
  nothing_in i cap there = let at = contains_at {A = ℕ × Cap} [] (i, cap) there in let no = at.1 in cc

  table_ends : (p i : ℕ) (cap : Cap) (here : Option Object) → object_at spec p ≡ here → Contains (table_of here) (i, cap)
      → (p < length spec.entries) × (cap.object < length spec.entries)
  table_ends p i cap (Some (objects.Pages level slots)) e there = (
    object_below spec p (objects.Pages level slots) e,
    slot_below level (size spec.arch level) slots i cap
        (object_kept spec p (objects.Pages level slots) kept e) there,
  )
  table_ends p i cap _ e there = absurd (nothing_in i cap there)

  -- a thread that has something is one
  thread_below : {A : Type 0} (t : ℕ) (part : ThreadState → Option A) (x : A) → part no_thread ≡ None
      → part (thread_at (boot spec) t) ≡ Some x → t < length spec.entries
  thread_below t part x nothing some = go (sound.threads t).kind
    where
      go : (thread_at (boot spec) t ≡ no_thread) ⊎ (is_at spec kinds.Thread t ≡ true) → t < length spec.entries
      go (inl none) = let no : part no_thread ≡ Some x = subst (λ z. part z ≡ Some x) none some in absurd cc
      go (inr is) = is_at_below spec kinds.Thread t is

  structural_ends : (l : ℕ) (a : Authority) (m : ℕ) → Structural spec labels (boot spec) l a m → GoodEnds l m
  structural_ends l a m (Structural.of_buffer (t, cap, is, conferred, from, to)) =
      let ends = buffer_ends t cap (object_at spec t) refl is in
      of_objects t cap.object l m ends.0 ends.1 from to
  structural_ends l a m (Structural.of_table (p, i, cap, there, conferred, from, to)) =
      let ends = table_ends p i cap (object_at spec p) refl there in
      of_objects p cap.object l m ends.0 ends.1 from to
  structural_ends l a m (Structural.of_root (t, d, is, control, from, to)) =
      of_objects t d l m (thread_below t (λ z. z.root) d refl is) (is_at_below spec kinds.CNode d ((sound.threads t).root d is))
      from to
  structural_ends l a m (Structural.of_space (t, d, is, control, from, to)) =
      of_objects t d l m (thread_below t (λ z. z.space) d refl is) (root_below spec d ((sound.threads t).space d is)) from to
  structural_ends l a m (Structural.of_reply (t, pending, is, reply, from, to)) =
      of_objects t pending.caller l m (thread_below t (λ z. z.pending) pending refl is)
      (is_at_below spec kinds.Thread pending.caller ((sound.threads t).pending pending is).thread) from to
  structural_ends l a m (Structural.of_saved (c, i, saved, there, reply, from, to)) = go (sound.nodes c).kind
    where
      go : (node_at (boot spec) c ≡ no_node) ⊎ (is_at spec kinds.CNode c ≡ true) → GoodEnds l m
      go (inl none) = absurd (none_there i (SavedReply saved) (node_at (boot spec) c) none there)
      go (inr is) = of_objects c saved.caller l m (is_at_below spec kinds.CNode c is) (is_at_below spec kinds.Thread saved.caller
          ((sound.nodes c).slots i (SavedReply saved) there).thread) from to
  structural_ends l a m (Structural.of_mapped (added, there, conferred, from, to)) =
      let fit = sound.mapped added there in
      of_objects added.space added.frame l m (root_below spec added.space fit.space) (is_at_below spec kinds.Frame added.frame
      fit.frame) from to
  structural_ends l a m (Structural.of_irq (d, n, is, sends, from, to)) = go (sound.irqs d).kind
    where
      go : (irq_at (boot spec) d ≡ None) ⊎ (is_at spec kinds.Irq d ≡ true) → GoodEnds l m
      go (inl none) = absurd cc
      go (inr irq) = of_objects d n l m (is_at_below spec kinds.Irq d irq)
          (is_at_below spec kinds.Notification n ((sound.irqs d).notification n is)) from to

  -- ---- the edges that go between labels of objects keep the rules too

  abbrev inner : Edge → Bool
  inner e = good e.from && good e.to

  module _ (least : List Edge) (is : IsLeast spec labels least) where
    abbrev inside : List Edge
    inside = filter inner least

    has_inside : (e : Edge) → has inside e ≡ (inner e && has least e)
    has_inside e = any-filter_same (λ d. same_edge d e) inner (inner e) (λ d h. ap inner (same_edge_true d e h)) least

    parts : (l : ℕ) (a : Authority) (m : ℕ) → Has inside l a m → (good l ≡ true) × (good m ≡ true) × Has least l a m
    parts l a m h =
        let both = and_parts (inner (edge l a m)) (has least (edge l a m)) (sym (has_inside (edge l a m)) ∙ h) in
        let ends = and_parts (good l) (good m) both.0 in
        (ends.0, ends.1, both.1)

    whole : (l : ℕ) (a : Authority) (m : ℕ) → good l ≡ true → good m ≡ true → Has least l a m → Has inside l a m
    whole l a m from to h = has_inside (edge l a m) ∙ rw (from, to) h

    rules : KeepsRules spec labels (Has least)
    rules = table_keeps spec labels least is

    inside_keeps : KeepsRules spec labels (Has inside)
    inside_keeps = record {
      boot_held = λ l a m held. let ends = held_ends l a m held in whole l a m ends.0 ends.1 (rules.boot_held l a m held);
      boot_structural = λ l a m structural differ. let ends = structural_ends l a m structural in
          whole l a m ends.0 ends.1 (rules.boot_structural l a m structural differ);
      control_out = λ l m a x c differ h.
          let p = parts l Control m c in
          let q = parts l a x h in
          whole m a x p.1 q.1 (rules.control_out l m a x p.2 differ q.2);
      control_back = λ l m a x c differ h.
          let p = parts l Control m c in
          let q = parts m a x h in
          whole l a x p.0 q.1 (rules.control_back l m a x p.2 differ q.2);
      grant = λ s e r a x g v differ h.
          let p = parts s Grant e g in
          let q = parts r Receive e v in
          let t = parts s a x h in
          whole r a x q.0 t.1 (rules.grant s e r a x p.2 q.2 differ t.2);
      call = λ s e r c v differ.
          let p = parts s Call e c in
          let q = parts r Receive e v in
          whole r Reply s q.0 p.0 (rules.call s e r p.2 q.2 differ);
      grant_back = λ s e r a x c g differ h.
          let p = parts s Call e c in
          let q = parts r GrantBack e g in
          let t = parts r a x h in
          whole s a x p.0 t.1 (rules.grant_back s e r a x p.2 q.2 differ t.2);
      bind = λ s d n h c differ.
          let p = parts s Handle d h in
          let q = parts s AsyncSend n c in
          whole d AsyncSend n p.1 q.1 (rules.bind s d n p.2 q.2 differ);
    }

    pub least_ends : (l : ℕ) (a : Authority) (m : ℕ) → Has least l a m → (is_among labels l ≡ true) × (is_among labels m ≡ true)
    least_ends l a m h = let p = parts l a m (is.only l a m h inside inside_keeps) in (p.0, p.1)
