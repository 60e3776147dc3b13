-- What threads have is of their own domains.
use Rattle.spec_laws.proofs.Common.{Authority, Buffer, CNodeOf, Cap, Domain, FrameOf, Given, IsConnected, IsIn, IsThere, List, MappedPage, None, Object, OfThreads, Option, Own, Page, RW, Region, Some, TableOf, Tables, Tcb, ThreadPlace, []}
use Rattle.spec_laws.proofs.Common.{ap, arith, at_entry, base, boot_thread, buffer_of, buffer_start, cap, domain_label, eqb-true, find, flat_map, found, frame_at, get_behind, get_front, inl, inr, label_of, map, mapped_pages, no_thread}
use Rattle.spec_laws.proofs.Common.{number_of, number_shown, object, object_at, option_map, page, page_of, pages_at, place, place_of, policy_tables, refl, region, region_start, regions, slice_get, spec_of, suc, sym, tcb}
use Rattle.spec_laws.proofs.Common.{rules, thread_regions, threads_at, threads_of, window_region, windows_of, zero, ℕ, ◌*◌, ◌+◌, ◌==◌, ◌∙◌, ◌∷◌, ◌≡◌}
use Rattle.cap_model.specs.declared.object.Object.TheVariants as objects
use Rattle.cap_model.specs.declared.state.ThreadState.{ThreadState}
use Rattle.vspace_layout.specs.declared.thread.ThreadOf.{ThreadOf as Described}
use Rattle.spec_laws.proofs.Lists.{rises_tell}
use Rattle.spec_laws.proofs.Mapped.{first_page, from_pages, from_threads, in_pages, laid, own_frame}
use Rattle.spec_laws.proofs.TablesHere.{root_there}
use Rattle.spec_laws.proofs.Whose.{IsAt, entry_is, label_there, labels, object_stands, of_tcb}

-- the second region of thread i is its buffer
buffer_region : (g : Given) (xs : List Described) (i n : ℕ) (x : Described) → slice_get xs i ≡ Some x → n ≡ 2 * i + 1
    → slice_get (flat_map (thread_regions g.settled) xs) n ≡ Some (region Buffer 1)
buffer_region g [] i n x e s = cc
buffer_region g (y ∷ ys) zero n x e s = search (rules)
buffer_region g (y ∷ ys) (suc i) n x e s =
    get_behind (thread_regions g.settled y) (flat_map (thread_regions g.settled) ys) (2 * i + 1) n (omega (arith, s))
    ∙ buffer_region g ys i (2 * i + 1) x e refl

module _ (t : Tables) (h : IsConnected t) where
  -- the page of a thread's buffer
  record HasBuffer (d i : ℕ) : Type 0 where
    number : ℕ
    mapped : MappedPage
    here : slice_get (mapped_pages (laid t h) d) number ≡ Some mapped
    at : mapped.at ≡ buffer_start (laid t h) d i
    own : mapped.shown ≡ Own None

  has_buffer : (d i : ℕ) (x : Described) → slice_get (threads_of (laid t h) d) i ≡ Some x → HasBuffer d i
  has_buffer d i x e =
      let g = laid t h in let n = 2 * i + 1 in
      let r : Region = region Buffer 1 in
      let there : slice_get (regions g d) n ≡ Some r = get_front (flat_map (thread_regions g.settled) (threads_of g d))
      (map (window_region g.flat g.settled) (windows_of g d)) n r (buffer_region g (threads_of g d) i n x e refl) in
      let p : MappedPage = page_of g.settled (region_start (base g) (regions g d) n) r 0 in
      let m = place_of p (mapped_pages g d) (first_page g d n r there (omega arith)) in
      record { number = m.0; mapped = p; here = m.1; at = omega arith; own = refl }

  -- ---- a thread that stands

  pub record IsThread (o : ℕ) (x : Tcb) : Type 0 where
    pub domain : ℕ
    pub found : Domain
    pub here : slice_get t.flat.domains domain ≡ Some found
    pub number : ℕ
    pub thread : ThreadPlace
    pub stands : slice_get (threads_at t domain) number ≡ Some thread
    pub is : tcb t domain thread ≡ x
    pub label : label_of (labels t) o ≡ domain_label (policy_tables t) domain

  thread_is : (o : ℕ) (x : Tcb) → IsAt t o (objects.Thread x) → IsThread o x
  thread_is o x at = search (rules, of_tcb, found, labels, label_there)

  -- ---- roots and spaces

  root_of : (o n : ℕ) (x : Object) → IsAt t o x → (boot_thread x).root ≡ Some n → label_of (labels t) o ≡ label_of (labels t) n
  root_of o n (objects.Thread x) at there =
      let w = thread_is o x at in
      let root : Some (place t (CNodeOf w.domain)) ≡ Some n = ap (λ (z : Tcb). z.cspace) w.is ∙ there in
      let same : place t (CNodeOf w.domain) ≡ n = cc in
      w.label ∙ sym (label_there t (CNodeOf w.domain) (w.found, w.here)) ∙ ap (label_of (labels t)) same
  root_of o n _ at there = absurd cc

  -- a domain with a thread has a page, so it has a root
  space_there : {o : ℕ} {x : Tcb} (w : IsThread o x) → IsThere t (TableOf w.domain 0)
  space_there w =
      let f = from_threads t h w.domain w.number w.found w.thread w.here w.stands in
      let b = has_buffer w.domain w.number f.0 f.1 in
      root_there t w.domain w.found (page (laid t h) w.domain b.number b.mapped) w.here
      (in_pages t h w.domain b.number w.found b.mapped w.here b.here)

  space_of : (o n : ℕ) (x : Object) → IsAt t o x → (boot_thread x).space ≡ Some n → label_of (labels t) o ≡ label_of (labels t) n
  space_of o n (objects.Thread x) at there =
      let w = thread_is o x at in
      let root : Some (place t (TableOf w.domain 0)) ≡ Some n = ap (λ (z : Tcb). z.vspace) w.is ∙ there in
      let same : place t (TableOf w.domain 0) ≡ n = cc in
      w.label ∙ sym (label_there t (TableOf w.domain 0) (space_there w)) ∙ ap (label_of (labels t)) same
  space_of o n _ at there = absurd cc

  -- ---- buffers

  from_frame : (d : ℕ) (pages : List Page) (at : ℕ) (held : Cap)
      → option_map (λ f. cap (place t (FrameOf f)) RW 0) (frame_at pages at) ≡ Some held
      → (p : Page) × IsIn p pages × (p.vaddr ≡ at) × (held.object ≡ place t (FrameOf p.frame))
  from_frame d pages at held e = go (find (λ (p : Page). p.vaddr == at) pages) refl where
    go : (o : Option Page) → find (λ (p : Page). p.vaddr == at) pages ≡ o → (p : Page) × IsIn p pages × (p.vaddr ≡ at)
        × (held.object ≡ place t (FrameOf p.frame))
    go None q = search (rules)
    go (Some p) q =
        let f = found (λ (p : Page). p.vaddr == at) pages p q in
        let w : Some (cap (place t (FrameOf p.frame)) RW 0) ≡ Some held = search (rules) in
        let same : held ≡ cap (place t (FrameOf p.frame)) RW 0 = cc in
        (p, f.0, eqb-true p.vaddr at f.1, ap (λ (z : Cap). z.object) same)

  buffer_own : (o : ℕ) (held : Cap) (x : Tcb) → IsThread o x → x.buffer ≡ Some held
      → label_of (labels t) o ≡ label_of (labels t) held.object
  buffer_own o held x w e =
      let g = laid t h in let d = w.domain in
      let f = from_threads t h d w.number w.found w.thread w.here w.stands in
      let b = has_buffer d w.number f.0 f.1 in
      let p = from_frame d (pages_at t d) w.thread.buffer held (ap (λ (z : Tcb). z.buffer) w.is ∙ e) in
      let q = from_pages t h d w.found p.0 w.here p.1 in
      let start : buffer_start g d w.number ≡ w.thread.buffer = ap (λ (z : ThreadPlace). z.buffer) f.2 in
      let address : q.mapped.at ≡ b.mapped.at = ap (λ (z : Page). z.vaddr) q.is ∙ p.2 ∙ sym start ∙ sym b.at in
      let one : q.mapped ≡ b.mapped = search (rules, rises_tell) in
      let own = own_frame t h d q.number w.found q.mapped w.here q.here (None, ap (λ (z : MappedPage). z.shown) one ∙ b.own) in
      let n = number_shown g d q.number q.mapped.shown in
      let frame : n ≡ p.0.frame = ap (λ (z : Page). z.frame) q.is in
      w.label ∙ sym (label_there t (FrameOf n) own.0 ∙ ap (number_of t.numbers) own.1)
      ∙ ap (λ z. label_of (labels t) (place t (FrameOf z))) frame ∙ ap (label_of (labels t)) (sym p.3)

  buffer_label : (o : ℕ) (held : Cap) → buffer_of (object_at (spec_of t) o) ≡ Some held
      → label_of (labels t) o ≡ label_of (labels t) held.object
  buffer_label o held e = go (object_at (spec_of t) o) refl e where
    go : (x : Option Object) → object_at (spec_of t) o ≡ x → buffer_of x ≡ Some held
        → label_of (labels t) o ≡ label_of (labels t) held.object
    go (Some (objects.Thread x)) q e = buffer_own o held x (thread_is o x (object_stands t o (objects.Thread x) q)) e
    go _ q e = absurd cc

  -- ---- all that threads have

  pub threads : (l : ℕ) (a : Authority) (m : ℕ) → OfThreads (spec_of t) (labels t) l a m → l ≡ m
  threads l a m (inl (o, n, there, is, from, to)) = elim (at_entry boot_thread (spec_of t).entries o no_thread) [
    | inl f ↦ from ∙ root_of o n f.0.object (entry_is t o f.0 f.1) (ap (λ (z : ThreadState). z.root) (sym f.2) ∙ there) ∙ sym to
    | inr none ↦ absurd (let w = ap (λ (z : ThreadState). z.root) (sym none) ∙ there in cc)
  ]
  threads l a m (inr (inl (o, n, there, is, from, to))) = elim (at_entry boot_thread (spec_of t).entries o no_thread) [
    | inl f ↦ from ∙ space_of o n f.0.object (entry_is t o f.0 f.1) (ap (λ (z : ThreadState). z.space) (sym f.2) ∙ there) ∙ sym to
    | inr none ↦ absurd (let w = ap (λ (z : ThreadState). z.space) (sym none) ∙ there in cc)
  ]
  threads l a m (inr (inr (o, held, there, conf, from, to))) = from ∙ buffer_label o held there ∙ sym to
