-- Threads and their lines
use Rattle.spec_laws.proofs.Common.{CanMap, Connector, Domain, EndAt, FlatConnection, FlatEnd, HasThread, IsIn, Leaf, List, MapLine, None, OfDomain, Option, OwnLock}
use Rattle.spec_laws.proofs.Common.{Owned, Part, Role, Rpc, Serves, SlotUse, Some, Space, Spaces, Tables, ThreadLine, ThreadPlace, To, [], ap, arith, before, cond, domain_lines, domain_tcbs, domain_threads}
use Rattle.spec_laws.proofs.Common.{end_rule, ends, ends_at, false, flat_map, from_flat_map, from_ones, gather, gather_ones, gathered, get_ones, in_flat_map, in_gather, in_left, in_right, in_together, inl, inr, is_called}
use Rattle.spec_laws.proofs.Common.{leaf_members, leaf_threads, leaves_of, length, map_lines, numbered, object_at, objects_stand, option_map_or, owned, part, parts, place, refl, sections, server, serves, slice_get, slot_line, slot_lines}
use Rattle.spec_laws.proofs.Common.{rules, space, spec_of, subst, sym, system, tcb, tcbs, thread, thread_line, thread_lines, thread_place, threads_at, threads_of, true, use_cap, window_lines, ℕ, ◌++◌, ◌+◌, ◌∙◌, ◌∷◌, ◌≡◌}
use Rattle.cap_model.specs.declared.object.Object.TheVariants as objects
use Rattle.system_spec.specs.declared.part.What.TheVariants.{ThreadOf as OfThread}
use Rattle.system_spec.specs.declared.series.Series.TheVariants as series
use Rattle.vspace_layout.specs.declared.thread.ThreadOf.{ThreadOf}
use Rattle.spec_laws.proofs.CapsFit.{end_is as end_there}
use Rattle.spec_laws.proofs.MapLines.{by_line}
use Rattle.spec_laws.proofs.Numbering.{before_same}
use Rattle.spec_laws.proofs.EndsAt.{end_of_leaf, ends_are, in_leaf_ends, once_leaf}
use Rattle.spec_laws.proofs.Once.{Once, once_cons, once_flat, once_if}
use Rattle.spec_laws.proofs.Lists.{shown_if}
use Rattle.spec_laws.proofs.EndsHere.{leaves_are}
use Rattle.spec_laws.proofs.StackPages.{thread_leaf}

called : (c : Connector) (r : Role) → is_called c r ≡ true → (c ≡ Rpc) × (r ≡ To)
called Rpc To h = (refl, refl)
called _ _ h = cc

serves_by : (t : Tables) (e : EndAt) (c : FlatConnection) (x : FlatEnd) → slice_get t.flat.connections e.connection ≡ Some c
    → slice_get c.ends e.end ≡ Some x → serves t.flat e ≡ is_called c.connector x.role
serves_by t e c x h s = ap (λ o. option_map_or (λ (z : Connector × FlatEnd). is_called z.0 z.1.role) o false)
    (end_there t e.connection e.end c x h s)

module _ (t : Tables) (can : CanMap t) where
  abbrev all : List (List EndAt)
  all = ends (system t)

  -- ---- the threads of a domain

  server_is : (leaf : ℕ) (e : EndAt) (y : ThreadOf) → IsIn y (server t.flat leaf e)
      → (serves t.flat e ≡ true) × (thread leaf (Some e) ≡ y)
  server_is leaf e y i = shown_if (serves t.flat e) (thread leaf (Some e)) y i

  pub has_thread : (d : ℕ) (x : Domain) → slice_get t.flat.domains d ≡ Some x → (y : ThreadOf) → IsIn y (threads_of (system t) d)
      → HasThread t y.leaf y.end × IsIn y.leaf x.leaves
  has_thread d x h y i =
      let a = from_flat_map (leaf_threads t.flat all) y (leaves_of t.flat d) i in
      let l = subst (λ z. IsIn a.0 z) (leaves_are (system t) d x h) a.1 in
      let g = can.grouped.listed d a.0 x h l in
      let Q : ThreadOf → Type 0 = λ z. HasThread t z.leaf z.end × IsIn z.leaf x.leaves in
      search (rules, from_flat_map, server_is, end_of_leaf, ends_are, called, serves_by)

  pub record Home (leaf : ℕ) (end : Option EndAt) : Type 0 where
    pub domain : ℕ
    pub leaves : Domain
    pub here : slice_get t.flat.domains domain ≡ Some leaves
    pub there : IsIn (thread leaf end) (threads_of (system t) domain)

  in_home : (leaf : ℕ) (end : Option EndAt) (found : Leaf) (d : ℕ) → slice_get t.flat.leaves leaf ≡ Some found
      → found.domain ≡ Some d → IsIn (thread leaf end) (leaf_threads t.flat all leaf) → Home leaf end
  in_home leaf end found d h e i =
      let g = can.grouped.inside leaf d found h e in
      record {
        domain = d;
        leaves = g.0;
        here = g.1;
        there = in_flat_map (leaf_threads t.flat all) leaf (thread leaf end)
            (leaves_of t.flat d) (subst (λ z. IsIn leaf z) (sym (leaves_are (system t) d g.0 g.1)) g.2) i;
      }

  serving : (e : EndAt) (leaf : ℕ) (v : Serves t leaf e) → Home v.end.leaf (Some e)
  serving e leaf v =
      let c = v.connection in let x = v.end in
      let w = can.joined.software e.connection e.end c x v.here v.stands (ap (λ z. (end_rule z x.role).hardware) v.is_rpc
      ∙ ap (λ z. (end_rule Rpc z).hardware) v.is_to) in
      let j = subst (λ z. IsIn e z) (sym (ends_are t x.leaf w.0 w.2)) (in_leaf_ends t x.leaf e.connection e.end c x
      (leaf_members t.source t.flat x.leaf) v.here v.stands refl (can.joined.member e.connection e.end c x v.here v.stands)) in
      let yes : serves t.flat e ≡ true = search (rules, serves_by) in
      in_home x.leaf (Some e) w.0 w.1 w.2 w.3
      (inr (in_flat_map (server t.flat x.leaf) e (thread x.leaf (Some e)) (ends_at all x.leaf) j
      (subst (λ b. IsIn (thread x.leaf (Some e)) (cond b (thread x.leaf (Some e) ∷ []) [])) (sym yes) (inl refl))))

  pub at_home : (leaf : ℕ) (end : Option EndAt) → HasThread t leaf end → Home leaf end
  at_home leaf None h = in_home leaf None h.0 h.1 h.2 h.3 (inl refl)
  at_home leaf (Some e) v = let P : ℕ → Type 0 = λ z. Home z (Some e) in subst P v.joins (serving e leaf v)

  pub once_threads : (d : ℕ) (x : Domain) → slice_get t.flat.domains d ≡ Some x → Once (threads_of (system t) d)
  once_threads d x h =
      let leaves = subst (λ z. Once z) (sym (leaves_are (system t) d x h))
      (λ i j leaf a b. can.grouped.once d i j leaf x h a b) in
      once_flat (leaf_threads t.flat all) (leaves_of t.flat d) leaves
      (λ leaf i. (
      let g = can.grouped.listed d leaf x h (subst (λ z. IsIn leaf z) (leaves_are (system t) d x h) i) in
      of_leaf leaf g.0 g.1))
      (λ l m y i j. sym (thread_leaf (system t) l y i) ∙ thread_leaf (system t) m y j) where
        none : (leaf : ℕ) (y : ThreadOf) → thread leaf None ≡ y → (e : EndAt) → thread leaf (Some e) ≡ y → ⊥
        none leaf y a e b = let nothing : Option EndAt = None in let f : nothing ≡ Some e =
            ap (λ (z : ThreadOf). z.end) (a ∙ sym b) in cc

        once_server : (leaf : ℕ) (e : EndAt) → Once (server t.flat leaf e)
        once_server leaf e = once_if (serves t.flat e) (thread leaf (Some e))

        of_leaf : (leaf : ℕ) (found : Leaf) → slice_get t.flat.leaves leaf ≡ Some found → Once (leaf_threads t.flat all leaf)
        of_leaf leaf found g =
            let P : List EndAt → Type 0 = λ z. Once z in
            let ends_once =
            subst P (sym (ends_are t leaf found g)) (once_leaf t.flat.connections leaf (leaf_members t.source t.flat leaf)) in
            let served = once_flat (server t.flat leaf) (ends_at all leaf) ends_once (λ e i. once_server leaf e) (λ e f y i j. (
            let q : Some e ≡ Some f = ap (λ (z : ThreadOf). z.end) ((server_is leaf e y i).1 ∙ sym (server_is leaf f y j).1) in
            cc)) in
            once_cons (thread leaf None) (flat_map (server t.flat leaf) (ends_at all leaf)) served
            (λ i. let b = from_flat_map (server t.flat leaf) (thread leaf None) (ends_at all leaf) i in
            none leaf (thread leaf None) refl b.0 (server_is leaf b.0 (thread leaf None) b.2).1)

  -- ---- lines

  pub threads_are : (d : ℕ) (x : Domain) → slice_get t.flat.domains d ≡ Some x
      → threads_at t d ≡ gather (λ i y. thread_place (system t) d i y ∷ []) (threads_of (system t) d)
  threads_are d x h =
      let f : ℕ → Domain → Space = λ n z. space (system t) n z in
      ap (λ (z : Spaces). option_map_or (λ (w : Space). w.threads) (slice_get z.spaces d) []) can.spaces
      ∙ ap (λ o. option_map_or (λ (w : Space). w.threads) o []) (get_ones f t.flat.domains d x h)

  pub thread_at : (d i : ℕ) (x : Domain) (y : ThreadOf) → slice_get t.flat.domains d ≡ Some x
      → slice_get (threads_of (system t) d) i ≡ Some y → slice_get (threads_at t d) i ≡ Some (thread_place (system t) d i y)
  thread_at d i x y h e =
      let f : ℕ → ThreadOf → ThreadPlace = λ n z. thread_place (system t) d n z in
      ap (λ z. slice_get z i) (threads_are d x h) ∙ get_ones f (threads_of (system t) d) i y e

  pub record Line (at leaf : ℕ) (end : Option EndAt) : Type 0 where
    pub domain : ℕ
    pub leaves : Domain
    pub here : slice_get t.flat.domains domain ≡ Some leaves
    pub number : ℕ
    pub y : ThreadOf
    pub stands : slice_get (threads_of (system t) domain) number ≡ Some y
    pub at_is : place t (OfThread domain number) ≡ at
    pub leaf_is : y.leaf ≡ leaf
    pub end_is : y.end ≡ end

  abbrev SaysThread : MapLine → Type 0
  SaysThread (ThreadLine at leaf end) = Line at leaf end
  SaysThread _ = Unit {0}

  of_thread : (d : ℕ) (x : Domain) → slice_get t.flat.domains d ≡ Some x → (n : ℕ) (z : ThreadPlace)
      → slice_get (threads_at t d) n ≡ Some z → Line (place t (OfThread d n)) z.leaf z.end
  of_thread d x h n z e =
      let made : ℕ → ThreadOf → ThreadPlace = λ n y. thread_place (system t) d n y in
      let y = from_ones made (threads_of (system t) d) n z (ap (λ zs. slice_get zs n) (sym (threads_are d x h)) ∙ e) in
      search (rules)

  of_slot : (o n : ℕ) (u : SlotUse) → SaysThread (slot_line o n u)
  of_slot o n (OwnLock leaf m) = tt
  of_slot o n _ = tt

  pub line_from : (line : MapLine) → IsIn line (map_lines t) → SaysThread line
  line_from = by_line t SaysThread (λ d x h. tt) of_thread (λ d x h n u e. of_slot (use_cap t d n u).object n u)
      (λ d x h n w e. tt)

  pub line_to : (d i : ℕ) (x : Domain) (y : ThreadOf) → slice_get t.flat.domains d ≡ Some x
      → slice_get (threads_of (system t) d) i ≡ Some y → IsIn (ThreadLine (place t (OfThread d i)) y.leaf y.end) (map_lines t)
  line_to d i x y h e =
      let line = ThreadLine (place t (OfThread d i)) y.leaf y.end in
      let f : ℕ → Domain → List MapLine = λ d x. domain_threads t d in
      let g : ℕ → ThreadPlace → List MapLine = λ n z. thread_line t d n z ∷ [] in
      let inner = in_gather g line (threads_at t d) i (thread_place (system t) d i y) (thread_at d i x y h e) (inl refl) in
      in_right line (domain_lines t) (thread_lines t ++ (slot_lines t ++ window_lines t))
      (in_left line (thread_lines t) (slot_lines t ++ window_lines t) (in_gather f line t.flat.domains d x h inner))

  -- ---- objects

  -- how many threads stand before thread i of a domain
  abbrev pub threads_before : ℕ → ℕ → ℕ
  threads_before d i = before (λ e y. threads_of (system t) e) t.flat.domains d + i

  pub thread_part : (d i : ℕ) (x : Domain) (y : ThreadOf) → slice_get t.flat.domains d ≡ Some x
      → slice_get (threads_of (system t) d) i ≡ Some y
      → IsIn (part series.Tcb (threads_before d i) (OfDomain d) (OfThread d i)) (parts t)
  thread_part d i x y h e =
      let z = owned (OfDomain d) (OfThread d i) in let n = threads_before d i in
      let f : ℕ → ThreadPlace → Owned = λ n w. owned (OfDomain d) (OfThread d n) in
      let inner = get_ones f (threads_at t d) i (thread_place (system t) d i y) (thread_at d i x y h e) in
      let many : (d : ℕ) (x : Domain) → slice_get t.flat.domains d ≡ Some x
      → length (domain_tcbs t d x) ≡ length (threads_of (system t) d) =
      λ d x h. gather_ones (λ n (w : ThreadPlace). owned (OfDomain d) (OfThread d n)) (threads_at t d)
      ∙ ap length (threads_are d x h) ∙ gather_ones (λ i y. thread_place (system t) d i y) (threads_of (system t) d) in
      let sums = before_same (domain_tcbs t) (λ e y. threads_of (system t) e) t.flat.domains d many in
      let at : slice_get (tcbs t) n ≡ Some z = gathered (domain_tcbs t) t.flat.domains d x i z n h inner (omega (arith, sums)) in
      let g : ℕ → Owned → List Part = λ n w. part series.Tcb n w.owner w.what ∷ [] in
      let p = part series.Tcb n (OfDomain d) (OfThread d i) in
      in_together (sections t) 1 (numbered series.Tcb (tcbs t)) p refl (in_gather g p (tcbs t) n z at (inl refl))

  pub thread_object : (d i : ℕ) (x : Domain) (y : ThreadOf) → slice_get t.flat.domains d ≡ Some x
      → slice_get (threads_of (system t) d) i ≡ Some y
      → object_at (spec_of t) (place t (OfThread d i)) ≡ Some (objects.Thread (tcb t d (thread_place (system t) d i y)))
  thread_object d i x y h e =
      (objects_stand t).object (part series.Tcb (threads_before d i) (OfDomain d) (OfThread d i)) (thread_part d i x y h e)
      ∙ ap (λ o. Some (option_map_or (λ z. objects.Thread (tcb t d z)) o objects.Endpoint)) (thread_at d i x y h e)
