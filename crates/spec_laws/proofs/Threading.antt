-- Thread lines and threads are one to one
use Rattle.spec_laws.proofs.Common.{AreThreads, AreThreadsNumbered, CNodeOf, CanMap, Domain, EndAt, HasThread, Image, IsIn, IsThreadOf, Leaf, LeafSetting, List, OfDomain, Option, Part, Some, Tables, Tcb, ThreadLine, ThreadPlace}
use Rattle.spec_laws.proofs.Common.{[], ap, arith, at_place, component_name, entry_in, from_ones, in_place, map_lines, name_at, object_at, objects_stand, option_map_or, part, parts, place, place_of, refl, root_of}
use Rattle.spec_laws.proofs.Common.{rules, slice_get, space, spec_of, stands, subst, sym, system, tcb, thread, thread_place, threads_of, ℕ, ◌∙◌, ◌≡◌, IsThere}
use Rattle.cap_model.specs.declared.object.Object.TheVariants as objects
use Rattle.system_spec.specs.declared.part.What.TheVariants.{ThreadOf as OfThread}
use Rattle.system_spec.specs.declared.series.Series.TheVariants as series
use Rattle.vspace_layout.specs.declared.thread.ThreadOf.{ThreadOf}
use Rattle.spec_laws.proofs.Paging.{has_domain}
use Rattle.spec_laws.proofs.SlotLists.{some}
use Rattle.spec_laws.proofs.Threads.{Line, at_home, has_thread, line_from, line_to, once_threads, thread_object, thread_part, threads_are, threads_before}
use Rattle.spec_laws.proofs.Whose.{object_stands, of_tcb}

same_some : {X : Type 0} (a b : X) (o : Option X) → o ≡ Some a → o ≡ Some b → a ≡ b
same_some a b o e f = cc

threads_same : (d i e j : ℕ) → OfThread d i ≡ OfThread e j → (d ≡ e) × (i ≡ j)
threads_same d i e j h = (cc, cc)

module _ (t : Tables) (can : CanMap t) where
  -- ---- what a thread runs

  thread_is : (d i : ℕ) (x : Domain) (y : ThreadOf) → slice_get t.flat.domains d ≡ Some x
      → slice_get (threads_of (system t) d) i ≡ Some y → IsThreadOf t (spec_of t) (root_of t) y.leaf (place t (OfThread d i))
  thread_is d i x y h e =
      let g = can.grouped.listed d y.leaf x h (has_thread t can d x h y (in_place y (threads_of (system t) d) i e)).1 in
      let m = can.settled.image y.leaf d g.0 g.1 g.2 in
      let image = at_place t.images.images m.0 (can.numbered.runs y.leaf m.0 m.1) in
      let s = can.settled.leaf y.leaf g.0 g.1 in
      let at : place t (CNodeOf d) ≡ d = omega arith in
      record {
        tcb = tcb t d (thread_place (system t) d i y);
        is = thread_object t can d i x y h e;
        found = g.0;
        here = g.1;
        domain = d;
        inside = g.2;
        image = image.0;
        runs = record { number = m.0; numbered = m.1; listed = image.1 };
        entry = ap (λ o. entry_in t.images o) m.1 ∙ ap (λ o. option_map_or (λ (z : Image). z.entry) o 0) image.1;
        elf = ap (λ o. Some (option_map_or (λ (z : Leaf). component_name t.source z.component) o [])) g.1;
        setting = s.0;
        settled = s.1;
        priority = ap (λ o. option_map_or (λ (z : LeafSetting). z.priority) o 0) s.1;
        cnode = ap (λ z. Some z) at;
        space = refl;
      }

  pub the_line : (at leaf : ℕ) (end : Option EndAt) → IsIn (ThreadLine at leaf end) (map_lines t) → Line t can at leaf end
  the_line at leaf end i = line_from t can (ThreadLine at leaf end) i

  only : (at leaf : ℕ) (end : Option EndAt) → IsIn (ThreadLine at leaf end) (map_lines t)
      → HasThread t leaf end × IsThreadOf t (spec_of t) (root_of t) leaf at
  only at leaf end i =
      let l = the_line at leaf end i in
      let w = has_thread t can l.domain l.leaves l.here l.y (in_place l.y (threads_of (system t) l.domain) l.number l.stands) in
      let P : ℕ → Type 0 = λ z. HasThread t z l.y.end in
      let Q : Option EndAt → Type 0 = λ z. HasThread t leaf z in
      let R : ℕ → Type 0 = λ z. IsThreadOf t (spec_of t) (root_of t) z (place t (OfThread l.domain l.number)) in
      let S : ℕ → Type 0 = λ z. IsThreadOf t (spec_of t) (root_of t) leaf z in (
        subst Q l.end_is (subst P l.leaf_is w.0),
        subst S l.at_is (subst R l.leaf_is (thread_is l.domain l.number l.leaves l.y l.here l.stands)),
      )

  every : (leaf : ℕ) (end : Option EndAt) → HasThread t leaf end → (at : ℕ) × IsIn (ThreadLine at leaf end) (map_lines t)
  every leaf end h =
      let b = at_home t can leaf end h in
      let n = place_of (thread leaf end) (threads_of (system t) b.domain) b.there in
      (place t (OfThread b.domain n.0), line_to t can b.domain n.0 b.leaves (thread leaf end) b.here n.1)

  -- ---- one line for each

  pub domain_is : (at leaf : ℕ) (end : Option EndAt) (l : Line t can at leaf end)
      → (found : Leaf) × (slice_get t.flat.leaves leaf ≡ Some found) × (found.domain ≡ Some l.domain)
  domain_is at leaf end l =
      let w = has_thread t can l.domain l.leaves l.here l.y (in_place l.y (threads_of (system t) l.domain) l.number l.stands) in
      let P : ℕ → Type 0 = λ z. (found : Leaf) × (slice_get t.flat.leaves z ≡ Some found) × (found.domain ≡ Some l.domain) in
      subst P l.leaf_is (can.grouped.listed l.domain l.y.leaf l.leaves l.here w.1)

  pub same_thread : (at again leaf : ℕ) (end : Option EndAt) (l : Line t can at leaf end) (m : Line t can again leaf end)
      → (l.domain ≡ m.domain) × (l.number ≡ m.number)
  same_thread at again leaf end l m =
      let a = domain_is at leaf end l in let b = domain_is again leaf end m in
      let found : a.0 ≡ b.0 = same_some a.0 b.0 (slice_get t.flat.leaves leaf) a.1 b.1 in
      let domain : l.domain ≡ m.domain = same_some l.domain m.domain a.0.domain a.2 (ap (λ (z : Leaf). z.domain) found ∙ b.2) in
      let y : l.y ≡ m.y = search (rules) in
      let P : ℕ → Type 0 = λ z. slice_get (threads_of (system t) z) m.number ≡ Some m.y in (
        domain,
        once_threads t can l.domain l.leaves l.here l.number m.number m.y (l.stands ∙ ap (λ z. Some z) y)
            (subst P (sym domain) m.stands),
      )

  pub one_line : (at again leaf : ℕ) (end : Option EndAt) → IsIn (ThreadLine at leaf end) (map_lines t)
      → IsIn (ThreadLine again leaf end) (map_lines t) → at ≡ again
  one_line at again leaf end i j =
      let l = the_line at leaf end i in let m = the_line again leaf end j in
      let s = same_thread at again leaf end l m in
      sym l.at_is ∙ ap (λ z. place t (OfThread z l.number)) s.0 ∙ ap (λ z. place t (OfThread m.domain z)) s.1 ∙ m.at_is

  apart : (at leaf other : ℕ) (end more : Option EndAt) → IsIn (ThreadLine at leaf end) (map_lines t)
      → IsIn (ThreadLine at other more) (map_lines t) → (leaf ≡ other) × (end ≡ more)
  apart at leaf other end more i j =
      let l = the_line at leaf end i in let m = the_line at other more j in
      let a = thread_part t can l.domain l.number l.leaves l.y l.here l.stands in
      let p = part series.Tcb (threads_before t can l.domain l.number) (OfDomain l.domain) (OfThread l.domain l.number) in
      let q = part series.Tcb (threads_before t can m.domain m.number) (OfDomain m.domain) (OfThread m.domain m.number) in
      let place_same : place t (OfThread l.domain l.number) ≡ place t (OfThread m.domain m.number) = l.at_is ∙ sym m.at_is in
      let P : ℕ → Type 0 = λ z. slice_get (parts t) z ≡ Some p in
      let same : p ≡ q = some (slice_get (parts t) (place t (OfThread m.domain m.number))) p q (subst P place_same (stands t p a))
      (stands t q (thread_part t can m.domain m.number m.leaves m.y m.here m.stands)) in
      let w = threads_same l.domain l.number m.domain m.number (ap (λ (z : Part). z.what) same) in
      let Q : ℕ → Type 0 = λ z. slice_get (threads_of (system t) z) l.number ≡ Some l.y in
      let y : l.y ≡ m.y = search (rules, some) in
      (sym l.leaf_is ∙ ap (λ (z : ThreadOf). z.leaf) y ∙ m.leaf_is, sym l.end_is ∙ ap (λ (z : ThreadOf). z.end) y ∙ m.end_is)

  -- ---- their numbers

  pub thread_domain : (d i : ℕ) (y : ThreadOf) → slice_get (threads_of (system t) d) i ≡ Some y
      → (x : Domain) × (slice_get t.flat.domains d ≡ Some x)
  thread_domain d i y e = search (rules, has_domain)

  numbers_are : AreThreadsNumbered t (spec_of t) (map_lines t)
  numbers_are = λ d i at y e j.
      let x = thread_domain d i y e in
      let same : at ≡ place t (OfThread d i) = search (rules, one_line, line_to) in
      ap (name_at (spec_of t)) same
      ∙ (objects_stand t).name (part series.Tcb (threads_before t can d i) (OfDomain d) (OfThread d i))
      (thread_part t can d i x.0 y x.1 e)

  -- ---- and each thread has one

  all : (at : ℕ) (c : Tcb) → object_at (spec_of t) at ≡ Some (objects.Thread c) → (leaf : ℕ) × (end : Option EndAt)
      × IsIn (ThreadLine at leaf end) (map_lines t)
  all at c o =
      let x = object_stands t at (objects.Thread c) o in let w = of_tcb x.what x.sort in
      let d = w.0 in
      let is : IsThere t (OfThread d w.1) = subst (λ z. IsThere t z) w.2 x.there in
      let k : ℕ → ThreadOf → ThreadPlace = λ n z. thread_place (system t) d n z in
      let P : List ThreadPlace → Type 0 = λ z. slice_get z w.1 ≡ Some is.1.0 in
      let y = from_ones k (threads_of (system t) d) w.1 is.1.0 (subst P (threads_are t can d is.0.0 is.0.1) is.1.1) in
      let stand : place t (OfThread d w.1) ≡ at = subst (λ z. place t z ≡ at) w.2 x.stands in
      let Q : ℕ → Type 0 = λ z. IsIn (ThreadLine z y.0.leaf y.0.end) (map_lines t) in
      (y.0.leaf, y.0.end, subst Q stand (line_to t can d w.1 is.0.0 y.0 is.0.1 y.1))

  pub threads_hold : AreThreads t (spec_of t) (root_of t) (map_lines t)
  threads_hold = record { only = only; every = every; one = one_line; all = all; numbered = numbers_are; apart = apart }
