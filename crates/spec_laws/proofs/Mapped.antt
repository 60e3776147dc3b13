-- What the pages of a domain show, and whose frames they are.
use Rattle.spec_laws.proofs.Common.{AtOtherEnd, Bool, Buffer, Domain, Fill, FlatConnection, FlatEnd, FrameInfo, FrameOf, From, Given, IsConnected, IsIn, IsThere, LeadsTo, MappedPage, Memory, Mmio, None, ObjectKind, OfDevice, OfFrames, Option, Own}
use Rattle.spec_laws.proofs.Common.{Page, Read, Region, Role, SectionPage, SharedMemory, Some, Space, Stack, Tables, ThreadPlace, To, [], ap, arith, base, end_rule, first_to_end, flat_map, frame, frame_owner, frames, frames_stand, from_flat_map}
use Rattle.spec_laws.proofs.Common.{from_gather, from_map, from_ones, from_range, gather, get_ones, given_tables, gives, in_append, in_gather, in_map, in_place, in_right, inl, inr, is_at_device, is_shared, is_to, leaf_label, leaves_of, map}
use Rattle.spec_laws.proofs.Common.{mapped_pages, may_read, may_write, memory_number, memory_pages, number_of, number_shown, opposite, option_map_or, own_label, page, page_of, pages_at, pages_of_region, place_of, policy_tables}
use Rattle.spec_laws.proofs.Common.{position_or_len, range_with_len, refl, region, region_part, region_start, regions, register_frame, registers, registers_in, same_port, section_page, section_pages, section_part, setting_of, slice_get}
use Rattle.spec_laws.proofs.Common.{rules, slice_get_within, space, subst, sym, thread_place, thread_regions, threads_at, threads_of, true, window_pages, window_region, windows_of, ℕ, ◌+◌, ◌<◌, ◌∙◌, ◌∷◌, ◌≡◌, ◌⊎◌, and_from, eq-eqb}
use lib.Dec.{eqb}
use Rattle.arch_policy.specs.declared.owner.Owner.TheVariants as owners
use Rattle.arch_policy.specs.Ends.{EndAt}
use Rattle.cspace_layout.specs.declared.end_at.EndAt.{EndAt as Joined}
use Rattle.vspace_layout.specs.declared.owner.Owner.TheVariants.{OfDomain, OfConnection}
use Rattle.vspace_layout.specs.declared.thread.ThreadOf.{ThreadOf}
use Rattle.spec_laws.proofs.Devices.{first_found, position_found}
use Rattle.spec_laws.proofs.Lists.{in_range}
use Rattle.spec_laws.proofs.Rows.{device_role}
use Rattle.spec_laws.proofs.Whose.{frame_owner_at, owner_of}
use Rattle.spec_laws.proofs.Framing.{first_is}

-- ---- pages of a domain's space

-- a page of a window, with the access of the window's end
pub record OfWindow (g : Given) (d : ℕ) (p : MappedPage) : Type 0 where
  pub end : Joined
  pub there : IsIn end (windows_of g d)
  pub number : ℕ
  pub below : number < window_pages g.flat g.settled end
  pub read : p.read ≡ may_read (setting_of g.settled end.connection end.end)
  pub write : p.write ≡ may_write (setting_of g.settled end.connection end.end)
  pub shown : p.shown ≡ Memory end.connection number

abbrev pub IsOwn : MappedPage → Type 0
IsOwn p = (fill : Option Fill) × (p.shown ≡ Own fill)

module _ (g : Given) (d : ℕ) where
  -- a region is of a thread, or a window
  abbrev IsOfThread : Region → Type 0
  IsOfThread r = (r.content ≡ Stack) ⊎ (r.content ≡ Buffer)

  abbrev IsOfEnd : Region → Type 0
  IsOfEnd r = (e : Joined) × IsIn e (windows_of g d) × (window_region g.flat g.settled e ≡ r)

  from_thread : (x : ThreadOf) (r : Region) → IsIn r (thread_regions g.settled x) → IsOfThread r
  from_thread x r (inl e) = inl (ap (λ (z : Region). z.content) (sym e))
  from_thread x r (inr (inl e)) = inr (ap (λ (z : Region). z.content) (sym e))
  from_thread x r (inr (inr i)) = absurd i

  from_regions : (r : Region) → IsIn r (regions g d) → IsOfThread r ⊎ IsOfEnd r
  from_regions r i =
      elim (in_append r (flat_map (thread_regions g.settled) (threads_of g d))
      (map (window_region g.flat g.settled) (windows_of g d)) i) [
        | inl j ↦ (let x = from_flat_map (thread_regions g.settled) r (threads_of g d) j in inl (from_thread x.0 r x.2))
        | inr j ↦ (let e = from_map (window_region g.flat g.settled) r (windows_of g d) j in inr (e.0, e.1, e.2))
      ]

  -- page j of a region of a thread is an own one
  own_page : (start j : ℕ) (r : Region) (p : MappedPage) → IsOfThread r → page_of g.settled start r j ≡ p → IsOwn p
  own_page start j r p (inl e) is =
      (None, ap (λ (z : MappedPage). z.shown) (sym is ∙ ap (λ c. page_of g.settled start (region c r.pages) j) e))
  own_page start j r p (inr e) is =
      (None, ap (λ (z : MappedPage). z.shown) (sym is ∙ ap (λ c. page_of g.settled start (region c r.pages) j) e))

  window_page_of : (start j : ℕ) (r : Region) (p : MappedPage) (o : IsOfEnd r) → j < r.pages → page_of g.settled start r j ≡ p
      → OfWindow g d p
  window_page_of start j r p o below is =
      let here : page_of g.settled start (window_region g.flat g.settled o.0) j ≡ p = search (rules) in
      record {
        end = o.0;
        there = o.1;
        number = j;
        below = subst (λ (z : Region). j < z.pages) (sym o.2) below;
        read = ap (λ (z : MappedPage). z.read) (sym here);
        write = ap (λ (z : MappedPage). z.write) (sym here);
        shown = ap (λ (z : MappedPage). z.shown) (sym here);
      }

  pub from_mapped : (p : MappedPage) → IsIn p (mapped_pages g d) → IsOwn p ⊎ OfWindow g d p
  from_mapped p i =
      elim (in_append p (section_part g.images (leaves_of g.flat d)) (region_part g.settled (base g) (regions g d)) i) [
        | inl j ↦
            let s = from_map section_page p (section_pages g.images (leaves_of g.flat d)) j in
            let q : SectionPage = s.0 in
            inl (q.fill, ap (λ (z : MappedPage). z.shown) (sym s.2))
        | inr j ↦
            let r = from_gather (pages_of_region g.settled (base g) (regions g d)) p (regions g d) j in
            let start = region_start (base g) (regions g d) r.0 in
            let n = from_map (page_of g.settled start r.1) p (range_with_len 0 r.1.pages) r.3 in
            let below : n.0 < 0 + r.1.pages = from_range 0 r.1.pages n.0 n.1 in
            elim (from_regions r.1 (in_place r.1 (regions g d) r.0 r.2)) [
              | inl x ↦ inl (own_page start n.0 r.1 p x n.2)
              | inr x ↦ inr (window_page_of start n.0 r.1 p x (omega (arith, below)) n.2)
            ]
      ]

  -- the first page of a region is mapped
  pub first_page : (n : ℕ) (r : Region) → slice_get (regions g d) n ≡ Some r → 0 < r.pages
      → IsIn (page_of g.settled (region_start (base g) (regions g d) n) r 0) (mapped_pages g d)
  first_page n r e l =
      let p = page_of g.settled (region_start (base g) (regions g d) n) r 0 in
      let inner : IsIn p (pages_of_region g.settled (base g) (regions g d) n r) = search (rules, in_map, in_range) in
      in_right p (section_part g.images (leaves_of g.flat d)) (region_part g.settled (base g) (regions g d))
      (in_gather (pages_of_region g.settled (base g) (regions g d)) p (regions g d) n r e inner)

  pub window_there : (e : Joined) → IsIn e (windows_of g d) → IsIn (window_region g.flat g.settled e) (regions g d)
  window_there e i = search (rules, in_right, in_map)

-- ---- pages and threads as they are laid

module _ (t : Tables) (h : IsConnected t) where
  abbrev pub laid : Given
  laid = given_tables t

  space_here : (d : ℕ) (x : Domain) → slice_get t.flat.domains d ≡ Some x → slice_get t.spaces.spaces d ≡ Some (space laid d x)
  space_here d x e = ap (λ s. slice_get s.spaces d) h.spaces ∙ get_ones (space laid) t.flat.domains d x e

  pages_are : (d : ℕ) (x : Domain) → slice_get t.flat.domains d ≡ Some x
      → pages_at t d ≡ gather (λ n p. page laid d n p ∷ []) (mapped_pages laid d)
  pages_are d x e = ap (λ o. option_map_or (λ (s : Space). s.pages) o []) (space_here d x e)

  threads_are : (d : ℕ) (x : Domain) → slice_get t.flat.domains d ≡ Some x
      → threads_at t d ≡ gather (λ i x. thread_place laid d i x ∷ []) (threads_of laid d)
  threads_are d x e = ap (λ o. option_map_or (λ (s : Space). s.threads) o []) (space_here d x e)

  pub record IsPage (d : ℕ) (p : Page) : Type 0 where
    pub number : ℕ
    pub mapped : MappedPage
    pub here : slice_get (mapped_pages laid d) number ≡ Some mapped
    pub is : page laid d number mapped ≡ p

  pub from_pages : (d : ℕ) (x : Domain) (p : Page) → slice_get t.flat.domains d ≡ Some x → IsIn p (pages_at t d) → IsPage d p
  from_pages d x p e i =
      let n = place_of p (gather (λ n p. page laid d n p ∷ []) (mapped_pages laid d))
      (subst (λ z. IsIn p z) (pages_are d x e) i) in
      let o = from_ones (page laid d) (mapped_pages laid d) n.0 p n.1 in
      record { number = n.0; mapped = o.0; here = o.1; is = o.2 }

  pub in_pages : (d n : ℕ) (x : Domain) (p : MappedPage) → slice_get t.flat.domains d ≡ Some x
      → slice_get (mapped_pages laid d) n ≡ Some p → IsIn (page laid d n p) (pages_at t d)
  in_pages d n x p e s = subst (λ z. IsIn (page laid d n p) z) (sym (pages_are d x e))
      (in_gather (λ n p. page laid d n p ∷ []) (page laid d n p) (mapped_pages laid d) n p s (inl refl))

  pub from_threads : (d i : ℕ) (x : Domain) (y : ThreadPlace) → slice_get t.flat.domains d ≡ Some x
      → slice_get (threads_at t d) i ≡ Some y
      → (z : ThreadOf) × (slice_get (threads_of laid d) i ≡ Some z) × (thread_place laid d i z ≡ y)
  from_threads d i x y e s = from_ones (thread_place laid d) (threads_of laid d) i y
      (subst (λ z. slice_get z i ≡ Some y) (threads_are d x e) s)

  pub in_threads_at : (d i : ℕ) (x : Domain) (z : ThreadOf) → slice_get t.flat.domains d ≡ Some x
      → slice_get (threads_of laid d) i ≡ Some z → slice_get (threads_at t d) i ≡ Some (thread_place laid d i z)
  in_threads_at d i x z e s = subst (λ w. slice_get w i ≡ Some (thread_place laid d i z)) (sym (threads_are d x e))
      (get_ones (thread_place laid d) (threads_of laid d) i z s)

  -- ---- frames

  frame_there : (f : ℕ) (y : FrameInfo) → slice_get (frames laid) f ≡ Some y → slice_get t.spaces.frames f ≡ Some y
  frame_there f y e = ap (λ s. slice_get s.frames f) h.spaces ∙ e

  frame_is : (f : ℕ) (y : FrameInfo) → slice_get (frames laid) f ≡ Some y → frame_owner_at t f ≡ frame_owner y.owner
  frame_is f y e = ap (λ z. option_map_or (λ (x : FrameInfo). frame_owner x.owner) z (owners.OfLeaf 0)) (frame_there f y e)

  -- an own page shows a frame of its domain
  pub own_frame : (d n : ℕ) (x : Domain) (p : MappedPage) → slice_get t.flat.domains d ≡ Some x
      → slice_get (mapped_pages laid d) n ≡ Some p → IsOwn p → IsThere t (FrameOf (number_shown laid d n p.shown))
      × (owner_of t (FrameOf (number_shown laid d n p.shown)) ≡ owners.OfDomain d)
  own_frame d n x p e s own =
      let f = number_shown laid d n p.shown in let y = frame (OfDomain d) None own.0 in
      let at : slice_get (frames laid) f ≡ Some y = (frames_stand laid).own d n p own.0 s own.1
      (slice_get_within t.flat.domains d x e) in
      ((y, frame_there f y at), frame_is f y at)

  -- a frame of the memory that an end sees
  pub record Sees (x : EndAt t.flat) (o : ObjectKind) (f : ℕ) : Type 0 where
    pub there : IsThere t (FrameOf f)
    pub memory : gives x.connection.connector x.end.role o Read ≡ true
    pub leads : LeadsTo (policy_tables t) x o (number_of t.numbers (owner_of t (FrameOf f)))

  pub sees_shared : (x : EndAt t.flat) (j : ℕ) → x.connection.connector ≡ SharedMemory
      → j < memory_pages t.settled x.place x.connection → Sees x OfFrames (memory_number laid x.place j)
  sees_shared x j e l =
      let f = memory_number laid x.place j in let y = frame (OfConnection x.place) None None in
      let at : slice_get (frames laid) f ≡ Some y = (frames_stand laid).shared x.place j x.connection x.here (ap is_shared e) l in
      record {
        there = (y, frame_there f y at);
        memory = ap (λ c. gives c x.end.role OfFrames Read) e ∙ both x.end.role;
        leads = ap (number_of t.numbers) (frame_is f y at);
      } where
        both : (r : Role) → gives SharedMemory r OfFrames Read ≡ true
        both From = refl
        both To = refl

  -- ---- registers

  -- the end at the registers
  pub record AtRegisters (k : ℕ) (c : FlatConnection) : Type 0 where
    pub at : EndAt t.flat
    pub place : at.place ≡ k
    pub connection : at.connection ≡ c
    pub device : is_at_device at ≡ true
    pub role : at.end.role ≡ To
    pub has : registers c ≡ Some at.end

  to_is : (r : Role) → is_to r ≡ true → r ≡ To
  to_is To e = refl
  to_is From e = absurd cc

  pub at_registers : (k : ℕ) (c : FlatConnection) → slice_get t.flat.connections k ≡ Some c → c.connector ≡ Mmio → AtRegisters k c
  at_registers k c e m =
      let v = h.flat.registers k c e m in let x = v.at in
      let same_some : Some x.connection ≡ Some c = sym x.here ∙ ap (λ z. slice_get t.flat.connections z) v.place ∙ e in
      let same : x.connection ≡ c = cc in
      let role : x.end.role ≡ To = search (rules, device_role) in
      let stands : slice_get c.ends x.number ≡ Some x.end = search (rules) in
      let test : FlatEnd → Bool = λ e. is_to e.role in
      let f = first_found test c.ends x.number x.end stands (ap is_to role) in
      let first : first_to_end c.ends ≡ Some f.0 = search (rules, position_found) in
      let to : f.0.role ≡ To = to_is f.0.role f.2 in
      record {
        at = record { place = k; connection = c; here = e; number = position_or_len test c.ends; end = f.0; stands = f.1 };
        place = refl;
        connection = refl;
        device = ap (λ z. (end_rule z f.0.role).hardware) m ∙ ap (λ z. (end_rule Mmio z).hardware) to;
        role = to;
        has = ap (λ z. registers_in z c.ends) m ∙ first;
      }

  pub sees_device : (x : EndAt t.flat) (j : ℕ) → x.connection.connector ≡ Mmio → x.end.role ≡ From
      → j < memory_pages t.settled x.place x.connection → Sees x OfDevice (memory_number laid x.place j)
  sees_device x j e r l =
      let k = x.place in let f = memory_number laid k j in
      let v = at_registers k x.connection x.here e in
      let b = first_is t k x.connection v.at.end x.here v.has in
      let same : same_port v.at.end b.end ≡ true = search (rules, and_from, eqb, eq-eqb) in
      let y = register_frame t.settled b.number b.connection b.end j in
      let as_many = h.registers k b.number x.connection b.connection v.at.end b.end x.here b.here v.has b.leads same in
      let at : slice_get (frames laid) f ≡ Some y = (frames_stand laid).registers k j b.number x.connection b.connection v.at.end
      b.end x.here v.has b.first b.here b.leads (omega (arith, as_many, l)) in
      let label : number_of t.numbers (owner_of t (FrameOf f)) ≡ leaf_label (policy_tables t) v.at.end.leaf =
      search (rules, frame_is, own_label) in
      let other : AtOtherEnd (policy_tables t) x (number_of t.numbers (owner_of t (FrameOf f))) =
      record { at = v.at; same = v.place; role = v.role ∙ ap opposite (sym r); label_is = label } in
      search (rules, frame_there)
