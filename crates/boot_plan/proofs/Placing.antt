-- Packed blocks are a placement.
use Rattle.boot_plan.proofs.Common.{AllApart, AllByRecursion, AllSuit, Apart, AreFree, AreStarts, Block, Bool, Bytes, DevicePage, HasRoom, IsInOrder, IsPermutation, LieInOne, List, Need, NoDevice, None, Nothing, Placed, SharedFrame, Some, Suits}
use Rattle.boot_plan.proofs.Common.{Untyped, [], address, all_bytes, and_parts, are_regions, are_usual, arith, cases_lt, device_refusal, eqb-true, false, had, has_page, inl, inr, is_needed, is_usual, leb, leb-true, length, list_any}
use Rattle.boot_plan.proofs.Common.{list_any-append, nat_tests, needed, or_parts, packed, refl, region_end, room_bytes, slice_index, slice_set, subst, sum_by-IsPermutation, sym, true, ℕ, ⊎_elim, ◌%◌, ◌&&◌, ◌++◌, ◌+◌, ◌==◌, ◌^◌, ◌∙◌, ◌∷◌, ◌≡◌, ◌≤◌}
use Rattle.boot_plan.proofs.Common.{rules, ◌⊎◌}
use Rattle.boot_plan.proofs.Bases.{regions_permuted}
use Rattle.boot_plan.proofs.Filling.{InRoom, aligned, block, in_room, lie_permuted, lies, offsets_apart}
use Rattle.boot_plan.proofs.Multiples.{Multiple, multiple_from, multiple_gap, multiple_rem}
use Rattle.boot_plan.proofs.Offsets.{Laid, block_end, laid_block, laid_first, laid_skip, needed_less, same_or_not, set_other, set_same, small_block}
use Rattle.boot_plan.proofs.Solo.{Solo, apart_sym, kinds_apart, solo_from, solo_permuted}

-- ---- pages of devices

page_in : (paddr : ℕ) (rs : List Untyped) → list_any (has_page paddr) rs ≡ true
    → LieInOne true (record { first = paddr; bits = 12 }) rs
page_in paddr [] e = absurd cc
page_in paddr (r ∷ rs) e = go (has_page paddr r) refl (λ k. page_in paddr rs k)
  where
    go : (b : Bool) → has_page paddr r ≡ b
        → (list_any (has_page paddr) rs ≡ true → LieInOne true (record { first = paddr; bits = 12 }) rs)
        → LieInOne true (record { first = paddr; bits = 12 }) (r ∷ rs)
    go true t ih =
        let p = and_parts r.device (leb r.paddr paddr && leb (paddr + 4096) (region_end r)) t in
        let q = and_parts (leb r.paddr paddr) (leb (paddr + 4096) (region_end r)) p.1 in
        let size : 2 ^ 12 ≡ 4096 = refl in
        search (rules, leb-true)
    go false t ih = inr (ih (rw t at e))

pub record PageFree (rs : List Untyped) (before : List ℕ) (k paddr : ℕ) (ns : List Need) : Type 0 where
  pub there : list_any (has_page paddr) rs ≡ true
  pub new : is_needed paddr before ≡ false
  pub rest : device_refusal rs (before ++ paddr ∷ []) (k + 1) ns ≡ None

page_free : (rs : List Untyped) (before : List ℕ) (k paddr : ℕ) (ns : List Need)
    → device_refusal rs before k (DevicePage paddr ∷ ns) ≡ None → PageFree rs before k paddr ns
page_free rs before k paddr ns e = first (list_any (has_page paddr) rs) refl
  where
    second : (b : Bool) → list_any (has_page paddr) rs ≡ true → is_needed paddr before ≡ b → PageFree rs before k paddr ns
    second true f h = let s : device_refusal rs before k (DevicePage paddr ∷ ns) ≡ Some (SharedFrame k) =
        rw (f, h) refl in absurd cc
    second false f h = record { there = f; new = h; rest = rw (f, h) at e }

    first : (b : Bool) → list_any (has_page paddr) rs ≡ b → PageFree rs before k paddr ns
    first true h = second (is_needed paddr before) h refl
    first false h = let s : device_refusal rs before k (DevicePage paddr ∷ ns) ≡ Some (NoDevice k) = rw h refl in absurd cc

not_before : (paddr q : ℕ) (before : List ℕ) → is_needed paddr (before ++ q ∷ []) ≡ false → (is_needed paddr before ≡ false)
    × ((q == paddr) ≡ false)
not_before paddr q before e = search (rules, or_parts, list_any-append)

-- ---- what is laid later

pub record LaterPage (rs : List Untyped) (before : List ℕ) (c : Bytes) : Type 0 where
  pub bits : c.bits ≡ 12
  pub lies : LieInOne true c rs
  pub multiple : Multiple 12 c.first
  pub new : is_needed c.first before ≡ false

pub record LaterBlock (all : List Need) (rooms : List Untyped) (starts : List ℕ) (c : Bytes) : Type 0 where
  pub offset : ℕ
  pub is : c ≡ block rooms offset c.bits
  pub small : c.bits ≤ 20
  pub low : slice_index starts c.bits ≤ offset
  pub high : offset + 2 ^ c.bits ≤ needed c.bits all
  pub multiple : Multiple c.bits offset

pub Later : List Need → List Untyped → List Untyped → List ℕ → List ℕ → Bytes → Type 0
Later all rs rooms starts before c = LaterPage rs before c ⊎ LaterBlock all rooms starts c

map_all : {X : Type 0} (P Q : X → Type 0) (xs : List X) → ((x : X) → P x → Q x) → AllByRecursion P xs → AllByRecursion Q xs
map_all P Q [] f h = tt
map_all P Q (x ∷ xs) f h = (f x h.0, map_all P Q xs f h.1)

page_multiple : (paddr : ℕ) → is_usual (DevicePage paddr) ≡ true → Multiple 12 paddr
page_multiple paddr u = multiple_from 12 paddr (eqb-true (paddr % 4096) 0 u)

grown : (all : List Need) (starts : List ℕ) (b : ℕ) (c : ℕ) → length starts ≡ 21 → b ≤ 20
    → slice_index starts c ≤ slice_index (slice_set starts b (slice_index starts b + 2 ^ b)) c
grown all starts b c n h = search (rules, same_or_not, set_same, set_other)

module _ (all : List Need) (rs rooms : List Untyped) where
  pub later_all : (starts : List ℕ) (before : List ℕ) (k : ℕ) (ns : List Need) → are_usual ns ≡ true → Laid all starts ns
      → device_refusal rs before k ns ≡ None
      → AllByRecursion (Later all rs rooms starts before) (all_bytes ns (packed rooms starts ns))
  unfolding Later block
  later_all starts before k [] u l e = tt
  later_all starts before k (Nothing ∷ ns) u l e =
      later_all starts before (k + 1) ns u (laid_skip all starts Nothing ns (λ b. refl) l) e
  later_all starts before k (DevicePage paddr ∷ ns) u l e =
      let p = and_parts (is_usual (DevicePage paddr)) (are_usual ns) u in
      let f = page_free rs before k paddr ns e in
      let page : LaterPage rs before (record { first = paddr; bits = 12 }) =
      record { bits = refl; lies = page_in paddr rs f.there; multiple = page_multiple paddr p.0; new = f.new } in
      let ih = later_all starts (before ++ paddr ∷ []) (k + 1) ns p.1 (laid_skip all starts (DevicePage paddr) ns
      (λ b. refl) l) f.rest in (
        inl page,
        map_all (Later all rs rooms starts (before ++ paddr ∷ [])) (Later all rs rooms starts before)
            (all_bytes ns (packed rooms starts ns)) (λ c h. weaker c h) ih,
      )
    where
      weaker : (c : Bytes) → Later all rs rooms starts (before ++ paddr ∷ []) c → Later all rs rooms starts before c
      weaker c (inl h) =
          inl (record { bits = h.bits; lies = h.lies; multiple = h.multiple; new = (not_before c.first paddr before h.new).0 })
      weaker c (inr h) = inr h
  later_all starts before k (Block b ∷ ns) u l e =
      let p = and_parts (is_usual (Block b)) (are_usual ns) u in
      let small = small_block b p.0 in
      let here : LaterBlock all rooms starts (block rooms (slice_index starts b) b) = record {
        offset = slice_index starts b;
        is = refl;
        small = small;
        low = omega arith;
        high = block_end all starts b ns small l;
        multiple = l.multiple b small;
      } in
      let ih = later_all (slice_set starts b (slice_index starts b + 2 ^ b)) before (k + 1) ns p.1
      (laid_block all starts b ns small l) e in (
        inr here,
        map_all (Later all rs rooms (slice_set starts b (slice_index starts b + 2 ^ b)) before)
            (Later all rs rooms starts before) (all_bytes ns (packed rooms (slice_set starts b (slice_index starts b + 2 ^ b))
            ns)) (λ c h. weaker small c h) ih,
      )
    where
      weaker : b ≤ 20 → (c : Bytes) → Later all rs rooms (slice_set starts b (slice_index starts b + 2 ^ b)) before c
          → Later all rs rooms starts before c
      weaker small c (inl h) = inl h
      weaker small c (inr h) = search (rules, grown)

  -- the regions and what is known of them
  pub record Rooms : Type 0 where
    pub solo : Solo rs
    pub rooms_solo : Solo rooms
    pub permutation : IsPermutation rs rooms
    pub sound : are_regions rooms ≡ true
    pub order : IsInOrder rooms
    pub room : (least : ℕ) → needed least all ≤ had least rooms

  there : Rooms → (v s : ℕ) → Multiple s v → v + 2 ^ s ≤ needed s all → InRoom rooms v s
  there r v s m h = in_room rooms v s r.sound r.order m (omega (arith, r.room s, h))

  -- a block that is laid, and one that is laid behind it
  blocks_apart : Rooms → (starts : List ℕ) (b : ℕ) (ns : List Need) → b ≤ 20 → Laid all starts (Block b ∷ ns) → (t w : ℕ) → t ≤ 20
      → Multiple t w → slice_index (slice_set starts b (slice_index starts b + 2 ^ b)) t ≤ w
      → w + 2 ^ t ≤ needed t all → Apart (block rooms (slice_index starts b) b) (block rooms w t)
  blocks_apart r starts b ns small l t w st m low high =
      let v = slice_index starts b in
      let ends : v + 2 ^ b ≤ needed b all = block_end all starts b ns small l in
      let here = there r v b (l.multiple b small) ends in
      let behind = there r w t m high in
      ⊎_elim
      (λ lt. let room = needed_less (t + 1) b all (omega arith) in
      let was = (laid_block all starts b ns small l).low t st in
      offsets_apart rooms v b w t r.rooms_solo (omega (arith, ends, room, was, low)) here behind)
      (λ ge. ⊎_elim
      (λ lt. let room = needed_less (b + 1) t all (omega arith) in
      apart_sym (block rooms w t) (block rooms v b) (offsets_apart rooms w t v b r.rooms_solo
      (omega (arith, high, room, l.low b small)) behind here))
      (λ le. let same : t ≡ b = omega arith in
      let P : ℕ → Type 0 = λ k. slice_index (slice_set starts b (slice_index starts b + 2 ^ b)) k ≤ w in
      let put = subst P same low in
      offsets_apart rooms v b w t r.rooms_solo (omega (
        arith,
        set_same starts b (slice_index starts b + 2 ^ b) l.count small,
        put,
      )) here behind)
      (cases_lt b t))
      (cases_lt t b)

  pages_apart : (b c : Bytes) → b.bits ≡ 12 → c.bits ≡ 12 → Multiple 12 b.first → Multiple 12 c.first
      → (b.first == c.first) ≡ false → Apart b c
  pages_apart b c eb ec mb mc ne = search (rules, multiple_gap, cases_lt, nat_tests)

  lies_in : Rooms → (v s : ℕ) → InRoom rooms v s → LieInOne false (block rooms v s) rs
  lies_in r v s h = lie_permuted (block rooms v s) rs rooms r.permutation (lies rooms v s h)

  later_lies : Rooms → (starts : List ℕ) (c : Bytes) → LaterBlock all rooms starts c → LieInOne false c rs
  later_lies r starts c h = search (rules, lies_in, there)

  pub apart_all : Rooms → (starts : List ℕ) (before : List ℕ) (k : ℕ) (ns : List Need) → are_usual ns ≡ true → Laid all starts ns
      → device_refusal rs before k ns ≡ None → AllApart (all_bytes ns (packed rooms starts ns))
  unfolding Later block
  apart_all r starts before k [] u l e = tt
  apart_all r starts before k (Nothing ∷ ns) u l e =
      apart_all r starts before (k + 1) ns u (laid_skip all starts Nothing ns (λ b. refl) l) e
  apart_all r starts before k (DevicePage paddr ∷ ns) u l e =
      let p = and_parts (is_usual (DevicePage paddr)) (are_usual ns) u in
      let f = page_free rs before k paddr ns e in
      let rest : Laid all starts ns = laid_skip all starts (DevicePage paddr) ns (λ b. refl) l in (
        map_all (Later all rs rooms starts (before ++ paddr ∷ [])) (Apart (record { first = paddr; bits = 12 }))
            (all_bytes ns (packed rooms starts ns)) (λ c h. this p.0 f c h) (later_all starts (before ++ paddr ∷ []) (k + 1) ns
            p.1 rest f.rest),
        apart_all r starts (before ++ paddr ∷ []) (k + 1) ns p.1 rest f.rest,
      )
    where
      this : is_usual (DevicePage paddr) ≡ true → PageFree rs before k paddr ns → (c : Bytes)
          → Later all rs rooms starts (before ++ paddr ∷ []) c → Apart (record { first = paddr; bits = 12 }) c
      this u f c (inl h) = pages_apart (record { first = paddr; bits = 12 }) c refl h.bits (page_multiple paddr u) h.multiple
          (not_before c.first paddr before h.new).1
      this u f c (inr h) = kinds_apart (record { first = paddr; bits = 12 }) c rs r.solo (page_in paddr rs f.there)
          (later_lies r starts c h)
  apart_all r starts before k (Block b ∷ ns) u l e =
      let p = and_parts (is_usual (Block b)) (are_usual ns) u in
      let small = small_block b p.0 in
      let rest = laid_block all starts b ns small l in (
        map_all (Later all rs rooms (slice_set starts b (slice_index starts b + 2 ^ b)) before)
            (Apart (record { first = address rooms (slice_index starts b); bits = b }))
            (all_bytes ns (packed rooms (slice_set starts b (slice_index starts b + 2 ^ b)) ns))
            (λ c h. this small c h) (later_all (slice_set starts b (slice_index starts b + 2 ^ b)) before (k + 1) ns p.1 rest e),
        apart_all r (slice_set starts b (slice_index starts b + 2 ^ b)) before (k + 1) ns p.1 rest e,
      )
    where
      this : b ≤ 20 → (c : Bytes) → Later all rs rooms (slice_set starts b (slice_index starts b + 2 ^ b)) before c
          → Apart (record { first = address rooms (slice_index starts b); bits = b }) c
      this small c (inl h) =
          let ends : slice_index starts b + 2 ^ b ≤ needed b all = block_end all starts b ns small l in
          apart_sym c (block rooms (slice_index starts b) b) (kinds_apart c (block rooms (slice_index starts b) b) rs r.solo
          h.lies (lies_in r (slice_index starts b) b (there r (slice_index starts b) b (l.multiple b small) ends)))
      this small c (inr h) =
          let P : Bytes → Type 0 = λ k. Apart (block rooms (slice_index starts b) b) k in
          subst P (sym h.is) (blocks_apart r starts b ns small l c.bits h.offset h.small h.multiple h.low h.high)

  pub suit_all : Rooms → (starts : List ℕ) (before : List ℕ) (k : ℕ) (ns : List Need) → are_usual ns ≡ true → Laid all starts ns
      → device_refusal rs before k ns ≡ None → AllSuit rs ns (packed rooms starts ns)
  unfolding block
  suit_all r starts before k [] u l e = tt
  suit_all r starts before k (Nothing ∷ ns) u l e =
      (refl, suit_all r starts before (k + 1) ns u (laid_skip all starts Nothing ns (λ b. refl) l) e)
  suit_all r starts before k (DevicePage paddr ∷ ns) u l e =
      let p = and_parts (is_usual (DevicePage paddr)) (are_usual ns) u in
      let f = page_free rs before k paddr ns e in (
        (refl, page_in paddr rs f.there),
        suit_all r starts (before ++ paddr ∷ []) (k + 1) ns p.1
            (laid_skip all starts (DevicePage paddr) ns (λ b. refl) l) f.rest,
      )
  suit_all r starts before k (Block b ∷ ns) u l e =
      let p = and_parts (is_usual (Block b)) (are_usual ns) u in
      let small = small_block b p.0 in (
        first small,
        suit_all r (slice_set starts b (slice_index starts b + 2 ^ b)) before (k + 1) ns p.1
            (laid_block all starts b ns small l) e,
      )
    where
      first : b ≤ 20 → Suits rs (Block b) (Some (address rooms (slice_index starts b)))
      first small =
          let ends : slice_index starts b + 2 ^ b ≤ needed b all = block_end all starts b ns small l in
          let here = there r (slice_index starts b) b (l.multiple b small) ends in (
            multiple_rem b (address rooms (slice_index starts b)) (aligned rooms (slice_index starts b) b here),
            lies_in r (slice_index starts b) b here,
          )

-- packed needs are placed, where nothing refuses it
pub packed_placed : (all : List Need) (rs rooms : List Untyped) (starts : List ℕ) → are_usual all ≡ true → are_regions rs ≡ true
    → AreFree all rs → HasRoom all rs → IsPermutation rs rooms → IsInOrder rooms → AreStarts all starts
    → Placed all rs (packed rooms starts all)
packed_placed all rs rooms starts usual sound free room perm order s =
    let solo = solo_from rs free.regions in
    let r : Rooms all rs rooms = record {
      solo = solo;
      rooms_solo = solo_permuted rs rooms perm solo;
      permutation = perm;
      sound = regions_permuted rs rooms perm sound;
      order = order;
      room = λ least. let e = sum_by-IsPermutation (room_bytes least) rs rooms perm in omega (arith, e, room least);
    } in
    search (rules, suit_all, laid_first, apart_all)
