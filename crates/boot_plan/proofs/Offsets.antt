-- Offsets of blocks that are laid end to end, the greatest first.
use Rattle.boot_plan.proofs.Common.{AllFit, AreStarts, Block, Bool, DevicePage, List, Need, Nothing, Untyped, [], arith, block_bytes, cases_lt, cond, exact_bytes, false, get_or-set_other, get_or-set_same, had, is_usual, leb, length}
use Rattle.boot_plan.proofs.Common.{nat_tests, needed, needed_at, refl, rules, slice_index, slice_set, starts_behind, subst, sum_by-cons, sym, true, ℕ, ⊎_elim, ◌+◌, ◌<◌, ◌==◌, ◌^◌, ◌∙◌, ◌∷◌, ◌≡◌, ◌≢◌, ◌≤◌}
use Rattle.std.proofs.Math.ListN.{length-set}
use Rattle.boot_plan.proofs.Multiples.{Multiple, multiple_add, multiple_coarse, multiple_none, multiple_one}

-- ---- sums over blocks

-- the blocks of at least so many bits are those of more and those of just so many
one_split : (b : ℕ) (n : Need) → block_bytes (b + 1) n + exact_bytes b n ≡ block_bytes b n
one_split b Nothing = refl
one_split b (DevicePage paddr) = refl
one_split b (Block c) = search (rules, leb, nat_tests)

pub needed_split : (b : ℕ) (ns : List Need) → needed (b + 1) ns + needed_at b ns ≡ needed b ns
needed_split b [] = refl
needed_split b (n ∷ ns) =
    let ih = needed_split b ns in
    let h = one_split b n in
    search (rules, sum_by-cons)

one_less : (a b : ℕ) (n : Need) → a ≤ b → block_bytes b n ≤ block_bytes a n
one_less a b Nothing h = omega arith
one_less a b (DevicePage paddr) h = omega arith
one_less a b (Block c) h = search (rules, leb, nat_tests)

-- fewer blocks have at least more bits
pub needed_less : (a b : ℕ) (ns : List Need) → a ≤ b → needed b ns ≤ needed a ns
needed_less a b [] h = omega arith
needed_less a b (n ∷ ns) h = let ih = needed_less a b ns h in let k = one_less a b n h in
    omega (arith, ih, k, sum_by-cons (block_bytes a) n ns, sum_by-cons (block_bytes b) n ns)

one_multiple : (s : ℕ) (n : Need) → Multiple s (block_bytes s n)
one_multiple s Nothing = multiple_none s
one_multiple s (DevicePage paddr) = multiple_none s
one_multiple s (Block c) = go (leb s c) refl
  where
    go : (x : Bool) → leb s c ≡ x → Multiple s (cond (leb s c) (2 ^ c) 0)
    go true e = rw e (multiple_coarse s c (2 ^ c) (le e) (multiple_one c))
      where
        le : leb s c ≡ true → s ≤ c
        le e = grind (arith, nat_tests)
    go false e = rw e (multiple_none s)

needed_multiple : (s : ℕ) (ns : List Need) → Multiple s (needed s ns)
needed_multiple s [] = multiple_none s
needed_multiple s (n ∷ ns) = subst (Multiple s) (sym (sum_by-cons (block_bytes s) n ns))
    (multiple_add s (block_bytes s n) (needed s ns) (one_multiple s n) (needed_multiple s ns))

pub exact_same : (b : ℕ) → exact_bytes b (Block b) ≡ 2 ^ b
exact_same b = let t : (b == b) ≡ true = grind (arith, nat_tests) in rw t refl

exact_other : (c b : ℕ) → c ≢ b → exact_bytes c (Block b) ≡ 0
exact_other c b h = let t : (c == b) ≡ false = grind (arith, nat_tests) in rw t refl

-- ---- where the blocks of each size go on, while ns are left

pub record Laid (all : List Need) (starts : List ℕ) (ns : List Need) : Type 0 where
  pub count : length starts ≡ 21
  pub low : (b : ℕ) → b ≤ 20 → needed (b + 1) all ≤ slice_index starts b
  pub high : (b : ℕ) → b ≤ 20 → slice_index starts b + needed_at b ns ≤ needed b all
  pub multiple : (b : ℕ) → b ≤ 20 → Multiple b (slice_index starts b)

pub laid_first : (all : List Need) (starts : List ℕ) → AreStarts all starts → Laid all starts all
laid_first all starts s = record {
  count = s.count;
  low = λ b h. omega (arith, s.each b h);
  high = λ b h. omega (arith, s.each b h, needed_split b all);
  multiple = λ b h. subst (Multiple b) (sym (s.each b h)) (multiple_coarse b (b + 1) (needed (b + 1) all) (omega arith)
      (needed_multiple (b + 1) all));
}

pub set_same : (starts : List ℕ) (b v : ℕ) → length starts ≡ 21 → b ≤ 20 → slice_index (slice_set starts b v) b ≡ v
set_same starts b v n h = let lt : b < length starts = omega arith in rw get_or-set_same refl

pub set_other : (starts : List ℕ) (b v c : ℕ) → c ≢ b → slice_index (slice_set starts b v) c ≡ slice_index starts c
set_other starts b v c ne = rw get_or-set_other refl

pub same_or_not : (c b : ℕ) → (P : Type 0) → (c ≡ b → P) → (c ≢ b → P) → P
same_or_not c b P at_same at_other = ⊎_elim (λ lt. at_other (λ e. omega (arith, e, lt)))
    (λ ge. ⊎_elim (λ lt. at_other (λ e. omega (arith, e, lt))) (λ le. at_same (omega arith)) (cases_lt b c)) (cases_lt c b)

pub laid_block : (all : List Need) (starts : List ℕ) (b : ℕ) (ns : List Need) → b ≤ 20 → Laid all starts (Block b ∷ ns)
    → Laid all (slice_set starts b (slice_index starts b + 2 ^ b)) ns
laid_block all starts b ns small l = record {
  count = length-set starts b (slice_index starts b + 2 ^ b) ∙ l.count;
  low = λ c h. same_or_not c b _
      (λ e. let at = subst (λ k. slice_index (slice_set starts b (slice_index starts b + 2 ^ b)) k ≡ slice_index starts b + 2 ^ b)
      (sym e) same in
      let was = subst (λ k. needed (c + 1) all ≤ slice_index starts k) e (l.low c h) in omega (arith, at, was))
      (λ ne. let at = set_other starts b (slice_index starts b + 2 ^ b) c ne in omega (arith, at, l.low c h));
  high = λ c h. same_or_not c b _
      (λ e. let P : ℕ → Type 0 = λ k. slice_index (slice_set starts b (slice_index starts b + 2 ^ b)) k + needed_at k
      ns ≤ needed k all in
      subst P (sym e) (omega (arith, same, exact_same b, l.high b small, sum_by-cons (exact_bytes b) (Block b) ns)))
      (λ ne. let at = set_other starts b (slice_index starts b + 2 ^ b) c ne in
      omega (arith, at, exact_other c b ne, l.high c h, sum_by-cons (exact_bytes c) (Block b) ns));
  multiple = λ c h. same_or_not c b _
      (λ e. let P : ℕ → Type 0 = λ k. Multiple k (slice_index (slice_set starts b (slice_index starts b + 2 ^ b)) k) in
      subst P (sym e) (subst (Multiple b) (sym same) (multiple_add b (slice_index starts b) (2 ^ b) (l.multiple b small)
      (multiple_one b))))
      (λ ne. let at = set_other starts b (slice_index starts b + 2 ^ b) c ne in subst (Multiple c) (sym at) (l.multiple c h));
}
  where
    same : slice_index (slice_set starts b (slice_index starts b + 2 ^ b)) b ≡ slice_index starts b + 2 ^ b
    same = set_same starts b (slice_index starts b + 2 ^ b) l.count small

-- where what comes next is no block, nothing moves
pub laid_skip : (all : List Need) (starts : List ℕ) (n : Need) (ns : List Need) → ((b : ℕ) → exact_bytes b n ≡ 0)
    → Laid all starts (n ∷ ns) → Laid all starts ns
laid_skip all starts n ns none l = search (rules, sum_by-cons)

-- where the next block ends
pub block_end : (all : List Need) (starts : List ℕ) (b : ℕ) (ns : List Need) → b ≤ 20 → Laid all starts (Block b ∷ ns)
    → slice_index starts b + 2 ^ b ≤ needed b all
block_end all starts b ns h l = omega (arith, l.high b h, exact_same b, sum_by-cons (exact_bytes b) (Block b) ns)

pub small_block : (b : ℕ) → is_usual (Block b) ≡ true → b ≤ 20
small_block b h = grind (arith, nat_tests)

-- ---- blocks that end within regions

pub fits_rest : (rooms : List Untyped) (starts : List ℕ) (n : Need) (ns : List Need) → is_usual n ≡ true
    → AllFit rooms starts (n ∷ ns) → AllFit rooms (starts_behind starts n) ns
fits_rest rooms starts Nothing ns u f =
    record { count = f.count; each = λ b h. omega (arith, f.each b h, sum_by-cons (exact_bytes b) Nothing ns) }
fits_rest rooms starts (DevicePage paddr) ns u f =
    record { count = f.count; each = λ b h. omega (arith, f.each b h, sum_by-cons (exact_bytes b) (DevicePage paddr) ns) }
fits_rest rooms starts (Block b) ns u f = record {
  count = length-set starts b (slice_index starts b + 2 ^ b) ∙ f.count;
  each = λ c h. same_or_not c b _
      (λ e. let P : ℕ → Type 0 = λ k. slice_index (slice_set starts b (slice_index starts b + 2 ^ b)) k + needed_at k
      ns ≤ had 0 rooms in
      subst P (sym e) (omega (
        arith,
        set_same starts b (slice_index starts b + 2 ^ b) f.count (small_block b u),
        exact_same b,
        f.each b (small_block b u),
        sum_by-cons (exact_bytes b) (Block b) ns,
      )))
      (λ ne. omega (
        arith,
        set_other starts b (slice_index starts b + 2 ^ b) c ne,
        exact_other c b ne,
        f.each c h,
        sum_by-cons (exact_bytes c) (Block b) ns,
      ));
}

pub all_fit : (all : List Need) (rooms : List Untyped) (starts : List ℕ) → AreStarts all starts → needed 0 all ≤ had 0 rooms
    → AllFit rooms starts all
all_fit all rooms starts s h =
    record { count = s.count; each = λ b l. omega (arith, s.each b l, needed_split b all, needed_less 0 b all (omega arith), h) }
