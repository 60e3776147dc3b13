-- What tables in the order of digests find, in terms of the lists that contracts see.
use Rattle.name_tables.proofs.Common.{Bool, List, Name, None, Option, Some, [], and-false, and_from, and_parts, ap, are_digested, arith, bytes_eq, bytes_eq-Decides, cond, digest, false, found, is_digested, is_some, lookup, map, nat_tests}
use Rattle.name_tables.proofs.Common.{option_copied, option_or, refl, sym, true, ℕ, ◌&&◌, ◌==◌, ◌∙◌, ◌∷◌, ◌≡◌}
use Rattle.std.specs.BTreeMap.{insert_entry}
use Rattle.std.specs.Cmp.{tied_then, unsigned_tied}
use Rattle.std.specs.Cmp.Lexicographic.{slice_cmp}
use Rattle.std.specs.Borrow.{Bor}
use Rattle.std.specs.Ordering.{is_eq, match_ordering, nat_cmp, ordering_then}
use Rattle.std.specs.declared.cmp.Ordering.{Ordering}
use Rattle.std.specs.declared.cmp.Ordering.TheVariants.{Less, Equal, Greater}
use Rattle.std.proofs.lemmas.Map.Text.{is_eq-slice_cmp}
use Rattle.name_tables.proofs.NameLookups.{found_put}
use Rattle.name_tables.specs.Naming.{Key}

abbrev key : Name → Key
key n = (digest n, record { ref_ptr = (0, 0); now = n })

-- the order of keys
abbrev key_cmp : Key → Key → Ordering
key_cmp k l = ordering_then (nat_cmp k.0 l.0) (slice_cmp nat_cmp k.1.now l.1.now)

abbrev is_key : Key → Key → Bool
is_key k l = is_eq (key_cmp k l)

-- digested keys are equal where their names are
same_name : (k l : Key) → is_digested k ≡ true → is_digested l ≡ true → is_key k l ≡ bytes_eq k.1.now l.1.now
same_name k l d e =
    sym (tied_then (nat_cmp k.0 l.0) (slice_cmp nat_cmp k.1.now l.1.now))
    ∙ ap (λ b. is_eq (nat_cmp k.0 l.0) && b) (is_eq-slice_cmp k.1.now l.1.now)
    ∙ by_test (bytes_eq k.1.now l.1.now) refl
  where
    one_digest : (a b x y : ℕ) → x ≡ y → (a == x) ≡ true → (b == y) ≡ true → (a == b) ≡ true
    one_digest a b x y s p q = grind (arith, nat_tests)

    by_test : (b : Bool) → bytes_eq k.1.now l.1.now ≡ b → (is_eq (nat_cmp k.0 l.0) && b) ≡ b
    by_test true t =
        let n = (bytes_eq-Decides k.1.now l.1.now).0 t in
        and_from (is_eq (nat_cmp k.0 l.0)) true (unsigned_tied k.0 l.0 ∙ one_digest k.0 l.0 (digest k.1.now) (digest l.1.now)
        (ap digest n) d e) refl
    by_test false t = and-false (is_eq (nat_cmp k.0 l.0))

-- a digest that was made
pub fits : (a : ℕ) (n : Name) → a ≡ digest n → (a == digest n) ≡ true
fits a n e = same a (digest n) e
  where
    same : (a b : ℕ) → a ≡ b → (a == b) ≡ true
    same a b e = grind (arith, nat_tests)

is_its_digest : (n : Name) → is_digested (key n) ≡ true
is_its_digest n = fits (digest n) n refl

pub is_some-option_copied : {V : Type 0} (o : Option (Bor V)) → is_some (option_copied o) ≡ is_some o
is_some-option_copied None = refl
is_some-option_copied (Some x) = refl

module _ {V : Type 0} where
  abbrev shown : List (Key × V) → List (Name × V)
  shown es = map (λ e. (e.0.1.now, e.1)) es

  -- a key that is put in keeps all of them digested
  pub digested_put : (es : List (Key × V)) (k : Key) (v : V) → are_digested es ≡ true → is_digested k ≡ true
      → are_digested (insert_entry key_cmp es k v) ≡ true
  digested_put [] k v a d = and_from (is_digested k) true d refl
  digested_put (e ∷ es) k v a d =
      by_order (key_cmp k e.0) (digested_put es k v (and_parts (is_digested e.0) (are_digested es) a).1 d)
    where
      parts : (is_digested e.0 ≡ true) × (are_digested es ≡ true)
      parts = and_parts (is_digested e.0) (are_digested es) a

      by_order : (o : Ordering) → are_digested (insert_entry key_cmp es k v) ≡ true
          → are_digested (match_ordering o ((k, v) ∷ e ∷ es) ((e.0, v) ∷ es) (e ∷ insert_entry key_cmp es k v)) ≡ true
      by_order Less rest = and_from (is_digested k) (are_digested (e ∷ es)) d a
      by_order Equal rest = and_from (is_digested e.0) (are_digested es) parts.0 parts.1
      by_order Greater rest = and_from (is_digested e.0) (are_digested (insert_entry key_cmp es k v)) parts.0 rest

  pub found_entry : (es : List (Key × V)) (k : Key) → are_digested es ≡ true → is_digested k ≡ true
      → lookup (is_key k) es ≡ found (shown es) k.1.now
  found_entry [] k a d = refl
  found_entry (e ∷ es) k a d =
      let p = and_parts (is_digested e.0) (are_digested es) a in
      ap (λ b. cond b (Some e.1) (lookup (is_key k) es)) (same_name k e.0 d p.0)
      ∙ ap (λ z. cond (bytes_eq k.1.now e.0.1.now) (Some e.1) z) (found_entry es k p.1 d)

  -- what is found after a key was put in
  put_found : (old new : List (Key × V)) (before : List (Name × V)) (k : Key) (x : V) → shown old ≡ before
      → are_digested old ≡ true → are_digested new ≡ true → is_digested k ≡ true
      → ((q : Key) → lookup (is_key q) new ≡ cond (is_key k q) (Some x) (lookup (is_key q) old)) → (n : Name)
      → found (shown new) n ≡ cond (bytes_eq k.1.now n) (Some x) (found before n)
  put_found old new before k x seen a b d put n =
      sym (found_entry new (key n) b (is_its_digest n))
      ∙ put (key n)
      ∙ ap (λ t. cond t (Some x) (lookup (is_key (key n)) old)) (same_name k (key n) d (is_its_digest n))
      ∙ ap (λ z. cond (bytes_eq k.1.now n) (Some x) z) (found_entry old (key n) a (is_its_digest n) ∙ ap (λ s. found s n) seen)

  -- where its name wasn't there
  pub entry_put : (old new : List (Key × V)) (before : List (Name × V)) (k : Key) (x : V) → shown old ≡ before
      → are_digested old ≡ true → are_digested new ≡ true → is_digested k ≡ true
      → is_some (found before k.1.now) ≡ false
      → ((q : Key) → lookup (is_key q) new ≡ cond (is_key k q) (Some x) (lookup (is_key q) old)) → (n : Name)
      → found (shown new) n ≡ option_or (found before n) (cond (bytes_eq n k.1.now) (Some x) None)
  entry_put old new before k x seen a b d absent put = found_put (found before) (found (shown new)) k.1.now x absent
      (put_found old new before k x seen a b d put)
