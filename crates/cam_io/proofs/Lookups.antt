-- Files in memory by their names.
use Rattle.std.proofs.Common.{rules}
use Rattle.cam_io.proofs.Common.{Bool, List, NamedFile, None, Option, Some, [], add-one, ap, arith, bytes_eq, bytes_eq-Decides, cond, contains_key, count_at, count_of, counts_for, empty, false, find, from_entries, get, get-from_entries, inl, inr}
use Rattle.cam_io.proofs.Common.{is_eq-slice_cmp, is_some, lookup, map, nat_list_cmp_total, not, one_more, refl, replaced, slice_get, slice_set, subst, suc, sym, take, true, zero, ℕ, ◌+◌, ◌∙◌, ◌∷◌, ◌≡◌, ◌≤◌, ◌⊎◌}
use Rattle.std.specs.Ordering.{nat_cmp}
use Rattle.std.specs.Cmp.Lexicographic.{slice_cmp}
use Rattle.cam_io.specs.NamedFiles.{contents_of}

-- the bytes of a file that may be missing
abbrev pub bytes_of : Option NamedFile → Option (List ℕ)
bytes_of None = None
bytes_of (Some f) = Some f.bytes

not_this : (b : Bool) (x : NamedFile) (o : Option NamedFile) → cond b (Some x) o ≡ None → (b ≡ false) × (o ≡ None)
not_this true x o e = cc
not_this false x o e = (refl, e)

-- the first file that has the name, behind i that do not
pub first_at : (fs : List NamedFile) (i : ℕ) (q : List ℕ) (f : NamedFile) → lookup (take i fs) q ≡ None → slice_get fs i ≡ Some f
    → bytes_eq q f.name ≡ true → lookup fs q ≡ Some f
first_at [] i q f h e t = cc
first_at (x ∷ fs) zero q f h e t = let k : x ≡ f = cc in rw (k, t) refl
first_at (x ∷ fs) (suc i) q f h e t =
    let n = not_this (bytes_eq q x.name) x (lookup (take i fs) q) h in
    rw n.0 (first_at fs i q f n.1 e t)

pub first_set : (fs : List NamedFile) (i : ℕ) (q : List ℕ) (f g : NamedFile) → lookup (take i fs) q ≡ None
    → slice_get fs i ≡ Some f → bytes_eq q f.name ≡ true → slice_set fs i g ≡ replaced fs q g
first_set [] i q f g h e t = cc
first_set (x ∷ fs) zero q f g h e t = let k : x ≡ f = cc in rw (k, t) refl
first_set (x ∷ fs) (suc i) q f g h e t =
    let n = not_this (bytes_eq q x.name) x (lookup (take i fs) q) h in
    rw n.0 (ap (λ l. x ∷ l) (first_set fs i q f g n.1 e t))

none_suc : (fs : List NamedFile) (i : ℕ) (q : List ℕ) (f : NamedFile) → lookup (take i fs) q ≡ None → slice_get fs i ≡ Some f
    → bytes_eq q f.name ≡ false → lookup (take (suc i) fs) q ≡ None
none_suc [] i q f h e t = cc
none_suc (x ∷ fs) zero q f h e t = let k : x ≡ f = cc in rw (k, t) refl
none_suc (x ∷ fs) (suc i) q f h e t =
    let n = not_this (bytes_eq q x.name) x (lookup (take i fs) q) h in
    rw n.0 (none_suc fs i q f n.1 e t)

pub none_more : (fs : List NamedFile) (i : ℕ) (q : List ℕ) (f : NamedFile) → lookup (take i fs) q ≡ None → slice_get fs i ≡ Some f
    → bytes_eq q f.name ≡ false → lookup (take (i + 1) fs) q ≡ None
none_more fs i q f h e t = rw add-one (none_suc fs i q f h e t)

bytes_cond : (b : Bool) (x : NamedFile) (o : Option NamedFile) → cond b (Some x.bytes) (bytes_of o) ≡ bytes_of (cond b (Some x) o)
bytes_cond true x o = refl
bytes_cond false x o = refl

pub find_lookup : (fs : List NamedFile) (q : List ℕ)
    → find (slice_cmp nat_cmp) q (map {B = List ℕ × List ℕ} (λ f. (f.name, f.bytes)) fs) ≡ bytes_of (lookup fs q)
find_lookup [] q = refl
find_lookup (x ∷ fs) q = rw (is_eq-slice_cmp q x.name, find_lookup fs q) (bytes_cond (bytes_eq q x.name) x (lookup fs q))

-- what a name has
pub get_contents : (fs : List NamedFile) (q : List ℕ) → get (contents_of fs) q ≡ bytes_of (lookup fs q)
unfolding contents_of
get_contents fs q = get-from_entries nat_list_cmp_total (map {B = List ℕ × List ℕ} (λ f. (f.name, f.bytes)) fs) q
    ∙ find_lookup fs q

-- no files hold nothing
pub contents_empty : contents_of [] ≡ empty
unfolding contents_of
contents_empty = refl

-- the file f with so many faults
abbrev pub with_faults : NamedFile → ℕ → NamedFile
with_faults f n = record { name = f.name; bytes = f.bytes; faults = n }

pub just : (b : Bool) (x f : NamedFile) (o : Option NamedFile) → cond b (Some x) o ≡ Some f
    → ((b ≡ true) × (x ≡ f)) ⊎ ((b ≡ false) × (o ≡ Some f))
just true x f o e = inl (refl, cc)
just false x f o e = inr (refl, e)

-- an entry of the contents
abbrev pub entry : NamedFile → List ℕ × List ℕ
entry g = (g.name, g.bytes)

entries_replaced : (fs : List NamedFile) (q : List ℕ) (f : NamedFile) (n : ℕ) → lookup fs q ≡ Some f
    → map entry (replaced fs q (with_faults f n)) ≡ map entry fs
entries_replaced [] q f n e = refl
entries_replaced (x ∷ fs) q f n e =
    elim (just (bytes_eq q x.name) x f (lookup fs q) e) [
      | inl p ↦ rw (p.0, p.1) refl
      | inr p ↦ rw p.0 (ap (λ l. entry x ∷ l) (entries_replaced fs q f n p.1))
    ]

-- a count changes no content
pub contents_replaced : (fs : List NamedFile) (q : List ℕ) (f : NamedFile) (n : ℕ) → lookup fs q ≡ Some f
    → contents_of (replaced fs q (with_faults f n)) ≡ contents_of fs
unfolding contents_of
contents_replaced fs q f n e = ap (λ es. from_entries es) (entries_replaced fs q f n e)

count_le : (b : Bool) (o m n : ℕ) → m ≤ n → cond b m o ≤ cond b n o
count_le true o m n h = h
count_le false o m n h = omega arith

count_cond : (b : Bool) (others : ℕ) (x : NamedFile) (o : Option NamedFile)
    → count_at others (cond b (Some x) o) ≡ cond b x.faults (count_at others o)
count_cond true others x o = refl
count_cond false others x o = refl

rest_le : (b : Bool) (o m n : ℕ) → m ≤ n → cond b o m ≤ cond b o n
rest_le true o m n h = omega arith
rest_le false o m n h = h

-- no count falls
pub count_later : (fs : List NamedFile) (others : ℕ) (q : List ℕ) (f : NamedFile) (n : ℕ) (r : List ℕ) → lookup fs q ≡ Some f
    → f.faults ≤ n → count_of fs others r ≤ count_of (replaced fs q (with_faults f n)) others r
count_later [] others q f n r e h = omega arith
count_later (x ∷ fs) others q f n r e h =
    let d = bytes_eq r x.name in
    elim (just (bytes_eq q x.name) x f (lookup fs q) e) [
      | inl p ↦ search (rules, count_cond, count_le)
      | inr p ↦ rw (p.0, count_cond d others x (lookup fs r), count_cond d others x (lookup (replaced fs q (with_faults f n)) r))
          (rest_le d x.faults (count_of fs others r) (count_of (replaced fs q (with_faults f n)) others r)
          (count_later fs others q f n r p.1 h))
    ]

-- where two names are the same, they are the same as any third
pub bytes_same : (q n r : List ℕ) → bytes_eq q n ≡ true → bytes_eq r n ≡ bytes_eq r q
bytes_same q n r t = ap (bytes_eq r) (sym ((bytes_eq-Decides q n).0 t))

-- a name that is another's is none of the first's
pub apart : (q n r : List ℕ) → bytes_eq q n ≡ false → bytes_eq r n ≡ true → bytes_eq r q ≡ false
apart q n r not_q is_r = search (rules, bytes_eq-Decides)

new_at : (b : Bool) (others n : ℕ) (f : NamedFile) (o : Option NamedFile)
    → count_at others (cond b (Some (with_faults f n)) o) ≡ cond b n (count_at others (cond b (Some f) o))
new_at true others n f o = refl
new_at false others n f o = refl

new_later : (d e : Bool) (others n : ℕ) (x : NamedFile) (o p : Option NamedFile) → (d ≡ true → e ≡ false)
    → count_at others o ≡ cond e n (count_at others p)
    → count_at others (cond d (Some x) o) ≡ cond e n (count_at others (cond d (Some x) p))
new_later true e others n x o p h k = rw (h refl) refl
new_later false e others n x o p h k = k

-- the count of each name, with a new one for the name's file
pub count_each : (fs : List NamedFile) (others : ℕ) (q : List ℕ) (f : NamedFile) (n : ℕ) (r : List ℕ) → lookup fs q ≡ Some f
    → count_of (replaced fs q (with_faults f n)) others r ≡ cond (bytes_eq r q) n (count_of fs others r)
count_each [] others q f n r e = cc
count_each (x ∷ fs) others q f n r e =
    elim (just (bytes_eq q x.name) x f (lookup fs q) e) [
      | inl p ↦ search (rules, bytes_same, new_at)
      | inr p ↦ rw p.0 (new_later (bytes_eq r x.name) (bytes_eq r q) others n x (lookup (replaced fs q (with_faults f n)) r)
          (lookup fs r) (apart q x.name r p.0) (count_each fs others q f n r p.1))
    ]

cond_same : (b : Bool) (x y z : ℕ) → (b ≡ true → x ≡ y) → cond b x z ≡ cond b y z
cond_same true x y z h = h refl
cond_same false x y z h = refl

-- a fault of a name that has a file
pub fault_here : (fs : List NamedFile) (others : ℕ) (q : List ℕ) (f : NamedFile) (n : ℕ) (r : List ℕ) → lookup fs q ≡ Some f
    → n ≡ one_more f.faults
    → count_of (replaced fs q (with_faults f n)) others r ≡ cond (counts_for (contents_of fs) q r)
    (one_more (count_of fs others r)) (count_of fs others r)
fault_here fs others q f n r e is = search (rules, is_some, get_contents, bytes_eq-Decides, count_each, cond_same)

others_at : (others : ℕ) (o : Option NamedFile) → count_at (one_more others) o ≡ cond (not (is_some (bytes_of o)))
    (one_more (count_at others o)) (count_at others o)
others_at others None = refl
others_at others (Some f) = refl

-- a fault of a name without a file
pub fault_elsewhere : (fs : List NamedFile) (others n : ℕ) (q r : List ℕ) → lookup fs q ≡ None → n ≡ one_more others
    → count_of fs n r ≡ cond (counts_for (contents_of fs) q r) (one_more (count_of fs others r)) (count_of fs others r)
fault_elsewhere fs others n q r e is = search (rules, is_some, get_contents, others_at)

-- the name's own count is the new one
pub count_new : (fs : List NamedFile) (others : ℕ) (q : List ℕ) (f : NamedFile) (n : ℕ) → lookup fs q ≡ Some f
    → count_of (replaced fs q (with_faults f n)) others q ≡ n
count_new [] others q f n e = cc
count_new (x ∷ fs) others q f n e =
    elim (just (bytes_eq q x.name) x f (lookup fs q) e) [
      | inl p ↦ (let t : bytes_eq q f.name ≡ true = ap (λ y. bytes_eq q y.name) (sym p.1) ∙ p.0 in rw (p.0, t) refl)
      | inr p ↦ rw (p.0, p.0) (count_new fs others q f n p.1)
    ]
