-- A name is given bytes.
use Rattle.std.proofs.Common.{rules}
use Rattle.cam_io.proofs.Common.{Bool, List, NamedFile, None, Option, Some, [], ap, bytes_eq, cond, count_at, count_of, false, from_entries, from_entries_push, get, get-insert, get_or, inl, inr, insert, is_eq-slice_cmp, length, lookup, map}
use Rattle.cam_io.proofs.Common.{map-append, nat_cmp-IsAntisymmetric, nat_list_cmp_total, refl, replaced, same_map, slice_cmp-IsAntisymmetric, slice_get, slice_get_read, slice_set, subst, sym, true, ℕ, ◌++◌, ◌<◌, ◌∙◌, ◌∷◌, ◌≡◌}
use Rattle.cam_io.specs.NamedFiles.{contents_of}
use Rattle.cam_io.proofs.Lookups.{apart, bytes_of, bytes_same, just, entry, find_lookup, get_contents}

-- the file f with these bytes
abbrev pub with_bytes : NamedFile → List ℕ → NamedFile
with_bytes f b = record { name = f.name; bytes = b; faults = f.faults }

given_here : (d : Bool) (f : NamedFile) (b : List ℕ) (o : Option NamedFile)
    → bytes_of (cond d (Some (with_bytes f b)) o) ≡ cond d (Some b) (bytes_of (cond d (Some f) o))
given_here true f b o = refl
given_here false f b o = refl

given_later : (d e : Bool) (x : NamedFile) (b : List ℕ) (o p : Option NamedFile) → (d ≡ true → e ≡ false)
    → bytes_of o ≡ cond e (Some b) (bytes_of p) → bytes_of (cond d (Some x) o) ≡ cond e (Some b) (bytes_of (cond d (Some x) p))
given_later true e x b o p h k = rw (h refl) refl
given_later false e x b o p h k = k

lookup_given : (fs : List NamedFile) (q : List ℕ) (f : NamedFile) (b r : List ℕ) → lookup fs q ≡ Some f
    → bytes_of (lookup (replaced fs q (with_bytes f b)) r) ≡ cond (bytes_eq r q) (Some b) (bytes_of (lookup fs r))
lookup_given [] q f b r e = cc
lookup_given (x ∷ fs) q f b r e =
    elim (just (bytes_eq q x.name) x f (lookup fs q) e) [
      | inl p ↦ search (rules, bytes_of, bytes_same, given_here)
      | inr p ↦ rw p.0 (given_later (bytes_eq r x.name) (bytes_eq r q) x b (lookup (replaced fs q (with_bytes f b)) r)
          (lookup fs r) (apart q x.name r p.0) (lookup_given fs q f b r p.1))
    ]

-- new bytes of a name that is there
pub contents_given : (fs : List NamedFile) (q : List ℕ) (f : NamedFile) (b : List ℕ) → lookup fs q ≡ Some f
    → contents_of (replaced fs q (with_bytes f b)) ≡ insert (contents_of fs) q b
contents_given fs q f b e = same_map nat_list_cmp_total (slice_cmp-IsAntisymmetric nat_cmp-IsAntisymmetric) _ _ (λ r.
    get_contents (replaced fs q (with_bytes f b)) r ∙ (lookup_given fs q f b r e
    ∙ sym (get-insert nat_list_cmp_total (contents_of fs) q b r
    ∙ (ap (λ t. cond t (Some b) (get (contents_of fs) r)) (is_eq-slice_cmp r q) ∙ ap (cond (bytes_eq r q) (Some b))
    (get_contents fs r)))))

-- a name that was not there
pub contents_pushed : (fs : List NamedFile) (f : NamedFile) → lookup fs f.name ≡ None
    → contents_of (fs ++ f ∷ []) ≡ insert (contents_of fs) f.name f.bytes
unfolding contents_of
contents_pushed fs f e =
    ap (λ es. from_entries es) (map-append entry fs (f ∷ []))
    ∙ from_entries_push nat_list_cmp_total (slice_cmp-IsAntisymmetric nat_cmp-IsAntisymmetric) (map entry fs) f.name f.bytes
    (find_lookup fs f.name ∙ ap bytes_of e)

count_here : (d : Bool) (others : ℕ) (f : NamedFile) (b : List ℕ) (o : Option NamedFile)
    → count_at others (cond d (Some (with_bytes f b)) o) ≡ count_at others (cond d (Some f) o)
count_here true others f b o = refl
count_here false others f b o = refl

count_rest : (d : Bool) (others : ℕ) (x : NamedFile) (o p : Option NamedFile) → count_at others o ≡ count_at others p
    → count_at others (cond d (Some x) o) ≡ count_at others (cond d (Some x) p)
count_rest true others x o p h = refl
count_rest false others x o p h = h

pub count_given : (fs : List NamedFile) (others : ℕ) (q : List ℕ) (f : NamedFile) (b r : List ℕ) → lookup fs q ≡ Some f
    → count_of (replaced fs q (with_bytes f b)) others r ≡ count_of fs others r
count_given [] others q f b r e = refl
count_given (x ∷ fs) others q f b r e =
    elim (just (bytes_eq q x.name) x f (lookup fs q) e) [
      | inl p ↦ rw (p.0, p.1) (count_here (bytes_eq r f.name) others f b (lookup fs r))
      | inr p ↦ rw p.0 (count_rest (bytes_eq r x.name) others x (lookup (replaced fs q (with_bytes f b)) r) (lookup fs r)
          (count_given fs others q f b r p.1))
    ]

count_last : (d : Bool) (others : ℕ) (f : NamedFile) → f.faults ≡ others → count_at others (cond d (Some f) None) ≡ others
count_last true others f e = e
count_last false others f e = refl

-- a new name starts at the count of the others
pub count_pushed : (fs : List NamedFile) (others : ℕ) (f : NamedFile) (r : List ℕ) → f.faults ≡ others
    → count_of (fs ++ f ∷ []) others r ≡ count_of fs others r
count_pushed [] others f r e = count_last (bytes_eq r f.name) others f e
count_pushed (x ∷ fs) others f r e = count_rest (bytes_eq r x.name) others x (lookup (fs ++ f ∷ []) r) (lookup fs r)
    (count_pushed fs others f r e)

-- what place_of says of the list that was lent
pub at_place : (lent fs : List NamedFile) (q : List ℕ) (i : ℕ) (f : NamedFile) → lent ≡ fs → i < length lent
    → lookup lent q ≡ slice_get lent i → f ≡ get_or fs i f → lookup fs q ≡ Some f
at_place lent fs q i f v w h is = subst (λ (s : List NamedFile). lookup s q ≡ slice_get s i) v h ∙ slice_get_read fs (length fs) i
    f refl (subst (λ (s : List NamedFile). i < length s) v w) is

pub set_place : (lent fs : List NamedFile) (q : List ℕ) (i : ℕ) (g : NamedFile) → lent ≡ fs
    → ((f : NamedFile) → slice_set lent i f ≡ replaced lent q f) → slice_set fs i g ≡ replaced fs q g
set_place lent fs q i g v h = subst (λ (s : List NamedFile). slice_set s i g ≡ replaced s q g) v (h g)
