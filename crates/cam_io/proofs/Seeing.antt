-- What was seen of names: entries by their names, and an entry more or in place of another.
use Rattle.std.proofs.Common.{rules}
use Rattle.cam_io.proofs.Common.{Agrees, Bool, Contents, Err, Grows, HasAny, HasSeen, HaveSameFront, IsGot, Learns, List, None, Ok, Option, Result, Seen, Some, [], add-one, ap, arith, bytes_eq, bytes_eq-Decides, cond, false, get, inl, inr, length}
use Rattle.cam_io.proofs.Common.{option_map, refl, seen_of, slice_get, slice_set, subst, suc, sym, take, take-take, true, zero, ℕ, ◌++◌, ◌+◌, ◌<◌, ◌∙◌, ◌∷◌, ◌≡◌, ◌≤◌, ◌⊎◌}
use Rattle.std.specs.Result.{IfOk}
use Rattle.cam_io.specs.Seen.{replaced}
use Rattle.cam_io.specs.declared.files.Got.{Got}
use Rattle.cam_io.specs.declared.seen.Extent.{Extent}
use Rattle.cam_io.specs.declared.seen.Extent.TheVariants.{Unasked, Begun}

not_this : (b : Bool) (x : Seen) (o : Option Seen) → cond b (Some x) o ≡ None → (b ≡ false) × (o ≡ None)
not_this true x o e = cc
not_this false x o e = (refl, e)

-- the first entry that has the name, behind i that do not
pub seen_at : (ss : List Seen) (i : ℕ) (q : List ℕ) (s : Seen) → seen_of (take i ss) q ≡ None → slice_get ss i ≡ Some s
    → bytes_eq q s.name ≡ true → seen_of ss q ≡ Some s
seen_at [] i q s h e t = cc
seen_at (x ∷ ss) zero q s h e t = let k : x ≡ s = cc in rw (k, t) refl
seen_at (x ∷ ss) (suc i) q s h e t =
    let n = not_this (bytes_eq q x.name) x (seen_of (take i ss) q) h in
    rw n.0 (seen_at ss i q s n.1 e t)

pub seen_set : (ss : List Seen) (i : ℕ) (q : List ℕ) (s t : Seen) → seen_of (take i ss) q ≡ None → slice_get ss i ≡ Some s
    → bytes_eq q s.name ≡ true → slice_set ss i t ≡ replaced ss q t
seen_set [] i q s t h e k = cc
seen_set (x ∷ ss) zero q s t h e k = let m : x ≡ s = cc in rw (m, k) refl
seen_set (x ∷ ss) (suc i) q s t h e k =
    let n = not_this (bytes_eq q x.name) x (seen_of (take i ss) q) h in
    rw n.0 (ap (λ l. x ∷ l) (seen_set ss i q s t n.1 e k))

none_suc : (ss : List Seen) (i : ℕ) (q : List ℕ) (s : Seen) → seen_of (take i ss) q ≡ None → slice_get ss i ≡ Some s
    → bytes_eq q s.name ≡ false → seen_of (take (suc i) ss) q ≡ None
none_suc [] i q s h e t = cc
none_suc (x ∷ ss) zero q s h e t = let k : x ≡ s = cc in rw (k, t) refl
none_suc (x ∷ ss) (suc i) q s h e t =
    let n = not_this (bytes_eq q x.name) x (seen_of (take i ss) q) h in
    rw n.0 (none_suc ss i q s n.1 e t)

pub none_more : (ss : List Seen) (i : ℕ) (q : List ℕ) (s : Seen) → seen_of (take i ss) q ≡ None → slice_get ss i ≡ Some s
    → bytes_eq q s.name ≡ false → seen_of (take (i + 1) ss) q ≡ None
none_more ss i q s h e t = rw add-one (none_suc ss i q s h e t)

-- the first entry of a name
just : (b : Bool) (x s : Seen) (o : Option Seen) → cond b (Some x) o ≡ Some s
    → ((b ≡ true) × (x ≡ s)) ⊎ ((b ≡ false) × (o ≡ Some s))
just true x s o e = inl (refl, cc)
just false x s o e = inr (refl, e)

-- the entry in the name's place
pub seen_replaced : (ss : List Seen) (q : List ℕ) (s t : Seen) → seen_of ss q ≡ Some s → t.name ≡ s.name
    → seen_of (replaced ss q t) q ≡ Some t
seen_replaced [] q s t e n = cc
seen_replaced (x ∷ ss) q s t e n =
    elim (just (bytes_eq q x.name) x s (seen_of ss q) e) [
      | inl p ↦ (let k : bytes_eq q t.name ≡ true = ap (bytes_eq q) (n ∙ sym (ap (λ (y : Seen). y.name) p.1)) ∙ p.0 in
          rw (p.0, k) refl)
      | inr p ↦ rw (p.0, p.0) (seen_replaced ss q s t p.1 n)
    ]

cond_grows : (d : Bool) (s t : Seen) (o : Option Seen) (file : Option (List ℕ)) → Grows s t → HasAny (cond d (Some t) o) file
    → HasAny (cond d (Some s) o) file
cond_grows true s t o file g h = g file h
cond_grows false s t o file g h = h

cond_rest : (d : Bool) (x : Seen) (o p : Option Seen) (file : Option (List ℕ)) → (HasAny o file → HasAny p file)
    → HasAny (cond d (Some x) o) file → HasAny (cond d (Some x) p) file
cond_rest true x o p file k h = h
cond_rest false x o p file k h = k h

has_before : (ss : List Seen) (q : List ℕ) (s t : Seen) (r : List ℕ) (file : Option (List ℕ)) → seen_of ss q ≡ Some s
    → t.name ≡ s.name → Grows s t → HasAny (seen_of (replaced ss q t) r) file → HasAny (seen_of ss r) file
has_before [] q s t r file e n g h = cc
has_before (x ∷ ss) q s t r file e n g h =
    elim (just (bytes_eq q x.name) x s (seen_of ss q) e) [
      | inl p ↦ search (rules, cond_grows)
      | inr p ↦ (let seen = subst (λ (b : Bool). HasAny (seen_of (cond b (t ∷ ss) (x ∷ replaced ss q t)) r) file) p.0 h in
          cond_rest (bytes_eq r x.name) x (seen_of (replaced ss q t) r) (seen_of ss r) file
          (has_before ss q s t r file p.1 n g) seen)
    ]

-- with an entry that has seen more in place of a name's, what is told was told before
pub replaced_told : (ss : List Seen) (q : List ℕ) (s t : Seen) → seen_of ss q ≡ Some s → t.name ≡ s.name → Grows s t
    → (m : Contents) → Agrees (replaced ss q t) m → Agrees ss m
replaced_told ss q s t e n g m h r = has_before ss q s t r (get m r) e n g (h r)

-- what is told of the name then
pub replaced_has : (ss : List Seen) (q : List ℕ) (s t : Seen) → seen_of ss q ≡ Some s → t.name ≡ s.name → (m : Contents)
    → Agrees (replaced ss q t) m → HasSeen t.extent t.bytes.items (get m q)
replaced_has ss q s t e n m h = subst (λ (o : Option Seen). HasAny o (get m q)) (seen_replaced ss q s t e n) (h q)

-- an entry at the end
cond_pushed : (d : Bool) (x : Seen) (o p : Option Seen) (file : Option (List ℕ)) → (HasAny o file → HasAny p file)
    → HasAny (cond d (Some x) o) file → HasAny (cond d (Some x) p) file
cond_pushed true x o p file k h = h
cond_pushed false x o p file k h = k h

pushed_before : (ss : List Seen) (t : Seen) (r : List ℕ) (file : Option (List ℕ)) → HasAny (seen_of (ss ++ t ∷ []) r) file
    → HasAny (seen_of ss r) file
pushed_before [] t r file h = tt
pushed_before (x ∷ ss) t r file h = cond_pushed (bytes_eq r x.name) x (seen_of (ss ++ t ∷ []) r) (seen_of ss r) file
    (pushed_before ss t r file) h

pub pushed_told : (ss : List Seen) (t : Seen) (m : Contents) → Agrees (ss ++ t ∷ []) m → Agrees ss m
pushed_told ss t m h r = pushed_before ss t r (get m r) (h r)

pub pushed_found : (ss : List Seen) (q : List ℕ) (t : Seen) → seen_of ss q ≡ None → bytes_eq q t.name ≡ true
    → seen_of (ss ++ t ∷ []) q ≡ slice_get (ss ++ t ∷ []) (length ss)
pushed_found [] q t e k = rw k refl
pushed_found (x ∷ ss) q t e k =
    let n = not_this (bytes_eq q x.name) x (seen_of ss q) e in
    rw n.0 (pushed_found ss q t n.1 k)

pub pushed_replaced : (ss : List Seen) (q : List ℕ) (t s : Seen) → seen_of ss q ≡ None → bytes_eq q t.name ≡ true
    → slice_set (ss ++ t ∷ []) (length ss) s ≡ replaced (ss ++ t ∷ []) q s
pushed_replaced [] q t s e k = rw k refl
pushed_replaced (x ∷ ss) q t s e k =
    let n = not_this (bytes_eq q x.name) x (seen_of ss q) e in
    rw n.0 (ap (λ l. x ∷ l) (pushed_replaced ss q t s n.1 k))

-- the entry of a name has the name
pub seen_named : (ss : List Seen) (q : List ℕ) (s : Seen) → seen_of ss q ≡ Some s → q ≡ s.name
seen_named [] q s e = cc
seen_named (x ∷ ss) q s e =
    elim (just (bytes_eq q x.name) x s (seen_of ss q) e) [
      | inl p ↦ (bytes_eq-Decides q x.name).0 p.0 ∙ ap (λ (y : Seen). y.name) p.1
      | inr p ↦ seen_named ss q s p.1
    ]

-- ---- as functions say it of the list that was lent, and of the name's bytes

pub none_there : (lent ss : List Seen) (bytes q : List ℕ) → lent ≡ ss → bytes ≡ q → seen_of lent bytes ≡ None
    → seen_of ss q ≡ None
none_there lent ss bytes q v b h = sym (ap (seen_of ss) b) ∙ subst (λ (l : List Seen). seen_of l bytes ≡ None) v h

-- what a read found, of a file that has what was seen
pub got_of : {E : Type 0} (r : Result Got E) (t : Seen) (at : ℕ) (buffer : List ℕ) (file : Option (List ℕ))
    → IfOk r (λ got. (f : Option (List ℕ)) → HasSeen t.extent t.bytes.items f → IsGot f at buffer got)
    → HasSeen t.extent t.bytes.items file → IfOk r (IsGot file at buffer)
got_of (Ok got) t at buffer file h k = h file k
got_of (Err e) t at buffer file h k = tt

-- ---- no more is learned than the front of one file

-- what has the same first bytes as xs and more has all of xs in front, where these are no more than so many
pub front_same : (count : ℕ) (xs rest ys : List ℕ) → length xs ≤ count → take count (xs ++ rest) ≡ take count ys
    → (more : List ℕ) × (ys ≡ xs ++ more)
front_same count [] rest ys h e = (ys, refl)
front_same zero (x ∷ xs) rest ys h e = absurd (omega arith)
front_same (suc count) (x ∷ xs) rest [] h e = cc
front_same (suc count) (x ∷ xs) rest (y ∷ ys) h e =
    let t : take count (xs ++ rest) ≡ take count ys = cc in
    let k : x ≡ y = cc in
    let m = front_same count xs rest ys (omega arith) t in
    (m.0, subst (λ z. y ∷ ys ≡ z ∷ (xs ++ m.0)) (sym k) (ap (λ l. y ∷ l) m.1))

-- a file with these bytes in front, and one like it
pub begun_same : (count : ℕ) (xs rest : List ℕ) (other : Option (List ℕ)) → length xs ≤ count
    → option_map (take count) (Some (xs ++ rest)) ≡ option_map (take count) other → (more : List ℕ) × (other ≡ Some (xs ++ more))
begun_same count xs rest None h e = cc
begun_same count xs rest (Some ys) h e = search (rules, front_same)

-- of a file with its first bytes fewer are looked at as well
pub fewer_same : (k n : ℕ) (file other : Option (List ℕ)) → k ≤ n → option_map (take n) file ≡ option_map (take n) other
    → option_map (take k) file ≡ option_map (take k) other
fewer_same k n None None h e = refl
fewer_same k n None (Some ys) h e = cc
fewer_same k n (Some xs) None h e = cc
fewer_same k n (Some xs) (Some ys) h e =
    let t : take n xs ≡ take n ys = cc in
    ap (λ l. Some l) (sym (take-take k n xs h) ∙ (ap (take k) t ∙ take-take k n ys h))

has_after : (ss : List Seen) (q : List ℕ) (s t : Seen) (r : List ℕ) (file : Option (List ℕ)) → seen_of ss q ≡ Some s
    → t.name ≡ s.name
    → (bytes_eq r t.name ≡ true → HasSeen t.extent t.bytes.items file) → HasAny (seen_of ss r) file
    → HasAny (seen_of (replaced ss q t) r) file
has_after [] q s t r file e n g h = cc
has_after (x ∷ ss) q s t r file e n g h =
    elim (just (bytes_eq q x.name) x s (seen_of ss q) e) [
      | inl p ↦ (let named : HasAny (cond (bytes_eq r t.name) (Some x) (seen_of ss r)) file =
          subst (λ (l : List ℕ). HasAny (cond (bytes_eq r l) (Some x) (seen_of ss r)) file) (ap (λ (y : Seen). y.name) p.1
          ∙ sym n) h in
          subst (λ (b : Bool). HasAny (seen_of (cond b (t ∷ ss) (x ∷ replaced ss q t)) r) file) (sym p.0)
          (cond_after (bytes_eq r t.name) x t (seen_of ss r) file g named))
      | inr p ↦ subst (λ (b : Bool). HasAny (seen_of (cond b (t ∷ ss) (x ∷ replaced ss q t)) r) file) (sym p.0)
          (cond_rest (bytes_eq r x.name) x (seen_of ss r) (seen_of (replaced ss q t) r) file
          (has_after ss q s t r file p.1 n g) h)
    ]
  where
    cond_after : (b : Bool) (x t : Seen) (o : Option Seen) (file : Option (List ℕ))
        → (b ≡ true → HasSeen t.extent t.bytes.items file) → HasAny (cond b (Some x) o) file → HasAny (cond b (Some t) o) file
    cond_after true x t o file g h = g refl
    cond_after false x t o file g h = h

-- with an entry that has seen just as much in place of a name's
pub replaced_same : (ss : List Seen) (q : List ℕ) (s t : Seen) → seen_of ss q ≡ Some s → t.name ≡ s.name
    → ((file : Option (List ℕ)) → HasSeen s.extent s.bytes.items file → HasSeen t.extent t.bytes.items file)
    → (m : Contents) → Agrees ss m → Agrees (replaced ss q t) m
replaced_same ss q s t e k h m old r = search (rules, has_after, bytes_eq-Decides, seen_named)

-- an entry with the same extent and bytes has seen the same
pub same_seen : (s t : Seen) → t.extent ≡ s.extent → t.bytes.items ≡ s.bytes.items → (file : Option (List ℕ))
    → HasSeen s.extent s.bytes.items file → HasSeen t.extent t.bytes.items file
same_seen s t e b file h = subst (λ l. HasSeen t.extent l file) (sym b) (subst (λ x. HasSeen x s.bytes.items file) (sym e) h)

-- a file that was begun, with more bytes in front of it
pub begun_learns : (x : Extent) (old new : List ℕ) (count : ℕ) → x ≡ Begun → length new ≤ count → (file other : Option (List ℕ))
    → HasSeen x new file → HasSeen x old other
    → option_map (take count) file ≡ option_map (take count) other → HasSeen x new other
begun_learns Begun old new count e h file other f o same =
    begun_same count new f.0 other h (ap (option_map (take count)) (sym f.1) ∙ same)
begun_learns _ old new count e h file other f o same = absurd cc

-- with an entry that has learned so much in place of a name's, contents that are alike in that are told
pub replaced_learned : (ss : List Seen) (q : List ℕ) (s t : Seen) (count : ℕ) → seen_of ss q ≡ Some s → t.name ≡ s.name
    → Learns s t count
    → (m n : Contents) → Agrees (replaced ss q t) m → Agrees ss n → HaveSameFront q count m n → Agrees (replaced ss q t) n
replaced_learned ss q s t count e k learns m n new old same r =
    has_after ss q s t r (get n r) e k
    (λ b. let is : r ≡ q = (bytes_eq-Decides r t.name).0 b ∙ (k ∙ sym (seen_named ss q s e)) in
    subst (λ l. HasSeen t.extent t.bytes.items (get n l)) (sym is)
    (learns (get m q) (get n q) (replaced_has ss q s t e k m new) (subst (λ o. HasAny o (get n q)) e (old q)) same))
    (old r)

-- an entry of which nothing was asked, at the end, tells nothing
pub pushed_learned : (ss : List Seen) (t : Seen) (m : Contents) → t.extent ≡ Unasked → Agrees ss m → Agrees (ss ++ t ∷ []) m
pushed_learned ss t m u h r = after ss t r (get m r) u (h r)
  where
    unasked : (b : Bool) (t : Seen) (file : Option (List ℕ)) → t.extent ≡ Unasked → HasAny (cond b (Some t) None) file
    unasked true t file u = subst (λ x. HasSeen x t.bytes.items file) (sym u) tt
    unasked false t file u = tt

    after : (ss : List Seen) (t : Seen) (r : List ℕ) (file : Option (List ℕ)) → t.extent ≡ Unasked → HasAny (seen_of ss r) file
        → HasAny (seen_of (ss ++ t ∷ []) r) file
    after [] t r file u h = unasked (bytes_eq r t.name) t file u
    after (x ∷ ss) t r file u h = cond_rest (bytes_eq r x.name) x (seen_of ss r) (seen_of (ss ++ t ∷ []) r) file
        (after ss t r file u) h

-- what is learned over two calls
pub learns_on : (first before now : Seen) (count : ℕ) → Learns first before count → Grows before now → Learns before now count
    → Learns first now count
learns_on first before now count so_far grows learns file other f o same =
    learns file other f (so_far file other (grows file f) o same) same

-- what is learned of fewer bytes
pub learns_wider : (before now : Seen) (few many : ℕ) → few ≤ many → Learns before now few → Learns before now many
learns_wider before now few many h learns file other f o same = learns file other f o (fewer_same few many file other h same)

-- from an entry that has seen just as much
module _ (first before now : Seen) (e : before.extent ≡ first.extent) (b : before.bytes.items ≡ first.bytes.items) where
  pub grows_from : Grows before now → Grows first now
  grows_from grows file h = same_seen before first (sym e) (sym b) file (grows file h)

  pub learns_from : (count : ℕ) → Learns before now count → Learns first now count
  learns_from count learns file other f o same = learns file other f (same_seen first before e b other o) same

-- to an entry that has seen just as much
module _ (first before now : Seen) (e : now.extent ≡ before.extent) (b : now.bytes.items ≡ before.bytes.items) where
  pub grows_to : Grows first before → Grows first now
  grows_to grows file h = grows file (same_seen now before (sym e) (sym b) file h)

  pub learns_to : (count : ℕ) → Learns first before count → Learns first now count
  learns_to count learns file other f o same =
      same_seen before now e b other (learns file other (same_seen now before (sym e) (sym b) file f) o same)

-- the entry of a name, as functions say it of the list that was lent, and of the name's bytes
pub found_there : (lent ss : List Seen) (bytes q : List ℕ) (i : ℕ) → lent ≡ ss → bytes ≡ q → seen_of lent bytes ≡ slice_get lent i
    → seen_of ss q ≡ slice_get ss i
found_there lent ss bytes q i v b h = sym (ap (seen_of ss) b) ∙ subst (λ (l : List Seen). seen_of l bytes ≡ slice_get l i) v h

-- an entry in the name's place, as functions say it so
pub set_there : (lent ss : List Seen) (bytes q : List ℕ) (i : ℕ) → lent ≡ ss → bytes ≡ q
    → ((s : Seen) → slice_set lent i s ≡ replaced lent bytes s) → (s : Seen) → slice_set ss i s ≡ replaced ss q s
set_there lent ss bytes q i v b h s =
    subst (λ (l : List Seen). slice_set l i s ≡ replaced l q s) v (h s ∙ ap (λ z. replaced lent z s) b)
