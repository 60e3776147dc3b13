-- Steps of the search for a value, from the outermost body inwards.
use Rattle.adl_settings.proofs.SettleCommon.{Bor, Given, Hierarchy, List, Name, None, Option, Part, Path, Setting, Some, [], and_parts, ap, arith, at, attribute_at, body, bytes_eq, bytes_eq-Decides, cases_lt, cond, default_at, drop, drop-append-le, drop-map, find_passes, given, given_from, inl, inr, last_name, length, length-drop, max, option_and_then, option_map, option_map_or, option_or, part_named, pointed, refl, same_path, same_path-true, set_within, sets, setter_at, setting_of, settings_of, slice_get, suc, sym, take, take-length, top_number, value_at, zero, ℕ, ◌&&◌, ◌++◌, ◌+◌, ◌-◌, ◌<◌, ◌∙◌, ◌∷◌, ◌≡◌, ◌≤◌}
use Rattle.adl_settings.specs.Lookups.{within}
use Rattle.adl_settings.proofs.ValueSearch.{outer_stays, referred, value-referred}
use borrow.Author.Count.{below_more}

-- ---- bodies along a path

within_behind : (h : Hierarchy) (q : Path) (i : ℕ) (o : Option Part)
    → ((k : ℕ) → option_map_or (within h (at h k (take i q))) (slice_get q i) (at h k (take i q)) ≡ at h k (take (suc i) q))
    → option_map_or (within h (option_and_then (λ (x : Part). at h x.kind (take i q)) o)) (slice_get q i)
    (option_and_then (λ (x : Part). at h x.kind (take i q)) o) ≡ option_and_then
    (λ (x : Part). at h x.kind (take (suc i) q)) o
within_behind h q i None next = grind arith
within_behind h q i (Some x) next = next x.kind

at_more : (h : Hierarchy) (k : ℕ) (p : Path) (i : ℕ) → option_map_or (within h (at h k (take i p))) (slice_get p i)
    (at h k (take i p)) ≡ at h k (take (suc i) p)
at_more h k [] zero = refl
at_more h k [] (suc i) = refl
at_more h k (n ∷ p) zero = refl
at_more h k (n ∷ p) (suc i) = within_behind h p i (part_named (body h k).parts n) (λ m. at_more h m p i)

-- the body behind the next name
pub at-next : (h : Hierarchy) (k : ℕ) (p : Path) (i : ℕ) (o : Option ℕ) → o ≡ at h k (take i p)
    → option_map_or (within h o) (slice_get p i) o ≡ at h k (take (i + 1) p)
at-next h k p i o e =
    let next : suc i ≡ i + 1 = omega arith in
    ap (λ z. option_map_or (within h z) (slice_get p i) z) e ∙ at_more h k p i ∙ ap (λ j. at h k (take j p)) next

-- ---- what one body sets

pub given-setter : (h : Hierarchy) (refer : Name → Option Given) (q : Path) (x : Name) (o : Option ℕ)
    → given_from refer (option_and_then (λ k. setting_of h k q x) o) ≡ given refer x
    (option_and_then (λ k. option_map (λ s. s.setter) (setting_of h k q x)) o)
given-setter h refer q x None = refl
given-setter h refer q x (Some k) =
    by_case (setting_of h k q x) (λ s e. (bytes_eq-Decides x (last_name s.words)).0 (and_parts _ (bytes_eq x (last_name s.words))
    (find_passes (sets h k q x) (settings_of (body h k)) s e)).1)
  where
    by_case : (o : Option Setting) → ((s : Setting) → o ≡ Some s → x ≡ last_name s.words)
        → given_from refer o ≡ given refer x (option_map (λ (s : Setting). s.setter) o)
    by_case None named = refl
    by_case (Some s) named = ap (λ n. given refer n (Some s.setter)) (sym (named s refl))

-- ---- the search

above : (h : Hierarchy) (p : Path) (j : ℕ) (y : Name) → suc j ≤ length p → attribute_at h (take (suc j) p) y ≡ referred h p j y
above h [] j y l = absurd (omega (arith, l))
above h (n ∷ p) j y l = value-referred h (n ∷ p) j y l

-- what the bodies at up to k names set, where those further out set nothing
pub set-here : (h : Hierarchy) (p : Path) (k : ℕ) (x : Name) → k ≤ length p
    → ((j : ℕ) → j < k → set_within h p j (length p) x ≡ None)
    → set_within h p k (length p) x ≡ given (attribute_at h (take k p)) x (setter_at h p k (length p) x)
set-here h p zero x l none = refl
set-here h p (suc j) x l none =
    let refer : referred h p j ≡ attribute_at h (take (suc j) p) = λ i y. sym (above h p j y l) i in
    ap (λ o. option_or o (given (referred h p j) x (setter_at h p (suc j) (length p) x))) (none j (omega arith))
    ∙ ap (λ (f : Name → Option Given). given f x (setter_at h p (suc j) (length p) x)) refer

pub set-stays : (h : Hierarchy) (p : Path) (k m end : ℕ) (x : Name) (g : Given) → k ≤ m → set_within h p k end x ≡ Some g
    → set_within h p m end x ≡ Some g
set-stays h p k zero end x g l e = let z : zero ≡ k = omega (arith, l) in ap (λ n. set_within h p n end x) z ∙ e
set-stays h p k (suc m) end x g l e =
    elim (cases_lt m k) [
      | inl a ↦ let last : suc m ≡ k = omega arith in ap (λ n. set_within h p n end x) last ∙ e
      | inr a ↦
          outer_stays h p m end x g (set-stays h p k m end x g a e)
    ]

-- the key of the rest of a path
pub key-behind : (ks items : List (Bor Name)) (p : Path) (x : Name) (i : ℕ) → ks ≡ items → pointed items ≡ p ++ x ∷ []
    → i ≤ length p → pointed (take (length ks - i) (drop i ks)) ≡ drop i p ++ x ∷ []
key-behind ks items p x i e named l =
    ap (λ n. pointed (take n (drop i ks))) (sym (length-drop i ks)) ∙ ap pointed (take-length (drop i ks))
    ∙ sym (drop-map (λ (r : Bor Name). r.now) i ks)
    ∙ ap (λ z. drop i (pointed z)) e ∙ ap (drop i) named ∙ drop-append-le i p (x ∷ []) l

-- one step of the search, behind i names
module _ (h : Hierarchy) (p : Path) (i m : ℕ) (x : Name) (o : Option ℕ) (s : Option Setting) (found : Option Given)
    (ks items : List (Bor Name)) (l : i < m) (most : m ≡ max (length p) 1)
    (there : o ≡ at h (top_number h) (take i p)) (is : (q : Path) (y : Name) → pointed (take (length ks - i) (drop i ks)) ≡ q ++ y
    ∷ [] → s ≡ option_and_then (λ k. setting_of h k q y) o)
    (same : ks ≡ items) (named : pointed items ≡ p ++ x ∷ []) (result : found ≡ given_from (attribute_at h (take i p)) s)
    (none : (j : ℕ) → j < i → set_within h p j (length p) x ≡ None) where
  found-here : set_within h p i (length p) x ≡ found
  found-here =
      let refer = attribute_at h (take i p) in
      let inside : i ≤ length p = omega (arith, l, most) in
      set-here h p i x inside none
      ∙ (λ j. given refer x (option_and_then (λ b. option_map (λ s. s.setter) (setting_of h b (drop i (take-length p j)) x))
      (sym there j)))
      ∙ sym (given-setter h refer (drop i p) x o)
      ∙ ap (given_from refer) (sym (is (drop i p) x (key-behind ks items p x i same named inside))) ∙ sym result

  -- where it finds a value
  pub step-found : (g : Given) → found ≡ Some g → Some g ≡ value_at h p x
  step-found g some =
      sym (ap (λ o. option_or o (default_at h p x)) (set-stays h p i (length p - 1) (length p) x g (omega (arith, l, most))
      (found-here ∙ some)))

  -- and where it finds none
  pub step-none : found ≡ None → (k : ℕ) → k < i + 1 → set_within h p k (length p) x ≡ None
  step-none nothing = below_more (λ k. set_within h p k (length p) x ≡ None) i none (found-here ∙ nothing)

-- ---- what is remembered

pub remembered_more : (h : Hierarchy) (f f' : Path → Name → Option (Option Given)) (path : Path) (name : Name) (v : Option Given)
    → ((p : Path) (x : Name) (g : Option Given) → f p x ≡ Some g → g ≡ value_at h p x) → v ≡ value_at h path name
    → ((p : Path) (x : Name) → f' p x ≡ cond (same_path path p && bytes_eq name x) (Some v) (f p x))
    → (p : Path) (x : Name) (g : Option Given) → f' p x ≡ Some g → g ≡ value_at h p x
remembered_more h f f' path name v old is new p x g e = grind (
  arith,
  same_path-true path p,
  (bytes_eq-Decides name x).0,
  new p x,
  old p x g,
)
