-- Domains of leaves: paths that were met, and the leaves and domains of a flat system.
use Rattle.adl_flatten.proofs.Common.{Bool, Bor, Domain, Hierarchy, Homed, IsIn, Leaf, List, None, Path, Placed, Some, [], ap, append-nil, append_assoc, arith, common_steps, cond, domain_of, domains, drop, drop_first, enumerate_from, false, false_from_ne_true, filled, filter, filter_map, firsts, firsts_after, flattened, get_or, grown, home, homed, inl, inr, is_hardware, is_inside, leaf_in, leaf_of, leaves, length, length-append, list_any, list_any-append, list_any-map, map, map-append, map-map, not, place_by, pointed, put_into, refl, same_path, set, subst, suc, sym, template_leaves, top_number, true, zero, ℕ, ◌&&◌, ◌++◌, ◌+◌, ◌<◌, ◌||◌, ◌∙◌, ◌∷◌, ◌≡◌, ◌≤◌}
use Rattle.std.specs.List.{position_or_len}
use Rattle.indexmap.specs.IndexSet.{insert_key}
use Rattle.adl_hierarchy.proofs.DomainNames.{domains_once, same_path-Decides}
use Rattle.adl_hierarchy.specs.Once.{IsOnce}

-- ---- paths that were met

-- whether the path is in the list
abbrev pub is_met : List Path → Path → Bool
is_met paths p = list_any (same_path p) paths

-- the paths, and those of more that are not among them
abbrev pub all_met : List Path → List Path → List Path
all_met paths more = paths ++ firsts_after same_path (is_met paths) more

-- the paths after one more leaf
pub met_more : (old new : List (Bor Path)) (k : Bor Path) (more : List Path)
    → new ≡ insert_key (λ a b. same_path a.now b.now) old k → all_met (pointed new) more ≡ all_met (pointed old) (k.now ∷ more)
met_more old new k more e =
    let snoc : (y : Path) → is_met (pointed old ++ k.now ∷ []) y ≡ (is_met (pointed old) y || same_path y k.now) =
    λ y. grind (arith, common_steps, list_any-append (same_path y) (pointed old) (k.now ∷ [])) in
    let met : is_met (pointed old ++ k.now ∷ []) ≡ (λ y. is_met (pointed old) y || same_path y k.now) = λ i y. snoc y i in
    grind (
      arith,
      common_steps,
      met,
      map-append (λ (r : Bor Path). r.now) old (k ∷ []),
      list_any-map (same_path k.now)
          (λ (r : Bor Path). r.now) old,
    )

-- the paths of all leaves' domains
pub paths_are : (h : Hierarchy) (ls : List Homed) → ls ≡ template_leaves h (top_number h)
    → all_met [] (filter_map (home h) ls) ≡ domains h
paths_are h ls e = ap (λ ls. firsts same_path (filter_map (home h) ls)) e ∙ ap (firsts same_path) (homes (leaves h))
  where
    homes : (xs : List Placed) → filter_map (home h) (map (homed h (top_number h)) xs) ≡ map (λ x. domain_of h x.path)
        (filter (λ x. not (is_hardware h x.part)) xs)
    homes [] = refl
    homes (x ∷ xs) = grind (arith, common_steps, homes xs)

-- the place at which a path is met, where more come behind it
pub place_met : (met : Path → Bool) (old : List (Bor Path)) (p : Path) (more : List Path) → met p ≡ is_met (pointed old) p
    → position_or_len (λ k. same_path p k.now) old ≡ place_by (same_path p)
    (pointed old ++ firsts_after same_path met (p ∷ more))
place_met met [] p more e = let same = (same_path-Decides p p).1 refl in grind (arith, common_steps, e, same)
place_met met (k ∷ ks) p more e = by (same_path p k.now) refl (place_met met ks p more)
  where
    by : (b : Bool) → same_path p k.now ≡ b
        → (met p ≡ is_met (pointed ks) p → position_or_len (λ k. same_path p k.now) ks ≡ place_by (same_path p)
        (pointed ks ++ firsts_after same_path met (p ∷ more)))
        → position_or_len (λ k. same_path p k.now) (k ∷ ks) ≡ place_by (same_path p)
        (pointed (k ∷ ks) ++ firsts_after same_path met (p ∷ more))
    by true t further = grind (arith, common_steps, t)
    by false t further =
        let rest : met p ≡ is_met (pointed ks) p = grind (arith, common_steps, e, t) in
        grind (arith, common_steps, t, further rest)

-- ---- leaves

pub leaves_are : (h : Hierarchy) (ps : List Path) (ls : List Homed) → ps ≡ domains h → ls ≡ template_leaves h (top_number h)
    → map (leaf_in h ps) ls ≡ (flattened h).leaves
leaves_are h ps ls p e =
    (λ i. map (leaf_in h (p i)) (e i)) ∙ map-map (leaf_in h (domains h)) (homed h (top_number h)) (leaves h)
    ∙ ap (λ f. map f (leaves h)) (λ i x. same x i)
  where
    same : (x : Placed) → leaf_in h (domains h) (homed h (top_number h) x) ≡ leaf_of h x
    same x = grind (arith, common_steps)

-- one leaf more
pub leaf_more : {A B : Type 0} (f : A → B) (xs : List A) (i : ℕ) (x : A) (old new : List B) (y : B) → i < length xs
    → x ≡ get_or xs i x → new ≡ old ++ y ∷ [] → y ≡ f x → old ++ map f (drop i xs) ≡ map f xs
    → new ++ map f (drop (i + 1) xs) ≡ map f xs
leaf_more f xs i x old new y l e pushed same before = grind (arith, common_steps, drop_first xs i x l e, pushed, same, before)

-- ---- domains

-- the domain of the path, where these are the leaves
abbrev domain_to : Hierarchy → List Placed → Path → Domain
domain_to h xs p = record { path = p; leaves = map (λ x. x.0) (filter (λ x. is_inside h p x.1) (enumerate_from 0 xs)) }

-- a domain without leaves
abbrev pub empty_at : Bor Path → Domain
empty_at p = record { path = p.now; leaves = [] }

pub set_beyond : {A : Type 0} (xs : List A) (i : ℕ) (y : A) → length xs ≤ i → set xs i y ≡ xs
set_beyond [] i y l = refl
set_beyond (x ∷ xs) zero y l = absurd (omega arith)
set_beyond (x ∷ xs) (suc i) y l = ap (λ zs. x ∷ zs) (set_beyond xs i y (omega arith))

-- the numbers of those that are, with one more behind them
numbered_more : {X : Type 0} (is : X → Bool) (a n : ℕ) (xs : List X) (x : X) → n ≡ a + length xs
    → map (λ x. x.0) (filter (λ x. is x.1) (enumerate_from a (xs ++ x ∷ []))) ≡ map (λ x. x.0)
    (filter (λ x. is x.1) (enumerate_from a xs)) ++ cond (is x) (n ∷ []) []
numbered_more is a n [] x e = grind (arith, common_steps)
numbered_more is a n (y ∷ xs) x e = let s : n ≡ (a + 1) + length xs = omega arith in
    grind (arith, common_steps, numbered_more is (a + 1) n xs x s)

domain_more : (h : Hierarchy) (n : ℕ) (xs : List Placed) (x : Placed) (p : Path) → n ≡ length xs
    → domain_to h (xs ++ x ∷ []) p ≡ cond (is_inside h p x) (grown n (domain_to h xs p)) (domain_to h xs p)
domain_more h n xs x p e =
    let more = numbered_more (is_inside h p) 0 n xs x (omega arith) in
    grind (arith, common_steps, more, append-nil (domain_to h xs p).leaves)

-- what is put into the domain of the path q is put into no other one
put_one : (f g : Path → Domain) (q : Path) (n : ℕ) (ds : List Path) → IsOnce ds
    → ((p : Path) → g p ≡ cond (same_path q p) (grown n (f p)) (f p))
    → put_into (Some (place_by (same_path q) ds)) n (map f ds) ≡ map g ds
put_one f g q n [] once e = refl
put_one f g q n (p ∷ ds) once e = grind (arith, common_steps, e p, others ds (λ s i. i), put_one f g q n ds once.1 e)
  where
    others : (ss : List Path) → ((s : Path) → IsIn s ss → IsIn s ds) → same_path q p ≡ true → map f ss ≡ map g ss
    others [] m t = refl
    others (s ∷ ss) m t =
        let no : same_path q s ≡ false =
        false_from_ne_true _
        (λ u. once.0 (subst (λ r. IsIn r ds) (sym ((same_path-Decides q s).0 u) ∙ (same_path-Decides q p).0 t)
        (m s (inl refl)))) in
        grind (arith, common_steps, e s, others ss (λ r i. m r (inr i)) t)

filled_more : (h : Hierarchy) (n : ℕ) (done xs : List Placed) → n ≡ length done
    → filled n (map (leaf_of h) xs) (map (domain_to h done) (domains h)) ≡ map (domain_to h (done ++ xs)) (domains h)
filled_more h n done [] e = ap (λ xs. map (domain_to h xs) (domains h)) (sym (append-nil done))
filled_more h n done (x ∷ xs) e =
    ap (filled (n + 1) (map (leaf_of h) xs)) (by_test (is_hardware h x.part) (λ p. domain_more h n done x p e))
    ∙ filled_more h (n + 1) (done ++ x ∷ []) xs (omega (arith, e, length-append done (x ∷ [])))
    ∙ ap (λ ys. map (domain_to h ys) (domains h)) (append_assoc done (x ∷ []) xs)
  where
    by_test : (b : Bool) → ((p : Path) → domain_to h (done ++ x ∷ []) p ≡ cond (not b && same_path (domain_of h x.path) p)
        (grown n (domain_to h done p)) (domain_to h done p))
        → put_into (cond b None (Some (place_by (same_path (domain_of h x.path)) (domains h)))) n
        (map (domain_to h done) (domains h)) ≡ map (domain_to h (done ++ x ∷ [])) (domains h)
    by_test true more = ap (λ (f : Path → Domain). map f (domains h)) (λ i p. sym (more p) i)
    by_test false more = put_one (domain_to h done) (domain_to h (done ++ x ∷ [])) (domain_of h x.path) n (domains h)
        (domains_once h) more

pub domains_are : (h : Hierarchy) (ls : List Leaf) (ps : List (Bor Path)) → ls ≡ (flattened h).leaves → pointed ps ≡ domains h
    → filled 0 ls (map empty_at ps) ≡ (flattened h).domains
domains_are h ls ps e p =
    ap (λ ls. filled 0 ls (map empty_at ps)) e ∙ ap (filled 0 (map (leaf_of h) (leaves h)))
    (sym (map-map (domain_to h []) (λ (r : Bor Path). r.now) ps) ∙ ap (map (domain_to h [])) p)
    ∙ filled_more h 0 [] (leaves h) refl
