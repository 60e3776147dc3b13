-- Keys of settings: a path with a name behind it.
use Rattle.adl_settings.proofs.SettleCommon.{Bool, Bor, Global, Hierarchy, Id, List, Name, None, Option, Part, Path, Setting, SettingTable, Some, Vec, [], ap, append_assoc, arith, body, bytes_eq, cond, false, groups, inner_names, is_group, is_none, is_some, length, lookup, map, map-append, nil_from_length, option_and_then, option_copied, option_map, option_map_or, option_or, option_or-none, option_or-there, part_named, path_from, path_of, pointed, pointwise, pointwise-map, refl, same_path, same_path-true, suc, sym, take, true, ℕ, ◌&&◌, ◌++◌, ◌+◌, ◌-◌, ◌∙◌, ◌∷◌, ◌≡◌}
use Rattle.adl_program.specs.Seen.{part_from}
use Rattle.adl_program.specs.declared.part.PartAt.{PartAt}
use Rattle.adl_settings.specs.Lookups.{setting_found, within}

abbrev pub same_keys : List (Bor Name) → List (Bor Name) → Bool
same_keys q k = pointwise (λ (a b : Bor Name). bytes_eq a.now b.now) q k

same_keys-pointed : (q k : List (Bor Name)) → same_keys q k ≡ same_path (pointed q) (pointed k)
same_keys-pointed q k = sym (pointwise-map (λ (r : Bor Name). r.now) bytes_eq q k)

-- equal keys are equal paths with equal names
pub same_path_snoc : (p q : Path) (x y : Name) → same_path (p ++ x ∷ []) (q ++ y ∷ []) ≡ (same_path p q && bytes_eq x y)
same_path_snoc [] [] x y = grind arith
same_path_snoc [] (b ∷ []) x y = grind arith
same_path_snoc [] (b ∷ c ∷ q) x y = grind arith
same_path_snoc (a ∷ []) [] x y = grind arith
same_path_snoc (a ∷ c ∷ p) [] x y = grind arith
same_path_snoc (a ∷ p) (b ∷ q) x y = let rest = same_path_snoc p q x y in grind arith

-- ---- the table of a body

abbrev pub Entries : Type 0
Entries = List (Vec (Bor Name) Global × Bor Setting)

-- a table without entries finds nothing
pub found_none : (t : SettingTable) (q : Path) → length t.entries.entries ≡ 0 → setting_found t q ≡ None
unfolding setting_found
found_none t q e = ap (λ (es : Entries). option_copied (lookup (λ (k : Vec (Bor Name) Global). same_path q (pointed k.items)) es))
    (nil_from_length t.entries.entries e)

abbrev pub keyed : List (Bor Name) → Entries → Option (Bor Setting)
keyed key es = lookup (λ (k : Vec (Bor Name) Global). same_keys key k.items) es

-- what is found by a key, and whether
module _ (t : SettingTable) (key : List (Bor Name)) where
  pub found_key : setting_found t (pointed key) ≡ option_copied (keyed key t.entries.entries)
  unfolding setting_found
  found_key = λ i. option_copied (lookup (λ (k : Vec (Bor Name) Global). sym (same_keys-pointed key k.items) i) t.entries.entries)

  pub found_there : is_some (setting_found t (pointed key)) ≡ is_some (keyed key t.entries.entries)
  found_there = let same = found_key in grind arith

-- what is found where the key was there
pub found_kept : (t : SettingTable) (key q : Path) (x : Setting) → is_some (setting_found t key) ≡ true
    → setting_found t q ≡ option_or (setting_found t q) (cond (same_path q key) (Some x) None)
found_kept t key q x there = let same = same_path-true q key in grind (arith, option_or-there, option_or-none)

-- and where it is put behind the others
pub found_put : (old new : SettingTable) (key : Vec (Bor Name) Global) (r : Bor Setting)
    → new.entries.entries ≡ old.entries.entries ++ (key, r) ∷ [] → (q : Path)
    → setting_found new q ≡ option_or (setting_found old q) (cond (same_path q (pointed key.items)) (Some r.now) None)
unfolding setting_found
found_put old new key r e q =
    let found : Entries → Option Setting =
    λ es. option_copied (lookup (λ (k : Vec (Bor Name) Global). same_path q (pointed k.items)) es) in
    ap found e ∙ more old.entries.entries
  where
    more : (es : Entries)
        → option_copied (lookup (λ (k : Vec (Bor Name) Global). same_path q (pointed k.items)) (es ++ (key, r) ∷ []))
        ≡ option_or (option_copied (lookup (λ (k : Vec (Bor Name) Global). same_path q (pointed k.items)) es))
        (cond (same_path q (pointed key.items)) (Some r.now) None)
    more [] = grind arith
    more (x ∷ es) = let rest = more es in grind arith

-- ---- the path that words name

-- the component of the first instance of a name
pub kinds_same : (i : ℕ) (xs : List Part) (n : Name) → option_map (λ (a : PartAt). a.kind) (part_from i xs n) ≡ option_and_then
    (λ (x : Part). Some x.kind) (part_named xs n)
kinds_same i [] n = refl
kinds_same i (x ∷ xs) n = let rest = kinds_same (i + 1) xs n in grind arith

pub inner-cons : (w : Id) (rest : List Id) (last : Id) → inner_names (w ∷ (rest ++ last ∷ [])) ≡ w.name
    ∷ inner_names (rest ++ last ∷ [])
inner-cons w [] last = refl
inner-cons w (x ∷ rest) last =
    let more : suc (suc (length (rest ++ last ∷ []))) - 1 ≡ suc (suc (length (rest ++ last ∷ [])) - 1) = omega arith in
    ap (λ n. map (λ (w : Id). w.name) (take n (w ∷ x ∷ (rest ++ last ∷ [])))) more

by_part : (h : Hierarchy) (ws : List Id) (n : Name) (here : Path) (p : Option Part) (g : Bool)
    → option_map_or (λ x. n ∷ path_of h x.kind ws) p (cond g here (n ∷ inner_names ws)) ≡ cond
    (is_none (option_and_then (λ x. Some x.kind) p) && g) here (n ∷ path_from h (option_and_then (λ x. Some x.kind) p) ws)
by_part h ws n here p g = grind arith

-- the path from a word on: a group gives no name
pub path_step : (h : Hierarchy) (o : Option ℕ) (w : Id) (rest : List Id) (last : Id) → path_from h o (w ∷ (rest ++ last ∷ []))
    ≡ cond (is_none (within h o w.name) && groups h o w.name) (path_from h o (rest ++ last ∷ []))
    (w.name ∷ path_from h (within h o w.name) (rest ++ last ∷ []))
path_step h None w rest last = inner-cons w rest last
path_step h (Some k) w [] last = by_part h (last ∷ []) w.name (path_of h k (last ∷ [])) (part_named (body h k).parts w.name)
    (is_group (body h k) w.name)
path_step h (Some k) w (x ∷ rest) last = by_part h (x ∷ (rest ++ last ∷ [])) w.name (path_of h k (x ∷ (rest ++ last ∷ [])))
    (part_named (body h k).parts w.name) (is_group (body h k) w.name)

pub ruleset path_steps = (path_step, append_assoc, map-append)
