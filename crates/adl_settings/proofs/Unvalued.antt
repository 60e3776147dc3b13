-- Names that no body gives a value have none.
use Rattle.adl_settings.proofs.SettleCommon.{Bool, Component, Hierarchy, List, Member, Name, None, Option, Path, Setting, Some, [], ap, arith, at, body, bytes_eq, bytes_eq-sym, common_steps, cond, declared_by, default_at, drop, false, find, flat_map, get_or, given, length, list_any, nat_tests, option_and_then, option_map, option_map_or, option_or, refl, set_within, sets, setter_at, setting_of, settings_of, suc, take, top_number, true, value_at, zero, ℕ, ◌++◌, ◌-◌, ◌||◌, ◌∙◌, ◌∷◌, ◌≡◌}
use Rattle.std.proofs.lemmas.Bool.{or_parts}
use Rattle.adl_ast.specs.declared.component.Member.TheVariants as members
use Rattle.adl_meaning.specs.Members.{as_attribute, attribute_of}
use Rattle.adl_meaning.specs.Values.{default_in, given_by}
use Rattle.adl_settings.proofs.ValueSearch.{referred}
use Rattle.adl_settings.specs.Named.{gives, is_attribute, is_valued, members_of, sets_name}
use Rattle.cam_base.proofs.Options.{or_cond}

-- ---- tests

pub or_from_cond : (k n : Name) (new had : Bool) → new ≡ cond (bytes_eq k n) true had → new ≡ (had || bytes_eq n k)
or_from_cond k n new had put = put ∙ or_cond (bytes_eq k n) had ∙ ap (λ b. had || b) (bytes_eq-sym k n)

pub or_behind : (a b c : Bool) → ((a || b) || c) ≡ (a || (b || c))
or_behind a b c = grind (arith, nat_tests)

-- what none of a list and of one behind it has, none has by number
none_by_number : {X : Type 0} (f : X → Bool) (xs : List X) (last : X) → list_any f (xs ++ last ∷ []) ≡ false → (k : ℕ)
    → f (get_or xs k last) ≡ false
none_by_number f [] last e k = (or_parts (f last) false e).0
none_by_number f (x ∷ xs) last e zero = (or_parts (f x) (list_any f (xs ++ last ∷ [])) e).0
none_by_number f (x ∷ xs) last e (suc k) = none_by_number f xs last (or_parts (f x) (list_any f (xs ++ last ∷ [])) e).1 k

-- ---- settings and attributes of one body

no_setting : (h : Hierarchy) (k : ℕ) (p : Path) (x : Name) (ss : List Setting) → list_any (sets_name x) ss ≡ false
    → find (sets h k p x) ss ≡ None
no_setting h k p x [] e = refl
no_setting h k p x (s ∷ ss) e =
    let here = (or_parts (sets_name x s) (list_any (sets_name x) ss) e).0 in
    let rest = no_setting h k p x ss (or_parts (sets_name x s) (list_any (sets_name x) ss) e).1 in
    grind (arith, common_steps)

no_attribute : (x : Name) (ms : List Member) → list_any (is_attribute x) ms ≡ false
    → option_and_then as_attribute (option_map (λ d. d.1) (find (λ d. bytes_eq x d.0.name) (flat_map declared_by ms))) ≡ None
no_attribute x [] e = refl
no_attribute x (members.Control p ∷ ms) e = no_attribute x ms e
no_attribute x (members.Hardware p ∷ ms) e = no_attribute x ms e
no_attribute x (members.Include i ∷ ms) e = no_attribute x ms e
no_attribute x (members.Interface i ∷ ms) e = let rest = no_attribute x ms e in grind arith
no_attribute x (members.Attribute a ∷ ms) e =
    let here = (or_parts (bytes_eq x a.id.name) (list_any (is_attribute x) ms) e).0 in
    let rest = no_attribute x ms (or_parts (bytes_eq x a.id.name) (list_any (is_attribute x) ms) e).1 in
    grind arith
no_attribute x (members.Lock l ∷ ms) e = let rest = no_attribute x ms e in grind arith
no_attribute x (members.Composition k ∷ ms) e = no_attribute x ms e
no_attribute x (members.Configuration f ∷ ms) e = no_attribute x ms e

no_default : (x : Name) (o : Option Component) → list_any (is_attribute x) (option_map_or (λ c. c.members) o []) ≡ false
    → option_and_then given_by (option_and_then (λ c. attribute_of c x) o) ≡ None
no_default x None e = refl
no_default x (Some c) e = ap (option_and_then given_by) (no_attribute x c.members e)

-- ---- values

module _ (h : Hierarchy) (x : Name) (none : (k : ℕ) → gives x (body h k) ≡ false) where
  no_setter : (p : Path) (k end : ℕ) → setter_at h p k end x ≡ None
  no_setter p k end = by_body (at h (top_number h) (take k p))
    where
      by_body : (o : Option ℕ)
          → option_and_then (λ b. option_map (λ s. s.setter) (setting_of h b (drop k (take end p)) x)) o ≡ None
      by_body None = refl
      by_body (Some b) =
          let no = (or_parts (list_any (sets_name x) (settings_of (body h b))) (list_any (is_attribute x) (members_of (body h b)))
          (none b)).0 in
          ap (option_map (λ (s : Setting). s.setter)) (no_setting h b (drop k (take end p)) x (settings_of (body h b)) no)

  none_within : (p : Path) (k end : ℕ) → set_within h p k end x ≡ None
  none_within p zero end = ap (given (λ y. None) x) (no_setter p 0 end)
  none_within p (suc k) end = λ i. option_or (none_within p k end i) (given (referred h p k) x (no_setter p (suc k) end i))

  no_value : (p : Path) → value_at h p x ≡ None
  no_value p = ap (λ o. option_or o (default_at h p x)) (none_within p (length p - 1) (length p))
      ∙ by_body (at h (top_number h) p)
    where
      by_body : (o : Option ℕ) → option_and_then (λ k. default_in (body h k) x) o ≡ None
      by_body None = refl
      by_body (Some k) =
          no_default x (body h k).component (or_parts (list_any (sets_name x) (settings_of (body h k)))
          (list_any (is_attribute x) (members_of (body h k))) (none k)).1

-- a name that no body gives a value
pub unvalued : (h : Hierarchy) (p : Path) (x : Name) → is_valued h x ≡ false → value_at h p x ≡ None
unvalued h p x e = no_value h x (none_by_number (gives x) h.bodies h.top e) p
