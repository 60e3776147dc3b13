-- Where no export is at fault: exports stand once by target, and what is exported or joined leads on.
use Rattle.adl_hierarchy.proofs.Common.{AreNamesSound, Bool, Composition, Connection, End, Export, Fault, Held, IsIn, IsOnce, Known, List, Name, None, Option, Port, Some, Source, [], body, bytes_eq, bytes_eq-Decides, compositions, connections_in}
use Rattle.adl_hierarchy.proofs.Common.{export_fault, exports_in, false, flat_map, held_as, hierarchy_of, inl, inr, is_misfit, is_port, is_unled, known_in, known_of, map, misfits_after, misfits_in_composition, misfits_in_item, none_in, none_left}
use Rattle.adl_hierarchy.proofs.Common.{none_right, or_left, or_parts, or_right, port_of, refl, rules, subst, true, unled_ends, where_true, ℕ, ◌||◌, ◌∷◌, ◌≡◌}
use Rattle.adl_meaning.specs.Export.{inner_of}
use Rattle.adl_hierarchy.proofs.Lists.{in_get}
use Rattle.adl_hierarchy.proofs.Sources.{composed, none_in_component, none_in_assembly}

-- no export of this composition is at fault
pub no_misfit : (s : Source) → AreNamesSound s → (k : ℕ) (composition : Composition)
    → (body (hierarchy_of s) k).composition ≡ Some composition
    → (owner : Option Known) × (misfits_in_composition (known_in s) owner composition ≡ [])
no_misfit s sound k composition e = elim (composed s k composition e) [
  | inl c ↦
      let own = none_in_component s (misfits_in_item (known_in s)) c.0 sound.exports_fit c.1 in (
        Some (known_of c.0.1),
        none_in (misfits_in_composition (known_in s) (Some (known_of c.0.1))) (compositions c.0.1)
            composition own (in_get (compositions c.0.1) 0 composition c.2),
      )
  | inr a ↦
      let P : Composition → Type 0 = λ z. misfits_in_composition (known_in s) None z ≡ [] in
      (None, subst P a.2 (none_in_assembly s (misfits_in_item (known_in s)) a.0 sound.exports_fit a.1))
]

pub not_so : (b : Bool) (f : Fault) → where_true b f ≡ [] → b ≡ false
not_so true f e = cc
not_so false f e = refl

-- an export that isn't at fault has a target of its own, and leads on
fits : (types : Name → Option Known) (owner : Option Known) (held : Name → Option Held) (targets : Name → Bool) (inners : Port
    → Bool) (x : Export) → is_misfit types owner held targets inners x ≡ false
    → (targets x.target.name ≡ false) × (is_unled types (port_of held x.words) ≡ false)
fits types owner held targets inners x e = let c = or_parts _ _ (or_parts _ _ (or_parts _ _ e).1).1 in (c.0, (or_parts _ _ c.1).1)

exports_lead : (types : Name → Option Known) (owner : Option Known) (held : Name → Option Held) (targets : Name
    → Bool) (inners : Port → Bool) (xs : List Export) (x : Export)
    → misfits_after types owner held targets inners xs ≡ [] → IsIn x xs → is_unled types (port_of held x.words) ≡ false
exports_lead types owner held targets inners [] x e i = absurd i
exports_lead types owner held targets inners (y ∷ ys) x e (inl s) = search (rules, fits, not_so, none_left)
exports_lead types owner held targets inners (y ∷ ys) x e (inr i) =
    exports_lead types owner held (λ n. targets n || bytes_eq n y.target.name)
    (λ p. inners p || is_port (inner_of types (port_of held y.words)) p) ys x
    (none_right (where_true (is_misfit types owner held targets inners y) (export_fault y.words y.place)) _ e) i

-- the interface of an export leads on
pub export_leads : (types : Name → Option Known) (owner : Option Known) (k : Composition) (x : Export)
    → misfits_in_composition types owner k ≡ [] → IsIn x (exports_in k) → is_unled types (port_of (held_as k) x.words) ≡ false
export_leads types owner k x e i = exports_lead types owner (held_as k) (λ n. false) (λ p. false) (exports_in k) x
    (none_left _ (flat_map (unled_ends types (held_as k)) (connections_in k)) e) i

-- so does that of an end
pub end_leads : (types : Name → Option Known) (owner : Option Known) (k : Composition) (x : Connection) (e : End)
    → misfits_in_composition types owner k ≡ [] → IsIn x (connections_in k) → IsIn e x.ends
    → is_unled types (port_of (held_as k) e.words) ≡ false
end_leads types owner k x e none i j = search (rules, none_right, not_so, none_in)

-- ---- targets

target : Export → Name
target x = x.target.name

not_met : (types : Name → Option Known) (owner : Option Known) (held : Name → Option Held) (targets : Name → Bool) (inners : Port
    → Bool) (xs : List Export) (n : Name)
    → misfits_after types owner held targets inners xs ≡ [] → targets n ≡ true → IsIn n (map target xs) → ⊥
unfolding target
not_met types owner held targets inners [] n e t i = i
not_met types owner held targets inners (x ∷ xs) n e t (inl s) = search (rules, fits, not_so, none_left)
not_met types owner held targets inners (x ∷ xs) n e t (inr i) =
    not_met types owner held (λ n. targets n || bytes_eq n x.target.name)
    (λ p. inners p || is_port (inner_of types (port_of held x.words)) p) xs n
    (none_right (where_true (is_misfit types owner held targets inners x) (export_fault x.words x.place)) _ e)
    (or_left (targets n) (bytes_eq n x.target.name) t) i

targets_after : (types : Name → Option Known) (owner : Option Known) (held : Name → Option Held) (targets : Name
    → Bool) (inners : Port → Bool) (xs : List Export)
    → misfits_after types owner held targets inners xs ≡ [] → IsOnce (map target xs)
unfolding target
targets_after types owner held targets inners [] e = tt
targets_after types owner held targets inners (x ∷ xs) e =
    let n = x.target.name in
    let met : Name → Bool = λ m. targets m || bytes_eq m n in
    let more : Port → Bool = λ p. inners p || is_port (inner_of types (port_of held x.words)) p in
    let rest = none_right (where_true (is_misfit types owner held targets inners x) (export_fault x.words x.place))
    (misfits_after types owner held met more xs) e in (
      λ i. not_met types owner held met more xs n rest (or_right (targets n) (bytes_eq n n) ((bytes_eq-Decides n n).1 refl)) i,
      targets_after types owner held met more xs rest,
    )

-- no composition exports twice under one name
pub targets_once : (types : Name → Option Known) (owner : Option Known) (k : Composition)
    → misfits_in_composition types owner k ≡ [] → IsOnce (map (λ x. x.target.name) (exports_in k))
unfolding target
targets_once types owner k e = targets_after types owner (held_as k) (λ n. false) (λ p. false) (exports_in k)
    (none_left _ (flat_map (unled_ends types (held_as k)) (connections_in k)) e)
