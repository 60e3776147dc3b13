-- Exports that are at fault, by the exports in front of them.
use Rattle.front_laws.proofs.Common.{Bool, Composition, End, Export, Fault, HasComposition, HasItem, Holding, Interface, IsIn, Item, ItemAt, Known, List, Name, None, Option, Port, Some, Source, Types, [], and_from, and_parts, ap, bytes_eq-Decides}
use Rattle.front_laws.proofs.Common.{compositions, cond, connections_in, differs, eq-eqb, eqb-true, export_fault, exports_in, false, flat_map, from_flat_map, held_as, in_append, in_flat_map, in_left, in_right, inl, inr, interface_at, is_port}
use Rattle.front_laws.proofs.Common.{is_some, is_there, is_unled, items_of, known_in, known_of, misfit_exports, misfits_after, misfits_in_composition, misfits_in_item, not, not-true, not_from_false, of_assembly, of_component, option_and_then}
use Rattle.front_laws.proofs.Common.{option_map_or, or_cases, or_left, or_right, port_of, refl, rules, subst, sym, true, where_true, ◌&&◌, ◌++◌, ◌==◌, ◌||◌, ◌∙◌, ◌∷◌, ◌≡◌, ◌⊎◌}
use Rattle.adl_ast.specs.declared.file.Item.TheVariants as items
use Rattle.adl_meaning.specs.Export.{ends_in, inner_of, is_misfit, same_interface, same_port, unled_end, unled_ends}
use Rattle.adl_meaning.specs.Prelude.{bytes_eq, is_none}
use Rattle.front_laws.specs.MisfitExports.{IsMisfit, IsMisfitIn, IsSamePort, IsUnled, an_end, an_export, in_an_assembly, port_again, target_again, unled, unlike_target}
use Rattle.front_laws.proofs.Tested.{from_true, in_true}

-- ---- tests

from_same_port : (p q : Port) → same_port p q ≡ true → IsSamePort p q
from_same_port p q e = search (rules, and_parts, eqb-true, bytes_eq-Decides)

in_same_port : (p q : Port) → IsSamePort p q → same_port p q ≡ true
in_same_port p q s = and_from (p.0.id.place.first == q.0.id.place.first) (bytes_eq p.1 q.1)
    (eq-eqb p.0.id.place.first q.0.id.place.first s.instance) ((bytes_eq-Decides p.1 q.1).1 s.interface)

turned : (p q : Port) → IsSamePort p q → IsSamePort q p
turned p q s = record { instance = sym s.instance; interface = sym s.interface }

-- ---- ports that lead no further

from_ends_in : (types : Types) (p : Port) (c : Known) → types p.0.component.name ≡ Some c → ends_in c p.1 ≡ true → IsUnled types p
from_ends_in types p c t e =
    let first = and_parts (is_some (c.interface p.1)) (is_some c.holds && not (c.exports p.1)) e in
    let more = and_parts (is_some c.holds) (not (c.exports p.1)) first.1 in
    let i = is_there (c.interface p.1) first.0 in let h = is_there c.holds more.0 in
    record {
      component = c;
      known = t;
      interface = i.0;
      declared = i.1;
      inner = h.0;
      composite = h.1;
      no_export = not-true (c.exports p.1) more.1;
    }

from_unled : (types : Types) (o : Option Port) → is_unled types o ≡ true → (p : Port) × (o ≡ Some p) × IsUnled types p
from_unled types None e = cc
from_unled types (Some p) e = search (rules, from_ends_in)

in_unled : (types : Types) (o : Option Port) (p : Port) → o ≡ Some p → IsUnled types p → is_unled types o ≡ true
in_unled types o p e u = search (rules, and_from, is_some, not_from_false)

-- ---- ports whose interface is known

from_inner : (types : Types) (o : Option Port) (inners : Port → Bool) → option_map_or inners (inner_of types o) false ≡ true
    → (p : Port) × (o ≡ Some p) × ((i : Interface) × (interface_at types p ≡ Some i)) × (inners p ≡ true)
from_inner types None inners e = cc
from_inner types (Some p) inners e = search (rules, is_some)

inner_there : (types : Types) (o : Option Port) (p : Port) (i : Interface) → o ≡ Some p → interface_at types p ≡ Some i
    → inner_of types o ≡ Some p
inner_there types o p i e k =
    subst (λ z. inner_of types z ≡ Some p) (sym e) (subst (λ z. cond (is_some z) (Some p) None ≡ Some p) (sym k) refl)

from_port : (o : Option Port) (q : Port) → is_port o q ≡ true → (p : Port) × (o ≡ Some p) × IsSamePort p q
from_port None q e = cc
from_port (Some p) q e = (p, refl, turned q p (from_same_port q p e))

-- a port that is known is that of the dotted name
from_inner_of : (types : Types) (o : Option Port) (p : Port) → inner_of types o ≡ Some p
    → (o ≡ Some p) × ((i : Interface) × (interface_at types p ≡ Some i))
from_inner_of types None p e = cc
from_inner_of types (Some q) p e = by_interface (interface_at types q) refl e
  where
    by_interface : (i : Option Interface) → interface_at types q ≡ i → cond (is_some i) (Some q) None ≡ Some p
        → (Some q ≡ Some p) × ((i : Interface) × (interface_at types p ≡ Some i))
    by_interface None k e = cc
    by_interface (Some i) k e = let P : Port → Type 0 = λ z. (i : Interface) × (interface_at types z ≡ Some i) in
        let same : q ≡ p = cc in (e, subst P same (i, k))

-- ---- one export, by what is known of those in front of it

abbrev Why : Types → Option Known → Holding → (Name → Bool) → (Port → Bool) → List Export → Export → Type 0
Why types owner held targets inners before x =
    IsMisfit types owner held before x ⊎ (targets x.target.name ≡ true)
    ⊎ (option_map_or inners (inner_of types (port_of held x.words)) false ≡ true)

none_owner : (owner : Option Known) → is_none owner ≡ true → owner ≡ None
none_owner None e = refl
none_owner (Some c) e = cc

from_differs : (types : Types) (owner : Option Known) (held : Holding) (x : Export) (port : Option Port)
    → port_of held x.words ≡ port
    → differs (option_and_then (interface_at types) port) (option_and_then (λ c. c.interface x.target.name) owner) ≡ true
    → IsMisfit types owner held [] x
from_differs types owner held x None e d = cc
from_differs types None held x (Some p) e d = in_an_assembly refl
from_differs types (Some c) held x (Some p) e d = by_both (interface_at types p) (c.interface x.target.name) refl refl d
  where
    by_both : (i j : Option Interface) → interface_at types p ≡ i → c.interface x.target.name ≡ j → differs i j ≡ true
        → IsMisfit types (Some c) held [] x
    by_both (Some i) (Some j) k l d = unlike_target c p i j refl e k l (not-true (same_interface i j) d)
    by_both _ _ k l d = cc

from_misfit : (types : Types) (owner : Option Known) (held : Holding) (targets : Name → Bool) (inners : Port → Bool) (x : Export)
    → is_misfit types owner held targets inners x ≡ true → Why types owner held targets inners [] x
from_misfit types owner held targets inners x t =
    let port = port_of held x.words in let known_targets = targets x.target.name in
    let known_inner = option_map_or inners (inner_of types port) false in
    let unlike = differs (option_and_then (interface_at types) port) (option_and_then (λ c. c.interface x.target.name) owner) in
    elim (or_cases (is_none owner) (unlike || (known_targets || (known_inner || is_unled types port))) t) [
      | inl o ↦ inl (in_an_assembly (none_owner owner o))
      | inr t1 ↦ elim (or_cases unlike (known_targets || (known_inner || is_unled types port)) t1) [
        | inl d ↦ inl (from_differs types owner held x port refl d)
        | inr t2 ↦ elim (or_cases known_targets (known_inner || is_unled types port) t2) [
          | inl k ↦ inr (inl k)
          | inr t3 ↦ elim (or_cases known_inner (is_unled types port) t3) [
            | inl k ↦ inr (inr k)
            | inr u ↦ let p = from_unled types port u in inl (unled p.0 p.1 p.2)
          ]
        ]
      ]
    ]

-- an export in front more
wider : (types : Types) (owner : Option Known) (held : Holding) (y : Export) (before : List Export) (x : Export)
    → IsMisfit types owner held before x → IsMisfit types owner held (y ∷ before) x
wider types owner held y before x (in_an_assembly o) = in_an_assembly o
wider types owner held y before x (unlike_target c p i j o e k l d) = unlike_target c p i j o e k l d
wider types owner held y before x (target_again z i e) = target_again z (inr i) e
wider types owner held y before x (port_again z p q i j k a b c d s) = port_again z p q i j (inr k) a b c d s
wider types owner held y before x (unled p e u) = unled p e u

record MisfitAfter (types : Types) (owner : Option Known) (held : Holding) (targets : Name → Bool) (inners : Port
    → Bool) (xs : List Export) (f : Fault) : Type 0 where
  before : List Export
  export : Export
  after : List Export
  split : xs ≡ before ++ export ∷ after
  fault : f ≡ export_fault export.words export.place
  why : Why types owner held targets inners before export

from_after : (types : Types) (owner : Option Known) (held : Holding) (targets : Name → Bool) (inners : Port
    → Bool) (xs : List Export) (f : Fault)
    → IsIn f (misfits_after types owner held targets inners xs) → MisfitAfter types owner held targets inners xs f
from_after types owner held targets inners [] f i = absurd i
from_after types owner held targets inners (y ∷ xs) f i =
    let more_targets : Name → Bool = λ n. targets n || bytes_eq n y.target.name in
    let more_inners : Port → Bool = λ p. inners p || is_port (inner_of types (port_of held y.words)) p in
    elim (in_append f (where_true (is_misfit types owner held targets inners y) (export_fault y.words y.place))
    (misfits_after types owner held more_targets more_inners xs) i) [
      | inl j ↦ let k = from_true (is_misfit types owner held targets inners y) (export_fault y.words y.place) f j in
          record {
            before = [];
            export = y;
            after = xs;
            split = refl;
            fault = sym k.1;
            why = from_misfit types owner held targets inners y k.0;
          }
      | inr j ↦ let r = from_after types owner held more_targets more_inners xs f j in
          record {
            before = y ∷ r.before;
            export = r.export;
            after = r.after;
            split = ap (λ z. y ∷ z) r.split;
            fault = r.fault;
            why = narrower r.before r.export r.why;
          }
    ]
  where
    narrower : (before : List Export) (x : Export) → Why types owner held (λ n. targets n || bytes_eq n y.target.name)
        (λ p. inners p || is_port (inner_of types (port_of held y.words)) p) before x
        → Why types owner held targets inners (y ∷ before) x
    narrower before x (inl m) = inl (wider types owner held y before x m)
    narrower before x (inr (inl t)) = elim (or_cases (targets x.target.name) (bytes_eq x.target.name y.target.name) t) [
      | inl k ↦ inr (inl k)
      | inr k ↦ inl (target_again y (inl refl) (sym ((bytes_eq-Decides x.target.name y.target.name).0 k)))
    ]
    narrower before x (inr (inr t)) =
        let q = from_inner types (port_of held x.words) (λ p. inners p || is_port (inner_of types (port_of held y.words)) p) t in
        elim (or_cases (inners q.0) (is_port (inner_of types (port_of held y.words)) q.0) q.3) [
          | inl k ↦ search (rules, inner_there)
          | inr k ↦ let p = from_port (inner_of types (port_of held y.words)) q.0 k in
              let there = from_inner_of types (port_of held y.words) p.0 p.1 in
              inl (port_again y p.0 q.0 there.1.0 q.2.0 (inl refl) there.0 there.1.1 q.1 q.2.1 p.2)
        ]

-- ---- and back

in_misfit : (types : Types) (owner : Option Known) (held : Holding) (targets : Name → Bool) (inners : Port → Bool) (x : Export)
    → Why types owner held targets inners [] x → is_misfit types owner held targets inners x ≡ true
in_misfit types owner held targets inners x why = search (rules, or_left, or_right, not_from_false, in_unled)

into_after : (types : Types) (owner : Option Known) (held : Holding) (targets : Name → Bool) (inners : Port
    → Bool) (before : List Export) (x : Export) (after : List Export) → Why types owner held targets inners before x
    → IsIn (export_fault x.words x.place) (misfits_after types owner held targets inners (before ++ x ∷ after))
into_after types owner held targets inners [] x after why = search (rules, in_left, in_true, in_misfit)
into_after types owner held targets inners (y ∷ before) x after why =
    let more_targets : Name → Bool = λ n. targets n || bytes_eq n y.target.name in
    let more_inners : Port → Bool = λ p. inners p || is_port (inner_of types (port_of held y.words)) p in
    in_right (export_fault x.words x.place) (where_true (is_misfit types owner held targets inners y)
    (export_fault y.words y.place)) (misfits_after types owner held more_targets more_inners (before ++ x ∷ after))
    (into_after types owner held more_targets more_inners before x after (known why))
  where
    known_port : (q : Port) (j : Interface) → port_of held x.words ≡ Some q → interface_at types q ≡ Some j
        → (inners q || is_port (inner_of types (port_of held y.words)) q) ≡ true
        → option_map_or (λ p. inners p || is_port (inner_of types (port_of held y.words)) p)
        (inner_of types (port_of held x.words)) false ≡ true
    known_port q j a b t = ap (λ z. option_map_or (λ p. inners p || is_port (inner_of types (port_of held y.words)) p) z false)
        (inner_there types (port_of held x.words) q j a b) ∙ t

    known : Why types owner held targets inners (y ∷ before) x → Why types owner held (λ n. targets n || bytes_eq n y.target.name)
        (λ p. inners p || is_port (inner_of types (port_of held y.words)) p) before x
    known (inl (in_an_assembly o)) = inl (in_an_assembly o)
    known (inl (unlike_target c p i j o e k l d)) = inl (unlike_target c p i j o e k l d)
    known (inl (target_again z (inl e) same)) = search (rules, or_right, bytes_eq-Decides)
    known (inl (target_again z (inr i) same)) = inl (target_again z i same)
    known (inl (port_again z p q i j (inl e) a b c d s)) = search (rules, known_port, or_right, inner_there, in_same_port, turned)
    known (inl (port_again z p q i j (inr k) a b c d s)) = inl (port_again z p q i j k a b c d s)
    known (inl (unled p e u)) = inl (unled p e u)
    known (inr (inl t)) = inr (inl (or_left (targets x.target.name) (bytes_eq x.target.name y.target.name) t))
    known (inr (inr t)) = search (rules, from_inner, known_port, or_left)

-- ---- in a source

from_end : (types : Types) (held : Holding) (e : End) (f : Fault) → IsIn f (unled_end types held e)
    → (p : Port) × (port_of held e.words ≡ Some p) × IsUnled types p × (f ≡ export_fault e.words e.place)
from_end types held e f i = search (rules, from_true, from_unled)

from_composition : (s : Source) (owner : Option Known) (k : Composition) (f : Fault) → HasComposition s owner k
    → IsIn f (misfits_in_composition (known_in s) owner k) → IsMisfitIn s f
from_composition s owner k f h i =
    let types = known_in s in
    elim (in_append f (misfits_after types owner (held_as k) (λ n. false) (λ p. false) (exports_in k))
    (flat_map (unled_ends types (held_as k)) (connections_in k)) i) [
      | inl j ↦ let r = from_after types owner (held_as k) (λ n. false) (λ p. false) (exports_in k) f j in
          an_export owner k r.before r.after r.export h r.split (surely r.before r.export r.why) r.fault
      | inr j ↦ let w = from_flat_map (unled_ends types (held_as k)) f (connections_in k) j in
          let e = from_flat_map (unled_end types (held_as k)) f w.0.ends w.2 in
          let p = from_end types (held_as k) e.0 f e.2 in
          an_end owner k w.0 e.0 p.0 h w.1 e.1 p.1 p.2 p.3
    ]
  where
    surely : (before : List Export) (x : Export) → Why (known_in s) owner (held_as k) (λ n. false) (λ p. false) before x
        → IsMisfit (known_in s) owner (held_as k) before x
    surely before x (inl m) = m
    surely before x (inr (inl t)) = cc
    surely before x (inr (inr t)) = let q = from_inner (known_in s) (port_of (held_as k) x.words) (λ p. false) t in
        absurd (cc (q.3))

from_item : (s : Source) (x : Item) (f : Fault) → HasItem s x → IsIn f (misfits_in_item (known_in s) x) → IsMisfitIn s f
from_item s (items.Component c) f h j =
    let k = from_flat_map (misfits_in_composition (known_in s) (Some (known_of c))) f (compositions c) j in
    from_composition s (Some (known_of c)) k.0 f (of_component c k.0 h k.1) k.2
from_item s (items.Assembly a) f h j = from_composition s None a.composition f (of_assembly a h) j
from_item s _ f h j = absurd j

pub from_misfits : (s : Source) (f : Fault) → IsIn f (misfit_exports s) → IsMisfitIn s f
from_misfits s f i =
    let x = from_flat_map (λ (y : ItemAt × Item). misfits_in_item (known_in s) y.1) f (items_of s) i in
    from_item s x.0.1 f (record { at = x.0.0; stands = x.1 }) x.2

in_items : (s : Source) (x : Item) (f : Fault) → HasItem s x → IsIn f (misfits_in_item (known_in s) x) → IsIn f (misfit_exports s)
in_items s x f h i = in_flat_map (λ (y : ItemAt × Item). misfits_in_item (known_in s) y.1) (h.at, x) f (items_of s) h.stands i

in_owned : (s : Source) (owner : Option Known) (k : Composition) (f : Fault) → HasComposition s owner k
    → IsIn f (misfits_in_composition (known_in s) owner k) → IsIn f (misfit_exports s)
in_owned s owner k f (of_component c k' h j) i = search (rules, in_items, in_flat_map)
in_owned s owner k f (of_assembly a h) i = in_items s (items.Assembly a) f h i

pub in_misfits : (s : Source) (f : Fault) → IsMisfitIn s f → IsIn f (misfit_exports s)
in_misfits s f (an_export owner k before after x h split m e) =
    let types = known_in s in
    let exports_at : List Export → List Fault = λ xs. misfits_after types owner (held_as k) (λ n. false) (λ p. false) xs in
    let P : List Export → Type 0 = λ xs. IsIn (export_fault x.words x.place) (exports_at xs) in
    let Q : Fault → Type 0 = λ g. IsIn g (exports_at (exports_in k)) in
    in_owned s owner k f h (in_left f (exports_at (exports_in k)) (flat_map (unled_ends types (held_as k)) (connections_in k))
    (subst Q (sym e) (subst P (sym split) (into_after types owner (held_as k) (λ n. false) (λ p. false) before x after (inl m)))))
in_misfits s f (an_end owner k w e p h i j port u same) =
    let types = known_in s in
    let Q : Fault → Type 0 = λ g. IsIn g (flat_map (unled_ends types (held_as k)) (connections_in k)) in
    in_owned s owner k f h (in_right f (misfits_after types owner (held_as k) (λ n. false) (λ p. false) (exports_in k))
    (flat_map (unled_ends types (held_as k)) (connections_in k))
    (subst Q (sym same) (in_flat_map (unled_ends types (held_as k)) w (export_fault e.words e.place) (connections_in k) i
    (in_flat_map (unled_end types (held_as k)) e (export_fault e.words e.place) w.ends j
    (in_true (is_unled types (port_of (held_as k) e.words)) (export_fault e.words e.place)
    (in_unled types (port_of (held_as k) e.words) p port u))))))
