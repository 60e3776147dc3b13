-- Words whose name a word in front of them has, and where they stand in a source.
use Rattle.front_laws.proofs.Common.{Bool, Component, Composition, Configuration, Fault, HasComposition, HasItem, Id, IsIn, IsLater, Item, ItemAt, Known, List, Name, None, Option, Place, Some, Source, [], again, ap, at_keyword, at_word}
use Rattle.front_laws.proofs.Common.{bytes_eq-Decides, components, compositions, configurations, declared_in, drop, duplicates, duplicates_in_component, duplicates_in_composition, duplicates_in_item, duplicates_in_procedure, false, flat_map}
use Rattle.front_laws.proofs.Common.{from_flat_map, from_map, held_in, in_append, in_flat_map, in_left, in_map, in_right, inl, inr, items_of, known_of, map, of_assembly, of_component, or_cases, or_left, or_right, procedures, refl, repeats}
use Rattle.front_laws.proofs.Common.{repeats_after, rules, subst, sym, true, where_true, ◌++◌, ◌||◌, ◌∙◌, ◌∷◌, ◌≡◌, ◌⊎◌}
use Rattle.adl_ast.specs.declared.file.Item.TheVariants as items
use Rattle.adl_ast.specs.declared.procedure.Procedure.{Procedure}
use Rattle.cam_base.specs.declared.code.Code.TheVariants as code
use Rattle.adl_meaning.specs.Duplicate.{methods, repeated_params}
use Rattle.adl_meaning.specs.Prelude.{bytes_eq}
use Rattle.front_laws.specs.Repeated.{IsAgain, IsDuplicate, MustDiffer, a_composition, a_configuration, a_name, of_components, of_composition, of_members, of_methods, of_params, of_procedures}
use Rattle.front_laws.proofs.Tested.{from_true, in_true}

-- ---- words

-- a word of the list whose name was met, or stands in front of it
record Repeat (met : Name → Bool) (ws : List Id) (f : Fault) : Type 0 where
  before : List Id
  word : Id
  after : List Id
  split : ws ≡ before ++ word ∷ after
  fault : f ≡ at_word code.Duplicate word
  why : (met word.name ≡ true) ⊎ ((e : Id) × IsIn e before × (e.name ≡ word.name))

from_after : (met : Name → Bool) (ws : List Id) (f : Fault) → IsIn f (repeats_after met ws) → Repeat met ws f
from_after met [] f i = absurd i
from_after met (w ∷ ws) f i =
    let more : Name → Bool = λ n. met n || bytes_eq n w.name in
    elim (in_append f (where_true (met w.name) (at_word code.Duplicate w)) (repeats_after more ws) i) [
      | inl j ↦ let k = from_true (met w.name) (at_word code.Duplicate w) f j in
          record { before = []; word = w; after = ws; split = refl; fault = sym k.1; why = inl k.0 }
      | inr j ↦ let r = from_after more ws f j in
          record {
            before = w ∷ r.before;
            word = r.word;
            after = r.after;
            split = ap (λ z. w ∷ z) r.split;
            fault = r.fault;
            why = wider r.word r.before r.why;
          }
    ]
  where
    wider : (v : Id) (before : List Id) → ((met v.name || bytes_eq v.name w.name) ≡ true)
        ⊎ ((e : Id) × IsIn e before × (e.name ≡ v.name))
        → (met v.name ≡ true) ⊎ ((e : Id) × IsIn e (w ∷ before) × (e.name ≡ v.name))
    wider v before (inl t) = elim (or_cases (met v.name) (bytes_eq v.name w.name) t) [
      | inl m ↦ inl m
      | inr s ↦ inr (w, inl refl, sym ((bytes_eq-Decides v.name w.name).0 s))
    ]
    wider v before (inr x) = inr (x.0, inr x.1, x.2)

into_after : (met : Name → Bool) (before : List Id) (w : Id) (after : List Id)
    → (met w.name ≡ true) ⊎ ((e : Id) × IsIn e before × (e.name ≡ w.name))
    → IsIn (at_word code.Duplicate w) (repeats_after met (before ++ w ∷ after))
into_after met [] w after (inl t) = search (rules, in_left, in_true)
into_after met [] w after (inr x) = absurd x.1
into_after met (v ∷ before) w after why =
    let more : Name → Bool = λ n. met n || bytes_eq n v.name in
    in_right (at_word code.Duplicate w) (where_true (met v.name) (at_word code.Duplicate v))
    (repeats_after more (before ++ w ∷ after)) (into_after more before w after (narrower why))
  where
    narrower : (met w.name ≡ true) ⊎ ((e : Id) × IsIn e (v ∷ before) × (e.name ≡ w.name))
        → ((met w.name || bytes_eq w.name v.name) ≡ true) ⊎ ((e : Id) × IsIn e before × (e.name ≡ w.name))
    narrower (inl t) = inl (or_left (met w.name) (bytes_eq w.name v.name) t)
    narrower (inr (e, inl s, same)) = search (rules, or_right, bytes_eq-Decides)
    narrower (inr (e, inr i, same)) = inr (e, i, same)

-- a word that repeats a name, with the fault at it
from_repeats : (ws : List Id) (f : Fault) → IsIn f (repeats ws) → (w : Id) × IsAgain ws w × (f ≡ at_word code.Duplicate w)
from_repeats ws f i = search (rules, from_after)

in_repeats : (ws : List Id) (w : Id) → IsAgain ws w → IsIn (at_word code.Duplicate w) (repeats ws)
in_repeats ws w a = search (rules, into_after)

-- ---- keywords

from_dropped : {X : Type 0} (xs : List X) (x : X) → IsIn x (drop 1 xs) → IsLater xs x
from_dropped [] x i = absurd i
from_dropped (y ∷ xs) x i = record { first = y; others = xs; split = refl; stands = i }

in_dropped : {X : Type 0} (xs : List X) (x : X) → IsLater xs x → IsIn x (drop 1 xs)
in_dropped {X} xs x l = let P : List X → Type 0 = λ ys. IsIn x (drop 1 ys) in subst P (sym l.split) l.stands

drop_map : {X Y : Type 0} (f : X → Y) (xs : List X) → drop 1 (map f xs) ≡ map f (drop 1 xs)
drop_map f [] = refl
drop_map f (x ∷ xs) = refl

-- what stands again, by its place
from_again : {X : Type 0} (place : X → Place) (xs : List X) (f : Fault) → IsIn f (again (map place xs))
    → (x : X) × IsLater xs x × (f ≡ at_keyword code.Duplicate (place x))
from_again {X} place xs f i = search (rules, from_map, drop_map, from_dropped)

in_again : {X : Type 0} (place : X → Place) (xs : List X) (x : X) → IsLater xs x
    → IsIn (at_keyword code.Duplicate (place x)) (again (map place xs))
in_again {X} place xs x l = search (rules, in_map, drop_map, in_dropped)

-- ---- in a source

abbrev procedure_names : Source → List Id
procedure_names s = map (λ p. p.1.id) (procedures s)

abbrev component_names : Source → List Id
component_names s = map (λ c. c.1.id) (components s)

abbrev later_compositions : Component → List Fault
later_compositions c = again (map (λ k. k.place) (compositions c))

abbrev later_configurations : Component → List Fault
later_configurations c = again (map (λ f. f.place) (configurations c))

a_word : (s : Source) (ws : List Id) (f : Fault) → MustDiffer s ws → IsIn f (repeats ws) → IsDuplicate s f
a_word s ws f d i = let r = from_repeats ws f i in a_name ws r.0 d r.1 r.2

from_composition : (s : Source) (owner : Option Known) (k : Composition) (f : Fault) → HasComposition s owner k
    → IsIn f (duplicates_in_composition k) → IsDuplicate s f
from_composition s owner k f h i = a_word s (map (λ x. x.0) (held_in k)) f (of_composition owner k h) i

from_procedure : (s : Source) (p : Procedure) (f : Fault) → HasItem s (items.Procedure p) → IsIn f (duplicates_in_procedure p)
    → IsDuplicate s f
from_procedure s p f h i = elim (in_append f (repeats (map (λ m. m.id) (methods p))) (flat_map repeated_params (methods p)) i) [
  | inl j ↦ a_word s (map (λ m. m.id) (methods p)) f (of_methods p h) j
  | inr j ↦ let m = from_flat_map repeated_params f (methods p) j in
      a_word s (map (λ a. a.id) m.0.params) f (of_params p m.0 h m.1) m.2
]

from_component : (s : Source) (c : Component) (f : Fault) → HasItem s (items.Component c) → IsIn f (duplicates_in_component c)
    → IsDuplicate s f
from_component s c f h i =
    elim (in_append f (repeats (map (λ d. d.0) (declared_in c)) ++ later_compositions c ++ later_configurations c)
    (flat_map duplicates_in_composition (compositions c)) i) [
      | inl j ↦ elim (in_append f (repeats (map (λ d. d.0) (declared_in c)) ++ later_compositions c) (later_configurations c) j) [
        | inl k ↦ elim (in_append f (repeats (map (λ d. d.0) (declared_in c))) (later_compositions c) k) [
          | inl l ↦ a_word s (map (λ d. d.0) (declared_in c)) f (of_members c h) l
          | inr l ↦ let x = from_again (λ (k : Composition). k.place) (compositions c) f l in a_composition c x.0 h x.1 x.2
        ]
        | inr k ↦ let x = from_again (λ (g : Configuration). g.place) (configurations c) f k in a_configuration c x.0 h x.1 x.2
      ]
      | inr j ↦ let x = from_flat_map duplicates_in_composition f (compositions c) j in
          from_composition s (Some (known_of c)) x.0 f (of_component c x.0 h x.1) x.2
    ]

from_item : (s : Source) (x : Item) (f : Fault) → HasItem s x → IsIn f (duplicates_in_item x) → IsDuplicate s f
from_item s (items.Import i) f h j = absurd j
from_item s (items.Procedure p) f h j = from_procedure s p f h j
from_item s (items.Component c) f h j = from_component s c f h j
from_item s (items.Assembly a) f h j = from_composition s None a.composition f (of_assembly a h) j

pub from_duplicates : (s : Source) (f : Fault) → IsIn f (duplicates s) → IsDuplicate s f
from_duplicates s f i =
    elim (in_append f (repeats (procedure_names s) ++ repeats (component_names s))
    (flat_map (λ x. duplicates_in_item x.1) (items_of s)) i) [
      | inl j ↦ elim (in_append f (repeats (procedure_names s)) (repeats (component_names s)) j) [
        | inl k ↦ a_word s (procedure_names s) f of_procedures k
        | inr k ↦ a_word s (component_names s) f of_components k
      ]
      | inr j ↦ let x = from_flat_map (λ (y : ItemAt × Item). duplicates_in_item y.1) f (items_of s) j in
          from_item s x.0.1 f (record { at = x.0.0; stands = x.1 }) x.2
    ]

-- ---- and back

in_items : (s : Source) (x : Item) (f : Fault) → HasItem s x → IsIn f (duplicates_in_item x) → IsIn f (duplicates s)
in_items s x f h i = search (rules, in_right, in_flat_map)

-- the four parts of what stands in a component
in_members : (c : Component) (f : Fault) → IsIn f (repeats (map (λ d. d.0) (declared_in c))) → IsIn f (duplicates_in_component c)
in_members c f i = search (rules, in_left)

in_compositions : (c : Component) (f : Fault) → IsIn f (later_compositions c) → IsIn f (duplicates_in_component c)
in_compositions c f i = search (rules, in_left, in_right)

in_configurations : (c : Component) (f : Fault) → IsIn f (later_configurations c) → IsIn f (duplicates_in_component c)
in_configurations c f i = search (rules, in_left, in_right)

in_one_composition : (c : Component) (k : Composition) (f : Fault) → IsIn k (compositions c)
    → IsIn f (duplicates_in_composition k) → IsIn f (duplicates_in_component c)
in_one_composition c k f j i = search (rules, in_right, in_flat_map)

in_component : (s : Source) (c : Component) (f : Fault) → HasItem s (items.Component c) → IsIn f (duplicates_in_component c)
    → IsIn f (duplicates s)
in_component s c f h i = in_items s (items.Component c) f h i

in_composition : (s : Source) (owner : Option Known) (k : Composition) (f : Fault) → HasComposition s owner k
    → IsIn f (duplicates_in_composition k) → IsIn f (duplicates s)
in_composition s owner k f (of_component c k' h j) i = in_component s c f h (in_one_composition c k' f j i)
in_composition s owner k f (of_assembly a h) i = in_items s (items.Assembly a) f h i

word_stands : (s : Source) (ws : List Id) (f : Fault) → MustDiffer s ws → IsIn f (repeats ws) → IsIn f (duplicates s)
word_stands s ws f of_procedures i = search (rules, in_left)
word_stands s ws f of_components i = search (rules, in_left, in_right)
word_stands s ws f (of_methods p h) i = search (rules, in_items, in_left)
word_stands s ws f (of_params p m h j) i = search (rules, in_items, in_right, in_flat_map)
word_stands s ws f (of_members c h) i = in_component s c f h (in_members c f i)
word_stands s ws f (of_composition owner k h) i = in_composition s owner k f h i

pub in_duplicates : (s : Source) (f : Fault) → IsDuplicate s f → IsIn f (duplicates s)
in_duplicates s f (a_name ws w d a e) = word_stands s ws f d (subst (λ g. IsIn g (repeats ws)) (sym e) (in_repeats ws w a))
in_duplicates s f (a_composition c k h l e) =
    let P : Fault → Type 0 = λ g. IsIn g (later_compositions c) in
    in_component s c f h (in_compositions c f (subst P (sym e) (in_again (λ (k : Composition). k.place) (compositions c) k l)))
in_duplicates s f (a_configuration c g h l e) =
    let P : Fault → Type 0 = λ x. IsIn x (later_configurations c) in
    in_component s c f h
    (in_configurations c f (subst P (sym e) (in_again (λ (g : Configuration). g.place) (configurations c) g l)))
