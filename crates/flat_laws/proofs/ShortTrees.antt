-- A component has no more members than tokens spell its file.
use Rattle.flat_laws.proofs.Common.{All, Bool, Component, Ended, File, HaveFewMembers, IsIn, Item, ItemAt, List, Seen, Source, [], and_parts, ap, arith, components, enumerate_from, false, from_enumerate, from_flat_map, from_map, in_get, inl, inr}
use Rattle.flat_laws.proofs.Common.{items_in, items_of, length, length-append, or_cases, refl, subst, sym, true, ℕ, ◌&&◌, ◌++◌, ◌+◌, ◌||◌, ◌∙◌, ◌∷◌, ◌≡◌, ◌≤◌}
use Rattle.std.proofs.lemmas.List.Elements.{All-cons, All-nil}
use Rattle.cam_base.specs.Depth.{deep}
use Rattle.cam_base.specs.Form.{Form, Give, One, Then, Or, Many, As, Starts, Nested}
use Rattle.cam_base.specs.Spelling.{Meaning, Each, Spells}
use Rattle.adl_ast.specs.Codes.{token_code}
use Rattle.adl_ast.specs.Forms.{Rule, nested_line, flag_line, import_line, plain_port_line, buf_line, data_line, dataport_line, interface_line, attribute_line, lock_line, composition_line, configuration_line, member_line, member_form, component_line}
use Rattle.adl_ast.specs.Forms.{procedure_line, assembly_line, item_line, ended_line, ended_form, file_line}
use Rattle.adl_ast.specs.Spelling.{limit, IsSpelledBy}
use Rattle.adl_ast.specs.declared.file.Item.TheVariants as items
use Rattle.adl_hierarchy.proofs.Sources.{component_item}
use Rattle.flat_laws.specs.ShortFiles.{AreFilesShort}

-- ---- forms

-- whether a form spells a token at least
pub has_token : {T V A : Type 0} → Form T V A → Bool
has_token (One cs) = true
has_token (Then f g) = has_token f || has_token g
has_token (Or f g) = has_token f && has_token g
has_token (As h f) = has_token f
has_token (Starts cs f) = has_token f
has_token _ = false

some_token : {T V A : Type 0} (code : T → ℕ) (m : Meaning T V) (f : Form T V A) (x : A) (ts : List T) → has_token f ≡ true
    → Spells code m f x ts → 1 ≤ length ts
unfolding has_token
some_token code m (Give y) x ts h w = cc
some_token code m (One cs) x ts h w = let e = ap length w.1 in omega arith
some_token code m (Then f g) x ts h w =
    let e : length ts ≡ length w.0 + length w.1 = ap length w.2 ∙ length-append w.0 w.1 in
    elim (or_cases (has_token f) (has_token g) h) [
      | inl p ↦ let l = some_token code m f x.0 w.0 p w.3 in omega arith
      | inr p ↦ let l = some_token code m g x.1 w.1 p w.4 in omega arith
    ]
some_token code m (Or f g) x ts h (inl w) = some_token code m f x ts (and_parts (has_token f) (has_token g) h).0 w
some_token code m (Or f g) x ts h (inr w) = some_token code m g x ts (and_parts (has_token f) (has_token g) h).1 w
some_token code m (Many f) x ts h w = cc
some_token code m (As k f) x ts h w = some_token code m f w.0 ts h w.2
some_token code m (Starts cs f) x ts h w = some_token code m f x ts h w
some_token code m Nested x ts h w = cc

pub each_token : {A : Type 0} (f : Rule A) (xs : List A) (ts : List Seen) → has_token f ≡ true
    → Each (Spells token_code (deep token_code nested_line limit) f) xs ts → length xs ≤ length ts
each_token f [] ts h w = omega arith
each_token f (x ∷ xs) ts h w =
    let e : length ts ≡ length w.0 + length w.1 = ap length w.2 ∙ length-append w.0 w.1 in
    let a = some_token token_code (deep token_code nested_line limit) f x w.0 h w.3 in
    let b = each_token f xs w.1 h w.4 in
    omega arith

member_token : has_token member_form ≡ true
unfolding has_token member_line flag_line import_line interface_line plain_port_line dataport_line buf_line data_line
    attribute_line lock_line composition_line configuration_line
member_token = refl

pub ended_token : has_token ended_form ≡ true
unfolding has_token ended_line item_line import_line procedure_line component_line assembly_line
ended_token = refl

-- ---- down to components

-- at most n tokens spell it by the rule
abbrev IsShort : {A : Type 0} → ℕ → Rule A → A → Type 0
IsShort n f x = (ts : List Seen) × IsSpelledBy f x ts × (length ts ≤ n)

shorter : (n : ℕ) (ts a b : List Seen) → length ts ≤ n → ts ≡ a ++ b → (length a ≤ n) × (length b ≤ n)
shorter n ts a b l e = let s : length ts ≡ length a + length b = ap length e ∙ length-append a b in (omega arith, omega arith)

one_short : {A : Type 0} (n : ℕ) (f : Rule A) (xs : List A) (ts : List Seen) (x : A) → length ts ≤ n
    → Each (Spells token_code (deep token_code nested_line limit) f) xs ts → IsIn x xs → IsShort n f x
one_short n f [] ts x l w i = absurd i
one_short {A} n f (y ∷ xs) ts x l w (inl s) = let P : A → Type 0 = λ z. IsShort n f z in
    subst P s (w.0, w.3, (shorter n ts w.0 w.1 l w.2).0)
one_short n f (y ∷ xs) ts x l w (inr i) = one_short n f xs w.1 x (shorter n ts w.0 w.1 l w.2).1 w.4 i

component_members : (n : ℕ) (c : Component) → IsShort n component_line c → length c.members ≤ n
unfolding component_line
component_members n c w =
    let p = w.1 in
    let b = shorter n p.2.1 p.2.4.0 p.2.4.1 (shorter n w.0 p.2.0 p.2.1 w.2 p.2.2).1 p.2.4.2 in
    let l = each_token member_form p.0.1.1.1.0 p.2.4.4.4.0 member_token p.2.4.4.4.3 in
    let m = (shorter n p.2.4.4.1 p.2.4.4.4.0 p.2.4.4.4.1 (shorter n p.2.4.1 p.2.4.4.0 p.2.4.4.1 b.1 p.2.4.4.2).1 p.2.4.4.4.2).0 in
    subst (λ (z : Component). length z.members ≤ n) (sym p.1) (omega arith)

item_component : (n : ℕ) (c : Component) → IsShort n item_line (items.Component c) → IsShort n component_line c
unfolding item_line
item_component n c w = elim w.1 [
  | inl a ↦ let u = a.1 in cc
  | inr (inl a) ↦ let u = a.1 in cc
  | inr (inr (inl a)) ↦ let u = a.1 in let s : a.0 ≡ c = cc in let P : Component → Type 0 = λ z. IsShort n component_line z in
      subst P s (w.0, a.2, w.2)
  | inr (inr (inr a)) ↦ let u = a.1 in cc
]

ended_item : (n : ℕ) (e : Ended) → IsShort n ended_line e → IsShort n item_line e.item
unfolding ended_line
ended_item n e w =
    let p = w.1 in
    subst (λ (z : Ended). IsShort n item_line z.item) (sym p.1) (p.2.0, p.2.3, (shorter n w.0 p.2.0 p.2.1 w.2 p.2.2).0)

file_item : (n : ℕ) (f : File) → IsShort n file_line f → (e : Ended) → IsIn e f.items → IsShort n item_line e.item
unfolding file_line
file_item n f w e i =
    let p = w.1 in
    ended_item n e (one_short n ended_form p.0 w.0 e w.2 p.2 (subst (λ (z : File). IsIn e z.items) p.1 i))

item_short : (s : Source) → AreFilesShort s → (x : ItemAt × Item) → IsIn x (items_of s) → IsShort 1048576 item_line x.1
item_short s short x i =
    let f = from_flat_map items_in x (enumerate_from 0 s.files) i in
    let n = from_enumerate 0 s.files f.0 f.1 in
    let e = from_map (λ (e : ℕ × Ended). let at : ItemAt = record { file = f.0.0; item = e.0 } in (at, e.1.item)) x
    (enumerate_from 0 f.0.1.tree.items) f.2 in
    let m = from_enumerate 0 f.0.1.tree.items e.0 e.1 in
    subst (λ (z : ItemAt × Item). IsShort 1048576 item_line z.1) e.2
    (file_item 1048576 f.0.1.tree (short f.0.1 (in_get s.files n.0 f.0.1 n.2)) e.0.1 (in_get f.0.1.tree.items m.0 e.0.1 m.2))

pub all_of : {X : Type 0} (P : X → Type 0) (xs : List X) → ((x : X) → IsIn x xs → P x) → All P xs
all_of P [] h = All-nil P
all_of P (x ∷ xs) h = All-cons P x xs (h x (inl refl)) (all_of P xs (λ y i. h y (inr i)))

pub short_few : (s : Source) → AreFilesShort s → HaveFewMembers s
short_few s short =
    all_of (λ (c : ItemAt × Component). length c.1.members ≤ 1048576) (components s) (λ c i. let x = component_item s c i in
    let P : Item → Type 0 = λ y. IsShort 1048576 item_line y in
    component_members 1048576 c.1 (item_component 1048576 c.1 (subst P x.2 (item_short s short x.0 x.1))))
