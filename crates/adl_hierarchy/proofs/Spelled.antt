-- In trees that tokens spell, dotted names of ends and exports have two words or three.
use Rattle.adl_hierarchy.proofs.Common.{AreDotted, Assembly, Component, Composition, Connection, End, Ended, Export, File, Id, IsDotted, IsIn, Item, ItemAt, Line, List, Member, None, Option, Seen, Some, Source, [], arith, as_composition}
use Rattle.adl_hierarchy.proofs.Common.{as_connection, as_export, body, compositions, enumerate_from, from_enumerate, from_filter_map, from_flat_map, from_map, hierarchy_of, inl, inr, items_in, items_of, rules, subst, sym, ℕ, ◌∷◌, ◌≡◌}
use Rattle.cam_base.specs.declared.token.Mark.TheVariants as marks
use Rattle.cam_base.specs.Form.{behind}
use Rattle.cam_base.specs.Spelling.{Each, Spells}
use Rattle.cam_base.specs.Depth.{deep}
use Rattle.adl_ast.specs.Codes.{token_code, mark_code}
use Rattle.adl_ast.specs.Forms.{Rule, nested_line, Dotted, dotted_of, dotted_line, end_line, end_form, connection_line, export_line, composition_member_line, composition_member_form, composition_line, assembly_line, member_line, member_form, component_line, item_line, ended_line, ended_form, file_line}
use Rattle.adl_ast.specs.Spelling.{limit, IsSpelledBy}
use Rattle.adl_ast.specs.declared.file.Item.TheVariants as items
use Rattle.adl_hierarchy.specs.Spelled.{AreSpelled}
use Rattle.adl_hierarchy.proofs.Leading.{own_export, own_connection}
use Rattle.adl_hierarchy.proofs.Lists.{in_get}
use Rattle.adl_hierarchy.proofs.Sources.{component_item, assembly_item, composed}

-- some tokens spell it by the rule
abbrev pub IsOne : {A : Type 0} → Rule A → A → Type 0
IsOne f x = (ts : List Seen) × IsSpelledBy f x ts

-- what is repeated is spelled one by one
pub one_of : {A : Type 0} (f : Rule A) (xs : List A) (ts : List Seen) (x : A)
    → Each (Spells token_code (deep token_code nested_line limit) f) xs ts → IsIn x xs → IsOne f x
one_of f [] ts x e i = absurd i
one_of {A} f (y ∷ xs) ts x e (inl s) = let P : A → Type 0 = λ z. IsOne f z in subst P s (e.0, e.3)
one_of f (y ∷ xs) ts x e (inr i) = one_of f xs e.1 x e.4 i

-- ---- down to the dotted names

dotted_words : (a b : Id) (c : Option Id) → IsDotted (dotted_of a b c).0
dotted_words a b None = (omega arith, omega arith)
dotted_words a b (Some c) = (omega arith, omega arith)

dotted_name : (d : Dotted) → IsOne dotted_line d → IsDotted d.0
unfolding dotted_line
dotted_name d w = let p = w.1 in let P : Dotted → Type 0 = λ z. IsDotted z.0 in
    subst P (sym p.1) (dotted_words p.0.0 p.0.1.0 p.0.1.1)

end_name : (e : End) → IsOne end_line e → IsDotted e.words
unfolding end_line
end_name e w = let p = w.1 in let P : End → Type 0 = λ z. IsDotted z.words in subst P (sym p.1) (dotted_name p.0.1 (p.2.1, p.2.4))

export_name : (x : Export) → IsOne export_line x → IsDotted x.words
unfolding export_line
export_name x w = let p = w.1 in let P : Export → Type 0 = λ z. IsDotted z.words in
    subst P (sym p.1) (dotted_name p.0.1.0 (p.2.4.0, p.2.4.3))

connection_end : (k : Connection) → IsOne connection_line k → (e : End) → IsIn e k.ends → IsOne end_line e
unfolding connection_line
connection_end k w e i =
    let q = w.1.2.4.4.4.4.3 in
    let P : Connection → Type 0 = λ z. IsIn e z.ends in
    elim (subst (λ z. IsIn e z) q.1 (subst P w.1.1 i)) [
      | inl s ↦ let R : End → Type 0 = λ z. IsOne end_line z in subst R s (q.2.0, q.2.3)
      | inr j ↦
          let y = one_of (behind (mark_code marks.Comma) end_form) q.0.1 q.2.1 e q.2.4 j in
          subst (λ z. IsOne end_line z) (sym y.1.1) (y.1.2.1, y.1.2.4)
    ]

line_connection : (l : Line) (k : Connection) → IsOne composition_member_line l → as_connection l ≡ Some k
    → IsOne connection_line k
unfolding composition_member_line
line_connection l k w e = search (rules)

line_export : (l : Line) (x : Export) → IsOne composition_member_line l → as_export l ≡ Some x → IsOne export_line x
unfolding composition_member_line
line_export l x w e = search (rules)

composition_member : (k : Composition) → IsOne composition_line k → (l : Line) → IsIn l k.lines → IsOne composition_member_line l
unfolding composition_line
composition_member k w l i =
    let p = w.1 in
    one_of composition_member_form p.0.1.1.0 p.2.4.4.0 l p.2.4.4.3 (subst (λ (z : Composition). IsIn l z.lines) p.1 i)

-- the compositions of items
member_composition : (m : Member) (k : Composition) → IsOne member_line m → as_composition m ≡ Some k → IsOne composition_line k
unfolding member_line
member_composition m k w e = search (rules)

component_member : (c : Component) → IsOne component_line c → (m : Member) → IsIn m c.members → IsOne member_line m
unfolding component_line
component_member c w m i =
    let p = w.1 in
    one_of member_form p.0.1.1.1.0 p.2.4.4.4.0 m p.2.4.4.4.3 (subst (λ (z : Component). IsIn m z.members) p.1 i)

component_composition : (c : Component) (k : Composition) → IsOne component_line c → IsIn k (compositions c)
    → IsOne composition_line k
component_composition c k w i = let m = from_filter_map as_composition k c.members i in
    member_composition m.0 k (component_member c w m.0 m.1) m.2

assembly_composition : (a : Assembly) → IsOne assembly_line a → IsOne composition_line a.composition
unfolding assembly_line
assembly_composition a w =
    let p = w.1 in
    subst (λ (z : Assembly). IsOne composition_line z.composition) (sym p.1) (p.2.4.4.4.0, p.2.4.4.4.3)

pub item_component : (c : Component) → IsOne item_line (items.Component c) → IsOne component_line c
unfolding item_line
item_component c w = search (rules)

item_assembly : (a : Assembly) → IsOne item_line (items.Assembly a) → IsOne assembly_line a
unfolding item_line
item_assembly d w = search (rules)

ended_item : (e : Ended) → IsOne ended_line e → IsOne item_line e.item
unfolding ended_line
ended_item e w = let p = w.1 in let P : Ended → Type 0 = λ z. IsOne item_line z.item in subst P (sym p.1) (p.2.0, p.2.3)

pub file_item : (f : File) → IsOne file_line f → (e : Ended) → IsIn e f.items → IsOne item_line e.item
unfolding file_line
file_item f w e i = let p = w.1 in ended_item e (one_of ended_form p.0 w.0 e p.2 (subst (λ (z : File). IsIn e z.items) p.1 i))

pub item_spelled : (s : Source) → AreSpelled s → (x : ItemAt × Item) → IsIn x (items_of s) → IsOne item_line x.1
item_spelled s spelled x i =
    let f = from_flat_map items_in x (enumerate_from 0 s.files) i in
    let n = from_enumerate 0 s.files f.0 f.1 in
    let e = from_map (λ (e : ℕ × Ended). let at : ItemAt = record { file = f.0.0; item = e.0 } in (at, e.1.item)) x
    (enumerate_from 0 f.0.1.tree.items) f.2 in
    let m = from_enumerate 0 f.0.1.tree.items e.0 e.1 in
    subst (λ (z : ItemAt × Item). IsOne item_line z.1) e.2 (file_item f.0.1.tree (spelled f.0.1 (in_get s.files n.0 f.0.1 n.2))
    e.0.1 (in_get f.0.1.tree.items m.0 e.0.1 m.2))

composition_spelled : (s : Source) → AreSpelled s → (k : ℕ) (c : Composition) → (body (hierarchy_of s) k).composition ≡ Some c
    → IsOne composition_line c
composition_spelled s spelled k c e = elim (composed s k c e) [
  | inl d ↦
      let x = component_item s d.0 d.1 in
      component_composition d.0.1 c (item_component d.0.1 (subst (λ z. IsOne item_line z) x.2 (item_spelled s spelled x.0 x.1)))
      (in_get (compositions d.0.1) 0 c d.2)
  | inr d ↦
      let x = assembly_item s d.0 d.1 in
      let P : Item → Type 0 = λ z. IsOne item_line z in
      let Q : Composition → Type 0 = λ z. IsOne composition_line z in
      subst Q d.2 (assembly_composition d.0.1 (item_assembly d.0.1 (subst P x.2 (item_spelled s spelled x.0 x.1))))
]

pub spelled_dotted : (s : Source) → AreSpelled s → AreDotted (hierarchy_of s)
spelled_dotted s spelled = record {
  exports = λ k x i.
      let o = own_export (body (hierarchy_of s) k).composition x i in
      let l = from_filter_map as_export x o.0.lines o.2 in
      export_name x (line_export l.0 x (composition_member o.0 (composition_spelled s spelled k o.0 o.1) l.0 l.1) l.2);
  ends = λ k w e i m.
      let o = own_connection (body (hierarchy_of s) k).composition w i in
      let l = from_filter_map as_connection w.1 o.0.lines o.2 in
      end_name e
      (connection_end w.1 (line_connection l.0 w.1 (composition_member o.0 (composition_spelled s spelled k o.0 o.1) l.0
      l.1) l.2) e m);
}

pub line_spelled : (s : Source) → AreSpelled s → (k : ℕ) (c : Composition) → (body (hierarchy_of s) k).composition ≡ Some c
    → (l : Line) → IsIn l c.lines → IsOne composition_member_line l
line_spelled s spelled k c e = composition_member c (composition_spelled s spelled k c e)
