-- The words of a setting that are unknown, by what the words in front of them lead to.
use Rattle.front_laws.proofs.Common.{Ends, Fault, Held, Holding, Id, Instance, IsIn, IsInFront, IsUnknownIn, IsUnknownWord, Known, Leads, List, Name, NamesInstance, None, Option, Scope, Some, Types, [], a_connection, a_group, a_group_alone, alone}
use Rattle.front_laws.proofs.Common.{an_instance, ap, append_assoc, arith, at_connection, at_leaf, behind, behind_an_end, here, in_a_group, in_append, in_left, in_right, inl, inr, inside, inwards, is_none, is_some, length, refl, scope_behind}
use Rattle.front_laws.proofs.Common.{scope_in_composition, scope_in_group, scope_of_held, scope_of_known, subst, sym, unheld, unheld_in_group, unknown, unknown_group, unknown_in_setting, unknown_inner, unknown_last, unknown_word, untold, within}
use Rattle.front_laws.proofs.Common.{rules, ◌++◌, ◌<◌, ◌∙◌, ◌∷◌, ◌≡◌}
use Rattle.front_laws.proofs.Tested.{from_false, in_false}

-- ---- what is found unknown, by the scope of the first word

data InGroup (types : Types) (members : Name → Option Instance) (words : List Id) : Id → Type 0 where
  no_member : (v : Id) (more : List Id) → words ≡ v ∷ more → members v.name ≡ None → InGroup types members words v
  inside_it : (v : Id) (more : List Id) (i : Instance) (c : Known) (inner : Holding) (w : Id) → words ≡ v ∷ more
      → members v.name ≡ Some i
      → types i.component.name ≡ Some c → c.holds ≡ Some inner → IsUnknownWord types inner more w → InGroup types members words w
  behind_it : (v : Id) (more : List Id) (i : Instance) (c : Known) (w : Id) → words ≡ v ∷ more → members v.name ≡ Some i
      → types i.component.name ≡ Some c → c.holds ≡ None → IsInFront more w → InGroup types members words w

abbrev FromScope : Types → Scope → List Id → Id → Type 0
FromScope types (within held) words w = IsUnknownWord types held words w
FromScope types (inside members) words w = InGroup types members words w
FromScope types behind words w = IsInFront words w
FromScope types untold words w = ⊥

-- ---- one instance further inwards

lead : (types : Types) (held inner : Holding) (ws words : List Id) (c : Known) (x : Id) → NamesInstance types held ws c
    → c.holds ≡ Some inner → IsUnknownWord types inner words x → IsUnknownWord types held (ws ++ words) x
lead types held inner ws words c x n e (unheld before after w last split l leads none) =
    unheld (ws ++ before) after w last (ap (λ z. ws ++ z) split ∙ sym (append_assoc ws before _)) l
    (inwards held inner last ws before c n e leads) none
lead types held inner ws words c x n e (unheld_in_group before after g w last members split leads group none) =
    unheld_in_group (ws ++ before) after g w last members (ap (λ z. ws ++ z) split ∙ sym (append_assoc ws before _))
    (inwards held inner last ws before c n e leads) group none
lead types held inner ws words c x n e (a_group_alone before g w last members split leads group) =
    a_group_alone (ws ++ before) g w last members (ap (λ z. ws ++ z) split ∙ sym (append_assoc ws before _))
    (inwards held inner last ws before c n e leads) group
lead types held inner ws words c x n e (behind_an_end before end between after w last split l leads ends) =
    behind_an_end (ws ++ before) end between after w last (ap (λ z. ws ++ z) split ∙ sym (append_assoc ws before _)) l
    (inwards held inner last ws before c n e leads) ends

stop : (types : Types) (held : Holding) (ws words : List Id) (x : Id) → Ends types held ws → IsInFront words x
    → IsUnknownWord types held (ws ++ words) x
stop types held ws words x ends f = behind_an_end [] ws f.before f.after x held (ap (λ z. ws ++ z) f.split) f.more
    (here held) ends

-- behind an instance whose component may be known
by_type : (types : Types) (held : Holding) (ws words : List Id) (x : Id) (o : Option Known)
    → ((c : Known) → o ≡ Some c → NamesInstance types held ws c)
    → FromScope types (scope_of_known o) words x → IsUnknownWord types held (ws ++ words) x
by_type types held ws words x None n h = absurd h
by_type types held ws words x (Some c) n h = by_holds c.holds refl h
  where
    by_holds : (o : Option Holding) → c.holds ≡ o → FromScope types (scope_of_held o) words x
        → IsUnknownWord types held (ws ++ words) x
    by_holds None e f = stop types held ws words x (at_leaf ws c (n c refl) e) f
    by_holds (Some inner) e u = lead types held inner ws words c x (n c refl) e u

in_group : (types : Types) (held : Holding) (g : Id) (words : List Id) (x : Id) (members : Name → Option Instance)
    → held g.name ≡ Some (a_group members) → InGroup types members words x → IsUnknownWord types held (g ∷ words) x
in_group types held g words x members e (no_member v more split none) =
    unheld_in_group [] more g v held members (ap (λ z. g ∷ z) split) (here held) e none
in_group types held g words x members e (inside_it v more i c inner w split m t hold u) =
    let P : List Id → Type 0 = λ z. IsUnknownWord types held (g ∷ z) x in
    subst P (sym split) (lead types held inner (g ∷ v ∷ []) more c x (in_a_group g v members i c e m t) hold u)
in_group types held g words x members e (behind_it v more i c w split m t hold f) =
    let P : List Id → Type 0 = λ z. IsUnknownWord types held (g ∷ z) x in
    subst P (sym split) (stop types held (g ∷ v ∷ []) more x (at_leaf (g ∷ v ∷ []) c (in_a_group g v members i c e m t) hold) f)

further : (types : Types) (scope : Scope) (w : Id) (more : List Id) (x : Id)
    → FromScope types (scope_behind types scope w.name) more x → FromScope types scope (w ∷ more) x
further types (within held) w more x h = by_held (held w.name) refl h
  where
    by_held : (o : Option Held) → held w.name ≡ o → FromScope types (scope_in_composition types o) more x
        → IsUnknownWord types held (w ∷ more) x
    by_held None e h = absurd h
    by_held (Some (an_instance i)) e h = by_type types held (w ∷ []) more x (types i.component.name) (λ c t. alone w i c e t) h
    by_held (Some (a_group members)) e h = in_group types held w more x members e h
    by_held (Some a_connection) e h = stop types held (w ∷ []) more x (at_connection w e) h
further types (inside members) w more x h = by_member (members w.name) refl h
  where
    by_member : (o : Option Instance) → members w.name ≡ o → FromScope types (scope_in_group types o) more x
        → InGroup types members (w ∷ more) x
    by_member None e h = absurd h
    by_member (Some i) e h = by_known (types i.component.name) refl h
      where
        by_holds : (c : Known) (o : Option Holding) → types i.component.name ≡ Some c → c.holds ≡ o
            → FromScope types (scope_of_held o) more x → InGroup types members (w ∷ more) x
        by_holds c None t hold f = behind_it w more i c x refl e t hold f
        by_holds c (Some inner) t hold u = inside_it w more i c inner x refl e t hold u

        by_known : (o : Option Known) → types i.component.name ≡ o → FromScope types (scope_of_known o) more x
            → InGroup types members (w ∷ more) x
        by_known None t h = absurd h
        by_known (Some c) t h = by_holds c c.holds t refl h
further types behind w more x h = record {
  before = w ∷ h.before;
  after = h.after;
  split = ap (λ z. w ∷ z) h.split;
  more = h.more;
}
further types untold w more x h = h

-- ---- one word

abbrev Found : Types → Scope → List Id → Fault → Type 0
Found types scope words f = (x : Id) × FromScope types scope words x × (f ≡ unknown x)

from_last : (types : Types) (scope : Scope) (w : Id) (f : Fault) → IsIn f (unknown_last scope w) → Found types scope (w ∷ []) f
from_last types (inside members) w f i =
    let k = from_false (is_some (members w.name)) (unknown w) f i in
    (w, no_member w [] refl (is_none (members w.name) k.0), sym k.1)
from_last types _ w f i = absurd i

from_inner : (types : Types) (scope : Scope) (w : Id) (more : List Id) (f : Fault) → 0 < length more
    → IsIn f (unknown_inner scope w) → Found types scope (w ∷ more) f
from_inner types (within held) w more f l i =
    let k = from_false (is_some (held w.name)) (unknown w) f i in
    (w, unheld [] more w held refl l (here held) (is_none (held w.name) k.0), sym k.1)
from_inner types (inside members) w more f l i =
    let k = from_false (is_some (members w.name)) (unknown w) f i in
    (w, no_member w more refl (is_none (members w.name) k.0), sym k.1)
from_inner types behind w more f l (inl e) = (w, record { before = []; after = more; split = refl; more = l }, sym e)
from_inner types behind w more f l (inr i) = absurd i
from_inner types untold w more f l i = absurd i

-- no scope behind an instance is that of a group
no_group : (o : Option Known) (w : Id) (f : Fault) → IsIn f (unknown_group (scope_of_known o) w) → ⊥
no_group None w f i = i
no_group (Some c) w f i = search (rules)

from_group : (types : Types) (scope : Scope) (w v : Id) (f : Fault) → IsIn f (unknown_group (scope_behind types scope w.name) w)
    → Found types scope (w ∷ v ∷ []) f
from_group types (within held) w v f i = by_held (held w.name) refl i
  where
    by_held : (o : Option Held) → held w.name ≡ o → IsIn f (unknown_group (scope_in_composition types o) w)
        → Found types (within held) (w ∷ v ∷ []) f
    by_held None e i = absurd i
    by_held (Some (an_instance x)) e i = absurd (no_group (types x.component.name) w f i)
    by_held (Some (a_group members)) e (inl s) = (w, a_group_alone [] w v held members refl (here held) e, sym s)
    by_held (Some (a_group members)) e (inr i) = absurd i
    by_held (Some a_connection) e i = absurd i
from_group types (inside members) w v f i = search (rules, no_group)
from_group types behind w v f i = absurd i
from_group types untold w v f i = absurd i

from_word : (types : Types) (scope : Scope) (w : Id) (more : List Id) (f : Fault)
    → IsIn f (unknown_word scope (scope_behind types scope w.name) w more) → Found types scope (w ∷ more) f
from_word types scope w [] f i = from_last types scope w f i
from_word types scope w (v ∷ []) f i = search (rules, in_append, from_inner, from_group)
from_word types scope w (v ∷ u ∷ more) f i = from_inner types scope w (v ∷ u ∷ more) f (omega arith) i

from_words : (types : Types) (scope : Scope) (words : List Id) (f : Fault) → IsIn f (unknown_in_setting types scope words)
    → Found types scope words f
from_words types scope [] f i = absurd i
from_words types scope (w ∷ more) f i =
    elim (in_append f (unknown_word scope (scope_behind types scope w.name) w more)
    (unknown_in_setting types (scope_behind types scope w.name) more) i) [
      | inl j ↦ from_word types scope w more f j
      | inr j ↦ let r = from_words types (scope_behind types scope w.name) more f j in
          (r.0, further types scope w more r.0 r.1, r.2)
    ]

-- ---- and back

-- behind a word that holds nothing, each word but the last
front_unknown : (types : Types) (before : List Id) (w : Id) (after : List Id) → 0 < length after
    → IsIn (unknown w) (unknown_in_setting types behind (before ++ w ∷ after))
front_unknown types [] w [] l = absurd (omega (arith, l))
front_unknown types [] w (v ∷ []) l = inl refl
front_unknown types [] w (v ∷ u ∷ more) l = inl refl
front_unknown types (b ∷ before) w after l =
    in_right (unknown w) (unknown_word behind behind b (before ++ w ∷ after))
    (unknown_in_setting types behind (before ++ w ∷ after)) (front_unknown types before w after l)

in_front : (types : Types) (words : List Id) (w : Id) → IsInFront words w
    → IsIn (unknown w) (unknown_in_setting types behind words)
in_front types words w h = search (rules, front_unknown)

-- what is unknown behind the instance that the words name is unknown behind the words
step : (types : Types) (held : Holding) (ws tail : List Id) (c : Known) (f : Fault) → NamesInstance types held ws c
    → IsIn f (unknown_in_setting types (scope_of_held c.holds) tail)
    → IsIn f (unknown_in_setting types (within held) (ws ++ tail))
step types held ws tail c f (alone w i c' e t) h = search (rules, in_right)
step types held ws tail c f (in_a_group g w members i c' e m t) h = search (rules, in_right)

along : (types : Types) (held last : Holding) (before rest : List Id) (f : Fault) → Leads types held before last
    → IsIn f (unknown_in_setting types (within last) rest) → IsIn f (unknown_in_setting types (within held) (before ++ rest))
along types held last before rest f (here h) i = i
along types held last before rest f (inwards h inner l ws more c n e leads) i =
    let Q : Option Holding → Type 0 = λ o. IsIn f (unknown_in_setting types (scope_of_held o) (more ++ rest)) in
    subst (λ z. IsIn f (unknown_in_setting types (within held) z)) (sym (append_assoc ws more rest))
    (step types held ws (more ++ rest) c f n (subst Q (sym e) (along types inner last more rest f leads i)))

past : (types : Types) (held : Holding) (ws tail : List Id) (f : Fault) → Ends types held ws
    → IsIn f (unknown_in_setting types behind tail) → IsIn f (unknown_in_setting types (within held) (ws ++ tail))
past types held ws tail f (at_connection w e) i = search (rules, in_right)
past types held ws tail f (at_leaf ws' c n e) i =
    step types held ws tail c f n (subst (λ o. IsIn f (unknown_in_setting types (scope_of_held o) tail)) (sym e) i)

unheld_here : (types : Types) (held : Holding) (w : Id) (after : List Id) → 0 < length after → held w.name ≡ None
    → IsIn (unknown w) (unknown_in_setting types (within held) (w ∷ after))
unheld_here types held w [] l e = absurd (omega (arith, l))
unheld_here types held w (v ∷ []) l e = search (rules, in_false, is_some, in_left)
unheld_here types held w (v ∷ u ∷ more) l e = search (rules, in_left, in_false, is_some)

no_member_here : (types : Types) (members : Name → Option Instance) (w : Id) (after : List Id) → members w.name ≡ None
    → IsIn (unknown w) (unknown_in_setting types (inside members) (w ∷ after))
no_member_here types members w [] e = search (rules, in_left, in_false, is_some)
no_member_here types members w (v ∷ []) e = search (rules, in_false, is_some, in_left)
no_member_here types members w (v ∷ u ∷ more) e = search (rules, in_left, in_false, is_some)

behind_group : (types : Types) (held : Holding) (g : Id) (rest : List Id) (members : Name → Option Instance) (f : Fault)
    → held g.name ≡ Some (a_group members)
    → IsIn f (unknown_in_setting types (inside members) rest) → IsIn f (unknown_in_setting types (within held) (g ∷ rest))
behind_group types held g rest members f e i = search (rules, in_right)

group_here : (types : Types) (held : Holding) (g w : Id) (members : Name → Option Instance) → held g.name ≡ Some (a_group members)
    → IsIn (unknown g) (unknown_in_setting types (within held) (g ∷ w ∷ []))
group_here types held g w members e = search (rules, in_left, in_right)

in_words : (types : Types) (held : Holding) (words : List Id) (x : Id) → IsUnknownWord types held words x
    → IsIn (unknown x) (unknown_in_setting types (within held) words)
in_words types held words x (unheld before after w inner split l leads none) =
    let P : List Id → Type 0 = λ z. IsIn (unknown x) (unknown_in_setting types (within held) z) in
    subst P (sym split) (along types held inner before (x ∷ after) (unknown x) leads (unheld_here types inner x after l none))
in_words types held words x (unheld_in_group before after g w inner members split leads group none) =
    let P : List Id → Type 0 = λ z. IsIn (unknown x) (unknown_in_setting types (within held) z) in
    subst P (sym split) (along types held inner before (g ∷ x ∷ after) (unknown x) leads
    (behind_group types inner g (x ∷ after) members (unknown x) group (no_member_here types members x after none)))
in_words types held words x (a_group_alone before g w inner members split leads group) =
    let P : List Id → Type 0 = λ z. IsIn (unknown x) (unknown_in_setting types (within held) z) in
    subst P (sym split) (along types held inner before (x ∷ w ∷ []) (unknown x) leads (group_here types inner x w members group))
in_words types held words x (behind_an_end before end between after w inner split l leads ends) =
    let P : List Id → Type 0 = λ z. IsIn (unknown x) (unknown_in_setting types (within held) z) in
    subst P (sym split) (along types held inner before (end ++ (between ++ x ∷ after)) (unknown x) leads
    (past types inner end (between ++ x ∷ after) (unknown x) ends (front_unknown types between x after l)))

-- ---- both, for the settings of a body

pub from_setting : (types : Types) (holds : Option Holding) (words : List Id) (f : Fault)
    → IsIn f (unknown_in_setting types (scope_of_held holds) words) → (w : Id) × IsUnknownIn types holds words w × (f ≡ unknown w)
from_setting types None words f i = from_words types behind words f i
from_setting types (Some held) words f i = from_words types (within held) words f i

pub in_setting : (types : Types) (holds : Option Holding) (words : List Id) (w : Id) → IsUnknownIn types holds words w
    → IsIn (unknown w) (unknown_in_setting types (scope_of_held holds) words)
in_setting types None words w h = in_front types words w h
in_setting types (Some held) words w h = in_words types held words w h
