-- Where each end joins an interface of a leaf, each has its settings.
use Rattle.flat_laws.proofs.Common.{AreTyped, Component, Ended, FlatConnection, FlatEnd, Interface, IsIn, IsTypedEnd, Item, Joint, Leaf, List, None, Option, Some, Source, SourceFile, [], ap, cons_option, end_settings, filter_map, flat_of, found_at}
use Rattle.flat_laws.proofs.Common.{found_of, found_on, founds_in, get_map, hierarchy_of, in_get, inl, inr, interface_at, items_of_file, joint_at, kept, length, length-map, members_at, members_in, members_of, option_and_then, option_map, positioned}
use Rattle.flat_laws.proofs.Common.{positioned_after, refl, settled_of, slice_get, suc, sym, zero, ℕ, ◌∙◌, ◌∷◌, ◌≡◌}
use Rattle.adl_ast.specs.declared.component.Member.TheVariants as members
use Rattle.adl_ast.specs.declared.file.Item.TheVariants as items
use Rattle.adl_settings.specs.EndMeaning.{end_setting}
use Rattle.adl_settings.specs.Joints.{as_component, as_interface, behind}
use Rattle.adl_settings.specs.declared.found.Found.{Found}
use Rattle.flat_laws.specs.EndSettings.{AreEndsSettled}
use Rattle.adl_settings.proofs.EndNumbers.{position_of}
use Rattle.flat_laws.proofs.FlatEnds.{place_in}

-- ---- lists

-- where each gives something, places stay
pub all_kept_at : {X Y : Type 0} (f : X → Option Y) (xs : List X) → ((x : X) → IsIn x xs → (y : Y) × (f x ≡ Some y))
    → (n : ℕ) (x : X) (y : Y) → slice_get xs n ≡ Some x → f x ≡ Some y → slice_get (filter_map f xs) n ≡ Some y
all_kept_at f [] all n x y e g = cc
all_kept_at {X} {Y} f (z ∷ xs) all n x y e g =
    ap (λ o. slice_get (cons_option o (filter_map f xs)) n) (all z (inl refl)).1
    ∙ at_place n e (λ n e. all_kept_at f xs (λ w i. all w (inr i)) n x y e g)
  where
    at_place : (n : ℕ) → slice_get (z ∷ xs) n ≡ Some x
        → ((n : ℕ) → slice_get xs n ≡ Some x → slice_get (filter_map f xs) n ≡ Some y)
        → slice_get ((all z (inl refl)).0 ∷ filter_map f xs) n ≡ Some y
    at_place zero e more = let same : z ≡ x = cc in sym (all z (inl refl)).1 ∙ ap f same ∙ g
    at_place (suc n) e more = more n e

-- ---- positions among the `from` ends

pub from_positioned : (p : ℕ) (es : List FlatEnd) (x : ℕ × FlatEnd) → IsIn x (positioned_after p es) → IsIn x.1 es
from_positioned p [] x i = absurd i
from_positioned p (f ∷ es) x (inl same) = inl (ap (λ (z : ℕ × FlatEnd). z.1) same)
from_positioned p (f ∷ es) x (inr i) = inr (from_positioned (behind p f.role) es x i)

as_many_positions : (p : ℕ) (es : List FlatEnd) → length (positioned_after p es) ≡ length es
as_many_positions p [] = refl
as_many_positions p (e ∷ es) = ap (λ n. suc n) (as_many_positions (behind p e.role) es)

-- ---- interfaces

-- an interface among the members of a leaf's component is the leaf's at its place
interface_there : (s : Source) (leaf : Leaf) (m : ℕ) (i : Interface)
    → slice_get (members_at s leaf.component) m ≡ Some (members.Interface i) → interface_at s leaf m ≡ Some i
interface_there s leaf m i e = by_file (slice_get s.files leaf.component.file) e
  where
    by_item : (x : Item) → slice_get (members_of x) m ≡ Some (members.Interface i)
        → option_and_then (λ (c : Component). option_and_then as_interface (slice_get c.members m)) (as_component x) ≡ Some i
    by_item (items.Component c) e = ap (λ o. option_and_then as_interface o) e
    by_item _ e = cc

    by_ended : (o : Option Ended) → slice_get (members_in o) m ≡ Some (members.Interface i)
        → option_and_then (λ (c : Component). option_and_then as_interface (slice_get c.members m))
        (option_and_then (λ (x : Ended). as_component x.item) o) ≡ Some i
    by_ended None e = cc
    by_ended (Some x) e = by_item x.item e

    by_file : (o : Option SourceFile) → slice_get (members_in (slice_get (items_of_file o) leaf.component.item)) m ≡ Some
        (members.Interface i) → option_and_then (λ (c : Component). option_and_then as_interface (slice_get c.members m))
        (option_and_then (λ (f : SourceFile). option_and_then (λ (x : Ended). as_component x.item)
        (slice_get f.tree.items leaf.component.item)) o)
        ≡ Some i
    by_file None e = cc
    by_file (Some f) e = by_ended (slice_get f.tree.items leaf.component.item) e

-- ---- ends

module _ (s : Source) (typed : AreTyped s (flat_of s)) where
  abbrev joint_of : FlatConnection → ℕ × FlatEnd → Leaf → Interface → Joint
  joint_of c x leaf i = record { connection = c; position = x.0; end = x.1; leaf = leaf; interface = i }

  -- an end with the values of its settings
  pub record IsFoundEnd (c : FlatConnection) (x : ℕ × FlatEnd) : Type 0 where
    pub found : Found
    pub is : found_of (hierarchy_of s) s (flat_of s) c x ≡ Some found
    pub joined : IsTypedEnd s (flat_of s) c x.1
    pub at : found ≡ found_at (hierarchy_of s) (record {
      connection = c;
      position = x.0;
      end = x.1;
      leaf = joined.leaf;
      interface = joined.interface;
    })

  pub end_found : (k : ℕ) (c : FlatConnection) (x : ℕ × FlatEnd) → slice_get (flat_of s).connections k ≡ Some c → IsIn x.1 c.ends
      → IsFoundEnd c x
  end_found k c x at i =
      let p = place_in c.ends x.1 i in
      let t = typed k p.0 c x.1 at p.1 in
      record {
        found = found_at (hierarchy_of s) (joint_of c x t.leaf t.interface);
        is = ap (λ o. option_map (found_at (hierarchy_of s)) (option_and_then (joint_at s c x) o)) t.here
            ∙ ap (λ o. option_map (found_at (hierarchy_of s)) (option_map (joint_of c x t.leaf) o))
            (interface_there s t.leaf x.1.member t.interface t.joined);
        joined = t;
        at = refl;
      }

  -- the values of the ends of connection k, in order
  found_all : (k : ℕ) (c : FlatConnection) → slice_get (flat_of s).connections k ≡ Some c → (x : ℕ × FlatEnd)
      → IsIn x (positioned c.ends) → (f : Found) × (found_of (hierarchy_of s) s (flat_of s) c x ≡ Some f)
  found_all k c at x i = let g = end_found k c x at (from_positioned 0 c.ends x i) in (g.found, g.is)

  pub found_there : (k n : ℕ) (c : FlatConnection) (e : FlatEnd) → slice_get (flat_of s).connections k ≡ Some c
      → slice_get c.ends n ≡ Some e → (p : ℕ) × (slice_get (positioned c.ends) n ≡ Some (p, e)) × (f : IsFoundEnd c (p, e))
      × (slice_get (found_on (hierarchy_of s) s (flat_of s) c) n ≡ Some f.found)
  found_there k n c e at is =
      let p = position_of 0 c.ends n e is in
      let f = end_found k c (p.0, e) at (in_get c.ends n e is) in (
        p.0,
        p.1,
        f,
        all_kept_at (found_of (hierarchy_of s) s (flat_of s) c) (positioned c.ends) (found_all k c at) n (p.0, e)
            f.found p.1 f.is,
      )

  settled_there : (k : ℕ) (c : FlatConnection) → slice_get (flat_of s).connections k ≡ Some c
      → slice_get (settled_of s).connections k ≡ Some (end_settings (found_on (hierarchy_of s) s (flat_of s) c))
  settled_there k c at =
      let h = hierarchy_of s in
      let fs = founds_in h s (flat_of s) in
      get_map end_settings fs k (found_on h s (flat_of s) c) (get_map (found_on h s (flat_of s)) (flat_of s).connections k c at)

  pub ends_settled : AreEndsSettled s
  ends_settled =
      let h = hierarchy_of s in
      record {
        connections = length-map (founds_in h s (flat_of s)) end_settings ∙ length-map (flat_of s).connections
            (found_on h s (flat_of s));
        ends = λ k c at.
            let es = found_on h s (flat_of s) c in
            record {
              settings = end_settings es;
              there = settled_there k c at;
              as_many = length-map es end_setting ∙ kept (found_of h s (flat_of s) c) (positioned c.ends) (found_all k c at)
                  ∙ as_many_positions 0 c.ends;
            };
        each = λ k n c e at is.
            let t = found_there k n c e at is in
            let f = t.2 in
            record {
              joint = joint_of c (t.0, e) f.joined.leaf f.joined.interface;
              connection = refl;
              end = refl;
              position = t.1;
              leaf = f.joined.here;
              interface = f.joined.joined;
              settings = ap (λ o. option_and_then (λ z. slice_get z.ends n) o) (settled_there k c at)
                  ∙ get_map end_setting (found_on h s (flat_of s) c) n f.found t.3 ∙ ap (λ z. Some (end_setting z)) f.at;
            };
      }
