-- The ends of leaves, the windows of a domain, and its threads, read both ways.
use Rattle.spec_laws.proofs.Common.{Bool, Connector, Domain, Flat, FlatEnd, Given, IsFlat, IsIn, Leaf, List, Member, None, Option, Some, [], ap, cond, end_of, end_window, ends, ends_at, ends_in}
use Rattle.spec_laws.proofs.Common.{false, from_flat_map, from_gather, from_ones, get_ones, in_flat_map, in_gather, inl, is_window, joins, leaf_ends, leaf_threads, leaf_windows, leaves_of, member_ends, members_at}
use Rattle.spec_laws.proofs.Common.{option_map_or, refl, rules, sees_memory, slice_get, subst, sym, thread, threads_of, true, windows_of, ℕ, ◌∙◌, ◌∷◌, ◌≡◌}
use Rattle.arch_policy.specs.Ends.{EndAt}
use Rattle.cspace_layout.specs.declared.end_at.EndAt.{EndAt as Joined}
use Rattle.spec_laws.proofs.EndsAt.{in_member_ends, member_end}
use Rattle.spec_laws.proofs.Lists.{shown_if}

abbrev pub joined : {flat : Flat} → EndAt flat → Joined
joined x = record { connection = x.place; end = x.number }

module _ (g : Given) where
  -- an end of the flat system, where a leaf's ends name it
  pub record IsHere (leaf : ℕ) (e : Joined) : Type 0 where
    pub at : EndAt g.flat
    pub is : joined at ≡ e
    pub leaf_is : at.end.leaf ≡ leaf

  from_leaf : (leaf : ℕ) (ms : List Member) (e : Joined) → IsIn e (leaf_ends g.flat.connections leaf ms) → IsHere leaf e
  from_leaf leaf ms e i =
      let m = from_gather (λ m (x : Member). member_ends g.flat.connections leaf m) e ms i in
      let j = member_end g.flat.connections leaf m.0 e m.3 in
      record {
        at = search (rules);
        is = refl;
        leaf_is = j.leaf_is;
      }

  abbrev of_leaf : ℕ → Leaf → List Joined
  of_leaf leaf x = leaf_ends g.flat.connections leaf (members_at g.source x.component)

  from_ends : (leaf : ℕ) (e : Joined) → IsIn e (ends_at (ends g) leaf) → IsHere leaf e
  from_ends leaf e i = go (slice_get (ends g) leaf) refl i where
    go : (o : Option (List Joined)) → slice_get (ends g) leaf ≡ o → IsIn e (ends_in o) → IsHere leaf e
    go None h i = absurd i
    go (Some es) h i =
        let o = from_ones of_leaf g.flat.leaves leaf es h in
        from_leaf leaf (members_at g.source o.0.component) e (subst (λ z. IsIn e z) (sym o.2) i)

  -- an end stands among those of its leaf
  pub in_its_ends : (x : EndAt g.flat) (leaf : Leaf) (m : Member) → slice_get g.flat.leaves x.end.leaf ≡ Some leaf
      → slice_get (members_at g.source leaf.component) x.end.member ≡ Some m → IsIn (joined x) (ends_at (ends g) x.end.leaf)
  in_its_ends x leaf m here there =
      let cs = g.flat.connections in
      let among : IsIn (joined x) (of_leaf x.end.leaf leaf) = search (rules, in_gather, in_member_ends) in
      subst (λ z. IsIn (joined x) (ends_in z)) (sym (get_ones of_leaf g.flat.leaves x.end.leaf leaf here)) among

  in_ends : IsFlat g.source g.flat → (x : EndAt g.flat) → IsIn (joined x) (ends_at (ends g) x.end.leaf)
  in_ends flat x = let j = flat.joined x in in_its_ends x j.leaf j.member j.here j.joins

  -- ---- windows

  end_is : (x : EndAt g.flat) → end_of g.flat x.place x.number ≡ Some (x.connection.connector, x.end)
  end_is x = cc

  sees_is : (x : EndAt g.flat) → sees_memory g.flat (joined x) ≡ is_window x.connection.connector x.end.role
  sees_is x = ap (λ z. option_map_or (λ (y : Connector × FlatEnd). is_window y.0 y.1.role) z false) (end_is x)

  pub leaves_are : (d : ℕ) (x : Domain) → slice_get g.flat.domains d ≡ Some x → leaves_of g.flat d ≡ x.leaves
  leaves_are d x e = ap (λ z. option_map_or (λ (y : Domain). y.leaves) z []) e

  -- a window is of an end of software at memory, of a leaf of the domain
  pub record IsWindowOf (d : ℕ) (e : Joined) : Type 0 where
    pub at : EndAt g.flat
    pub is : joined at ≡ e
    pub sees : is_window at.connection.connector at.end.role ≡ true
    pub listed : IsIn at.end.leaf (leaves_of g.flat d)

  pub from_windows : (d : ℕ) (e : Joined) → IsIn e (windows_of g d) → IsWindowOf d e
  from_windows d e i =
      let l = from_flat_map (leaf_windows g.flat (ends g)) e (leaves_of g.flat d) i in
      let f = from_flat_map (end_window g.flat) e (ends_at (ends g) l.0) l.2 in
      let w = shown_if (sees_memory g.flat f.0) f.0 e f.2 in let h = from_ends l.0 f.0 f.1 in
      record {
        at = h.at;
        is = h.is ∙ w.1;
        sees = sym (sees_is h.at) ∙ ap (sees_memory g.flat) h.is ∙ w.0;
        listed = subst (λ z. IsIn z (leaves_of g.flat d)) (sym h.leaf_is) l.1;
      }

  pub in_windows : IsFlat g.source g.flat → (d : ℕ) (x : EndAt g.flat) → IsIn x.end.leaf (leaves_of g.flat d)
      → is_window x.connection.connector x.end.role ≡ true → IsIn (joined x) (windows_of g d)
  in_windows flat d x i w =
      in_flat_map (leaf_windows g.flat (ends g)) x.end.leaf (joined x) (leaves_of g.flat d) i
      (in_flat_map (end_window g.flat) (joined x) (joined x) (ends_at (ends g) x.end.leaf) (in_ends flat x)
      (let P : Bool → Type 0 = λ z. IsIn (joined x) (cond z ((joined x) ∷ []) []) in subst P (sym (sees_is x ∙ w)) (inl refl)))

  -- ---- threads

  -- each leaf of the domain has its control thread
  pub in_threads : (d leaf : ℕ) → IsIn leaf (leaves_of g.flat d) → IsIn (thread leaf None) (threads_of g d)
  in_threads d leaf i = in_flat_map (leaf_threads g.flat (ends g)) leaf (thread leaf None) (leaves_of g.flat d) i (inl refl)
