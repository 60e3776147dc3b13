-- What stands inside the instances of a body, and where their ports lead.
use Rattle.adl_flatten.proofs.TemplateCommon.{All, All-map, AreBefore, AreInner, Body, Bool, End, Hierarchy, Id, IsReady, IsTemplate, List, Name, None, Option, Part, Reached, Some, Template, [], all_in, ap, arith, below, body, connection_in, cons_option, end_in, false, filter_map, get_or, in_place, is_named, is_unnamed, kind_in, leaves_before, length, map, map_some, option_and_then, option_and_then_some, option_map, own_connections, own_end, part_from, port_in, reached, reached_by, reached_step, read_in, refl, slice_get, strung, subst, suc, sym, target, target_by, target_in, target_of, true, wires_of, ℕ, ◌<◌, ◌^◌, ◌∙◌, ◌∷◌, ◌≡◌, ◌≤◌}
use Rattle.adl_flatten.proofs.Bounds.{member_few, room}
use Rattle.adl_flatten.proofs.Placing.{map_both, target_step}
use Rattle.adl_flatten.specs.AreTemplates.{IsInside, IsLedInside}
use Rattle.adl_flatten.specs.Templates.{end_by, led_end_by, led_wire_by}
use Rattle.adl_program.proofs.Ends.{unreached}
use Rattle.adl_program.specs.LedEnds.{lead_by, lead_of, lead_to, led_end, led_wire, led_wires}
use Rattle.adl_program.specs.LeafInterfaces.{port_by, port_reached}
use Rattle.adl_program.specs.declared.body.Port.{Port}
use Rattle.adl_program.specs.declared.leads.Lead.{Lead}
use Rattle.std.specs.Prelude.{IfSome}
use Rattle.adl_program.specs.declared.part.PartAt.{PartAt}

-- the components of the instances of a body are bodies
pub kinds_in : (h : Hierarchy) → IsReady h → (k n : ℕ) → k ≤ length h.bodies → n ≡ suc (length h.bodies)
    → All (λ x. x.kind < n) (body h k).parts
kinds_in h ready k n l size = λ i d b. let x = kind_in h ready.finite k (get_or (body h k).parts i d) l
    (read_in (body h k).parts i d b) in omega (arith, x, size)

-- an instance by its number: what stands inside it, behind the leaves in front
pub record IsPlaced (h : Hierarchy) (k : ℕ) (all : List Template) (before : List ℕ) (at : PartAt) : Type 0 where
  pub inside : IsInside h all before at
  pub count : get_or before at.number 0 ≡ leaves_before h k at.number

module _ (h : Hierarchy) (k : ℕ) (all : List Template) (before : List ℕ) (inner : AreInner h k all)
    (numbers : AreBefore h k before) where
  pub is_placed : (i : ℕ) (x : Part) → slice_get (body h k).parts i ≡ Some x
      → IsPlaced h k all before (record { number = i; kind = x.kind })
  is_placed i x g =
      let parts = (body h k).parts in
      let stands = in_place x parts i g in
      let l = below parts i x g in
      let m = numbers.each i l in
      let r = room h inner.ready k i x inner.number g in
      record {
        inside = record {
          within = all_in (λ x. x.kind < length all) parts x inner.within stands;
          numbered = omega (arith, l, numbers.length_is);
          template = λ t. all_in (λ x. IsTemplate h x.kind (get_or all x.kind t)) parts x (inner.each t) stands;
          room = omega (arith, m, r, inner.few);
        };
        count = m;
      }

  -- where an interface of the instance of a name leads
  pub is_port : (n j : Name) (at : PartAt) → part_from 0 (body h k).parts n ≡ Some at
      → IsInside h all before at × (target_by h (get_or before at.number 0) at.kind j ≡ target h k (n, j))
  is_port n j at e =
      let x = is_named h k n at e in
      let i = is_placed at.number x.part x.numbered in
      let same : (let p : PartAt = record { number = at.number; kind = x.part.kind } in p ≡ at) =
      ap (λ kind. record { number = at.number; kind = kind }) x.kind in (
        subst (IsInside h all before) same i.inside,
        ap (λ k. target_by h (get_or before at.number 0) k j) (sym x.kind) ∙ ap (λ n. target_by h n x.part.kind j) i.count
            ∙ sym (target_step h inner.ready k at.number n j x.part inner.number x.numbered x.named),
      )

  -- an end of the composition itself leads to such an instance
  pub led_inside : (e : End) → IsLedInside h all before (led_end h k e)
  led_inside e = by (lead_of h k e.words) refl
    where
      by : (o : Option Lead) → lead_of h k e.words ≡ o → IfSome o (λ l. IsInside h all before l.part × (l.port.member < 2 ^ 32))
      by None s = tt
      by (Some l) s =
          option_and_then_some (lead_to h k) (port_in e.words) l s (λ p s1 s2.
          option_and_then_some (lead_by h k p) (part_from 0 (body h k).parts p.0) l s2 (λ a s3 s4.
          let m = map_some (λ (q : Port). let l : Lead = record { part = a; port = q } in l) (port_by h k p) l s4 in
          let r = map_some (port_reached h) (reached h k p) m.0 m.1 in
          let inside = (is_port p.0 p.1 a s3).0 in
          let few = member_few (body h r.0.part.kind).component r.0.interface (inner.ready.few r.0.part.kind) in
          let P : Lead → Type 0 = λ l. IsInside h all before l.part × (l.port.member < 2 ^ 32) in
          subst P m.2 (inside, (let Q : Port → Type 0 = λ q. q.member < 2 ^ 32 in subst Q r.2 few))))

  pub all_inside : All (λ x. All (IsLedInside h all before) x.ends) (led_wires h k)
  all_inside =
      All-map (λ x. All (IsLedInside h all before) x.ends) (led_wire h k) (wires_of (body h k)) (λ i w l.
      All-map (IsLedInside h all before) (led_end h k) (get_or (wires_of (body h k)) i w).1.ends (λ j e m.
      led_inside (get_or (get_or (wires_of (body h k)) i w).1.ends j e)))

  -- and is placed as it joins
  end_placed : (e : End) → led_end_by h before (led_end h k e) ≡ own_end h k e
  end_placed e = by_port (port_in e.words) refl
    where
      reaching : (p : Name × Name) (a : PartAt) → port_in e.words ≡ Some p → part_from 0 (body h k).parts p.0 ≡ Some a
          → (o : Option Reached) → reached h k p ≡ o
          → option_and_then (end_by h before e) (option_map (λ q. record { part = a; port = q }) (option_map (port_reached h) o))
          ≡ option_map (end_in h k [] e) o
      reaching p a s t None u = refl
      reaching p a s t (Some r) u =
          let q = port_reached h r in
          ap (option_map (λ n. record { end = e; leaf = n; member = q.member; once = q.once }))
          (ap (option_and_then (λ (p : Name × Name). target_by h (get_or before a.number 0) a.kind p.1)) s
          ∙ (is_port p.0 p.1 a t).1 ∙ ap (option_map (target_in h k)) u)

      by_part : (p : Name × Name) → port_in e.words ≡ Some p → (o : Option PartAt) → part_from 0 (body h k).parts p.0 ≡ o
          → option_and_then (end_by h before e) (option_and_then (lead_by h k p) o) ≡ option_map (end_in h k [] e) (reached h k p)
      by_part p s None t = sym (ap (option_map (end_in h k [] e)) (unreached h k p t))
      by_part p s (Some a) t = reaching p a s t (reached h k p) refl

      by_port : (o : Option (Name × Name)) → port_in e.words ≡ o
          → option_and_then (end_by h before e) (option_and_then (lead_to h k) o) ≡ option_map (end_in h k [] e)
          (option_and_then (reached h k) o)
      by_port None s = refl
      by_port (Some p) s = by_part p s (part_from 0 (body h k).parts p.0) refl

  pub wires_placed : map (led_wire_by h before) (led_wires h k) ≡ own_connections h k
  wires_placed =
      map_both (led_wire_by h before) (led_wire h k) (connection_in h k) (strung k) (wires_of (body h k)) (λ w m.
      ap (λ es. record { path = []; wire = w; ends = es }) (ends w.1.ends))
    where
      ends : (es : List End) → filter_map (led_end_by h before) (map (led_end h k) es) ≡ filter_map (own_end h k) es
      ends [] = refl
      ends (e ∷ es) = λ i. cons_option (end_placed e i) (ends es i)

pub no_port : (h : Hierarchy) → IsReady h → (k : ℕ) (words : List Id) (n j : Name) (b : Body) → k ≤ length h.bodies
    → port_in words ≡ Some (n, j) → b ≡ body h k → part_from 0 b.parts n ≡ None → target_of h k words ≡ None
no_port h ready k words n j b l port e none =
    let unnamed = is_unnamed h k n (ap (λ (b : Body). part_from 0 b.parts n) (sym e) ∙ none) in
    ap (option_and_then (target h k)) port ∙ ap (option_map (target_in h k)) (reached_step h ready.finite k l (n, j)
    ∙ ap (option_and_then (reached_by h (reached h) j)) unnamed)

abbrev pub IsHeldTemplate : Hierarchy → List Bool → ℕ → Template → Type 0
IsHeldTemplate h held k t = get_or held k false ≡ true → IsTemplate h k t
