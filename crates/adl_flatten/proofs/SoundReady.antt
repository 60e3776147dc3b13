-- A source in which no fault of names stands is ready for templates.
use Rattle.adl_flatten.proofs.Common.{All-get_or, AreNamesSound, Assembly, Body, Component, HaveFewMembers, Hierarchy, IsReady, ItemAt, Name, None, Option, Some, Source, arith, below, body, components, get_or_from_slice_get, hierarchy_of, inl, inr, kind_named, length, option_map_or, sound_is_finite, subst, sym, top_of, ℕ, ◌<◌, ◌^◌, ◌≡◌, ◌≤◌}
use Rattle.adl_hierarchy.proofs.Bodies.{body_at}
use Rattle.adl_hierarchy.proofs.PartNames.{names_once}
use Rattle.adl_hierarchy.proofs.PartsAt.{are_composed}

top_few : (f : Name → Option ℕ) (a : Option (ItemAt × Assembly))
    → option_map_or (λ c. length c.members) (top_of f a).component 0 < 2 ^ 32
top_few f None = omega arith
top_few f (Some a) = omega arith

members_few : (s : Source) → HaveFewMembers s → (k : ℕ)
    → option_map_or (λ c. length c.members) (body (hierarchy_of s) k).component 0 < 2 ^ 32
members_few s few k =
    let P : Body → Type 0 = λ b. option_map_or (λ c. length c.members) b.component 0 < 2 ^ 32 in
    let Q : ItemAt × Component → Type 0 = λ c. length c.1.members ≤ 1048576 in
    elim (body_at s k) [
      | inl p ↦
          let cs = components s in
          let n = subst Q (get_or_from_slice_get cs k p.0 p.0 p.1) (All-get_or Q cs k p.0 (below cs k p.0 p.1) few) in
          subst P (sym p.2) (omega (arith, n))
      | inr p ↦ subst P (sym p.1) (top_few (kind_named s) _)
    ]

pub sound_is_ready : (s : Source) (h : Hierarchy) → AreNamesSound s → HaveFewMembers s → h ≡ hierarchy_of s → IsReady h
sound_is_ready s h sound few e =
    let P : Hierarchy → Type 0 = λ h. IsReady h in
    subst P (sym e) (record {
      finite = sound_is_finite s sound;
      once = names_once s sound;
      composed = are_composed s;
      few = members_few s few;
    })
