-- What is made of tables is what is made of a source.
use Rattle.arch_compile.proofs.Common.{Flat, Images, IsAssigned, IsBuildable, IsLaid, IsMade, IsMadeOf, IsMeant, IsPolicyOf, IsSorted, IsWindowed, Layout, List, Policy, Settled, Source, Spec, Tables, ap, arith, entry, flat_of, given, label_numbers}
use Rattle.arch_compile.proofs.Common.{length, length-map, parts, policy_tables, slots_of, source_tables, spaces_of, spec_of, subst, sym, system_tables, tables_from, with_objects, ◌<◌, ◌^◌, ◌∙◌, ◌≡◌}
use Rattle.arch_compile.specs.declared.making.Products.{Products}
use Rattle.arch_policy.specs.declared.numbers.LabelNumbers.{LabelNumbers}
use Rattle.cspace_layout.specs.declared.plan.Slots.{Slots}
use Rattle.vspace_layout.specs.declared.spaces.Spaces.{Spaces}

pub few_objects : (t : Tables) (spec : Spec) → IsBuildable t → spec ≡ spec_of t → length spec.entries < 2 ^ 32
few_objects t spec is e = let few = is.few.objects in
    subst (λ (z : Spec). length z.entries < 2 ^ 32) (sym e) (omega (arith, few, length-map (parts t) (entry t)))

made_is : (s : Source) (images : Images) (p q : Policy) (m : Products) → IsAssigned s p → IsMadeOf (system_tables s images) m
    → q ≡ with_objects p m.system.spec m.system.labels → IsMade s images m.system.spec q m.cert m.map
made_is s images p q m assigned is e =
    let t = system_tables s images in
    let whole = e ∙ ap (λ z. with_objects p z m.system.labels) is.spec ∙ ap (with_objects p (spec_of t)) is.labels in
    record {
      spec_is = is.spec;
      labels = ap (λ (z : Policy). z.labels) e ∙ assigned.labels;
      objects = ap (λ (z : Policy). z.objects) whole;
      edges = subst (λ (z : Policy). IsPolicyOf (source_tables s) z.edges) (sym e) assigned.edges;
      sorted = subst (λ (z : Policy). IsSorted z.edges) (sym e) assigned.sorted;
      certified = is.cert;
      cert_sorted = is.sorted;
      map_is = is.map;
    }

-- the tables of a source whose parts these are
tables_are : (s : Source) (flat : Flat) (settled : Settled) (images : Images) (slots : Slots) (spaces : Spaces)
    (numbers : LabelNumbers)
    → slots ≡ slots_of s flat → spaces ≡ spaces_of (given s flat settled images) → numbers ≡ label_numbers flat
    → (let t : Tables = record {
      source = s;
      flat = flat;
      settled = settled;
      images = images;
      slots = slots;
      spaces = spaces;
      numbers = numbers;
    } in t ≡ tables_from s flat settled images)
tables_are s flat settled images slots spaces numbers a b c =
    ap (λ z. let t : Tables = record {
      source = s;
      flat = flat;
      settled = settled;
      images = images;
      slots = z;
      spaces = spaces;
      numbers = numbers;
    } in t) a
    ∙ ap (λ z. let t : Tables = record {
      source = s;
      flat = flat;
      settled = settled;
      images = images;
      slots = slots_of s flat;
      spaces = z;
      numbers = numbers;
    } in t) b
    ∙ ap (λ z. let t : Tables = record {
      source = s;
      flat = flat;
      settled = settled;
      images = images;
      slots = slots_of s flat;
      spaces = spaces_of (given s flat settled images);
      numbers = z;
    } in t) c

system_is : (s : Source) (flat : Flat) (settled : Settled) (images : Images) → IsMeant s flat settled
    → tables_from s flat settled images ≡ system_tables s images
system_is s flat settled images meant = ap (λ z. tables_from s z settled images) meant.is_flat
    ∙ ap (λ z. tables_from s (flat_of s) z images) meant.is_settled

module _ (s : Source) (flat : Flat) (settled : Settled) (images : Images) (l : Layout) (numbers : LabelNumbers)
    (laid : IsLaid s flat settled images l) (numbered : numbers ≡ label_numbers flat) where
  abbrev Here : Tables
  Here = record {
    source = s;
    flat = flat;
    settled = settled;
    images = images;
    slots = l.slots;
    spaces = l.spaces;
    numbers = numbers;
  }

  pub here_builds : IsBuildable Here
  here_builds =
      subst IsBuildable (sym (tables_are s flat settled images l.slots l.spaces numbers laid.slots laid.spaces numbered))
      laid.buildable

  pub here_windowed : IsWindowed Here
  here_windowed =
      subst IsWindowed (sym (tables_are s flat settled images l.slots l.spaces numbers laid.slots laid.spaces numbered))
      laid.windowed

  pub here_assigned : (p : Policy) → IsMeant s flat settled → IsAssigned s p → IsPolicyOf (policy_tables Here) p.edges
  here_assigned p meant assigned =
      subst (λ t. IsPolicyOf (policy_tables t) p.edges)
      (sym (tables_are s flat settled images l.slots l.spaces numbers laid.slots laid.spaces numbered
      ∙ system_is s flat settled images meant)) assigned.edges

  pub here_made : (p q : Policy) (m : Products) → IsMeant s flat settled → IsAssigned s p → IsMadeOf Here m
      → q ≡ with_objects p m.system.spec m.system.labels → IsMade s images m.system.spec q m.cert m.map
  here_made p q m meant assigned is e =
      made_is s images p q m assigned
      (subst (λ t. IsMadeOf t m) (tables_are s flat settled images l.slots l.spaces numbers laid.slots laid.spaces numbered
      ∙ system_is s flat settled images meant) is) e
