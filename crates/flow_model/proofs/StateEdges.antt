-- The edges that a state has by what it has where.
use Rattle.flow_model.proofs.Common.{ByAdded, ByBuffer, BySlot, Cap, Capability, Content, Control, LeadsDown, List, None, Option, Own, Some, Spec, State, [], arith, content_in, inl, inr, node_at, refl, rules, subst, sym, true, ℕ, ◌==◌, ◌∷◌, ◌≡◌}
use Rattle.std.proofs.lemmas.Map.Views.{Contains-from_lookup}
use Rattle.std.specs.List.{Contains}
use Rattle.cap_model.specs.ObjectLabels.{label_of}
use Rattle.authorities.specs.declared.authority.Authority.{Authority}
use Rattle.cap_model.proofs.Kept.{kind_is}
use Rattle.cap_model.specs.Auth.{Auth, table_of, of_buffer, of_table, of_mapped}
use Rattle.cap_model.specs.Confers.{confers, kind_confers}
use Rattle.cap_model.specs.Kinds.{is_at, is_space_root, kind_at}
use Rattle.cap_model.specs.Lookup.{object_at}
use Rattle.cap_model.specs.declared.kind.Kind.{Kind}
use Rattle.cap_model.specs.declared.object.Object.TheVariants as objects
use Rattle.cap_model.proofs.SpaceRoots.{root_controls}

-- what controls: a capability to a space root, and one to a page table with a slot
-- the object has a slot of a page table
abbrev pub HasSlot : Spec → ℕ → Type 0
HasSlot spec p = (i : ℕ) × (cap : Cap) × Contains (table_of (object_at spec p)) (i, cap)

pub table_controls : (spec : Spec) (cap : Cap) → HasSlot spec cap.object → confers spec cap Control ≡ true
table_controls spec cap slot = search (rules)

pub leads_slot : (spec : Spec) (p q : ℕ) (path : List ℕ) → LeadsDown spec p path q → HasSlot spec q → HasSlot spec p
leads_slot spec p q [] same slot = subst (λ (n : ℕ). HasSlot spec n) (sym same) slot
leads_slot spec p q (i ∷ path) (cap, there, rest) slot = (i, cap, there)

module _ (spec : Spec) (labels : List ℕ) (s : State) where
  pub contained : (c i : ℕ) (content : Content) → content_in s c i ≡ Some content → Contains (node_at s c).slots (i, content)
  contained c i content there = Contains-from_lookup {eq = λ q n. n == q} (λ x y h. grind arith) i content
      (node_at s c).slots there

  -- what a capability of a CNode confers
  held : (c i : ℕ) (cap : Cap) (a : Authority) → content_in s c i ≡ Some (Capability cap) → confers spec cap a ≡ true
      → Auth spec labels s (label_of labels c) a (label_of labels cap.object)
  held c i cap a there gives = inl (c, i, cap, contained c i (Capability cap) there, gives, refl, refl)

  pub own_edge : (c i : ℕ) (kind : Kind) (cap : Cap) (a : Authority) → Own (is_at spec kind) s c i cap
      → kind_confers kind cap.rights a ≡ true → Auth spec labels s (label_of labels c) a (label_of labels cap.object)
  own_edge c i kind cap a own gives = held c i cap a own.there (let k : kind_at spec cap.object ≡ Some kind = kind_is spec kind
      cap.object own.is in rw k gives)

  pub own_space_edge : (c i : ℕ) (cap : Cap) → Own (is_space_root spec) s c i cap
      → Auth spec labels s (label_of labels c) Control (label_of labels cap.object)
  own_space_edge c i cap own = held c i cap Control own.there (root_controls spec cap own.is)

  -- what gives access to frames
  pub table_edge : (t f : ℕ) (a : Authority) (by : BySlot spec s t a f)
      → Auth spec labels s (label_of labels by.table) a (label_of labels f)
  table_edge t f a by = subst (λ (n : ℕ). Auth spec labels s (label_of labels by.table) a (label_of labels n)) by.frame
      (inr (of_table (by.table, by.number, by.cap, by.there, by.gives, refl, refl)))

  pub added_edge : (t f : ℕ) (a : Authority) (by : ByAdded s t a f)
      → Auth spec labels s (label_of labels by.root) a (label_of labels f)
  added_edge t f a by =
      inr (of_mapped (record { space = by.root; frame = f; rights = by.rights }, by.there, by.gives, refl, refl))

  pub buffer_edge : (t f : ℕ) (a : Authority) (by : ByBuffer spec t a f)
      → Auth spec labels s (label_of labels t) a (label_of labels f)
  buffer_edge t f a by = subst (λ (n : ℕ). Auth spec labels s (label_of labels t) a (label_of labels n)) by.frame
      (inr (of_buffer (t, by.cap, by.buffer, by.gives, refl, refl)))
