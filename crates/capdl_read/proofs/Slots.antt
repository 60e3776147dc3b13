-- Slots of a holder in whose lines no fault stands.
use Rattle.std.proofs.Common.{rules}
use Rattle.capdl_read.proofs.Common.{Arch, Bool, Cap, CapdlUnknown, Id, IsBelow, Kind, Known, Knows, List, None, Option, SlotKey, SlotLine, Some, Tcb, [], at_id, badge_said, cap_off, cap_said, cond_nil, false, flat_map, has_badge, if_any}
use Rattle.capdl_read.proofs.Common.{keeps_slots, key_off, key_past, kind_rights, list_all, named_from, nat_lt, nil_append, notification_said, numbered_or, param_off, params_off, place_said, put_named, put_slot, refl, rights_said, rise, slot_off}
use Rattle.capdl_read.proofs.Common.{slots_from, slots_past, takes, true, unknown, within, ℕ, ◌&&◌, ◌++◌, ◌==◌, ◌||◌, ◌∙◌, ◌∷◌, ◌≡◌}
use Rattle.std.proofs.Math.Bool.{or-true}
use Rattle.std.specs.Option.{is_some}
use Rattle.cap_model.specs.declared.kind.Kind.TheVariants as kinds
use Rattle.cap_model.specs.declared.rights.Rights.{Rights}
use Rattle.capdl_text.specs.KindField.{has_key}
use Rattle.capdl_text.specs.declared.tree.Param.{Param}
use Rattle.capdl_text.specs.declared.tree.Param.TheVariants as params
use Rattle.capdl_text.specs.declared.tree.SlotKey.TheVariants as keys
use Rattle.capdl_read.proofs.Sorted.{rise_insert, all_insert}

-- ---- parameters

pub rights_fit : (kind : Kind) (ps : List Param) → flat_map (param_off kind) ps ≡ []
    → within (rights_said ps) (kind_rights kind) ≡ true
rights_fit kind [] e = refl
rights_fit kind (params.Rights r place ∷ ps) e = search (rules, cond_nil, nil_append)
rights_fit kind (params.Badge place n ∷ ps) e =
    rights_fit kind ps (nil_append (param_off kind (params.Badge place n)) (flat_map (param_off kind) ps) e).1

pub badge_fits : (kind : Kind) (ps : List Param) → flat_map (param_off kind) ps ≡ []
    → (has_badge kind || badge_said ps == 0) ≡ true
badge_fits kind [] e = or-true (has_badge kind)
badge_fits kind (params.Rights r place ∷ ps) e =
    badge_fits kind ps (nil_append (param_off kind (params.Rights r place)) (flat_map (param_off kind) ps) e).1
badge_fits kind (params.Badge place n ∷ ps) e = search (rules, cond_nil, nil_append)

-- ---- lines

module _ (arch : Arch) (known : Knows) where
  -- a slot of a holder that is h, in whose line no fault stands
  pub record IsGood (h : Known) (s : SlotLine) : Type 0 where
    pub object : Known
    pub is : known s.object.name ≡ Some object
    pub key : has_key h.kind s.key ≡ true
    pub takes : takes arch (Some h) s.key object.kind s.params ≡ true
    pub params : flat_map (param_off object.kind) s.params ≡ []
    pub below : IsBelow h.size s.key

  abbrev pub AllGood : Known → List SlotLine → Type 0
  AllGood h [] = Unit {0}
  AllGood h (s ∷ ss) = IsGood h s × AllGood h ss

  abbrev AllBelow : Option ℕ → List SlotLine → Type 0
  AllBelow size [] = Unit {0}
  AllBelow size (s ∷ ss) = IsBelow size s.key × AllBelow size ss

  below_one : (id : Id) (size : ℕ) (key : SlotKey) (s : SlotLine) → key_past id size key s ≡ [] → IsBelow (Some size) key
  below_one id size (keys.Number n) s e = cond_nil (nat_lt n size) _ e
  below_one id size keys.Cspace s e = tt
  below_one id size keys.Vspace s e = tt
  below_one id size keys.Buffer s e = tt

  below_none : (ss : List SlotLine) → AllBelow None ss
  below_none [] = tt
  below_none (s ∷ ss) = (tt, below_none ss)

  below_some : (id : Id) (size : ℕ) (ss : List SlotLine) → flat_map (λ s. key_past id size s.key s) ss ≡ []
      → AllBelow (Some size) ss
  below_some id size [] e = tt
  below_some id size (s ∷ ss) e = let p = nil_append (key_past id size s.key s) (flat_map (λ s. key_past id size s.key s) ss) e in
      (below_one id size s.key s p.0, below_some id size ss p.1)

  all_below : (id : Id) (size : Option ℕ) (ss : List SlotLine) → slots_past id size ss ≡ [] → AllBelow size ss
  all_below id None ss e = below_none ss
  all_below id (Some size) ss e = below_some id size ss e

  good_one : (id : Id) (h : Known) (s : SlotLine) (o : Option Known) → known s.object.name ≡ o → unknown known s.object ≡ []
      → slot_off arch known id (Some h) s ≡ [] → IsBelow h.size s.key → IsGood h s
  good_one id h s None k u e b =
      absurd (let p : false ≡ true = rw k at (cond_nil (is_some (known s.object.name)) (at_id CapdlUnknown s.object) u) in cc)
  good_one id h s (Some o) k u e b = search (rules, nil_append, cond_nil)

  good_from : (id : Id) (h : Known) (ss : List SlotLine) → flat_map (λ s. unknown known s.object) ss ≡ []
      → flat_map (slot_off arch known id (Some h)) ss ≡ [] → AllBelow h.size ss → AllGood h ss
  good_from id h [] u e b = tt
  good_from id h (s ∷ ss) u e b =
      let p = nil_append (unknown known s.object) (flat_map (λ s. unknown known s.object) ss) u in
      let q = nil_append (slot_off arch known id (Some h) s) (flat_map (slot_off arch known id (Some h)) ss) e in
      (good_one id h s (known s.object.name) refl p.0 q.0 b.0, good_from id h ss p.1 q.1 b.1)

  pub all_good : (id : Id) (h : Known) (ss : List SlotLine) → flat_map (λ s. unknown known s.object) ss ≡ []
      → flat_map (slot_off arch known id (Some h)) ss ≡ [] → slots_past id h.size ss ≡ [] → AllGood h ss
  all_good id h ss u e b = good_from id h ss u e (all_below id h.size ss b)

  -- ---- numbered slots

  module _ (fit : Cap → Bool) (size : ℕ) where
    abbrev pub test : ℕ × Cap → Bool
    test slot = nat_lt slot.0 size && fit slot.1

    abbrev pub IsFit : SlotKey → Cap → Type 0
    IsFit (keys.Number n) cap = test (n, cap) ≡ true
    IsFit key cap = Unit {0}

    abbrev pub AllFit : List SlotLine → Type 0
    AllFit [] = Unit {0}
    AllFit (s ∷ ss) = IsFit s.key (cap_said known s) × AllFit ss

    put_kept : (key : SlotKey) (cap : Cap) (done : List (ℕ × Cap)) → IsFit key cap → rise done ≡ true → list_all test done ≡ true
        → (rise (put_slot key cap done) ≡ true) × (list_all test (put_slot key cap done) ≡ true)
    put_kept (keys.Number n) cap done f r a = (rise_insert done n cap r, all_insert test done n cap a f)
    put_kept keys.Cspace cap done f r a = (r, a)
    put_kept keys.Vspace cap done f r a = (r, a)
    put_kept keys.Buffer cap done f r a = (r, a)

    slots_kept : (done : List (ℕ × Cap)) (ss : List SlotLine) → AllFit ss → rise done ≡ true → list_all test done ≡ true
        → keeps_slots fit size (slots_from known done ss) ≡ true
    slots_kept done [] f r a = rw (r, a) refl
    slots_kept done (s ∷ ss) f r a = let p = put_kept s.key (cap_said known s) done f.0 r a in
        slots_kept (put_slot s.key (cap_said known s) done) ss f.1 p.0 p.1

    pub said_kept : (ss : List SlotLine) → AllFit ss → keeps_slots fit size (slots_from known [] ss) ≡ true
    said_kept ss f = slots_kept [] ss f refl refl

  -- ---- named slots

  module _ (is_node is_root : ℕ → Bool) (is_buffer : Cap → Bool) where
    abbrev pub IsNamed : SlotKey → Cap → Type 0
    IsNamed (keys.Number n) cap = Unit {0}
    IsNamed keys.Cspace cap = is_node cap.object ≡ true
    IsNamed keys.Vspace cap = is_root cap.object ≡ true
    IsNamed keys.Buffer cap = is_buffer cap ≡ true

    abbrev pub AllNamed : List SlotLine → Type 0
    AllNamed [] = Unit {0}
    AllNamed (s ∷ ss) = IsNamed s.key (cap_said known s) × AllNamed ss

    abbrev pub Fits : Tcb → Type 0
    Fits tcb = (if_any is_node tcb.cspace ≡ true) × (if_any is_root tcb.vspace ≡ true) × (if_any is_buffer tcb.buffer ≡ true)

    put_fits : (key : SlotKey) (cap : Cap) (tcb : Tcb) → IsNamed key cap → Fits tcb → Fits (put_named key cap tcb)
    put_fits (keys.Number n) cap tcb f g = g
    put_fits keys.Cspace cap tcb f g = (f, g.1, g.2)
    put_fits keys.Vspace cap tcb f g = (g.0, f, g.2)
    put_fits keys.Buffer cap tcb f g = (g.0, g.1, f)

    pub named_fit : (tcb : Tcb) (ss : List SlotLine) → AllNamed ss → Fits tcb → Fits (named_from known tcb ss)
    named_fit tcb [] f g = g
    named_fit tcb (s ∷ ss) f g = named_fit (put_named s.key (cap_said known s) tcb) ss f.1
        (put_fits s.key (cap_said known s) tcb f.0 g)

  -- the priority stays
  put_prio : (key : SlotKey) (cap : Cap) (tcb : Tcb) → (put_named key cap tcb).prio ≡ tcb.prio
  put_prio (keys.Number n) cap tcb = refl
  put_prio keys.Cspace cap tcb = refl
  put_prio keys.Vspace cap tcb = refl
  put_prio keys.Buffer cap tcb = refl

  pub named_prio : (tcb : Tcb) (ss : List SlotLine) → (named_from known tcb ss).prio ≡ tcb.prio
  named_prio tcb [] = refl
  named_prio tcb (s ∷ ss) = named_prio (put_named s.key (cap_said known s) tcb) ss ∙ put_prio s.key (cap_said known s) tcb

  -- ---- interrupts

  module _ (test : ℕ → Bool) where
    abbrev pub IsHeld : SlotKey → ℕ → Type 0
    IsHeld (keys.Number n) place = test place ≡ true
    IsHeld key place = Unit {0}

    abbrev pub AllHeld : List SlotLine → Type 0
    AllHeld [] = Unit {0}
    AllHeld (s ∷ ss) = IsHeld s.key (place_said known s) × AllHeld ss

    pub held_fits : (ss : List SlotLine) → AllHeld ss → if_any test (notification_said known ss) ≡ true
    held_fits [] f = refl
    held_fits (s ∷ ss) f = go s.key f.0 (held_fits ss f.1)
      where
        go : (key : SlotKey) → IsHeld key (place_said known s) → if_any test (notification_said known ss) ≡ true
            → if_any test (numbered_or key (place_said known s) (notification_said known ss)) ≡ true
        go (keys.Number n) f g = f
        go keys.Cspace f g = g
        go keys.Vspace f g = g
        go keys.Buffer f g = g
