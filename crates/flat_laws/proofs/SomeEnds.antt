-- Each connection has an end of each role, since the connector table asks for one.
use Rattle.flat_laws.proofs.Common.{AreDotted, AreNamesSound, Connector, End, FlatConnection, FlatEnd, From, List, None, Role, Some, Source, To, all_joined, allows, and_parts, ap, at_most, count_of, end_numbers_kept, end_rule, first_type_fault}
use Rattle.flat_laws.proofs.Common.{flat_end, flat_of, hierarchy_of, in_get, leb-true, may_have, refl, slice_get, sym, true, well_typed, ℕ, ◌∙◌, ◌≡◌, ◌≤◌}
use Rattle.std.specs.Prelude.{nat_le}
use Rattle.adl_meaning.specs.declared.connector.Connector.TheVariants.{Direct, Interrupt, Mmio, Notification, Rpc, SharedMemory}
use Rattle.conn_rules.specs.Row.{same_role}
use Rattle.flat_laws.proofs.Counts.{first_counted}
use Rattle.flat_laws.proofs.FlatEnds.{strung_of}
use Rattle.conn_rules.proofs.Roles.{is_role}

least_one : (c : Connector) (r : Role) → (end_rule c r).least ≡ 1
least_one Rpc From = refl
least_one Rpc To = refl
least_one Notification From = refl
least_one Notification To = refl
least_one SharedMemory From = refl
least_one SharedMemory To = refl
least_one Mmio From = refl
least_one Mmio To = refl
least_one Interrupt From = refl
least_one Interrupt To = refl
least_one Direct From = refl
least_one Direct To = refl

-- the ends of a role are as many as the table allows
pub allowed : (c : Connector) (r : Role) (es : List End) → may_have c es ≡ true → allows (end_rule c r) (count_of r es) ≡ true
allowed c From es h = (and_parts (allows (end_rule c From) (count_of From es)) (allows (end_rule c To) (count_of To es)) h).0
allowed c To es h = (and_parts (allows (end_rule c From) (count_of From es)) (allows (end_rule c To) (count_of To es)) h).1

some_allowed : (c : Connector) (r : Role) (n : ℕ) → allows (end_rule c r) n ≡ true → 1 ≤ n
some_allowed c r n a =
    let least = (and_parts (nat_le (end_rule c r).least n) (at_most n (end_rule c r).most) a).0 in
    leb-true 1 n (ap (λ m. nat_le m n) (sym (least_one c r)) ∙ least)

pub some_end : (s : Source) → AreNamesSound s → AreDotted (hierarchy_of s) → first_type_fault s ≡ None
    → (k : ℕ) (c : FlatConnection) → slice_get (flat_of s).connections k ≡ Some c
    → (r : Role) → (n : ℕ) × (e : FlatEnd) × (slice_get c.ends n ≡ Some e) × (e.role ≡ r)
some_end s sound dotted types k c at r =
    let y = strung_of s k c at in
    let es = y.0.wire.1.ends in
    let d = first_counted (λ (e : End). same_role e.role r) es (some_allowed y.0.wire.0 r (count_of r es)
    (allowed y.0.wire.0 r es ((well_typed s sound types y.0 y.1).counts))) in
    let j = all_joined s sound dotted y.0 d.1 y.1 (in_get es d.0 d.1 d.2) in (
      d.0,
      flat_end (hierarchy_of s) y.0.path d.1 j.0,
      ap (λ (z : FlatConnection). slice_get z.ends d.0) (sym y.2) ∙ end_numbers_kept s sound dotted y.0 d.0 d.1 j.0 y.1 d.2 j.1,
      is_role d.1.role r d.3,
    )
