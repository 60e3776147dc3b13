-- The flat system of a source within its limits has small numbers.
use Rattle.flat_laws.proofs.Common.{AreNamesSound, FlatConnection, HaveFewMembers, None, Source, ap, arith, connections, first_flat_fault, flat_connection, flat_of, hierarchy_of, leaf_of, leaves, length, length-map, slice_get_within, subst, ◌≡◌, ◌≤◌}
use Rattle.adl_meaning.proofs.SoundNames.{one_assembly}
use Rattle.cspace_layout.specs.Within.{IsWithin}
use Rattle.flat_laws.proofs.FlatEnds.{strung_of, end_of}
use Rattle.flat_laws.proofs.FlatLeaves.{few_members, leaf_owned}
use Rattle.flat_laws.proofs.FewEnds.{flat_in_limits, few_ends}

pub flat_is_within : (s : Source) → AreNamesSound s → first_flat_fault s ≡ None → HaveFewMembers s → IsWithin s (flat_of s)
flat_is_within s sound none few =
    let h = hierarchy_of s in
    let limits = flat_in_limits s sound none in
    record {
      assembly = ap length (one_assembly s sound).1;
      leaves = let a = limits.leaves_are in omega (arith, length-map (leaves h) (leaf_of h));
      connections = let a = limits.connections_are in omega (arith, length-map (connections h) (flat_connection h));
      ends = λ k c e.
          let x = strung_of s k c e in
          let a = subst (λ (z : FlatConnection). length z.ends ≤ 16384) x.2 (few_ends s limits x.0 x.1) in
          omega arith;
      joined = λ k n c e f g.
          let x = strung_of s k c f in
          let d = end_of s sound n c e x.0 x.1 x.2 g in
          slice_get_within (flat_of s).leaves e.leaf (leaf_of h d.placed) d.leaf;
      members = λ leaf. let a = few_members s sound few leaf in omega arith;
      listed = λ d l domain e i.
          let x = leaf_owned h d l domain e i in
          slice_get_within (flat_of s).leaves l x.0 x.1;
    }
