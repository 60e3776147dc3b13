-- The settings of an end by its numbers, with what they are found at: where no fault of types or settings stands, its values
-- are allowed, none is missing, and interface and leaf are as the connector table has them.
use Rattle.spec_laws.proofs.Common.{AreSettingsSound, AreTyped, EndSetting, FlatConnection, FlatEnd, Found, IsIn, Joint, None, Option, Some, Source, [], ap, bad_at_end, bad_in_connection, end_rule, end_setting, end_settings, faults_on}
use Rattle.spec_laws.proofs.Common.{flat_of, found_at, found_on, founds_in, from_get_map, get_map, hierarchy_of, in_get, is_kind_of, members_at, missing_at, missing_in, none_in, none_left, none_right, option_and_then, refl, setting_of, settled_of}
use Rattle.spec_laws.proofs.Common.{rules, slice_get, true, ℕ, ◌++◌, ◌∙◌, ◌≡◌}
use Rattle.adl_settings.specs.BadgeTwice.{badges_twice_in}
use Rattle.adl_ast.specs.declared.component.Member.TheVariants as members
use Rattle.flat_laws.proofs.SettledEnds.{found_there}

-- each settled setting is that of some end
pub setting_from : (s : Source) (k n : ℕ) (e : EndSetting) → setting_of (settled_of s) k n ≡ Some e
    → (f : Found) × (end_setting f ≡ e)
setting_from s k n e at = search (rules, from_get_map)

-- end n of connection k, with its settings
pub record IsEndFound (s : Source) (k n : ℕ) (c : FlatConnection) (e : FlatEnd) : Type 0 where
  pub found : Found
  pub connection : found.joint.connection ≡ c
  pub end : found.joint.end ≡ e
  pub leaf : slice_get (flat_of s).leaves e.leaf ≡ Some found.joint.leaf
  pub interface : slice_get (members_at s found.joint.leaf.component) e.member ≡ Some (members.Interface found.joint.interface)
  pub values : found ≡ found_at (hierarchy_of s) found.joint
  pub setting : setting_of (settled_of s) k n ≡ Some (end_setting found)
  pub among : IsIn found (found_on (hierarchy_of s) s (flat_of s) c)
  pub good : bad_at_end found ≡ []
  pub present : missing_at found ≡ []
  pub kind : is_kind_of (end_rule c.connector e.role) (record {
    interface = found.joint.interface;
    hardware = found.joint.leaf.hardware;
  }) ≡ true

pub end_found : (s : Source) → AreTyped s (flat_of s) → AreSettingsSound s → (k n : ℕ) (c : FlatConnection) (e : FlatEnd)
    → slice_get (flat_of s).connections k ≡ Some c → slice_get c.ends n ≡ Some e → IsEndFound s k n c e
end_found s typed sound k n c e at is =
    let h = hierarchy_of s in let there = found_there s typed k n c e at is in
    let f = there.2 in
    let joint : Joint = record {
      connection = c;
      position = there.0;
      end = e;
      leaf = f.joined.leaf;
      interface = f.joined.interface;
    } in
    let es = found_on h s (flat_of s) c in let fs = founds_in h s (flat_of s) in
    let listed : slice_get es n ≡ Some (found_at h joint) = there.3 ∙ ap (λ z. Some z) f.at in
    let one : IsIn (found_at h joint) es = in_get es n (found_at h joint) listed in
    let all : slice_get fs k ≡ Some es = get_map (found_on h s (flat_of s)) (flat_of s).connections k c at in
    let bad = bad_in_connection es in let missing = missing_in es in
    let none = none_left (bad ++ missing) (badges_twice_in es) (none_in faults_on fs es sound.connections (in_get fs k es all)) in
    record {
      found = found_at h joint;
      connection = refl;
      end = refl;
      leaf = f.joined.here;
      interface = f.joined.joined;
      values = refl;
      setting = ap (λ o. option_and_then (λ z. slice_get z.ends n) o) (get_map end_settings fs k es all)
          ∙ get_map end_setting es n (found_at h joint) listed;
      among = one;
      good = none_in bad_at_end es (found_at h joint) (none_left bad missing none) one;
      present = none_in missing_at es (found_at h joint) (none_right bad missing none) one;
      kind = f.joined.kind;
    }
