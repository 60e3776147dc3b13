-- A connection of the flat system that is as its connector wants it.
use Rattle.adl_meaning.specs.Prelude.{End, Hierarchy, IsIn, Strung, option_map_or}
use Rattle.std.specs.Prelude.{true, ◌≡◌}
use Rattle.adl_program.specs.LeafInterfaces.{leaf_of}
use Rattle.adl_types.specs.TypeFaults.{agree, first_leaf, has_one_type, is_kind_of, may_have}
use Rattle.conn_rules.specs.Ends.{end_rule}

pub record IsWellTyped (h : Hierarchy) (x : Strung) : Type 0 where
  -- the leaf interface of each end is of the kind that the connector table has
  pub kinds : (e : End) → IsIn e x.wire.1.ends
      → option_map_or (is_kind_of (end_rule x.wire.0 e.role)) (leaf_of h x.inside e.words) true ≡ true
  -- where all ends have one type, each has that of the first
  pub types : (e : End) → IsIn e x.wire.1.ends → has_one_type x.wire.0 ≡ true
      → agree (first_leaf h x.inside x.wire.1.ends) (leaf_of h x.inside e.words) ≡ true
  -- there are as many ends as there may be
  pub counts : may_have x.wire.0 x.wire.1.ends ≡ true
