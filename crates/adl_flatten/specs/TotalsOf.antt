-- The totals of a body, which are plain sums over the paths in it, each at most the greatest number of 64 bits, and what they
-- are made of.
use Rattle.adl_program.specs.LedEnds.{LedWire}
use Rattle.adl_meaning.specs.Prelude.{Assembly, End, Fault, Hierarchy, Part, Placed, Strung, Wire, body, flat_map, is_composite, leaves_in, limit_passed, longest, wires_of}
use Rattle.std.specs.Prelude.{Bool, List, codes, fold, if◌then◌else◌, length, map, max, min, nat_lt, slice_index_or, ℕ, ◌++◌, ◌+◌, ◌-◌, ◌==◌, ◌^◌, ◌||◌}
use Rattle.adl_meaning.specs.declared.item_at.ItemAt.{ItemAt}
use Rattle.adl_meaning.specs.Joins.{connections_in}
use Rattle.adl_flatten.specs.declared.limits.Totals.{Totals}

abbrev pub saturated : ℕ → ℕ
saturated n = min n (2 ^ 64 - 1)

abbrev pub ends_of : List Strung → List End
ends_of ks = flat_map (λ x. x.wire.1.ends) ks

-- the totals of leaves and connections
abbrev pub totals_of : List Placed → List Strung → Totals
totals_of ps ks = record {
  leaves = saturated (length ps);
  depth = saturated (longest (map (λ x. x.path) ps));
  connections = saturated (length ks);
  ends = saturated (length (ends_of ks));
}

abbrev pub totals_in : Hierarchy → ℕ → Totals
totals_in h k = totals_of (leaves_in h k) (connections_in h k)

-- those of two lists, from those of each
abbrev pub both : Totals → Totals → Totals
both t u = record {
  leaves = saturated (t.leaves + u.leaves);
  depth = max t.depth u.depth;
  connections = saturated (t.connections + u.connections);
  ends = saturated (t.ends + u.ends);
}

-- those of what is one name further in
abbrev pub outer : Totals → Totals
outer t = if t.leaves == 0 then t else record t { depth = saturated (t.depth + 1) }

-- those of connections of a body itself
abbrev pub own_total : List Wire → Totals
own_total ws = record {
  leaves = 0;
  depth = 0;
  connections = saturated (length ws);
  ends = saturated (length (flat_map (λ w. w.1.ends) ws));
}

-- the same of connections whose ends tell where they lead
abbrev pub led_total : List LedWire → Totals
led_total ws = record {
  leaves = 0;
  depth = 0;
  connections = saturated (length ws);
  ends = saturated (length (flat_map (λ w. w.wire.1.ends) ws));
}

-- those of an instance, from those of all bodies
abbrev pub part_total : Hierarchy → List Totals → Part → Totals
part_total h all x =
    let t = slice_index_or all x.kind (record { leaves = 0; depth = 0; connections = 0; ends = 0 }) in
    if is_composite h x.kind then outer t else record t { leaves = 1; depth = 1 }

abbrev pub add_part : Hierarchy → List Totals → Totals → Part → Totals
add_part h all t x = both t (part_total h all x)

abbrev pub body_total : Hierarchy → List Totals → ℕ → Totals
body_total h all k = fold (add_part h all) (own_total (wires_of (body h k))) (body h k).parts

-- the limits that the totals of the assembly pass
abbrev pub limits_in : ItemAt × Assembly → Totals → List Fault
limits_in a t =
    limit_passed a (codes "depth") 16 t.depth
    ++ limit_passed a (codes "leaves") 1024 t.leaves
    ++ limit_passed a (codes "connections") 4096 t.connections
    ++ limit_passed a (codes "ends") 16384 t.ends

-- whether totals pass a limit
abbrev pub pass : Totals → Bool
pass t = ((nat_lt 16 t.depth || nat_lt 1024 t.leaves) || nat_lt 4096 t.connections) || nat_lt 16384 t.ends
