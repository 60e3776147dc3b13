-- A channel in memory: whether it is begun, its name, what it holds, and for how many bytes there is room left.
use Rattle.std.specs.Prelude.{refl, ℕ, ◌-◌, Bool, true, false, cond, List, [], ◌++◌, take, Option, None, Some}
use Rattle.std.specs.Coded.{Coded, code_by, coded×, coded_bool, coded_list, coded_ℕ}

pub record Channel : Type 0 where
  pub begun : Bool
  pub name : List ℕ
  pub bytes : List ℕ
  pub room : ℕ

abbrev pub channel_code : Coded Channel
channel_code =
    code_by (Bool × (List ℕ × (List ℕ × ℕ)))
    (coded× coded_bool (coded× (coded_list coded_ℕ) (coded× (coded_list coded_ℕ) coded_ℕ)))
    (λ c. (c.begun, (c.name, (c.bytes, c.room)))) (λ p. record {
      begun = p.0;
      name = p.1.0;
      bytes = p.1.1.0;
      room = p.1.1.1;
    }) (λ _. refl)

-- the most bytes that a name may have
abbrev pub name_room : ℕ
name_room = 4096

-- not begun, and empty
abbrev pub blank : ℕ → Channel
blank room = record { begun = false; name = []; bytes = []; room = room }

-- begun under a name
abbrev pub named_channel : Channel → List ℕ → Channel
named_channel c name = record { begun = true; name = name; bytes = c.bytes; room = c.room }

-- with the first n bytes of a piece at its end
abbrev pub filled : Channel → ℕ → List ℕ → Channel
filled c n piece = record { begun = c.begun; name = c.name; bytes = c.bytes ++ take n piece; room = c.room - n }

-- the name that it is begun under
abbrev pub begun_name : Channel → Option (List ℕ)
begun_name c = cond c.begun (Some c.name) None
