-- What a line of a policy or of a certificate says, by the fields that single spaces part. Numbers are decimal without leading
-- zeros and stand as they are written, since a line may use one that no label has, and a fault tells it with all its digits:
-- equal numbers have equal digits.
use Rattle.std.specs.Prelude.{ℕ, ◌&&◌, if◌then◌else◌, List, [], ◌∷◌, Option, Some, None, codes}
use Rattle.policy_text.specs.Below.{authority_of, bytes_eq, is_label_name, is_word, option_map}
use Rattle.authorities.specs.declared.authority.Authority.{Authority}
use Rattle.cam_base.specs.Numbers.{is_decimal, number_value}
use Rattle.policy_text.specs.declared.kind.Kind.{Kind}
use Rattle.policy_text.specs.declared.kind.Kind.TheVariants as kinds

abbrev pub Number : Type 0
Number = List ℕ

-- its value, none past 2^64 - 1
abbrev pub value : Number → Option ℕ
value n = number_value n

pub data Entry : Type 0 where
  label : Number → List ℕ → Entry  -- label NUMBER NAME
  object : List ℕ → Number → Entry  -- object WORD NUMBER
  edge : Number → Authority → Number → Entry  -- edge NUMBER AUTHORITY NUMBER

abbrev pub label_entry : Number → List ℕ → Option Entry
label_entry n name = if is_decimal n && is_label_name name then Some (label n name) else None

abbrev pub object_entry : List ℕ → Number → Option Entry
object_entry word n = if is_word word && is_decimal n then Some (object word n) else None

abbrev pub edge_entry : Number → List ℕ → Number → Option Entry
edge_entry l a m = if is_decimal l && is_decimal m then option_map (λ a. edge l a m) (authority_of a) else None

-- a line of three fields, which a certificate doesn't have
abbrev pub short_entry : Kind → List ℕ → List ℕ → List ℕ → Option Entry
short_entry kinds.Policy word a b =
    if bytes_eq word (codes "label") then label_entry a b
    else if bytes_eq word (codes "object") then object_entry a b
    else None
short_entry kinds.Certificate word a b = None

-- a line of four fields
abbrev pub long_entry : List ℕ → List ℕ → List ℕ → List ℕ → Option Entry
long_entry word l a m = if bytes_eq word (codes "edge") then edge_entry l a m else None

-- what fields say
abbrev pub entry_of : Kind → List (List ℕ) → Option Entry
entry_of kind (word ∷ a ∷ b ∷ []) = short_entry kind word a b
entry_of kind (word ∷ l ∷ a ∷ m ∷ []) = long_entry word l a m
entry_of kind _ = None
