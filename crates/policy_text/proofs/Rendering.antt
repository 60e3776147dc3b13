-- The rows of labels, objects and edges: their fields, and what they say.
use Rattle.policy_text.proofs.Common.{All, All-append, All-cons, All-nil, All-weaker, AsyncSend, Authority, Bool, Edge, Kind, List, Some, [], and_parts, ap}
use Rattle.policy_text.proofs.Common.{append_assoc, arith, codes, decimal, digits-decimal, edge, edge_line, entry_of, false, fields, is_decimal-decimal, is_digit, is_label_byte, is_label_name, is_letter, is_name, is_word, is_word_byte, label}
use Rattle.policy_text.proofs.Common.{label_line, leb, length, list_all, nat_lt, nat_tests, object, object_line, refl, rules, slice_split_at, slice_split_none, text_of, true, ℕ, ◌&&◌, ◌++◌, ◌<◌, ◌==◌, ◌^◌, ◌∙◌, ◌∷◌, ◌≡◌}
use Rattle.cam_base.specs.Texts.{together}
use Rattle.policy_text.specs.declared.kind.Kind.TheVariants as kinds
use Rattle.policy_text.proofs.Rows.{IsRow, Item}
use Rattle.authorities.proofs.Words.{its_word}

-- ---- fields

-- each byte is past a space
abbrev pub IsField : List ℕ → Type 0
IsField bs = All (λ b. 32 < b) bs

field_of : (p : ℕ → Bool) → ((b : ℕ) → p b ≡ true → 32 < b) → (bs : List ℕ) → list_all p bs ≡ true → IsField bs
field_of p over [] h = All-nil (λ b. 32 < b)
field_of p over (b ∷ bs) h = let parts = and_parts (p b) (list_all p bs) h in
    All-cons (λ b. 32 < b) b bs (over b parts.0) (field_of p over bs parts.1)

past_digit : (b : ℕ) → is_digit b ≡ true → 32 < b
past_digit b h = grind (arith, nat_tests)

past_word : (b : ℕ) → is_word_byte b ≡ true → 32 < b
past_word b h = grind (arith, nat_tests)

past_label : (b : ℕ) → is_label_byte b ≡ true → 32 < b
past_label b h = grind (arith, nat_tests)

past_letter : (b : ℕ) → is_letter b ≡ true → 32 < b
past_letter b h = grind (arith, nat_tests)

past_any : (b : ℕ) → nat_lt 32 b ≡ true → 32 < b
past_any b h = grind (arith, nat_tests)

pub number_field : (n : ℕ) → n < 2 ^ 64 → IsField (decimal n)
number_field n h = field_of is_digit past_digit (decimal n) (digits-decimal n h)

pub label_field : (name : List ℕ) → is_label_name name ≡ true → IsField name
label_field name h = search (rules, and_parts, leb, field_of, past_label)

pub name_word : (name : List ℕ) → is_name name ≡ true → is_word name ≡ true
name_word [] h = h
name_word (b ∷ bs) h = (and_parts (leb (length bs) 126) (is_letter b && list_all is_word_byte bs) h).1

pub word_field : (word : List ℕ) → is_word word ≡ true → IsField word
word_field [] h = All-nil (λ b. 32 < b)
word_field (b ∷ bs) h = search (rules, and_parts, past_letter, field_of, past_word)

literal_field : (bs : List ℕ) → list_all (λ b. nat_lt 32 b) bs ≡ true → IsField bs
literal_field bs h = field_of (λ b. nat_lt 32 b) past_any bs h

text_past : (a : Authority) → list_all (λ b. nat_lt 32 b) (text_of a) ≡ true
text_past AsyncSend = refl
text_past _ = refl

no_space : (b : ℕ) → 32 < b → (b == 32) ≡ false
no_space b h = grind (arith, nat_tests)

no_feed : (b : ℕ) → 32 < b → (b == 10) ≡ false
no_feed b h = grind (arith, nat_tests)

unspaced : (bs : List ℕ) → IsField bs → All (λ b. (b == 32) ≡ false) bs
unspaced bs h = All-weaker (λ b. 32 < b) (λ b. (b == 32) ≡ false) no_space bs h

unfed : (bs : List ℕ) → IsField bs → All (λ b. (b == 10) ≡ false) bs
unfed bs h = All-weaker (λ b. 32 < b) (λ b. (b == 10) ≡ false) no_feed bs h

-- a field in front of others
behind_space : (a bs : List ℕ) → IsField a → All (λ b. (b == 10) ≡ false) bs → All (λ b. (b == 10) ≡ false) (a ++ 32 ∷ bs)
behind_space a bs f g = All-append (λ b. (b == 10) ≡ false) a (32 ∷ bs) (unfed a f)
    (All-cons (λ b. (b == 10) ≡ false) 32 bs refl g)

pub two_unfed : (a b : List ℕ) → list_all (λ c. nat_lt 32 c) a ≡ true → list_all (λ c. nat_lt 32 c) b ≡ true
    → All (λ c. (c == 10) ≡ false) (a ++ 32 ∷ b)
two_unfed a b f g = behind_space a b (literal_field a f) (unfed b (literal_field b g))

fields_more : (a bs : List ℕ) → IsField a → fields (a ++ 32 ∷ bs) ≡ a ∷ fields bs
fields_more a bs f = slice_split_at (λ b. b == 32) a 32 bs (unspaced a f) refl

fields_last : (a : List ℕ) → IsField a → fields a ≡ a ∷ []
fields_last a f = slice_split_none (λ b. b == 32) a (unspaced a f)

abbrev three : List ℕ → List ℕ → List ℕ → List ℕ
three a b c = a ++ 32 ∷ (b ++ 32 ∷ c)

fields-three : (a b c : List ℕ) → IsField a → IsField b → IsField c → fields (three a b c) ≡ a ∷ b ∷ c ∷ []
fields-three a b c f g h = search (rules, fields_more, fields_last)

fields-four : (a b c d : List ℕ) → IsField a → IsField b → IsField c → IsField d → fields (a ++ 32 ∷ three b c d) ≡ a
    ∷ b ∷ c ∷ d ∷ []
fields-four a b c d f g h k = fields_more a (three b c d) f ∙ ap (λ (fs : List (List ℕ)). a ∷ fs) (fields-three b c d g h k)

unfed-three : (a b c : List ℕ) → IsField a → IsField b → IsField c → All (λ b. (b == 10) ≡ false) (three a b c)
unfed-three a b c f g h = behind_space a (b ++ 32 ∷ c) f (behind_space b c g (unfed c h))

-- ---- rows

abbrev pub label_item : ℕ × List ℕ → Item
label_item l = (codes "label" ++ 32 ∷ (decimal l.0 ++ 32 ∷ l.1), label (decimal l.0) l.1)

abbrev pub object_item : List ℕ × ℕ → Item
object_item o = (codes "object" ++ 32 ∷ (o.0 ++ 32 ∷ decimal o.1), object o.0 (decimal o.1))

abbrev pub edge_item : Edge → Item
edge_item e = (
  codes "edge" ++ 32 ∷ (decimal e.from ++ 32 ∷ (text_of e.authority ++ 32 ∷ decimal e.to)),
  edge (decimal e.from)
      e.authority (decimal e.to),
)

pub label_line-ended : (l : ℕ × List ℕ) → label_line l ≡ (label_item l).0 ++ 10 ∷ []
unfolding together
label_line-ended l = simp append_assoc

pub object_line-ended : (o : List ℕ × ℕ) → object_line o ≡ (object_item o).0 ++ 10 ∷ []
unfolding together
object_line-ended o = simp append_assoc

pub edge_line-ended : (e : Edge) → edge_line e ≡ (edge_item e).0 ++ 10 ∷ []
unfolding together
edge_line-ended e = simp append_assoc

pub label_row : (l : ℕ × List ℕ) → l.0 < 2 ^ 64 → is_label_name l.1 ≡ true → IsRow (label_item l).0
label_row l small name = search (rules, unfed-three, literal_field, number_field, label_field)

pub object_row : (o : List ℕ × ℕ) → o.1 < 2 ^ 64 → is_name o.0 ≡ true → IsRow (object_item o).0
object_row o small name = search (rules, unfed-three, literal_field, word_field, name_word, number_field)

pub edge_row : (e : Edge) → e.from < 2 ^ 64 → e.to < 2 ^ 64 → IsRow (edge_item e).0
edge_row e small small' = search (rules, behind_space, literal_field, unfed-three, number_field, text_past)

pub label_says : (l : ℕ × List ℕ) → l.0 < 2 ^ 64 → is_label_name l.1 ≡ true
    → entry_of kinds.Policy (fields (label_item l).0) ≡ Some (label_item l).1
label_says l small name =
    ap (entry_of kinds.Policy) (fields-three (codes "label") (decimal l.0) l.1 (literal_field (codes "label") refl)
    (number_field l.0 small) (label_field l.1 name))
    ∙ rw (is_decimal-decimal l.0 small, name) refl

pub object_says : (o : List ℕ × ℕ) → o.1 < 2 ^ 64 → is_name o.0 ≡ true → entry_of kinds.Policy (fields (object_item o).0) ≡ Some
    (object_item o).1
object_says o small name = search (rules, name_word, fields-three, literal_field, word_field, number_field, is_decimal-decimal)

pub edge_says : (kind : Kind) (e : Edge) → e.from < 2 ^ 64 → e.to < 2 ^ 64
    → entry_of kind (fields (edge_item e).0) ≡ Some (edge_item e).1
edge_says kind e small small' = search (rules, fields-four, literal_field, number_field, text_past, is_decimal-decimal, its_word)
