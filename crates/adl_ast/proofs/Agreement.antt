-- Two rules that spell the same token lists begin the same ones, where each part of them has a spelling.
use Rattle.adl_ast.proofs.Common.{IsBegun, IsSpelledAtAnyDepth, IsSpelledBy, List, Meaning, Rule, Seen, Spells, Value, begun_goes_on, deep, limit, nested_line, parts_have_spellings, spelling_front, token_code, true, ◌↔◌, ◌≡◌}
use Rattle.adl_ast.proofs.Spellings.{samples, nested_spellable}

module _ {A : Type 0} (f g : Rule A) (to : (m : Meaning Seen Value) (x : A) (ts : List Seen) → Spells token_code m f x ts
    → Spells token_code m g x ts) where
  begun_to : parts_have_spellings token_code samples true f ≡ true → (ts : List Seen) → IsBegun f ts → IsBegun g ts
  begun_to parts ts b =
      let s = begun_goes_on token_code samples true nested_line (λ e. nested_spellable) f parts ts b in
      spelling_front token_code nested_line g s.0 ts s.1 (s.2.0, to (deep token_code nested_line s.2.0) s.0 (_) s.2.1)

module _ {A : Type 0} (f g : Rule A) (to : (m : Meaning Seen Value) (x : A) (ts : List Seen) → Spells token_code m f x ts
    → Spells token_code m g x ts) (from : (m : Meaning Seen Value) (x : A) (ts : List Seen) → Spells token_code m g x ts
    → Spells token_code m f x ts) where
  pub spelled_agree : (x : A) (ts : List Seen) → IsSpelledBy f x ts ↔ IsSpelledBy g x ts
  spelled_agree x ts = (to (deep token_code nested_line limit) x ts, from (deep token_code nested_line limit) x ts)

  pub depths_agree : (x : A) (ts : List Seen) → IsSpelledAtAnyDepth f x ts ↔ IsSpelledAtAnyDepth g x ts
  depths_agree x ts =
      (λ s. (s.0, to (deep token_code nested_line s.0) x ts s.1), λ s. (s.0, from (deep token_code nested_line s.0) x ts s.1))

  pub begun_agree : parts_have_spellings token_code samples true f ≡ true → parts_have_spellings token_code samples true g ≡ true
      → (ts : List Seen) → IsBegun f ts ↔ IsBegun g ts
  begun_agree p q ts = (begun_to f g to p ts, begun_to g f from q ts)
