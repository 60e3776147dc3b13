-- What the reader of a part gives is what parsing it from a position on answers.
use Rattle.adl_parse.proofs.Common.{Err, Fails, Fault, IsRefusalOf, IsSpelledBy, List, Ok, ReadError, Refused, Rule, Token, Why, [], ap, drop, ends_within, fault_of, length, limit, nested_is, nested_line, opens, part_at, part_stops, part_stops_once}
use Rattle.adl_parse.proofs.Common.{reads, see, seen_at, subst, sym, token_code, true, ℕ, ◌++◌, ◌-◌, ◌∙◌, ◌≡◌, ◌≤◌}
use Rattle.std.proofs.lemmas.List.{drop-map, length-map}
use Rattle.cam_base.specs.declared.error.Refused.TheVariants as refusals
use Rattle.cam_base.specs.declared.grammar_error.ReadError.TheVariants as errors
use Rattle.cam_base.specs.Deciding.{decides, further}
use Rattle.adl_ast.specs.declared.seen.Seen.{Seen}
use Rattle.adl_parse.specs.Parts.{IsPartAt, FaultIsOne}

seen_length : (bytes : List ℕ) (ts : List Token) → length (see bytes ts) ≡ length ts
seen_length bytes ts = length-map ts (seen_at bytes)

pub see_drop : (bytes : List ℕ) (n : ℕ) (ts : List Token) → drop n (see bytes ts) ≡ see bytes (drop n ts)
see_drop bytes n ts = drop-map (seen_at bytes) n ts

module _ {A : Type 0} (f : Rule A) (d : decides opens f ≡ true) (bytes : List ℕ) (tokens : List Token) (at : ℕ) where
  pub part_within : (x : A) (rest : List Seen) → reads f (drop at (see bytes tokens)) ≡ Ok (x, rest) → length rest ≤ length tokens
  part_within x rest e = subst (λ (n : ℕ). length rest ≤ n) (seen_length bytes tokens)
      (ends_within token_code nested_line opens nested_is f d limit (see bytes tokens) at x rest e)

  -- what is read is a part that ends where the rest begins
  pub part_ok : (x : A) (rest : List Seen) → reads f (drop at (see bytes tokens)) ≡ Ok (x, rest)
      → IsPartAt f bytes tokens at (Ok (x, length tokens - length rest))
  part_ok x rest e = subst (λ (n : ℕ). (a : List Seen) × (drop at (see bytes tokens) ≡ a ++ drop (n - length rest)
      (see bytes tokens)) × IsSpelledBy f x a) (seen_length bytes tokens)
      (part_at token_code nested_line opens nested_is f d limit (see bytes tokens) at x rest e)

  -- where reading gave up, the refusal says so
  pub part_refused : further opens f ≡ [] → (e : ReadError) (r : Refused Fault) → Fails e (reads f (drop at (see bytes tokens)))
      → IsRefusalOf bytes tokens e r → IsPartAt f bytes tokens at (Err r)
  part_refused closed e refusals.NoMemory h q = tt
  part_refused closed errors.NoMemory (refusals.Fault g) h q = absurd q
  part_refused closed (errors.Stop stop) (refusals.Fault g) h q = (
    stop.why,
    stop.left,
    q,
    part_stops token_code nested_line opens nested_is f d limit (drop at (see bytes tokens)) closed
        stop.why stop.left h,
  )

-- two faults of one part are one
pub one_fault : {A : Type 0} (f : Rule A) → FaultIsOne f
one_fault f bytes tokens at x y p q =
    let same = part_stops_once token_code nested_line f limit (drop at (see bytes tokens)) p.0 q.0 p.1 q.1 p.3 q.3 in
    p.2 ∙ ap (λ (w : Why). fault_of bytes tokens w p.1) same.0 ∙ ap (λ (n : ℕ). fault_of bytes tokens q.0 n) same.1 ∙ sym q.2
