-- Names that are met, one after another.
use Rattle.std.proofs.Common.{rules}
use Rattle.adl_import.proofs.Common.{Bool, Err, Fault, Limit, List, Meeting, Ok, Option, Place, Result, Some, [], ap, bytes_eq, codes, cond, false, fault_at, files_limit}
use Rattle.adl_import.proofs.Common.{is_known, is_some, le-ltb, length, lookup, lt-ltb, meet, refl, sym, true, true≢false, ℕ, ◌++◌, ◌<◌, ◌||◌, ◌∙◌, ◌∷◌, ◌≡◌, ◌≤◌}
use Rattle.indexmap.specs.IndexMap.{insert_entry}

lookup_step : (b : Bool) (place : Place) (found : Option Place) (k : Bool) → is_some found ≡ k
    → is_some (cond b (Some place) found) ≡ (b || k)
lookup_step true place found k e = refl
lookup_step false place found k e = e

-- a table finds the names that are known
pub lookup-known : (known : List Meeting) (name : List ℕ) → is_some (lookup (bytes_eq name) known) ≡ is_known known name
lookup-known [] name = refl
lookup-known (m ∷ ms) name = lookup_step (bytes_eq name m.0) m.1 (lookup (bytes_eq name) ms) (is_known ms name)
    (lookup-known ms name)

insert_step : (b k : Bool) → (b || k) ≡ false → (m n : Meeting) (ms after want : List Meeting) → (k ≡ false → after ≡ want)
    → cond b (n ∷ ms) (m ∷ after) ≡ m ∷ want
insert_step true k e m n ms after want f = absurd (true≢false e)
insert_step false k e m n ms after want f = ap (λ (l : List Meeting). m ∷ l) (f e)

-- and keeps a new one at its end
pub insert_entry-unknown : (known : List Meeting) (name : List ℕ) (place : Place) → is_known known name ≡ false
    → insert_entry bytes_eq known name place ≡ known ++ (name, place) ∷ []
insert_entry-unknown [] name place e = refl
insert_entry-unknown (m ∷ ms) name place e = insert_step (bytes_eq name m.0) (is_known ms name) e m (m.0, place) ms
    (insert_entry bytes_eq ms name place) (ms ++ (name, place) ∷ []) (λ f. insert_entry-unknown ms name place f)

pub meet-known : (known : List Meeting) (place : Place) (name : List ℕ) → is_some (lookup (bytes_eq name) known) ≡ true
    → meet known place name ≡ Ok known
meet-known known place name e = rw (sym (lookup-known known name) ∙ e) refl

pub meet-full : (known : List Meeting) (place : Place) (name : List ℕ) (f : Fault)
    → is_some (lookup (bytes_eq name) known) ≡ false → files_limit ≤ length known
    → f ≡ fault_at Limit place (codes "files") → meet known place name ≡ Err f
meet-full known place name f e le is = rw (sym (lookup-known known name) ∙ e, le-ltb (length known) files_limit le)
    (ap Err (sym is))

pub meet-new : (known after : List Meeting) (place : Place) (name : List ℕ) → is_some (lookup (bytes_eq name) known) ≡ false
    → length known < files_limit
    → after ≡ insert_entry bytes_eq known name place → meet known place name ≡ Ok after
meet-new known after place name e lt is = search (rules, lookup-known, lt-ltb, insert_entry-unknown)
