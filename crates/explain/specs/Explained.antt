-- Which of its reasons is told for a triple. A direct reason comes before a derived one, and one by a notification before one
-- by a lock. Among equals it is the least by the connection and end of the first end, and then of the second, or by the leaf
-- and member of the lock. Of a call the `from` end is the first and the `to` end the second; of a bound interrupt its `to` end
-- is the first, and the `from` end of the notification the second.
use Rattle.std.specs.Prelude.{◌≡◌, ◌≤◌, ℕ, List, Option, Some, None, Result, Ok, Err, position}
use Rattle.std.specs.Str.{bytes_eq}
use Rattle.adl_meaning.specs.declared.flat.Flat.{Flat}
use Rattle.arch_policy.specs.Ends.{EndAt}
use Rattle.arch_policy.specs.Labels.{label_texts}
use Rattle.arch_policy.specs.Reasons.{IsReasoned, Reason, by_bind, by_call, by_direct, by_lock}
use Rattle.arch_policy.specs.Tables.{Tables}
use Rattle.authorities.specs.declared.authority.Authority.{Authority}
use Rattle.cap_model.specs.declared.edge.Edge.{Edge}
use Rattle.explain.specs.declared.reason.ExplainError.{ExplainError}
use Rattle.explain.specs.declared.reason.ExplainError.TheVariants as error
use Rattle.explain.specs.declared.reason.Reason.{Reason as Told}
use Rattle.explain.specs.declared.reason.Rule.{Rule}
use Rattle.explain.specs.declared.reason.Rule.TheVariants.{Direct, ByCall, ByBind}

-- ---- as a reason is told

abbrev pub numbers : {flat : Flat} → EndAt flat → ℕ × ℕ
numbers x = (x.place, x.number)

abbrev pub tell : Rule → ℕ × ℕ → Option (ℕ × ℕ) → Option (ℕ × ℕ) → Told
tell rule first second lock = record { rule = rule; first = first; second = second; lock = lock }

abbrev pub told_of : (t : Tables) (e : Edge) → Reason t e → Told
told_of t e (by_direct d) = tell Direct (numbers d.at) None None
told_of t e (by_call c) = tell ByCall (numbers c.caller) (Some (numbers c.server)) None
told_of t e (by_bind b) = tell ByBind (numbers b.handles.handler) (Some (numbers b.signaller)) None
told_of t e (by_lock k) = tell ByBind (numbers k.handles.handler) None (Some (k.lock.leaf, k.lock.member))

-- ---- the order

abbrev pub stage_of : Rule → Option (ℕ × ℕ) → ℕ
stage_of Direct lock = 0
stage_of ByCall lock = 1
stage_of ByBind None = 1
stage_of ByBind (Some l) = 2

abbrev pub stage : Told → ℕ
stage r = stage_of r.rule r.lock

-- the second end, or the lock
abbrev pub other_of : Option (ℕ × ℕ) → Option (ℕ × ℕ) → ℕ × ℕ
other_of (Some end) lock = end
other_of None (Some lock) = lock
other_of None None = (0, 0)

abbrev pub other : Told → ℕ × ℕ
other r = other_of r.second r.lock

pub record AtMost (p : ℕ × ℕ) (q : ℕ × ℕ) : Type 0 where
  pub by_first : p.0 ≤ q.0
  pub by_second : p.0 ≡ q.0 → p.1 ≤ q.1

-- r comes before q, or is it
pub record ComesFirst (r : Told) (q : Told) : Type 0 where
  pub by_stage : stage r ≤ stage q
  pub by_first : stage r ≡ stage q → AtMost r.first q.first
  pub by_other : stage r ≡ stage q → r.first ≡ q.first → AtMost (other r) (other q)

-- ---- what is explained

-- as the first of these reasons is told, if there is one
abbrev pub IsFirstOf : (K : Type 0) → (K → Told) → Option Told → Type 0
IsFirstOf K tells None = K → ⊥
IsFirstOf K tells (Some r) = (x : K) × (tells x ≡ r) × ((y : K) → ComesFirst r (tells y))

-- the first reason of an edge between different labels
abbrev pub IsFirstReason : Tables → Edge → Option Told → Type 0
IsFirstReason t e r = IsFirstOf (IsReasoned t e) (λ x. told_of t e x.reason) r

-- the edge between the labels that two texts name, by the texts of all labels
pub record IsAsked (labels : List (List ℕ)) (from : List ℕ) (authority : Authority) (to : List ℕ) (e : Edge) : Type 0 where
  pub from_is : position (λ t. bytes_eq t from) labels ≡ Some e.from
  pub authority_is : e.authority ≡ authority
  pub to_is : position (λ t. bytes_eq t to) labels ≡ Some e.to

abbrev pub IsAskedFor : List (List ℕ) → List ℕ → Authority → List ℕ → Option Edge → Type 0
IsAskedFor labels from authority to None = (e : Edge) → IsAsked labels from authority to e → ⊥
IsAskedFor labels from authority to (Some e) = IsAsked labels from authority to e

abbrev pub Explains : Tables → List ℕ → Authority → List ℕ → Result Told ExplainError → Type 0
Explains t from authority to (Ok r) = (e : Edge) × IsAsked (label_texts t.flat) from authority to e × IsFirstReason t e (Some r)
Explains t from authority to (Err error.NotAssigned) =
    (e : Edge) → IsAsked (label_texts t.flat) from authority to e → IsReasoned t e → ⊥
Explains t from authority to (Err error.NoMemory) = Unit {0}
