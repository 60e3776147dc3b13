-- How reports in the making grow, step by step.
use Rattle.std.proofs.Common.{rules}
use Rattle.cap_audit.proofs.Common.{Adds, Authority, Below, Edge, Gains, Is, IsMade, IsSoFar, List, Made, Notes, OfLink, OfSome, Shows, Some, Step, [], ap, arith, at_has, boot, cases_lt, contains_at, edge, edges_same, has, has_at, inl, inr}
use Rattle.cap_audit.proofs.Common.{label_of, length, refl, same_Some, slice_get, slice_get_within, sym, true, ℕ, ◌+◌, ◌<◌, ◌↔◌, ◌∙◌, ◌≡◌, ◌≢◌, ◌≤◌, ◌⊎◌}
use Rattle.cap_audit.proofs.Growing.{made_more}

pub gains_none : (P : Edge → Type 0) (m : Made) → IsSoFar m → ((e : Edge) → P e → e.from ≢ e.to → has m.edges e ≡ true)
    → Gains P m m
gains_none P m so there = record { so_far = so; same = refl; kept = λ e h. h; added = there }

pub gains_by : (P Q : Edge → Type 0) → ((e : Edge) → Q e → P e) → (m new : Made) → Gains P m new → Gains Q m new
gains_by P Q from m new g = search (rules)

pub gains_then : (P Q : Edge → Type 0) (a b c : Made) → Gains P a b → Gains Q b c → Gains (λ e. P e ⊎ Q e) a c
gains_then P Q a b c g h = search (rules)

pub below_none : (P : ℕ → Edge → Type 0) (m : Made) → IsSoFar m → Gains (Below P 0) m m
below_none P m so = gains_none (Below P 0) m so (λ e b differ. let l = b.less in absurd (omega arith))

pub below_more : (P : ℕ → Edge → Type 0) (n : ℕ) (a b c : Made) → Gains (Below P n) a b → Gains (P n) b c
    → Gains (Below P (n + 1)) a c
below_more P n a b c before now = search (rules, gains_by, cases_lt, gains_then)

-- the property of the item at a place
pub record AtPlace {A : Type 0} (P : A → Edge → Type 0) (items : List A) (k : ℕ) (e : Edge) : Type 0 where
  pub item : A
  pub there : slice_get items k ≡ Some item
  pub by : P item e

module _ {A : Type 0} (P : A → Edge → Type 0) (items : List A) where
  pub some_more : (n : ℕ) (item : A) (a b c : Made) → slice_get items n ≡ Some item → Gains (Below (AtPlace P items) n) a b
      → Gains (P item) b c → Gains (Below (AtPlace P items) (n + 1)) a c
  some_more n item a b c here before now = search (rules, below_more, gains_by)

  pub some_all : (n : ℕ) (a b : Made) → length items ≤ n → Gains (Below (AtPlace P items) n) a b → Gains (OfSome P items) a b
  some_all n a b le grown = gains_by (Below (AtPlace P items) n) (OfSome P items) (λ e x. (
      let k = contains_at items x.item x.there in
      let l = slice_get_within items k.0 x.item k.1 in
      record { at = k.0; less = omega arith; by = record { item = x.item; there = k.1; by = x.by } })) a b grown

-- notes, one after the other

pub notes_none : (P : Edge → Type 0) (m : Made) → ((e : Edge) → P e → e.from ≢ e.to → has m.edges e ≡ true) → Notes P m m
notes_none P m there = record { same = refl; kept = λ e h. h; added = there; only = λ e h. inl h }

pub notes_by : (P Q : Edge → Type 0) → ((e : Edge) → P e → Q e) → ((e : Edge) → Q e → P e) → (m new : Made) → Notes P m new
    → Notes Q m new
notes_by P Q to from m new g = search (rules)

pub notes_then : (P Q : Edge → Type 0) (a b c : Made) → Notes P a b → Notes Q b c → Notes (λ e. P e ⊎ Q e) a c
notes_then P Q a b c g h = search (rules)

-- from notes to gains

module _ (P : Edge → Type 0) (m : Made) (so : IsSoFar m) (edges : List Edge) (are : (e : Edge) → (has edges e ≡ true) ↔ P e) where
  pub settled_gains : ((e : Edge) → has edges e ≡ true → e.from ≢ e.to → has m.edges e ≡ true) → Gains P m m
  settled_gains settled = gains_none P m so (λ e p differ. settled e ((are e).1 p) differ)

  module _ (steps : List Step) (nexts : List ℕ) (made : IsMade m.spec m.labels m.found m.edges steps nexts)
      (many : length nexts ≡ length m.nexts)
      (shows : (e : Edge) → P e → Shows m.spec m.labels (boot m.spec) steps e.from e.authority e.to) where
    so_on : (new : List Edge)
        → ((e : Edge) → has new e ≡ true → (has m.edges e ≡ true) ⊎ ((has edges e ≡ true) × (e.from ≢ e.to)))
        → IsSoFar (record m { edges = new; steps = steps; nexts = nexts })
    so_on new only = search (rules, made_more)

    pub shown_gains : (new : Made) → Notes (λ e. has edges e ≡ true) (record m { steps = steps; nexts = nexts }) new
        → Gains P m new
    shown_gains new notes = search (rules, so_on)

pub adds_only : (P : Edge → Type 0) (none edges : List Edge) → none ≡ [] → Adds P none edges → (e : Edge)
    → (has edges e ≡ true) ↔ P e
adds_only P none edges is adds e = search (rules)

-- notes of a list's edges, one after the other

-- the edge stands before the place n
pub record IsBefore (edges : List Edge) (n : ℕ) (e : Edge) : Type 0 where
  pub place : ℕ
  pub less : place < n
  pub there : slice_get edges place ≡ Some e

module _ (edges : List Edge) where
  pub before_none : (m : Made) → Notes (IsBefore edges 0) m m
  before_none m = notes_none (IsBefore edges 0) m (λ e b differ. let l = b.less in absurd (omega arith))

  pub before_more : (n : ℕ) (a b c : Made) → Notes (IsBefore edges n) a b → Notes (λ e. slice_get edges n ≡ Some e) b c
      → Notes (IsBefore edges (n + 1)) a c
  before_more n a b c old now = search (rules, notes_by, slice_get, cases_lt, notes_then)

  pub before_one : (n : ℕ) (d : Edge) (a b : Made) → slice_get edges n ≡ Some d → Notes (Is d) a b
      → Notes (λ e. slice_get edges n ≡ Some e) a b
  before_one n d a b here notes = notes_by (Is d) (λ e. slice_get edges n ≡ Some e)
      (λ e is. here ∙ ap (λ (x : Edge). Some x) (sym is)) (λ e h. same_Some e d (sym h ∙ here)) a b notes

  pub before_all : (n : ℕ) (a b : Made) → length edges ≤ n → Notes (IsBefore edges n) a b → Notes (λ e. has edges e ≡ true) a b
  before_all n a b le notes = search (rules, notes_by, has_at, at_has, slice_get_within)

pub link_only : (labels : List ℕ) (from : ℕ) (a : Authority) (object : ℕ) (none edges : List Edge) → none ≡ []
    → Adds (OfLink labels from a object) none edges
    → (e : Edge) → (has edges e ≡ true) ↔ (e ≡ edge from a (label_of labels object))
link_only labels from a object none edges is adds e = search (rules, adds_only, edges_same)
