-- No step has more than seven fields, so that the first eight tell all.
use Rattle.step_text.proofs.Common.{Bind, Call, Drop, Grant, List, Map, None, Option, Put, Reply, ReplyTo, Save, SetCspace, SetVspace, Some, Take, Verb, [], any_word, arith, length, names, names_behind, refl, spelled, spelled_behind, spelled_by, sym}
use Rattle.step_text.proofs.Common.{take, texts, verb_of, wrong, ℕ, ◌∙◌, ◌∷◌, ◌≡◌, ◌≤◌}
use Rattle.std.specs.Borrow.{Bor}

too_many : (place : List ℕ → Option ℕ) (verb : Verb) (a b c d e f g : List ℕ) (more : List (List ℕ))
    → spelled_behind place verb (a ∷ b ∷ c ∷ d ∷ e ∷ f ∷ g ∷ more) ≡ None
too_many place Take a b c d e f g more = refl
too_many place Put a b c d e f g more = refl
too_many place Grant a b c d e f g more = refl
too_many place Call a b c d e f g more = refl
too_many place Reply a b c d e f g more = refl
too_many place SetCspace a b c d e f g more = refl
too_many place SetVspace a b c d e f g more = refl
too_many place Map a b c d e f g more = refl
too_many place Bind a b c d e f g more = refl
too_many place Drop a b c d e f g more = refl
too_many place Save a b c d e f g more = refl
too_many place ReplyTo a b c d e f g more = refl

-- only one has six
pub six_fields : (place : List ℕ → Option ℕ) (verb : Verb) (fields : List (Bor (List ℕ))) → (verb ≡ Grant → ⊥) → length fields ≡ 6
    → spelled_behind place verb (texts fields) ≡ None
six_fields place verb [] o n = absurd (omega arith)
six_fields place verb (a ∷ []) o n = absurd (omega arith)
six_fields place verb (a ∷ b ∷ []) o n = absurd (omega arith)
six_fields place verb (a ∷ b ∷ c ∷ []) o n = absurd (omega arith)
six_fields place verb (a ∷ b ∷ c ∷ d ∷ []) o n = absurd (omega arith)
six_fields place verb (a ∷ b ∷ c ∷ d ∷ e ∷ []) o n = absurd (omega arith)
six_fields place Take (a ∷ b ∷ c ∷ d ∷ e ∷ f ∷ []) o n = refl
six_fields place Put (a ∷ b ∷ c ∷ d ∷ e ∷ f ∷ []) o n = refl
six_fields place Grant (a ∷ b ∷ c ∷ d ∷ e ∷ f ∷ []) o n = absurd (o refl)
six_fields place Call (a ∷ b ∷ c ∷ d ∷ e ∷ f ∷ []) o n = refl
six_fields place Reply (a ∷ b ∷ c ∷ d ∷ e ∷ f ∷ []) o n = refl
six_fields place SetCspace (a ∷ b ∷ c ∷ d ∷ e ∷ f ∷ []) o n = refl
six_fields place SetVspace (a ∷ b ∷ c ∷ d ∷ e ∷ f ∷ []) o n = refl
six_fields place Map (a ∷ b ∷ c ∷ d ∷ e ∷ f ∷ []) o n = refl
six_fields place Bind (a ∷ b ∷ c ∷ d ∷ e ∷ f ∷ []) o n = refl
six_fields place Drop (a ∷ b ∷ c ∷ d ∷ e ∷ f ∷ []) o n = refl
six_fields place Save (a ∷ b ∷ c ∷ d ∷ e ∷ f ∷ []) o n = refl
six_fields place ReplyTo (a ∷ b ∷ c ∷ d ∷ e ∷ f ∷ []) o n = refl
six_fields place verb (a ∷ b ∷ c ∷ d ∷ e ∷ f ∷ g ∷ more) o n = absurd (omega arith)

-- no step has five fields
five : (place : List ℕ → Option ℕ) (verb : Verb) (a b c d e : List ℕ) → spelled_behind place verb (a ∷ b ∷ c ∷ d ∷ e ∷ []) ≡ None
five place Take a b c d e = refl
five place Put a b c d e = refl
five place Grant a b c d e = refl
five place Call a b c d e = refl
five place Reply a b c d e = refl
five place SetCspace a b c d e = refl
five place SetVspace a b c d e = refl
five place Map a b c d e = refl
five place Bind a b c d e = refl
five place Drop a b c d e = refl
five place Save a b c d e = refl
five place ReplyTo a b c d e = refl

pub five_fields : (place : List ℕ → Option ℕ) (verb : Verb) (fields : List (Bor (List ℕ))) → length fields ≡ 5
    → spelled_behind place verb (texts fields) ≡ None
five_fields place verb [] n = absurd (omega arith)
five_fields place verb (a ∷ []) n = absurd (omega arith)
five_fields place verb (a ∷ b ∷ []) n = absurd (omega arith)
five_fields place verb (a ∷ b ∷ c ∷ []) n = absurd (omega arith)
five_fields place verb (a ∷ b ∷ c ∷ d ∷ []) n = absurd (omega arith)
five_fields place verb (a ∷ b ∷ c ∷ d ∷ e ∷ []) n = five place verb a.now b.now c.now d.now e.now
five_fields place verb (a ∷ b ∷ c ∷ d ∷ e ∷ f ∷ more) n = absurd (omega arith)

-- or seven
pub seven_fields : (place : List ℕ → Option ℕ) (verb : Verb) (fields : List (Bor (List ℕ))) → 7 ≤ length fields
    → spelled_behind place verb (texts fields) ≡ None
seven_fields place verb [] n = absurd (omega arith)
seven_fields place verb (a ∷ []) n = absurd (omega arith)
seven_fields place verb (a ∷ b ∷ []) n = absurd (omega arith)
seven_fields place verb (a ∷ b ∷ c ∷ []) n = absurd (omega arith)
seven_fields place verb (a ∷ b ∷ c ∷ d ∷ []) n = absurd (omega arith)
seven_fields place verb (a ∷ b ∷ c ∷ d ∷ e ∷ []) n = absurd (omega arith)
seven_fields place verb (a ∷ b ∷ c ∷ d ∷ e ∷ f ∷ []) n = absurd (omega arith)
seven_fields place verb (a ∷ b ∷ c ∷ d ∷ e ∷ f ∷ g ∷ more) n = too_many place verb a.now b.now c.now d.now e.now f.now
    g.now (texts more)

few_behind : (place : List ℕ → Option ℕ) (verb : Verb) (fields : List (List ℕ))
    → spelled_behind place verb (take 7 fields) ≡ spelled_behind place verb fields
few_behind place verb [] = refl
few_behind place verb (a ∷ []) = refl
few_behind place verb (a ∷ b ∷ []) = refl
few_behind place verb (a ∷ b ∷ c ∷ []) = refl
few_behind place verb (a ∷ b ∷ c ∷ d ∷ []) = refl
few_behind place verb (a ∷ b ∷ c ∷ d ∷ e ∷ []) = refl
few_behind place verb (a ∷ b ∷ c ∷ d ∷ e ∷ f ∷ []) = refl
few_behind place verb (a ∷ b ∷ c ∷ d ∷ e ∷ f ∷ g ∷ more) = too_many place verb a b c d e f g []
    ∙ sym (too_many place verb a b c d e f g more)

few_by : (place : List ℕ → Option ℕ) (verb : Option Verb) (fields : List (List ℕ))
    → spelled_by place verb (take 7 fields) ≡ spelled_by place verb fields
few_by place None fields = refl
few_by place (Some verb) fields = few_behind place verb fields

pub few_spelled : (place : List ℕ → Option ℕ) (fields : List (List ℕ)) → spelled place (take 8 fields) ≡ spelled place fields
few_spelled place [] = refl
few_spelled place (word ∷ fields) = few_by place (verb_of word) fields

names_few : (verb : Option Verb) (fields : List (List ℕ)) → names_behind verb (take 7 fields) ≡ names_behind verb fields
names_few verb [] = refl
names_few verb (t ∷ []) = refl
names_few verb (t ∷ i ∷ []) = refl
names_few (Some Take) (t ∷ i ∷ u ∷ more) = refl
names_few (Some Put) (t ∷ i ∷ u ∷ more) = refl
names_few (Some Grant) (t ∷ i ∷ u ∷ more) = refl
names_few (Some Call) (t ∷ i ∷ u ∷ more) = refl
names_few (Some Reply) (t ∷ i ∷ u ∷ more) = refl
names_few (Some SetCspace) (t ∷ i ∷ u ∷ more) = refl
names_few (Some SetVspace) (t ∷ i ∷ u ∷ more) = refl
names_few (Some Map) (t ∷ i ∷ u ∷ more) = refl
names_few (Some Bind) (t ∷ i ∷ u ∷ more) = refl
names_few (Some Drop) (t ∷ i ∷ u ∷ more) = refl
names_few (Some Save) (t ∷ i ∷ u ∷ more) = refl
names_few (Some ReplyTo) (t ∷ i ∷ u ∷ more) = refl
names_few None (t ∷ i ∷ u ∷ more) = refl

few_names : (fields : List (List ℕ)) → names (take 8 fields) ≡ names fields
few_names [] = refl
few_names (word ∷ fields) = names_few (verb_of word) fields

pub few_wrong : (place : List ℕ → Option ℕ) (before : ℕ) (fields : List (List ℕ))
    → wrong place before (take 8 fields) ≡ wrong place before fields
few_wrong place before fields = rw (few_spelled place fields, few_spelled any_word fields, few_names fields) refl
