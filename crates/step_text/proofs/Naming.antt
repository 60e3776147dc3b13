-- A step is spelled where its names are threads and the rest is right, so that a line of a step's form that spells none
-- has an unknown name.
use Rattle.step_text.proofs.Common.{Bind, Bool, Call, Drop, Grant, List, Map, None, Option, Put, Reply, ReplyTo, Save, SetCspace, SetVspace, Some, Take, Verb, [], any_word, ap, copy_value, false, false≢true, first_unknown, is_some, list_all, names}
use Rattle.step_text.proofs.Common.{names_behind, number_value, option_map, refl, rights_value, spelled, spelled_behind, spelled_by, sym, true, verb_of, ℕ, ◌&&◌, ◌∙◌, ◌∷◌, ◌≡◌}
use Rattle.cap_machine.specs.declared.step.Step.TheVariants as steps
use Rattle.cam_base.specs.AllThere.{of_two, of_three, of_four, of_six}

-- whether there is anything doesn't rest on what is made of it
same_one : {A B : Type 0} (f g : A → B) (a : Option A) → is_some (option_map f a) ≡ is_some (option_map g a)
same_one f g None = refl
same_one f g (Some a) = refl

same_two : {A B C : Type 0} (f g : A → B → C) (a : Option A) (b : Option B) → is_some (of_two f a b) ≡ is_some (of_two g a b)
same_two f g None b = refl
same_two f g (Some a) b = same_one (f a) (g a) b

same_three : {A B C D : Type 0} (f g : A → B → C → D) (a : Option A) (b : Option B) (c : Option C)
    → is_some (of_three f a b c) ≡ is_some (of_three g a b c)
same_three f g None b c = refl
same_three f g (Some a) b c = same_two (f a) (g a) b c

and_false : (b : Bool) → false ≡ (b && false)
and_false true = refl
and_false false = refl

-- one name in front
first_one : {B : Type 0} (f : ℕ → B) (t : Option ℕ)
    → is_some (option_map f t) ≡ ((is_some t && true) && is_some (option_map f (Some 0)))
first_one f None = refl
first_one f (Some x) = refl

first_two : {A B : Type 0} (f : ℕ → A → B) (t : Option ℕ) (a : Option A)
    → is_some (of_two f t a) ≡ ((is_some t && true) && is_some (of_two f (Some 0) a))
first_two f None a = refl
first_two f (Some x) a = same_one (f x) (f 0) a

first_three : {A B C : Type 0} (f : ℕ → A → B → C) (t : Option ℕ) (a : Option A) (b : Option B)
    → is_some (of_three f t a b) ≡ ((is_some t && true) && is_some (of_three f (Some 0) a b))
first_three f None a b = refl
first_three f (Some x) a b = same_two (f x) (f 0) a b

first_four : {A B C D : Type 0} (f : ℕ → A → B → C → D) (t : Option ℕ) (a : Option A) (b : Option B) (c : Option C)
    → is_some (of_four f t a b c) ≡ ((is_some t && true) && is_some (of_four f (Some 0) a b c))
first_four f None a b c = refl
first_four f (Some x) a b c = same_three (f x) (f 0) a b c

-- two names, the second behind a number
both_four : {A B : Type 0} (f : ℕ → ℕ → ℕ → A → B) (t : Option ℕ) (i : Option ℕ) (u : Option ℕ) (a : Option A)
    → is_some (of_four f t i u a) ≡ ((is_some t && (is_some u && true)) && is_some (of_four f (Some 0) i (Some 0) a))
both_four f None i u a = refl
both_four f (Some x) None u a = and_false (is_some u && true)
both_four f (Some x) (Some i) None a = refl
both_four f (Some x) (Some i) (Some y) a = same_one (f x i y) (f 0 i 0) a

both_six : {A B C D : Type 0} (f : ℕ → ℕ → ℕ → A → B → C → D) (t : Option ℕ) (i : Option ℕ) (u : Option ℕ) (a : Option A)
    (b : Option B) (c : Option C)
    → is_some (of_six f t i u a b c) ≡ ((is_some t && (is_some u && true)) && is_some (of_six f (Some 0) i (Some 0) a b c))
both_six f None i u a b c = refl
both_six f (Some x) None u a b c = and_false (is_some u && true)
both_six f (Some x) (Some i) None a b c = refl
both_six f (Some x) (Some i) (Some y) a b c = same_three (f x i y) (f 0 i 0) a b c

spelled_where : (place : List ℕ → Option ℕ) (verb : Verb) (fields : List (List ℕ))
    → is_some (spelled_behind place verb fields) ≡ (list_all (λ name. is_some (place name)) (names_behind (Some verb) fields)
    && is_some (spelled_behind (λ name. Some 0) verb fields))
spelled_where place Take (t ∷ i ∷ j ∷ r ∷ []) = first_four (λ t i j r. steps.Take t i j r) (place t) (number_value i)
    (number_value j) (rights_value r)
spelled_where place Put (t ∷ i ∷ j ∷ r ∷ []) = first_four (λ t i j r. steps.Put t i j r) (place t) (number_value i)
    (number_value j) (rights_value r)
spelled_where place Grant (t ∷ i ∷ u ∷ j ∷ k ∷ r ∷ []) = both_six (λ t i u j k r. steps.Grant t i u j k r) (place t)
    (number_value i) (place u) (number_value j) (number_value k) (rights_value r)
spelled_where place Call (t ∷ i ∷ u ∷ j ∷ []) = both_four (λ t i u j. steps.Call t i u j) (place t) (number_value i) (place u)
    (number_value j)
spelled_where place Reply (t ∷ []) = first_one (λ t. steps.Reply t None) (place t)
spelled_where place Reply (t ∷ k ∷ r ∷ []) = first_two (λ t copy. steps.Reply t (Some copy)) (place t) (copy_value k r)
spelled_where place SetCspace (t ∷ i ∷ j ∷ []) = first_three (λ t i j. steps.SetCspace t i j) (place t) (number_value i)
    (number_value j)
spelled_where place SetVspace (t ∷ i ∷ j ∷ []) = first_three (λ t i j. steps.SetVspace t i j) (place t) (number_value i)
    (number_value j)
spelled_where place Map (t ∷ i ∷ j ∷ r ∷ []) = first_four (λ t i j r. steps.Map t i j r) (place t) (number_value i)
    (number_value j) (rights_value r)
spelled_where place Bind (t ∷ i ∷ j ∷ []) = first_three (λ t i j. steps.Bind t i j) (place t) (number_value i) (number_value j)
spelled_where place Drop (t ∷ i ∷ []) = first_two (λ t i. steps.Drop t i) (place t) (number_value i)
spelled_where place Save (t ∷ []) = first_one (λ t. steps.Save t) (place t)
spelled_where place ReplyTo (t ∷ i ∷ []) = first_two (λ t i. steps.ReplyTo t i None) (place t) (number_value i)
spelled_where place ReplyTo (t ∷ i ∷ k ∷ r ∷ []) = first_three (λ t i copy. steps.ReplyTo t i (Some copy)) (place t)
    (number_value i) (copy_value k r)
spelled_where place verb fields = and_false (list_all (λ name. is_some (place name)) (names_behind (Some verb) fields))

-- among names that aren't all known the first unknown is one
first_is_unknown : (place : List ℕ → Option ℕ) (all : List (List ℕ)) → list_all (λ name. is_some (place name)) all ≡ false
    → place (first_unknown place all) ≡ None
first_is_unknown place [] none = absurd (false≢true (sym none))
first_is_unknown place (name ∷ more) none = go (place name) refl (λ k. first_is_unknown place more k)
  where
    go : (found : Option ℕ) → place name ≡ found → (list_all (λ name. is_some (place name)) more ≡ false
        → place (first_unknown place more) ≡ None) → place (first_unknown place (name ∷ more)) ≡ None
    go None e others = rw e e
    go (Some x) e others = rw e (others (rw e at none))

rest : (a b c : Bool) → (a && c) ≡ true → (b && c) ≡ false → b ≡ false
rest a false c all none = refl
rest true true c all none = absurd (false≢true (sym none ∙ all))
rest false true c all none = absurd (false≢true all)

unknown_behind : (place : List ℕ → Option ℕ) (verb : Verb) (fields : List (List ℕ))
    → is_some (spelled_behind any_word verb fields) ≡ true → spelled_behind place verb fields ≡ None
    → place (first_unknown place (names_behind (Some verb) fields)) ≡ None
unknown_behind place verb fields formed none =
    first_is_unknown place (names_behind (Some verb) fields)
    (rest (list_all (λ name. is_some (any_word name)) (names_behind (Some verb) fields))
    (list_all (λ name. is_some (place name)) (names_behind (Some verb) fields))
    (is_some (spelled_behind (λ name. Some 0) verb fields)) (sym (spelled_where any_word verb fields) ∙ formed)
    (sym (spelled_where place verb fields) ∙ ap is_some none))

unknown_by : (place : List ℕ → Option ℕ) (verb : Option Verb) (fields : List (List ℕ))
    → is_some (spelled_by any_word verb fields) ≡ true → spelled_by place verb fields ≡ None
    → place (first_unknown place (names_behind verb fields)) ≡ None
unknown_by place None fields formed none = absurd (false≢true formed)
unknown_by place (Some verb) fields formed none = unknown_behind place verb fields formed none

pub unknown_name : (place : List ℕ → Option ℕ) (fields : List (List ℕ)) → is_some (spelled any_word fields) ≡ true
    → spelled place fields ≡ None → place (first_unknown place (names fields)) ≡ None
unknown_name place [] formed none = absurd (false≢true formed)
unknown_name place (word ∷ fields) formed none = unknown_by place (verb_of word) fields formed none
