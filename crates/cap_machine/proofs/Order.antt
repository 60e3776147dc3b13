-- The function `decide` answers by the first failing test of the stated order.
use Rattle.cap_machine.proofs.Common.{Bool, Cap, Capability, Change, Content, Err, List, NoCap, NoPending, NoRoot, None, Ok, Option, PeerNoRoot}
use Rattle.cap_machine.proofs.Common.{Reply, ReplyTo, Result, SavedReply, Some, Spec, State, Step, Waiting, Why, WrongKind, [], acting, acts, and_then, any, any_cap, asking, caller_root}
use Rattle.cap_machine.proofs.Common.{cap_of, capability, checks, content_in, decide, false, first_failing, found_cap, found_reply, hears, is_capability, is_saved_reply, listens, meets, no_reply, not, or_why, owed}
use Rattle.cap_machine.proofs.Common.{owed_by, owes, own, own_cap, own_reply, peer_cap, peer_root, reachable, refl, reply_of, root_of, rules, saved_reply, saves, subst, thread_at, true, ℕ, ◌++◌, ◌∷◌, ◌≡◌}
use Rattle.std.specs.Option.{is_some, unwrap_or}
use Rattle.cap_model.specs.declared.kind.Kind.TheVariants as kinds

abbrev pub why_of : {A : Type 0} → Result A Why → Option Why
why_of (Ok x) = None
why_of (Err why) = Some why

-- the answer is that of the first of these tests that fails
pub record Follows (answer : Option Why) (tests : List (Bool × Why)) : Type 0 where
  pub is : answer ≡ first_failing tests

-- r answers by these tests, and what it finds is x
pub record Tests {A : Type 0} (r : Result A Why) (tests : List (Bool × Why)) (x : A) : Type 0 where
  pub answer : why_of r ≡ first_failing tests
  pub value : (y : A) → r ≡ Ok y → y ≡ x

failed : (xs ys : List (Bool × Why)) (why : Why) → Some why ≡ first_failing xs → Some why ≡ first_failing (xs ++ ys)
failed [] ys why h = absurd cc
failed ((true, w) ∷ xs) ys why h = failed xs ys why h
failed ((false, w) ∷ xs) ys why h = h

passed : (xs ys : List (Bool × Why)) → None ≡ first_failing xs → first_failing ys ≡ first_failing (xs ++ ys)
passed [] ys h = refl
passed ((true, w) ∷ xs) ys h = passed xs ys h
passed ((false, w) ∷ xs) ys h = absurd cc

-- one part after the other
pub joined : {A B : Type 0} (r : Result A Why) (rest : A → Result B Why) (x : A) (xs ys : List (Bool × Why)) → Tests r xs x
    → Follows (why_of (rest x)) ys → Follows (why_of (and_then r rest)) (xs ++ ys)
joined {A} {B} (Ok y) rest x xs ys first then = search (rules, passed)
joined (Err why) rest x xs ys first then = record { is = failed xs ys why first.answer }

-- one test, and then the rest
pub asked : {B : Type 0} (b : Bool) (why : Why) (rest : Result B Why) (ys : List (Bool × Why)) → Follows (why_of rest) ys
    → Follows (why_of (asking b why rest)) ((b, why) ∷ ys)
asked true why rest ys h = record { is = h.is }
asked false why rest ys h = record { is = refl }

-- the last part
pub last : {A B : Type 0} (r : Result A Why) (done : A → B) (x : A) (xs : List (Bool × Why)) → Tests r xs x
    → Follows (why_of (and_then r (λ y. Ok (done y)))) xs
last (Ok y) done x xs t = record { is = t.answer }
last (Err why) done x xs t = record { is = t.answer }

last_there : {A B : Type 0} (o : Option A) (why : Why) (done : A → B)
    → Follows (why_of (and_then (or_why o why) (λ y. Ok (done y)))) ((is_some o, why) ∷ [])
last_there None why done = record { is = refl }
last_there (Some x) why done = record { is = refl }

or_why_tests : {A : Type 0} (o : Option A) (why : Why) (d : A) → Tests (or_why o why) ((is_some o, why) ∷ []) (unwrap_or o d)
or_why_tests None why d = record { answer = refl; value = λ y h. absurd cc }
or_why_tests (Some x) why d = record { answer = refl; value = λ y h. cc }

asking_tests : {A : Type 0} (b : Bool) (why : Why) (rest : Result A Why) (ys : List (Bool × Why)) (x : A) → Tests rest ys x
    → Tests (asking b why rest) ((b, why) ∷ ys) x
asking_tests true why rest ys x t = record { answer = t.answer; value = t.value }
asking_tests false why rest ys x t = record { answer = refl; value = λ y h. absurd cc }

found_cap_tests : (content : Option Content) (none other : Why)
    → Tests (found_cap content none other) ((is_some content, none) ∷ (is_capability content, other) ∷ []) (capability content)
found_cap_tests (Some (Capability cap)) none other = record { answer = refl; value = λ y h. cc }
found_cap_tests _ none other = record { answer = refl; value = λ y h. absurd cc }

found_reply_tests : (content : Option Content) (none other : Why)
    → Tests (found_reply content none other) ((is_some content, none) ∷ (is_saved_reply content, other) ∷ [])
    (saved_reply content)
found_reply_tests (Some (SavedReply reply)) none other = record { answer = refl; value = λ y h. cc }
found_reply_tests _ none other = record { answer = refl; value = λ y h. absurd cc }

-- a part with tests, and then more tests of what was found
then_tests : {A : Type 0} (r : Result A Why) (rest : A → Result A Why) (xs ys : List (Bool × Why)) (x : A) → Tests r xs x
    → Tests (rest x) ys x → Tests (and_then r rest) (xs ++ ys) x
then_tests {A} (Ok y) rest xs ys x first then =
    record {
      answer = (joined (Ok y) rest x xs ys first (record { is = then.answer })).is;
      value = λ z h. let is : y ≡ x = first.value y refl in then.value z (subst (λ (w : A). rest w ≡ Ok z) is h);
    }
then_tests (Err why) rest xs ys x first then = record { answer = failed xs ys why first.answer; value = λ z h. absurd cc }

ok_tests : {A : Type 0} (x : A) → Tests (Ok x) [] x
ok_tests x = record { answer = refl; value = λ y h. cc }

acting_tests : (s : State) (t : ℕ) → Tests (acting s t) (acts s t) (root_of s t)
acting_tests s t = asking_tests (not (thread_at s t).waits) Waiting (or_why (thread_at s t).root NoRoot) _ (root_of s t)
    (or_why_tests (thread_at s t).root NoRoot 0)

any_tests : (s : State) (c i : ℕ) → Tests (any_cap s c i) (any s c i) (cap_of s c i)
any_tests s c i = found_cap_tests (content_in s c i) (NoCap i) (WrongKind i)

own_tests : (kind : ℕ → Bool) (s : State) (c i : ℕ) → Tests (own_cap kind s c i) (own kind s c i) (cap_of s c i)
own_tests kind s c i = search (rules, then_tests, any_tests, asking_tests, ok_tests)

reply_tests : (s : State) (c i : ℕ) → Tests (own_reply s c i) (saves s c i) (reply_of s c i)
reply_tests s c i = found_reply_tests (content_in s c i) (NoCap i) (WrongKind i)

owed_tests : (s : State) (t : ℕ) → Tests (owed s t) (owes s t) (owed_by s t)
owed_tests s t = or_why_tests (thread_at s t).pending NoPending no_reply

caller_tests : (s : State) (caller : ℕ) → Tests (caller_root s caller) (reachable s caller) (root_of s caller)
caller_tests s caller = or_why_tests (thread_at s caller).root PeerNoRoot 0

module _ (spec : Spec) (s : State) where
  peer_root_tests : (t u : ℕ) → Tests (peer_root s t u) (meets s t u) (root_of s u)
  peer_root_tests t u = search (rules, asking_tests, or_why_tests)

  peer_cap_tests : (d j e : ℕ) → Tests (peer_cap spec s d j e) (hears spec s d j e) (cap_of s d j)
  peer_cap_tests d j e = search (rules, then_tests, found_cap_tests, asking_tests, ok_tests)

  -- the peer listens, and then it is done
  listening : (t u j e : ℕ) (done : ℕ → Cap → Change)
      → Follows (why_of (and_then (peer_root s t u) (λ d. and_then (peer_cap spec s d j e) (λ x. Ok (done d x)))))
      (listens spec s t u j e)
  listening t u j e done = search (rules, joined, peer_root_tests, last, peer_cap_tests)

  acting_then : {B : Type 0} (t : ℕ) (rest : ℕ → Result B Why) (ys : List (Bool × Why)) → Follows (why_of (rest (root_of s t))) ys
      → Follows (why_of (and_then (acting s t) rest)) (acts s t ++ ys)
  acting_then t rest ys h = joined (acting s t) rest (root_of s t) (acts s t) ys (acting_tests s t) h

  own_then : {B : Type 0} (kind : ℕ → Bool) (c i : ℕ) (rest : Cap → Result B Why) (ys : List (Bool × Why))
      → Follows (why_of (rest (cap_of s c i))) ys → Follows (why_of (and_then (own_cap kind s c i) rest)) (own kind s c i ++ ys)
  own_then kind c i rest ys h = joined (own_cap kind s c i) rest (cap_of s c i) (own kind s c i) ys (own_tests kind s c i) h

  any_then : {B : Type 0} (c i : ℕ) (rest : Cap → Result B Why) (ys : List (Bool × Why))
      → Follows (why_of (rest (cap_of s c i))) ys → Follows (why_of (and_then (any_cap s c i) rest)) (any s c i ++ ys)
  any_then c i rest ys h = joined (any_cap s c i) rest (cap_of s c i) (any s c i) ys (any_tests s c i) h

  pub decide_checks : (step : Step) → Follows (why_of (decide spec s step)) (checks spec s step)
  decide_checks (Reply t None) = search (rules, acting_then, last, owed_tests)
  decide_checks (ReplyTo t i None) = search (rules, acting_then, last, reply_tests)
  decide_checks (Reply t (Some copy)) = search (rules, acting_then, joined, owed_tests, asked, any_then, last, caller_tests)
  decide_checks (ReplyTo t i (Some copy)) = search (rules, acting_then, joined, reply_tests, asked, any_then, last, caller_tests)
  decide_checks _ =
      search (rules, acting_then, own_then, asked, any_then, listening, last, last_there, any_tests, own_tests, owed_tests)
