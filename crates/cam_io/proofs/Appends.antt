-- Bytes at the end of a channel, one piece after another.
use Rattle.std.proofs.Common.{rules}
use Rattle.cam_io.proofs.Common.{Bool, IsTrue, List, None, Option, Sink, Some, [], ap, append-nil, append_assoc, arith, cond, drop, false, is_open, length, length-drop, refl, subst, sym, take, take-add, true, ℕ, ◌++◌, ◌+◌, ◌-◌, ◌==◌, ◌∙◌, ◌≡◌}
use Rattle.std.proofs.lemmas.List.{take_all}
use Rattle.cam_io.specs.Sinks.{more, appended}

cond_nil : (b : Bool) (xs : List ℕ) → cond b (xs ++ []) xs ≡ xs
cond_nil true xs = append-nil xs
cond_nil false xs = refl

cond_twice : (b : Bool) (xs ys zs : List ℕ) → cond b (cond b (xs ++ ys) xs ++ zs) (cond b (xs ++ ys) xs) ≡ cond b
    (xs ++ (ys ++ zs)) xs
cond_twice true xs ys zs = append_assoc xs ys zs
cond_twice false xs ys zs = refl

more_nil : (c : ℕ) (w : Option (ℕ → List ℕ)) → more c [] w ≡ w
unfolding more
more_nil c None = refl
more_nil c (Some w) = λ i. Some (λ k. cond_nil (k == c) (w k) i)

more_twice : (c : ℕ) (a b : List ℕ) (w : Option (ℕ → List ℕ)) → more c b (more c a w) ≡ more c (a ++ b) w
unfolding more
more_twice c a b None = refl
more_twice c a b (Some w) = λ i. Some (λ k. cond_twice (k == c) (w k) a b i)

pub appended_nil : (s : Sink) (c : ℕ) → appended s c [] ≡ s
unfolding appended
appended_nil s c = λ i. record { begun = s.begun; names = s.names; written = more_nil c s.written i }

pub appended_twice : (s : Sink) (c : ℕ) (a b : List ℕ) → appended (appended s c a) c b ≡ appended s c (a ++ b)
unfolding appended
appended_twice s c a b = λ i. record { begun = s.begun; names = s.names; written = more_twice c a b s.written i }

pub begun_appended : (s : Sink) (c : ℕ) (a : List ℕ) → (appended s c a).begun ≡ s.begun
unfolding appended
begun_appended s c a = refl

-- one more piece of the bytes
pub appended_more : (old mid new : Sink) (c i n : ℕ) (bytes : List ℕ) → mid ≡ appended old c (take i bytes)
    → new ≡ appended mid c (take n (drop i bytes)) → new ≡ appended old c (take (i + n) bytes)
appended_more old mid new c i n bytes e f = search (rules, appended_twice, take-add)

-- the same, where the piece is the slice from i to the end
pub appended_slice : (old mid new : Sink) (c i n : ℕ) (bytes : List ℕ) → mid ≡ appended old c (take i bytes)
    → new ≡ appended mid c (take n (take (length bytes - i) (drop i bytes))) → new ≡ appended old c (take (i + n) bytes)
appended_slice old mid new c i n bytes e f = search (rules, take_all, length-drop, appended_more)

-- what was open stays open
pub open_appended : (old new : Sink) (c k : ℕ) (bytes : List ℕ) → new ≡ appended old c bytes → IsTrue (is_open old k)
    → IsTrue (is_open new k)
open_appended old new c k bytes e h = subst (λ s. IsTrue (is_open s k)) (sym e) (rw (begun_appended old c bytes) h)
