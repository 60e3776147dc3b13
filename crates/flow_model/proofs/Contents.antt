-- Two worlds that are alike at the objects of a set, and what writes leave so.
use Rattle.std.proofs.Common.{rules}
use Rattle.flow_model.proofs.LawsCommon.{Agree, Bool, List, Spec, State, World, ap, cond, eqb-true, false, in_set, more, put, refl, true, ℕ, ◌==◌, ◌∙◌, ◌≡◌}
use Rattle.flow_model.proofs.Alike.{Alike}
use Rattle.flow_model.proofs.Replying.{Joined}

pub record Near (side : ℕ → Bool) (w : World) (v : World) : Type 0 where
  pub state : Alike side w.state v.state
  pub contents : (f : ℕ) → side f ≡ true → w.contents f ≡ v.contents f
  pub pending : (n : ℕ) → side n ≡ true → w.pending n ≡ v.pending n
  pub seen : (t : ℕ) → side t ≡ true → w.seen t ≡ v.seen t

alike_back : (side : ℕ → Bool) (s r : State) → Alike side s r → Alike side r s
alike_back side s r alike = search (rules)

pub near_back : (side : ℕ → Bool) (w v : World) → Near side w v → Near side v w
near_back side w v near = search (rules, alike_back)

-- worlds that agree on a set are alike there, where their lists are as long
pub near_agree : (spec : Spec) (labels : List ℕ) (inside : ℕ → Bool) (w v : World) → Joined spec (in_set labels inside) w.state
    → Joined spec (in_set labels inside) v.state → Agree labels inside w v → Near (in_set labels inside) w v
near_agree spec labels inside w v long also agree = search (rules)

pub agree_of : (labels : List ℕ) (inside : ℕ → Bool) (w v : World) → Near (in_set labels inside) w v → Agree labels inside w v
agree_of labels inside w v near = search (rules)

pub agree_self : (labels : List ℕ) (inside : ℕ → Bool) (w : World) → Agree labels inside w w
agree_self labels inside w = search (rules)

-- two that agree with a third agree
pub agree_meet : (labels : List ℕ) (inside : ℕ → Bool) (w v x : World) → Agree labels inside w x → Agree labels inside v x
    → Agree labels inside w v
agree_meet labels inside w v x a b = search (rules)

-- a write at an object that is not of the set
pub put_other : {A : Type 0} (side : ℕ → Bool) (f : ℕ → A) (place : ℕ) (x : A) (k : ℕ) → side place ≡ false → side k ≡ true
    → put f place x k ≡ f k
put_other {A} side f place x k out here = search (rules, put, eqb-true)

-- the same write in both
pub put_both : {A : Type 0} (f g : ℕ → A) (place : ℕ) (x : A) (k : ℕ) → f k ≡ g k → put f place x k ≡ put g place x k
put_both f g place x k e = ap (λ z. cond (k == place) x z) e

pub more_both : {A : Type 0} (f g : ℕ → List A) (place : ℕ) (x : A) (k : ℕ) → f k ≡ g k → more f place x k ≡ more g place x k
more_both {A} f g place x k e = search (rules, more, eqb-true)
