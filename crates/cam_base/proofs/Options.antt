-- What is there is not none; of two answers the first that is there, or that is true.
use Rattle.cam_base.proofs.Common.{Bool, None, Option, Some, cond, false, is_some, option_or, refl, true, true≢false, ◌||◌, ◌≡◌}

pub none_is_not : {C A : Type 0} (x : A) → None ≡ Some x → C
none_is_not x e = absurd cc

pub option_or-none : {V : Type 0} (o : Option V) → o ≡ option_or o None
option_or-none None = refl
option_or-none (Some x) = refl

pub option_or-there : {V : Type 0} (o p : Option V) → is_some o ≡ true → o ≡ option_or o p
option_or-there None p e = absurd cc
option_or-there (Some y) p e = refl

pub option_or-assoc : {V : Type 0} (a b c : Option V) → option_or (option_or a b) c ≡ option_or a (option_or b c)
option_or-assoc None b c = refl
option_or-assoc (Some x) b c = refl

pub option_or-cond : {V : Type 0} (o : Option V) (b : Bool) (x : V) (more : Option V)
    → option_or (option_or o (cond b (Some x) None)) more ≡ option_or o (cond b (Some x) more)
option_or-cond None true x more = refl
option_or-cond None false x more = refl
option_or-cond (Some y) b x more = refl

pub is_some-option_or : {V : Type 0} (o : Option V) (b : Bool) (x : V)
    → is_some (option_or o (cond b (Some x) None)) ≡ (is_some o || b)
is_some-option_or None true x = refl
is_some-option_or None false x = refl
is_some-option_or (Some y) b x = refl

-- where neither is there
pub neither : {V : Type 0} (a b : Option V) → option_or a b ≡ None → (a ≡ None) × (b ≡ None)
neither None b e = (refl, e)
neither (Some x) b e = absurd cc

pub is_none : {V : Type 0} (o : Option V) → is_some o ≡ false → o ≡ None
is_none None e = refl
is_none (Some x) e = absurd (true≢false e)

-- the first is true, or else the second
pub or_cond : (a b : Bool) → cond a true b ≡ (b || a)
or_cond true true = refl
or_cond true false = refl
or_cond false true = refl
or_cond false false = refl
