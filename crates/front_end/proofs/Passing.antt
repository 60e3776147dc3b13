-- A phase that refuses tells the first fault, where those before it found none.
use Rattle.front_end.proofs.Common.{Err, Fault, IsErrAnd, None, Option, Refused, Result, Some, option_or, ◌≡◌}
use Rattle.cam_base.proofs.Errors.{passed_on}
use Rattle.adl_meaning.specs.Prelude.{Refuses}
use Rattle.cam_base.specs.declared.error.Refused.TheVariants as refused

third : (X Y : Type 0) (e : Refused Fault) (a b c d : Option Fault) → a ≡ None → b ≡ None → Refuses {T = Y} (Err e) c
    → Refuses {T = X} (Err e) (option_or a (option_or b (option_or c d)))
third X Y refused.NoMemory a b c d p q m = tt
third X Y (refused.Fault f) None None (Some g) d p q m = m
third X Y (refused.Fault f) None None None d p q m = absurd cc
third X Y (refused.Fault f) None (Some g) c d p q m = absurd cc
third X Y (refused.Fault f) (Some g) b c d p q m = absurd cc

fourth : (X Y : Type 0) (e : Refused Fault) (a b c d : Option Fault) → a ≡ None → b ≡ None → c ≡ None → Refuses {T = Y} (Err e) d
    → Refuses {T = X} (Err e) (option_or a (option_or b (option_or c d)))
fourth X Y refused.NoMemory a b c d p q r m = tt
fourth X Y (refused.Fault f) None None None d p q r m = m
fourth X Y (refused.Fault f) None None (Some g) d p q r m = absurd cc
fourth X Y (refused.Fault f) None (Some g) c d p q r m = absurd cc
fourth X Y (refused.Fault f) (Some g) b c d p q r m = absurd cc

pub third_told : {X : Type 0} (Y : Type 0) (r : Result X (Refused Fault)) (e : Refused Fault) (a b c d : Option Fault)
    → IsErrAnd r (λ x. x ≡ e) → a ≡ None → b ≡ None
    → Refuses {T = Y} (Err e) c → Refuses r (option_or a (option_or b (option_or c d)))
third_told {X} Y r e a b c d is p q m =
    passed_on (λ (z : Result X (Refused Fault)). Refuses z (option_or a (option_or b (option_or c d)))) r e is
    (third X Y e a b c d p q m)

pub fourth_told : {X : Type 0} (Y : Type 0) (r : Result X (Refused Fault)) (e : Refused Fault) (a b c d : Option Fault)
    → IsErrAnd r (λ x. x ≡ e) → a ≡ None → b ≡ None → c ≡ None
    → Refuses {T = Y} (Err e) d → Refuses r (option_or a (option_or b (option_or c d)))
fourth_told {X} Y r e a b c d is p q n m =
    passed_on (λ (z : Result X (Refused Fault)). Refuses z (option_or a (option_or b (option_or c d)))) r e is
    (fourth X Y e a b c d p q n m)
