-- The next token's code is among two lists of codes.
use Rattle.adl_parse.proofs.Common.{Bool, List, [], among, ap, cond, false, refl, starts, true, ℕ, ◌++◌, ◌==◌, ◌||◌, ◌∙◌, ◌∷◌, ◌≡◌}

or_cond : (b c d e : Bool) → e ≡ (c || d) → cond b true e ≡ (cond b true c || d)
or_cond true c d e h = refl
or_cond false c d e h = h

among_more : (cs ds : List ℕ) (c : ℕ) → among (cs ++ ds) c ≡ (among cs c || among ds c)
among_more [] ds c = refl
among_more (d ∷ cs) ds c = or_cond (c == d) (among cs c) (among ds c) (among (cs ++ ds) c) (among_more cs ds c)

starts_more : {T : Type 0} (code : T → ℕ) (cs ds : List ℕ) (ts : List T)
    → starts code (cs ++ ds) ts ≡ (starts code cs ts || starts code ds ts)
starts_more code cs ds [] = refl
starts_more code cs ds (t ∷ ts) = among_more cs ds (code t)

pub starts_three : {T : Type 0} (code : T → ℕ) (a b c : List ℕ) (ts : List T)
    → starts code (a ++ (b ++ c)) ts ≡ (starts code a ts || (starts code b ts || starts code c ts))
starts_three code a b c ts = starts_more code a (b ++ c) ts ∙ ap (λ z. starts code a ts || z) (starts_more code b c ts)
