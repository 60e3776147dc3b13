-- Bytes have one list of tokens or one first fault, and not both.
use Rattle.adl_lexer.proofs.Common.{Code, IsFirstFault, IsGap, IsTokenAt, Kind, LexesFrom, List, None, Place, Reached, Some, Token, [], ap, here, length, more, name_in, none, none_is_not, past, place_of, refl, same_Some, subst, sym, ℕ, ◌+◌, ◌-◌, ◌∙◌}
use Rattle.adl_lexer.proofs.Common.{◌∷◌, ◌≡◌}
use Rattle.cam_base.specs.declared.place.Fault.{Fault}
use Rattle.adl_lexer.specs.Gaps.{one_gap}
use Rattle.adl_lexer.specs.LexFaults.{fault_at}
use Rattle.adl_lexer.proofs.Gaps.{fault_no_gap}
use Rattle.adl_lexer.proofs.Steps.{token_no_gap, one_token_of, no_token_of_none}

-- no blank and no comment stands here
Stops : List ℕ → Type 0
Stops bs = (cs : List ℕ) → one_gap bs ≡ Some cs → ⊥

one_stop : (bs x y : List ℕ) → IsGap bs x → IsGap bs y → Stops x → Stops y → x ≡ y
unfolding Stops
one_stop bs x y none none p q = refl
one_stop bs x y none (more e h) p q = absurd (p _ e)
one_stop bs x y (more e g) none p q = absurd (q _ e)
one_stop bs x y (more {cs = cs} e g) (more {cs = ds} f h) p q =
    one_stop cs x y g (subst (λ (w : List ℕ). IsGap w y) (same_Some ds cs (sym f ∙ e)) h) p q

nil_stops : Stops []
unfolding Stops one_gap
nil_stops cs e = none_is_not cs e

token_stops : (bs : List ℕ) (k : Kind) (rest : List ℕ) → IsTokenAt bs k rest → Stops bs
unfolding Stops
token_stops bs k rest t cs e = token_no_gap bs k rest cs t e

fault_stops : (bs : List ℕ) (f : Code × List ℕ) → fault_at bs ≡ Some f → Stops bs
unfolding Stops
fault_stops bs f h cs e = fault_no_gap bs cs f h e

no_fault_of_none : {C : Type 0} (f : Code × List ℕ) → fault_at [] ≡ Some f → C
unfolding fault_at
no_fault_of_none f e = absurd cc

-- a token at fault is none
clean_token : {C : Type 0} (bs : List ℕ) (k : Kind) (rest : List ℕ) (f : Code × List ℕ) → IsTokenAt bs k rest
    → fault_at bs ≡ Some f → C
clean_token bs k rest f t h = absurd (let e : None ≡ Some f = sym t.clean ∙ h in cc)

pub one_list : (file total : ℕ) (bs : List ℕ) (ts us : List Token) → LexesFrom file total bs ts
    → LexesFrom file total bs us → ts ≡ us
one_list file total bs [] [] l m = refl
one_list file total bs [] (u ∷ us) l m =
    let same = one_stop bs [] m.0 l m.2 nil_stops (token_stops m.0 u.kind m.1 m.3) in
    no_token_of_none m.0 u.kind m.1 (sym same) m.3
one_list file total bs (t ∷ ts) [] l m =
    let same = one_stop bs [] l.0 m l.2 nil_stops (token_stops l.0 t.kind l.1 l.3) in
    no_token_of_none l.0 t.kind l.1 (sym same) l.3
one_list file total bs (t ∷ ts) (u ∷ us) l m =
    let same = one_stop bs l.0 m.0 l.2 m.2 (token_stops l.0 t.kind l.1 l.3) (token_stops m.0 u.kind m.1 m.3) in
    let both = one_token_of l.0 t.kind u.kind l.1 m.1 l.3 (subst (λ (w : List ℕ). IsTokenAt w u.kind m.1) (sym same) m.3) in
    let places : t.place ≡ u.place = l.4 ∙ ap (λ (w : List ℕ). place_of file total w l.1) same
    ∙ ap (λ (w : List ℕ). place_of file total m.0 w) both.1 ∙ sym m.4 in
    let others = one_list file total l.1 ts us l.5 (subst (λ (w : List ℕ). LexesFrom file total w us) (sym both.1) m.5) in
    ap (λ (x : Token). x ∷ ts) (same_token t u both.0 places) ∙ ap (λ (xs : List Token). u ∷ xs) others
  where
    same_token : (t u : Token) → t.kind ≡ u.kind → t.place ≡ u.place → t ≡ u
    same_token t u p q = λ i. record { kind = p i; place = q i }

-- one place is reached at which a fault stands
one_place : (bs x y : List ℕ) (f g : Code × List ℕ) → Reached bs x → Reached bs y → fault_at x ≡ Some f
    → fault_at y ≡ Some g → x ≡ y
one_place bs x y f g (here p) (here q) h k = one_stop bs x y p q (fault_stops x f h) (fault_stops y g k)
one_place bs x y f g (here p) (past {at = at} {after = after} {k = l} q t r) h k =
    let same = one_stop bs x at p q (fault_stops x f h) (token_stops at l after t) in
    clean_token at l after f t (subst (λ (w : List ℕ). fault_at w ≡ Some f) same h)
one_place bs x y f g (past {at = at} {after = after} {k = l} q t r) (here p) h k =
    let same = one_stop bs y at p q (fault_stops y g k) (token_stops at l after t) in
    clean_token at l after g t (subst (λ (w : List ℕ). fault_at w ≡ Some g) same k)
one_place bs x y f g (past {at = at} {after = after} {k = l} p t r) (past {at = to} {after = later} {k = m} q u s) h k =
    let same = one_stop bs at to p q (token_stops at l after t) (token_stops to m later u) in
    let both = one_token_of at l m after later t (subst (λ (w : List ℕ). IsTokenAt w m later) (sym same) u) in
    one_place after x y f g r (subst (λ (w : List ℕ). Reached w y) (sym both.1) s) h k

-- where there is a list of tokens no fault is reached
pub no_fault_reached : (file total : ℕ) (bs x : List ℕ) (ts : List Token) (f : Code × List ℕ) → LexesFrom file total bs ts
    → Reached bs x → fault_at x ≡ Some f → ⊥
no_fault_reached file total bs x [] f l (here p) h =
    let same = one_stop bs [] x l p nil_stops (fault_stops x f h) in
    no_fault_of_none f (subst (λ (w : List ℕ). fault_at w ≡ Some f) (sym same) h)
no_fault_reached file total bs x [] f l (past {at = at} {after = after} {k = k} p t r) h =
    no_token_of_none at k after (sym (one_stop bs [] at l p nil_stops (token_stops at k after t))) t
no_fault_reached file total bs x (t ∷ ts) f l (here p) h =
    let same = one_stop bs x l.0 p l.2 (fault_stops x f h) (token_stops l.0 t.kind l.1 l.3) in
    clean_token l.0 t.kind l.1 f l.3 (subst (λ (w : List ℕ). fault_at w ≡ Some f) same h)
no_fault_reached file total bs x (t ∷ ts) f l (past {at = at} {after = after} {k = k} p u r) h =
    let same = one_stop bs l.0 at l.2 p (token_stops l.0 t.kind l.1 l.3) (token_stops at k after u) in
    let both = one_token_of l.0 t.kind k l.1 after l.3 (subst (λ (w : List ℕ). IsTokenAt w k after) (sym same) u) in
    no_fault_reached file total l.1 x ts f l.5 (subst (λ (w : List ℕ). Reached w x) (sym both.1) r) h

pub one_fault : (file : ℕ) (bytes : List ℕ) (f g : Fault) → IsFirstFault file bytes f → IsFirstFault file bytes g → f ≡ g
one_fault file bytes f g p q =
    let same = one_place bytes p.rest q.rest (f.code, p.text) (g.code, q.text) p.reached q.reached p.stands q.stands in
    let both : (f.code, p.text) ≡ (g.code, q.text) = same_Some (f.code, p.text) (g.code, q.text) (sym p.stands ∙ ap fault_at same
    ∙ q.stands) in
    let code : f.code ≡ g.code = ap (λ (w : Code × List ℕ). w.0) both in
    let text : p.text ≡ q.text = ap (λ (w : Code × List ℕ). w.1) both in
    let place : f.place ≡ g.place = p.place ∙ ap (λ (w : List ℕ). spot w p.text) same ∙ ap (λ (w : List ℕ). spot q.rest w) text
    ∙ sym q.place in
    let name : f.name ≡ g.name = p.name ∙ ap (λ (w : Code × List ℕ). name_in w.0 w.1) both ∙ sym q.name in
    same_fault f g code place name
  where
    spot : List ℕ → List ℕ → Place
    spot rest text = record { file = file; first = length bytes - length rest; end = (length bytes - length rest) + length text }

    same_fault : (f g : Fault) → f.code ≡ g.code → f.place ≡ g.place → f.name ≡ g.name → f ≡ g
    same_fault f g p q r = λ i. record { code = p i; place = q i; name = r i }
