-- What one edge asks for is of the least certificate, and all of it is made.
use Rattle.least_cert.proofs.Common.{AddsAll, AreAsked, AreGifts, AreOut, ArePassed, AreTo, AsyncSend, Authority, Call, Closure, Control, Edge, Flows, GivesAll, Grant, GrantBack, Grows, Handle, Has, InLeast, IsGift, IsSound, JoinsEnds, KeepsRules}
use Rattle.least_cert.proofs.Common.{List, Looks, OfLeast, Receive, edge, filter_map, from_other, has, passed_to, refl, subst, sym, to_other, true, ℕ, ◌∙◌, ◌≡◌}
use Rattle.least_cert.proofs.Growth.{gifted_grows, grows_then, knows_grows}
use Rattle.least_cert.proofs.LeastKeeps.{least_keeps}
use Rattle.least_cert.proofs.Listing.{from_mapped, to_mapped}
use Rattle.least_cert.proofs.Passing.{from_other_is, from_other_made, passed_is, passes_on, to_other_is, to_other_made}

module _ (c : Closure) (sound : IsSound c) (f : Edge) (known : has c.queue f ≡ true) where
  rules : KeepsRules c.spec c.labels (InLeast c.spec c.labels)
  rules = least_keeps c.spec c.labels

  here : InLeast c.spec c.labels f.from f.authority f.to
  here = sound.least f known

  here_as : (a : Authority) → f.authority ≡ a → InLeast c.spec c.labels f.from a f.to
  here_as a is = subst (λ (x : Authority). InLeast c.spec c.labels f.from x f.to) is here

  there : (l : ℕ) (a : Authority) (m : ℕ) → Has c.queue l a m → InLeast c.spec c.labels l a m
  there l a m h = sound.least (edge l a m) h

  pub are_passed : (gifts edges : List Edge) → AreOut c.gives f.from Grant gifts
      → edges ≡ filter_map (λ (gift : Edge). passed_to gift.to f) gifts → ArePassed c f edges
  are_passed gifts edges out made = record {
    only = λ e h.
        let from = from_mapped (λ (gift : Edge). passed_to gift.to f) gifts e
        (subst (λ (xs : List Edge). has xs e ≡ true) made h) in
        let gift : Edge = from.0 in
        let is = passed_is gift.to f e from.2 in
        subst (λ (x : Edge). OfLeast c x) is.1 (sound.flows f.from gift.to (out.only gift from.1) f.authority f.to is.0 here);
    every = λ r other h.
        subst (λ (xs : List Edge). Has xs r f.authority f.to) (sym made)
        (to_mapped (λ (gift : Edge). passed_to gift.to f) gifts (edge f.from Grant r) (edge r f.authority f.to) (out.every r h)
        (passes_on r f other));
  }

  -- ---- signals

  module _ (peers edges : List Edge) where
    pub asked_handle : f.authority ≡ Handle → AreOut c.queue f.from AsyncSend peers
        → edges ≡ filter_map (to_other AsyncSend f.to) peers → AreAsked c f edges
    asked_handle is out made = record {
      only = λ e h.
          let from = from_mapped (to_other AsyncSend f.to) peers e (subst (λ (xs : List Edge). has xs e ≡ true) made h) in
          let p : Edge = from.0 in
          let made_is = to_other_is AsyncSend f.to p e from.2 in
          subst (λ (x : Edge). OfLeast c x) made_is.1 (rules.bind f.from f.to p.to (here_as Handle is)
          (there f.from AsyncSend p.to (out.only p from.1)) (λ same. made_is.0 (sym same)));
      of_handle = λ auth n h other.
          subst (λ (xs : List Edge). Has xs f.to AsyncSend n) (sym made)
          (to_mapped (to_other AsyncSend f.to) peers (edge f.from AsyncSend n) (edge f.to AsyncSend n) (out.every n h)
          (to_other_made AsyncSend f.to (edge f.from AsyncSend n) (λ same. other (sym same))));
      of_send = λ auth. absurd (let e : ◌≡◌ {A = Authority} Handle AsyncSend = sym is ∙ auth in cc);
    }

    pub asked_send : f.authority ≡ AsyncSend → AreOut c.queue f.from Handle peers
        → edges ≡ filter_map (from_other AsyncSend f.to) peers → AreAsked c f edges
    asked_send is out made = record {
      only = λ e h.
          let from = from_mapped (from_other AsyncSend f.to) peers e (subst (λ (xs : List Edge). has xs e ≡ true) made h) in
          let p : Edge = from.0 in
          let made_is = from_other_is AsyncSend f.to p e from.2 in
          subst (λ (x : Edge). OfLeast c x) made_is.1 (rules.bind f.from p.to f.to (there f.from Handle p.to (out.only p from.1))
          (here_as AsyncSend is) made_is.0);
      of_handle = λ auth. absurd (let e : ◌≡◌ {A = Authority} AsyncSend Handle = sym is ∙ auth in cc);
      of_send = λ auth d h other.
          subst (λ (xs : List Edge). Has xs d AsyncSend f.to) (sym made)
          (to_mapped (from_other AsyncSend f.to) peers (edge f.from Handle d) (edge d AsyncSend f.to) (out.every d h)
          (from_other_made AsyncSend f.to (edge f.from Handle d) other));
    }

  -- ---- gifts

  gift_as : (x e : Edge) → x ≡ e → IsGift c x → IsGift c e
  gift_as x e is h = subst (λ (y : Edge). IsGift c y) is h

  module _ (peers gifts : List Edge) where
    pub gifts_grant : f.authority ≡ Grant → AreTo c.queue f.to Receive peers → gifts ≡ filter_map (to_other Grant f.from) peers
        → AreGifts c f gifts
    gifts_grant is to made = record {
      only = λ e h.
          let from = from_mapped (to_other Grant f.from) peers e (subst (λ (xs : List Edge). has xs e ≡ true) made h) in
          let p : Edge = from.0 in
          gift_as (edge f.from Grant p.to) e (to_other_is Grant f.from p e from.2).1
          (record {
            grant = refl;
            flows = λ a x other g. rules.grant f.from f.to p.to a x (here_as Grant is)
                (there p.to Receive f.to (to.only p from.1)) other g;
          });
      of_grant = λ auth r h other.
          subst (λ (xs : List Edge). Has xs f.from Grant r) (sym made)
          (to_mapped (to_other Grant f.from) peers (edge f.to Receive r) (edge f.from Grant r) (to.every r h)
          (to_other_made Grant f.from (edge f.to Receive r) (λ same. other (sym same))));
      of_receive = λ auth. absurd (let e : ◌≡◌ {A = Authority} Grant Receive = sym is ∙ auth in cc);
      of_call = λ auth. absurd (let e : ◌≡◌ {A = Authority} Grant Call = sym is ∙ auth in cc);
      of_grant_back = λ auth. absurd (let e : ◌≡◌ {A = Authority} Grant GrantBack = sym is ∙ auth in cc);
    }

    pub gifts_receive : f.authority ≡ Receive → AreTo c.queue f.to Grant peers
        → gifts ≡ filter_map (from_other Grant f.from) peers → AreGifts c f gifts
    gifts_receive is to made = record {
      only = λ e h.
          let from = from_mapped (from_other Grant f.from) peers e (subst (λ (xs : List Edge). has xs e ≡ true) made h) in
          let p : Edge = from.0 in
          gift_as (edge p.to Grant f.from) e (from_other_is Grant f.from p e from.2).1
          (record {
            grant = refl;
            flows = λ a x other g. rules.grant p.to f.to f.from a x
                (there p.to Grant f.to (to.only p from.1)) (here_as Receive is) other g;
          });
      of_grant = λ auth. absurd (let e : ◌≡◌ {A = Authority} Receive Grant = sym is ∙ auth in cc);
      of_receive = λ auth s h other.
          subst (λ (xs : List Edge). Has xs s Grant f.from) (sym made)
          (to_mapped (from_other Grant f.from) peers (edge f.to Grant s) (edge s Grant f.from) (to.every s h)
          (from_other_made Grant f.from (edge f.to Grant s) other));
      of_call = λ auth. absurd (let e : ◌≡◌ {A = Authority} Receive Call = sym is ∙ auth in cc);
      of_grant_back = λ auth. absurd (let e : ◌≡◌ {A = Authority} Receive GrantBack = sym is ∙ auth in cc);
    }

    pub gifts_call : f.authority ≡ Call → AreTo c.queue f.to GrantBack peers → gifts ≡ filter_map (from_other Grant f.from) peers
        → AreGifts c f gifts
    gifts_call is to made = record {
      only = λ e h.
          let from = from_mapped (from_other Grant f.from) peers e (subst (λ (xs : List Edge). has xs e ≡ true) made h) in
          let p : Edge = from.0 in
          gift_as (edge p.to Grant f.from) e (from_other_is Grant f.from p e from.2).1
          (record {
            grant = refl;
            flows = λ a x other g. rules.grant_back f.from f.to p.to a x (here_as Call is)
                (there p.to GrantBack f.to (to.only p from.1)) other g;
          });
      of_grant = λ auth. absurd (let e : ◌≡◌ {A = Authority} Call Grant = sym is ∙ auth in cc);
      of_receive = λ auth. absurd (let e : ◌≡◌ {A = Authority} Call Receive = sym is ∙ auth in cc);
      of_call = λ auth r h other.
          subst (λ (xs : List Edge). Has xs r Grant f.from) (sym made)
          (to_mapped (from_other Grant f.from) peers (edge f.to GrantBack r) (edge r Grant f.from) (to.every r h)
          (from_other_made Grant f.from (edge f.to GrantBack r) (λ same. other (sym same))));
      of_grant_back = λ auth. absurd (let e : ◌≡◌ {A = Authority} Call GrantBack = sym is ∙ auth in cc);
    }

    pub gifts_grant_back : f.authority ≡ GrantBack → AreTo c.queue f.to Call peers
        → gifts ≡ filter_map (to_other Grant f.from) peers → AreGifts c f gifts
    gifts_grant_back is to made = record {
      only = λ e h.
          let from = from_mapped (to_other Grant f.from) peers e (subst (λ (xs : List Edge). has xs e ≡ true) made h) in
          let p : Edge = from.0 in
          gift_as (edge f.from Grant p.to) e (to_other_is Grant f.from p e from.2).1
          (record {
            grant = refl;
            flows = λ a x other g. rules.grant_back p.to f.to f.from a x
                (there p.to Call f.to (to.only p from.1)) (here_as GrantBack is) other g;
          });
      of_grant = λ auth. absurd (let e : ◌≡◌ {A = Authority} GrantBack Grant = sym is ∙ auth in cc);
      of_receive = λ auth. absurd (let e : ◌≡◌ {A = Authority} GrantBack Receive = sym is ∙ auth in cc);
      of_call = λ auth. absurd (let e : ◌≡◌ {A = Authority} GrantBack Call = sym is ∙ auth in cc);
      of_grant_back = λ auth s h other.
          subst (λ (xs : List Edge). Has xs f.from Grant s) (sym made)
          (to_mapped (to_other Grant f.from) peers (edge f.to Call s) (edge f.from Grant s) (to.every s h)
          (to_other_made Grant f.from (edge f.to Call s) other));
    }

  -- ---- all of them, put in

  pub looks_at : (passed asked gifts : List Edge) (a b d new : Closure) → ArePassed c f passed → AreAsked c f asked
      → AreGifts c f gifts → AddsAll passed c a → AddsAll asked a b → GivesAll gifts b d → JoinsEnds f d new → Looks c f new
  looks_at passed asked gifts a b d new p q r add_p add_q give join =
      let of_b : Grows b new = grows_then b d new give.grows join.grows in
      let of_a : Grows a new = grows_then a b new add_q.grows of_b in
      record {
        grows = grows_then c a new add_p.grows of_a;
        passed = λ l other h. knows_grows a new of_a (edge l f.authority f.to)
            (add_p.there (edge l f.authority f.to) (p.every l other h));
        of_handle = λ auth l h other. knows_grows b new of_b (edge f.to AsyncSend l)
            (add_q.there (edge f.to AsyncSend l) (q.of_handle auth l h other));
        of_send = λ auth l h other. knows_grows b new of_b (edge l AsyncSend f.to)
            (add_q.there (edge l AsyncSend f.to) (q.of_send auth l h other));
        of_control = join.one;
        of_grant = λ auth l h other. gifted_grows d new join.grows f.from l
            (give.given (edge f.from Grant l) (r.of_grant auth l h other));
        of_receive = λ auth l h other. gifted_grows d new join.grows l f.from
            (give.given (edge l Grant f.from) (r.of_receive auth l h other));
        of_call = λ auth l h other. gifted_grows d new join.grows l f.from
            (give.given (edge l Grant f.from) (r.of_call auth l h other));
        of_grant_back = λ auth l h other. gifted_grows d new join.grows f.from l
            (give.given (edge f.from Grant l) (r.of_grant_back auth l h other));
      }

-- the ends of a Control edge flow into each other; any other edge joins nothing
module _ (c : Closure) (sound : IsSound c) (f : Edge) (least : OfLeast c f) where
  as_control : f.authority ≡ Control → InLeast c.spec c.labels f.from Control f.to
  as_control is = subst (λ (x : Authority). InLeast c.spec c.labels f.from x f.to) is least

  pub control_there : f.authority ≡ Control → Flows c.spec c.labels f.from f.to
  control_there is = λ a x other g. (least_keeps c.spec c.labels).control_out f.from f.to a x (as_control is) other g

  pub control_back : f.authority ≡ Control → Flows c.spec c.labels f.to f.from
  control_back is = λ a x other g. (least_keeps c.spec c.labels).control_back f.from f.to a x (as_control is) other g
