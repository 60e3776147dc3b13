-- The first end, or lock, of each kind tells the first reason of its kind.
use Rattle.explain.proofs.Common.{AtMost, Authority, BindReason, CallReason, Caller, ComesFirst, DirectReason, Edge, EndAt, FlatConnection, FlatEnd, Found, Given, Handler, Handles, IsEnd, IsFirstEnd, IsFirstLock, IsFirstOf, IsFirstReason, IsLeastEnd}
use Rattle.explain.proofs.Common.{IsLeastLock, IsSought, LockAt, LockHandler, LockReason, None, Option, Reason, Server, Signaller, Some, Tables, and_from, and_parts, ap, arith, by_bind, by_call, by_direct, by_lock, connection_label, domain_label}
use Rattle.explain.proofs.Common.{eq-eqb, eqb-true, from_any, from_end, from_end_at, from_signal, has_side, in_end, in_signal, is_async, is_reply, is_same_connector, is_same_role, is_side, leaf_label, numbers, refl, same_place, slice_get, stage}
use Rattle.explain.proofs.Common.{subst, sym, tell, told_of, true, true≢false, ℕ, ◌&&◌, ◌<◌, ◌==◌, ◌∙◌, ◌≡◌}
use Rattle.adl_ast.specs.declared.composition.Role.{Role}
use Rattle.adl_ast.specs.declared.composition.Role.TheVariants.{From, To}
use Rattle.adl_meaning.specs.declared.connector.Connector.TheVariants.{Rpc, Notification, Interrupt}
use Rattle.arch_policy.specs.Triples.{end_edges, signal_edges}
use Rattle.arch_policy.proofs.Lists.{has_in, in_any, in_has}
use Rattle.arch_policy.proofs.Same.{is_connector}
use Rattle.cap_model.specs.Edges.{edge}
use Rattle.cap_model.specs.Tables.{has}
use Rattle.authorities.specs.declared.authority.Authority.TheVariants.{AsyncSend, Reply}
use Rattle.conn_rules.specs.Row.{same_connector, same_role}
use Rattle.cam_base.specs.Gather.{IsIn}
use Rattle.cam_base.proofs.Gathered.{in_place, place_of}
use Rattle.explain.specs.declared.reason.Reason.{Reason as Told}
use Rattle.explain.specs.declared.reason.Rule.TheVariants.{Direct, ByCall, ByBind}
use Rattle.conn_rules.proofs.Roles.{is_role}

reply_is : (a : Authority) → is_reply a ≡ true → a ≡ Reply
reply_is Reply h = refl
reply_is _ h = absurd (true≢false (sym h))

async_is : (a : Authority) → is_async a ≡ true → a ≡ AsyncSend
async_is AsyncSend h = refl
async_is _ h = absurd (true≢false (sym h))

nothing : AtMost (0, 0) (0, 0)
nothing = record { by_first = omega arith; by_second = λ same. omega arith }

module _ (t : Tables) (e : Edge) where
  abbrev End : Type 0
  End = EndAt t.flat

  -- ---- ends by role and label

  side_parts : (r : Role) (l : ℕ) (x : FlatEnd) → is_side t r l x ≡ true → (x.role ≡ r) × (l ≡ leaf_label t x.leaf)
  side_parts r l x h = let p = and_parts (same_role x.role r) (leaf_label t x.leaf == l) h in
      (is_role x.role r p.0, sym (eqb-true (leaf_label t x.leaf) l p.1))

  of_side : (r : Role) (l : ℕ) (x : FlatEnd) → x.role ≡ r → l ≡ leaf_label t x.leaf → is_side t r l x ≡ true
  of_side r l x role label = and_from (same_role x.role r) (leaf_label t x.leaf == l) (is_same_role x.role r role)
      (eq-eqb (leaf_label t x.leaf) l (sym label))

  -- an end of x's connection
  record Beside (x : End) (r : Role) (l : ℕ) : Type 0 where
    at : End
    same : at.place ≡ x.place
    connection : at.connection ≡ x.connection
    role : at.end.role ≡ r
    label : l ≡ leaf_label t at.end.leaf

  from_side : (x : End) (r : Role) (l : ℕ) → has_side t r l x.connection ≡ true → Beside x r l
  from_side x r l h =
      let g = from_any (is_side t r l) x.connection.ends h in
      let p = place_of g.0 x.connection.ends g.1 in
      let w = side_parts r l g.0 g.2 in
      record {
        at = record { place = x.place; connection = x.connection; here = x.here; number = p.0; end = g.0; stands = p.1 };
        same = refl;
        connection = refl;
        role = w.0;
        label = w.1;
      }

  in_side : (x y : End) (r : Role) (l : ℕ) → y.place ≡ x.place → y.end.role ≡ r → l ≡ leaf_label t y.end.leaf
      → has_side t r l x.connection ≡ true
  in_side x y r l same role label =
      let is = same_place t x y same in
      let there : IsIn y.end x.connection.ends = subst (λ (c : FlatConnection). IsIn y.end c.ends) is
      (in_place y.end y.connection.ends y.number y.stands) in
      in_any (is_side t r l) y.end x.connection.ends there (of_side r l y.end role label)

  found_numbers : (x : End) (f : Found) (p : ℕ × ℕ) → p ≡ (f.place, f.number) → f ≡ record {
    place = x.place;
    number = x.number;
    label = leaf_label t x.end.leaf;
  } → p ≡ numbers x
  found_numbers x f p e is = e ∙ ap (λ (z : Found). let q : ℕ × ℕ = (z.place, z.number) in q) is

  -- ---- direct

  pub direct_first : (f : Found) (p : ℕ × ℕ) → p ≡ (f.place, f.number) → IsLeastEnd t e Given f
      → IsFirstOf (DirectReason t e) (λ d. told_of t e (by_direct d)) (Some (tell Direct p None None))
  direct_first f p at l =
      let x = l.at in
      let i : IsIn e (end_edges t x.place x.connection x.number x.end) =
      has_in e (end_edges t x.place x.connection x.number x.end) l.sought.fitting in
      let is = found_numbers x f p at l.is in
      let there = from_end_at t x.place x.number x.connection x.end x.here x.stands e i in (
        from_end t x.place x.number x.connection x.end x.here x.stands e i,
        ap (λ z. tell Direct z None None) (ap (λ (z : End). numbers z) there ∙ sym is),
        λ y. record {
          by_stage = omega arith;
          by_first = λ s. subst (λ z. AtMost z (numbers y.at)) (sym is)
              (l.least y.at
              (record {
                opened = refl;
                fitting = in_has e (end_edges t y.at.place y.at.connection y.at.number y.at.end)
                    (in_end t e y);
              }));
          by_other = λ s q. nothing;
        },
      )

  pub direct_none : IsFirstEnd t e Given None → DirectReason t e → ⊥
  direct_none none y =
      none y.at (record {
        opened = refl;
        fitting = in_has e (end_edges t y.at.place y.at.connection y.at.number y.at.end)
            (in_end t e y);
      })

  -- ---- call

  caller_sought : (c : CallReason t e) → IsSought t e Caller c.caller
  caller_sought c = record {
    opened = and_from (is_reply e.authority) (same_connector c.caller.connection.connector Rpc
        && has_side t To e.from c.caller.connection) (ap is_reply c.authority)
        (and_from (same_connector c.caller.connection.connector Rpc) (has_side t To e.from c.caller.connection)
        (is_same_connector c.caller.connection.connector Rpc c.calls.connector)
        (in_side c.caller c.server To e.from c.same c.serves.role c.from));
    fitting = of_side From e.to c.caller.end c.calls.role c.to;
  }

  server_sought : (c : CallReason t e) (j : ℕ) → c.caller.place ≡ j → IsSought t e (Server j) c.server
  server_sought c j same = record {
    opened = eq-eqb c.server.place j (c.same ∙ same);
    fitting = of_side To e.from c.server.end c.serves.role c.from;
  }

  abbrev called : (x y : End) (j : ℕ) → j ≡ x.place → IsSought t e Caller x → IsSought t e (Server j) y → CallReason t e
  called x y j here a b =
      let p = and_parts (is_reply e.authority) (same_connector x.connection.connector Rpc
      && has_side t To e.from x.connection) a.opened in
      let q = and_parts (same_connector x.connection.connector Rpc) (has_side t To e.from x.connection) p.1 in
      let rpc = is_connector x.connection.connector Rpc q.0 in
      let from = side_parts From e.to x.end a.fitting in
      let to = side_parts To e.from y.end b.fitting in
      let same : y.place ≡ x.place = eqb-true y.place j b.opened ∙ here in
      record {
        caller = x;
        calls = record { connector = rpc; role = from.0 };
        server = y;
        serves = record { connector = ap (λ (z : FlatConnection). z.connector) (same_place t x y same) ∙ rpc; role = to.0 };
        same = same;
        from = to.1;
        authority = reply_is e.authority p.0;
        to = from.1;
      }

  pub call_first : (f g : Found) (p q : ℕ × ℕ) → p ≡ (f.place, f.number) → q ≡ (g.place, g.number) → IsLeastEnd t e Caller f
      → IsLeastEnd t e (Server f.place) g
      → IsFirstOf (CallReason t e) (λ c. told_of t e (by_call c)) (Some (tell ByCall p (Some q) None))
  call_first f g p q at bt l m =
      let x = l.at in
      let y = m.at in
      let is = found_numbers x f p at l.is in
      let js = found_numbers y g q bt m.is in
      let here : f.place ≡ x.place = ap (λ (z : Found). z.place) l.is in (
        called x y f.place here l.sought m.sought,
        ap (λ z. tell ByCall z (Some (numbers y)) None) (sym is) ∙ ap (λ z. tell ByCall p (Some z) None) (sym js),
        λ c. record {
          by_stage = omega arith;
          by_first = λ s. subst (λ z. AtMost z (numbers c.caller)) (sym is) (l.least c.caller (caller_sought c));
          by_other = λ s same.
              let places : x.place ≡ c.caller.place = ap (λ (z : ℕ × ℕ). z.0) (sym is ∙ same) in
              subst (λ z. AtMost z (numbers c.server)) (sym js)
              (m.least c.server (server_sought c f.place (sym places ∙ sym here)));
        },
      )

  pub call_none : IsFirstEnd t e Caller None → CallReason t e → ⊥
  call_none none c = none c.caller (caller_sought c)

  -- a caller has its server
  pub served : (f : Found) → IsLeastEnd t e Caller f → IsFirstEnd t e (Server f.place) None → ⊥
  served f l none =
      let x = l.at in
      let p = and_parts (is_reply e.authority) (same_connector x.connection.connector Rpc && has_side t To e.from x.connection)
      l.sought.opened in
      let q = and_parts (same_connector x.connection.connector Rpc) (has_side t To e.from x.connection) p.1 in
      let b = from_side x To e.from q.1 in
      let here : f.place ≡ x.place = ap (λ (z : Found). z.place) l.is in
      none b.at (record {
        opened = eq-eqb b.at.place f.place (b.same ∙ sym here);
        fitting = of_side To e.from b.at.end b.role b.label;
      })

  -- ---- interrupts

  abbrev Interrupts : End → Type 0
  Interrupts x = is_async e.authority && (same_connector x.connection.connector Interrupt
      && has_side t From e.from x.connection) ≡ true

  abbrev handles_of : (x : End) (l : ℕ) → Interrupts x → x.end.role ≡ To → l ≡ leaf_label t x.end.leaf
      → (e.authority ≡ AsyncSend) × Handles t l e.from
  handles_of x l opened role label =
      let p = and_parts (is_async e.authority) (same_connector x.connection.connector Interrupt
      && has_side t From e.from x.connection) opened in
      let q = and_parts (same_connector x.connection.connector Interrupt) (has_side t From e.from x.connection) p.1 in
      let is = is_connector x.connection.connector Interrupt q.0 in
      let b = from_side x From e.from q.1 in (
        async_is e.authority p.0,
        record {
          handler = x;
          handles = record { connector = is; role = role };
          source = b.at;
          interrupts = record { connector = ap (λ (z : FlatConnection). z.connector) b.connection ∙ is; role = b.role };
          same = b.same;
          label_is = label;
          device_is = b.label;
        },
      )

  opened_by : (l : ℕ) (h : Handles t l e.from) → e.authority ≡ AsyncSend → Interrupts h.handler
  opened_by l h a =
      and_from (is_async e.authority) (same_connector h.handler.connection.connector Interrupt
      && has_side t From e.from h.handler.connection) (ap is_async a)
      (and_from (same_connector h.handler.connection.connector Interrupt) (has_side t From e.from h.handler.connection)
      (is_same_connector h.handler.connection.connector Interrupt h.handles.connector)
      (in_side h.handler h.source From e.from h.same h.interrupts.role h.device_is))

  -- ---- bind

  handler_sought : (b : BindReason t e) → IsSought t e Handler b.handles.handler
  handler_sought b =
      let x = b.handles.handler in
      let i = in_signal t b.signaller b.signals in
      let from : leaf_label t b.signaller.end.leaf ≡ leaf_label t x.end.leaf = sym b.same ∙ b.handles.label_is in
      let P : ℕ → Type 0 = λ z. IsIn (edge z AsyncSend (connection_label t b.signaller.place)) (signal_edges t) in
      let Q : ℕ → Type 0 = λ z. IsIn (edge (leaf_label t x.end.leaf) AsyncSend z) (signal_edges t) in
      let there = in_has (edge (leaf_label t x.end.leaf) AsyncSend e.to) (signal_edges t) (subst Q (sym b.to) (subst P from i)) in
      record {
        opened = opened_by b.label b.handles b.authority;
        fitting = and_from (same_role x.end.role To) (has (signal_edges t) (edge (leaf_label t x.end.leaf) AsyncSend e.to))
            (is_same_role x.end.role To b.handles.handles.role) there;
      }

  signaller_sought : (y : End) → IsEnd Notification From y → (l : ℕ) → l ≡ leaf_label t y.end.leaf
      → e.to ≡ connection_label t y.place → IsSought t e (Signaller l) y
  signaller_sought y s l label to = record {
    opened = and_from (same_connector y.connection.connector Notification) (connection_label t y.place == e.to)
        (is_same_connector y.connection.connector Notification s.connector) (eq-eqb (connection_label t y.place) e.to (sym to));
    fitting = of_side From l y.end s.role label;
  }

  abbrev bound : (x y : End) (l : ℕ) → l ≡ leaf_label t x.end.leaf → IsSought t e Handler x → IsSought t e (Signaller l) y
      → BindReason t e
  bound x y l label a b =
      let role = and_parts (same_role x.end.role To) (has (signal_edges t) (edge (leaf_label t x.end.leaf) AsyncSend e.to))
      a.fitting in
      let h = handles_of x l a.opened (is_role x.end.role To role.0) label in
      let p = and_parts (same_connector y.connection.connector Notification) (connection_label t y.place == e.to) b.opened in
      let s = side_parts From l y.end b.fitting in
      record {
        label = l;
        handles = h.1;
        signaller = y;
        signals = record { connector = is_connector y.connection.connector Notification p.0; role = s.0 };
        same = s.1;
        authority = h.0;
        to = sym (eqb-true (connection_label t y.place) e.to p.1);
      }

  same_end : (x y : End) → numbers x ≡ numbers y → leaf_label t y.end.leaf ≡ leaf_label t x.end.leaf
  same_end x y same =
      let place : y.place ≡ x.place = ap (λ (z : ℕ × ℕ). z.0) (sym same) in
      let number : y.number ≡ x.number = ap (λ (z : ℕ × ℕ). z.1) (sym same) in
      let c = same_place t x y place in
      let both : Some y.end ≡ Some x.end = sym y.stands ∙ ap (λ (d : FlatConnection). slice_get d.ends y.number) c
      ∙ ap (slice_get x.connection.ends) number ∙ x.stands in
      let is : y.end ≡ x.end = cc in
      ap (λ (z : FlatEnd). leaf_label t z.leaf) is

  pub bind_first : (f g : Found) (p q : ℕ × ℕ) → p ≡ (f.place, f.number) → q ≡ (g.place, g.number) → IsLeastEnd t e Handler f
      → IsLeastEnd t e (Signaller f.label) g
      → IsFirstOf (BindReason t e) (λ b. told_of t e (by_bind b)) (Some (tell ByBind p (Some q) None))
  bind_first f g p q at bt l m =
      let x = l.at in
      let y = m.at in
      let is = found_numbers x f p at l.is in
      let js = found_numbers y g q bt m.is in
      let label : f.label ≡ leaf_label t x.end.leaf = ap (λ (z : Found). z.label) l.is in (
        bound x y f.label label l.sought m.sought,
        ap (λ z. tell ByBind z (Some (numbers y)) None) (sym is) ∙ ap (λ z. tell ByBind p (Some z) None) (sym js),
        λ b. record {
          by_stage = omega arith;
          by_first = λ s. subst (λ z. AtMost z (numbers b.handles.handler)) (sym is)
              (l.least b.handles.handler (handler_sought b));
          by_other = λ s same.
              let labels = same_end x b.handles.handler (sym is ∙ same) in
              subst (λ z. AtMost z (numbers b.signaller)) (sym js)
              (m.least b.signaller (signaller_sought b.signaller b.signals f.label (label ∙ sym labels ∙ sym b.handles.label_is
              ∙ b.same) b.to));
        },
      )

  pub bind_none : IsFirstEnd t e Handler None → BindReason t e → ⊥
  bind_none none b = none b.handles.handler (handler_sought b)

  -- a handler that signals has the end by which it does
  pub signalled : (f : Found) → IsLeastEnd t e Handler f → IsFirstEnd t e (Signaller f.label) None → ⊥
  signalled f l none =
      let x = l.at in
      let s = and_parts (same_role x.end.role To) (has (signal_edges t) (edge (leaf_label t x.end.leaf) AsyncSend e.to))
      l.sought.fitting in
      let i = from_signal t (edge (leaf_label t x.end.leaf) AsyncSend e.to)
      (has_in (edge (leaf_label t x.end.leaf) AsyncSend e.to) (signal_edges t) s.1) in
      let label : f.label ≡ leaf_label t x.end.leaf = ap (λ (z : Found). z.label) l.is in
      let from : leaf_label t i.at.end.leaf ≡ leaf_label t x.end.leaf = ap (λ (z : Edge). z.from) i.edge_is in
      none i.at (signaller_sought i.at i.is f.label (label ∙ sym from) (ap (λ (z : Edge). z.to) (sym i.edge_is)))

  -- ---- lock

  lock_sought : (k : LockReason t e) → IsSought t e LockHandler k.handles.handler
  lock_sought k = record {
    opened = opened_by e.to k.handles k.authority;
    fitting = of_side To e.to k.handles.handler.end k.handles.handles.role k.handles.label_is;
  }

  abbrev locked : (x : End) (k : LockAt t.source t.flat) → IsSought t e LockHandler x → domain_label t k.domain ≡ e.to
      → LockReason t e
  locked x k a own =
      let s = side_parts To e.to x.end a.fitting in
      let h = handles_of x e.to a.opened s.0 s.1 in
      record { handles = h.1; lock = k; has = sym own; authority = h.0 }

  pub lock_first : (f : Found) (p q : ℕ × ℕ) → p ≡ (f.place, f.number) → IsLeastEnd t e LockHandler f → IsLeastLock t e.to q
      → IsFirstOf (LockReason t e) (λ k. told_of t e (by_lock k)) (Some (tell ByBind p None (Some q)))
  lock_first f p q at l m =
      let x = l.at in
      let is = found_numbers x f p at l.is in (
        locked x m.lock l.sought m.own,
        ap (λ z. tell ByBind z None (Some (m.lock.leaf, m.lock.member))) (sym is)
            ∙ ap (λ z. tell ByBind p None (Some z)) (sym m.is),
        λ k. record {
          by_stage = omega arith;
          by_first = λ s. subst (λ z. AtMost z (numbers k.handles.handler)) (sym is) (l.least k.handles.handler (lock_sought k));
          by_other = λ s same. m.least k.lock (sym k.has);
        },
      )

  pub lock_none : IsFirstEnd t e LockHandler None → LockReason t e → ⊥
  lock_none none k = none k.handles.handler (lock_sought k)

  pub unlocked : IsFirstLock t e.to None → LockReason t e → ⊥
  unlocked none k = none k.lock (sym k.has)

  -- ---- all four

  earlier : (r q : Told) → stage r < stage q → ComesFirst r q
  earlier r q l = record {
    by_stage = omega (arith, l);
    by_first = λ s. absurd (omega (arith, l, s));
    by_other = λ s. absurd (omega (arith, l, s));
  }

  conflict : e.authority ≡ Reply → e.authority ≡ AsyncSend → ⊥
  conflict p q = cc

  pub direct_all : (r : Told) → IsFirstOf (DirectReason t e) (λ d. told_of t e (by_direct d)) (Some r)
      → IsFirstOf (Reason t e) (told_of t e) (Some r)
  direct_all r f = (by_direct f.0, f.1, go) where
    first : stage r ≡ 0
    first = ap stage (sym f.1)

    go : (y : Reason t e) → ComesFirst r (told_of t e y)
    go (by_direct y) = f.2 y
    go (by_call y) = earlier r (told_of t e (by_call y)) (omega (arith, first))
    go (by_bind y) = earlier r (told_of t e (by_bind y)) (omega (arith, first))
    go (by_lock y) = earlier r (told_of t e (by_lock y)) (omega (arith, first))

  pub call_all : (r : Told) → (DirectReason t e → ⊥) → IsFirstOf (CallReason t e) (λ c. told_of t e (by_call c)) (Some r)
      → IsFirstOf (Reason t e) (told_of t e) (Some r)
  call_all r none f = (by_call f.0, f.1, go) where
    go : (y : Reason t e) → ComesFirst r (told_of t e y)
    go (by_direct y) = absurd (none y)
    go (by_call y) = f.2 y
    go (by_bind y) = absurd (conflict f.0.authority y.authority)
    go (by_lock y) = absurd (conflict f.0.authority y.authority)

  pub bind_all : (r : Told) → (DirectReason t e → ⊥) → (CallReason t e → ⊥)
      → IsFirstOf (BindReason t e) (λ b. told_of t e (by_bind b)) (Some r) → IsFirstOf (Reason t e) (told_of t e) (Some r)
  bind_all r none uncalled f = (by_bind f.0, f.1, go) where
    first : stage r ≡ 1
    first = ap stage (sym f.1)

    go : (y : Reason t e) → ComesFirst r (told_of t e y)
    go (by_direct y) = absurd (none y)
    go (by_call y) = absurd (uncalled y)
    go (by_bind y) = f.2 y
    go (by_lock y) = earlier r (told_of t e (by_lock y)) (omega (arith, first))

  pub lock_all : (o : Option Told) → (DirectReason t e → ⊥) → (CallReason t e → ⊥) → (BindReason t e → ⊥)
      → IsFirstOf (LockReason t e) (λ k. told_of t e (by_lock k)) o → IsFirstOf (Reason t e) (told_of t e) o
  lock_all None none uncalled unbound f = go where
    go : Reason t e → ⊥
    go (by_direct y) = none y
    go (by_call y) = uncalled y
    go (by_bind y) = unbound y
    go (by_lock y) = f y
  lock_all (Some r) none uncalled unbound f = (by_lock f.0, f.1, go) where
    go : (y : Reason t e) → ComesFirst r (told_of t e y)
    go (by_direct y) = absurd (none y)
    go (by_call y) = absurd (uncalled y)
    go (by_bind y) = absurd (unbound y)
    go (by_lock y) = f.2 y

  pub reasoned_first : (o : Option Told) → (e.from ≡ e.to → ⊥) → IsFirstOf (Reason t e) (told_of t e) o → IsFirstReason t e o
  reasoned_first None differ none = λ y. none y.reason
  reasoned_first (Some r) differ f = (record { differ = differ; reason = f.0 }, f.1, λ y. f.2 y.reason)
