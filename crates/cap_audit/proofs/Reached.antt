-- What the Spread has, runs reach; and so every edge of an audit.
use Rattle.std.proofs.Common.{rules}
use Rattle.cap_audit.proofs.Common.{Audited, Auth, Authority, Calls, Cap, Capability, IsKept, List, Quiet, Reaches, Shows, Some, Spec, Spread, State, Step, [], at_boot, boot, content_in, inr, is_at, label_of, node_at, of_bind, of_call, of_map}
use Rattle.cap_audit.proofs.Common.{of_save, of_spread, refl, subst, true, ℕ, ◌++◌, ◌≡◌}
use Rattle.authorities.specs.declared.authority.Authority.TheVariants as authorities
use Rattle.cap_model.specs.declared.kind.Kind.TheVariants as kinds
use Rattle.cap_audit.specs.Spread as spread
use Rattle.cap_audit.proofs.Quiet.{run_append, kept_at, there_by_lookup, slot_at_boot, boot_quiet, Lands, landed_there, lands_onward, quiet_cnode, Onward, onward_same, onward_then}
use Rattle.cap_audit.proofs.Sequences.{take_on, put_on, grant_on, reply_on, save_on, map_on, bind_on}

-- from any quiet state runs lead on to one in which c has the capability at some number
pub record Gets (spec : Spec) (s : State) (c : ℕ) (cap : Cap) : Type 0 where
  pub new : State
  pub onward : Onward spec s new
  pub number : ℕ
  pub there : content_in new c number ≡ Some (Capability cap)

-- what was there is there later on
stays : (spec : Spec) (s new : State) (c i : ℕ) (cap : Cap) → Onward spec s new → content_in s c i ≡ Some (Capability cap)
    → content_in new c i ≡ Some (Capability cap)
stays spec s new c i cap on h = kept_at s.nodes new.nodes c i (Capability cap) on.kept h

later : (spec : Spec) (s mid : State) (c : ℕ) (cap : Cap) → Onward spec s mid → Gets spec mid c cap → Gets spec s c cap
later spec s mid c cap on g = search (rules, onward_then)

module _ (spec : Spec) (kept : IsKept spec) where
  gets_landed : (s : State) (q : Quiet spec s) (d : ℕ) (cap : Cap) (steps : List Step) → is_at spec kinds.CNode d ≡ true
      → Lands spec s d cap steps → Gets spec s d cap
  gets_landed s q d cap steps is l = record {
    new = l.new;
    onward = lands_onward spec s q d cap steps l;
    number = (node_at s d).next;
    there = landed_there spec s q d cap steps is l;
  }

  pub spread_gets : (c : ℕ) (cap : Cap) → Spread spec c cap → (s : State) → Quiet spec s → Gets spec s c cap
  spread_gets c cap (spread.own i there) s q =
      record {
        new = s;
        onward = onward_same spec s q;
        number = i;
        there = kept_at (boot spec).nodes s.nodes c i (Capability cap)
            q.begun (slot_at_boot spec c i cap kept there);
      }
  spread_gets c cap (spread.take t to root of is has) s q =
      let a : Gets spec s c to = spread_gets c to of s q in
      let b : Gets spec a.new to.object cap = spread_gets to.object cap has a.new a.onward.quiet in
      let on = take_on spec b.new b.onward.quiet t c a.number b.number to cap root (stays spec a.new b.new c a.number to b.onward
      a.there) is b.there in
      search (rules, later, gets_landed, quiet_cnode)
  spread_gets d cap (spread.put t c to root of is same has) s q =
      let a : Gets spec s c to = spread_gets c to of s q in
      let b : Gets spec a.new c cap = spread_gets c cap has a.new a.onward.quiet in
      let on = put_on spec b.new b.onward.quiet t c a.number b.number to cap root (stays spec a.new b.new c a.number to b.onward
      a.there) is b.there in
      subst (λ (n : ℕ). Gets spec s n cap) same (later spec s a.new to.object cap a.onward
      (later spec a.new b.new to.object cap b.onward (gets_landed b.new b.onward.quiet to.object cap _ is on)))
  spread_gets d cap (spread.grant t u c to from roots of peer meet may has) s q =
      let a : Gets spec s c to = spread_gets c to of s q in
      let b : Gets spec a.new d from = spread_gets d from peer a.new a.onward.quiet in
      let e : Gets spec b.new c cap = spread_gets c cap has b.new b.onward.quiet in
      let own = stays spec b.new e.new c a.number to e.onward (stays spec a.new b.new c a.number to b.onward a.there) in
      let on = grant_on spec e.new e.onward.quiet t u c d a.number b.number e.number to from cap roots meet may own
      (stays spec b.new e.new d b.number from e.onward b.there) e.there in
      search (rules, later, gets_landed, quiet_cnode)
  spread_gets c cap (spread.reply t u d to from roots of peer meet may back has) s q =
      let a : Gets spec s c to = spread_gets c to of s q in
      let b : Gets spec a.new d from = spread_gets d from peer a.new a.onward.quiet in
      let e : Gets spec b.new d cap = spread_gets d cap has b.new b.onward.quiet in
      let own = stays spec b.new e.new c a.number to e.onward (stays spec a.new b.new c a.number to b.onward a.there) in
      let on = reply_on spec e.new e.onward.quiet t u c d a.number b.number to from roots meet may own
      (stays spec b.new e.new d b.number from e.onward b.there) e.number cap back e.there in
      search (rules, later, gets_landed, quiet_cnode)

  reaches : (labels : List ℕ) (new : State) (l : ℕ) (a : Authority) (m : ℕ) → Onward spec (boot spec) new
      → Auth spec labels new l a m → Reaches spec labels l a m
  reaches labels new l a m on auth = (on.steps, new, on.run, auth)

  -- both threads' capabilities for a call, at their numbers
  pub record CallReady (t : ℕ) (u : ℕ) (to : Cap) (from : Cap) : Type 0 where
    pub state : State
    pub onward : Onward spec (boot spec) state
    pub i : ℕ
    pub j : ℕ
    pub calls : Calls spec t u to from
    pub own : content_in state calls.root i ≡ Some (Capability to)
    pub listens : content_in state calls.peer_root j ≡ Some (Capability from)

  call_ready : (t u : ℕ) (to from : Cap) → Calls spec t u to from → CallReady t u to from
  call_ready t u to from calls =
      let a : Gets spec (boot spec) calls.root to = spread_gets calls.root to calls.has (boot spec) (boot_quiet spec kept) in
      let b : Gets spec a.new calls.peer_root from = spread_gets calls.peer_root from calls.peer_has a.new a.onward.quiet in
      record {
        state = b.new;
        onward = onward_then spec (boot spec) a.new b.new a.onward b.onward;
        i = a.number;
        j = b.number;
        calls = calls;
        own = stays spec a.new b.new calls.root a.number to b.onward a.there;
        listens = b.there;
      }

  shown_reached : (labels : List ℕ) (s : State) (l : ℕ) (a : Authority) (m : ℕ) (steps : List Step) → Onward spec (boot spec) s
      → Shows spec labels s steps l a m → Reaches spec labels l a m
  shown_reached labels s l a m steps on shown = (
    on.steps ++ shown.front,
    shown.state,
    run_append spec on.steps shown.front (boot spec) s shown.state on.run
        shown.run,
    shown.auth,
  )

  pub audited_reached : (labels : List ℕ) (l : ℕ) (a : Authority) (m : ℕ) → Audited spec labels l a m → Reaches spec labels l a m
  audited_reached labels l a m (at_boot e) = ([], boot spec, refl, inr e)
  audited_reached labels l a m (of_spread (c, cap, has, conf, from, to)) =
      let g : Gets spec (boot spec) c cap = spread_gets c cap has (boot spec) (boot_quiet spec kept) in
      search (rules, reaches, there_by_lookup)
  audited_reached labels l a m (of_map (frame, space, maps, conf, from, to)) =
      let x : Gets spec (boot spec) maps.root frame = search (rules, spread_gets, boot_quiet) in
      let y : Gets spec x.new maps.root space = spread_gets maps.root space maps.has x.new x.onward.quiet in
      let on = map_on spec y.new y.onward.quiet labels maps.thread maps.root x.number y.number frame space maps.rooted
      (stays spec x.new y.new maps.root x.number frame y.onward x.there) maps.is_frame y.there maps.is in
      rw (from, to) (reaches labels on.0 (label_of labels space.object) a (label_of labels frame.object)
      (onward_then spec (boot spec) y.new on.0 (onward_then spec (boot spec) x.new y.new x.onward y.onward) on.1) (on.4 a conf))
  audited_reached labels l a m (of_bind (d, n, binds, is, from, to)) =
      let x : Gets spec (boot spec) binds.root binds.irq = search (rules, spread_gets, boot_quiet) in
      let y : Gets spec x.new binds.root binds.bound = spread_gets binds.root binds.bound binds.has x.new x.onward.quiet in
      let on = bind_on spec y.new y.onward.quiet labels binds.thread binds.root x.number y.number binds.irq binds.bound
      binds.rooted (stays spec x.new y.new binds.root x.number binds.irq y.onward x.there) binds.is_irq y.there binds.is
      binds.writes in
      rw (from, is, to, ← binds.of_irq, ← binds.of_bound) (reaches labels on.0 (label_of labels binds.irq.object)
      authorities.AsyncSend (label_of labels binds.bound.object)
      (onward_then spec (boot spec) y.new on.0 (onward_then spec (boot spec) x.new y.new x.onward y.onward) on.1) on.4)
  audited_reached labels l a m (of_call (t, u, to, from, calls, is, out, in_to)) =
      let r : CallReady t u to from = call_ready t u to from calls in
      let on = save_on spec r.state r.onward.quiet t u r.calls.root r.calls.peer_root r.i r.j to from r.calls.roots r.calls.meet
      r.calls.may r.own r.listens labels in
      rw (out, is, in_to) (shown_reached labels r.state (label_of labels u) authorities.Reply (label_of labels t) on.1.steps
      r.onward on.3)
  audited_reached labels l a m (of_save (t, u, c, to, from, calls, root, is, out, in_to)) =
      let r : CallReady t u to from = call_ready t u to from calls in
      let on = save_on spec r.state r.onward.quiet t u r.calls.root r.calls.peer_root r.i r.j to from r.calls.roots r.calls.meet
      r.calls.may r.own r.listens labels in
      let same : r.calls.peer_root ≡ c = (let e = r.calls.roots.peer_root in cc) in
      rw (out, is, in_to, ← same) (shown_reached labels r.state (label_of labels r.calls.peer_root) authorities.Reply
      (label_of labels t) on.1.steps r.onward on.4)
