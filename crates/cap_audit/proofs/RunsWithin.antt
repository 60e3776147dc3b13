-- Every step keeps what lies in the Spread there, and so every run from the boot state lies in it.
use Rattle.std.proofs.Common.{rules}
use Rattle.cap_audit.proofs.Common.{Acts, AddedBy, Authority, Binds, Bool, Cap, Capability, Contains, Contains-from_lookup, Contains-push_cases, Content, ContentWithin, HasRoot, HaveRoots, Holds, HoldsNoThread, IsWithin, List, Mapped}
use Rattle.cap_audit.proofs.Common.{Meet, Node, None, Option, Owed, Own, Peer, Pending, Rights, Run, Saved, SavedReply, Some, Spec, Spread, State, Step, StepTo, ThreadState, [], added, and_parts, ap, arith, boot, both_rights, called}
use Rattle.cap_audit.proofs.Common.{content_in, dropped, false, from_filter, grown, grown_at, inl, inr, is_at, is_space_root, kind_confers, lessened, lessened_kind, no_node, node_at, nothing_pending, read_write, read_written, refl}
use Rattle.cap_audit.proofs.Common.{released, replied, saved, set, subst, sym, thread_at, true, waiting, with_pending, without, without_at, ℕ, ◌&&◌, ◌++◌, ◌==◌, ◌||◌, ◌∙◌, ◌∷◌, ◌≡◌}
use Rattle.authorities.specs.declared.authority.Authority.TheVariants as authorities
use Rattle.cap_model.specs.declared.kind.Kind.TheVariants as kinds
use Rattle.cap_machine.specs.declared.step.Step.TheVariants as steps
use Rattle.cap_audit.specs.Spread as spread
use Rattle.cap_audit.proofs.BootParts.{boot_root, boot_content}

and_assoc : (a b c : Bool) → (a && b) && c ≡ a && (b && c)
and_assoc true b c = refl
and_assoc false b c = refl

pub lessened_twice : (cap : Cap) (r q : Rights) → lessened (lessened cap r) q ≡ lessened cap (both_rights r q)
lessened_twice cap r q = search (rules, and_assoc)

and_itself : (a : Bool) → a && a ≡ a
and_itself true = refl
and_itself false = refl

pub lessened_itself : (cap : Cap) → lessened cap cap.rights ≡ cap
lessened_itself cap = search (rules, and_itself)

module _ (spec : Spec) where
  -- no capability of the Spread is to a thread
  no_thread_spreads : HoldsNoThread spec → (c : ℕ) (cap : Cap) → Spread spec c cap → is_at spec kinds.Thread cap.object ≡ true → ⊥
  no_thread_spreads none c cap (spread.own i there) = none c i cap there
  no_thread_spreads none c cap (spread.take t to rooted of is has) = no_thread_spreads none to.object cap has
  no_thread_spreads none d cap (spread.put t c to rooted of is same has) = no_thread_spreads none c cap has
  no_thread_spreads none d cap (spread.grant t u c to from roots of peer meet may has) = no_thread_spreads none c cap has
  no_thread_spreads none c cap (spread.reply t u d to from roots of peer meet may back has) = no_thread_spreads none d cap has

  -- copies of what is held are held, lessened

  lessen : (c : ℕ) (cap : Cap) (r : Rights) → Holds spec c cap → Holds spec c (lessened cap r)
  lessen c cap r h = record {
    whole = h.whole;
    rights = both_rights h.rights r;
    spread = h.spread;
    is = ap (λ (x : Cap). lessened x r) h.is ∙ lessened_twice h.whole h.rights r;
  }

  moves : (c d : ℕ) (cap : Cap) → ((whole : Cap) → Spread spec c whole → Spread spec d whole) → Holds spec c cap
      → Holds spec d cap
  moves c d cap way h = record { whole = h.whole; rights = h.rights; spread = way h.whole h.spread; is = h.is }

  object_is : (c : ℕ) (cap : Cap) (h : Holds spec c cap) → cap.object ≡ h.whole.object
  object_is c cap h = ap (λ (x : Cap). x.object) h.is

  -- what a held capability to an endpoint confers, the whole one confers
  whole_confers : (c : ℕ) (cap : Cap) (a : Authority) (h : Holds spec c cap) → kind_confers kinds.Endpoint cap.rights a ≡ true
      → kind_confers kinds.Endpoint h.whole.rights a ≡ true
  whole_confers c cap a h conf = search (rules, lessened_kind)

  whole_kind : (kind : ℕ → Bool) (c : ℕ) (cap : Cap) (h : Holds spec c cap) → kind cap.object ≡ true → kind h.whole.object ≡ true
  whole_kind kind c cap h is = subst (λ (n : ℕ). kind n ≡ true) (object_is c cap h) is

  whole_writes : (c : ℕ) (cap : Cap) (h : Holds spec c cap) → cap.rights.write ≡ true → h.whole.rights.write ≡ true
  whole_writes c cap h writes = search (rules, lessened_kind)

  module _ (s : State) (w : IsWithin spec s) where
    content_at : (c i : ℕ) (content : Content) → content_in s c i ≡ Some content → ContentWithin spec c content
    content_at c i content there = w.contents c i content (Contains-from_lookup {eq = λ q n. n == q} (λ x y h. grind arith) i
        content (node_at s c).slots there)

    holds_at : (c i : ℕ) (cap : Cap) → content_in s c i ≡ Some (Capability cap) → Holds spec c cap
    holds_at c i cap there = content_at c i (Capability cap) there

    rooted : (t c : ℕ) → (thread_at s t).root ≡ Some c → HasRoot spec t c
    rooted t c root = sym (boot_root spec t) ∙ (sym (w.roots t) ∙ root)

    -- one CNode anew
    node_within : (c : ℕ) (node : Node) → ((i : ℕ) (content : Content) → Contains node.slots (i, content)
        → ContentWithin spec c content) → IsWithin spec (record s { nodes = set s.nodes c node })
    node_within c node fine = record {
      contents = λ k i content there. elim (read_written s.nodes c k node no_node) [
        | inl e ↦ w.contents k i content (subst (λ (x : Node). Contains x.slots (i, content)) e there)
        | inr e ↦ subst (λ (n : ℕ). ContentWithin spec n content) (sym e.0)
            (fine i content (subst (λ (x : Node). Contains x.slots (i, content)) e.1 there))
      ];
      roots = w.roots;
      spaces = w.spaces;
      pending = w.pending;
      irqs = w.irqs;
      mapped = w.mapped;
    }

    grows : (c : ℕ) (content : Content) → ContentWithin spec c content
        → IsWithin spec (record s { nodes = grown_at s.nodes c content })
    grows c content fine = node_within c (grown (node_at s c) content)
        (λ i x there. elim (Contains-push_cases (node_at s c).slots ((node_at s c).next, content) (i, x) there) [
          | inl old ↦ w.contents c i x old
          | inr new ↦ (let same : content ≡ x = ap (λ (p : ℕ × Content). p.1) new in
              subst (λ (z : Content). ContentWithin spec c z) same fine)
        ])

    drops : (c i : ℕ) → IsWithin spec (record s { nodes = without_at s.nodes c i })
    drops c i = node_within c (without (node_at s c) i)
        (λ n x there. w.contents c n x (from_filter _ (node_at s c).slots (n, x) there))

    -- one thread anew, with root and space as they were
    thread_within : (t : ℕ) (thread : ThreadState) → thread.root ≡ (thread_at s t).root → thread.space ≡ (thread_at s t).space
        → ((reply : Pending) → thread.pending ≡ Some reply → Owed spec t reply)
        → IsWithin spec (record s { threads = set s.threads t thread })
    thread_within t thread root space owes = search (rules, read_written, set)

    waits_within : (t : ℕ) (b : Bool) → IsWithin spec (record s { threads = waiting s.threads t b })
    waits_within t b = thread_within t (record (thread_at s t) { waits = b }) refl refl (w.pending t)

    owes_none : (t : ℕ) → IsWithin spec (record s { threads = with_pending s.threads t None })
    owes_none t = thread_within t (record (thread_at s t) { pending = None }) refl refl (λ reply is. absurd cc)

    owes : (t : ℕ) (reply : Pending) → Owed spec t reply
        → IsWithin spec (record s { threads = with_pending s.threads t (Some reply) })
    owes t reply owed = thread_within t (record (thread_at s t) { pending = Some reply }) refl refl
        (λ q is. (let same : reply ≡ q = cc in subst (λ (q : Pending). Owed spec t q) same owed))

  replied_within : (s : State) (t caller : ℕ) → IsWithin spec s → IsWithin spec (replied s t caller)
  replied_within s t caller w = waits_within (record s { threads = with_pending s.threads t None }) (owes_none s w t) caller false

  released_within : (s : State) (c i caller : ℕ) → IsWithin spec s → IsWithin spec (released s c i caller)
  released_within s c i caller w = waits_within (dropped s c i) (drops s w c i) caller false

  -- two threads meet at an endpoint
  meets : (s : State) (t c u j d : ℕ) (to from : Cap) (w : IsWithin spec s) → Acts s t c
      → is_at spec kinds.Endpoint to.object ≡ true → (h : Holds spec c to)
      → (peer : Peer spec s t u j to.object d from) → (q : Holds spec d from) → HaveRoots spec t u c d × Meet spec h.whole q.whole
  meets s t c u j d to from w acts is h peer q = search (rules, rooted, whole_kind, object_is, whole_confers)

  -- the steps

  take_within : (s : State) (t c i j : ℕ) (to cap : Cap) (r : Rights) → IsWithin spec s → Acts s t c
      → Own (is_at spec kinds.CNode) s c i to → content_in s to.object j ≡ Some (Capability cap)
      → IsWithin spec (added s c (lessened cap r))
  take_within s t c i j to cap r w acts own there =
      let h : Holds spec c to = holds_at s w c i to own.there in
      let has : Holds spec h.whole.object cap = search (rules, object_is, holds_at) in
      grows s w c (Capability (lessened cap r))
      (lessen c cap r (moves h.whole.object c cap (λ whole of. spread.take t h.whole (rooted s w t c acts.root) h.spread
      (whole_kind (is_at spec kinds.CNode) c to h own.is) of) has))

  put_within : (s : State) (t c i j : ℕ) (to cap : Cap) (r : Rights) → IsWithin spec s → Acts s t c
      → Own (is_at spec kinds.CNode) s c i to → content_in s c j ≡ Some (Capability cap)
      → IsWithin spec (added s to.object (lessened cap r))
  put_within s t c i j to cap r w acts own there =
      let h : Holds spec c to = holds_at s w c i to own.there in
      grows s w to.object (Capability (lessened cap r))
      (lessen to.object cap r
      (moves c to.object cap (λ whole of. spread.put t c h.whole (rooted s w t c acts.root) h.spread
      (whole_kind (is_at spec kinds.CNode) c to h own.is) (sym (object_is c to h)) of)
      (holds_at s w c j cap there)))

  grant_within : (s : State) (t c i u j k d : ℕ) (to cap from : Cap) (r : Rights) → IsWithin spec s → Acts s t c
      → Own (is_at spec kinds.Endpoint) s c i to → to.rights.write && to.rights.grant ≡ true
      → content_in s c k ≡ Some (Capability cap) → Peer spec s t u j to.object d from → IsWithin spec (added s d (lessened cap r))
  grant_within s t c i u j k d to cap from r w acts own may there peer =
      let h : Holds spec c to = holds_at s w c i to own.there in
      let q : Holds spec d from = holds_at s w d j from peer.own.there in
      let m = meets s t c u j d to from w acts own.is h peer q in
      grows s w d (Capability (lessened cap r))
      (lessen d cap r
      (moves c d cap (λ whole of. spread.grant t u c h.whole q.whole m.0 h.spread q.spread m.1
      (whole_confers c to authorities.Grant h may) of) (holds_at s w c k cap there)))

  -- u owes t a reply
  call_within : (s : State) (t c i u j d : ℕ) (to from : Cap) → IsWithin spec s → Acts s t c
      → Own (is_at spec kinds.Endpoint) s c i to → to.rights.write && (to.rights.grant || to.rights.reply) ≡ true
      → Peer spec s t u j to.object d from → IsWithin spec (called s t u from.rights.grant)
  call_within s t c i u j d to from w acts own may peer =
      let h : Holds spec c to = holds_at s w c i to own.there in
      let q : Holds spec d from = holds_at s w d j from peer.own.there in
      let m = meets s t c u j d to from w acts own.is h peer q in
      let owed : Owed spec u (record { caller = t; grants = from.rights.grant }) = record {
        to = h.whole;
        from = q.whole;
        calls = search (rules, whole_confers);
        grants = search (rules, and_parts, whole_confers);
      } in
      waits_within (record s { threads = with_pending s.threads u (Some (record { caller = t; grants = from.rights.grant })) })
      (owes s w u (record { caller = t; grants = from.rights.grant }) owed) t true

  -- what c has goes to the root of the caller of a reply that a thread with the root c owes
  back : (u c d : ℕ) (reply : Pending) (cap : Cap) → HasRoot spec u c → HasRoot spec reply.caller d → Owed spec u reply
      → reply.grants ≡ true → Holds spec c cap → Holds spec d cap
  back u c d reply cap rooted caller_rooted owed grants h =
      let callers : owed.calls.root ≡ d = (let e = owed.calls.roots.root in cc) in
      let listeners : owed.calls.peer_root ≡ c = (let e = owed.calls.roots.peer_root in cc) in
      moves c d cap (λ whole of. subst (λ (n : ℕ). Spread spec n whole) callers (spread.reply reply.caller u owed.calls.peer_root
      owed.to owed.from owed.calls.roots owed.calls.has owed.calls.peer_has owed.calls.meet owed.calls.may
      (owed.grants grants) (subst (λ (n : ℕ). Spread spec n whole) (sym listeners) of))) h

  reply_within : (s : State) (t c k d : ℕ) (reply : Pending) (cap : Cap) (r : Rights) → IsWithin spec s → Acts s t c
      → (thread_at s t).pending ≡ Some reply → reply.grants ≡ true → content_in s c k ≡ Some (Capability cap)
      → (thread_at s reply.caller).root ≡ Some d → IsWithin spec (added (replied s t reply.caller) d (lessened cap r))
  reply_within s t c k d reply cap r w acts owes grants there root =
      grows (replied s t reply.caller) (replied_within s t reply.caller w) d (Capability (lessened cap r))
      (lessen d cap r (back t c d reply cap (rooted s w t c acts.root) (rooted s w reply.caller d root) (w.pending t reply owes)
      grants (holds_at s w c k cap there)))

  save_within : (s : State) (t c : ℕ) (reply : Pending) → IsWithin spec s → Acts s t c → (thread_at s t).pending ≡ Some reply
      → IsWithin spec (saved s t c reply)
  save_within s t c reply w acts owes =
      owes_none (record s { nodes = grown_at s.nodes c (SavedReply reply) })
      (grows s w c (SavedReply reply) (record { thread = t; root = rooted s w t c acts.root; owed = w.pending t reply owes })) t

  saved_within : (s : State) (c i k d : ℕ) (reply : Pending) (cap : Cap) (r : Rights) → IsWithin spec s
      → content_in s c i ≡ Some (SavedReply reply) → reply.grants ≡ true → content_in s c k ≡ Some (Capability cap)
      → (thread_at s reply.caller).root ≡ Some d → IsWithin spec (released (added s d (lessened cap r)) c i reply.caller)
  saved_within s c i k d reply cap r w there grants has root =
      let saved : Saved spec c reply = content_at s w c i (SavedReply reply) there in
      search (rules, released_within, grows, lessen, back, rooted, holds_at)

  map_within : (s : State) (t c i j : ℕ) (frame cap : Cap) (r : Rights) → IsWithin spec s → Acts s t c
      → Own (is_at spec kinds.Frame) s c i frame → Own (is_space_root spec) s c j cap → IsWithin spec (record s {
        mapped = s.mapped ++ record {
          space = cap.object;
          frame = frame.object;
          rights = both_rights frame.rights (read_write r);
        } ∷ [];
      })
  map_within s t c i j frame cap r w acts own of =
      let h : Holds spec c frame = holds_at s w c i frame own.there in
      let q : Holds spec c cap = holds_at s w c j cap of.there in
      let added : Mapped = record {
        space = cap.object;
        frame = frame.object;
        rights = both_rights frame.rights (read_write r);
      } in
      let by : AddedBy spec added = record {
        frame = h.whole;
        space = q.whole;
        rights = both_rights h.rights (read_write r);
        maps = record {
          thread = t;
          root = c;
          rooted = rooted s w t c acts.root;
          has_frame = h.spread;
          has = q.spread;
          is_frame = whole_kind (is_at spec kinds.Frame) c frame h own.is;
          is = whole_kind (is_space_root spec) c cap q of.is;
        };
        to = object_is c cap q;
        of = object_is c frame h;
        with_rights = search (rules, lessened_twice);
      } in
      record {
        contents = w.contents;
        roots = w.roots;
        spaces = w.spaces;
        pending = w.pending;
        irqs = w.irqs;
        mapped = λ m there. elim (Contains-push_cases s.mapped added m there) [
          | inl old ↦ w.mapped m old
          | inr same ↦
              subst (λ (x : Mapped). AddedBy spec x) same by
        ];
      }

  bind_within : (s : State) (t c i j : ℕ) (irq cap : Cap) → IsWithin spec s → Acts s t c → Own (is_at spec kinds.Irq) s c i irq
      → Own (is_at spec kinds.Notification) s c j cap
      → cap.rights.write ≡ true → IsWithin spec (record s { irqs = set s.irqs irq.object (Some cap.object) })
  bind_within s t c i j irq cap w acts own of writes =
      let h : Holds spec c irq = holds_at s w c i irq own.there in
      let q : Holds spec c cap = holds_at s w c j cap of.there in
      let binds : Binds spec irq.object cap.object = record {
        thread = t;
        root = c;
        rooted = rooted s w t c acts.root;
        irq = h.whole;
        bound = q.whole;
        has_irq = h.spread;
        has = q.spread;
        is_irq = whole_kind (is_at spec kinds.Irq) c irq h own.is;
        is = whole_kind (is_at spec kinds.Notification) c cap q of.is;
        writes = whole_writes c cap q writes;
        of_irq = sym (object_is c irq h);
        of_bound = sym (object_is c cap q);
      } in
      search (rules, read_written)

  no_own_thread : HoldsNoThread spec → (s : State) (c i : ℕ) (to : Cap) → IsWithin spec s
      → Own (is_at spec kinds.Thread) s c i to → ⊥
  no_own_thread none s c i to w own = let h : Holds spec c to = holds_at s w c i to own.there in
      no_thread_spreads none c h.whole h.spread (whole_kind (is_at spec kinds.Thread) c to h own.is)

  -- each of the twelve kinds of step
  step_within : HoldsNoThread spec → (s new : State) (step : Step) → IsWithin spec s → StepTo spec s step new → IsWithin spec new
  step_within none s new (steps.Take t i j r) w (c, to, x, acts, own, there, e) =
      rw e (take_within s t c i j to x r w acts own there)
  step_within none s new (steps.Put t i j r) w (c, to, x, acts, own, there, e) =
      rw e (put_within s t c i j to x r w acts own there)
  step_within none s new (steps.Grant t i u j k r) w (c, to, x, d, from, acts, own, may, there, peer, e) =
      rw e (grant_within s t c i u j k d to x from r w acts own may there peer)
  step_within none s new (steps.Call t i u j) w (c, to, d, from, acts, own, may, peer, e) =
      rw e (call_within s t c i u j d to from w acts own may peer)
  step_within none s new (steps.Reply t None) w (c, p, acts, owes, e) = rw e (replied_within s t p.caller w)
  step_within none s new (steps.Reply t (Some copy)) w (c, p, x, d, acts, owes, grants, there, root, e) =
      rw e (reply_within s t c copy.0 d p x copy.1 w acts owes grants there root)
  step_within none s new (steps.SetCspace t i j) w (c, to, x, acts, own, of, e) = absurd (no_own_thread none s c i to w own)
  step_within none s new (steps.SetVspace t i j) w (c, to, x, acts, own, of, e) = absurd (no_own_thread none s c i to w own)
  step_within none s new (steps.Map t i j r) w (c, frame, x, acts, own, of, e) =
      rw e (map_within s t c i j frame x r w acts own of)
  step_within none s new (steps.Bind t i j) w (c, irq, x, acts, own, of, writes, e) =
      rw e (bind_within s t c i j irq x w acts own of writes)
  step_within none s new (steps.Drop t i) w (c, x, acts, there, e) = rw e (drops s w c i)
  step_within none s new (steps.Save t) w (c, p, acts, owes, e) = rw e (save_within s t c p w acts owes)
  step_within none s new (steps.ReplyTo t i None) w (c, p, acts, there, e) = rw e (released_within s c i p.caller w)
  step_within none s new (steps.ReplyTo t i (Some copy)) w (c, p, x, d, acts, there, grants, has, root, e) =
      rw e (saved_within s c i copy.0 d p x copy.1 w there grants has root)

  boot_within : IsWithin spec (boot spec)
  boot_within = record {
    contents = λ c i content there. (
        let b = boot_content spec c i content there in
        subst (λ (x : Content). ContentWithin spec c x) b.2
        (record { whole = b.0; rights = b.0.rights; spread = spread.own i b.1; is = sym (lessened_itself b.0) }));
    roots = λ t. refl;
    spaces = λ t. refl;
    pending = λ u reply is. (let none = nothing_pending spec u in absurd cc);
    irqs = λ d n is. inl is;
    mapped = λ added there. absurd (let w = there.1 in omega arith);
  }

  run_within : HoldsNoThread spec → (run : List Step) (s new : State) → IsWithin spec s → Run spec s run new → IsWithin spec new
  run_within none [] s new w e = rw e w
  run_within none (step ∷ run) s new w (mid, one, rest) = run_within none run mid new (step_within none s mid step w one) rest

pub runs_within : (spec : Spec) (run : List Step) (s : State) → HoldsNoThread spec → Run spec (boot spec) run s → IsWithin spec s
runs_within spec run s none leads = run_within spec none run (boot spec) s (boot_within spec) leads
