-- The steps that an audit makes, from one quiet state to the next.
use Rattle.std.proofs.Common.{rules}
use Rattle.cap_audit.proofs.Common.{Acts, Auth, Authority, Bool, Cap, Capability, Contains-push, HasRoot, HaveRoots, List, Mapped, MayCall, MayGrant, Meet, None, Option, Peer, Pending, Quiet, Rights, SavedReply, Shows, Some, Spec, State, StepTo}
use Rattle.cap_audit.proofs.Common.{ThreadState, [], added, ap, arith, boot, both_rights, called, called_threads, cases_eq, confers, content_in, false, get_or, get_or-set_other, get_or-set_same, grown_at, inl, inr, is_at, is_at_below, is_space_root}
use Rattle.cap_audit.proofs.Common.{kind_at, kind_confers, kind_is, label_of, length, length-set, lessened, no_thread, node_at, nothing_pending, of_irq, of_mapped, of_reply, read_write, refl, released, replied, replied_threads, saved, set}
use Rattle.cap_audit.proofs.Common.{step_fits, sym, thread_at, true, with_pending, without_at, ℕ, ◌&&◌, ◌++◌, ◌<◌, ◌∙◌, ◌∷◌, ◌≡◌, ◌≢◌}
use Rattle.authorities.specs.declared.authority.Authority.TheVariants as authorities
use Rattle.cap_model.specs.declared.kind.Kind.TheVariants as kinds
use Rattle.cap_machine.specs.declared.step.Step.TheVariants as steps
use Rattle.cap_audit.proofs.Quiet.{kept_on, kept_same, grown_all_fresh, grown_all_kept, grown_at_next, out_all_fresh, out_all_kept, there_by_lookup, Lands, Onward, quiet_acts, quiet_cnode, quiet_node, copied}

abbrev pub all_rights : Rights
all_rights = record { read = true; write = true; grant = true; reply = true }

and_true : (a : Bool) → a && true ≡ a
and_true true = refl
and_true false = refl

pub lessened_all : (cap : Cap) → lessened cap all_rights ≡ cap
lessened_all cap = search (rules, and_true)

-- a frame's rights are kept by a map with all rights, as far as they confer anything
frame_whole : (r : Rights) (a : Authority) → kind_confers kinds.Frame r a ≡ true
    → kind_confers kinds.Frame (both_rights r (read_write all_rights)) a ≡ true
frame_whole r authorities.Read h = and_true r.read ∙ h
frame_whole r authorities.Write h = and_true r.write ∙ h
frame_whole r _ h = h

-- threads while a call is on, and after it

module _ (threads : List ThreadState) (t u : ℕ) (g : Bool) (other : t ≢ u) (t_less : t < length threads)
    (u_less : u < length threads) where
  owing : List ThreadState
  owing = with_pending threads u (Some (record { caller = t; grants = g }))

  owing_length : length owing ≡ length threads
  unfolding owing
  owing_length = length-set threads u (record (get_or threads u no_thread) { pending = Some (record { caller = t; grants = g }) })

  owing_t : get_or owing t no_thread ≡ get_or threads t no_thread
  unfolding owing
  owing_t = search (rules, get_or-set_other)

  called_length : length (called_threads threads t u g) ≡ length threads
  unfolding owing
  called_length = length-set owing t (record (get_or owing t no_thread) { waits = true }) ∙ owing_length

  pub called_u : get_or (called_threads threads t u g) u no_thread ≡ record (get_or threads u no_thread)
      { pending = Some (record { caller = t; grants = g }) }
  unfolding owing
  called_u = search (rules, get_or-set_other, owing, get_or-set_same)

  pub called_t : get_or (called_threads threads t u g) t no_thread ≡ record (get_or threads t no_thread) { waits = true }
  unfolding owing
  called_t = search (rules, get_or-set_same, owing, owing_length, owing_t)

  called_k : (k : ℕ) → k ≢ t → k ≢ u → get_or (called_threads threads t u g) k no_thread ≡ get_or threads k no_thread
  unfolding owing
  called_k k not_t not_u = search (rules, get_or-set_other, owing)

  module _ (none : (get_or threads u no_thread).pending ≡ None) (runs : (get_or threads t no_thread).waits ≡ false) where
    answered : List ThreadState
    answered = with_pending (called_threads threads t u g) u None

    answered_length : length answered ≡ length threads
    unfolding answered
    answered_length = length-set (called_threads threads t u g) u (record (get_or (called_threads threads t u g) u no_thread)
        { pending = None }) ∙ called_length

    pub answered_u : get_or (with_pending (called_threads threads t u g) u None) u no_thread ≡ get_or threads u no_thread
    answered_u = search (rules, get_or-set_same, called_length, called_u)

    answered_t : get_or answered t no_thread ≡ record (get_or threads t no_thread) { waits = true }
    unfolding answered
    answered_t = get_or-set_other (called_threads threads t u g) u t (record (get_or (called_threads threads t u g) u no_thread)
        { pending = None }) no_thread other ∙ called_t

    -- all is as it was
    pub replied_k : (k : ℕ) → get_or (replied_threads (called_threads threads t u g) u t) k no_thread ≡ get_or threads k no_thread
    unfolding answered
    replied_k k = elim (cases_eq k t) [
      | inl is_t ↦ search (rules, get_or-set_same, answered, answered_length, answered_t)
      | inr not_t ↦
          get_or-set_other answered t k (record (get_or answered t no_thread) { waits = false }) no_thread not_t
          ∙ elim (cases_eq k u) [
            | inl is_u ↦ rw is_u answered_u
            | inr not_u ↦ search (rules, get_or-set_other, called_k)
          ]
    ]

module _ (spec : Spec) (s : State) (q : Quiet spec s) where
  pub quiet_thread : (t c : ℕ) → HasRoot spec t c → t < length s.threads
  quiet_thread t c root =
      let is : is_at spec kinds.Thread t ≡ true = (elim (q.fits.threads t).kind [
        | inl none ↦ search (rules, quiet_acts)
        | inr is ↦ is
      ]) in
      let less = is_at_below spec kinds.Thread t is in
      let same : length s.threads ≡ length spec.entries = q.fits.as_many_threads in
      omega arith

  pub take_on : (t c i j : ℕ) (to cap : Cap) → HasRoot spec t c → content_in s c i ≡ Some (Capability to)
      → is_at spec kinds.CNode to.object ≡ true
      → content_in s to.object j ≡ Some (Capability cap) → Lands spec s c cap (steps.Take t i j all_rights ∷ [])
  take_on t c i j to cap root own is there =
      copied spec s q c cap (steps.Take t i j all_rights) (
        c,
        to,
        cap,
        quiet_acts spec s q t c root,
        record { there = own; is = is },
        there,
        ap (λ (x : Cap). added s c x)
            (sym (lessened_all cap)),
      )

  pub put_on : (t c i j : ℕ) (to cap : Cap) → HasRoot spec t c → content_in s c i ≡ Some (Capability to)
      → is_at spec kinds.CNode to.object ≡ true
      → content_in s c j ≡ Some (Capability cap) → Lands spec s to.object cap (steps.Put t i j all_rights ∷ [])
  put_on t c i j to cap root own is there =
      copied spec s q to.object cap (steps.Put t i j all_rights) (
        c,
        to,
        cap,
        quiet_acts spec s q t c root,
        record { there = own; is = is },
        there,
        ap (λ (x : Cap). added s to.object x)
            (sym (lessened_all cap)),
      )

  peer : (t u c d j : ℕ) (to from : Cap) → HaveRoots spec t u c d → Meet spec to from → content_in s d j ≡ Some (Capability from)
      → Peer spec s t u j to.object d from
  peer t u c d j to from roots meet there = search (rules, quiet_acts)

  pub grant_on : (t u c d i j k : ℕ) (to from cap : Cap) → HaveRoots spec t u c d → Meet spec to from → MayGrant to
      → content_in s c i ≡ Some (Capability to) → content_in s d j ≡ Some (Capability from)
      → content_in s c k ≡ Some (Capability cap) → Lands spec s d cap (steps.Grant t i u j k all_rights ∷ [])
  grant_on t u c d i j k to from cap roots meet may own listens there =
      copied spec s q d cap (steps.Grant t i u j k all_rights) (
        c,
        to,
        cap,
        d,
        from,
        quiet_acts spec s q t c roots.root,
        record { there = own; is = meet.is },
        may,
        there,
        peer t u c d j to from roots meet listens,
        ap (λ (x : Cap). added s d x) (sym (lessened_all cap)),
      )

  -- a call, from which it goes on in three ways
  module _ (t u c d i j : ℕ) (to from : Cap) (roots : HaveRoots spec t u c d) (meet : Meet spec to from) (may : MayCall to)
      (own : content_in s c i ≡ Some (Capability to))
      (listens : content_in s d j ≡ Some (Capability from)) where
    abbrev owed_reply : Pending
    owed_reply = record { caller = t; grants = from.rights.grant }

    pub call_step : StepTo spec s (steps.Call t i u j) (called s t u from.rights.grant)
    call_step = search (rules, quiet_acts, peer)

    at_u : thread_at (called s t u from.rights.grant) u ≡ record (thread_at s u) { pending = Some owed_reply }
    at_u = called_u s.threads t u from.rights.grant roots.other (quiet_thread t c roots.root) (quiet_thread u d roots.peer_root)

    at_t : thread_at (called s t u from.rights.grant) t ≡ record (thread_at s t) { waits = true }
    at_t = called_t s.threads t u from.rights.grant roots.other (quiet_thread t c roots.root) (quiet_thread u d roots.peer_root)

    u_acts : Acts (called s t u from.rights.grant) u d
    u_acts = search (rules, quiet_acts, at_u)

    u_owes : (thread_at (called s t u from.rights.grant) u).pending ≡ Some owed_reply
    u_owes = ap (λ (x : ThreadState). x.pending) at_u

    t_rooted : (thread_at (called s t u from.rights.grant) t).root ≡ Some c
    t_rooted = ap (λ (x : ThreadState). x.root) at_t ∙ (quiet_acts spec s q t c roots.root).root

    u_owed_none : (thread_at s u).pending ≡ None
    u_owed_none = ap (λ (x : ThreadState). x.pending) (q.threads u) ∙ nothing_pending spec u

    t_runs : (thread_at s t).waits ≡ false
    t_runs = (quiet_acts spec s q t c roots.root).runs

    settled : (k : ℕ) → get_or (replied_threads (called_threads s.threads t u from.rights.grant) u t) k no_thread ≡ thread_at
        (boot spec) k
    settled k =
        replied_k s.threads t u from.rights.grant roots.other (quiet_thread t c roots.root) (quiet_thread u d roots.peer_root)
        u_owed_none t_runs k ∙ q.threads k

    -- the call brings a copy back
    pub reply_on : (k : ℕ) (cap : Cap) → from.rights.grant ≡ true → content_in s d k ≡ Some (Capability cap)
        → Lands spec s c cap (steps.Call t i u j ∷ (steps.Reply u (Some (k, all_rights)) ∷ []))
    reply_on k cap grants there =
        let new = added (replied (called s t u from.rights.grant) u t) c cap in
        let answer : StepTo spec (called s t u from.rights.grant) (steps.Reply u (Some (k, all_rights))) new =
        search (rules, u_acts, u_owes, t_rooted, lessened_all) in
        record {
          new = new;
          run = (called s t u from.rights.grant, call_step, (new, answer, refl));
          quiet = record {
            fits = step_fits spec (called s t u from.rights.grant) new (steps.Reply u (Some (k, all_rights)))
                (step_fits spec s (called s t u from.rights.grant) (steps.Call t i u j) q.fits call_step) answer;
            threads = settled;
            fresh = grown_all_fresh s.nodes c (Capability cap) q.fresh;
            begun = kept_on (boot spec).nodes s.nodes (grown_at s.nodes c (Capability cap)) q.begun
                (grown_all_kept s.nodes c (Capability cap));
          };
          nodes = refl;
        }

    pub save_on : (labels : List ℕ) → (new : State) × (more : Onward spec s new)
        × (more.steps ≡ steps.Call t i u j ∷ (steps.Save u ∷ (steps.ReplyTo u (node_at s d).next None ∷ [])))
        × Shows spec labels s more.steps (label_of labels u) authorities.Reply (label_of labels t)
        × Shows spec labels s more.steps (label_of labels d) authorities.Reply (label_of labels t)
        × (new.nodes ≡ without_at (grown_at s.nodes d (SavedReply (record { caller = t; grants = from.rights.grant }))) d
        (node_at s d).next)
    save_on labels =
        let mid = called s t u from.rights.grant in let n = (node_at s d).next in
        let kept = saved (called s t u from.rights.grant) u d owed_reply in
        let new = released (saved (called s t u from.rights.grant) u d owed_reply) d (node_at s d).next t in
        let less : d < length s.nodes = quiet_node spec s q d (quiet_cnode spec s q u d roots.peer_root) in
        let save_step : StepTo spec mid (steps.Save u) kept = (d, owed_reply, u_acts, u_owes, refl) in
        let there : content_in kept d n ≡ Some (SavedReply owed_reply) = search (rules, grown_at_next) in
        let u_after : thread_at kept u ≡ thread_at s u = search (rules, answered_u, quiet_thread, u_owed_none, t_runs) in
        let a : Acts s u d = quiet_acts spec s q u d roots.peer_root in
        let acts : Acts kept u d = search (rules) in
        let release_step : StepTo spec kept (steps.ReplyTo u (node_at s d).next None) new =
        (d, owed_reply, acts, there, refl) in (
          new,
          record {
            steps = steps.Call t i u j ∷ (steps.Save u ∷ (steps.ReplyTo u (node_at s d).next None ∷ []));
            run = (mid, call_step, (kept, save_step, (new, release_step, refl)));
            quiet = record {
              fits = step_fits spec kept new (steps.ReplyTo u (node_at s d).next None) (step_fits spec mid kept (steps.Save u)
                  (step_fits spec s mid (steps.Call t i u j) q.fits call_step) save_step) release_step;
              threads = settled;
              fresh = out_all_fresh s.nodes d (SavedReply owed_reply) q.fresh less;
              begun = kept_on (boot spec).nodes s.nodes new.nodes q.begun (out_all_kept s.nodes d (SavedReply owed_reply)
                  q.fresh less);
            };
            kept = out_all_kept s.nodes d (SavedReply owed_reply) q.fresh less;
          },
          refl,
          record {
            front = steps.Call t i u j ∷ [];
            back = steps.Save u ∷ (steps.ReplyTo u (node_at s d).next None ∷ []);
            parts = refl;
            state = mid;
            run = (mid, call_step, refl);
            auth = inr (of_reply (u, owed_reply, u_owes, refl, refl, refl));
          },
          record {
            front = steps.Call t i u j ∷ (steps.Save u ∷ []);
            back = steps.ReplyTo u (node_at s d).next None ∷ [];
            parts = refl;
            state = kept;
            run = (mid, call_step, (kept, save_step, refl));
            auth = search (rules, there_by_lookup);
          },
          refl,
        )

  -- a frame is added to a space
  pub map_on : (labels : List ℕ) (t c i j : ℕ) (frame space : Cap) → HasRoot spec t c → content_in s c i ≡ Some (Capability frame)
      → is_at spec kinds.Frame frame.object ≡ true
      → content_in s c j ≡ Some (Capability space) → is_space_root spec space.object ≡ true
      → (new : State) × (more : Onward spec s new) × (more.steps ≡ steps.Map t i j all_rights ∷ []) × (new.nodes ≡ s.nodes)
      × ((a : Authority) → confers spec frame a ≡ true → Auth spec labels new (label_of labels space.object) a
      (label_of labels frame.object))
  map_on labels t c i j frame space root own is of is_space =
      let added : Mapped = record {
        space = space.object;
        frame = frame.object;
        rights = both_rights frame.rights (read_write all_rights);
      } in
      let new : State = record s { mapped = s.mapped ++ added ∷ [] } in
      let leads : StepTo spec s (steps.Map t i j all_rights) new = (
        c,
        frame,
        space,
        quiet_acts spec s q t c root,
        record { there = own; is = is },
        record { there = of; is = is_space },
        refl,
      ) in (
        new,
        record {
          steps = steps.Map t i j all_rights ∷ [];
          run = (new, leads, refl);
          quiet = record {
            fits = step_fits spec s new (steps.Map t i j all_rights) q.fits leads;
            threads = q.threads;
            fresh = q.fresh;
            begun = q.begun;
          };
          kept = kept_same s.nodes;
        },
        refl,
        refl,
        λ a conf. inr (of_mapped (
          added,
          Contains-push s.mapped added,
          frame_whole frame.rights a (let k : kind_at spec frame.object ≡ Some kinds.Frame = kind_is spec kinds.Frame frame.object
              is in rw k at conf),
          refl,
          refl,
        )),
      )

  -- an interrupt is bound to a notification
  pub bind_on : (labels : List ℕ) (t c i j : ℕ) (irq bound : Cap) → HasRoot spec t c → content_in s c i ≡ Some (Capability irq)
      → is_at spec kinds.Irq irq.object ≡ true
      → content_in s c j ≡ Some (Capability bound) → is_at spec kinds.Notification bound.object ≡ true → bound.rights.write ≡ true
      → (new : State) × (more : Onward spec s new) × (more.steps ≡ steps.Bind t i j ∷ []) × (new.nodes ≡ s.nodes)
      × Auth spec labels new (label_of labels irq.object) authorities.AsyncSend (label_of labels bound.object)
  bind_on labels t c i j irq bound root own is of is_bound writes =
      let new : State = record s { irqs = set s.irqs irq.object (Some bound.object) } in
      let leads : StepTo spec s (steps.Bind t i j) new = search (rules, quiet_acts) in
      let less : irq.object < length s.irqs = (
      let a : irq.object < length spec.entries = is_at_below spec kinds.Irq irq.object is in
      let b : length s.irqs ≡ length spec.entries = q.fits.as_many_irqs in
      omega arith) in (
        new,
        record {
          steps = steps.Bind t i j ∷ [];
          run = (new, leads, refl);
          quiet = record {
            fits = step_fits spec s new (steps.Bind t i j) q.fits leads;
            threads = q.threads;
            fresh = q.fresh;
            begun = q.begun;
          };
          kept = kept_same s.nodes;
        },
        refl,
        refl,
        inr (of_irq (
          irq.object,
          bound.object,
          get_or-set_same s.irqs irq.object (Some bound.object) None less,
          refl,
          refl,
          refl,
        )),
      )
