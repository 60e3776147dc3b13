-- An act changes only what the policy lets the label of its actor change.
use Rattle.flow_model.proofs.LawsCommon.{Act, ActTo, AsyncSend, Attempt, AttemptTo, Edge, IsLet, List, MayTell, Reached, Receive, Sight, Spec, Stays, SyncSend, World, Write, [], actor, allowed, answer, await, content, denied, device, done, fire, inl, inr}
use Rattle.flow_model.proofs.LawsCommon.{label_of, load, maker, message, more, of_irq, put, refl, refused, send, signal, signals, step, store, tell, tell_saved, thread_of, ℕ, ◌∷◌}
use Rattle.cap_model.specs.declared.kind.Kind.TheVariants as kinds
use Rattle.flow_model.proofs.Commanding.{itself, its_own, by_own, lets, peer_meets, owes_lets, saved_lets, access_lets}
use Rattle.flow_model.proofs.StepsLet.{step_let}
use Rattle.flow_model.proofs.Writes.{unchanged, write_content, write_pending, write_seen}

module _ (spec : Spec) (labels : List ℕ) (policy : List Edge) (stays : Stays spec labels policy) (w new : World) where
  abbrev here : ℕ → ℕ
  here x = label_of labels x

  -- what a thread sees of its own act
  sees_own : (t : ℕ) (x : Sight) (mid : World) → IsLet policy labels (here t) w mid
      → IsLet policy labels (here t) w (record mid { seen = more mid.seen t x })
  sees_own t x mid before = write_seen policy labels (here t) w mid before t (x ∷ mid.seen t) (inl refl)

  -- what another one sees of it
  tells : (t u : ℕ) (x : Sight) → MayTell policy (here t) (here u)
      → IsLet policy labels (here t) w (record w { seen = more w.seen u x })
  tells t u x may = write_seen policy labels (here t) w w (unchanged policy labels (here t) w) u (x ∷ w.seen u) may

  attempt_let : (attempt : Attempt) → Reached spec w.state → AttemptTo spec w attempt new
      → IsLet policy labels (here (maker attempt)) w new
  attempt_let (step move) reached (s, does, e) =
      rw e (sees_own (thread_of move) done (record w { state = s }) (step_let spec labels policy stays w reached s move does))
  attempt_let (store t f x) reached (runs, may, e) =
      rw e (sees_own t done (record w { contents = put w.contents f x }) (write_content policy labels (here t) w w
      (unchanged policy labels (here t) w) f x (access_lets spec labels policy stays w.state reached t f Write may)))
  attempt_let (load t f) reached (runs, may, e) =
      rw e (sees_own t (content (w.contents f)) w (unchanged policy labels (here t) w))
  attempt_let (send t i u j x) reached (c, to, d, from, acts, own, may, peer, e) =
      rw e
      (sees_own t done (record w { seen = more w.seen u (message to.badge x) })
      (tells t u (message to.badge x)
      (inr (inl (peer_meets spec labels policy stays w.state reached (here t) t u j to.object d SyncSend from
      (by_own spec labels policy stays w.state reached t c i kinds.Endpoint to SyncSend acts.root own may) peer)))))
  attempt_let (tell t x) reached (c, reply, acts, owes, e) =
      rw e (sees_own t done (record w { seen = more w.seen reply.caller (answer x) })
      (tells t reply.caller (answer x) (inr (inr (owes_lets spec labels policy stays w.state reached t reply owes)))))
  attempt_let (tell_saved t i x) reached (c, reply, acts, there, e) =
      rw e (sees_own t done (record w { seen = more w.seen reply.caller (answer x) })
      (tells t reply.caller (answer x)
      (inr (inr (saved_lets spec labels policy stays w.state reached t c i reply acts.root there)))))
  attempt_let (signal t i x) reached (c, to, acts, own, may, e) =
      rw e (sees_own t done (record w { pending = more w.pending to.object x }) (write_pending policy labels (here t) w w
      (unchanged policy labels (here t) w) to.object (x ∷ w.pending to.object)
      (inl (by_own spec labels policy stays w.state reached t c i kinds.Notification to AsyncSend acts.root own may))))
  attempt_let (await t i) reached (c, from, acts, own, may, e) =
      rw e (sees_own t (signals (w.pending from.object)) (record w { pending = put w.pending from.object [] })
      (write_pending policy labels (here t) w w (unchanged policy labels (here t) w) from.object []
      (inr (by_own spec labels policy stays w.state reached t c i kinds.Notification from Receive acts.root own may))))

  pub act_let : (act : Act) → Reached spec w.state → ActTo spec w act new → IsLet policy labels (here (actor act)) w new
  act_let (allowed attempt) reached does = attempt_let attempt reached does
  act_let (refused attempt) reached (runs, never, e) =
      rw e (sees_own (maker attempt) denied w (unchanged policy labels (here (maker attempt)) w))
  act_let (fire d x) reached (n, bound, e) =
      rw e
      (write_pending policy labels (here d) w w (unchanged policy labels (here d) w) n (x ∷ w.pending n)
      (inl (lets spec labels policy stays w.state reached (here d) d n AsyncSend (itself policy _ _ refl)
      (inr (of_irq (d, n, bound, refl, refl, refl))))))
  act_let (device f x) reached (is, e) = rw e (write_content policy labels (here f) w w (unchanged policy labels (here f) w) f x
      (its_own policy (here f) Write))
