-- An act leads from a world to one world at most, and so do acts one after the other.
use Rattle.flow_model.proofs.Common.{Act, ActRun, ActTo, Acts, Attempt, AttemptTo, Bool, Cap, Capability, Content, List, Own, SavedReply, Some, Spec, State, World, [], allowed, ap, await, content_in, device, done, fire, load, message}
use Rattle.flow_model.proofs.Common.{more, refused, rules, send, signal, step, store, subst, sym, tell, tell_saved, ℕ, ◌∙◌, ◌∷◌, ◌≡◌}
use Rattle.std.proofs.lemmas.Option.{same_Some}
use Rattle.cap_machine.proofs.Table.{one_next}
use Rattle.cap_model.specs.declared.state.Pending.{Pending}

one_content : (s : State) (t c d i : ℕ) (x y : Content) → Acts s t c → Acts s t d → content_in s c i ≡ Some x
    → content_in s d i ≡ Some y → x ≡ y
one_content s t c d i x y acts other there here = search (rules, same_Some)

one_cap : (kind : ℕ → Bool) (s : State) (t c d i : ℕ) (x y : Cap) → Acts s t c → Acts s t d → Own kind s c i x
    → Own kind s d i y → x ≡ y
one_cap kind s t c d i x y acts other own also = let same : Capability x ≡ Capability y =
    one_content s t c d i (Capability x) (Capability y) acts other own.there also.there in cc

one_reply : (s : State) (t c d i : ℕ) (x y : Pending) → Acts s t c → Acts s t d → content_in s c i ≡ Some (SavedReply x)
    → content_in s d i ≡ Some (SavedReply y) → x ≡ y
one_reply s t c d i x y acts other there here = let same : SavedReply x ≡ SavedReply y =
    one_content s t c d i (SavedReply x) (SavedReply y) acts other there here in cc

one_attempt : (spec : Spec) (w new other : World) (attempt : Attempt) → AttemptTo spec w attempt new
    → AttemptTo spec w attempt other → new ≡ other
one_attempt spec w new other (step move) (s, a, e) (r, b, f) = search (rules, one_next)
one_attempt spec w new other (store t f x) (runs, may, e) (also, might, g) = e ∙ sym g
one_attempt spec w new other (load t f) (runs, may, e) (also, might, g) = e ∙ sym g
one_attempt spec w new other (send t i u j x) (c, to, d, from, acts, own, may, peer, e) (
  k,
  at,
  l,
  by,
  does,
  has,
  might,
  fellow,
  g,
) =
    e ∙ ap (λ (cap : Cap). record w { seen = more (more w.seen u (message cap.badge x)) t done })
    (one_cap _ w.state t c k i to at acts does own has) ∙ sym g
one_attempt spec w new other (tell t x) (c, reply, acts, owes, e) (k, given, does, owed, g) = search (rules, same_Some)
one_attempt spec w new other (tell_saved t i x) (c, reply, acts, there, e) (k, given, does, here, g) = search (rules, one_reply)
one_attempt spec w new other (signal t i x) (c, to, acts, own, may, e) (k, at, does, has, might, g) = search (rules, one_cap)
one_attempt spec w new other (await t i) (c, from, acts, own, may, e) (k, by, does, has, might, g) = search (rules, one_cap)

pub one_act : (spec : Spec) (w new other : World) (act : Act) → ActTo spec w act new → ActTo spec w act other → new ≡ other
one_act spec w new other (allowed attempt) a b = one_attempt spec w new other attempt a b
one_act spec w new other (refused attempt) (runs, never, e) (also, neither, g) = e ∙ sym g
one_act spec w new other (fire d x) (n, bound, e) (m, also, g) = e ∙ ap (λ (o : ℕ). record w { pending = more w.pending o x })
    (same_Some n m (sym bound ∙ also)) ∙ sym g
one_act spec w new other (device f x) (is, e) (also, g) = e ∙ sym g

pub one_world : (spec : Spec) (w new other : World) (acts : List Act) → ActRun spec w acts new → ActRun spec w acts other
    → new ≡ other
one_world spec w new other [] e g = e ∙ sym g
one_world spec w new other (act ∷ acts) (mid, a, rest) (also, b, more) =
    one_world spec mid new other acts rest (subst (λ (m : World). ActRun spec m acts other)
    (one_act spec w also mid act b a) more)
