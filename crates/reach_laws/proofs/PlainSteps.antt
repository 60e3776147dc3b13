-- From the boot state of a plain spec only plain steps are ever legal.
use Rattle.reach_laws.proofs.Common.{All, Bool, Cap, Capability, Contains, Kind, List, Node, None, Object, Option, Own, Pending, Run, SavedReply, Some, Spec, State, StepTo, ThreadState, [], and_parts, ap, arith, boot, content_in, dropped, false}
use Rattle.reach_laws.proofs.Common.{get_or, grown, grown_at, is_at, is_root_object, is_space_root, kind_at, no_node, no_thread, node_at, none_saved, not, nothing_pending, object_at, refl, set, subst, sym, thread_at, true, true≢false}
use Rattle.reach_laws.proofs.Common.{rules, waiting, with_pending, without, ℕ, ◌==◌, ◌∙◌, ◌∷◌, ◌≡◌}
use Rattle.std.proofs.lemmas.Bool.{not-true}
use Rattle.std.proofs.lemmas.List.Elements.{All-contains, All-push, All-filter, Contains-get_or}
use Rattle.std.proofs.lemmas.Map.Views.{Contains-from_lookup}
use Rattle.cap_machine.specs.declared.step.Step.{Step}
use Rattle.cap_machine.specs.declared.step.Step.TheVariants.{Take, Put, Grant, Call, Reply, SetCspace, SetVspace, Map, Bind, Drop, Save, ReplyTo}
use Rattle.cap_machine.proofs.Applied.{read_written}
use Rattle.cap_model.specs.declared.kind.Kind.TheVariants as kinds
use Rattle.cap_model.specs.declared.object.Object.TheVariants as objects
use Rattle.cap_model.specs.declared.state.Content.{Content}
use Rattle.cap_model.proofs.Kept.{kind_is}
use Rattle.reach_laws.specs.Plain.{HoldsPlain, IsPlainStep, is_plain, option_plain, plain_kind}

each_after_write : {A : Type 0} (P : A → Type 0) (xs : List A) (i : ℕ) (v d : A) → ((k : ℕ) → P (get_or xs k d)) → P v → (k : ℕ)
    → P (get_or (set xs i v) k d)
each_after_write {A} P xs i v d before here k = search (rules, read_written)

abbrev PlainContent : Spec → Content → Type 0
PlainContent spec (Capability cap) = is_plain spec cap ≡ true
PlainContent spec (SavedReply reply) = reply.grants ≡ false

abbrev PlainNode : Spec → Node → Type 0
PlainNode spec node = All (λ (slot : ℕ × Content). PlainContent spec slot.1) node.slots

abbrev PlainThread : ThreadState → Type 0
PlainThread thread = (reply : Pending) → thread.pending ≡ Some reply → reply.grants ≡ false

-- CNodes hold what is plain, and no reply grants
record Plain (spec : Spec) (s : State) : Type 0 where
  nodes : (c : ℕ) → PlainNode spec (node_at s c)
  threads : (t : ℕ) → PlainThread (thread_at s t)

module _ (spec : Spec) where
  content_plain : (s : State) (c i : ℕ) (content : Content) → Plain spec s → content_in s c i ≡ Some content
      → PlainContent spec content
  content_plain s c i content plain there =
      All-contains (λ (slot : ℕ × Content). PlainContent spec slot.1) (node_at s c).slots (i, content) (plain.nodes c)
      (Contains-from_lookup {eq = λ q n. n == q} (λ x y h. grind arith) i content (node_at s c).slots there)

  -- a capability that is plain is of no other kind
  of_kind : (s : State) (c i : ℕ) (k : Kind) (cap : Cap) → Plain spec s → Own (is_at spec k) s c i cap
      → plain_kind k cap.rights ≡ true
  of_kind s c i k cap plain own =
      let is : kind_at spec cap.object ≡ Some k = kind_is spec k cap.object own.is in
      subst (λ o. option_plain o cap.rights ≡ true) is (content_plain s c i (Capability cap) plain own.there)

  no_root : (s : State) (c i : ℕ) (cap : Cap) → Plain spec s → Own (is_space_root spec) s c i cap → ⊥
  no_root s c i cap plain own = go (object_at spec cap.object) refl (content_plain s c i (Capability cap) plain own.there) where
    go : (o : Option Object) → object_at spec cap.object ≡ o → is_plain spec cap ≡ true → ⊥
    go None here p = (let w : is_root_object spec.arch None ≡ true = rw here at own.is in cc)
    go (Some (objects.Pages level slots)) here p =
        (let w : option_plain (Some (kinds.Pages level)) cap.rights ≡ true = rw here at p in cc)
    go (Some _) here p = (let w = rw here at own.is in cc)

  plain_thread : (s : State) (t : ℕ) (thread : ThreadState) → Plain spec s → PlainThread thread
      → Plain spec (record s { threads = set s.threads t thread })
  plain_thread s t thread plain fine = record {
    nodes = plain.nodes;
    threads = each_after_write PlainThread s.threads t thread
        no_thread plain.threads fine;
  }

  plain_node : (s : State) (c : ℕ) (node : Node) → Plain spec s → PlainNode spec node
      → Plain spec (record s { nodes = set s.nodes c node })
  plain_node s c node plain fine = record {
    nodes = each_after_write (PlainNode spec) s.nodes c node no_node plain.nodes fine;
    threads = plain.threads;
  }

  plain_waiting : (s : State) (t : ℕ) (b : Bool) → Plain spec s → Plain spec (record s { threads = waiting s.threads t b })
  plain_waiting s t b plain = plain_thread s t (record (thread_at s t) { waits = b }) plain (plain.threads t)

  plain_owing : (s : State) (t : ℕ) (o : Option Pending) → Plain spec s
      → ((reply : Pending) → o ≡ Some reply → reply.grants ≡ false)
      → Plain spec (record s { threads = with_pending s.threads t o })
  plain_owing s t o plain fine = plain_thread s t (record (thread_at s t) { pending = o }) plain fine

  plain_without : (s : State) (c i : ℕ) → Plain spec s → Plain spec (dropped s c i)
  plain_without s c i plain =
      plain_node s c (without (node_at s c) i) plain
      (All-filter (λ (slot : ℕ × Content). not (slot.0 == i)) (λ (slot : ℕ × Content). PlainContent spec slot.1)
      (node_at s c).slots (plain.nodes c))

  none_some : (reply : Pending) → ◌≡◌ {A = Option Pending} None (Some reply) → reply.grants ≡ false
  none_some reply e = absurd cc

  -- a legal step is plain, and leads to a plain state
  plain_step : (s new : State) (step : Step) → Plain spec s → StepTo spec s step new → IsPlainStep step × Plain spec new
  plain_step s new (Take t i j r) plain (c, to, cap, acts, own, there, is) =
      absurd (true≢false (sym (of_kind s c i kinds.CNode to plain own)))
  plain_step s new (Put t i j r) plain (c, to, cap, acts, own, there, is) =
      absurd (true≢false (sym (of_kind s c i kinds.CNode to plain own)))
  plain_step s new (Grant t i u j k r) plain (c, to, cap, d, from, acts, own, may, there, peer, is) =
      let none = not-true to.rights.grant (of_kind s c i kinds.Endpoint to plain own) in
      let some = (and_parts to.rights.write to.rights.grant may).1 in
      absurd (true≢false (sym some ∙ none))
  plain_step s new (Call t i u j) plain (c, to, d, from, acts, own, may, peer, is) =
      let none : from.rights.grant ≡ false = not-true from.rights.grant (of_kind s d j kinds.Endpoint from plain peer.own) in
      let reply : Pending = record { caller = t; grants = from.rights.grant } in
      let owed = plain_owing s u (Some reply) plain (λ q e. let same : reply ≡ q = cc in
      ap (λ (z : Pending). z.grants) (sym same) ∙ none) in (
        tt,
        subst (λ (z : State). Plain spec z) (sym is)
            (plain_waiting (record s { threads = with_pending s.threads u (Some reply) }) t true owed),
      )
  plain_step s new (Reply t None) plain (c, pending, acts, owes, is) = (
    tt,
    subst (λ (z : State). Plain spec z) (sym is) (plain_waiting (record s { threads = with_pending s.threads t None })
        pending.caller false (plain_owing s t None plain none_some)),
  )
  plain_step s new (Reply t (Some copy)) plain (c, pending, cap, d, acts, owes, grants, there, root, is) =
      absurd (true≢false (sym grants ∙ plain.threads t pending owes))
  plain_step s new (SetCspace t i j) plain (c, to, cap, acts, own, of, is) =
      absurd (true≢false (sym (of_kind s c i kinds.Thread to plain own)))
  plain_step s new (SetVspace t i j) plain (c, to, cap, acts, own, of, is) =
      absurd (true≢false (sym (of_kind s c i kinds.Thread to plain own)))
  plain_step s new (Map t i j r) plain (c, frame, cap, acts, own, of, is) =
      absurd (true≢false (sym (of_kind s c i kinds.Frame frame plain own)))
  plain_step s new (Bind t i j) plain (c, irq, cap, acts, own, of, writes, is) =
      (tt, subst (λ (z : State). Plain spec z) (sym is) (record { nodes = plain.nodes; threads = plain.threads }))
  plain_step s new (Drop t i) plain (c, content, acts, there, is) =
      (tt, subst (λ (z : State). Plain spec z) (sym is) (plain_without s c i plain))
  plain_step s new (Save t) plain (c, pending, acts, owes, is) =
      let none = plain.threads t pending owes in
      let more = plain_node s c (grown (node_at s c) (SavedReply pending)) plain
      (All-push (λ (slot : ℕ × Content). PlainContent spec slot.1) (node_at s c).slots ((node_at s c).next, SavedReply pending)
      (plain.nodes c) none) in (
        tt,
        subst (λ (z : State). Plain spec z) (sym is)
            (plain_owing (record s { nodes = grown_at s.nodes c (SavedReply pending) }) t None more none_some),
      )
  plain_step s new (ReplyTo t i None) plain (c, reply, acts, there, is) = (
    tt,
    subst (λ (z : State). Plain spec z) (sym is) (plain_waiting (dropped s c i) reply.caller false
        (plain_without s c i plain)),
  )
  plain_step s new (ReplyTo t i (Some copy)) plain (c, reply, cap, d, acts, there, grants, has, root, is) =
      absurd (true≢false (sym grants ∙ content_plain s c i (SavedReply reply) plain there))

  boot_plain : HoldsPlain spec → Plain spec (boot spec)
  boot_plain holds = record {
    nodes = λ c k d l. each c (get_or (node_at (boot spec) c).slots k d) (Contains-get_or (node_at (boot spec) c).slots k d l);
    threads = λ t reply e. absurd (let w : ◌≡◌ {A = Option Pending} None (Some reply) = sym (nothing_pending spec t) ∙ e in cc);
  } where
    each : (c : ℕ) (slot : ℕ × Content) → Contains (node_at (boot spec) c).slots slot → PlainContent spec slot.1
    each c (i, Capability x) there = holds c i x there
    each c (i, SavedReply reply) there = absurd (none_saved spec c i reply there)

  run_plain : (s new : State) (steps : List Step) → Plain spec s → Run spec s steps new → Plain spec new
  run_plain s new [] plain is = subst (λ (z : State). Plain spec z) (sym is) plain
  run_plain s new (step ∷ steps) plain (mid, one, more) = run_plain mid new steps (plain_step s mid step plain one).1 more

  pub steps_plain : HoldsPlain spec → (steps : List Step) (s : State) → Run spec (boot spec) steps s → (step : Step) (new : State)
      → StepTo spec s step new → IsPlainStep step
  steps_plain holds steps s run step new legal =
      (plain_step s new step (run_plain (boot spec) s steps (boot_plain holds) run) legal).0
