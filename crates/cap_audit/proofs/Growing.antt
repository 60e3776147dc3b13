-- Steps that show edges, one sequence after the other, and that a report with all edges of an audit is exact.
use Rattle.std.proofs.Common.{rules}
use Rattle.cap_audit.proofs.Common.{Audited, Auth, Authority, Cap, Capability, Content, Edge, Found, Has, HasRoot, HaveRoots, HoldsAt, HoldsNoThread, IsMade, IsReport, List, MayCall, Meet, Node, None, Reaches, Run, SavedReply, Shows, Spec, State}
use Rattle.cap_audit.proofs.Common.{Step, [], ap, append-nil, append_assoc, arith, boot, cases_eq, confers, get_or, get_or-set_other, get_or-set_same, grown_at, inl, inr, is_at, is_space_root, label_of, length, length-set, no_node, node_at}
use Rattle.cap_audit.proofs.Common.{refl, set, subst, sym, true, whole, without_at, ℕ, ◌++◌, ◌+◌, ◌<◌, ◌∙◌, ◌∷◌, ◌≡◌, ◌≢◌, ◌⊎◌}
use Rattle.authorities.specs.declared.authority.Authority.TheVariants as authorities
use Rattle.cap_model.specs.declared.kind.Kind.TheVariants as kinds
use Rattle.cap_machine.specs.declared.step.Step.TheVariants as moves
use Rattle.cap_audit.proofs.AuditedEdges.{reached_audited}
use Rattle.cap_audit.proofs.Quiet.{run_append, kept_at, there_by_lookup, quiet_node, quiet_cnode, Onward}
use Rattle.cap_audit.proofs.Sequences.{map_on, bind_on, save_on}

-- a longer list of steps shows what the shorter one does
pub shows_more : (spec : Spec) (labels : List ℕ) (s : State) (steps more : List Step) (l : ℕ) (a : Authority) (m : ℕ)
    → Shows spec labels s steps l a m → Shows spec labels s (steps ++ more) l a m
shows_more spec labels s steps more l a m h = search (rules, append_assoc)

-- steps behind a run
pub shows_behind : (spec : Spec) (labels : List ℕ) (s mid : State) (before steps : List Step) (l : ℕ) (a : Authority) (m : ℕ)
    → Run spec s before mid → Shows spec labels mid steps l a m → Shows spec labels s (before ++ steps) l a m
shows_behind spec labels s mid before steps l a m run h = record {
  front = before ++ h.front;
  back = h.back;
  parts = ap (λ (xs : List Step). before ++ xs) h.parts ∙ sym (append_assoc before h.front h.back);
  state = h.state;
  run = run_append spec before h.front s mid h.state run h.run;
  auth = h.auth;
}

-- the state after all steps
pub shows_at_end : (spec : Spec) (labels : List ℕ) (s new : State) (steps : List Step) (l : ℕ) (a : Authority) (m : ℕ)
    → Run spec s steps new → Auth spec labels new l a m → Shows spec labels s steps l a m
shows_at_end spec labels s new steps l a m run auth = record {
  front = steps;
  back = [];
  parts = sym (append-nil steps);
  state = new;
  run = run;
  auth = auth;
}

pub shows_reach : (spec : Spec) (labels : List ℕ) (steps : List Step) (l : ℕ) (a : Authority) (m : ℕ)
    → Shows spec labels (boot spec) steps l a m → Reaches spec labels l a m
shows_reach spec labels steps l a m h = (h.front, h.state, h.run, h.auth)

module _ (spec : Spec) (labels : List ℕ) (f : Found) where
  module _ (edges : List Edge) (steps : List Step) (nexts : List ℕ) (made : IsMade spec labels f edges steps nexts) where
    -- more edges that the steps show
    pub made_more : (new : List Edge) → ((l : ℕ) (a : Authority) (m : ℕ) → Has new l a m
        → Has edges l a m ⊎ Shows spec labels (boot spec) steps l a m) → IsMade spec labels f new steps nexts
    made_more new shown = search (rules)

    -- what is found confers edges
    pub made_held : (c i : ℕ) (cap : Cap) (a : Authority) → HoldsAt f c i cap → confers spec cap a ≡ true
        → Shows spec labels (boot spec) steps (label_of labels c) a (label_of labels cap.object)
    made_held c i cap a at conf =
        shows_at_end spec labels (boot spec) made.state steps (label_of labels c) a (label_of labels cap.object) made.run
        (inl (c, i, cap, there_by_lookup (node_at made.state c) i (Capability cap) (made.there c i cap at), conf, refl, refl))

    -- steps that leave all CNodes as they were
    made_onward : (new : State) (on : Onward spec made.state new) → new.nodes ≡ made.state.nodes
        → IsMade spec labels f edges (steps ++ on.steps) nexts
    made_onward new on nodes = record {
      state = new;
      run = run_append spec steps on.steps (boot spec) made.state new made.run on.run;
      quiet = on.quiet;
      numbers = λ c. ap (λ (ns : List Node). (get_or ns c no_node).next) nodes ∙ made.numbers c;
      there = λ c i cap at. kept_at made.state.nodes new.nodes c i (Capability cap) on.kept (made.there c i cap at);
      shown = λ l a m h. shows_more spec labels (boot spec) steps on.steps l a m (made.shown l a m h);
    }

    pub made_map : (t c i j : ℕ) (frame space : Cap) → HasRoot spec t c → HoldsAt f c i frame
        → is_at spec kinds.Frame frame.object ≡ true → HoldsAt f c j space → is_space_root spec space.object ≡ true
        → IsMade spec labels f edges (steps ++ moves.Map t i j whole ∷ []) nexts
        × ((a : Authority) → confers spec frame a ≡ true → Shows spec labels (boot spec) (steps ++ moves.Map t i j whole ∷ [])
        (label_of labels space.object) a (label_of labels frame.object))
    made_map t c i j frame space root own is of is_space =
        let on = map_on spec made.state made.quiet labels t c i j frame space root (made.there c i frame own) is
        (made.there c j space of) is_space in
        let same : ◌≡◌ {A = List Step} (steps ++ on.1.steps) (steps ++ moves.Map t i j whole ∷ []) =
        ap (λ (xs : List Step). steps ++ xs) on.2 in (
          subst (λ (xs : List Step). IsMade spec labels f edges xs nexts) same (made_onward on.0 on.1 on.3),
          λ a conf. subst (λ (xs : List Step). Shows spec labels (boot spec) xs (label_of labels space.object) a
              (label_of labels frame.object)) same
              (shows_at_end spec labels (boot spec) on.0 (steps ++ on.1.steps) (label_of labels space.object) a
              (label_of labels frame.object)
              (run_append spec steps on.1.steps (boot spec) made.state on.0 made.run on.1.run) (on.4 a conf)),
        )

    pub made_bind : (t c i j : ℕ) (irq bound : Cap) → HasRoot spec t c → HoldsAt f c i irq
        → is_at spec kinds.Irq irq.object ≡ true → HoldsAt f c j bound
        → is_at spec kinds.Notification bound.object ≡ true → bound.rights.write ≡ true
        → IsMade spec labels f edges (steps ++ moves.Bind t i j ∷ []) nexts
        × Shows spec labels (boot spec) (steps ++ moves.Bind t i j ∷ []) (label_of labels irq.object) authorities.AsyncSend
        (label_of labels bound.object)
    made_bind t c i j irq bound root own is of is_bound writes =
        let on = bind_on spec made.state made.quiet labels t c i j irq bound root (made.there c i irq own) is
        (made.there c j bound of) is_bound writes in
        let same : ◌≡◌ {A = List Step} (steps ++ on.1.steps) (steps ++ moves.Bind t i j ∷ []) =
        ap (λ (xs : List Step). steps ++ xs) on.2 in (
          subst (λ (xs : List Step). IsMade spec labels f edges xs nexts) same (made_onward on.0 on.1 on.3),
          subst (λ (xs : List Step). Shows spec labels (boot spec) xs (label_of labels irq.object) authorities.AsyncSend
              (label_of labels bound.object)) same
              (shows_at_end spec labels (boot spec) on.0 (steps ++ on.1.steps) (label_of labels irq.object) authorities.AsyncSend
              (label_of labels bound.object)
              (run_append spec steps on.1.steps (boot spec) made.state on.0 made.run on.1.run) on.4),
        )

    -- a call whose reply is saved and given from there
    module _ (t u c d i j : ℕ) (to from : Cap) (roots : HaveRoots spec t u c d) (meet : Meet spec to from) (may : MayCall to)
        (own : HoldsAt f c i to) (listens : HoldsAt f d j from)
        (inside : d < length nexts) where
      abbrev call_steps : List Step
      call_steps = moves.Call t i u j ∷ (moves.Save u ∷ (moves.ReplyTo u (get_or nexts d 0) None ∷ []))

      numbers_after : (new : State) (x : Content) → new.nodes ≡ without_at (grown_at made.state.nodes d x) d
          (node_at made.state d).next → (k : ℕ) → (node_at new k).next ≡ get_or (set nexts d (get_or nexts d 0 + 1)) k 0
      numbers_after new x nodes k =
          let less : d < length made.state.nodes = search (rules, quiet_node, quiet_cnode) in
          let grew : length (grown_at made.state.nodes d x) ≡ length made.state.nodes = search (rules, length-set) in
          search (rules, cases_eq, get_or-set_same, get_or-set_other)

      pub made_call : IsMade spec labels f edges (steps ++ call_steps) (set nexts d (get_or nexts d 0 + 1))
          × Shows spec labels (boot spec) (steps ++ call_steps) (label_of labels u) authorities.Reply (label_of labels t)
          × Shows spec labels (boot spec) (steps ++ call_steps) (label_of labels d) authorities.Reply (label_of labels t)
      made_call =
          let on = save_on spec made.state made.quiet t u c d i j to from roots meet may (made.there c i to own)
          (made.there d j from listens) labels in
          let number : moves.ReplyTo u (node_at made.state d).next None ≡ moves.ReplyTo u (get_or nexts d 0) None =
          ap (λ (n : ℕ). moves.ReplyTo u n None) (made.numbers d) in
          let steps_are : on.1.steps ≡ call_steps = search (rules) in
          let same : ◌≡◌ {A = List Step} (steps ++ on.1.steps) (steps ++ call_steps) =
          ap (λ (xs : List Step). steps ++ xs) steps_are in (
            subst (λ (xs : List Step). IsMade spec labels f edges xs (set nexts d (get_or nexts d 0 + 1))) same
                (record {
                  state = on.0;
                  run = run_append spec steps on.1.steps (boot spec) made.state on.0 made.run on.1.run;
                  quiet = on.1.quiet;
                  numbers = numbers_after on.0 (SavedReply (record { caller = t; grants = from.rights.grant })) on.5;
                  there = λ k n cap at. kept_at made.state.nodes on.0.nodes k n (Capability cap) on.1.kept
                      (made.there k n cap at);
                  shown = λ l a m h. shows_more spec labels (boot spec) steps on.1.steps l a m (made.shown l a m h);
                }),
            subst (λ (xs : List Step). Shows spec labels (boot spec) xs (label_of labels u) authorities.Reply (label_of labels t))
                same
                (shows_behind spec labels (boot spec) made.state steps on.1.steps (label_of labels u) authorities.Reply
                (label_of labels t) made.run on.3),
            subst (λ (xs : List Step). Shows spec labels (boot spec) xs (label_of labels d) authorities.Reply (label_of labels t))
                same
                (shows_behind spec labels (boot spec) made.state steps on.1.steps (label_of labels d) authorities.Reply
                (label_of labels t) made.run on.4),
          )

-- a report with all edges of an audit between different labels, and no others, is exact
pub report_exact : (spec : Spec) (labels : List ℕ) (f : Found) (edges : List Edge) (steps : List Step) (nexts : List ℕ)
    → HoldsNoThread spec → IsMade spec labels f edges steps nexts → ((l : ℕ) (a : Authority) (m : ℕ) → Has edges l a m → l ≢ m)
    → ((l : ℕ) (a : Authority) (m : ℕ) → Audited spec labels l a m → l ≢ m → Has edges l a m) → IsReport spec labels edges steps
report_exact spec labels f edges steps nexts none made differ all = record {
  reached = λ l a m. (
    λ h. (shows_reach spec labels steps l a m (made.shown l a m h), differ l a m h),
    λ h. all l a m (reached_audited spec labels none l a m h.0) h.1,
  );
  run = (made.state, made.run);
  shown = made.shown;
}
