-- What was found makes all edges of an audit.
use Rattle.std.proofs.Common.{rules}
use Rattle.cap_audit.proofs.Common.{AreGates, AreHeadRoots, AreKinds, AreReady, AreStandIns, Audited, Cap, Contains, Deed, Edge, Found, Gains, HasRoot, HoldsNoThread, IsAll, IsBegun, IsClosed, IsFound, IsFoundAt, IsHeld, IsKept, IsMade}
use Rattle.cap_audit.proofs.Common.{IsQueued, IsReport, List, Made, MeetBy, None, OfAllCalls, OfAllDeeds, OfBoot, OfCap, OfDeeds, OfFace, OfKinds, OfListening, OfPair, OfRoot, OfRoots, OfSome, Option, Pair, Some, Spec, Spread, Step, []}
use Rattle.cap_audit.proofs.Common.{and_parts, arith, at_boot, at_contains, bare, by_bind, by_map, confers, contains_at, edge, edges_same, get_or, has, inl, inr, is_at, is_wanted, label_of, length, of_bind, of_call, of_map, of_save}
use Rattle.cap_audit.proofs.Common.{of_spread, refl, row_at, slice_get, slice_get_within, stand_in, subst, sym, true, ℕ, ◌&&◌, ◌<◌, ◌||◌, ◌∙◌, ◌≡◌, ◌⊎◌}
use Rattle.cap_model.specs.declared.kind.Kind.TheVariants as kinds
use Rattle.cap_audit.proofs.SpreadLeast.{spread_least}
use Rattle.cap_audit.specs.declared.making.Deed.TheVariants as deeds
use Rattle.cap_audit.specs.declared.picks.Wanted.TheVariants as wants
use Rattle.cap_audit.proofs.Gaining.{gains_by, gains_then}
use Rattle.cap_audit.proofs.Growing.{report_exact}
use Rattle.cap_audit.proofs.Beginning.{root_inside, thread_inside}

-- the search found all of the Spread
pub all_found : (spec : Spec) (f : Found) → IsFound spec f → IsClosed spec (IsFoundAt f) → IsAll spec (bare f)
all_found spec f found closed = search (rules, spread_least, slice_get)

-- before the first edge
pub made_first : (spec : Spec) (labels : List ℕ) (f : Found) → IsFound spec f → IsMade spec labels (bare f) [] f.steps f.nexts
made_first spec labels f found = record {
  state = found.state;
  run = found.run;
  quiet = found.quiet;
  numbers = found.nexts;
  there = λ c i cap at. found.there c i cap (record { value = at.value; held = at.held; is = at.is });
  shown = λ l a m h. absurd (let e : has [] (edge l a m) ≡ true = h in cc);
}

pub begun : (spec : Spec) (labels : List ℕ) (f : Found) (m : Made) → IsFound spec f → IsClosed spec (IsFoundAt f) → IsKept spec
    → length labels ≡ length spec.entries → (faces heads : List ℕ) → AreKinds spec labels (bare f) faces heads → m ≡ record {
      spec = spec;
      labels = labels;
      found = bare f;
      faces = faces;
      heads = heads;
      edges = [];
      steps = f.steps;
      nexts = f.nexts;
    } → IsBegun m
begun spec labels f m found closed kept labelled faces heads kinds is = search (rules, made_first, all_found)

module _ (spec : Spec) (f : Found) (all : IsAll spec f) where
  module _ (labels : List ℕ) where
    -- what the Spread confers
    pub of_queue : (c : ℕ) (cap : Cap) (e : Edge) → Spread spec c cap → OfCap spec labels (label_of labels c) cap e
        → OfSome (OfPair spec labels f) f.queue e
    of_queue c cap e has of = search (rules, at_contains)

    -- what a face confers, all do that it stands for
    pub of_faces : (faces : List ℕ) → AreStandIns f faces → ((c : ℕ) → label_of labels (stand_in faces c) ≡ label_of labels c)
        → (e : Edge) → OfSome (OfPair spec labels f) f.queue e → OfSome (OfFace spec labels f faces) f.queue e
    of_faces faces alike labelled e x =
        let pair : Pair = x.item in
        let k = contains_at f.queue pair x.there in
        let q =
        alike.held_there pair.node pair.held.value (record { place = k.0; pair = pair; there = k.1; at = refl; of = refl })
        in
        let same : label_of labels pair.node ≡ label_of labels q.pair.node = search (rules) in
        search (rules, at_contains, slice_get)

    -- the deeds of some thread, by the roots
    pub of_roots : (heads : List ℕ) (roots : List (Option ℕ)) (deed : Deed) (t c : ℕ) (e : Edge) → AreHeadRoots spec heads roots
        → c < length spec.entries → HasRoot spec t c → stand_in heads c ≡ c
        → OfDeeds spec labels f deed c e → OfRoots spec labels f deed roots e
    of_roots heads roots deed t c e are inside root itself by = record {
      at = c;
      less = inside;
      by = go (get_or roots c None) refl;
    } where
      go : (o : Option ℕ) → get_or roots c None ≡ o → OfRoot spec labels f deed (get_or roots c None) c e
      go None none = absurd (are.all_ones c t itself root none)
      go (Some u) some = subst (λ (o : Option ℕ). OfRoot spec labels f deed o c e) (sym some) by

  -- who stands for c has what c has
  pub is_held_there : (heads : List ℕ) → AreStandIns f heads → (c : ℕ) (cap : Cap) → Spread spec c cap
      → IsHeld f (stand_in heads c) cap
  is_held_there heads alike c cap has =
      let k = all.every c cap has in
      let q = alike.held_there c k.1.held.value (record { place = k.0; pair = k.1; there = k.2; at = k.3; of = refl }) in
      search (rules, slice_get)

  -- each edge of an audit is of one of the parts
  pub audited_parts : (labels faces heads : List ℕ) → AreKinds spec labels f faces heads → (e : Edge)
      → Audited spec labels e.from e.authority e.to → OfBoot spec labels e ⊎ (OfSome (OfPair spec labels f) f.queue e
      ⊎ (OfAllDeeds spec labels f heads e ⊎ OfAllCalls spec labels e))
  audited_parts labels faces heads kinds e (at_boot structural) = inl (inr structural)
  audited_parts labels faces heads kinds e (of_spread (c, cap, has, confers, from, to)) =
      inr (inl (of_queue labels c cap e has (record { from_is = from; conferred = confers; to_is = to })))
  audited_parts labels faces heads kinds e (of_map (frame, space, maps, confers, from, to)) =
      let u = kinds.rooted maps.root maps.thread maps.rooted in
      inr (inr (inl (by_map u.0 (stand_in heads maps.root) u.1 (kinds.are_heads.itself maps.root) (record {
        from = space;
        to = frame;
        has_from = is_held_there heads kinds.are_heads maps.root space maps.has;
        has_to = is_held_there heads kinds.are_heads maps.root frame maps.has_frame;
        is_from = maps.is;
        is_to = maps.is_frame;
        by = record { from_is = from; conferred = confers; to_is = to };
      }))))
  audited_parts labels faces heads kinds e (of_bind (d, n, binds, is, from, to)) =
      let u = kinds.rooted binds.root binds.thread binds.rooted in
      inr (inr (inl (by_bind u.0 (stand_in heads binds.root) u.1 (kinds.are_heads.itself binds.root) (record {
        from = binds.irq;
        to = binds.bound;
        has_from = is_held_there heads kinds.are_heads binds.root binds.irq binds.has_irq;
        has_to = is_held_there heads kinds.are_heads binds.root binds.bound binds.has;
        is_from = binds.is_irq;
        is_to = (let a = binds.is in rw a binds.writes);
        by = search (rules, edges_same);
      }))))
  audited_parts labels faces heads kinds e (of_call (t, u, to, from, calls, is, l, m)) = search (rules, edges_same)
  audited_parts labels faces heads kinds e (of_save (t, u, c, to, from, calls, root, is, l, m)) = search (rules, edges_same)

-- the calls, by the endpoints
module _ (spec : Spec) (labels : List ℕ) (f : Found) (heads : List ℕ) (rosters members : List (List ℕ)) (gates : List (List Pair))
    (r : AreReady spec f heads rosters members gates) where
  member_at : (t c : ℕ) → HasRoot spec t c → Contains (row_at members (stand_in heads c)) c
  member_at t c root = search (rules, root_inside)

  pub of_listeners : (e : Edge) → OfAllCalls spec labels e
      → OfSome (OfListening spec labels f heads rosters members gates) f.queue e
  of_listeners e x =
      let a = r.all.every x.c x.to x.has in let b = r.all.every x.d x.from x.peer_has in
      let p = r.alike.held_there x.c a.1.held.value (record { place = a.0; pair = a.1; there = a.2; at = a.3; of = refl }) in
      let q = r.alike.held_there x.d b.1.held.value (record { place = b.0; pair = b.1; there = b.2; at = b.3; of = refl }) in
      let p_is : slice_get f.values p.pair.held.value ≡ Some x.to = search (rules, slice_get) in
      let q_is : slice_get f.values q.pair.held.value ≡ Some x.from = search (rules, slice_get) in
      let p_itself : stand_in heads p.pair.node ≡ p.pair.node = search (rules) in
      let q_itself : stand_in heads q.pair.node ≡ q.pair.node = search (rules) in
      let wanted : is_wanted spec wants.Caller x.to ≡ true = (let is = x.meet.is in let may = x.may in rw is may) in
      let listens : is_wanted spec wants.Listener x.from ≡ true = search (rules) in
      let gate = r.are_gates.every p.place p.pair x.to (slice_get_within f.queue p.place p.pair p.there) p.there p_is
      wanted p_itself in
      let of_kinds : OfKinds labels rosters members (stand_in heads x.c) (stand_in heads x.d) e =
      search (rules, member_at, thread_inside) in
      let here : OfKinds labels rosters members gate.0.node q.pair.node e = search (rules) in
      search (rules, at_contains)

-- a door of a gate and one that listens meet
pub gate_meets : (spec : Spec) (f : Found) (heads : List ℕ) (gates : List (List Pair)) (n : ℕ) → AreGates spec f heads gates n
    → (pair : Pair) (from : Cap) → slice_get f.values pair.held.value ≡ Some from
    → is_wanted spec wants.Listener from ≡ true → (door : Pair) → Contains (row_at gates from.object) door
    → IsQueued f door.node door.held.value × MeetBy spec f door.held.value pair.held.value
gate_meets spec f heads gates n g pair from is listens door there =
    let may = g.may from.object door there in
    let calls = and_parts (is_at spec kinds.Endpoint may.cap.object) (may.cap.rights.write
    && (may.cap.rights.grant || may.cap.rights.reply)) may.wanted in (
      record { place = may.place; pair = door; there = may.there; at = refl; of = refl },
      record {
        to = may.cap;
        from = from;
        is = may.is;
        peer_is = is;
        meet = search (rules, and_parts);
        may = calls.1;
      },
    )

-- the deeds of all threads, by the list of roots
pub deeds_parts : (spec : Spec) (labels : List ℕ) (f : Found) (heads : List ℕ) (roots : List (Option ℕ)) → IsAll spec f
    → IsKept spec → AreHeadRoots spec heads roots → (e : Edge)
    → OfAllDeeds spec labels f heads e → OfRoots spec labels f deeds.Map roots e ⊎ OfRoots spec labels f deeds.Bind roots e
deeds_parts spec labels f heads roots all kept are e (by_map t c root itself of) =
    inl (of_roots spec f all labels heads roots deeds.Map t c e are (root_inside spec t c kept root) root itself of)
deeds_parts spec labels f heads roots all kept are e (by_bind t c root itself of) =
    inr (of_roots spec f all labels heads roots deeds.Bind t c e are (root_inside spec t c kept root) root itself of)

pub begun_on : (P : Edge → Type 0) (m new : Made) → IsBegun m → Gains P m new → IsBegun new
begun_on P m new b g = search (rules)

-- the four parts, one after the other
pub all_shown : (m a b c d : Made) → IsBegun m → Gains (OfBoot m.spec m.labels) m a
    → Gains (OfSome (OfFace a.spec a.labels a.found a.faces) a.found.queue) a b
    → Gains (OfAllDeeds b.spec b.labels b.found b.heads) b c
    → Gains (OfAllCalls c.spec c.labels) c d → Gains (λ e. Audited m.spec m.labels e.from e.authority e.to) m d
all_shown m a b c d begun g h k l =
    let P = OfBoot m.spec m.labels in let Q = OfSome (OfPair m.spec m.labels m.found) m.found.queue in
    let R = OfAllDeeds m.spec m.labels m.found m.heads in let S = OfAllCalls m.spec m.labels in
    let F = OfSome (OfFace m.spec m.labels m.found m.faces) m.found.queue in
    let h_f : Gains F a b = search (rules) in
    let h_m : Gains Q a b = search (rules, gains_by, of_faces) in
    let gh : Gains (λ e. P e ⊎ Q e) m b = gains_then P Q m a b g h_m in
    let k_m : Gains R b c = subst (λ (x : Made). Gains (OfAllDeeds x.spec x.labels x.found x.heads) b c) gh.same k in
    let ghk : Gains (λ e. (P e ⊎ Q e) ⊎ R e) m c = gains_then (λ e. P e ⊎ Q e) R m b c gh k_m in
    let l_m : Gains S c d = subst (λ (x : Made). Gains (OfAllCalls x.spec x.labels) c d) ghk.same l in
    let all = gains_then (λ e. (P e ⊎ Q e) ⊎ R e) S m c d ghk l_m in
    gains_by (λ e. ((P e ⊎ Q e) ⊎ R e) ⊎ S e) (λ e. Audited m.spec m.labels e.from e.authority e.to)
    (λ e x. elim (audited_parts m.spec m.found begun.all m.labels m.faces m.heads begun.kinds e x) [
      | inl p ↦ inl (inl (inl p))
      | inr y ↦ elim y [ inl q ↦ inl (inl (inr q)) | inr z ↦ elim z [ inl r ↦ inl (inr r) | inr t ↦ inr t ] ]
    ])
    m d all

-- the report
pub reported : (old new : Made) (edges : List Edge) (steps : List Step) → HoldsNoThread old.spec
    → Gains (λ e. Audited old.spec old.labels e.from e.authority e.to) old new → ((e : Edge) → has edges e ≡ has new.edges e)
    → steps ≡ new.steps → IsReport old.spec old.labels edges steps
reported old new edges steps none g same steps_are =
    let made_old : IsMade old.spec old.labels old.found new.edges new.steps new.nexts = search (rules) in
    let made : IsMade old.spec old.labels old.found edges new.steps new.nexts = search (rules) in
    subst (λ (xs : List Step). IsReport old.spec old.labels edges xs) (sym steps_are) (report_exact old.spec old.labels old.found
    edges new.steps new.nexts none made
    (λ l a m h. g.so_far.differ l a m (sym (same (edge l a m)) ∙ h))
    (λ l a m x differ. same (edge l a m) ∙ g.added (edge l a m) x differ))
