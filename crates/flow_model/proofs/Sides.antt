-- On which side of a closed set the objects lie that an edge of a reached state joins.
use Rattle.flow_model.proofs.LawsCommon.{Access, Auth, Authority, Bool, BySlot, Cap, Control, Edge, HasSlot, IsClosed, Kind, LeadsDown, List, Own, Peer, Reached, Read, Receive, Some, Spec, State, Stays, SyncSend, Write, [], added_edge, against, along}
use Rattle.flow_model.proofs.LawsCommon.{and_parts, ap, buffer_edge, cases_eq, false, goes_against, goes_along, in_set, inl, inr, is_at, is_space_root, kind_confers, label_of, leads_slot, of_root, of_space, of_table, own_edge, own_space_edge, refl, sym}
use Rattle.flow_model.proofs.LawsCommon.{table_controls, table_edge, thread_at, true, ℕ, ◌&&◌, ◌∙◌, ◌∷◌, ◌≡◌}
use Rattle.cap_model.specs.declared.kind.Kind.TheVariants as kinds

both_ways : (a b : Bool) → (a ≡ true → b ≡ true) → (b ≡ true → a ≡ true) → a ≡ b
both_ways true b there back = sym (there refl)
both_ways false true there back = back refl
both_ways false false there back = refl

module _ (spec : Spec) (labels : List ℕ) (policy : List Edge) (inside : ℕ → Bool) (stays : Stays spec labels policy)
    (closed : IsClosed policy inside) where
  module _ (s : State) (reached : Reached spec s) where
    -- an edge along which something passes comes from the set if it goes there
    pub from_set : (a : Authority) (x y : ℕ) → goes_along a ≡ true → Auth spec labels s (label_of labels x) a (label_of labels y)
        → in_set labels inside y ≡ true → in_set labels inside x ≡ true
    from_set a x y goes auth here = elim (cases_eq (label_of labels x) (label_of labels y)) [
      | inl same ↦ ap inside same ∙ here
      | inr differ ↦ closed (label_of labels x) (label_of labels y)
          (along a goes (stays _ a _ (reached.steps, s, reached.run, auth) differ)) here
    ]

    pub to_set : (a : Authority) (x y : ℕ) → goes_against a ≡ true → Auth spec labels s (label_of labels x) a (label_of labels y)
        → in_set labels inside x ≡ true → in_set labels inside y ≡ true
    to_set a x y goes auth here = elim (cases_eq (label_of labels x) (label_of labels y)) [
      | inl same ↦ sym (ap inside same) ∙ here
      | inr differ ↦ closed (label_of labels y) (label_of labels x)
          (against a goes (stays _ a _ (reached.steps, s, reached.run, auth) differ)) here
    ]

    -- one that does both joins objects of one side
    pub tied : (a : Authority) (x y : ℕ) → goes_along a ≡ true → goes_against a ≡ true
        → Auth spec labels s (label_of labels x) a (label_of labels y) → in_set labels inside x ≡ in_set labels inside y
    tied a x y goes back auth = both_ways _ _ (to_set a x y back auth) (from_set a x y goes auth)

    pub side_root : (t c : ℕ) → (thread_at s t).root ≡ Some c → in_set labels inside t ≡ in_set labels inside c
    side_root t c root = tied Control t c refl refl (inr (of_root (t, c, root, refl, refl, refl)))

    pub side_space : (t d : ℕ) → (thread_at s t).space ≡ Some d → in_set labels inside t ≡ in_set labels inside d
    side_space t d space = tied Control t d refl refl (inr (of_space (t, d, space, refl, refl, refl)))

    pub side_own : (c i : ℕ) (kind : Kind) (cap : Cap) (a : Authority) → goes_along a ≡ true → goes_against a ≡ true
        → Own (is_at spec kind) s c i cap → kind_confers kind cap.rights a ≡ true
        → in_set labels inside c ≡ in_set labels inside cap.object
    side_own c i kind cap a goes back own gives = tied a c cap.object goes back (own_edge spec labels s c i kind cap a own gives)

    pub side_own_space : (c i : ℕ) (cap : Cap) → Own (is_space_root spec) s c i cap
        → in_set labels inside c ≡ in_set labels inside cap.object
    side_own_space c i cap own = tied Control c cap.object refl refl (own_space_edge spec labels s c i cap own)

    -- whoever may send to an endpoint lies where it does
    pub side_sender : (c i : ℕ) (cap : Cap) (more : Bool) → Own (is_at spec kinds.Endpoint) s c i cap
        → cap.rights.write && more ≡ true → in_set labels inside c ≡ in_set labels inside cap.object
    side_sender c i cap more own may = side_own c i kinds.Endpoint cap SyncSend refl refl own
        (and_parts cap.rights.write more may).0

    -- a peer and its root lie where the endpoint does
    pub side_listener : (t u j e d : ℕ) (cap : Cap) → Peer spec s t u j e d cap → in_set labels inside e ≡ in_set labels inside d
    side_listener t u j e d cap peer = ap (in_set labels inside) (sym peer.same)
        ∙ sym (side_own d j kinds.Endpoint cap Receive refl refl peer.own peer.reads)

    pub side_peer : (t u j e d : ℕ) (cap : Cap) → Peer spec s t u j e d cap → in_set labels inside e ≡ in_set labels inside u
    side_peer t u j e d cap peer = side_listener t u j e d cap peer ∙ sym (side_root u d peer.acts.root)

    -- page tables below a space root lie where it does
    side_down : (p q : ℕ) (path : List ℕ) → LeadsDown spec p path q → HasSlot spec q
        → in_set labels inside p ≡ in_set labels inside q
    side_down p q [] same slot = ap (in_set labels inside) same
    side_down p q (i ∷ path) (cap, there, rest) slot =
        tied Control p cap.object refl refl
        (inr (of_table (p, i, cap, there, table_controls spec cap (leads_slot spec cap.object q path rest slot), refl, refl)))
        ∙ side_down cap.object q path rest slot

    -- what a thread may write lies in the set only where the thread does, and what it may read lies there if the thread does
    in_table : (t f : ℕ) (a : Authority) (by : BySlot spec s t a f) → in_set labels inside t ≡ in_set labels inside by.table
    in_table t f a by = side_space t by.root by.space ∙ side_down by.root by.table by.path by.leads (by.number, by.cap, by.there)

    pub writes_from : (t f : ℕ) → Access spec s t Write f → in_set labels inside f ≡ true → in_set labels inside t ≡ true
    writes_from t f (inl by) here = in_table t f Write by ∙ from_set Write by.table f refl
        (table_edge spec labels s t f Write by) here
    writes_from t f (inr (inl by)) here = side_space t by.root by.space ∙ from_set Write by.root f refl
        (added_edge spec labels s t f Write by) here
    writes_from t f (inr (inr by)) here = from_set Write t f refl (buffer_edge spec labels s t f Write by) here

    pub reads_of : (t f : ℕ) → Access spec s t Read f → in_set labels inside t ≡ true → in_set labels inside f ≡ true
    reads_of t f (inl by) here = to_set Read by.table f refl (table_edge spec labels s t f Read by)
        (sym (in_table t f Read by) ∙ here)
    reads_of t f (inr (inl by)) here = to_set Read by.root f refl (added_edge spec labels s t f Read by)
        (sym (side_space t by.root by.space) ∙ here)
    reads_of t f (inr (inr by)) here = to_set Read t f refl (buffer_edge spec labels s t f Read by) here
