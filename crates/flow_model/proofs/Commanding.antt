-- What edges of a reached state let a label do.
use Rattle.std.proofs.Common.{rules}
use Rattle.flow_model.proofs.LawsCommon.{Access, Auth, Authority, Cap, Commands, Control, Edge, HasSlot, Kind, Leads, LeadsDown, Lets, List, Meets, Owes, Own, Peer, Pending, Reached, Receive, Reply, SavedReply, Some, Spec, State, Stays, [], added_edge}
use Rattle.flow_model.proofs.LawsCommon.{ap, buffer_edge, cases_eq, contained, content_in, inl, inr, is_at, is_space_root, kind_confers, label_of, leads_slot, of_reply, of_root, of_saved, of_space, of_table, own_edge, own_space_edge, refl, subst, sym}
use Rattle.flow_model.proofs.LawsCommon.{table_controls, table_edge, thread_at, true, ℕ, ◌++◌, ◌∷◌, ◌≡◌, ◌⊎◌}
use Rattle.cap_model.specs.Tables.{Has}
use Rattle.cap_model.specs.declared.kind.Kind.TheVariants as kinds

pub itself : (policy : List Edge) (l m : ℕ) → l ≡ m → Commands policy l m
itself policy l m same = ([], same)

leads_on : (policy : List Edge) (path beyond : List ℕ) (l k m : ℕ) → Leads policy l path k → Leads policy k beyond m
    → Leads policy l (path ++ beyond) m
leads_on policy [] beyond l k m e rest = subst (λ (n : ℕ). Leads policy n beyond m) (sym e) rest
leads_on policy (j ∷ path) beyond l k m (edge, more) rest = (edge, leads_on policy path beyond j k m more rest)

commands_on : (policy : List Edge) (l k m : ℕ) → Commands policy l k → Commands policy k m → Commands policy l m
commands_on policy l k m (path, more) (beyond, rest) = (path ++ beyond, leads_on policy path beyond l k m more rest)

pub controls : (policy : List Edge) (l m : ℕ) (a : Authority) → Commands policy l m → Lets policy l a m
controls policy l m a commands = (m, commands, inl refl)

pub its_own : (policy : List Edge) (l : ℕ) (a : Authority) → Lets policy l a l
its_own policy l a = (l, itself policy l l refl, inl refl)

module _ (spec : Spec) (labels : List ℕ) (policy : List Edge) (stays : Stays spec labels policy) (s : State)
    (reached : Reached spec s) where
  edge_lets : (x y : ℕ) (a : Authority) → Auth spec labels s (label_of labels x) a (label_of labels y)
      → (label_of labels x ≡ label_of labels y) ⊎ Has policy (label_of labels x) a (label_of labels y)
  edge_lets x y a auth = search (rules, cases_eq, label_of)

  pub lets : (l x y : ℕ) (a : Authority) → Commands policy l (label_of labels x)
      → Auth spec labels s (label_of labels x) a (label_of labels y) → Lets policy l a (label_of labels y)
  lets l x y a commands auth = (label_of labels x, commands, edge_lets x y a auth)

  command : (x y : ℕ) → Auth spec labels s (label_of labels x) Control (label_of labels y)
      → Commands policy (label_of labels x) (label_of labels y)
  command x y auth = elim (edge_lets x y Control auth) [
    | inl same ↦ itself policy _ _ same
    | inr has ↦
        (label_of labels y ∷ [], (has, refl))
  ]

  pub of_its_root : (t c : ℕ) → (thread_at s t).root ≡ Some c → Commands policy (label_of labels t) (label_of labels c)
  of_its_root t c root = command t c (inr (of_root (t, c, root, refl, refl, refl)))

  of_its_space : (t d : ℕ) → (thread_at s t).space ≡ Some d → Commands policy (label_of labels t) (label_of labels d)
  of_its_space t d space = command t d (inr (of_space (t, d, space, refl, refl, refl)))

  -- what a capability of its root confers on a thread
  pub by_own : (t c i : ℕ) (kind : Kind) (cap : Cap) (a : Authority) → (thread_at s t).root ≡ Some c
      → Own (is_at spec kind) s c i cap → kind_confers kind cap.rights a ≡ true
      → Lets policy (label_of labels t) a (label_of labels cap.object)
  by_own t c i kind cap a root own gives = lets (label_of labels t) c cap.object a (of_its_root t c root)
      (own_edge spec labels s c i kind cap a own gives)

  pub by_own_space : (t c i : ℕ) (cap : Cap) → (thread_at s t).root ≡ Some c → Own (is_space_root spec) s c i cap
      → Lets policy (label_of labels t) Control (label_of labels cap.object)
  by_own_space t c i cap root own = lets (label_of labels t) c cap.object Control (of_its_root t c root)
      (own_space_edge spec labels s c i cap own)

  -- where a peer receives
  receives : (t u j e d : ℕ) (l : ℕ) (cap : Cap) → Commands policy l (label_of labels d) → Peer spec s t u j e d cap
      → Lets policy l Receive (label_of labels e)
  receives t u j e d l cap commands peer =
      subst (λ (n : ℕ). Lets policy l Receive (label_of labels n)) peer.same
      (lets l d cap.object Receive commands (own_edge spec labels s d j kinds.Endpoint cap Receive peer.own peer.reads))

  pub root_meets : (l t u j e d : ℕ) (a : Authority) (cap : Cap) → Lets policy l a (label_of labels e) → Peer spec s t u j e d cap
      → Meets policy l a (label_of labels d)
  root_meets l t u j e d a cap sends peer =
      (label_of labels e, sends, receives t u j e d (label_of labels d) cap (itself policy _ _ refl) peer)

  pub peer_meets : (l t u j e d : ℕ) (a : Authority) (cap : Cap) → Lets policy l a (label_of labels e) → Peer spec s t u j e d cap
      → Meets policy l a (label_of labels u)
  peer_meets l t u j e d a cap sends peer =
      (label_of labels e, sends, receives t u j e d (label_of labels u) cap (of_its_root u d peer.acts.root) peer)

  pub owes_lets : (t : ℕ) (reply : Pending) → Owes s t reply
      → Lets policy (label_of labels t) Reply (label_of labels reply.caller)
  owes_lets t reply owes = lets (label_of labels t) t reply.caller Reply (itself policy _ _ refl)
      (inr (of_reply (t, reply, owes, refl, refl, refl)))

  pub saved_lets : (t c i : ℕ) (reply : Pending) → (thread_at s t).root ≡ Some c → content_in s c i ≡ Some (SavedReply reply)
      → Lets policy (label_of labels t) Reply (label_of labels reply.caller)
  saved_lets t c i reply root there =
      lets (label_of labels t) c reply.caller Reply (of_its_root t c root)
      (inr (of_saved (c, i, reply, contained spec labels s c i (SavedReply reply) there, refl, refl, refl)))

  -- page tables below a space root
  goes_down : (p q : ℕ) (path : List ℕ) → LeadsDown spec p path q → HasSlot spec q
      → Commands policy (label_of labels p) (label_of labels q)
  goes_down p q [] same slot = itself policy _ _ (ap (label_of labels) same)
  goes_down p q (i ∷ path) (cap, there, rest) slot =
      commands_on policy (label_of labels p) (label_of labels cap.object) (label_of labels q)
      (command p cap.object
      (inr (of_table (p, i, cap, there, table_controls spec cap (leads_slot spec cap.object q path rest slot), refl, refl))))
      (goes_down cap.object q path rest slot)

  pub access_lets : (t f : ℕ) (a : Authority) → Access spec s t a f → Lets policy (label_of labels t) a (label_of labels f)
  access_lets t f a (inl by) =
      lets (label_of labels t) by.table f a (commands_on policy (label_of labels t) (label_of labels by.root)
      (label_of labels by.table) (of_its_space t by.root by.space) (goes_down by.root by.table by.path by.leads
      (by.number, by.cap, by.there))) (table_edge spec labels s t f a by)
  access_lets t f a (inr (inl by)) = lets (label_of labels t) by.root f a (of_its_space t by.root by.space)
      (added_edge spec labels s t f a by)
  access_lets t f a (inr (inr by)) = lets (label_of labels t) t f a (itself policy _ _ refl) (buffer_edge spec labels s t f a by)
