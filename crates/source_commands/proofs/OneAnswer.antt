-- In given contents there is one listing and one explanation, aside from failed reads and want of memory.
use Rattle.source_commands.proofs.Common.{Answer, Assigned, AtMost, Authority, SourceError, ComesFirst, Contents, Edge, Err, Explains, IsAnswer, IsAnswered, IsAsked, IsExplained, IsListed, IsListing, IsListingOf, IsReasoned, List, Listing, None}
use Rattle.source_commands.proofs.Common.{NotAssigned, Ok, Option, Reason, Result, Some, Source, Tables, ap, arith, by_bind, by_call, by_direct, by_lock, explanation, false, first_list_fault, has, label_texts, numbers, refl, same_Some}
use Rattle.source_commands.proofs.Common.{source_tables, subst, sym, tell, told_of, ℕ, ◌∙◌, ◌≡◌}
use Rattle.cap_model.proofs.TableMembers.{one_table}
use Rattle.explain.specs.declared.reason.Reason.{Reason as Told}
use Rattle.explain.specs.declared.reason.Rule.TheVariants.{Direct, ByCall, ByBind}
use Rattle.front_end.proofs.OneAnswer.{both, faults_same, none_faulted, one_fault, one_loaded}
use Rattle.cam_base.specs.declared.error.Unread.TheVariants as error
use Rattle.cam_base.specs.Unread.{yields}

-- ---- listings

listings_of_one : (s : Source) (a b : Listing) → IsListingOf s a → IsListingOf s b → a ≡ b
listings_of_one s a b x y =
    let edges : a.edges ≡ b.edges = one_table a.edges b.edges x.sorted y.sorted
    (λ e. both (has a.edges e) (has b.edges e) (x.edges e) (y.edges e)) in
    ap (λ z. let l : Listing = record { names = z; edges = a.edges } in l) (x.names ∙ sym y.names)
    ∙ ap (λ z. let l : Listing = record { names = b.names; edges = z } in l) edges

-- ---- reasons

pairs_one : (p q : ℕ × ℕ) → AtMost p q → AtMost q p → p ≡ q
pairs_one (a, b) (c, d) x y =
    let less = x.by_first in
    let more = y.by_first in
    let first : a ≡ c = omega (arith, less, more) in
    let below = x.by_second first in
    let above = y.by_second (sym first) in
    let second : b ≡ d = omega (arith, below, above) in
    ap (λ z. let r : ℕ × ℕ = (z, b) in r) first ∙ ap (λ z. let r : ℕ × ℕ = (c, z) in r) second

-- of one edge, two reasons that come before each other are told alike
module _ (t : Tables) (e : Edge) where
  reasons_one : (x y : Reason t e) → ComesFirst (told_of t e x) (told_of t e y) → ComesFirst (told_of t e y) (told_of t e x)
      → told_of t e x ≡ told_of t e y
  reasons_one (by_direct x) (by_direct y) h k =
      ap (λ z. tell Direct z None None) (pairs_one (numbers x.at) (numbers y.at) (h.by_first refl) (k.by_first refl))
  reasons_one (by_call x) (by_call y) h k =
      let first = pairs_one (numbers x.caller) (numbers y.caller) (h.by_first refl) (k.by_first refl) in
      let second = pairs_one (numbers x.server) (numbers y.server) (h.by_other refl first) (k.by_other refl (sym first)) in
      ap (λ z. tell ByCall z (Some (numbers x.server)) None) first ∙ ap (λ z. tell ByCall (numbers y.caller) (Some z) None) second
  reasons_one (by_bind x) (by_bind y) h k =
      let first = pairs_one (numbers x.handles.handler) (numbers y.handles.handler) (h.by_first refl) (k.by_first refl) in
      let second = pairs_one (numbers x.signaller) (numbers y.signaller) (h.by_other refl first) (k.by_other refl (sym first)) in
      ap (λ z. tell ByBind z (Some (numbers x.signaller)) None) first
      ∙ ap (λ z. tell ByBind (numbers y.handles.handler) (Some z) None) second
  reasons_one (by_lock x) (by_lock y) h k =
      let first = pairs_one (numbers x.handles.handler) (numbers y.handles.handler) (h.by_first refl) (k.by_first refl) in
      let second = pairs_one (x.lock.leaf, x.lock.member) (y.lock.leaf, y.lock.member) (h.by_other refl first)
      (k.by_other refl (sym first)) in
      ap (λ z. tell ByBind z None (Some (x.lock.leaf, x.lock.member))) first
      ∙ ap (λ z. tell ByBind (numbers y.handles.handler) None (Some z)) second
  reasons_one (by_call x) (by_bind y) h k = let reply = x.authority in let send = y.authority in absurd cc
  reasons_one (by_bind x) (by_call y) h k = let send = x.authority in let reply = y.authority in absurd cc
  reasons_one _ _ h k = let less = h.by_stage in let more = k.by_stage in absurd (omega (arith, less, more))

-- ---- explanations

edges_asked : (labels : List (List ℕ)) (from : List ℕ) (a : Authority) (to : List ℕ) (d e : Edge) → IsAsked labels from a to d
    → IsAsked labels from a to e → d ≡ e
edges_asked labels from a to d e x y =
    let from_one : d.from ≡ e.from = same_Some d.from e.from (sym x.from_is ∙ y.from_is) in
    let to_one : d.to ≡ e.to = same_Some d.to e.to (sym x.to_is ∙ y.to_is) in
    ap (λ z. let r : Edge = record { from = z; authority = d.authority; to = d.to } in r) from_one
    ∙ ap (λ z. let r : Edge = record { from = e.from; authority = z; to = d.to } in r) (x.authority_is ∙ sym y.authority_is)
    ∙ ap (λ z. let r : Edge = record { from = e.from; authority = e.authority; to = z } in r) to_one

-- the told reason of an edge, which comes before all
abbrev First : Tables → Edge → Told → Type 0
First t d r = (x : IsReasoned t d) × (told_of t d x.reason ≡ r) × ((y : IsReasoned t d) → ComesFirst r (told_of t d y.reason))

module _ (t : Tables) (r q : Told) where
  first_of_one : (d : Edge) → First t d r → First t d q → r ≡ q
  first_of_one d (x, is, before) (y, be, ahead) =
      sym is
      ∙ reasons_one t d x.reason y.reason (subst (λ z. ComesFirst z (told_of t d y.reason)) (sym is) (before y))
      (subst (λ z. ComesFirst z (told_of t d x.reason)) (sym be) (ahead x))
      ∙ be

  first_one : (d e : Edge) → d ≡ e → First t d r → First t e q → r ≡ q
  first_one d e same h k = first_of_one d h (subst (λ z. First t z q) (sym same) k)

module _ (t : Tables) (from authority to : List ℕ) where
  told_one : (a : Authority) (r q : Told) → Explains t from a to (Ok r) → Explains t from a to (Ok q) → r ≡ q
  told_one a r q (d, asked, first) (e, asks, other) =
      first_one t r q d e (edges_asked (label_texts t.flat) from a to d e asked asks) first other

  answers_one : (a b : Answer) → IsAnswer t from authority to a → IsAnswer t from authority to b → a ≡ b
  answers_one (Assigned x) (Assigned y) (a, r, word, told, is) (b, q, words, tells, be) =
      let same : b ≡ a = same_Some b a (sym words ∙ word) in
      let reason = told_one a r q told (subst (λ z. Explains t from z to (Ok q)) same tells) in
      ap (λ z. Assigned z) (is ∙ ap (λ z. explanation t.source t.flat from authority to z) reason ∙ sym be)
  answers_one (Assigned x) NotAssigned (a, r, word, (e, asked, first), is) none = absurd (none a word e asked first.0)
  answers_one NotAssigned (Assigned y) none (b, q, word, (e, asked, first), is) = absurd (none b word e asked first.0)
  answers_one NotAssigned NotAssigned none other = refl

-- ---- over contents

module _ (m : Contents) (root : List ℕ) where
  listings_same : (a b : Listing) → IsListing root m a → IsListing root m b → a ≡ b
  listings_same a b x y =
      listings_of_one y.source a b (subst (λ z. IsListingOf z a) (one_loaded m root x.source y.source x.loaded y.loaded)
      x.listed) y.listed

  pub one_listing : (old new later last : List ℕ → ℕ) (a b : Result Listing SourceError) → yields a ≡ false → yields b ≡ false
      → IsListed root m old new a → IsListed root m later last b → a ≡ b
  one_listing old new later last (Ok f) (Ok g) p q x y = ap Ok (listings_same f g x y)
  one_listing old new later last (Ok f) (Err (error.Fault g b)) p q x y =
      absurd (none_faulted first_list_fault m root x.source g b x.loaded x.none y)
  one_listing old new later last (Err (error.Fault f a)) (Ok g) p q x y =
      absurd (none_faulted first_list_fault m root y.source f a y.loaded y.none x)
  one_listing old new later last (Err (error.Fault f a)) (Err (error.Fault g b)) p q x y =
      faults_same f g a b (one_fault first_list_fault m root f g a b x y)
  one_listing old new later last _ _ p q x y = cc

  module _ (from authority to : List ℕ) where
    explained_same : (a b : Answer) → IsAnswered from authority to root m a → IsAnswered from authority to root m b → a ≡ b
    explained_same a b x y =
        let same = one_loaded m root x.source y.source x.loaded y.loaded in
        answers_one (source_tables y.source) from authority to a b
        (subst (λ (z : Source). IsAnswer (source_tables z) from authority to a) same x.answers) y.answers

    pub one_explained : (old new later last : List ℕ → ℕ) (a b : Result Answer SourceError) → yields a ≡ false → yields b ≡ false
        → IsExplained from authority to root m old new a → IsExplained from authority to root m later last b → a ≡ b
    one_explained old new later last (Ok f) (Ok g) p q x y = ap Ok (explained_same f g x y)
    one_explained old new later last (Ok f) (Err (error.Fault g b)) p q x y =
        absurd (none_faulted first_list_fault m root x.source g b x.loaded x.none y)
    one_explained old new later last (Err (error.Fault f a)) (Ok g) p q x y =
        absurd (none_faulted first_list_fault m root y.source f a y.loaded y.none x)
    one_explained old new later last (Err (error.Fault f a)) (Err (error.Fault g b)) p q x y =
        faults_same f g a b (one_fault first_list_fault m root f g a b x y)
    one_explained old new later last _ _ p q x y = cc
