-- Where all edges were looked at, the rules hold.
use Rattle.least_cert.proofs.Common.{AsyncSend, Authority, Begins, Bool, Call, Closes, Closure, Control, Edge, Gifted, Grant, GrantBack, Grows, Handle, Has, HasBoot, IsCertificate, IsClosedFor, IsLeast, IsSound, KeepsRules, Knows, List, Looks}
use Rattle.least_cert.proofs.Common.{LooksAt, Receive, Reply, Some, Spec, [], arith, edge, eqb-true, false, has, has_at, inl, inr, leader_at, length, length-append, or_cases, or_left, or_right, refl, same_edge, slice_get, subst, suc, sym, take}
use Rattle.least_cert.proofs.Common.{rules, take-append-le, take_all, true, zero, ℕ, ◌++◌, ◌+◌, ◌<◌, ◌==◌, ◌||◌, ◌∙◌, ◌∷◌, ◌≡◌, ◌≢◌, ◌≤◌, ◌⊎◌}
use Rattle.cam_base.proofs.Orders.{same_itself}
use Rattle.least_cert.proofs.Growth.{gifted_grows, grows_none, grows_then, knows_grows, one_grows}
use Rattle.least_cert.proofs.Leading.{knows_led, knows_least, led_knows, number_other}
use Rattle.least_cert.proofs.Listing.{has_last}
use Rattle.cam_base.proofs.NumberedLists.{taken_more}

pub closed_none : (c : Closure) → IsClosedFor [] c
closed_none c = search (rules)

module _ (first : List Edge) (f : Edge) (c new : Closure) (closed : IsClosedFor first c) (looks : Looks c f new)
    (inside : (e : Edge) → has first e ≡ true → has c.queue e ≡ true) (known : has c.queue f ≡ true) where
  one_of : (e : Edge) → has (first ++ f ∷ []) e ≡ true → (has first e ≡ true) ⊎ (f ≡ e)
  one_of e h = has_last first f e h

  was_known : (e : Edge) → has (first ++ f ∷ []) e ≡ true → has c.queue e ≡ true
  was_known e h = elim (one_of e h) [ inl old ↦ inside e old | inr same ↦ subst (λ (x : Edge). has c.queue x ≡ true) same known ]

  grown : (e : Edge) → Knows c e → Knows new e
  grown e h = knows_grows c new looks.grows e h

  kept : (l m : ℕ) → Gifted c l m → Gifted new l m
  kept l m h = gifted_grows c new looks.grows l m h

  pub closed_more : IsClosedFor (first ++ f ∷ []) new
  closed_more = record {
    control = λ l m h. elim (one_of (edge l Control m) h) [
      | inl old ↦ one_grows c new looks.grows l m (closed.control l m old)
      | inr same ↦ subst (λ (x : Edge). x.authority ≡ Control → leader_at new.leaders x.from ≡ leader_at new.leaders x.to) same
          looks.of_control refl
    ];
    passed = λ s r g a x other h. elim (looks.grows.copied s r g) [
      | inl gave ↦ elim (one_of (edge s a x) h) [
        | inl old ↦ grown (edge r a x) (closed.passed s r gave a x other old)
        | inr same ↦ subst (λ (y : Edge). y.authority ≢ Reply → Has c.gives y.from Grant r → Knows new (edge r y.authority y.to))
            same (looks.passed r) other gave
      ]
      | inr copied ↦ copied a x other (was_known (edge s a x) h)
    ];
    grant = λ s e r p q other. elim (one_of (edge s Grant e) p) [
      | inr same ↦ subst (λ (y : Edge). y.authority ≡ Grant → (l : ℕ) → Has c.queue l Receive y.to → y.from ≢ l
          → Gifted new y.from l) same looks.of_grant refl r (was_known (edge r Receive e) q) other
      | inl old ↦ elim (one_of (edge r Receive e) q) [
        | inl olds ↦ kept s r (closed.grant s e r old olds other)
        | inr same ↦ subst (λ (y : Edge). y.authority ≡ Receive → (l : ℕ) → Has c.queue l Grant y.to → l ≢ y.from
            → Gifted new l y.from) same looks.of_receive refl s (inside (edge s Grant e) old) other
      ]
    ];
    grant_back = λ s e r p q other. elim (one_of (edge s Call e) p) [
      | inr same ↦ subst (λ (y : Edge). y.authority ≡ Call → (l : ℕ) → Has c.queue l GrantBack y.to → y.from ≢ l
          → Gifted new l y.from) same looks.of_call refl r (was_known (edge r GrantBack e) q) other
      | inl old ↦ elim (one_of (edge r GrantBack e) q) [
        | inl olds ↦ kept r s (closed.grant_back s e r old olds other)
        | inr same ↦ subst (λ (y : Edge). y.authority ≡ GrantBack → (l : ℕ) → Has c.queue l Call y.to → l ≢ y.from
            → Gifted new y.from l) same looks.of_grant_back refl s (inside (edge s Call e) old) other
      ]
    ];
    bind = λ s d n p q other. elim (one_of (edge s Handle d) p) [
      | inr same ↦ subst (λ (y : Edge). y.authority ≡ Handle → (l : ℕ) → Has c.queue y.from AsyncSend l → y.to ≢ l
          → Knows new (edge y.to AsyncSend l)) same looks.of_handle refl n (was_known (edge s AsyncSend n) q) other
      | inl old ↦ elim (one_of (edge s AsyncSend n) q) [
        | inl olds ↦ grown (edge d AsyncSend n) (closed.bind s d n old olds other)
        | inr same ↦ subst (λ (y : Edge). y.authority ≡ AsyncSend → (l : ℕ) → Has c.queue y.from Handle l → l ≢ y.to
            → Knows new (edge l AsyncSend y.to)) same looks.of_send refl d (inside (edge s Handle d) old) other
      ]
    ];
  }

-- ---- the front of a list

pub take_front : (xs ys : List Edge) (n : ℕ) → n ≤ length xs → take n (xs ++ ys) ≡ take n xs
take_front xs ys n le = take-append-le n xs ys le

pub take_has : (xs : List Edge) (n : ℕ) (e : Edge) → has (take n xs) e ≡ true → has xs e ≡ true
take_has xs zero e h = absurd cc
take_has [] (suc n) e h = h
take_has (x ∷ xs) (suc n) e h = keep (same_edge x e) (has (take n xs) e) (has xs e) (take_has xs n e) h where
  keep : (b p q : Bool) → (p ≡ true → q ≡ true) → b || p ≡ true → b || q ≡ true
  keep true p q f g = refl
  keep false p q f g = f g

-- ---- at the end

same_or_not : (m n : ℕ) → (m ≡ n) ⊎ (m ≢ n)
same_or_not m n = search (rules, eqb-true, same_itself)

module _ (c : Closure) (boots : HasBoot c) (sound : IsSound c) (closed : IsClosedFor c.queue c) (cert : List Edge)
    (is : IsCertificate c cert) where
  put : (e : Edge) → Knows c e → has cert e ≡ true
  put e h = is.same e ∙ or_left (has is.edges e) (has is.replies e) (is.spread.every e h)

  listed : (l : ℕ) (a : Authority) (x : ℕ) → a ≢ Reply → Has cert l a x → Has is.edges l a x
  listed l a x other h =
      elim (or_cases (has is.edges (edge l a x)) (has is.replies (edge l a x)) (sym (is.same (edge l a x)) ∙ h)) [
        | inl there ↦ there
        | inr reply ↦ absurd (other (is.answers.only (edge l a x) reply).0)
      ]

  known : (l : ℕ) (a : Authority) (x : ℕ) → a ≢ Reply → Has cert l a x → Has c.queue (leader_at c.leaders l) a x
  known l a x other h = knows_led c sound l a x other (is.spread.only (edge l a x) (listed l a x other h))

  -- what one leader has, those that it leads have
  shared : (l m : ℕ) → leader_at c.leaders l ≡ leader_at c.leaders m → (a : Authority) (x : ℕ) → a ≢ Reply → Has cert l a x
      → Has cert m a x
  shared l m same a x other h =
      put (edge m a x) (led_knows c sound m a x other (subst (λ (k : ℕ). Has c.queue k a x) same (known l a x other h)))

  brought : (s r : ℕ) → Gifted c (leader_at c.leaders s) (leader_at c.leaders r) → (a : Authority) (x : ℕ) → a ≢ Reply
      → Has cert s a x → Has cert r a x
  brought s r gifted a x other h = elim (gifted (sound.flat s) (sound.flat r)) [
    | inl same ↦ shared s r same a x other h
    | inr given ↦ put (edge r a x) (led_knows c sound r a x other (subst (λ (k : ℕ). Has c.queue k a x) given.2
        (knows_led c sound given.0 a x other (closed.passed (leader_at c.leaders s) given.0 given.1 a x other
        (known s a x other h)))))
  ]

  -- of labels with one leader, or with leaders of which one gives to the other
  flowed : (s r : ℕ) → (leader_at c.leaders s ≢ leader_at c.leaders r → Gifted c (leader_at c.leaders s) (leader_at c.leaders r))
      → (a : Authority) (x : ℕ) → a ≢ Reply → Has cert s a x → Has cert r a x
  flowed s r gifted a x other h = elim (same_or_not (leader_at c.leaders s) (leader_at c.leaders r)) [
    | inl same ↦ shared s r same a x other h
    | inr differ ↦ brought s r (gifted differ) a x other h
  ]

  one_control : (l m : ℕ) → Has cert l Control m → leader_at c.leaders l ≡ leader_at c.leaders m
  one_control l m h = sym (sound.flat l) ∙ closed.control (leader_at c.leaders l) m
      (known l Control m (number_other Control refl) h)

  keeps : KeepsRules c.spec c.labels (Has cert)
  keeps = record {
    boot_held = λ l a m h. put (edge l a m) (boots.held l a m h);
    boot_structural = λ l a m h differ. put (edge l a m) (boots.structural l a m h differ);
    control_out = λ l m a x h other there. shared l m (one_control l m h) a x other there;
    control_back = λ l m a x h other there. shared m l (sym (one_control l m h)) a x other there;
    grant = λ s e r a x g q other there.
        flowed s r (closed.grant (leader_at c.leaders s) e (leader_at c.leaders r) (known s Grant e (number_other Grant refl) g)
        (known r Receive e (number_other Receive refl) q)) a x other there;
    call = search (rules, or_right, listed, number_other);
    grant_back = λ s e r a x h g other there.
        flowed r s (λ differ. closed.grant_back (leader_at c.leaders s) e (leader_at c.leaders r)
        (known s Call e (number_other Call refl) h) (known r GrantBack e (number_other GrantBack refl) g)
        (λ same. differ (sym same))) a x other there;
    bind = λ s d n h q differ.
        put (edge d AsyncSend n) (closed.bind (leader_at c.leaders s) d n (known s Handle d (number_other Handle refl) h)
        (known s AsyncSend n (number_other AsyncSend refl) q) differ);
  }

  pub is_least : IsLeast c.spec c.labels cert
  is_least = record {
    each = λ l a m least. least cert keeps;
    only = λ l a m h. elim (or_cases (has is.edges (edge l a m)) (has is.replies (edge l a m)) (sym (is.same (edge l a m)) ∙ h)) [
      | inl there ↦ knows_least c sound (edge l a m) (is.spread.only (edge l a m) there)
      | inr reply ↦ (is.answers.only (edge l a m) reply).1
    ];
  }

pub boot_grows : (c new : Closure) → Grows c new → HasBoot c → HasBoot new
boot_grows c new g b = record {
  held = rw (g.spec_is, g.labels_is) (λ l a m h. knows_grows c new g (edge l a m) (b.held l a m h));
  structural = rw (g.spec_is, g.labels_is) (λ l a m h differ. knows_grows c new g (edge l a m) (b.structural l a m h differ));
}

pub least_closed : (spec : Spec) (labels : List ℕ) (c new : Closure) (cert : List Edge) → Begins spec labels c → Closes c new
    → IsCertificate new cert → IsLeast spec labels cert
least_closed spec labels c new cert b done is =
    let least : IsLeast new.spec new.labels cert = search (rules, is_least, boot_grows) in
    subst (λ (ls : List ℕ). IsLeast spec ls cert) (done.grows.labels_is ∙ b.labels_is)
    (subst (λ (s : Spec). IsLeast s new.labels cert) (done.grows.spec_is ∙ b.spec_is) least)

-- ---- places of the queue, one after the other

pub looks_none : (c : Closure) → IsSound c → LooksAt 0 c c
looks_none c sound = record { grows = grows_none c sound; within = omega arith; closed = closed_none c }

pub looks_more : (n : ℕ) (f : Edge) (c mid new : Closure) → LooksAt n c mid → n < length mid.queue
    → slice_get mid.queue n ≡ Some f → Looks mid f new → LooksAt (n + 1) c new
looks_more n f c mid new before less here looks =
    let front : take (n + 1) new.queue ≡ take n mid.queue ++ f ∷ [] = search (rules, take_front, taken_more) in
    let longer : length new.queue ≡ length mid.queue + length looks.grows.more = search (rules, length-append) in
    record {
      grows = grows_then c mid new before.grows looks.grows;
      within = omega arith;
      closed = subst (λ (xs : List Edge). IsClosedFor xs new) (sym front)
          (closed_more (take n mid.queue) f mid new before.closed looks (take_has mid.queue n) (has_at mid.queue n f here));
    }

pub looks_all : (n : ℕ) (c new : Closure) → LooksAt n c new → length new.queue ≤ n → Closes c new
looks_all n c new at le = search (rules, take_all)
