-- The edges of leaders, as those of the labels that they lead, and the replies that calls ask for.
use Rattle.least_cert.proofs.Common.{Adds, AreReceivers, AreReplies, Authority, Bool, Call, Closure, Edge, Has, HasMoreThan, InLeast, IsAnswer, IsCertificate, IsCopy, IsLess, IsSorted, IsSound, IsSpread, Knows, List, None, OfEach, OfFirst, OfLeast}
use Rattle.least_cert.proofs.Common.{Receive, Reply, Some, [], ap, arith, at_has, cases_lt, edge, edges_same, eqb-true, false, filter_map, first_more_at, from_other, get_or, get_or_from_slice_get, get_or_past, has, has_at, if◌then◌else◌, inl, inr}
use Rattle.least_cert.proofs.Common.{le-ltb, leader_at, length, ltb, number_of, or_cases, or_left, or_right, receiver, refl, same_edge, same_number, slice_get, slice_get-get_or, slice_get_within, stays, subst, sym, take, take_all, take_more}
use Rattle.least_cert.proofs.Common.{rules, true, turn, ℕ, ◌++◌, ◌+◌, ◌<◌, ◌==◌, ◌^◌, ◌||◌, ◌∙◌, ◌≡◌, ◌≤◌}
use Rattle.least_cert.proofs.Growth.{no_edge}
use Rattle.least_cert.proofs.Leading.{knows_least, led_knows, lead_reply, lead_other, number_other, reply_or_not}
use Rattle.least_cert.proofs.LeastKeeps.{least_keeps}
use Rattle.least_cert.proofs.Listing.{from_mapped, has_append, has_push, or_assoc, or_none, to_mapped}
use Rattle.least_cert.proofs.Passing.{from_other_is, from_other_made}

-- ---- lists and sets that grow

pub appended : (P : Edge → Type 0) (old more : List Edge) → ((e : Edge) → has more e ≡ true → P e)
    → ((e : Edge) → P e → has more e ≡ true) → Adds P old (old ++ more)
appended P old more only every = search (rules, has_append, or_left, or_right, or_cases)

pub joined : (P : Edge → Type 0) (old more new : List Edge) → ((e : Edge) → has new e ≡ (has old e || has more e))
    → ((e : Edge) → has more e ≡ true → P e) → ((e : Edge) → P e → has more e ≡ true) → Adds P old new
joined P old more new same only every = search (rules, or_left, or_right, or_cases)

pub put_none : (old : List Edge) (edges : List Edge) (e : Edge) → has old e ≡ (has old e || has (take 0 edges) e)
put_none old edges e = sym (or_none (has old e))

pub put_more : (old edges mid new : List Edge) (n : ℕ) (d : Edge) → n < length edges
    → ((e : Edge) → has mid e ≡ (has old e || has (take n edges) e))
    → ((e : Edge) → has new e ≡ (has mid e || same_edge (get_or edges n d) e)) → (e : Edge)
    → has new e ≡ (has old e || has (take (n + 1) edges) e)
put_more old edges mid new n d less before put e =
    put e ∙ (ap (λ (b : Bool). b || same_edge (get_or edges n d) e) (before e)
    ∙ (sym (or_assoc (has old e) (has (take n edges) e) (same_edge (get_or edges n d) e))
    ∙ ap (λ (b : Bool). has old e || b) (sym (has_push (take n edges) (get_or edges n d) e) ∙ ap (λ (xs : List Edge). has xs e)
    (sym (take_more edges n d less)))))

pub put_all : (old edges new : List Edge) (n : ℕ) → length edges ≤ n
    → ((e : Edge) → has new e ≡ (has old e || has (take n edges) e)) → (e : Edge) → has new e ≡ (has old e || has edges e)
put_all old edges new n le same e = same e ∙ ap (λ (xs : List Edge). has old e || has xs e) (take_all n edges le)

-- ---- edges that stay

stays_is : (n : ℕ) (x e : Edge) → stays n x ≡ Some e → x ≡ e
stays_is n x e h = search (rules, ltb)

stays_reply : (n : ℕ) (e : Edge) → number_of e.authority == 9 ≡ true → stays n e ≡ Some e
stays_reply n e is = rw is refl

stays_past : (n : ℕ) (e : Edge) → n ≤ e.from → stays n e ≡ Some e
stays_past n e le = search (rules, ltb, le-ltb)

-- ---- the edges of all labels

pub many : (c : Closure) (edges : List Edge) → ((e : Edge) → has edges e ≡ true → OfLeast c e) → IsSorted edges
    → 262144 < length edges → HasMoreThan c.spec c.labels 262144
many c edges least sorted more = record { edges = edges; sorted = sorted; more = more; each = λ l a m h. least (edge l a m) h }

abbrev pub copy_at : Closure → ℕ → ℕ → Edge → Type 0
copy_at c label leader = IsCopy c leader label

module _ (c : Closure) (sound : IsSound c) where
  of_leader : (label leader : ℕ) (e : Edge) → slice_get c.leaders label ≡ Some leader → IsCopy c leader label e → Knows c e
  of_leader label leader e there copy =
      let leads : leader_at c.leaders label ≡ leader = get_or_from_slice_get c.leaders label leader label there in
      let known : Knows c (edge label e.authority e.to) = led_knows c sound label e.authority e.to copy.other
      (subst (λ (l : ℕ). Has c.queue l e.authority e.to) (sym leads) copy.known) in
      subst (λ (x : Edge). Knows c x) (edges_same (edge label e.authority e.to) e (sym copy.from_is) refl refl) known

  stayed : (e : Edge) → has (filter_map (stays (length c.leaders)) c.queue) e ≡ true → has c.queue e ≡ true
  stayed e h =
      let from = from_mapped (stays (length c.leaders)) c.queue e h in
      subst (λ (x : Edge). has c.queue x ≡ true) (stays_is (length c.leaders) from.0 e from.2) from.1

  pub some_knows : (P : Edge → Type 0) (start edges : List Edge) → start ≡ filter_map (stays (length c.leaders)) c.queue
      → Adds P start edges → ((e : Edge) → P e → Knows c e) → (e : Edge) → has edges e ≡ true → Knows c e
  some_knows P start edges is adds of e h = elim (adds.only e h) [
    | inl was ↦ sound.carried e (stayed e (subst (λ (xs : List Edge). has xs e ≡ true) is was))
    | inr p ↦ of e p
  ]

  pub each_knows : (e : Edge) → OfEach (copy_at c) c.leaders e → Knows c e
  each_knows e of = of_leader of.place of.item e of.there of.by

  pub spread_least : (edges : List Edge) → ((e : Edge) → has edges e ≡ true → Knows c e) → (e : Edge) → has edges e ≡ true
      → OfLeast c e
  spread_least edges knows e h = knows_least c sound e (knows e h)

  pub is_spread : (start edges : List Edge) → start ≡ filter_map (stays (length c.leaders)) c.queue
      → Adds (OfEach (copy_at c) c.leaders) start edges → IsSpread c edges
  is_spread start edges is adds = record {
    only = some_knows (OfEach (copy_at c) c.leaders) start edges is adds each_knows;
    every = λ e h. elim (reply_or_not e) [
      | inl reply ↦ stays_in e (stays_reply (length c.leaders) e reply) (subst (λ (x : Edge). has c.queue x ≡ true)
          (lead_reply c.leaders e reply) h)
      | inr other ↦ (
          let led : Has c.queue (leader_at c.leaders e.from) e.authority e.to = subst (λ (x : Edge). has c.queue x ≡ true)
          (lead_other c.leaders e other) h in
          elim (cases_lt e.from (length c.leaders)) [
            | inl less ↦ adds.added e (record {
              place = e.from;
              item = leader_at c.leaders e.from;
              there = slice_get-get_or c.leaders e.from e.from less;
              by = record { other = number_other e.authority other; from_is = refl; known = led };
            })
            | inr past ↦ stays_in e (stays_past (length c.leaders) e past)
                (subst (λ (l : ℕ). Has c.queue l e.authority e.to) (get_or_past c.leaders e.from e.from past) led)
          ]
          )
    ];
    less = λ e h. elim (adds.only e h) [
      | inl was ↦ sound.less e (stayed e (subst (λ (xs : List Edge). has xs e ≡ true) is was))
      | inr of ↦ (
          let from : e.from ≡ of.place = of.by.from_is in
          let within : of.place < length c.leaders = slice_get_within c.leaders of.place of.item of.there in
          let few = sound.few_leaders in
          (omega arith, (sound.less (edge of.item e.authority e.to) of.by.known).1)
          )
    ];
  } where
    stays_in : (e : Edge) → stays (length c.leaders) e ≡ Some e → has c.queue e ≡ true → has edges e ≡ true
    stays_in e s there =
        adds.kept e (subst (λ (xs : List Edge). has xs e ≡ true) (sym is) (to_mapped (stays (length c.leaders)) c.queue
        e e there s))

  -- ---- replies

  pub answer_least : (edges turned : List Edge) (f e : Edge) → IsSpread c edges → AreReceivers edges turned → has edges f ≡ true
      → IsAnswer turned f e → (e.authority ≡ Reply) × OfLeast c e
  answer_least edges turned f e spread receivers there answer =
      let receives : InLeast c.spec c.labels e.from Receive f.to =
      knows_least c sound (edge e.from Receive f.to)
      (spread.only (edge e.from Receive f.to) (receivers.only (edge f.to Receive e.from) answer.receives).1) in
      let reply : InLeast c.spec c.labels e.from Reply f.from =
      (least_keeps c.spec c.labels).call f.from f.to e.from (subst (λ (a : Authority). InLeast c.spec c.labels f.from a f.to)
      answer.call (knows_least c sound f (spread.only f there))) receives (λ same. answer.differ (sym same)) in (
        answer.reply,
        subst (λ (x : Edge). OfLeast c x) (edges_same (edge e.from Reply f.from) e refl (sym answer.reply)
            (sym answer.to_is)) reply,
      )

  pub some_replies : (edges turned replies : List Edge) (P : Edge → Type 0) → IsSpread c edges → AreReceivers edges turned
      → Adds P [] replies → ((e : Edge) → P e → (f : Edge) × (has edges f ≡ true) × IsAnswer turned f e)
      → (e : Edge) → has replies e ≡ true → (e.authority ≡ Reply) × OfLeast c e
  some_replies edges turned replies P spread receivers adds of e h = elim (adds.only e h) [
    | inl none ↦ absurd cc
    | inr p ↦ (let x = of e p in answer_least edges turned x.0 e spread receivers x.1 x.2)
  ]

  pub are_replies : (edges turned replies : List Edge) → IsSpread c edges → AreReceivers edges turned
      → Adds (OfEach (λ place (f : Edge). IsAnswer turned f) edges) [] replies → AreReplies c edges replies
  are_replies edges turned replies spread receivers adds = record {
    only = some_replies edges turned replies (OfEach (λ place (f : Edge). IsAnswer turned f) edges) spread receivers adds
        (λ e of. (of.item, has_at edges of.place of.item of.there, of.by));
    every = λ s x r called receives differ.
        let at = at_has edges (edge s Call x) called in
        adds.added (edge r Reply s) (record {
          place = at.0;
          item = edge s Call x;
          there = at.1;
          by = search (rules);
        });
  }

  -- where the replies to some calls are too many
  pub first_answers : (edges turned : List Edge) (n : ℕ) (old new : List Edge) → IsSpread c edges → AreReceivers edges turned
      → n < length edges → Adds (OfFirst (λ place (f : Edge). IsAnswer turned f) edges n) [] old
      → Adds (IsAnswer turned (get_or edges n no_edge)) old new → IsSorted new → 262144 < length new
      → HasMoreThan c.spec c.labels 262144
  first_answers edges turned n old new spread receivers less before adds sorted more =
      many c new (λ e h. (some_replies edges turned new (OfFirst (λ place (f : Edge). IsAnswer turned f) edges (n + 1)) spread
      receivers (first_more_at (λ place (f : Edge). IsAnswer turned f) edges n no_edge [] old new less before adds)
      (λ d of. (of.of_each.item, has_at edges of.of_each.place of.of_each.item of.of_each.there, of.of_each.by)) e h).1)
      sorted more

  -- ---- all of them

  pub all_least : (edges replies all : List Edge) → IsSpread c edges → AreReplies c edges replies → all ≡ edges ++ replies
      → (e : Edge) → has all e ≡ true → OfLeast c e
  all_least edges replies all spread answers is e h = search (rules, or_cases, has_append, knows_least)

pub made : (c : Closure) (edges replies all table : List Edge) → AreReplies c edges replies → IsSpread c edges
    → all ≡ edges ++ replies → ((e : Edge) → has table e ≡ has all e) → IsCertificate c table
made c edges replies all table answers spread is same = search (rules, has_append)

-- ---- Receive edges, turned

receiver_is : (x e : Edge) → receiver x ≡ Some e → (x.authority ≡ Receive) × (turn x ≡ e)
receiver_is x e h = search (rules, same_number, eqb-true)

pub are_receivers : (edges listed turned : List Edge) → listed ≡ filter_map receiver edges
    → ((e : Edge) → has turned e ≡ (has [] e || has listed e)) → AreReceivers edges turned
are_receivers edges listed turned is same = search (rules, from_mapped, receiver_is, edges_same, to_mapped)

pub receivers_less : (c : Closure) (edges turned : List Edge) → IsSpread c edges → AreReceivers edges turned → (e : Edge)
    → has turned e ≡ true → IsLess e
receivers_less c edges turned spread receivers e h = search (rules)

-- ---- what one call asks for

pub answers_made : (turned peers made old new : List Edge) (f : Edge) → f.authority ≡ Call
    → ((e : Edge) → has turned e ≡ true → IsLess e)
    → ((e : Edge) → has peers e ≡ true → (has turned e ≡ true) × (e.from ≡ f.to) × (e.authority ≡ Receive))
    → ((m : ℕ) → has turned (edge f.to Receive m) ≡ true → m < 2 ^ 32 → has peers (edge f.to Receive m) ≡ true)
    → made ≡ filter_map (from_other Reply f.from) peers → ((e : Edge) → has new e ≡ (has old e || has made e))
    → Adds (IsAnswer turned f) old new
answers_made turned peers made old new f call less only every is same =
    search (rules, joined, from_mapped, from_other_is, edges_same, to_mapped, from_other_made)
