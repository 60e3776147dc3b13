-- The function `decide` goes on exactly where the table of steps has a next state, and the change leads there.
use Rattle.cap_machine.proofs.Common.{Acts, Bind, Bool, Call, Cap, Capability, Change, Content, Drop, Err, Grant, Map, NoCap, NoRoot, None, Ok, Option, Own, Peer}
use Rattle.cap_machine.proofs.Common.{Pending, Put, Reply, ReplyTo, Result, Save, SavedReply, SetCspace, SetVspace, Some, Spec, State, Step, StepTo, Take, Waiting, Why, WrongKind, acting, and_then, any_cap, ap}
use Rattle.cap_machine.proofs.Common.{arith, asking, both_rights, changed, checks, content_in, decide, eqb-true, false, first_failing, found_cap, found_reply, lessened, not, not-true, or_why, own_cap}
use Rattle.cap_machine.proofs.Common.{own_reply, peer_cap, peer_root, read_write, refl, rules, thread_at, true, ℕ, ◌==◌, ◌≡◌, ◌≢◌}
use Rattle.cap_model.specs.declared.kind.Kind.TheVariants as kinds
use Rattle.cap_machine.specs.declared.change.Change.TheVariants as changes
use Rattle.cap_machine.proofs.Order.{why_of, decide_checks}

-- each part of `decide` that goes on tells what it found

then_ok : {A B P : Type 0} (r : Result A Why) (rest : A → Result B Why) (y : B) → and_then r rest ≡ Ok y
    → ((x : A) → r ≡ Ok x → rest x ≡ Ok y → P) → P
then_ok (Ok x) rest y e go = go x refl e
then_ok (Err why) rest y e go = absurd cc

or_why_ok : {A : Type 0} (o : Option A) (why : Why) (x : A) → or_why o why ≡ Ok x → o ≡ Some x
or_why_ok None why x e = absurd cc
or_why_ok (Some y) why x e = let s : y ≡ x = cc in ap Some s

asking_ok : {B P : Type 0} (b : Bool) (why : Why) (rest : Result B Why) (y : B) → asking b why rest ≡ Ok y
    → (b ≡ true → rest ≡ Ok y → P) → P
asking_ok false why rest y e go = absurd cc
asking_ok true why rest y e go = go refl e

found_cap_ok : (content : Option Content) (none other : Why) (x : Cap) → found_cap content none other ≡ Ok x
    → content ≡ Some (Capability x)
found_cap_ok None none other x e = absurd cc
found_cap_ok (Some (Capability y)) none other x e = let s : y ≡ x = cc in ap (λ z. Some (Capability z)) s
found_cap_ok (Some (SavedReply reply)) none other x e = absurd cc

found_reply_ok : (content : Option Content) (none other : Why) (x : Pending) → found_reply content none other ≡ Ok x
    → content ≡ Some (SavedReply x)
found_reply_ok None none other x e = absurd cc
found_reply_ok (Some (Capability y)) none other x e = absurd cc
found_reply_ok (Some (SavedReply y)) none other x e = let s : y ≡ x = cc in ap (λ z. Some (SavedReply z)) s

ok : {A : Type 0} {x y : A} → ◌≡◌ {A = Result A Why} (Ok x) (Ok y) → x ≡ y
ok e = cc

differ : (t u : ℕ) → not (t == u) ≡ true → t ≢ u
differ t u h e = grind arith

acting_ok : (s : State) (t c : ℕ) → acting s t ≡ Ok c → Acts s t c
acting_ok s t c e =
    asking_ok _ Waiting _ c e (λ runs h. record { runs = not-true _ runs; root = or_why_ok (thread_at s t).root NoRoot c h })

any_ok : (s : State) (c i : ℕ) (cap : Cap) → any_cap s c i ≡ Ok cap → content_in s c i ≡ Some (Capability cap)
any_ok s c i x e = found_cap_ok (content_in s c i) (NoCap i) (WrongKind i) x e

reply_ok : (s : State) (c i : ℕ) (reply : Pending) → own_reply s c i ≡ Ok reply → content_in s c i ≡ Some (SavedReply reply)
reply_ok s c i x e = found_reply_ok (content_in s c i) (NoCap i) (WrongKind i) x e

own_ok : (kind : ℕ → Bool) (s : State) (c i : ℕ) (cap : Cap) → own_cap kind s c i ≡ Ok cap → Own kind s c i cap
own_ok kind s c i x e = search (rules, then_ok, asking_ok, ok, any_ok)

peer_ok : (spec : Spec) (s : State) (t u j e d : ℕ) (from : Cap) → peer_root s t u ≡ Ok d → peer_cap spec s d j e ≡ Ok from
    → Peer spec s t u j e d from
peer_ok spec s t u j e d from h k = search (rules, asking_ok, then_ok, ok, differ, not-true, or_why_ok, found_cap_ok, eqb-true)

done : (s : State) (z y : Change) → ◌≡◌ {A = Result Change Why} (Ok z) (Ok y) → changed s y ≡ changed s z
done s z y h = let same : z ≡ y = ok h in rw same refl

-- the table says what a decided change is
pub decided : (spec : Spec) (s : State) (step : Step) (y : Change) → decide spec s step ≡ Ok y → StepTo spec s step (changed s y)
decided spec s (Reply t None) y h = search (rules, then_ok, acting_ok, or_why_ok, done)
decided spec s (Reply t (Some copy)) y h = search (rules, then_ok, asking_ok, acting_ok, any_ok, or_why_ok, done)
decided spec s (ReplyTo t i None) y h = search (rules, then_ok, acting_ok, reply_ok, done)
decided spec s (ReplyTo t i (Some copy)) y h = search (rules, then_ok, asking_ok, acting_ok, any_ok, reply_ok, or_why_ok, done)
decided spec s _ y h = search (rules, then_ok, asking_ok, acting_ok, own_ok, any_ok, peer_ok, or_why_ok, done)

-- and what is legal by the table is decided so

not_self : (t u : ℕ) → t ≢ u → not (t == u) ≡ true
not_self t u h = grind arith

self : (a b : ℕ) → a ≡ b → a == b ≡ true
self a b h = grind arith

own_goes : {kind : ℕ → Bool} {s : State} {c i : ℕ} {cap : Cap} → Own kind s c i cap → own_cap kind s c i ≡ Ok cap
own_goes own = rw (own.there, own.is) refl

acting_goes : {s : State} {t c : ℕ} → Acts s t c → acting s t ≡ Ok c
acting_goes acts = rw (acts.runs, acts.root) refl

root_goes : {spec : Spec} {s : State} {t u j e d : ℕ} {from : Cap} → Peer spec s t u j e d from → peer_root s t u ≡ Ok d
root_goes {t = t} {u = u} p = rw (not_self t u p.other, p.acts.runs, p.acts.root) refl

cap_goes : {spec : Spec} {s : State} {t u j e d : ℕ} {from : Cap} → Peer spec s t u j e d from → peer_cap spec s d j e ≡ Ok from
cap_goes {e = e} {from = from} p = rw (p.own.there, p.own.is, p.reads, self from.object e p.same) refl

-- the step goes on
abbrev pub Goes : Spec → State → Step → State → Type 0
Goes spec s step new = (y : Change) × (decide spec s step ≡ Ok y) × (new ≡ changed s y)

pub in_table : (spec : Spec) (s new : State) (step : Step) → StepTo spec s step new → Goes spec s step new
in_table spec s new (Take t i j r) (c, to, x, acts, own, there, e) =
    (changes.Add c (lessened x r), rw (acting_goes acts, own_goes own, there) refl, e)
in_table spec s new (Put t i j r) (c, to, x, acts, own, there, e) =
    (changes.Add to.object (lessened x r), rw (acting_goes acts, own_goes own, there) refl, e)
in_table spec s new (Grant t i u j k r) (c, to, x, d, from, acts, own, may, there, peer, e) =
    (changes.Add d (lessened x r), rw (acting_goes acts, own_goes own, may, there, root_goes peer, cap_goes peer) refl, e)
in_table spec s new (Call t i u j) (c, to, d, from, acts, own, may, peer, e) =
    (changes.Call t u from.rights.grant, rw (acting_goes acts, own_goes own, may, root_goes peer, cap_goes peer) refl, e)
in_table spec s new (Reply t None) (c, p, acts, owes, e) = (changes.Reply t p.caller, rw (acting_goes acts, owes) refl, e)
in_table spec s new (Reply t (Some copy)) (c, p, x, d, acts, owes, grants, there, root, e) =
    (changes.ReplyAdd t p.caller d (lessened x copy.1), rw (acting_goes acts, owes, grants, there, root) refl, e)
in_table spec s new (SetCspace t i j) (c, to, x, acts, own, of, e) =
    (changes.Root to.object x.object, rw (acting_goes acts, own_goes own, own_goes of) refl, e)
in_table spec s new (SetVspace t i j) (c, to, x, acts, own, of, e) =
    (changes.Space to.object x.object, rw (acting_goes acts, own_goes own, own_goes of) refl, e)
in_table spec s new (Map t i j r) (c, frame, x, acts, own, of, e) = (
  changes.Map (record { space = x.object; frame = frame.object; rights = both_rights frame.rights (read_write r) }),
  rw (acting_goes acts, own_goes own, own_goes of) refl,
  e,
)
in_table spec s new (Bind t i j) (c, irq, x, acts, own, of, writes, e) =
    (changes.Bind irq.object x.object, rw (acting_goes acts, own_goes own, own_goes of, writes) refl, e)
in_table spec s new (Drop t i) (c, x, acts, there, e) = (changes.Drop c i, rw (acting_goes acts, there) refl, e)
in_table spec s new (Save t) (c, p, acts, owes, e) = (changes.Save t c p, rw (acting_goes acts, owes) refl, e)
in_table spec s new (ReplyTo t i None) (c, p, acts, there, e) =
    (changes.Release c i p.caller, rw (acting_goes acts, there) refl, e)
in_table spec s new (ReplyTo t i (Some copy)) (c, p, x, d, acts, own, grants, there, root, e) =
    (changes.ReleaseAdd c i p.caller d (lessened x copy.1), rw (acting_goes acts, own, grants, there, root) refl, e)

-- a step that is not decided has an answer, and no next state
pub answered : (spec : Spec) (s : State) (step : Step) (why : Why) → decide spec s step ≡ Err why
    → first_failing (checks spec s step) ≡ Some why
answered spec s step why h = let e : why_of (decide spec s step) ≡ first_failing (checks spec s step) =
    (decide_checks spec s step).is in let f : why_of (decide spec s step) ≡ Some why = rw h refl in cc

pub no_next : (spec : Spec) (s : State) (step : Step) (why : Why) → decide spec s step ≡ Err why → (new : State)
    → StepTo spec s step new → ⊥
no_next spec s step why h new there = let goes : Goes spec s step new = in_table spec s new step there in
    let e : decide spec s step ≡ Ok goes.0 = goes.1 in absurd cc

pub has_next : (spec : Spec) (s : State) (step : Step) → first_failing (checks spec s step) ≡ None
    → (new : State) × StepTo spec s step new
has_next spec s step passes = go (decide spec s step) refl where
  go : (r : Result Change Why) → decide spec s step ≡ r → (new : State) × StepTo spec s step new
  go (Ok y) h = (changed s y, decided spec s step y h)
  go (Err why) h = absurd (let e : first_failing (checks spec s step) ≡ Some why = answered spec s step why h in cc)

pub next_passes : (spec : Spec) (s : State) (step : Step) → ((new : State) × StepTo spec s step new)
    → first_failing (checks spec s step) ≡ None
next_passes spec s step (new, there) = search (rules, in_table, why_of, decide_checks)

pub one_next : (spec : Spec) (s : State) (step : Step) (new other : State) → StepTo spec s step new → StepTo spec s step other
    → new ≡ other
one_next spec s step new other there here = search (rules, in_table, ok)
