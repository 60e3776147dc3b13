-- No edge is lacking exactly where the rules hold.
use Rattle.cert_check.proofs.Common.{AsyncSend, Authority, BreaksBind, BreaksBoot, BreaksCall, BreaksControl, Call, Control, Edge, Grant, GrantBack, Handle, Has, Held, Holds, LeastOf, Missing, Passes, Receive, Reply, Spec, Structural, Valid}
use Rattle.cert_check.proofs.Common.{Violation, arith, boot, cases_lt, edge, has, inl, inr, subst, sym, ◌+◌, ◌<◌}
use Rattle.std.specs.Prelude.{◌≡◌, ◌≢◌, ℕ, Bool, true, false, List, Option, refl}
use Rattle.cert_check.specs.declared.verdict.Verdict.TheVariants.{No, Yes}
use Rattle.std.proofs.lemmas.Grind.{common_steps}
use Rattle.cert_check.specs.Rules.{rule_number}
use Rattle.cert_check.specs.Verdicts.{Judged}
use Rattle.cert_check.specs.declared.rule.Rule.{Rule}
use Rattle.cert_check.specs.declared.rule.Rule.TheVariants as rules

-- what isn't lacking is there
there : (table : List Edge) (e : Edge) → (has table e ≡ false → ⊥) → has table e ≡ true
there table e not = go (has table e) refl where
  go : (b : Bool) → has table e ≡ b → has table e ≡ true
  go true h = h
  go false h = absurd (not h)

module _ (spec : Spec) (labels : List ℕ) (policy cert : List Edge) where
  abbrev pub H : Rule → Type 0
  H rule = Holds spec labels policy cert rule

  held : H rules.BootEdges → (l : ℕ) (a : Authority) (m : ℕ) → Held spec labels (boot spec) l a m → Has cert l a m
  held h l a m e = there cert (edge l a m) (λ lacks. h (edge l a m) (record { at_boot = inl e; lacks = lacks }))

  structural : H rules.BootEdges → (l : ℕ) (a : Authority) (m : ℕ) → Structural spec labels (boot spec) l a m → l ≢ m
      → Has cert l a m
  structural h l a m e differ =
      there cert (edge l a m) (λ lacks. h (edge l a m) (record { at_boot = inr (e, differ); lacks = lacks }))

  out : H rules.Control → (l m : ℕ) → Has cert l Control m → Passes cert l m
  out h l m control a x other e = there cert (edge m a x) (λ lacks.
      h (record { first = edge l Control m; lack = edge m a x; second = edge l a x })
      (record {
        control = refl;
        there = control;
        missing = inl (record { out = refl; other = other; there = e; lacks = lacks }, refl);
      }))

  home : H rules.Control → (l m : ℕ) → Has cert l Control m → Passes cert m l
  home h l m control a x other e = there cert (edge l a x) (λ lacks.
      h (record { first = edge l Control m; lack = edge l a x; second = edge m a x })
      (record {
        control = refl;
        there = control;
        missing = inr (record { out = refl; other = other; there = e; lacks = lacks }, refl);
      }))

  granted : H rules.Grant → (s e r : ℕ) → Has cert s Grant e → Has cert r Receive e → Passes cert s r
  granted h s e r grant receive a x other has_it = there cert (edge r a x) (λ lacks.
      h (record { first = edge s Grant e; lack = edge r a x; second = edge s a x })
      (record {
        grant = refl;
        there = grant;
        receive = receive;
        missing = record {
          out = refl;
          other = other;
          there = has_it;
          lacks = lacks;
        };
        copied = refl;
      }))

  replies : H rules.Call → (s e r : ℕ) → Has cert s Call e → Has cert r Receive e → s ≢ r → Has cert r Reply s
  replies h s e r call receive differ = there cert (edge r Reply s) (λ lacks.
      h (record { first = edge s Call e; lack = edge r Reply s; second = edge r Receive e })
      (record {
        call = refl;
        there = call;
        receive = refl;
        same = refl;
        there_too = receive;
        differ = differ;
        reply = refl;
        lacks = lacks;
      }))

  granted_back : H rules.GrantBack → (s e r : ℕ) → Has cert s Call e → Has cert r GrantBack e → Passes cert r s
  granted_back h s e r call back a x other has_it = there cert (edge s a x) (λ lacks.
      h (record { first = edge s Call e; lack = edge s a x; second = edge r a x })
      (record {
        call = refl;
        there = call;
        grants_back = back;
        missing = record {
          out = refl;
          other = other;
          there = has_it;
          lacks = lacks;
        };
        copied = refl;
      }))

  redirected : H rules.Bind → (s d n : ℕ) → Has cert s Handle d → Has cert s AsyncSend n → d ≢ n → Has cert d AsyncSend n
  redirected h s d n handle sends differ = there cert (edge d AsyncSend n) (λ lacks.
      h (record { first = edge s Handle d; lack = edge d AsyncSend n; second = edge s AsyncSend n })
      (record {
        handle = refl;
        there = handle;
        sends = refl;
        same = refl;
        there_too = sends;
        differ = differ;
        redirected = refl;
        lacks = lacks;
      }))

  inside : H rules.Policy → (l : ℕ) (a : Authority) (m : ℕ) → Has cert l a m → l ≢ m → Has policy l a m
  inside h l a m e differ =
      there policy (edge l a m) (λ lacks. h (edge l a m) (record { there = e; differ = differ; lacks = lacks }))

  pub valid : H rules.BootEdges → H rules.Control → H rules.Grant → H rules.Call → H rules.GrantBack → H rules.Bind
      → H rules.Policy → Valid spec labels policy cert
  valid h1 h2 h3 h4 h5 h6 h7 = record {
    boot_held = held h1;
    boot_structural = structural h1;
    control_out = out h2;
    control_back = home h2;
    grant = granted h3;
    call = replies h4;
    grant_back = granted_back h5;
    bind = redirected h6;
    in_policy = inside h7;
  }

  no_missing : (s r : ℕ) (lack : Edge) → Passes cert s r → Missing cert s r lack → ⊥
  no_missing s r lack passes m =
      let h : Has cert r lack.authority lack.to = passes lack.authority lack.to m.other m.there in
      let g : has cert lack ≡ true = let o : lack.from ≡ r = m.out in
      subst (λ (n : ℕ). has cert (edge n lack.authority lack.to) ≡ true) (sym o) h in
      let lacks = m.lacks in
      cc

  whole : (e : Edge) (a : Authority) → e.authority ≡ a → has cert e ≡ true → Has cert e.from a e.to
  whole e a same h = subst (λ (x : Authority). has cert (edge e.from x e.to) ≡ true) same h

  first : (e : Edge) → BreaksBoot spec labels cert e → Valid spec labels policy cert → ⊥
  first e b v =
      let lacks = b.lacks in
      elim b.at_boot [
        | inl h ↦ let w : has cert e ≡ true = v.boot_held e.from e.authority e.to h in cc
        | inr h ↦ let w : has cert e ≡ true = v.boot_structural e.from e.authority e.to h.0 h.1 in cc
      ]

  second : (b : Violation) → BreaksControl cert b → Valid spec labels policy cert → ⊥
  second b p v =
      let control : Has cert b.first.from Control b.first.to = whole b.first Control p.control p.there in
      elim p.missing [
        | inl m ↦ no_missing b.first.from b.first.to b.lack (v.control_out b.first.from b.first.to control) m.0
        | inr m ↦ no_missing b.first.to b.first.from b.lack (v.control_back b.first.from b.first.to control) m.0
      ]

  fourth : (b : Violation) → BreaksCall cert b → Valid spec labels policy cert → ⊥
  fourth b p v =
      let call : Has cert b.first.from Call b.first.to = whole b.first Call p.call p.there in
      let receive : Has cert b.second.from Receive b.first.to = rw (← p.same) (whole b.second Receive p.receive p.there_too) in
      let w : Has cert b.second.from Reply b.first.from = v.call b.first.from b.first.to b.second.from call receive p.differ in
      let lacks : has cert b.lack ≡ false = p.lacks in
      let has_it : has cert b.lack ≡ true = rw p.reply w in
      cc

  sixth : (b : Violation) → BreaksBind cert b → Valid spec labels policy cert → ⊥
  sixth b p v =
      let handle : Has cert b.first.from Handle b.first.to = whole b.first Handle p.handle p.there in
      let sends : Has cert b.first.from AsyncSend b.second.to = rw (← p.same) (whole b.second AsyncSend p.sends p.there_too) in
      let w : Has cert b.first.to AsyncSend b.second.to = v.bind b.first.from b.first.to b.second.to handle sends p.differ in
      let lacks : has cert b.lack ≡ false = p.lacks in
      let has_it : has cert b.lack ≡ true = rw p.redirected w in
      cc

  -- a rule that fails isn't valid
  not_valid : (rule : Rule) (have : List (Option Edge)) (lack : Edge) → LeastOf spec labels policy cert rule have lack
      → Valid spec labels policy cert → ⊥
  not_valid rules.BootEdges have lack (f, h) v = first lack f.0 v
  not_valid rules.Control have lack (b, f, h, l) v = second b f.0 v
  not_valid rules.Grant have lack (b, f, h, l) v =
      no_missing _ _ b.lack (v.grant b.first.from b.first.to b.lack.from (whole b.first Grant f.0.grant f.0.there)
      f.0.receive) f.0.missing
  not_valid rules.Call have lack (b, f, h, l) v = fourth b f.0 v
  not_valid rules.GrantBack have lack (b, f, h, l) v =
      no_missing _ _ b.lack (v.grant_back b.first.from b.first.to b.second.from (whole b.first Call f.0.call f.0.there)
      f.0.grants_back) f.0.missing
  not_valid rules.Bind have lack (b, f, h, l) v = sixth b f.0 v
  not_valid rules.Policy have lack (f, h) v = let w : Has policy lack.from lack.authority lack.to =
      v.in_policy lack.from lack.authority lack.to f.0.there f.0.differ in let n = f.0.lacks in cc

  -- the rules below this number hold
  pub record Earlier (n : ℕ) : Type 0 where
    pub holds : (r : Rule) → rule_number r < n → H r

  pub none_earlier : Earlier 1
  none_earlier = record { holds = none } where
    none : (r : Rule) → rule_number r < 1 → H r
    none rules.BootEdges less = absurd (omega arith)
    none rules.Control less = absurd (omega arith)
    none rules.Grant less = absurd (omega arith)
    none rules.Call less = absurd (omega arith)
    none rules.GrantBack less = absurd (omega arith)
    none rules.Bind less = absurd (omega arith)
    none rules.Policy less = absurd (omega arith)

  one_number : (r q : Rule) → rule_number r ≡ rule_number q → r ≡ q
  one_number r q e = grind (arith, common_steps)

  one_more : (q : Rule) → Earlier (rule_number q) → H q → Earlier (rule_number q + 1)
  one_more q before h = record {
    holds = λ r less. elim (cases_lt (rule_number r) (rule_number q)) [
      | inl earlier ↦ before.holds r earlier
      | inr ge ↦ subst (λ (x : Rule). H x) (one_number q r (omega arith)) h
    ];
  }

  pub judged_no : (rule : Rule) (have : List (Option Edge)) (lack : Edge) → Earlier (rule_number rule)
      → LeastOf spec labels policy cert rule have lack
      → Judged spec labels policy cert (No (rule_number rule) have lack)
  judged_no rule have lack before least =
      (rule, refl, record { earlier = before.holds; least = least }, not_valid rule have lack least)

  pub judged_yes : Earlier 8 → Judged spec labels policy cert Yes
  judged_yes e = valid (e.holds rules.BootEdges (omega arith)) (e.holds rules.Control (omega arith))
      (e.holds rules.Grant (omega arith)) (e.holds rules.Call (omega arith)) (e.holds rules.GrantBack (omega arith))
      (e.holds rules.Bind (omega arith)) (e.holds rules.Policy (omega arith))

  pub before_control : H rules.BootEdges → Earlier 2
  before_control h1 = one_more rules.BootEdges none_earlier h1

  pub before_grant : H rules.BootEdges → H rules.Control → Earlier 3
  before_grant h1 h2 = one_more rules.Control (before_control h1) h2

  pub before_call : H rules.BootEdges → H rules.Control → H rules.Grant → Earlier 4
  before_call h1 h2 h3 = one_more rules.Grant (before_grant h1 h2) h3

  pub before_grant_back : H rules.BootEdges → H rules.Control → H rules.Grant → H rules.Call → Earlier 5
  before_grant_back h1 h2 h3 h4 = one_more rules.Call (before_call h1 h2 h3) h4

  pub before_bind : H rules.BootEdges → H rules.Control → H rules.Grant → H rules.Call → H rules.GrantBack → Earlier 6
  before_bind h1 h2 h3 h4 h5 = one_more rules.GrantBack (before_grant_back h1 h2 h3 h4) h5

  pub before_policy : H rules.BootEdges → H rules.Control → H rules.Grant → H rules.Call → H rules.GrantBack
      → H rules.Bind → Earlier 7
  before_policy h1 h2 h3 h4 h5 h6 = one_more rules.Bind (before_bind h1 h2 h3 h4 h5) h6

  pub all_hold : H rules.BootEdges → H rules.Control → H rules.Grant → H rules.Call → H rules.GrantBack → H rules.Bind
      → H rules.Policy → Earlier 8
  all_hold h1 h2 h3 h4 h5 h6 h7 = one_more rules.Policy (before_policy h1 h2 h3 h4 h5 h6) h7
