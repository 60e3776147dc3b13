-- Steps lead to one state, or stop at one place.
use Rattle.std.proofs.Common.{rules}
use Rattle.text_commands.proofs.Common.{AreEdgesOf, Done, Edge, Illegal, IsReplayed, LeadsTo, List, Replayed, Run, Some, Spec, State, Step, StopsAt, Why, [], ap, arith, boot, cases_lt, checks, first_failing, has, inl, inr, one_table}
use Rattle.text_commands.proofs.Common.{one_truth, slice_get, subst, suc, sym, take, zero, ℕ, ◌+◌, ◌<◌, ◌∙◌, ◌∷◌, ◌≡◌, ◌≤◌, ◌⊎◌}
use Rattle.cap_machine.proofs.Table.{next_passes, one_next}
use Rattle.cap_machine.specs.StepTable.{StepTo}

module _ (spec : Spec) where
  pub run_one : (steps : List Step) (s a b : State) → Run spec s steps a → Run spec s steps b → a ≡ b
  run_one [] s a b r q = r ∙ sym q
  run_one (step ∷ steps) s a b (mid, one, more) (then, other, rest) =
      let same : mid ≡ then = one_next spec s step mid then one other in
      run_one steps mid a b more (subst (λ z. Run spec z steps b) (sym same) rest)

  -- where a run goes on behind some of its steps, the next one was made
  goes_on : (steps : List Step) (p : ℕ) (s mid end : State) (step : Step) → Run spec s (take p steps) mid
      → slice_get steps p ≡ Some step → Run spec s steps end
      → (new : State) × StepTo spec mid step new
  goes_on [] p s mid end step r at q = absurd cc
  goes_on (x ∷ steps) zero s mid end step r at (then, one, rest) = search (rules)
  goes_on (x ∷ steps) (suc p) s mid end step (one, made, more) at (then, other, rest) =
      let same : one ≡ then = one_next spec s x one then made other in
      goes_on steps p one mid end step more at (subst (λ z. Run spec z steps end) (sym same) rest)

  -- also where it is a front of the steps
  goes_on_in : (steps : List Step) (p q : ℕ) (s mid end : State) (step : Step) → p < q → Run spec s (take p steps) mid
      → slice_get steps p ≡ Some step → Run spec s (take q steps) end
      → (new : State) × StepTo spec mid step new
  goes_on_in steps p zero s mid end step less r at q = let no : ⊥ = omega (arith, less) in absurd no
  goes_on_in [] p (suc q) s mid end step less r at run = absurd cc
  goes_on_in (x ∷ steps) zero (suc q) s mid end step less r at (then, one, rest) = search (rules)
  goes_on_in (x ∷ steps) (suc p) (suc q) s mid end step less (one, made, more) at (then, other, rest) =
      let same : one ≡ then = one_next spec s x one then made other in
      let fewer : p < q = omega (arith, less) in
      goes_on_in steps p q one mid end step fewer more at (subst (λ z. Run spec z (take q steps) end) (sym same) rest)

  never : (s : State) (step : Step) (why : Why) → first_failing (checks spec s step) ≡ Some why
      → ((new : State) × StepTo spec s step new) → ⊥
  never s step why refused next = let fine = next_passes spec s step next in absurd cc

  module _ (steps : List Step) where
    pub not_done : (end : State) (place : ℕ) (why : Why) → Run spec (boot spec) steps end → StopsAt spec steps place why → ⊥
    not_done end place why run stop = never stop.state stop.step why stop.refused (goes_on steps place (boot spec) stop.state end
        stop.step stop.run stop.here run)

    not_later : (p q : ℕ) (why when : Why) → p < q → StopsAt spec steps p why → StopsAt spec steps q when → ⊥
    not_later p q why when less a b = never a.state a.step why a.refused (goes_on_in steps p q (boot spec) a.state b.state a.step
        less a.run a.here b.run)

    places_one : (p q : ℕ) (why when : Why) → StopsAt spec steps p why → StopsAt spec steps q when → p ≡ q
    places_one p q why when a b = go (cases_lt p q) (cases_lt q p)
      where
        go : (p < q) ⊎ (q ≤ p) → (q < p) ⊎ (p ≤ q) → p ≡ q
        go (inl less) _ = absurd (not_later p q why when less a b)
        go _ (inl less) = absurd (not_later q p when why less b a)
        go (inr more) (inr least) = omega (arith, more, least)

    reasons_one : (p : ℕ) (why when : Why) → StopsAt spec steps p why → StopsAt spec steps p when → why ≡ when
    reasons_one p why when a b = search (rules, run_one, slice_get)

  module _ (labels : List ℕ) where
    edges_one : (s : State) (a b : List Edge) → AreEdgesOf spec labels s a → AreEdgesOf spec labels s b → a ≡ b
    edges_one s a b x y =
        one_table a b x.sorted y.sorted (λ e.
        one_truth (has a e) (has b e) (λ h. (y.same e.from e.authority e.to).1 ((x.same e.from e.authority e.to).0 h))
        (λ h. (x.same e.from e.authority e.to).1 ((y.same e.from e.authority e.to).0 h)))

    leads_one : (steps : List Step) (a b : List Edge) → LeadsTo spec labels steps a → LeadsTo spec labels steps b → a ≡ b
    leads_one steps a b x y =
        let same : x.state ≡ y.state = run_one steps (boot spec) x.state y.state x.run y.run in
        edges_one x.state a b x.has (subst (λ z. AreEdgesOf spec labels z b) (sym same) y.has)

    pub replay_one : (steps : List Step) (a b : Replayed) → IsReplayed spec labels steps a
        → IsReplayed spec labels steps b → a ≡ b
    replay_one steps (Done n edges) (Done k others) x y =
        let counts : n ≡ k = x.0 ∙ sym y.0 in
        let same : edges ≡ others = leads_one steps edges others x.1 y.1 in
        cc
    replay_one steps (Done n edges) (Illegal number why) x y = absurd (not_done steps x.1.state y.0 why x.1.run y.2)
    replay_one steps (Illegal number why) (Done k others) x y = absurd (not_done steps y.1.state x.0 why y.1.run x.2)
    replay_one steps (Illegal number why) (Illegal other when) x y =
        let places : x.0 ≡ y.0 = places_one steps x.0 y.0 why when x.2 y.2 in
        let reasons : why ≡ when = reasons_one steps y.0 why when (subst (λ z. StopsAt spec steps z why) places x.2) y.2 in
        let numbers : number ≡ other = x.1 ∙ ap (λ z. z + 1) places ∙ sym y.1 in
        cc
