-- Runs in which the threads of the set run programs: with the same turns they do the same.
use Rattle.std.proofs.Common.{rules}
use Rattle.flow_model.proofs.LawsCommon.{Act, ActTo, Agree, Bool, Edge, IsClosed, IsReached, List, None, Option, Reached, Some, Spec, Stays, World, [], act_reached, actor, acts_in, allowed, device, false, fire, in_set, inr, map}
use Rattle.flow_model.proofs.LawsCommon.{one_act, refl, refused, subst, sym, true, world_reached, ℕ, ◌∙◌, ◌∷◌, ◌≡◌, ◌⊎◌}
use Rattle.flow_model.specs.Programs.{Programs, input_of, turn_of, says, Obeys, ProgramRun}
use Rattle.flow_model.proofs.Contents.{Near, agree_of, agree_self, agree_meet}
use Rattle.flow_model.proofs.OtherActs.{other_act}
use Rattle.flow_model.proofs.OwnActs.{own_act}
use Rattle.flow_model.proofs.Separated.{near_reached}

-- each act is as the programs say
abbrev ObeyRun : Spec → Programs → World → List Act → World → Type 0
ObeyRun spec programs w [] new = new ≡ w
ObeyRun spec programs w (act ∷ acts) new = (mid : World) × ActTo spec w act mid × Obeys programs w act
    × ObeyRun spec programs mid acts new

is_input : (act input : Act) → input_of act ≡ Some input → act ≡ input
is_input (allowed attempt) input h = absurd cc
is_input (refused attempt) input h = absurd cc
is_input (fire d x) input h = cc
is_input (device f x) input h = cc

-- of an act and its refusal one is possible
same_act : (spec : Spec) (programs : Programs) (w mid next : World) (x y : Act) → ActTo spec w x mid → ActTo spec w y next
    → Obeys programs w x → Obeys programs w y → actor x ≡ actor y → input_of x ≡ input_of y → x ≡ y
same_act spec programs w mid next x y does acts obeys also who what = search (rules, refused, allowed, actor, is_input)

-- with the same turns there is one run
one_run : (spec : Spec) (programs : Programs) (w new end : World) (xs ys : List Act) → ObeyRun spec programs w xs new
    → ObeyRun spec programs w ys end → map turn_of xs ≡ map turn_of ys → new ≡ end
one_run spec programs w new end [] [] e f turns = e ∙ sym f
one_run spec programs w new end [] (y ∷ ys) e f turns = absurd cc
one_run spec programs w new end (x ∷ xs) [] e f turns = absurd cc
one_run spec programs w new end (x ∷ xs) (y ∷ ys) (mid, does, obeys, rest) (next, acts, also, more) turns =
    let first : turn_of x ≡ turn_of y = cc in
    let behind : map turn_of xs ≡ map turn_of ys = cc in
    let same : x ≡ y = search (rules, same_act) in
    let to : next ≡ mid = one_act spec w next mid x (subst (λ (a : Act). ActTo spec w a next) (sym same) acts) does in
    one_run spec programs mid new end xs ys rest (subst (λ (m : World). ObeyRun spec programs m ys end) to more) behind

record Obediently (spec : Spec) (programs : Programs) (side : ℕ → Bool) (v : World) (acts : List Act) (new : World) : Type 0 where
  end : World
  run : ObeyRun spec programs v acts end
  near : Near side new end

module _ (spec : Spec) (labels : List ℕ) (policy : List Edge) (inside : ℕ → Bool) (stays : Stays spec labels policy)
    (closed : IsClosed policy inside) (programs : Programs) where
  obey_alone : (acts : List Act) (w v new : World) → Reached spec w.state → Reached spec v.state → Near (in_set labels inside) w v
      → ProgramRun spec programs labels inside w acts new
      → Obediently spec programs (in_set labels inside) v (acts_in labels inside acts) new
  obey_alone [] w v new reached onward near e = record { end = v; run = refl; near = rw e near }
  obey_alone (act ∷ acts) w v new reached onward near (mid, does, obeys, rest) =
      go (in_set labels inside (actor act)) refl
      (λ x there close. obey_alone acts mid x new (act_reached spec w mid act reached does) there close rest) where
        go : (b : Bool) → in_set labels inside (actor act) ≡ b
            → ((x : World) → Reached spec x.state → Near (in_set labels inside) mid x
            → Obediently spec programs (in_set labels inside) x (acts_in labels inside acts) new)
            → Obediently spec programs (in_set labels inside) v (acts_in labels inside (act ∷ acts)) new
        go false out behind =
            let after = behind v onward (other_act spec labels policy inside stays closed w v mid reached near act out does) in
            let e : acts_in labels inside (act ∷ acts) ≡ acts_in labels inside acts = rw out refl in
            subst (λ (xs : List Act). Obediently spec programs (in_set labels inside) v xs new) (sym e) after
        go true here behind =
            let goes = own_act spec labels policy inside stays closed act w v mid reached onward near here does in
            let after = behind goes.end (act_reached spec v goes.end act onward goes.does) goes.near in
            let e : acts_in labels inside (act ∷ acts) ≡ act ∷ acts_in labels inside acts = rw here refl in
            let alike : says programs w (actor act) ≡ says programs v (actor act) = search (rules, actor) in
            let too : Obeys programs v act = search (rules, allowed, refused) in
            subst (λ (xs : List Act). Obediently spec programs (in_set labels inside) v xs new) (sym e) (search (rules))

  pub programs_alike : (w v new end : World) (acts others : List Act) → IsReached spec w → IsReached spec v
      → Agree labels inside w v → ProgramRun spec programs labels inside w acts new
      → ProgramRun spec programs labels inside v others end → map turn_of (acts_in labels inside acts) ≡ map turn_of
      (acts_in labels inside others) → Agree labels inside new end
  programs_alike w v new end acts others from also agree run rest turns =
      let reached : Reached spec w.state = world_reached spec w from in
      let onward : Reached spec v.state = world_reached spec v also in
      let near = near_reached spec labels policy inside stays closed in
      let here = obey_alone acts w v new reached onward (near w v reached onward agree) run in
      let there = obey_alone others v v end onward onward (near v v onward onward (agree_self labels inside v)) rest in
      let one : there.end ≡ here.end = search (rules, one_run, acts_in) in
      agree_meet labels inside new end here.end (agree_of labels inside new here.end here.near)
      (subst (λ (x : World). Agree labels inside end x) one (agree_of labels inside end there.end there.near))
