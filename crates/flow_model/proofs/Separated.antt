-- Acts one after the other: those of the set can be done alone, and lead to a world that agrees on the set.
use Rattle.std.proofs.Common.{rules}
use Rattle.flow_model.proofs.LawsCommon.{Act, ActRun, Agree, Bool, Edge, IsClosed, IsReached, List, Reached, Spec, Stays, World, [], act_reached, actor, acts_in, false, in_set, one_world, refl, subst, sym, true, world_reached, ℕ, ◌∷◌, ◌≡◌}
use Rattle.flow_model.proofs.Contents.{Near, near_agree, agree_of, agree_self, agree_meet}
use Rattle.flow_model.proofs.OtherActs.{other_act}
use Rattle.flow_model.proofs.OwnActs.{own_act}
use Rattle.flow_model.proofs.Replying.{is_joined}

-- the acts of the set alone lead from v to a world that is alike
record Alone (spec : Spec) (side : ℕ → Bool) (v : World) (acts : List Act) (new : World) : Type 0 where
  end : World
  run : ActRun spec v acts end
  near : Near side new end

module _ (spec : Spec) (labels : List ℕ) (policy : List Edge) (inside : ℕ → Bool) (stays : Stays spec labels policy)
    (closed : IsClosed policy inside) where
  run_alone : (acts : List Act) (w v new : World) → Reached spec w.state → Reached spec v.state → Near (in_set labels inside) w v
      → ActRun spec w acts new → Alone spec (in_set labels inside) v (acts_in labels inside acts) new
  run_alone [] w v new reached onward near e = record { end = v; run = refl; near = rw e near }
  run_alone (act ∷ acts) w v new reached onward near (mid, does, rest) =
      go (in_set labels inside (actor act)) refl
      (λ x there close. run_alone acts mid x new (act_reached spec w mid act reached does) there close rest) where
        go : (b : Bool) → in_set labels inside (actor act) ≡ b
            → ((x : World) → Reached spec x.state → Near (in_set labels inside) mid x
            → Alone spec (in_set labels inside) x (acts_in labels inside acts) new)
            → Alone spec (in_set labels inside) v (acts_in labels inside (act ∷ acts)) new
        go false out behind =
            let after = behind v onward (other_act spec labels policy inside stays closed w v mid reached near act out does) in
            let e : acts_in labels inside (act ∷ acts) ≡ acts_in labels inside acts = rw out refl in
            subst (λ (xs : List Act). Alone spec (in_set labels inside) v xs new) (sym e) after
        go true here behind =
            let goes = own_act spec labels policy inside stays closed act w v mid reached onward near here does in
            let after = behind goes.end (act_reached spec v goes.end act onward goes.does) goes.near in
            let e : acts_in labels inside (act ∷ acts) ≡ act ∷ acts_in labels inside acts = rw here refl in
            search (rules, in_set)

  -- worlds that runs lead to and that agree are alike
  pub near_reached : (w v : World) → Reached spec w.state → Reached spec v.state → Agree labels inside w v
      → Near (in_set labels inside) w v
  near_reached w v reached onward agree =
      near_agree spec labels inside w v (is_joined spec labels policy inside stays closed w.state reached)
      (is_joined spec labels policy inside stays closed v.state onward) agree

  pub separated : (w v new : World) (acts : List Act) → IsReached spec w → IsReached spec v → Agree labels inside w v
      → ActRun spec w acts new → (end : World) × ActRun spec v (acts_in labels inside acts) end × Agree labels inside new end
  separated w v new acts from also agree run =
      let reached : Reached spec w.state = world_reached spec w from in
      let onward : Reached spec v.state = world_reached spec v also in
      let alone = run_alone acts w v new reached onward (near_reached w v reached onward agree) run in
      (alone.end, alone.run, agree_of labels inside new alone.end alone.near)

  pub own_decide : (w v new end : World) (acts others : List Act) → IsReached spec w → IsReached spec v → Agree labels inside w v
      → ActRun spec w acts new → ActRun spec v others end
      → acts_in labels inside acts ≡ acts_in labels inside others → Agree labels inside new end
  own_decide w v new end acts others from also agree run rest same =
      let here = separated w v new acts from also agree run in
      let there = separated v v end others also also (agree_self labels inside v) rest in
      let one : there.0 ≡ here.0 = search (rules, one_world, acts_in) in
      agree_meet labels inside new end here.0 here.2 (subst (λ (x : World). Agree labels inside end x) one there.2)
