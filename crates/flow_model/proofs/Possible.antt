-- The acts of the example, one by one.
use Rattle.flow_model.proofs.Common.{Access, ActRun, ActTo, Acts, AttemptTo, Cap, Capability, None, Peer, Read, Some, State, World, Write, [], allowed, arith, await, boot, content, content_in, denied, done, false, inl}
use Rattle.flow_model.proofs.Common.{inr, irq_at, load, message, more, put, refl, refused, rules, send, signal, signals, store, thread_at, true, ℕ, ◌∷◌, ◌≡◌}
use Rattle.std.proofs.lemmas.List.Elements.{Contains-push}
use Rattle.cap_machine.specs.Effects.{with_space, read_write, added, called, dropped}
use Rattle.cap_machine.specs.Sample.{sample, all}
use Rattle.cap_machine.specs.declared.step.Step.TheVariants as steps
use Rattle.cap_model.specs.Example.{rights, plain, cap}
use Rattle.cap_model.specs.Lessened.{lessened, both_rights}
use Rattle.cap_model.specs.declared.state.Mapped.{Mapped}
use Rattle.flow_model.specs.Example.{filled, first_world, spacing, mapping, calling, dropping, taking, binding, sample_acts, sample_seen, Leaves}

-- the states on the way
abbrev writes_and_reads : Mapped
writes_and_reads = record { space = 7; frame = 8; rights = both_rights (rights true true false false) (read_write all) }

abbrev spaced : State
spaced = record (boot sample) { threads = with_space (boot sample).threads 3 7 }

abbrev mapped : State
mapped = record spaced { mapped = writes_and_reads ∷ [] }

-- thread 3 has no space at first
unreached : Access sample (boot sample) 3 Read 8 → ⊥
unreached (inl by) = absurd (let w : None ≡ Some by.root = by.space in cc)
unreached (inr (inl by)) = absurd (let w : None ≡ Some by.root = by.space in cc)
unreached (inr (inr by)) = absurd (let w : None ≡ Some by.cap = by.buffer in cc)

acts_2 : Acts (boot sample) 2 0
acts_2 = record { runs = refl; root = refl }

acts_3 : Acts (boot sample) 3 1
acts_3 = record { runs = refl; root = refl }

-- then it has one, with frame 8
writes_8 : Access sample mapped 3 Write 8
writes_8 = inr (inl (record {
  root = 7;
  rights = writes_and_reads.rights;
  space = refl;
  there = Contains-push [] writes_and_reads;
  gives = refl;
}))

reads_8 : Access sample mapped 3 Read 8
reads_8 = inr (inl (record {
  root = 7;
  rights = writes_and_reads.rights;
  space = refl;
  there = Contains-push [] writes_and_reads;
  gives = refl;
}))

-- thread 3 receives at endpoint 5 while it doesn't wait
peer_3 : Peer sample (boot sample) 2 3 1 5 1 (cap 5 (rights true false true false) 0)
peer_3 = search (rules, acts_3)

peer_2 : Peer sample (boot sample) 3 2 8 5 0 (cap 5 (rights true false false false) 0)
peer_2 = search (rules, acts_2)

-- acts from any world with the boot state
module _ (w : World) (boots : w.state ≡ boot sample) where
  sends : ActTo sample w (allowed (send 2 2 3 1 42)) (record w { seen = more (more w.seen 3 (message 7 42)) 2 done })
  sends =
      rw boots (
        0,
        cap 5 (rights false true true true) 7,
        1,
        cap 5 (rights true false true false) 0,
        acts_2,
        record { there = refl; is = refl },
        refl,
        peer_3,
        refl,
      )

  signals_6 : (x : ℕ)
      → ActTo sample w (allowed (signal 2 3 x)) (record w { pending = more w.pending 6 x; seen = more w.seen 2 done })
  signals_6 x = rw boots (0, cap 6 (rights false true false false) 0, acts_2, record { there = refl; is = refl }, refl, refl)

  awaits_6 : ActTo sample w (allowed (await 3 2)) (record w {
    pending = put w.pending 6 [];
    seen = more w.seen 3 (signals (w.pending 6));
  })
  awaits_6 = rw boots (1, cap 6 (rights true false false false) 0, acts_3, record { there = refl; is = refl }, refl, refl)

  refuses_8 : ActTo sample w (refused (load 3 8)) (record w { seen = more w.seen 3 denied })
  refuses_8 = rw boots (refl, λ end may. unreached may.1, refl)

  spaces : ActTo sample w spacing (record w { state = spaced; seen = more w.seen 2 done })
  spaces =
      rw boots (
        spaced,
        (0, plain 3, plain 7, acts_2, record { there = refl; is = refl }, record { there = refl; is = refl }, refl),
        refl,
      )

module _ (w : World) (at : w.state ≡ spaced) where
  maps : ActTo sample w mapping (record w { state = mapped; seen = more w.seen 2 done })
  maps =
      rw at (
        mapped,
        (
          0,
          cap 8 (rights true true false false) 0,
          plain 7,
          record { runs = refl; root = refl },
          record { there = refl; is = refl },
          record { there = refl; is = refl },
          refl,
        ),
        refl,
      )

module _ (w : World) (at : w.state ≡ mapped) where
  stores : (x : ℕ)
      → ActTo sample w (allowed (store 3 8 x)) (record w { contents = put w.contents 8 x; seen = more w.seen 3 done })
  stores x = rw at (refl, writes_8, refl)

  loads : ActTo sample w (allowed (load 3 8)) (record w { seen = more w.seen 3 (content (w.contents 8)) })
  loads = rw at (refl, reads_8, refl)

pub possible : (end : World) × ActRun sample first_world sample_acts end × (end.seen 3 ≡ sample_seen)
possible =
    let w1 : World = record first_world { seen = more (more first_world.seen 3 (message 7 42)) 2 done } in
    let w2 : World = record w1 { pending = more w1.pending 6 5; seen = more w1.seen 2 done } in
    let w3 : World = record w2 { pending = more w2.pending 6 6; seen = more w2.seen 2 done } in
    let w4 : World = record w3 { pending = put w3.pending 6 []; seen = more w3.seen 3 (signals (w3.pending 6)) } in
    let w5 : World = record w4 { seen = more w4.seen 3 denied } in
    let w6 : World = record w5 { state = spaced; seen = more w5.seen 2 done } in
    let w7 : World = record w6 { state = mapped; seen = more w6.seen 2 done } in
    let w8 : World = record w7 { contents = put w7.contents 8 99; seen = more w7.seen 3 done } in
    let w9 : World = record w8 { seen = more w8.seen 3 (content (w8.contents 8)) } in (
      w9,
      (
        w1,
        sends first_world refl,
        (
          w2,
          signals_6 w1 refl 5,
          (
            w3,
            signals_6 w2 refl 6,
            (
              w4,
              awaits_6 w3 refl,
              (
                w5,
                refuses_8 w4 refl,
                (w6, spaces w5 refl, (w7, maps w6 refl, (w8, stores w7 refl 99, (w9, loads w8 refl, refl)))),
              ),
            ),
          ),
        ),
      ),
      refl,
    )

-- ---- each way of each authority

pub sent : Leaves first_world (allowed (send 2 2 3 1 42) ∷ []) (λ w. w.seen 3) (message 7 42 ∷ [])
sent = (
  record first_world { seen = more (more first_world.seen 3 (message 7 42)) 2 done },
  (_, sends first_world refl, refl),
  refl,
)

pub sent_done : Leaves first_world (allowed (send 2 2 3 1 42) ∷ []) (λ w. w.seen 2) (done ∷ [])
sent_done = (
  record first_world { seen = more (more first_world.seen 3 (message 7 42)) 2 done },
  (_, sends first_world refl, refl),
  refl,
)

-- thread 3 waits behind its call
abbrev waited : World
waited = record first_world { state = called (boot sample) 3 2 false; seen = more first_world.seen 3 done }

never_sent : (end : World) → AttemptTo sample waited (send 2 2 3 1 42) end → ⊥
never_sent end (c, to, d, from, acts, own, may, peer, e) = absurd (let w : true ≡ false = peer.acts.runs in cc)

pub unsent : Leaves first_world (calling ∷ refused (send 2 2 3 1 42) ∷ []) (λ w. w.seen 2) (denied ∷ [])
unsent =
    let call : ActTo sample first_world calling waited = (
      called (boot sample) 3 2 false,
      (
        1,
        cap 5 (rights false true false true) 0,
        0,
        cap 5 (rights true false false false) 0,
        acts_3,
        record { there = refl; is = refl },
        refl,
        peer_2,
        refl,
      ),
      refl,
    ) in
    let refuse : ActTo sample waited (refused (send 2 2 3 1 42)) (record waited { seen = more waited.seen 2 denied }) =
    (refl, never_sent, refl) in
    (record waited { seen = more waited.seen 2 denied }, (waited, call, (_, refuse, refl)), refl)

abbrev signalled : World
signalled = record first_world { pending = more first_world.pending 6 5; seen = more first_world.seen 2 done }

pub pending : Leaves first_world (allowed (signal 2 3 5) ∷ []) (λ w. w.pending 6) (5 ∷ [])
pending = (signalled, (signalled, signals_6 first_world refl 5, refl), refl)

abbrev awaited : World
awaited = record signalled { pending = put signalled.pending 6 []; seen = more signalled.seen 3 (signals (signalled.pending 6)) }

both_acts : ActRun sample first_world (allowed (signal 2 3 5) ∷ allowed (await 3 2) ∷ []) awaited
both_acts = (signalled, signals_6 first_world refl 5, (awaited, awaits_6 signalled refl, refl))

pub emptied : Leaves first_world (allowed (signal 2 3 5) ∷ allowed (await 3 2) ∷ []) (λ w. w.pending 6) []
emptied = (awaited, both_acts, refl)

pub told : Leaves first_world (allowed (signal 2 3 5) ∷ allowed (await 3 2) ∷ []) (λ w. w.seen 3) (signals (5 ∷ []) ∷ [])
told = (awaited, both_acts, refl)

pub untold : Leaves first_world (allowed (await 3 2) ∷ []) (λ w. w.seen 3) (signals [] ∷ [])
untold =
    let end : World = record first_world {
      pending = put first_world.pending 6 [];
      seen = more first_world.seen 3 (signals []);
    } in
    (end, (end, awaits_6 first_world refl, refl), refl)

-- a frame that contains x, in the space of thread 3
module _ (x : ℕ) where
  abbrev in_space : World
  in_space = record (filled x) { state = spaced; seen = more (filled x).seen 2 done }

  abbrev in_reach : World
  in_reach = record in_space { state = mapped; seen = more in_space.seen 2 done }

  pub loaded : Leaves (filled x) (spacing ∷ mapping ∷ allowed (load 3 8) ∷ []) (λ w. w.seen 3) (content x ∷ [])
  loaded =
      let end : World = record in_reach { seen = more in_reach.seen 3 (content x) } in
      (end, (in_space, spaces (filled x) refl, (in_reach, maps in_space refl, (end, loads in_reach refl, refl))), refl)

  pub stored : Leaves first_world (spacing ∷ mapping ∷ allowed (store 3 8 x) ∷ []) (λ w. w.contents 8) x
  stored =
      let w6 : World = record first_world { state = spaced; seen = more first_world.seen 2 done } in
      let w7 : World = record w6 { state = mapped; seen = more w6.seen 2 done } in
      let end : World = record w7 { contents = put w7.contents 8 x; seen = more w7.seen 3 done } in
      (end, (w6, spaces first_world refl, (w7, maps w6 refl, (end, stores w7 refl x, refl))), refl)

pub bound : Leaves first_world (binding ∷ []) (λ w. irq_at w.state 9) (Some 6)
bound =
    let s : State = record (boot sample) {
      irqs = None ∷ None ∷ None ∷ None ∷ None ∷ None ∷ None ∷ None ∷ None ∷ Some 6
          ∷ None ∷ [];
    } in
    let end : World = record first_world { state = s; seen = more first_world.seen 2 done } in
    let binds : ActTo sample first_world binding end = (
      s,
      (
        0,
        plain 9,
        cap 6 (rights false true false false) 0,
        acts_2,
        record { there = refl; is = refl },
        record { there = refl; is = refl },
        refl,
        refl,
      ),
      refl,
    ) in
    (end, (end, binds, refl), refl)

pub controlled : Leaves first_world (spacing ∷ []) (λ w. (thread_at w.state 3).space) (Some 7)
controlled = let end : World = record first_world { state = spaced; seen = more first_world.seen 2 done } in
    (end, (end, spaces first_world refl, refl), refl)

pub taken : Leaves first_world (allowed taking ∷ []) (λ w. w.seen 2) (done ∷ [])
taken =
    let x : Cap = cap 5 (rights true false true false) 0 in
    let s : State = added (boot sample) 0 (lessened x all) in
    let end : World = record first_world { state = s; seen = more first_world.seen 2 done } in
    let takes : ActTo sample first_world (allowed taking) end =
    (s, (0, plain 1, x, acts_2, record { there = refl; is = refl }, refl, refl), refl) in
    (end, (end, takes, refl), refl)

abbrev lost : World
lost = record first_world { state = dropped (boot sample) 1 1; seen = more first_world.seen 3 done }

no_take : (c : ℕ) (to x : Cap) → Some 0 ≡ Some c → content_in lost.state c 1 ≡ Some (Capability to)
    → content_in lost.state to.object 1 ≡ Some (Capability x) → ⊥
no_take c to x root own there = search (rules)

pub untaken : Leaves first_world (dropping ∷ refused taking ∷ []) (λ w. w.seen 2) (denied ∷ [])
untaken =
    let drops : ActTo sample first_world dropping lost =
    (dropped (boot sample) 1 1, (1, Capability (cap 5 (rights true false true false) 0), acts_3, refl, refl), refl) in
    let end : World = record lost { seen = more lost.seen 2 denied } in
    let refuse : ActTo sample lost (refused taking) end = search (rules, no_take) in
    (end, (lost, drops, (end, refuse, refl)), refl)
