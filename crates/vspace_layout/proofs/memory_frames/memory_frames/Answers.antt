use Rattle.vspace_layout.proofs.Common.{AreFirsts, FrameInfo, List, ap, first_numbers, firsts_from, gather, length, places_of, register_frames, shared_frames, subst, sym, ◌++◌, ◌∙◌}
use Rattle.vspace_layout.proofs.MemoryNumbers.{are_firsts, firsts_are, register_places, shared_places}
use Rattle.vspace_layout.proofs.memory_frames.memory_frames.Goals as goal

pub firsts_from-requires : goal.firsts_from-requires
firsts_from-requires c =
    let own = c.args.own in
    let flat = c.args.wiring.now.flat in
    let settled = c.args.wiring.now.settled in
    let cs = flat.connections in
    let shared = c.deref-2.ensures.value ∙ c.in_ok-shared.ensures.places
    ∙ ap (λ (z : List FrameInfo). places_of (length z) (shared_frames settled) cs) c.new-frames.ensures in
    let there = c.in_ok-shared.ensures.frames ∙ ap (λ z. z ++ gather (shared_frames settled) cs) c.new-frames.ensures in
    let registered = c.deref-3.ensures.value ∙ c.in_ok-registered.ensures.places
    ∙ ap (λ (z : List FrameInfo). places_of (length z) (register_frames flat settled) cs) there in
    let numbers = c.deref-4.ensures.value ∙ c.in_ok-numbers.ensures ∙ ap first_numbers c.connections.ensures in
    subst (λ z. AreFirsts own z c.deref-3.result.now c.deref-4.result.now) (sym shared)
    (subst (λ z. AreFirsts own (shared_places flat settled) z c.deref-4.result.now) (sym registered)
    (subst (λ z. AreFirsts own (shared_places flat settled) (register_places flat settled) z) (sym numbers)
    (are_firsts own flat settled c.requires.own)))

pub returns-clause-firsts : goal.returns-clause-firsts
returns-clause-firsts c =
    let own = c.args.own in
    let flat = c.args.wiring.now.flat in
    let settled = c.args.wiring.now.settled in
    let cs = flat.connections in
    let shared = c.deref-2.ensures.value ∙ c.in_ok-shared.ensures.places
    ∙ ap (λ (z : List FrameInfo). places_of (length z) (shared_frames settled) cs) c.new-frames.ensures in
    let there = c.in_ok-shared.ensures.frames ∙ ap (λ z. z ++ gather (shared_frames settled) cs) c.new-frames.ensures in
    let registered = c.deref-3.ensures.value ∙ c.in_ok-registered.ensures.places
    ∙ ap (λ (z : List FrameInfo). places_of (length z) (register_frames flat settled) cs) there in
    let numbers = c.deref-4.ensures.value ∙ c.in_ok-numbers.ensures ∙ ap first_numbers c.connections.ensures in
    c.in_ok-firsts.ensures
    ∙ ap (λ z. firsts_from own z c.deref-3.result.now c.deref-4.result.now) shared
    ∙ ap (λ z. firsts_from own (shared_places flat settled) z c.deref-4.result.now) registered
    ∙ ap (λ z. firsts_from own (shared_places flat settled) (register_places flat settled) z) numbers
    ∙ firsts_are own flat settled
