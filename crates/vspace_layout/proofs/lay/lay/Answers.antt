use Rattle.vspace_layout.proofs.Common.{FrameInfo, List, MappedPage, Page, [], all_numbered, all_own, ap, capped, gather, length, memory_firsts, memory_part, own_added, rules, spaces_in, spaces_with, sym, ℕ, ◌++◌, ◌∙◌, ◌≡◌}
use Rattle.vspace_layout.proofs.Joined.{all_numbered_length, both, capped_own, spaces_same}
use Rattle.vspace_layout.proofs.lay.lay.Goals as goal

pub spaces_with-requires-clause-each : goal.spaces_with-requires-clause-each
spaces_with-requires-clause-each c =
    ap (λ (z : List (List Page)). length z) c.in_ok-pages.ensures.pages ∙ all_numbered_length c.deref-2.result.now
    (length c.from_vec-own.result) c.args.mapped.items ∙ c.requires.mapped.domains ∙ sym c.requires.outlined.each

pub returns : goal.returns
returns c =
    let flat = c.args.wiring.now.flat in
    let settled = c.args.wiring.now.settled in
    let os = c.args.outlines.now in
    let base = c.args.base in
    let ms = c.args.mapped.items in
    let none : c.from_vec-own.result ≡ [] = search rules in
    let own : c.all_own-count.result ≡ all_own ms = c.all_own-count.ensures
    ∙ ap (λ (z : List (List MappedPage)). capped (all_own z)) c.deref.ensures.value
    ∙ capped_own (all_own ms) (length (memory_part flat settled)) c.requires.mapped.memory in
    let firsts : c.deref-2.result.now ≡ memory_firsts (all_own ms) flat settled = c.deref-2.ensures.value
    ∙ c.in_ok-memory.ensures.firsts ∙ ap (λ (n : ℕ). memory_firsts n flat settled) own in
    let pages =
    c.in_ok-pages.ensures.pages ∙ ap (λ (z : List FrameInfo). all_numbered c.deref-2.result.now (length z) ms) none
    ∙ ap (λ (z : List ℕ). all_numbered z 0 ms) firsts in
    let spaces = c.in_ok-spaces.ensures ∙ ap (spaces_with flat settled base os) pages ∙ spaces_same flat settled base os ms
    (c.requires.mapped.domains ∙ sym c.requires.outlined.each) in
    let frames =
    c.in_ok-frames.ensures
    ∙ ap (λ (z : List FrameInfo). z ++ c.in_ok-memory.memory.frames) (c.in_ok-pages.ensures.frames
    ∙ ap (λ (z : List FrameInfo). z ++ gather own_added ms) none)
    ∙ ap (λ (z : List FrameInfo). gather own_added ms ++ z) c.in_ok-memory.ensures.frames in
    ap (λ s. both s c.in_ok-frames.frames) spaces ∙ ap (λ f. both (spaces_in flat settled base os ms).spaces f) frames
