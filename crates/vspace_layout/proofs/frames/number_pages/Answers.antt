use Rattle.vspace_layout.proofs.Common.{FrameInfo, List, MappedPage, Page, Turned, [], ap, arith, below, gather, gather_push, into_iter_len, length, length_append, number_of, numbered_page, own_added, sym, turned, ℕ, ◌++◌, ◌∙◌, ◌∷◌, ◌≡◌}
use Rattle.vspace_layout.proofs.Laying.{with_frame}
use Rattle.vspace_layout.proofs.Numbering.{frames_more, frames_so_far, own_upto}
use Rattle.vspace_layout.proofs.frames.number_pages.Goals as goal

pub frame_of-requires-clause-few : goal.frame_of-requires-clause-few
frame_of-requires-clause-few c =
    let it = c.into_iter-page-iterator.result in
    let items = c.into_vec-page-items.ensures in
    let gives = c.into_iter-page-iterator.ensures.into_iter_gives in
    let many : into_iter_len it ≡ length c.args.mapped =
    omega (arith, gives.1, c.into_vec-page-items.result.ok.0, ap (λ (z : List MappedPage). length z) items) in
    let t : Turned c.args.mapped c.loop-page.yielded c.in-Some.page = turned it c.loop-page.page-iterator c.next.new.self
    c.args.mapped (gives.0 ∙ items) many c.loop-page.yielded c.loop-page.yielded_by c.next.result c.in-Some.page c.in-Some.is
    c.next.ensures.steps in
    let l = below c.args.mapped (length c.loop-page.yielded) c.in-Some.page t.here in
    let a = ap (λ (z : List FrameInfo). length z) c.loop-page.invariant.frames in
    let b = length_append c.args.frames.now (own_added c.args.domain c.loop-page.yielded) in
    let d = own_upto c.args.domain c.loop-page.yielded in
    let e = c.requires.few in
    omega (arith, l, a, b, d, e)

pub frame_of-requires-clause-memory : goal.frame_of-requires-clause-memory
frame_of-requires-clause-memory c =
    let it = c.into_iter-page-iterator.result in
    let items = c.into_vec-page-items.ensures in
    let gives = c.into_iter-page-iterator.ensures.into_iter_gives in
    let many : into_iter_len it ≡ length c.args.mapped =
    omega (arith, gives.1, c.into_vec-page-items.result.ok.0, ap (λ (z : List MappedPage). length z) items) in
    let t : Turned c.args.mapped c.loop-page.yielded c.in-Some.page = turned it c.loop-page.page-iterator c.next.new.self
    c.args.mapped (gives.0 ∙ items) many c.loop-page.yielded c.loop-page.yielded_by c.next.result c.in-Some.page c.in-Some.is
    c.next.ensures.steps in
    c.requires.memory (length c.loop-page.yielded) c.in-Some.page t.here

pub loop-page-preserved : goal.loop-page-preserved
loop-page-preserved c =
    let it = c.into_iter-page-iterator.result in
    let items = c.into_vec-page-items.ensures in
    let gives = c.into_iter-page-iterator.ensures.into_iter_gives in
    let many : into_iter_len it ≡ length c.args.mapped =
    omega (arith, gives.1, c.into_vec-page-items.result.ok.0, ap (λ (z : List MappedPage). length z) items) in
    let t : Turned c.args.mapped c.loop-page.yielded c.in-Some.page = turned it c.loop-page.page-iterator c.next.new.self
    c.args.mapped (gives.0 ∙ items) many c.loop-page.yielded c.loop-page.yielded_by c.next.result c.in-Some.page c.in-Some.is
    c.next.ensures.steps in
    let d = c.args.domain in
    let firsts = c.args.firsts.now in
    let sofar = c.loop-page.yielded in
    let p = c.in-Some.page in
    let f = λ (n : ℕ) (q : MappedPage). numbered_page d firsts (length c.args.frames.now) c.args.mapped n q ∷ [] in
    let there = frames_so_far d c.args.mapped sofar c.args.frames.now c.loop-page.frames t.front c.loop-page.invariant.frames in
    record {
      frames = frames_more d sofar p c.args.frames.now c.loop-page.frames _ c.loop-page.invariant.frames
          c.in_ok-frame.ensures.frames;
      pages =
          c.in_ok-push.ensures.ok
          ∙ ap (λ (z : List Page). z ++ with_frame p c.in_ok-frame.frame ∷ []) c.loop-page.invariant.pages
          ∙ ap (λ m. gather f sofar ++ with_frame p m ∷ []) (c.in_ok-frame.ensures.number
          ∙ ap (λ k. number_of firsts k p.shown) there)
          ∙ sym (gather_push f sofar p);
    }
