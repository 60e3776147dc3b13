use Rattle.vspace_layout.proofs.Common.{List, MappedPage, Page, Turned, [], ap, append_assoc, arith, before, gather, gather_push, into_iter_len, length, length_append, own_added, pages_numbered, sym, turned, ℕ, ◌++◌, ◌+◌, ◌∙◌, ◌∷◌, ◌≡◌}
use Rattle.vspace_layout.proofs.Numbering.{few_so_far, own_so_far}
use Rattle.vspace_layout.proofs.frames.number_all.Goals as goal

pub number_pages-requires-clause-few : goal.number_pages-requires-clause-few
number_pages-requires-clause-few c =
    let it = c.into_iter-pages-iterator.result in
    let ms = c.args.mapped.items in
    let gives = c.into_iter-pages-iterator.ensures.into_iter_gives in
    let many : into_iter_len it ≡ length ms = omega (arith, gives.1, c.args.mapped.ok.0) in
    let t : Turned ms c.loop-pages.yielded c.in-Some.pages = turned it c.loop-pages.pages-iterator c.next.new.self ms gives.0 many
    c.loop-pages.yielded c.loop-pages.yielded_by c.next.result c.in-Some.pages c.in-Some.is c.next.ensures.steps in
    let a = own_so_far ms c.loop-pages.yielded c.args.frames.now c.loop-pages.frames t.front c.loop-pages.invariant.frames in
    let b = few_so_far ms (length c.loop-pages.yielded) c.in-Some.pages t.here in
    let d = c.requires.few in
    omega (arith, a, b, d)

pub number_pages-requires-clause-memory : goal.number_pages-requires-clause-memory
number_pages-requires-clause-memory c =
    let it = c.into_iter-pages-iterator.result in
    let ms = c.args.mapped.items in
    let gives = c.into_iter-pages-iterator.ensures.into_iter_gives in
    let many : into_iter_len it ≡ length ms = omega (arith, gives.1, c.args.mapped.ok.0) in
    let t : Turned ms c.loop-pages.yielded c.in-Some.pages = turned it c.loop-pages.pages-iterator c.next.new.self ms gives.0 many
    c.loop-pages.yielded c.loop-pages.yielded_by c.next.result c.in-Some.pages c.in-Some.is c.next.ensures.steps in
    λ n page e. c.requires.memory (length c.loop-pages.yielded) n c.in-Some.pages page t.here e

pub loop-pages-preserved : goal.loop-pages-preserved
loop-pages-preserved c =
    let it = c.into_iter-pages-iterator.result in
    let ms = c.args.mapped.items in
    let gives = c.into_iter-pages-iterator.ensures.into_iter_gives in
    let many : into_iter_len it ≡ length ms = omega (arith, gives.1, c.args.mapped.ok.0) in
    let t : Turned ms c.loop-pages.yielded c.in-Some.pages = turned it c.loop-pages.pages-iterator c.next.new.self ms gives.0 many
    c.loop-pages.yielded c.loop-pages.yielded_by c.next.result c.in-Some.pages c.in-Some.is c.next.ensures.steps in
    let sofar = c.loop-pages.yielded in
    let ps = c.in-Some.pages in
    let firsts = c.args.firsts.now in
    let there = own_so_far ms sofar c.args.frames.now c.loop-pages.frames t.front c.loop-pages.invariant.frames in
    let f = λ (d : ℕ) (qs : List MappedPage). pages_numbered d firsts (length c.args.frames.now + before own_added ms d) qs
    ∷ [] in
    let old = c.args.frames.now in
    record {
      count = let a = length_append sofar (ps ∷ []) in let b = c.loop-pages.invariant.count in omega (arith, a, b);
      frames =
          c.in_ok-number_pages.ensures.frames
          ∙ ap (λ (d : ℕ). c.loop-pages.frames ++ own_added d ps) c.loop-pages.invariant.count
          ∙ ap (λ z. z ++ own_added (length sofar) ps) c.loop-pages.invariant.frames
          ∙ append_assoc old (gather own_added sofar) (own_added (length sofar) ps)
          ∙ ap (λ z. old ++ z) (sym (gather_push own_added sofar ps));
      all =
          c.in_ok-push.ensures.items
          ∙ ap (λ (z : List (List Page)). z ++ c.in_ok-number_pages.field-0 ∷ []) c.loop-pages.invariant.all
          ∙ ap (λ (z : List Page). gather f sofar ++ z ∷ []) (
          c.in_ok-number_pages.ensures.pages
          ∙ ap (λ d. pages_numbered d firsts (length c.loop-pages.frames) ps) c.loop-pages.invariant.count
          ∙ ap (λ n. pages_numbered (length sofar) firsts n ps) there
          )
          ∙ sym (gather_push f sofar ps);
    }
