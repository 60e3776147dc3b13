use Rattle.vspace_layout.proofs.Common.{List, Outline, Page, Some, Turned, [], ap, arith, below, gather_turn, get_or, get_or_from_slice_get, in_place, into_iter_len, length, length_append, read_place, refl, slice_get, space_in, subst, sym, turned, ℕ}
use Rattle.vspace_layout.proofs.Common.{◌++◌, ◌<◌, ◌∙◌, ◌∷◌, ◌≡◌}
use Rattle.vspace_layout.proofs.lay.spaces_with.Goals as goal

pub space_of-requires-clause-few : goal.space_of-requires-clause-few
space_of-requires-clause-few c =
    let it = c.into_iter-pages-iterator.result in
    let all = c.args.all.items in
    let gives = c.into_iter-pages-iterator.ensures.into_iter_gives in
    let many : into_iter_len it ≡ length all = omega (arith, gives.1, c.args.all.ok.0) in
    let t : Turned all c.loop-pages.yielded c.in-Some.pages = turned it c.loop-pages.pages-iterator c.next.new.self all gives.0
    many c.loop-pages.yielded c.loop-pages.yielded_by c.next.result c.in-Some.pages c.in-Some.is c.next.ensures.steps in
    let os = c.args.outlines.now in
    let x = c.index-outlines-domain.result in
    let d = c.loop-pages.domain in
    let there = below all (length c.loop-pages.yielded) c.in-Some.pages t.here in
    let l : d < length os = omega (arith, there, c.loop-pages.invariant.count, c.requires.each) in
    c.requires.outlined.few x (in_place x os d (read_place os os d x refl l c.index-outlines-domain.is))

pub space_of-requires-clause-regions : goal.space_of-requires-clause-regions
space_of-requires-clause-regions c =
    let it = c.into_iter-pages-iterator.result in
    let all = c.args.all.items in
    let gives = c.into_iter-pages-iterator.ensures.into_iter_gives in
    let many : into_iter_len it ≡ length all = omega (arith, gives.1, c.args.all.ok.0) in
    let t : Turned all c.loop-pages.yielded c.in-Some.pages = turned it c.loop-pages.pages-iterator c.next.new.self all gives.0
    many c.loop-pages.yielded c.loop-pages.yielded_by c.next.result c.in-Some.pages c.in-Some.is c.next.ensures.steps in
    let os = c.args.outlines.now in
    let x = c.index-outlines-domain.result in
    let d = c.loop-pages.domain in
    let there = below all (length c.loop-pages.yielded) c.in-Some.pages t.here in
    let l : d < length os = omega (arith, there, c.loop-pages.invariant.count, c.requires.each) in
    c.requires.outlined.regions x (in_place x os d (read_place os os d x refl l c.index-outlines-domain.is))

pub loop-pages-preserved : goal.loop-pages-preserved
loop-pages-preserved c =
    let it = c.into_iter-pages-iterator.result in
    let all = c.args.all.items in
    let gives = c.into_iter-pages-iterator.ensures.into_iter_gives in
    let many : into_iter_len it ≡ length all = omega (arith, gives.1, c.args.all.ok.0) in
    let t : Turned all c.loop-pages.yielded c.in-Some.pages = turned it c.loop-pages.pages-iterator c.next.new.self all gives.0
    many c.loop-pages.yielded c.loop-pages.yielded_by c.next.result c.in-Some.pages c.in-Some.is c.next.ensures.steps in
    let flat = c.args.wiring.now.flat in
    let settled = c.args.wiring.now.settled in
    let base = c.args.base in
    let os = c.args.outlines.now in
    let x = c.index-outlines-domain.result in
    let ps = c.in-Some.pages in
    let d = c.loop-pages.domain in
    let there = below all (length c.loop-pages.yielded) ps t.here in
    let l : d < length os = omega (arith, there, c.loop-pages.invariant.count, c.requires.each) in
    let here : slice_get all d ≡ Some ps = subst (λ (n : ℕ). slice_get all n ≡ Some ps)
    (sym c.loop-pages.invariant.count) t.here in
    let pages : ps ≡ get_or all d [] = sym (get_or_from_slice_get all d ps [] here) in
    record {
      count = let a = length_append c.loop-pages.yielded (ps ∷ []) in let b = c.loop-pages.invariant.count in omega (arith, a, b);
      spaces = gather_turn (λ n (o : Outline). space_in flat settled base o (get_or all n []) ∷ []) os os d x []
          c.loop-pages.spaces _ refl l c.index-outlines-domain.is c.loop-pages.invariant.spaces
          (c.in_ok-push.ensures.ok ∙ ap (λ s. c.loop-pages.spaces ++ s ∷ []) (c.in_ok-space_of.ensures
          ∙ ap (λ (z : List Page). space_in flat settled base x z) pages));
    }
