use Rattle.adl_parse.proofs.Common.{Many, Ok, Reads, [], ap, err_from_is_err_and, fails, first, goes_on, is_done, opens, reads, refl, subst, sym, token_code, with_front, ◌++◌, ◌∙◌, ◌∷◌, ◌≡◌}
use Rattle.adl_parse.proofs.repeated.read_from.Goals as goal

pub returns-then-not-starts : goal.returns-then-not-starts
returns-then-not-starts g c =
    let f = g.R.Repeated.form in
    let ts = c.args.at.now in
    is_done token_code (first opens f) (reads f) g.R.Repeated.eats (c.args.first ∷ []) ts
    (with_front (c.args.first ∷ []) (reads (Many f) ts)) (sym c.starts.ensures ∙ c.if-not-starts.true) refl
    ∙ ap (λ z. Ok (z, ts)) (sym c.in_ok-with_room.ensures)

pub returns-in_err-second : goal.returns-in_err-second
returns-in_err-second g c =
    let f = g.R.Repeated.form in
    let ts = c.args.at.now in
    let p = err_from_is_err_and c.from_residual-in_err-second.result c.from_residual-in_err-second.ensures.1 in
    rw (p.1, p.2) (fails token_code (first opens f) (reads f) g.R.Repeated.eats c.in_err-second.field-0.0 (c.args.first ∷ []) ts
    (with_front (c.args.first ∷ []) (reads (Many f) ts)) (sym c.starts.ensures ∙ c.if-not-starts.false) c.in_err-second.ensures
    refl)

pub returns-then-not-starts-2 : goal.returns-then-not-starts-2
returns-then-not-starts-2 g c =
    let f = g.R.Repeated.form in
    let cs = first opens f in
    let eats = g.R.Repeated.eats in
    let ts = c.args.at.now in
    let total = with_front (c.args.first ∷ []) (reads (Many f) ts) in
    let after = c.read.new.at in
    let second = c.in_ok-second.second in
    let two : with_front (c.args.first ∷ second ∷ []) (reads (Many f) after) ≡ total =
    goes_on token_code cs (reads f) eats (c.args.first ∷ []) ts second after total (sym c.starts.ensures ∙ c.if-not-starts.false)
    c.in_ok-second.ensures refl in
    is_done token_code cs (reads f) eats (c.args.first ∷ second ∷ []) after total
    (sym c.starts-2.ensures ∙ c.if-not-starts-2.true) two
    ∙ ap (λ z. Ok (z, after)) (sym (c.in_ok-push.ensures.ok ∙ ap (λ z. z ++ second ∷ []) c.in_ok-both.ensures))

pub returns-in_err-third : goal.returns-in_err-third
returns-in_err-third g c =
    let f = g.R.Repeated.form in
    let cs = first opens f in
    let eats = g.R.Repeated.eats in
    let ts = c.args.at.now in
    let total = with_front (c.args.first ∷ []) (reads (Many f) ts) in
    let after = c.read.new.at in
    let second = c.in_ok-second.second in
    let two : with_front (c.args.first ∷ second ∷ []) (reads (Many f) after) ≡ total =
    goes_on token_code cs (reads f) eats (c.args.first ∷ []) ts second after total (sym c.starts.ensures ∙ c.if-not-starts.false)
    c.in_ok-second.ensures refl in
    let p = err_from_is_err_and c.from_residual-in_err-third.result c.from_residual-in_err-third.ensures.1 in
    rw (p.1, p.2) (fails token_code cs (reads f) eats c.in_err-third.field-0.0 (c.args.first ∷ second ∷ []) after total
    (sym c.starts-2.ensures ∙ c.if-not-starts-2.false) c.in_err-third.ensures two)

pub returns : goal.returns
returns g c =
    let f = g.R.Repeated.form in
    let cs = first opens f in
    let eats = g.R.Repeated.eats in
    let ts = c.args.at.now in
    let total = with_front (c.args.first ∷ []) (reads (Many f) ts) in
    let after = c.read.new.at in
    let second = c.in_ok-second.second in
    let two : with_front (c.args.first ∷ second ∷ []) (reads (Many f) after) ≡ total =
    goes_on token_code cs (reads f) eats (c.args.first ∷ []) ts second after total (sym c.starts.ensures ∙ c.if-not-starts.false)
    c.in_ok-second.ensures refl in
    let third = c.in_ok-third.third in
    let behind = c.read-2.new.at in
    let three = goes_on token_code cs (reads f) eats (c.args.first ∷ second ∷ []) after third behind total
    (sym c.starts-2.ensures ∙ c.if-not-starts-2.false) c.in_ok-third.ensures two in
    let items = c.in_ok-push-3.ensures.ok ∙ ap (λ z. z ++ third ∷ []) (c.in_ok-push-2.ensures.ok
    ∙ ap (λ z. z ++ second ∷ []) c.in_ok-items.ensures) in
    subst (λ z. Reads c.read_behind.result c.read_behind.new.at z)
    (ap (λ z. with_front z (reads (Many f) behind)) items ∙ three) c.read_behind.ensures
