use Rattle.name_tables.proofs.Common.{List, None, Some, [], ap, arith, false, found, is_some, length, nat_lt, nat_tests, option_map_or, option_or, refl, slice_get, slice_index_or, slice_set, sym, true, ◌++◌, ◌∙◌, ◌∷◌, ◌≡◌}
use Rattle.name_tables.proofs.NameLookups.{found_kept, met_few, met_many, put_few, put_many}
use Rattle.name_tables.proofs.by_name.NameTable.put.Goals as goal

-- the first of a list, if there is one, and after it is changed
first_there : {X : Type 0} (xs : List X) (x : X) → true ≡ nat_lt 0 (length xs) → x ≡ slice_index_or xs 0 x
    → slice_get xs 0 ≡ Some x
first_there [] x e i = cc
first_there (y ∷ xs) x e i = ap Some (sym i)

first_lacks : {X : Type 0} (xs : List X) → false ≡ nat_lt 0 (length xs) → slice_get xs 0 ≡ None
first_lacks [] e = refl
first_lacks (y ∷ xs) e = grind (arith, nat_tests)

first_changed : {X : Type 0} (xs : List X) (old new : X) → slice_get xs 0 ≡ Some old → slice_get (slice_set xs 0 new) 0 ≡ Some new
first_changed [] old new e = cc
first_changed (x ∷ xs) old new e = refl

first_pushed : {X : Type 0} (xs ys : List X) (x : X) → slice_get xs 0 ≡ None → ys ≡ xs ++ x ∷ [] → slice_get ys 0 ≡ Some x
first_pushed [] ys x e p = ap (λ zs. slice_get zs 0) p
first_pushed (y ∷ xs) ys x e p = cc

pub returns-then-is_few-clause-met : goal.returns-then-is_few-clause-met
returns-then-is_few-clause-met g c =
    let key = c.as_bytes-bytes.result.now in
    let there = sym (ap (λ s. is_some (found s key)) c.as_slice.ensures.value) ∙ sym c.is_few.ensures ∙ c.if-is_few.true in
    sym (ap (λ k. is_some (found c.args.self.now k)) (sym c.as_bytes-bytes.ensures.bytes) ∙ met_few c.self.inside.few.items _
    c.args.self.now c.self.view_is key there)

pub returns-then-is_few-clause-found : goal.returns-then-is_few-clause-found
returns-then-is_few-clause-found g c =
    found_kept (found c.args.self.now) c.args.name.now c.args.value (sym (returns-then-is_few-clause-met g c))

pub returns-in-Some-clause-met : goal.returns-in-Some-clause-met
returns-in-Some-clause-met g c =
    let key = c.as_bytes-bytes.result.now in
    let absent = sym (ap (λ s. is_some (found s key)) c.as_slice.ensures.value) ∙ sym c.is_few.ensures ∙ c.if-is_few.false in
    c.in_ok-met.ensures.met ∙ ap (λ o. is_some (found (option_map_or (λ m. m.entries) o []) key))
    (sym (first_there c.self.inside.many.items c.in-Some.many.now c.in-Some.ensures.item.0 c.in-Some.ensures.value))
    ∙ sym (met_many c.self.inside.few.items _ c.args.self.now c.self.view_is key absent)
    ∙ ap (λ k. is_some (found c.args.self.now k)) c.as_bytes-bytes.ensures.bytes

pub returns-in-Some-clause-found : goal.returns-in-Some-clause-found
returns-in-Some-clause-found g c = λ n.
    let key = c.as_bytes-bytes.result.now in
    let here = first_there c.self.inside.many.items c.in-Some.many.now c.in-Some.ensures.item.0 c.in-Some.ensures.value in
    ap (λ o. found (c.self.inside.few.items ++ option_map_or (λ m. m.entries) o []) n)
    (first_changed c.self.inside.many.items c.in-Some.many.now c.put_hashed.new.entries here)
    ∙ put_many c.self.inside.few.items _ c.args.self.now c.self.view_is c.put_hashed.new.entries.entries (key, c.args.value)
    (λ q. c.in_ok-met.ensures.found q
    ∙ ap (λ o. option_or (found (option_map_or (λ m. m.entries) o []) q) (found ((key, c.args.value) ∷ []) q)) (sym here)) n
    ∙ ap (λ k. option_or (found c.args.self.now n) (found ((k, c.args.value) ∷ []) n)) c.as_bytes-bytes.ensures.bytes

pub returns-then-len-lt-FEW-clause-found : goal.returns-then-len-lt-FEW-clause-found
returns-then-len-lt-FEW-clause-found g c = λ n.
    let none = first_lacks c.self.inside.many.items c.in_default.ensures.item.0 in
    put_few c.self.inside.few.items _ c.args.self.now c.self.view_is c.push.new.self.items (
      c.as_bytes-bytes.result.now,
      c.args.value,
    ) c.in_ok-push.ensures.items
    (ap (λ o. length (option_map_or (λ m. m.entries) o [])) none) n
    ∙ ap (λ k. option_or (found c.args.self.now n) (found ((k, c.args.value) ∷ []) n)) c.as_bytes-bytes.ensures.bytes

pub returns-clause-found : goal.returns-clause-found
returns-clause-found g c = λ n.
    let key = c.as_bytes-bytes.result.now in
    let none = first_lacks c.self.inside.many.items c.in_default.ensures.item.0 in
    ap (λ o. found (c.self.inside.few.items ++ option_map_or (λ m. m.entries) o []) n)
    (first_pushed c.self.inside.many.items c.push-2.new.self.items _ none c.in_ok-push-2.ensures.items)
    ∙ put_many c.self.inside.few.items _ c.args.self.now c.self.view_is c.put_hashed-2.new.entries.entries (key, c.args.value)
    (λ q. c.in_ok-put_hashed.ensures.found q ∙ ap (λ es. option_or (found es q) (found ((key, c.args.value) ∷ []) q))
    c.new-many.ensures.empty
    ∙ ap (λ o. option_or (found (option_map_or (λ m. m.entries) o []) q) (found ((key, c.args.value) ∷ []) q)) (sym none)) n
    ∙ ap (λ k. option_or (found c.args.self.now n) (found ((k, c.args.value) ∷ []) n)) c.as_bytes-bytes.ensures.bytes
