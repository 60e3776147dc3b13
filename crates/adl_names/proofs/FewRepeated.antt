-- Words of few items, of which each is looked for among those before it.
use Rattle.adl_names.proofs.Common.{Fault, Id, List, Name, Option, Some, [], ap, as_method, bytes_eq, declared_by, drop, drop_first, filter_map, flat_map, get_or, length, map, map-append, noted, noted-append, refl, repeats_after, sym, ℕ, take, ◌++◌, ◌+◌, ◌<◌, ◌||◌, ◌∙◌, ◌∷◌, ◌≡◌}
use Rattle.std.proofs.Math.Bool.{or-false}
use Rattle.std.proofs.lemmas.List.{take_more}
use Rattle.std.proofs.lemmas.List.Folds.{list_any-append}
use Rattle.adl_ast.specs.declared.procedure.ProcMember.{ProcMember}
use Rattle.adl_ast.specs.declared.procedure.ProcMember.TheVariants as parts
use Rattle.adl_ast.specs.declared.procedure.Param.{Param}
use Rattle.adl_ast.specs.declared.procedure.Procedure.{Procedure}
use Rattle.adl_meaning.specs.Prelude.{Member, at_word, cons_option, duplicates_in_procedure, list_any, repeats, where_true}
use Rattle.adl_meaning.specs.Duplicate.{repeated_params}
use Rattle.adl_names.specs.Tables.{has_word, is_met, method_words, param_words, repeated_in, words_by, words_of}
use Rattle.cam_base.specs.declared.code.Code.TheVariants as code

module _ {T : Type 0} (words : T → List Id) where
  -- a name is met behind an item, where it was met before or the item stands under it
  met_behind : (xs : List T) (x : T) (o : Option Id) (n : Name) → cons_option o [] ≡ words x
      → is_met words (xs ++ x ∷ []) n ≡ (is_met words xs n || list_any (λ w. bytes_eq n w.name) (cons_option o []))
  met_behind xs x o n is = list_any-append (has_word words n) xs (x ∷ [])
      ∙ ap (λ z. is_met words xs n || z) (or-false (has_word words n x) ∙ ap (λ z. list_any (λ w. bytes_eq n w.name) z) (sym is))

  pub noted_word : (xs : List T) (x : T) (w : Id) (f : Option Fault) (rest : List Id) → w ∷ [] ≡ words x
      → noted (noted f (where_true (is_met words xs w.name) (at_word code.Duplicate w)))
      (repeats_after (is_met words (xs ++ x ∷ [])) rest)
      ≡ noted f (repeats_after (is_met words xs) (words x ++ rest))
  noted_word xs x w f rest is =
      let same : is_met words (xs ++ x ∷ []) ≡ (λ n. is_met words xs n || bytes_eq n w.name) =
      λ k n. (let e : is_met words (xs ++ x ∷ []) n ≡ (is_met words xs n || bytes_eq n w.name) =
      met_behind xs x (Some w) n is ∙ ap (λ z. is_met words xs n || z) (or-false (bytes_eq n w.name)) in e k) in
      ap (λ z. noted (noted f (where_true (is_met words xs w.name) (at_word code.Duplicate w))) (repeats_after z rest)) same
      ∙ sym (noted-append f (where_true (is_met words xs w.name) (at_word code.Duplicate w))
      (repeats_after (λ n. is_met words xs n || bytes_eq n w.name) rest))
      ∙ ap (λ z. noted f (repeats_after (is_met words xs) (z ++ rest))) is

  -- one item more
  pub few_more : (xs : List T) (i : ℕ) (x : T) (f g : Option Fault) → i < length xs → x ≡ get_or xs i x
      → ((rest : List Id) → noted g (repeats_after (is_met words (take i xs ++ x ∷ [])) rest)
      ≡ noted f (repeats_after (is_met words (take i xs)) (words x ++ rest)))
      → noted g (repeats_after (is_met words (take (i + 1) xs)) (flat_map words (drop (i + 1) xs)))
      ≡ noted f (repeats_after (is_met words (take i xs)) (flat_map words (drop i xs)))
  few_more xs i x f g l e h =
      ap (λ z. noted g (repeats_after (is_met words z) (flat_map words (drop (i + 1) xs))))
      (take_more xs i x l ∙ ap (λ z. take i xs ++ z ∷ []) (sym e))
      ∙ h (flat_map words (drop (i + 1) xs))
      ∙ ap (λ z. noted f (repeats_after (is_met words (take i xs)) z)) (sym (ap (flat_map words) (drop_first xs i x l e)))

-- the words of members are those of what they declare
pub declared_words : (ms : List Member) → flat_map words_by ms ≡ words_of ms
declared_words [] = refl
declared_words (m ∷ ms) = ap (λ z. words_by m ++ z) (declared_words ms)
    ∙ sym (map-append (λ d. d.0) (declared_by m) (flat_map declared_by ms))

-- the words of a procedure's parts are those of its methods
pub methods_words : (ps : List ProcMember) → flat_map method_words ps ≡ map (λ m. m.id) (filter_map as_method ps)
methods_words [] = refl
methods_words (parts.Include i ∷ ps) = methods_words ps
methods_words (parts.Method m ∷ ps) = ap (λ z. m.id ∷ z) (methods_words ps)

pub params_words : (ps : List Param) → flat_map param_words ps ≡ map (λ a. a.id) ps
params_words [] = refl
params_words (a ∷ ps) = ap (λ z. a.id ∷ z) (params_words ps)

repeated_params_in : (ps : List ProcMember) → flat_map repeated_in ps ≡ flat_map repeated_params (filter_map as_method ps)
repeated_params_in [] = refl
repeated_params_in (parts.Include i ∷ ps) = repeated_params_in ps
repeated_params_in (parts.Method m ∷ ps) = ap (λ z. repeated_params m ++ z) (repeated_params_in ps)

-- what is noted of a procedure's methods, and then of the parameters of each
pub procedure_noted : (p : Procedure) (ms : List ProcMember) (f g : Option Fault) → ms ≡ p.members
    → g ≡ noted f (repeats (flat_map method_words ms)) → noted g (flat_map repeated_in ms) ≡ noted f (duplicates_in_procedure p)
procedure_noted p ms f g is h =
    ap (λ o. noted o (flat_map repeated_in ms)) h
    ∙ sym (noted-append f (repeats (flat_map method_words ms)) (flat_map repeated_in ms))
    ∙ ap (λ z. noted f (repeats z ++ flat_map repeated_in ms)) (methods_words ms)
    ∙ ap (λ z. noted f (repeats (map (λ m. m.id) (filter_map as_method ms)) ++ z)) (repeated_params_in ms)
    ∙ ap (λ z. noted f (repeats (map (λ m. m.id) (filter_map as_method z))
    ++ flat_map repeated_params (filter_map as_method z))) is
