-- A source that is loaded has few files, and few items in each: no more items than tokens, no more tokens than bytes.
use Rattle.front_end.proofs.Common.{All, AreFew, Contents, File, IsFileOf, IsLoaded, IsLoadedBy, List, None, Ok, Option, Seen, Some, Source, SourceFile, [], append_assoc, arith, clean_each, clean_few, each_token, ended_token, length, length-map}
use Rattle.front_end.proofs.Common.{refl, root_name, see, seen_at, subst, sym, ℕ, ◌++◌, ◌∙◌, ◌∷◌, ◌≡◌, ◌≤◌}
use Rattle.std.proofs.lemmas.List.Elements.{All-cons, All-nil}
use Rattle.cam_base.specs.declared.token.Token.{Token}
use Rattle.adl_ast.specs.Forms.{ended_form, file_line}
use Rattle.adl_ast.specs.Spelling.{IsFileSpelled}
use Rattle.adl_lexer.specs.Lexes.{Lexes, LexesFrom}
use Rattle.adl_lexer.proofs.Gaps.{gap_le}
use Rattle.adl_lexer.proofs.Steps.{token_eats}

-- no more tokens than bytes
pub tokens_within : (file total : ℕ) (bs : List ℕ) (ts : List Token) → LexesFrom file total bs ts → length ts ≤ length bs
tokens_within file total bs [] l = omega arith
tokens_within file total bs (t ∷ ts) l =
    let skipped = gap_le bs l.0 l.2 in
    let taken = token_eats l.0 t.kind l.1 l.3 in
    let more = tokens_within file total l.1 ts l.5 in
    omega arith

-- no more items than tokens
pub items_within : (file : File) (ts : List Seen) → IsFileSpelled file ts → length file.items ≤ length ts
unfolding file_line
items_within file ts s = subst (λ (f : File). length f.items ≤ length ts) (sym s.1) (each_token ended_form s.0 ts ended_token s.2)

-- no more items than bytes
items_few : (number : ℕ) (file : File) (bytes : List ℕ) (tokens : List Token) → Lexes number bytes tokens
    → IsFileSpelled file (see bytes tokens) → length file.items ≤ length bytes
items_few number file bytes tokens l s =
    let items = items_within file (see bytes tokens) s in
    let few = tokens_within number (length bytes) bytes tokens l in
    omega (arith, length-map tokens (seen_at bytes))

few_in_file : (contents : Contents) (number : ℕ) (file : SourceFile) → IsFileOf contents number file
    → length file.tree.items ≤ 1048576
few_in_file contents number file is = let few = items_few number file.tree file.bytes is.tokens is.lexed is.spelled in
    let size = is.size in omega arith

each_few : (contents : Contents) (before files : List SourceFile)
    → ((front after : List SourceFile) (file : SourceFile) → before ++ files ≡ front ++ file ∷ after
    → IsFileOf contents (length front) file)
    → All (λ f. length f.tree.items ≤ 1048576) files
each_few contents before [] each = All-nil (λ f. length f.tree.items ≤ 1048576)
each_few contents before (file ∷ files) each =
    All-cons (λ f. length f.tree.items ≤ 1048576) file files (few_in_file contents (length before) file
    (each before files file refl))
    (each_few contents (before ++ file ∷ []) files
    (λ front after f e. each front after f (sym (append_assoc before (file ∷ []) files) ∙ e)))

-- a source that is loaded
pub loaded_few : (contents : Contents) (root : List ℕ) (source : Source) → IsLoaded contents root (Ok source) → AreFew source
loaded_few contents root source loaded = go (root_name root) loaded
  where
    go : (name : Option (List ℕ)) → IsLoadedBy contents root name (Ok source) → AreFew source
    go None l = absurd l
    go (Some name) l = record {
      files = clean_few contents name source.files l;
      items = each_few contents [] source.files (clean_each contents name source.files l);
    }
