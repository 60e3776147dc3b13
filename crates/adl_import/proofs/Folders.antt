-- The folder of a name, byte by byte from the end.
use Rattle.adl_import.proofs.Common.{Bool, List, [], ap, cond, false, folder_of, is_slash, list_any, true, ℕ, ◌++◌, ◌||◌, ◌∙◌, ◌∷◌, ◌≡◌}
use Rattle.std.proofs.Math.Bool.{or-true}

no_slash_last : (xs : List ℕ) (x : ℕ) → is_slash x ≡ false → list_any is_slash (xs ++ x ∷ []) ≡ list_any is_slash xs
no_slash_last [] x e = ap (λ (b : Bool). b || false) e
no_slash_last (y ∷ ys) x e = ap (λ (b : Bool). is_slash y || b) (no_slash_last ys x e)

slash_last : (xs : List ℕ) (x : ℕ) → is_slash x ≡ true → list_any is_slash (xs ++ x ∷ []) ≡ true
slash_last [] x e = ap (λ (b : Bool). b || false) e
slash_last (y ∷ ys) x e = ap (λ (b : Bool). is_slash y || b) (slash_last ys x e) ∙ or-true (is_slash y)

-- a last byte that is no slash falls away
pub folder_of-past : (xs : List ℕ) (x : ℕ) → is_slash x ≡ false → folder_of (xs ++ x ∷ []) ≡ folder_of xs
folder_of-past [] x e = ap (λ (b : Bool). cond (b || false) (x ∷ []) []) e
folder_of-past (y ∷ ys) x e =
    ap (λ (b : Bool). cond b (y ∷ folder_of (ys ++ x ∷ [])) []) (no_slash_last (y ∷ ys) x e)
    ∙ ap (λ (l : List ℕ). cond (list_any is_slash (y ∷ ys)) (y ∷ l) []) (folder_of-past ys x e)

-- a name that ends in a slash is its own folder
pub folder_of-at : (xs : List ℕ) (x : ℕ) → is_slash x ≡ true → folder_of (xs ++ x ∷ []) ≡ xs ++ x ∷ []
folder_of-at [] x e = ap (λ (b : Bool). cond (b || false) (x ∷ []) []) e
folder_of-at (y ∷ ys) x e =
    ap (λ (b : Bool). cond b (y ∷ folder_of (ys ++ x ∷ [])) []) (slash_last (y ∷ ys) x e)
    ∙ ap (λ (l : List ℕ). y ∷ l) (folder_of-at ys x e)
