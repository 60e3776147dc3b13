-- Where tokens spell the files of a source, its names are identifiers, so no name of a label's path has a dot.
use Rattle.std.proofs.Common.{rules}
use Rattle.assigned_laws.proofs.Common.{AreNamesSound, AreSpelled, AreUndotted, IsUndotted, Name, Source, [], and_parts, ap, flat_of, inl, inr, is_letter, is_name, is_word_byte, leb, length, list_all, or_left, sym, true, true≢false, ℕ, ◌&&◌}
use Rattle.assigned_laws.proofs.Common.{◌∙◌, ◌∷◌, ◌≡◌}
use Rattle.assigned_laws.proofs.Identifiers.{identifiers}

no_dot : (b : ℕ) → is_word_byte b ≡ true → b ≡ 46 → ⊥
no_dot b h e = true≢false (sym h ∙ ap is_word_byte e)

word_bytes : (n : Name) → list_all is_word_byte n ≡ true → IsUndotted n
word_bytes [] h b i = absurd i
word_bytes (c ∷ cs) h b (inl same) =
    no_dot b (ap is_word_byte (sym same) ∙ (and_parts (is_word_byte c) (list_all is_word_byte cs) h).0)
word_bytes (c ∷ cs) h b (inr i) = word_bytes cs (and_parts (is_word_byte c) (list_all is_word_byte cs) h).1 b i

identifier : (n : Name) → is_name n ≡ true → IsUndotted n
identifier [] h b i = absurd i
identifier (c ∷ cs) h b i = search (rules, and_parts, no_dot, or_left, word_bytes)

pub undotted : (s : Source) (spelled : AreSpelled s) → AreNamesSound s → AreUndotted (flat_of s)
undotted s spelled sound x p h n i = identifier n (identifiers s spelled sound x p h n i)
