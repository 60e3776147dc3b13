-- The objects of a text have names.
use Rattle.std.proofs.Common.{rules}
use Rattle.capdl_read.proofs.Common.{Entry, Holder, Id, IsSpecSpelled, IsSpelledBy, Knows, List, ObjectLine, Seen, Spec, SpecTree, Text, [], and_parts, entry_said, knows, list_all, map, object_form, refl, subst, sym, true, ℕ, ◌∷◌, ◌≡◌}
use Rattle.cam_base.specs.Names.{is_name}
use Rattle.capdl_text.specs.Forms.{object_line, spec_line}
use Rattle.cam_base.proofs.Naming.{named_is}
use Rattle.cam_base.specs.Spelling.{Each}

line_named : (o : ObjectLine) (ts : List Seen) → IsSpelledBy object_form o ts → is_name o.id.name ≡ true
unfolding object_line
line_named o ts (x, is, (a, b, parts, (s, id, one), rest)) = search (rules, named_is)

lines_named : (os : List ObjectLine) (ts : List Seen) → Each (IsSpelledBy object_form) os ts
    → list_all (λ o. is_name o.id.name) os ≡ true
lines_named [] ts each = refl
lines_named (o ∷ os) ts (a, b, parts, one, more) = rw (line_named o a one) (lines_named os b more)

tree_named : (tree : SpecTree) (ts : List Seen) → IsSpecSpelled tree ts → list_all (λ o. is_name o.id.name) tree.objects ≡ true
unfolding spec_line
tree_named tree ts (
  x,
  is,
  (a, b, p, arch, (c, d, q, form, (e, f, r, objects, (g, h, u, (y, block, (i, j, v, begin, (k, l, w, many, end))), rest)))),
) =
    subst (λ (t : SpecTree). list_all (λ o. is_name o.id.name) t.objects ≡ true) (sym is)
    (subst (λ (os : List ObjectLine). list_all (λ o. is_name o.id.name) os ≡ true) (sym block) (lines_named y.1.0 k many))

entries_named : (known : Knows) (holders : List Holder) (os : List ObjectLine) → list_all (λ o. is_name o.id.name) os ≡ true
    → list_all (λ (entry : Entry). is_name entry.name) (map (entry_said known holders) os) ≡ true
entries_named known holders [] all = refl
entries_named known holders (o ∷ os) all =
    let both = and_parts (is_name o.id.name) (list_all (λ (p : ObjectLine). is_name p.id.name) os) all in
    rw both.0 (entries_named known holders os both.1)

pub text_named : (bytes : List ℕ) (s : Spec) → Text bytes s → list_all (λ entry. is_name entry.name) s.entries ≡ true
text_named bytes s text = search (rules, entries_named, tree_named)
