-- The edges that are left once a row is begun.
use Rattle.cap_model.proofs.Common.{Authority, Class, List, Row, Some, [], ap, append_assoc, arith, drop, edge_to, get_or, length, map, refl, reply_to, slice_get, suc, table_edges, take, take_all, ℕ, ◌++◌, ◌-◌, ◌<◌, ◌∙◌, ◌∷◌}
use Rattle.cap_model.proofs.Common.{rules, ◌≡◌, ◌≤◌}

module _ (rows : List Row) (r : Row) (some : 1 ≤ length rows) (first : r ≡ get_or rows 0 r) where
  pub head_rest : rows ≡ r ∷ take (length rows - 1) (drop 1 rows)
  head_rest = search (rules, take_all)

  pub head_at : slice_get rows 0 ≡ Some r
  head_at = ap (λ (ys : List Row). slice_get ys 0) head_rest

  pub later_at : (i : ℕ) (s : Row) → slice_get (take (length rows - 1) (drop 1 rows)) i ≡ Some s
      → slice_get rows (suc i) ≡ Some s
  later_at i s e = ap (λ (ys : List Row). slice_get ys (suc i)) head_rest ∙ e

  pub begun : (classes : List Class) (c : Class) (label : ℕ) (before behind front back : List (Authority × ℕ))
      (replies ms : List ℕ)
      → slice_get classes r.class ≡ Some c → length before < 1 → length replies < 1 → length behind < 1
      → front ≡ take c.before c.pairs.items → back ≡ drop c.before c.pairs.items → ms ≡ r.replies.items
      → map (edge_to r.label) front ++ (map (reply_to r.label) ms ++ (map (edge_to r.label) back
      ++ table_edges classes (take (length rows - 1) (drop 1 rows))))
      ≡ map (edge_to label) before ++ (map (reply_to label) replies ++ (map (edge_to label) behind ++ table_edges classes rows))
  begun classes c label [] [] front back [] ms there lb lr lh f b m = search (rules, append_assoc, head_rest)
  begun classes c label (p ∷ ps) behind front back replies ms there lb lr lh f b m = absurd (omega (arith, lb))
  begun classes c label [] (p ∷ ps) front back replies ms there lb lr lh f b m = absurd (omega (arith, lh))
  begun classes c label [] [] front back (n ∷ ns) ms there lb lr lh f b m = absurd (omega (arith, lr))
