-- What a source is assigned is what listing answers.
use Rattle.source_commands.proofs.Common.{Contents, Edge, FrontEnd, IsAssigned, IsFrontOf, IsListing, IsListingOf, IsPolicyOf, IsSorted, List, Listing, Source, [], ap, arith, flat_of, from_ones, gather, get_or, label_texts}
use Rattle.source_commands.proofs.Common.{slice_get-get_or, source_tables, subst, sym, ℕ, ◌<◌, ◌∙◌, ◌∷◌, ◌≡◌}
use Rattle.cap_model.specs.Policies.{NumbersDiffer}
use Rattle.cap_model.specs.declared.policy.Policy.{Policy}

-- ---- labels that are numbered by their places

numbers_differ : (ts : List (List ℕ)) → NumbersDiffer (gather (λ n t. (n, t) ∷ []) ts)
numbers_differ ts i j d less within =
    let xs : List (ℕ × List ℕ) = gather (λ n t. (n, t) ∷ []) ts in
    let a = from_ones (λ n t. (n, t)) ts i (get_or xs i d) (slice_get-get_or xs i d (omega (arith, less, within))) in
    let b = from_ones (λ n t. (n, t)) ts j (get_or xs j d) (slice_get-get_or xs j d within) in
    let p : i ≡ (get_or xs i d).0 = ap (λ (l : ℕ × List ℕ). l.0) a.2 in
    let q : j ≡ (get_or xs j d).0 = ap (λ (l : ℕ × List ℕ). l.0) b.2 in
    λ e. absurd (omega (arith, less, p, q, e))

pub lines_differ : (s : Source) (p : Policy) → IsAssigned s p → NumbersDiffer p.labels
lines_differ s p is = subst NumbersDiffer (sym is.labels) (numbers_differ (label_texts (flat_of s)))

-- ---- of a root

lists : (s : Source) (p : Policy) (l : Listing) → IsAssigned s p → l.names ≡ p.labels → l.edges ≡ p.edges → IsListingOf s l
lists s p l is names edges = record {
  names = names ∙ is.labels;
  edges = subst (λ (z : List Edge). IsPolicyOf (source_tables s) z) (sym edges) is.edges;
  sorted = subst IsSorted (sym edges) is.sorted;
}

pub front_listed : (root : List ℕ) (contents : Contents) (f : FrontEnd) (l : Listing) → IsFrontOf root contents f
    → l.names ≡ f.policy.labels → l.edges ≡ f.policy.edges → IsListing root contents l
front_listed root contents f l front names edges = record {
  source = f.source;
  loaded = front.loaded;
  none = front.none;
  listed = lists f.source f.policy l front.assigned names edges;
}
