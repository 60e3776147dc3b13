-- How many pages and page tables there are, where no limit on them is passed.
use Rattle.spec_laws.proofs.Common.{Assembly, Given, ItemAt, None, [], assemblies, first_page_limit, least-empty, none_left, none_right, not_passed, page_counts, rules, sum, table_counts, ◌∙◌, ◌∷◌, ◌≡◌, ◌≤◌}

-- all domains together have at most so many pages, and so many page tables
pub record AreFewPages (g : Given) : Type 0 where
  pub pages : sum (page_counts g) ≤ 65536
  pub tables : sum (table_counts g) ≤ 65536

pub few_pages : (g : Given) (a : ItemAt × Assembly) → assemblies g.source ≡ a ∷ [] → first_page_limit g ≡ None → AreFewPages g
few_pages g a one none = search (rules, least-empty, none_left, not_passed, none_right)
