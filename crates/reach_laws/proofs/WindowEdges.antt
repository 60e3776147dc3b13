-- The edges of page tables between different labels are what ends at memory are given directly.
use Rattle.reach_laws.proofs.Common.{Authority, Cap, Connector, DirectReason, EndAt, Frame, LeadsTo, List, ObjectKind, OfTable, Option, Read, Role, Spec, Tables, Write, ap, confers, edge, gives, implied, implies, inl, inr, kind_confers, leaf_label}
use Rattle.reach_laws.proofs.Common.{leaves, option_confers, over_object, refl, rules, subst, sym, true, true≢false, ℕ, ◌∙◌, ◌≡◌, ◌≢◌, ◌⊎◌}
use Rattle.adl_meaning.specs.declared.settled.EndSetting.{EndSetting}
use Rattle.cspace_layout.specs.Lookups.{setting_of}
use Rattle.reach_laws.specs.Windows.{HasPage, HasWindows, IsWindow, window_rights}

-- who may read may write, and the other way round: access alone tells them apart
reads_writes : (c : Connector) (r : Role) (o : ObjectKind) → gives c r o Read ≡ true → gives c r o Write ≡ true
reads_writes c r o h = implied (gives c r o Read) (gives c r o Write)
    (over_object (λ c r o. implies (gives c r o Read) (gives c r o Write)) refl c r o) h

writes_reads : (c : Connector) (r : Role) (o : ObjectKind) → gives c r o Write ≡ true → gives c r o Read ≡ true
writes_reads c r o h = implied (gives c r o Write) (gives c r o Read)
    (over_object (λ c r o. implies (gives c r o Write) (gives c r o Read)) refl c r o) h

-- what the rights on a frame of a window confer is what the table gives and access leaves
window_law : (c : Connector) (r : Role) (o : ObjectKind) (s : Option EndSetting) (a : Authority) → gives c r o Read ≡ true
    → kind_confers Frame (window_rights s) a ≡ true → (gives c r o a ≡ true) × (leaves s a ≡ true)
window_law c r o s Read h k = (h, k)
window_law c r o s Write h k = (reads_writes c r o h, k)
window_law c r o s _ h k = absurd (true≢false (sym k))

module _ (t : Tables) (spec : Spec) (labels : List ℕ) (w : HasWindows t spec labels) where
  confers_as : (x : EndAt t.flat) (o : ObjectKind) (p : ℕ) (cap : Cap) (a : Authority) → IsWindow t spec labels x o p cap
      → confers spec cap a ≡ kind_confers Frame (window_rights (setting_of t.settled x.place x.number)) a
  confers_as x o p cap a i = ap (λ k. option_confers k cap.rights a) i.frame ∙ ap (λ r. kind_confers Frame r a) i.rights

  pub table_direct : (l : ℕ) (a : Authority) (m : ℕ) → l ≢ m → OfTable spec labels l a m → DirectReason t (edge l a m)
  table_direct l a m differ (p, i, page, there, conf, from, to) =
      let g = w.only p i page there (λ e. differ (from ∙ e ∙ sym to)) in
      let x = g.0 in
      let law = window_law x.connection.connector x.end.role g.1 (setting_of t.settled x.place x.number) a g.2.memory
      (sym (confers_as x g.1 p page a g.2) ∙ conf) in
      record {
        at = x;
        object = g.1;
        given = law.0;
        left = law.1;
        from = from ∙ g.2.from;
        to = subst (λ z. LeadsTo t x g.1 z) (sym to) g.2.to;
      }

  page_edge : (x : EndAt t.flat) (o : ObjectKind) (l : ℕ) (a : Authority) (m : ℕ) → l ≡ leaf_label t x.end.leaf
      → HasPage t spec labels x o m → kind_confers Frame (window_rights (setting_of t.settled x.place x.number)) a ≡ true
      → OfTable spec labels l a m
  page_edge x o l a m from h k = search (rules, confers_as)

  -- Read and Write are given over memory
  pub direct_table : (l m : ℕ) (a : Authority) → (a ≡ Read) ⊎ (a ≡ Write) → DirectReason t (edge l a m)
      → OfTable spec labels l a m
  direct_table l m a (inl e) d = search (rules, page_edge)
  direct_table l m a (inr e) d = search (rules, page_edge, writes_reads)
