use Rattle.adl_settings.proofs.Common.{List, [], ap, append_assoc, drop_first, end_settings, filter, flat_map, map, noted, subst, sym, ◌++◌, ◌<◌, ◌∙◌, ◌∷◌, ◌≡◌, length, get_or}
use Rattle.adl_meaning.proofs.Noting.{noted_mapped}
use Rattle.adl_settings.proofs.SettleCommon.{drop, found_on, ◌+◌}
use Rattle.adl_settings.specs.DeviceOverlap.{regions_in}
use Rattle.adl_settings.specs.IrqTwice.{irqs_in}
use Rattle.adl_settings.proofs.JudgedEnds.{faults_judged, irqs_judged, regions_judged}
use Rattle.adl_settings.specs.Judged.{is_judged}
use Rattle.adl_settings.specs.SettingFaults.{faults_on}
use Rattle.adl_settings.proofs.search.Lookup.settle_ends.Goals as goal

-- one connection more
module _ {X : Type 0} (x : X) (left rest : List X) (e : left ≡ x ∷ rest) where
  all_added : {Y : Type 0} (g : X → List Y) (old new : List Y) → new ≡ old ++ g x
      → new ++ flat_map g rest ≡ old ++ flat_map g left
  all_added g old new n =
      ap (λ z. z ++ flat_map g rest) n ∙ append_assoc old (g x) (flat_map g rest) ∙ ap (λ z. old ++ flat_map g z) (sym e)

  one_added : {Y : Type 0} (g : X → Y) (old new : List Y) → new ≡ old ++ g x ∷ [] → new ++ map g rest ≡ old ++ map g left
  one_added g old new n =
      ap (λ z. z ++ map g rest) n ∙ append_assoc old (g x ∷ []) (map g rest) ∙ ap (λ z. old ++ map g z) (sym e)

pub loop-connection-preserved : goal.loop-connection-preserved
loop-connection-preserved c =
    let f = found_on c.args.self.now c.args.source.now c.args.flat.now in
    let ks = c.args.flat.now.connections in
    let l = c.loop-connection in
    let i = l.connection-index in
    let k = c.connection-item.result in
    let all = c.as_slice-connection-items.ensures in
    let less = subst (λ z. i < length z) all c.loop-connection-test.true in
    let here = subst (λ z. k ≡ get_or z i k) all c.connection-item.is in
    let rest = map f (drop (i + 1) ks) in
    let next = ap (map f) (drop_first ks i k less here) in
    let found = ap (λ h. found_on h c.args.source.now c.args.flat.now k) l.invariant.same in
    let judged = c.as_slice.ensures.value ∙ c.in_ok-ends.ensures.judged ∙ ap (filter is_judged) found in
    let a = c.in_ok-add.ensures in
    record {
      settings =
          one_added (f k) (map f (drop i ks)) rest next end_settings l.settings.items c.push.new.self.items
          (c.in_ok-push.ensures.items
          ∙ ap (λ v. l.settings.items ++ v ∷ []) (c.in_ok-ends.ensures.settings ∙ ap end_settings found))
          ∙ l.invariant.settings;
      first =
          noted_mapped faults_on f c.add.new.self.first l.judged.first ks i k less here
          (a.first ∙ ap (noted l.judged.first) (ap faults_on judged ∙ faults_judged (f k))) ∙ l.invariant.first;
      regions =
          all_added (f k) (map f (drop i ks)) rest next regions_in l.judged.regions.items c.add.new.self.regions.items
          (a.regions ∙ ap (λ z. l.judged.regions.items ++ z) (ap regions_in judged ∙ regions_judged (f k))) ∙ l.invariant.regions;
      irqs =
          all_added (f k) (map f (drop i ks)) rest next irqs_in l.judged.irqs.items c.add.new.self.irqs.items
          (a.irqs ∙ ap (λ z. l.judged.irqs.items ++ z) (ap irqs_in judged ∙ irqs_judged (f k))) ∙ l.invariant.irqs;
      same = c.in_ok-ends.ensures.same ∙ l.invariant.same;
    }
