use Rattle.least_cert.proofs.Common.{Adds, Entry, OfFirst, OfHolder, OfOther, [], label_of}
use Rattle.least_cert.proofs.boot.gathered.Given as goal

abbrev pub invariant-loop-place : goal.invariant-loop-place
invariant-loop-place l = record {
  nodes : Adds (OfFirst (λ place (entry : Entry). OfHolder l.spec l.labels.by_object (label_of l.labels.by_object place)
      entry.object) l.spec.entries l.place) [] l.sources.nodes.items;
  others : Adds (OfFirst (λ place (entry : Entry). OfOther l.spec l.labels.by_object (label_of l.labels.by_object place)
      entry.object) l.spec.entries l.place) [] l.sources.others.items;
}
