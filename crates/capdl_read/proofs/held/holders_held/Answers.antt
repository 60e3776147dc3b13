use Rattle.capdl_read.proofs.Common.{Holder, arith, noted_each, off_in, slot_said, spread_found, unknown_in, ◌∙◌}
use Rattle.capdl_read.proofs.Repeating.{names_more}
use Rattle.capdl_read.proofs.Tables.{slots_put}
use Rattle.capdl_read.proofs.held.holders_held.Goals as goal

pub loop-holder-preserved : goal.loop-holder-preserved
loop-holder-preserved c = record {
  unknown = noted_each (unknown_in (spread_found c.args.known.now)) _ _ c.args.holders.now c.loop-holder.holder-index
      c.holder-item.result (omega arith) c.holder-item.is c.in_ok-slots.ensures.unknown ∙ c.loop-holder.invariant.unknown;
  kind = noted_each (off_in c.args.arch (spread_found c.args.known.now)) _ _ c.args.holders.now c.loop-holder.holder-index
      c.holder-item.result (omega arith) c.holder-item.is c.in_ok-slots.ensures.kind ∙ c.loop-holder.invariant.kind;
  said = λ n.
      slots_put (slot_said (spread_found c.args.known.now)) _ (spread_found c.loop-holder.table n) _ c.args.holders.now
      c.loop-holder.holder-index c.holder-item.result n (omega arith) c.holder-item.is c.in_ok-slots.ensures.held
      (c.in_ok-meet_name.ensures.met n)
      ∙ c.loop-holder.invariant.said n;
  twice =
      names_more (λ (h : Holder). h.id) _ _ (spread_found c.meet_name.new.met) (spread_found c.loop-holder.table) _
      c.args.holders.now c.loop-holder.holder-index c.holder-item.result (omega arith) c.holder-item.is
      c.in_ok-meet_name.ensures.first c.in_ok-meet_name.ensures.met
      ∙ c.loop-holder.invariant.twice;
}
