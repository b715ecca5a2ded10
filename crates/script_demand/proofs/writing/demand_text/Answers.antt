use Rattle.std.proofs.Common.{◌≡◌, ◌++◌, ◌∙◌, subst, sym, length}
use Rattle.std.specs.List.{flat_map, range_with_len}
use Rattle.network_demand.specs.Asked.{locals_of}
use Rattle.network_demand.specs.Demands.{AreDemands}
use Rattle.script_demand.specs.Owing.{end_owes}
use Rattle.network_model.specs.DemandTexts.{last_line}
use Rattle.script_demand.proofs.Owed.{owed_is_demanded}
use Rattle.script_demand.proofs.writing.demand_text.Goals as goal

pub returns : goal.returns
returns c =
    let names = c.args.names.now in
    let net = c.args.routing.now in
    let l = locals_of c.args.locals.now in
    let are : AreDemands net l c.as_slice.result.now = subst (AreDemands net l) (sym c.as_slice.ensures.value) c.in_ok-demand.ensures.ends in
    let owes : c.put_ends.new.out.items ≡ flat_map (end_owes names net.ends c.as_slice.result.now) (range_with_len 0 (length net.ends)) =
    c.in_ok-put_ends.ensures ∙ (λ i. c.new-text.ensures.items i ++ flat_map (end_owes names (c.ends.ensures.ends i) c.as_slice.result.now) (range_with_len 0 (length (c.ends.ensures.ends i)))) in
    record {
      fits = c.in_ok-demand.demand.fits;
      told = c.in_ok-demand.ensures.fits;
      text_is = c.in_ok-put_last.ensures ∙ (λ i. (owes ∙ owed_is_demanded names net l c.as_slice.result.now are) i ++ last_line (c.longest.ensures i) c.in_ok-demand.demand.fits);
    }
