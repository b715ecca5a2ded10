use Rattle.std.proofs.Common.{Some, sym, ap, ◌∙◌}
use Rattle.rsvp_base.specs.Table.{changed, get}
use Rattle.rsvp_base.specs.declared.style.Unit.TheVariants.{One}
use Rattle.resv_state.specs.declared.fact.ResvFact.{ResvFact}
use Rattle.style_rules.specs.Lines.{NextHop}
use Rattle.router_rules.specs.Asking.{names_one, torn_resvs}
use Rattle.router_state.specs.State.{resv_at}
use Rattle.resv_admission.proofs.Tearing.{all_names, found_fact, no_fact, none_of_hop, one_name_of_all}
use Rattle.resv_admission.proofs.leaving.tear_all.Goals as goal

pub returns-in-Some-clause-had : goal.returns-in-Some-clause-had
returns-in-Some-clause-had c b =
    let m = c.args.table.now.facts in
    let hop : NextHop = (c.args.iface, c.args.next) in
    let e = found_fact (get m (c.args.session, (hop, One))) c.in-Some.fact (sym c.in-Some.is ∙ c.find.ensures.fact) in
    c.tear_names.ensures.had b ∙ ap (λ (f : ResvFact). names_one c.args.session hop (Some f.part.senders) (changed (resv_at b) m)) (sym e.2)
    ∙ one_name_of_all m c.find.ensures.style c.args.session hop b e.0 e.1

pub returns-in-Some-clause-table : goal.returns-in-Some-clause-table
returns-in-Some-clause-table c b =
    let m = c.args.table.now.facts in
    let hop : NextHop = (c.args.iface, c.args.next) in
    let e = found_fact (get m (c.args.session, (hop, One))) c.in-Some.fact (sym c.in-Some.is ∙ c.find.ensures.fact) in
    c.tear_names.ensures.table b ∙ ap (λ (f : ResvFact). torn_resvs c.tear_names.result c.args.session hop (Some f.part.senders) (changed (resv_at b) m)) (sym e.2)
    ∙ all_names m c.find.ensures.style c.args.session hop b e.0 e.1 c.tear_names.result

pub returns-in-None-clause-had : goal.returns-in-None-clause-had
returns-in-None-clause-had c b =
    let m = c.args.table.now.facts in
    let hop : NextHop = (c.args.iface, c.args.next) in
    none_of_hop m c.find.ensures.style c.args.session hop b (no_fact (get m (c.args.session, (hop, One))) (sym c.in-None.is ∙ c.find.ensures.fact))
