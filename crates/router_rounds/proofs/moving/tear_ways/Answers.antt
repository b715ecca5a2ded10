use Rattle.std.proofs.Common.{List, fold, sym, ap, ◌∙◌, arith}
use Rattle.std.specs.List.{flat_map}
use Rattle.std.proofs.lemmas.List.{take_all}
use Rattle.rsvp_base.specs.Table.{empty}
use Rattle.rsvp_base.specs.declared.session.Session.{Session}
use Rattle.rsvp_base.proofs.Filters.{flat_each}
use Rattle.router_aging.proofs.Offers.{told_more}
use Rattle.router_state.specs.Whole.{state_of}
use Rattle.router_rounds.specs.RouteRounds.{torn_ways}
use Rattle.router_rounds.specs.declared.nears.Near.{Near}
use Rattle.router_rounds.proofs.Loops.{all_sessions, session_of}
use Rattle.router_rounds.proofs.moving.tear_ways.Goals as goal

pub loop-i-preserved : goal.loop-i-preserved
loop-i-preserved g c = λ clock.
    let say = λ (e : Near). torn_ways (record c.args.tables.now.config { routes = c.args.old.now }) clock (state_of c.args.tables.now empty) e.session in
    c.tear_session.ensures clock ∙ told_more g.O.Outbox.posted say c.args.out.now c.loop-i.out c.as_slice-list.result.now c.loop-i.i _ c.loop-i-test.true (c.loop-i.invariant clock)

pub returns : goal.returns
returns g c = λ clock.
    let say = λ (s : Session). torn_ways (record c.args.tables.now.config { routes = c.args.old.now }) clock (state_of c.args.tables.now empty) s in
    c.loop-i.invariant clock ∙ ap (λ (es : List Near). fold g.O.Outbox.posted c.args.out.now (flat_map (λ (e : Near). say e.session) es))
    (take_all c.loop-i.i c.as_slice-list.result.now (omega (arith, c.loop-i-test.false)))
    ∙ ap (fold g.O.Outbox.posted c.args.out.now) (sym (flat_each session_of say c.as_slice-list.result.now)
    ∙ ap (flat_map say) (all_sessions c.args.nears.now c.as_slice-list.result.now c.as_slice-list.ensures.rows))
