use Rattle.std.proofs.Common.{length, sym, ap, ◌∙◌, arith}
use Rattle.router_rules.specs.Facts.{Facts, resvs_of}
use Rattle.router_state.specs.State.{facts_of}
use Rattle.router_state.specs.Whole.{state_of}
use Rattle.router_state.specs.declared.tables.Tables.{Tables}
use Rattle.rsvp_base.specs.Table.{get}
use Rattle.router_arrivals.proofs.Here.{resvs_changed}
use Rattle.router_arrivals.proofs.TornDown.{tear_away}
use Rattle.router_arrivals.proofs.resvs.tear_resvs.Goals as goal

pub tear_resv-heard-requires : goal.tear_resv-heard-requires
tear_resv-heard-requires c = c.requires.booked

pub returns-clause-change : goal.returns-clause-change
returns-clause-change c = λ said x.
    let rest = sym c.tear_resv-heard.ensures.rest in
    let n = state_of c.args.tables.now said in
    let p = c.args.message.now in
    let facts = sym (c.tear_resv-heard.ensures.facts 0 said) in
    resvs_changed (p.session, x) n (state_of c.tear_resv-heard.new.tables said)
    (λ st q off. tear_away c.args.iface p (facts_of 0 n) st q off ∙ ap (λ (f : Facts). get (resvs_of st f) q) facts)
    (ap (λ (t : Tables). t.config) rest) (ap (λ (t : Tables). t.senders.tspecs) rest) (ap (λ (t : Tables). t.senders.advertised) rest) (ap (λ (t : Tables). t.paths.facts) rest) (ap (λ (t : Tables). t.wants) rest) (ap (λ (t : Tables). t.walls) rest)
    (c.look.ensures said) (c.look-2.ensures said)

pub returns-clause-sound : goal.returns-clause-sound
returns-clause-sound c =
    record {
      pulled = c.tear_resv-heard.ensures.pulled c.requires.pulled;
      booked = c.tear_resv-heard.ensures.booked;
      few = omega (arith, ap length c.tear_resv-heard.ensures.ifaces, c.requires.few);
    }
