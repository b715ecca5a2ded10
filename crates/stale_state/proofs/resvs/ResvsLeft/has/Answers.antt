use Rattle.std.proofs.Common.{is_some, sym, ap, subst, ◌∙◌}
use Rattle.std.specs.Prelude.{◌≡◌}
use Rattle.rsvp_base.specs.Table.{has}
use Rattle.rsvp_base.specs.declared.style.StyleKind.{StyleKind}
use Rattle.router_rules.specs.Facts.{table_of}
use Rattle.stale_state.specs.Tables.{tables_of}
use Rattle.stale_state.proofs.Looking.{resv_seen}
use Rattle.stale_state.proofs.resvs.ResvsLeft.has.Goals as goal

pub returns-in-Wild : goal.returns-in-Wild
returns-in-Wild c =
    subst (λ (s : StyleKind). c.is_some.result ≡ has (table_of s (tables_of c.args.self.now.wild.facts c.args.self.now.fixed.facts c.args.self.now.shared.facts))
    (c.args.session, ((c.args.iface, c.args.next), c.args.unit))) (sym c.in-Wild.is)
    (c.is_some.ensures ∙ ap is_some c.find.ensures.fact ∙ resv_seen c.args.self.now.wild.facts (c.args.session, ((c.args.iface, c.args.next), c.args.unit)))

pub returns-in-Fixed : goal.returns-in-Fixed
returns-in-Fixed c =
    subst (λ (s : StyleKind). c.is_some-in-Fixed.result ≡ has (table_of s (tables_of c.args.self.now.wild.facts c.args.self.now.fixed.facts c.args.self.now.shared.facts))
    (c.args.session, ((c.args.iface, c.args.next), c.args.unit))) (sym c.in-Fixed.is)
    (c.is_some-in-Fixed.ensures ∙ ap is_some c.find-in-Fixed.ensures.fact ∙ resv_seen c.args.self.now.fixed.facts (c.args.session, ((c.args.iface, c.args.next), c.args.unit)))

pub returns-in-Shared : goal.returns-in-Shared
returns-in-Shared c =
    subst (λ (s : StyleKind). c.is_some-in-Shared.result ≡ has (table_of s (tables_of c.args.self.now.wild.facts c.args.self.now.fixed.facts c.args.self.now.shared.facts))
    (c.args.session, ((c.args.iface, c.args.next), c.args.unit))) (sym c.in-Shared.is)
    (c.is_some-in-Shared.ensures ∙ ap is_some c.find-in-Shared.ensures.fact ∙ resv_seen c.args.self.now.shared.facts (c.args.session, ((c.args.iface, c.args.next), c.args.unit)))
