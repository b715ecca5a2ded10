use Rattle.std.proofs.Common.{◌≡◌, length, ap, ◌∙◌, arith}
use Rattle.rsvp_base.specs.Table.{size}
use Rattle.soft_table.specs.Lists.{sessions_of}
use Rattle.soft_table.proofs.Inserts.{heads_counted}
use Rattle.soft_table.proofs.session_lists.SessionLists.sessions.Goals as goal

pub returns : goal.returns
returns g c =
    let s = c.self.inside in
    let heads : c.len.result ≡ length s.heads.items = omega (arith, c.len.ensures) in
    heads ∙ heads_counted g.O.RestOrder.rests s.keys.items s.slots.slots s.heads.items c.self.invariant.0 ∙ ap (λ v. size (sessions_of v.rows)) c.self.view_is
