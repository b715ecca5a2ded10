-- Heads: where a session's head stands.
use Rattle.std.proofs.Common.{◌≡◌, List, map as each, None, ap}
use Rattle.std.specs.FinMap.Entries.{find}
use Rattle.rsvp_base.specs.Orders.{sessions}
use Rattle.rsvp_base.specs.Rows.{AreRows, table_of}
use Rattle.rsvp_base.specs.declared.session.Session.{Session}
use Rattle.rsvp_base.proofs.Tables.{without_absent}
use Rattle.soft_table.specs.declared.heads.Head.{Head}
use Rattle.soft_table.specs.Lists.{head_row, led}

pub none_led : (heads : List Head) (s : Session) → AreRows sessions head_row heads → find sessions.cmp s (each head_row heads) ≡ None → led s None (each head_row heads) ≡ each head_row heads
none_led heads s up none = ap (λ t. t.rows) (without_absent sessions (table_of sessions head_row heads up) s none)
