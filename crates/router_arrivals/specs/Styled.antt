-- Each reservation of a node stands under its key, in the table of its style.
use Rattle.resv_state.specs.Resvs.{AreOfStyle}
use Rattle.rsvp_base.specs.declared.style.StyleKind.{StyleKind}
use Rattle.router_state.specs.State.{State, table_in}

abbrev pub AreOfStyles : State → Type 0
AreOfStyles n = (st : StyleKind) → AreOfStyle st (table_in st n)
