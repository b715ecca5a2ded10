use Rattle.std.proofs.Common.{◌≡◌, ◌++◌, true, false, List, length, take}
use Rattle.style_rules.specs.Lines.{Line}
use Rattle.network_demand.specs.Asked.{locals_of}
use Rattle.network_demand.specs.Books.{HaveLines}
use Rattle.network_demand.specs.Demands.{AreFed, style_lines}
use Rattle.network_demand.specs.Fits.{FindRoom}
use Rattle.network_demand.proofs.Rooms.{AreLeft}
use Rattle.network_demand.proofs.ends.charge_style.Given as goal

-- the sessions so far are charged; they found room, or there is none for all
abbrev pub invariant-loop-session : goal.invariant-loop-session
invariant-loop-session g l =
    record {
      ends : length l.books.items ≡ length l.routing.ends;
      fed : AreFed (locals_of l.locals) l.books.items;
      lines : (fed : List Line) → HaveLines fed l.initial.books.items → HaveLines (fed ++ style_lines g.S.Style.kind_is l.routing (locals_of l.locals) l.order
          (take l.session-index l.sessions)) l.books.items;
      nodes : length l.lines.items ≡ l.routing.nodes;
      room : l.fits ≡ true → AreLeft g.S.Style.kind_is l.routing (locals_of l.locals) l.order (take l.session-index l.sessions) l.lines.items;
      full : l.fits ≡ false → FindRoom g.S.Style.kind_is l.routing (locals_of l.locals) l.order l.sessions → ⊥;
    }
