use Rattle.std.proofs.Common.{◌≡◌, ◌++◌, List, length, take}
use Rattle.rsvp_base.specs.declared.addr.Addr.{Addr}
use Rattle.rsvp_base.specs.declared.part.Part.{Part}
use Rattle.rsvp_base.specs.declared.style.Unit.{Unit as UnitOf}
use Rattle.rsvp_base.specs.Members.{In}
use Rattle.rsvp_base.specs.Orders.{Names}
use Rattle.rsvp_base.specs.Sets.{IsWithin}
use Rattle.style_rules.specs.Lines.{Line}
use Rattle.network_demand.specs.Books.{HaveLines, NameOnly}
use Rattle.network_demand.proofs.BookLaws.{rows_lines}
use Rattle.network_demand.proofs.charging.charge_want.Given as goal

-- the lines so far are charged
abbrev pub invariant-loop-row : goal.invariant-loop-row
invariant-loop-row g l =
    record {
      size : length l.books.items ≡ length l.initial.books.items;
      lines : (fed : List Line) (next : Addr) → HaveLines fed l.initial.books.items → HaveLines
          (fed ++ rows_lines g.S.Style.kind_is l.session l.want.hop.from next (take l.row-index l.row-items)) l.books.items;
      names : (all : Names) → NameOnly g.S.Style.kind_is l.session all l.initial.books.items → ((e : UnitOf × Part) → In e l.want.parts.rows → IsWithin e.1.senders all)
          → NameOnly g.S.Style.kind_is l.session all l.books.items;
    }
