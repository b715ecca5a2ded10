use Rattle.std.proofs.Common.{◌≡◌, ◌++◌, List, length, take}
use Rattle.rsvp_base.specs.declared.part.Part.{Part}
use Rattle.rsvp_base.specs.declared.style.Unit.{Unit as UnitOf}
use Rattle.rsvp_base.specs.Members.{In}
use Rattle.rsvp_base.specs.Orders.{Names}
use Rattle.rsvp_base.specs.Sets.{IsWithin}
use Rattle.style_rules.specs.Lines.{Line}
use Rattle.tree_model.specs.Networks.{Net}
use Rattle.network_demand.specs.declared.hop_want.HopWant.{HopWant}
use Rattle.network_demand.specs.Books.{HaveLines, NameOnly, wants_lines}
use Rattle.network_demand.proofs.charging.charge_wants.Given as goal

-- the wants so far are charged
abbrev pub invariant-loop-want : goal.invariant-loop-want
invariant-loop-want g l =
    record {
      size : length l.books.items ≡ length l.initial.books.items;
      lines : (fed : List Line) (net : Net) → HaveLines fed l.initial.books.items → HaveLines (fed ++ wants_lines g.S.Style.kind_is l.session net (take l.want-index l.wants)) l.books.items;
      names : (all : Names) → NameOnly g.S.Style.kind_is l.session all l.initial.books.items → ((w : HopWant) (e : UnitOf × Part) → In w l.wants → In e w.parts.rows → IsWithin e.1.senders all)
          → NameOnly g.S.Style.kind_is l.session all l.books.items;
    }
