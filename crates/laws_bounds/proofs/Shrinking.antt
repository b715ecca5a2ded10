-- Fewer facts, smaller book.
use Rattle.std.specs.Prelude.{◌≡◌, ℕ, ◌≤◌, Some, refl}
use Rattle.std.proofs.Common.{sym, ap, subst, ◌∙◌, arith}
use Rattle.rsvp_base.specs.declared.part.Part.{Part}
use Rattle.rsvp_base.specs.declared.style.StyleKind.{StyleKind}
use Rattle.rsvp_base.specs.Members.{In}
use Rattle.rsvp_base.specs.Table.{get}
use Rattle.rsvp_base.specs.TokenBucket.{TokenBucket, IsSound}
use Rattle.rsvp_base.proofs.Counts.{found_in, in_found}
use Rattle.rsvp_base.proofs.Members.{in_each, to_each}
use Rattle.rsvp_base.proofs.SetLaws.{size_within}
use Rattle.rsvp_base.specs.Orders.{senders}
use Rattle.style_rules.specs.FlowOrder.{IsAtMost}
use Rattle.style_rules.specs.Limits.{IsWithinLimits}
use Rattle.style_rules.specs.Lines.{AreUnder, IsUnder, Line, LineKey, at_end, held, line_key, line_keys}
use Rattle.rsvp_base.specs.declared.entry_key.EntryKey.{EntryKey}
use Rattle.style_rules.specs.PartLaws.{most_below, part_at_most_itself}
use Rattle.style_rules.specs.Parts.{IsPartAtMost}
use Rattle.style_rules.proofs.Books.{book_below, held_at_end_below, under_at_end}
use Rattle.style_rules.proofs.Room.{within_below}
use Rattle.style_rules.proofs.StyleLaws.{within_style, within_unit}
use Rattle.router_rules.specs.Books.{book, line_of, lines, lines_of}
use Rattle.router_rules.specs.Bounds.{AreBooked}
use Rattle.router_rules.specs.Facts.{Facts, Resvs, ResvState, resvs_of}
use Rattle.router_rules.specs.NodeConfig.{NodeConfig}
use Rattle.laws_bounds.proofs.Requesting.{lines_told, to_lines}
use Rattle.router_rules.specs.Steps.{AreFewer, IsLeftOf}
use Rattle.laws_bounds.specs.BoundLaws.{FewerFactsSmallerBook, ResvsAreShaped}

-- ---- lines of a table
pub table_lines_told : (st : StyleKind) (t : Resvs) (l : Line) → In l (lines_of st t) → (k : LineKey) × (r : ResvState) × (get t k ≡ Some r) × (l ≡ line_of st (k, r))
table_lines_told st t l i = let e = in_each (line_of st) l t.rows i in (e.0.0, e.0.1, in_found line_keys t e.0.0 e.0.1 e.1, e.2)

pub to_table_lines : (st : StyleKind) (t : Resvs) (k : LineKey) (r : ResvState) → get t k ≡ Some r → In (line_of st (k, r)) (lines_of st t)
to_table_lines st t k r g = to_each (line_of st) (k, r) t.rows (found_in line_keys t k r g)

-- ---- what is left
left_at_most : (r x : ResvState) → IsLeftOf r x → IsPartAtMost x.part r.part
left_at_most r x h = record { names = h.names; flow = subst (λ (z : TokenBucket). IsAtMost z r.part.flow) (sym h.flow) (part_at_most_itself r.part).flow }

-- a line with a smaller part of the same key
pub line_under : (st : StyleKind) (k : LineKey) (r x : ResvState) (l : Line) → IsPartAtMost x.part r.part → l ≡ line_of st (k, x) → IsUnder l (line_of st (k, r))
line_under st k r x l less is =
    record { style = ap (λ (z : Line). z.style) is; key = ap line_key is; part = subst (λ (z : Part). IsPartAtMost z r.part) (sym (ap (λ (z : Line). z.part) is)) less }

module _ (f g : Facts) (less : AreFewer f g) where
  pub lines_under : AreUnder (lines g) (lines f)
  lines_under l i =
      let t = lines_told g l i in
      let r = less t.style t.key t.resv t.there in (
        line_of t.style (t.key, r.0),
        to_lines f (line_of t.style (t.key, r.0)) (record { style = t.style; key = t.key; resv = r.0; there = r.1; is = refl }),
        line_under t.style t.key r.0 t.resv l (left_at_most r.0 t.resv r.2) t.is,
      )

  table_under : (st : StyleKind) → AreUnder (lines_of st (resvs_of st g)) (lines_of st (resvs_of st f))
  table_under st l i =
      let t = table_lines_told st (resvs_of st g) l i in
      let r = less st t.0 t.1 t.2 in
      (line_of st (t.0, r.0), to_table_lines st (resvs_of st f) t.0 r.0 r.1, line_under st t.0 r.0 t.1 l (left_at_most r.0 t.1 r.2) t.3)

  pub fewer_shapes : (p : NodeConfig) → ResvsAreShaped p f → ResvsAreShaped p g
  fewer_shapes p shaped st k x e =
      let r = less st k x e in
      let s = shaped st k r.0 r.1 in
      let few = size_within senders x.part.senders r.0.part.senders r.2.names in
      let most = s.names in
      record {
        iface = s.iface;
        style = within_style st r.0.part x.part s.style r.2.named r.2.names;
        unit = s.unit ∙ sym (within_unit st r.0.part x.part s.style r.2.named r.2.names);
        names = omega (arith, few, most);
        flow = subst IsSound (sym r.2.flow) s.flow;
      }

  pub fewer_limits : (st : StyleKind) → IsWithinLimits st (lines_of st (resvs_of st f)) → IsWithinLimits st (lines_of st (resvs_of st g))
  fewer_limits st w = within_below st (lines_of st (resvs_of st g)) (lines_of st (resvs_of st f)) (table_under st) w

  pub fewer_held : (i : ℕ) → held (book g i) ≤ held (book f i)
  fewer_held i = held_at_end_below i (lines g) (lines f) lines_under

  pub fewer_entries : (i : ℕ) (k : EntryKey) (x : Part) → get (book g i) k ≡ Some x → (y : Part) × (get (book f i) k ≡ Some y) × IsPartAtMost x y
  fewer_entries i k x e = book_below (at_end i (lines g)) (at_end i (lines f)) (under_at_end i (lines g) (lines f) lines_under) k x e

  pub fewer_booked : (p : NodeConfig) → AreBooked p f → AreBooked p g
  fewer_booked p w =
      record {
        capacity = λ i on e. let less = fewer_held i in let most = w.capacity i on e in omega (arith, less, most);
        mtu = λ i on k part e h. let y = fewer_entries i k part h in let less = most_below part y.0 y.2 in let most = w.mtu i on k y.0 e y.1 in omega (arith, less, most);
      }

pub fewer_facts_smaller_book : FewerFactsSmallerBook
fewer_facts_smaller_book =
    record {
      shapes = λ p f g less shaped. fewer_shapes f g less p shaped;
      limits = λ f g less st w. fewer_limits f g less st w;
      sum = λ f g less i. fewer_held f g less i;
      entries = λ f g less i k x e. fewer_entries f g less i k x e;
      booked = λ p f g less w. fewer_booked f g less p w;
    }
