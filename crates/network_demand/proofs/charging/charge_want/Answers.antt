use Rattle.std.proofs.Common.{◌≡◌, ◌∙◌, ◌++◌, ◌<◌, List, length, take, ap, sym, subst, inl, refl, arith}
use Rattle.std.proofs.Math.Seq.{take-length}
use Rattle.rsvp_base.specs.Members.{In}
use Rattle.rsvp_base.specs.declared.part.Part.{Part}
use Rattle.rsvp_base.specs.declared.style.Unit.{Unit as UnitOf}
use Rattle.style_rules.specs.Lines.{Line}
use Rattle.network_demand.specs.Books.{HaveLines}
use Rattle.network_demand.proofs.BookLaws.{rows_lines, row_line, rows_more, lines_more, names_more, room_for}
use Rattle.network_demand.proofs.Inside.{index_in}
use Rattle.network_demand.proofs.charging.charge_want.Goals as goal

pub charge_row-requires-clause-there : goal.charge_row-requires-clause-there
charge_row-requires-clause-there g c = let lt = c.requires.inside c.args.want.now (inl refl) in let size = c.loop-row.invariant.size in omega arith

pub charge_row-requires-clause-room : goal.charge_row-requires-clause-room
charge_row-requires-clause-room g c =
    let es = c.as_slice-row-items.result.now in
    let i = c.loop-row.row-index in
    let e : UnitOf × Part = c.row-item.result in
    let there : In e c.args.want.now.parts.rows = subst (λ (xs : List (UnitOf × Part)). In e xs) c.as_slice-row-items.ensures.rows
    (subst (λ (x : UnitOf × Part). In x es) (sym c.row-item.is) (index_in es i e c.loop-row-test.true)) in
    let room = c.requires.room in
    let parts = λ (x : UnitOf × Part) (j : In x c.args.want.now.parts.rows). room.parts c.args.want.now x (inl refl) j in
    λ q f. room_for g.S.Style.kind_is c.args.session room.all c.args.want.now.hop.from e.0 e.1 q c.loop-row.books.items room.few (c.loop-row.invariant.names room.all room.entries parts)
    (parts e there) f

pub loop-row-preserved : goal.loop-row-preserved
loop-row-preserved g c =
    let st = g.S.Style.kind_is in
    let s = c.args.session in
    let w = c.args.want.now in
    let es = c.as_slice-row-items.result.now in
    let i = c.loop-row.row-index in
    let e : UnitOf × Part = c.row-item.result in
    let there : In e w.parts.rows = subst (λ (xs : List (UnitOf × Part)). In e xs) c.as_slice-row-items.ensures.rows
    (subst (λ (x : UnitOf × Part). In x es) (sym c.row-item.is) (index_in es i e c.loop-row-test.true)) in
    let first = c.requires.inside w (inl refl) in
    let size = c.loop-row.invariant.size in
    let inside : w.hop.from < length c.loop-row.books.items = omega arith in
    record {
      size = c.in_ok-charge_row.ensures.size ∙ c.loop-row.invariant.size;
      lines = λ fed next have.
          subst (λ (ls : List Line). HaveLines ls c.charge_row.new.books.items) (sym (rows_more st s w.hop.from next es i e e fed c.loop-row-test.true c.row-item.is))
          (lines_more (fed ++ rows_lines st s w.hop.from next (take i es)) (row_line st s w.hop.from next e) c.loop-row.books.items c.charge_row.new.books.items
          (c.requires.room.named w e (inl refl) there) inside c.in_ok-charge_row.ensures.books (c.loop-row.invariant.lines fed next have));
      names = λ all only within.
          names_more st s all w.hop.from e.0 e.1 c.loop-row.books.items c.charge_row.new.books.items inside (within e there) c.in_ok-charge_row.ensures.books
          (c.loop-row.invariant.names all only within);
    }

pub returns-clause-lines : goal.returns-clause-lines
returns-clause-lines g c =
    let es = c.as_slice-row-items.result.now in
    let i = c.loop-row.row-index in
    let all : take i es ≡ c.args.want.now.parts.rows = ap (λ k. take k es) (let e : i ≡ length es = omega arith in e) ∙ take-length es ∙ c.as_slice-row-items.ensures.rows in
    λ fed next have. subst (λ (xs : List (UnitOf × Part)). HaveLines (fed ++ rows_lines g.S.Style.kind_is c.args.session c.args.want.now.hop.from next xs) c.loop-row.books.items) all
    (c.loop-row.invariant.lines fed next have)
