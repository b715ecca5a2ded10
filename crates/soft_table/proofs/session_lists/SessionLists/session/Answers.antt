use Rattle.std.proofs.Common.{◌<◌, length, refl, sym, ap, ◌∙◌, arith}
use Rattle.std.specs.Prelude.{slice_get}
use Rattle.std.specs.Option.{option_map}
use Rattle.std.proofs.lemmas.Option.{slice_get_read}
use Rattle.rsvp_base.specs.Table.{keys, size}
use Rattle.soft_table.specs.declared.heads.Head.{Head}
use Rattle.soft_table.specs.Lists.{Rows, sessions_of}
use Rattle.soft_table.proofs.Inserts.{heads_counted, heads_are}
use Rattle.soft_table.proofs.Under.{each_read}
use Rattle.soft_table.proofs.session_lists.SessionLists.session.Goals as goal

pub index-requires : goal.index-requires
index-requires g c =
    let s = c.self.inside in
    omega (arith, c.requires, heads_counted g.O.RestOrder.rests s.keys.items s.slots.slots s.heads.items c.self.invariant.0, ap (λ v. size (sessions_of v.rows)) c.self.view_is)

pub returns : goal.returns
returns g c =
    let s = c.self.inside in
    let counted = heads_counted g.O.RestOrder.rests s.keys.items s.slots.slots s.heads.items c.self.invariant.0 in
    let lt : c.args.k < length s.heads.items = omega (arith, c.requires, counted, ap (λ v. size (sessions_of v.rows)) c.self.view_is) in
    ap (λ (v : Rows _). slice_get (keys (sessions_of v.rows)) c.args.k) (sym c.self.view_is)
    ∙ ap (λ xs. slice_get xs c.args.k) (sym (heads_are g.O.RestOrder.rests s.keys.items s.slots.slots s.heads.items c.self.invariant.0))
    ∙ each_read (λ (h : Head). h.session) s.heads.items c.args.k ∙ ap (option_map (λ (h : Head). h.session)) (slice_get_read s.heads.items (length s.heads.items) c.args.k _ refl lt c.index.ensures)
