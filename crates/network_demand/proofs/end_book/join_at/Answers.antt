use Rattle.std.proofs.Common.{◌≡◌, ◌∙◌, Some, map as each, refl, sym, ap, arith}
use Rattle.std.specs.FinMap.Entries.{find, put}
use Rattle.rsvp_base.specs.declared.part.Part.{Part}
use Rattle.rsvp_base.specs.declared.entry_key.EntryKey.{EntryKey}
use Rattle.style_rules.specs.Parts.{part_join}
use Rattle.style_rules.specs.PartLaws.{same_part}
use Rattle.rsvp_base.specs.Orders.{entry_keys}
use Rattle.network_demand.specs.Books.{book_row, joined_with}
use Rattle.network_demand.proofs.end_book.join_at.Goals as goal

pub index-requires : goal.index-requires
index-requires g c = let stands = c.requires.there c.in-Ok.at c.in-Ok.is in omega (arith, stands.within)

pub join-joined-requires : goal.join-joined-requires
join-joined-requires g c =
    let stands = c.requires.there c.in-Ok.at c.in-Ok.is in
    c.requires.room c.index.result.now.1 (stands.found c.index.result.now ∙ ap (λ (r : EntryKey × Part). Some r.1) (sym c.index.ensures))

pub index_mut-requires : goal.index_mut-requires
index_mut-requires g c = let stands = c.requires.there c.in-Ok.at c.in-Ok.is in omega (arith, stands.within)

pub returns-in-Ok-clause-rows : goal.returns-in-Ok-clause-rows
returns-in-Ok-clause-rows g c =
    let stands = c.requires.there c.in-Ok.at c.in-Ok.is in
    let q : Part = c.index.result.now.1 in
    let p : Part = c.args.part.now in
    let rows = each book_row c.args.rows.now.items in
    let found : find entry_keys.cmp c.args.key rows ≡ Some q = stands.found c.index.result.now ∙ ap (λ (r : EntryKey × Part). Some r.1) (sym c.index.ensures) in
    let law : g.S.Style.joined q p ≡ part_join q p = same_part _ _ (g.met.S.Style.senders_of_join q p) (g.met.S.Style.flow_of_join q p) in
    let is : c.join-joined.result ≡ joined_with (find entry_keys.cmp c.args.key rows) p = c.join-joined.ensures ∙ law ∙ sym (ap (λ o. joined_with o p) found) in
    sym (stands.replaced (c.args.key, c.join-joined.result) c.join-joined.result refl) ∙ ap (λ v. put entry_keys.cmp c.args.key v rows) is
