use Rattle.std.proofs.Common.{◌≡◌, [], ◌∷◌, ◌++◌, Some, sym, ap, ◌∙◌}
use Rattle.style_rules.specs.Parts.{part_cut}
use Rattle.style_rules.specs.Tally.{tally_of, names_of_tally}
use Rattle.resv_state.specs.Merging.{names_by, names_via, request_of, one_of}
use Rattle.resv_state.proofs.Merged.{left_within_names, cut_room}
use Rattle.std.proofs.lemmas.List.{append-nil}
use Rattle.resv_state.proofs.merging.add_cut.Goals as goal

pub add-requires : goal.add-requires
add-requires g c =
    cut_room (names_of_tally c.args.merger.now) (names_via c.args.up.now) c.in-Some.left.senders
    (left_within_names c.args.up.now c.args.iface c.args.part.now c.in-Some.left (sym c.cut_by.ensures ∙ c.in-Some.is)) c.requires

pub returns-in-Some : goal.returns-in-Some
returns-in-Some g c = λ rs e.
    let is : part_cut c.args.part.now (names_by c.args.iface c.args.up.now) ≡ Some c.in-Some.left = sym c.cut_by.ensures ∙ c.in-Some.is in
    c.add.ensures.list rs e ∙ ap (λ b. tally_of g.S.Style.kind_is (rs ++ record { part = c.in-Some.left; blockaded = b } ∷ [])) c.is_blockaded-walled.ensures
    ∙ ap (λ w. tally_of g.S.Style.kind_is (rs ++ one_of (request_of c.args.up.now w))) (sym is)

pub returns-in_default : goal.returns-in_default
returns-in_default g c = λ rs e.
    e ∙ ap (tally_of g.S.Style.kind_is) (sym (append-nil rs)) ∙ ap (λ w. tally_of g.S.Style.kind_is (rs ++ one_of (request_of c.args.up.now w))) (sym c.in_default.is ∙ c.cut_by.ensures)
