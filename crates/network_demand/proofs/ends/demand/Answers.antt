use Rattle.std.proofs.Common.{◌≡◌, ◌↔◌, true, ◌∙◌, ◌++◌, [], List, length, map, sym, subst, arith}
use Rattle.std.proofs.lemmas.Grind.{common_steps}
use Rattle.std.specs.List.{All}
use Rattle.rsvp_base.specs.Members.{In}
use Rattle.rsvp_base.specs.declared.session.Session.{Session}
use Rattle.rsvp_base.specs.declared.style.StyleKind.TheVariants.{Wild, Fixed, Shared}
use Rattle.rsvp_base.proofs.Members.{to_each}
use Rattle.tree_model.specs.declared.locals.LocalWant.{LocalWant}
use Rattle.style_rules.specs.Lines.{BookTable}
use Rattle.tree_model.specs.declared.hops.End.{End}
use Rattle.network_demand.specs.Asked.{locals_of}
use Rattle.network_demand.specs.Books.{HaveLines}
use Rattle.network_demand.specs.Demands.{style_lines}
use Rattle.network_demand.specs.Fits.{FindRoom, AreCarried, first_style}
use Rattle.network_demand.proofs.FitLaws.{fits_are}
use Rattle.network_demand.proofs.GoalLaws.{fed_first, nothing_first, demands_are}
use Rattle.network_demand.proofs.ends.demand.Goals.{then-wild, else-wild, then-fixed, else-fixed}
use Rattle.network_demand.proofs.ends.demand.Goals as goal

pub are_met-fits-requires-clause-sessions : goal.are_met-fits-requires-clause-sessions
are_met-fits-requires-clause-sessions c = λ w i.
    let there = to_each (λ (v : LocalWant). v.session) w c.as_slice.result.now (subst (λ (ws : List LocalWant). In w ws) (c.as_slice-5.ensures.value ∙ sym c.as_slice.ensures.value) i) in
    subst (λ (ss : List Session). In w.session ss) (sym c.as_slice-6.ensures.value) ((c.in_ok-sessions.ensures.all w.session).1 there)

pub charge_style-requires-clause-fed : goal.charge_style-requires-clause-fed
charge_style-requires-clause-fed c = fed_first (locals_of c.args.locals.now) (length c.ends.result.now) c.in_ok-ends.ends.items c.in_ok-ends.ensures

pub returns : goal.returns
returns c =
    let net = c.args.routing.now in
    let l = locals_of c.args.locals.now in
    let order = c.by_rank-order.result.now in
    let ss : List Session = c.in_ok-sessions.sessions.items in
    let w = c.charge_style.new.books.items in
    let f = c.charge_style-2.new.books.items in
    let s = c.charge_style-3.new.books.items in
    let these = subst (λ (ws : List LocalWant). (x : Session) → In x ss ↔ In x (map (λ (v : LocalWant). v.session) ws)) c.as_slice.ensures.value c.in_ok-sessions.ensures.all in
    let all : (c.if-fixed.are_met ≡ true) ↔ ((c.in_ok-wild.wild ≡ true) × ((c.in_ok-fixed.fixed ≡ true) × (c.in_ok-shared.shared ≡ true))) =
    elim c.if-wild.branch [
      | then-wild w ↦ elim c.if-fixed.branch [ then-fixed f ↦ grind (arith, common_steps) | else-fixed f ↦ grind (arith, common_steps) ]
      | else-wild w ↦ elim c.if-fixed.branch [ then-fixed f ↦ grind (arith, common_steps) | else-fixed f ↦ grind (arith, common_steps) ]
    ] in
    let first = subst (λ (xs : List Session). HaveLines ([] ++ style_lines Wild net l order xs) w) c.as_slice-2.ensures.value
    (c.in_ok-wild.ensures.lines [] (subst (HaveLines []) (sym c.in_ok-ends.ensures) (nothing_first (length c.ends.result.now)))) in
    let demands = demands_are net l order ss w f s c.by_rank-order.ensures these
    (λ fed have. subst (λ (xs : List Session). HaveLines (fed ++ style_lines Fixed net l order xs) f) c.as_slice-3.ensures.value (c.in_ok-fixed.ensures.lines fed have))
    (λ fed have. subst (λ (xs : List Session). HaveLines (fed ++ style_lines Shared net l order xs) s) c.as_slice-4.ensures.value (c.in_ok-shared.ensures.lines fed have)) first
    c.in_ok-shared.ensures.ends in
    let met_wants = subst (λ (ws : List LocalWant). (c.are_met-fits.result ≡ true) ↔ ((c.if-fixed.are_met ≡ true)
    × (All (λ w. first_style w.session w.style ws ≡ w.style) ws × AreCarried c.as_slice-7.result.now c.ends-2.result.now))) c.as_slice-5.ensures.value c.are_met-fits.ensures in
    let met_books = subst (λ (bs : List BookTable). (c.are_met-fits.result ≡ true) ↔ ((c.if-fixed.are_met ≡ true)
    × (All (λ w. first_style w.session w.style l.wants ≡ w.style) l.wants × AreCarried bs c.ends-2.result.now))) c.as_slice-7.ensures.value met_wants in
    let met = subst (λ (es : List End). (c.are_met-fits.result ≡ true) ↔ ((c.if-fixed.are_met ≡ true)
    × (All (λ w. first_style w.session w.style l.wants ≡ w.style) l.wants × AreCarried s es))) c.ends-2.ensures.ends met_books in
    record {
      ends = demands;
      fits =
          fits_are net l order ss s c.are_met-fits.result c.if-fixed.are_met c.in_ok-wild.wild c.in_ok-fixed.fixed c.in_ok-shared.shared c.ends.ensures.valid c.by_rank-order.ensures c.requires
          c.in_ok-sessions.ensures.once these demands
          met
          all
          (subst (λ (xs : List Session). (c.in_ok-wild.wild ≡ true) ↔ FindRoom Wild net l order xs) c.as_slice-2.ensures.value c.in_ok-wild.ensures.room)
          (subst (λ (xs : List Session). (c.in_ok-fixed.fixed ≡ true) ↔ FindRoom Fixed net l order xs) c.as_slice-3.ensures.value c.in_ok-fixed.ensures.room)
          (subst (λ (xs : List Session). (c.in_ok-shared.shared ≡ true) ↔ FindRoom Shared net l order xs) c.as_slice-4.ensures.value c.in_ok-shared.ensures.room);
    }
