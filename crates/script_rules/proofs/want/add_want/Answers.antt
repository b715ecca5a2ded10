use Rattle.std.proofs.Common.{rules, ◌≡◌, ◌≤◌, List, OnOk, Some, arith, length, map, sym, ap, subst, refl, ◌∙◌}
use Rattle.std.specs.Prelude.{is_some, unwrap_or, Option, ℕ}
use Rattle.rsvp_base.specs.Orders.{Names}
use Rattle.rsvp_base.specs.Table.{size}
use Rattle.rsvp_base.specs.declared.session.Sender.{Sender}
use Rattle.router_rules.specs.Steps.{IsFitList}
use Rattle.tree_model.specs.declared.locals.LocalWant.{LocalWant}
use Rattle.std.specs.List.{All}
use Rattle.script_words.specs.Sessions.{IsSender, sender_value}
use Rattle.script_words.specs.declared.raw.SenderWord.{SenderWord}
use Rattle.script_grammar.specs.Adds.{wanted, wants_at, with_wants}
use Rattle.script_grammar.specs.Draft.{node_named, place_of}
use Rattle.script_grammar.specs.Rules.{AreDistinct, sender_list}
use Rattle.script_grammar.specs.Values.{IsWantInRange, senders_value}
use Rattle.script_rules.specs.Said.{draft_of}
use Rattle.script_rules.proofs.WantLines.{want_kept, with_it, fit_list}
use Rattle.script_rules.proofs.want.add_want.Goals as goal

pub senders_of-requires : goal.senders_of-requires
senders_of-requires c = subst (λ (ws : List SenderWord). All IsSender ws) (sym c.as_slice.ensures) (c.in-Some.ensures.some.0 refl).senders

pub keep_call-requires : goal.keep_call-requires
keep_call-requires c =
    let names : c.in-Ok.names ≡ senders_value c.args.line.senders = search rules in
    let few : size c.in-Ok.names ≤ 16 = search (rules, arith) in
    let fit : IsFitList c.args.line.style (senders_value c.args.line.senders) =
    fit_list c.args.line.style c.args.line.senders c.requires (subst (λ (ns : Names). size ns ≤ 16) names few) in
    (subst (λ (ns : Names). IsFitList c.args.line.style ns) (sym names) fit, search rules)

pub returns-clause-ok : goal.returns-clause-ok
returns-clause-ok c =
    let d = draft_of c.args.state.now in
    let l = c.args.line in
    let names : c.in-Ok.names ≡ senders_value l.senders = search rules in
    let few : size c.in-Ok.names ≤ 16 = search (rules, arith) in
    let found : node_named d l.node ≡ Some c.in-Some-find.node = ap (place_of d.nodes) (sym c.bytes.ensures.value) ∙ sym c.find.ensures.number ∙ c.in-Some-find.is in
    let in_range : IsWantInRange l = c.in-Some.ensures.some.0 refl in
    let items : c.in_ok-senders.senders.items ≡ map sender_value c.as_slice.result.now = c.in_ok-senders.ensures.value in
    let list : c.as_slice-2.result.now ≡ sender_list l.senders = c.as_slice-2.ensures.value ∙ items ∙ ap (map sender_value) c.as_slice.ensures in
    let wants : c.put.new.wants ≡ with_wants d.locals.wants (wanted c.in-Some-find.node c.in-Some.session l.style c.in-Ok.names c.in-Some.flow) =
    search rules in
    let added : c.in_ok-count.count
    ≡ length (wants_at (with_wants d.locals.wants
    (wanted c.in-Some-find.node c.in-Some.session l.style c.in-Ok.names c.in-Some.flow)) c.in-Some-find.node c.in-Some.session) =
    search rules in
    let counted = added ∙ ap (λ (ws : List LocalWant). length (wants_at ws c.in-Some-find.node c.in-Some.session)) (sym wants) in
    let adds : OnOk c.keep_call.result (draft_of c.keep_call.new.state ≡ with_it d l (
      c.in-Some-find.node,
      (c.in-Some.session, (c.in-Ok.names, c.in-Some.flow)),
    ) c.put.new.wants) = search rules in
    let most = c.if-count-gt-MOST_UNITS.false in
    want_kept d l in_range (ap is_some found) (subst (λ (xs : List Sender). AreDistinct xs) list (c.are_distinct.ensures.0 c.if-not-are_distinct.false))
    (c.is_of_wanted_style.ensures.0 c.if-not-is_of_wanted_style.false)
    c.keep_call.result (c.in-Some-find.node, (c.in-Some.session, (c.in-Ok.names, c.in-Some.flow)))
    (λ i. (sym (ap (λ (o : Option ℕ). unwrap_or o 0) found) i, (c.in-Some.ensures.value.0 i, (names i, c.in-Some.ensures.value.1 i))))
    c.put.new.wants
    (record { few = few; session = c.has_room_for_session.ensures.0 c.if-not-has_room_for_session.false; wants_are = wants; units = omega (arith, counted, most) })
    (draft_of c.keep_call.new.state) adds
