use Rattle.std.proofs.Common.{◌≡◌, ◌+◌, length, count_by, sym, ap, ◌∙◌, arith}
use Rattle.std.specs.Prelude.{List}
use Rattle.std.proofs.lemmas.Bool.Decides.{nat_tests}
use Rattle.tree_model.specs.declared.locals.LocalSender.{LocalSender}
use Rattle.tree_model.specs.Wants.{live, of_session}
use Rattle.script_grammar.specs.Adds.{sends, with_sender}
use Rattle.script_rules.specs.Said.{draft_of}
use Rattle.script_rules.proofs.SenderRules.{live_again, live_more}
use Rattle.script_rules.proofs.sender.has_room_for_sender.Goals as goal

pub returns-then-sends : goal.returns-then-sends
returns-then-sends c =
    let l = (draft_of c.args.state.now).locals in
    let count : c.live_count-live.result ≡ count_by (of_session c.args.new.session) l.senders = c.live_count-live.ensures
    ∙ ap (count_by (of_session c.args.new.session)) c.as_slice-senders.ensures.value in
    let there = sym (c.sends.ensures ∙ ap (λ (ls : List LocalSender). sends ls c.args.new.session c.args.new.sender) c.as_slice-senders.ensures.value) ∙ c.if-sends.true in
    let e : length (live (with_sender l c.args.new.node c.args.new.session c.args.new.sender) c.args.new.session) ≡ c.live_count-live.result = live_again l c.args.new there ∙ sym count in
    (λ t. grind (arith, nat_tests, t, e), λ few. grind (arith, nat_tests, few, e))

pub returns-else-sends : goal.returns-else-sends
returns-else-sends c =
    let l = (draft_of c.args.state.now).locals in
    let count : c.live_count-live.result ≡ count_by (of_session c.args.new.session) l.senders = c.live_count-live.ensures
    ∙ ap (count_by (of_session c.args.new.session)) c.as_slice-senders.ensures.value in
    let there = sym (c.sends.ensures ∙ ap (λ (ls : List LocalSender). sends ls c.args.new.session c.args.new.sender) c.as_slice-senders.ensures.value) ∙ c.if-sends.false in
    let e : length (live (with_sender l c.args.new.node c.args.new.session c.args.new.sender) c.args.new.session) ≡ c.live_count-live.result + 1 = live_more l c.args.new there
    ∙ ap (λ n. n + 1) (sym count) in
    (λ t. grind (arith, nat_tests, t, e), λ few. grind (arith, nat_tests, few, e))
