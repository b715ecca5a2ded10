use Rattle.std.proofs.Common.{◌≡◌, ◌+◌, ◌||◌, drop, fold, is_some, sym, ap, ◌∙◌, arith}
use Rattle.std.proofs.lemmas.List.{drop_all}
use Rattle.std.specs.List.{cons_option, filter_map}
use Rattle.std.specs.Option.{option_copied, option_map}
use Rattle.rsvp_base.specs.Orders.{sessions}
use Rattle.rsvp_base.specs.Under.{under}
use Rattle.style_rules.specs.Lines.{next_hops}
use Rattle.resv_state.specs.Walks.{rests}
use Rattle.resv_state.proofs.Limits.{few_of_session}
use Rattle.error_sends.specs.Going.{are_some, conf_at, conf_row, going_row}
use Rattle.error_sends.specs.Runs.{said_from}
use Rattle.error_sends.proofs.Telling.{confs_said, confs_some, mapped, none_left, some_more}
use Rattle.error_sends.proofs.Walking.{ended, following, given_here, met, rows_in}
use Rattle.error_sends.proofs.resv_conf.tell_confs.Goals as goal

pub loop-k-preserved : goal.loop-k-preserved
loop-k-preserved g c =
    let st = g.S.Style.kind_is in
    let m = c.args.table.now.facts in
    let s = c.args.message.now.session in
    let f = c.in-Some.fact.now in
    let is = sym (ap option_copied c.in-Some.is) ∙ c.loop-k.invariant.at in
    let w = met st m c.limits.ensures.style s c.loop-k.k f is in
    let row = conf_at c.args.message.now st in
    let rest = filter_map row (drop (c.loop-k.k + 1) (rows_in m s)) in
    let more : option_map going_row c.conf_of-more.result ≡ row w.row = c.conf_of-more.ensures ∙ (λ i. conf_row c.args.message.now st (sym w.hop i) (sym w.fact i).part (sym w.fact i).confirm) in
    let here = sym (given_here row m s c.loop-k.k f w) in
    record {
      at = following m s f.session f _ c.loop-k.k w.session c.after-next.ensures.next is;
      told = c.hold-last.ensures.sent rest ∙ ap (λ x. fold g.O.Outbox.posted c.loop-k.out (said_from next_hops (option_map going_row c.loop-k.last) (cons_option x rest))) more
          ∙ ap (λ es. fold g.O.Outbox.posted c.loop-k.out (said_from next_hops (option_map going_row c.loop-k.last) es)) here ∙ c.loop-k.invariant.told;
      some = ap (λ b. b || are_some rest) (c.hold-last.ensures.some ∙ ap (λ b. is_some c.loop-k.last || b) (mapped going_row c.conf_of-more.result ∙ ap is_some more))
          ∙ sym (some_more (is_some c.loop-k.last) (row w.row) rest)
          ∙ ap (λ es. is_some c.loop-k.last || are_some es) here ∙ c.loop-k.invariant.some;
    }

pub returns-in_default-clause-sent : goal.returns-in_default-clause-sent
returns-in_default-clause-sent g c =
    let m = c.args.table.now.facts in
    let s = c.args.message.now.session in
    let row = conf_at c.args.message.now g.S.Style.kind_is in
    let none = ended m s c.loop-k.k (sym (ap option_copied c.in_default.is) ∙ c.loop-k.invariant.at) in
    c.post_last.ensures ∙ ap (λ es. fold g.O.Outbox.posted c.loop-k.out (said_from next_hops (option_map going_row c.loop-k.last) (filter_map row es))) (sym none) ∙ c.loop-k.invariant.told
    ∙ ap (fold g.O.Outbox.posted c.args.out.now) (sym (confs_said c.args.message.now g.S.Style.kind_is (under sessions rests m s)))

pub returns-in_default-clause-some : goal.returns-in_default-clause-some
returns-in_default-clause-some g c =
    let m = c.args.table.now.facts in
    let s = c.args.message.now.session in
    let row = conf_at c.args.message.now g.S.Style.kind_is in
    let none = ended m s c.loop-k.k (sym (ap option_copied c.in_default.is) ∙ c.loop-k.invariant.at) in
    c.is_some-told.ensures ∙ sym (none_left (is_some c.loop-k.last)) ∙ ap (λ es. is_some c.loop-k.last || are_some (filter_map row es)) (sym none) ∙ c.loop-k.invariant.some
    ∙ sym (confs_some c.args.message.now g.S.Style.kind_is (under sessions rests m s))

pub returns-clause-sent : goal.returns-clause-sent
returns-clause-sent g c =
    let m = c.args.table.now.facts in
    let s = c.args.message.now.session in
    let row = conf_at c.args.message.now g.S.Style.kind_is in
    let few = few_of_session g.S.Style.kind_is m s c.limits.ensures.within in
    let none = drop_all c.loop-k.k (rows_in m s) (omega (arith, few, c.loop-k-test.false)) in
    c.post_last-2.ensures ∙ ap (λ es. fold g.O.Outbox.posted c.loop-k.out (said_from next_hops (option_map going_row c.loop-k.last) (filter_map row es))) (sym none) ∙ c.loop-k.invariant.told
    ∙ ap (fold g.O.Outbox.posted c.args.out.now) (sym (confs_said c.args.message.now g.S.Style.kind_is (under sessions rests m s)))

pub returns-clause-some : goal.returns-clause-some
returns-clause-some g c =
    let m = c.args.table.now.facts in
    let s = c.args.message.now.session in
    let row = conf_at c.args.message.now g.S.Style.kind_is in
    let few = few_of_session g.S.Style.kind_is m s c.limits.ensures.within in
    let none = drop_all c.loop-k.k (rows_in m s) (omega (arith, few, c.loop-k-test.false)) in
    c.is_some-told-2.ensures ∙ sym (none_left (is_some c.loop-k.last)) ∙ ap (λ es. is_some c.loop-k.last || are_some (filter_map row es)) (sym none) ∙ c.loop-k.invariant.some
    ∙ sym (confs_some c.args.message.now g.S.Style.kind_is (under sessions rests m s))
