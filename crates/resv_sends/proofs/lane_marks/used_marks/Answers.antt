use Rattle.std.proofs.Common.{[], sym, ap, ◌∙◌}
use Rattle.std.proofs.lemmas.List.{append_assoc}
use Rattle.rsvp_base.specs.Table.{keys}
use Rattle.rsvp_base.specs.declared.style.StyleKind.TheVariants.{Wild, Fixed, Shared}
use Rattle.std.specs.Prelude.{◌++◌}
use Rattle.laws_sends.specs.Before.{lanes_by}
use Rattle.router_state.specs.Whole.{state_of}
use Rattle.resv_sends.specs.Wishes.{lanes_in, used_seen}
use Rattle.resv_sends.proofs.Used.{none_used, used_none, wanted_none}
use Rattle.resv_sends.proofs.lane_marks.used_marks.Goals as goal

pub returns-then-not-has_mark : goal.returns-then-not-has_mark
returns-then-not-has_mark c = λ clock any. c.new-used.ensures ∙ none_used clock c.args.tables.now any c.args.said.now c.args.session (sym c.has_mark.ensures ∙ c.if-not-has_mark.true)
    (lanes_by (keys c.args.hops.now))

pub use_style-requires : goal.use_style-requires
use_style-requires c = wanted_none c.args.tables.now c.args.session _ c.new-used.ensures

pub returns : goal.returns
returns c = λ clock any.
    let n = state_of c.args.tables.now any in
    let s = c.args.session in
    let said = c.args.said.now in
    let hops = keys c.args.hops.now in
    let wild = c.use_style.ensures.used clock any [] (c.new-used.ensures ∙ used_none clock n s said) in
    let fixed = c.use_style-2.ensures.used clock any (lanes_in Wild hops) wild in
    c.use_style-3.ensures.used clock any (lanes_in Wild hops ++ lanes_in Fixed hops) fixed
    ∙ ap (used_seen clock n s said) (append_assoc (lanes_in Wild hops) (lanes_in Fixed hops) (lanes_in Shared hops))
