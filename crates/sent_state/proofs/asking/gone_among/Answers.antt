use Rattle.std.proofs.Common.{take, sym, ap, subst, ◌∙◌, arith}
use Rattle.std.proofs.lemmas.List.{take_all}
use Rattle.rsvp_base.specs.Orders.{Names}
use Rattle.rsvp_base.specs.Sets.{IsWithin, cut, set_of}
use Rattle.sent_state.proofs.Listing.{flipped, gone_more, names_gone, none_copied, within_cut}
use Rattle.sent_state.proofs.asking.gone_among.Goals as goal

pub put_gone-requires : goal.put_gone-requires
put_gone-requires c =
    subst (λ (n : Names). IsWithin n c.args.among.now) (sym c.loop-i.invariant) (within_cut (set_of (names_gone c.args.after.now (take c.loop-i.i c.as_slice-rows.result.now))) c.args.among.now)

pub loop-i-preserved : goal.loop-i-preserved
loop-i-preserved c =
    let rows = c.as_slice-rows.result.now in
    c.put_gone.ensures
    ∙ gone_more c.args.after.now c.args.among.now rows c.loop-i.i c.index-rows-i.result c.is_none-gone.result c.loop-i.names c.loop-i-test.true c.index-rows-i.is
    (flipped _ _ c.is_none-gone.ensures ∙ none_copied c.get.result _ c.get.ensures) c.loop-i.invariant

pub returns : goal.returns
returns c = c.loop-i.invariant ∙ ap (λ es. cut (set_of (names_gone c.args.after.now es)) c.args.among.now)
    (take_all c.loop-i.i c.as_slice-rows.result.now (omega (arith, c.loop-i-test.false)) ∙ c.as_slice-rows.ensures.rows)
