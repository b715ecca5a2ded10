use Rattle.std.proofs.Common.{◌+◌, List, drop, ap, sym, ◌∙◌, arith}
use Rattle.std.specs.Prelude.{slice_get}
use Rattle.std.specs.List.{flat_map}
use Rattle.rsvp_base.specs.Table.{keys}
use Rattle.rsvp_base.specs.declared.session.Session.{Session}
use Rattle.router_core.specs.Adverts.{session_adverts}
use Rattle.router_core.proofs.BySession.{among_first, no_key, next_key, past_first, past_keys}
use Rattle.router_core.proofs.adverts.advert_among.Goals as goal

pub loop-i-preserved : goal.loop-i-preserved
loop-i-preserved c =
    let say = session_adverts c.args.iface c.args.paths.now.facts in
    let rest = flat_map say (drop (c.loop-i.i + 1) (keys c.args.due.now)) in
    sym (past_first (say c.in-Some.session) rest c.loop-i.before c.in-Err.left c.in-Err.ensures)
    ∙ ap (λ (ss : List Session). slice_get (flat_map say ss) c.loop-i.before) (sym (next_key c.args.due.now.rows c.loop-i.i (c.in-Some.session, c.in-Some._left) (sym c.in-Some.ensures)))
    ∙ c.loop-i.invariant

pub returns-in-Ok : goal.returns-in-Ok
returns-in-Ok c =
    let say = session_adverts c.args.iface c.args.paths.now.facts in
    let rest = flat_map say (drop (c.loop-i.i + 1) (keys c.args.due.now)) in
    sym (among_first (say c.in-Some.session) rest c.loop-i.before _ c.in-Ok.ensures)
    ∙ ap (λ (ss : List Session). slice_get (flat_map say ss) c.loop-i.before) (sym (next_key c.args.due.now.rows c.loop-i.i (c.in-Some.session, c.in-Some._left) (sym c.in-Some.ensures)))
    ∙ c.loop-i.invariant

pub returns-in_default : goal.returns-in_default
returns-in_default c =
    let say = session_adverts c.args.iface c.args.paths.now.facts in
    ap (λ (ss : List Session). slice_get (flat_map say ss) c.loop-i.before) (sym (no_key c.args.due.now.rows c.loop-i.i (sym c.in_default.ensures))) ∙ c.loop-i.invariant

pub returns : goal.returns
returns c =
    let say = session_adverts c.args.iface c.args.paths.now.facts in
    ap (λ (ss : List Session). slice_get (flat_map say ss) c.loop-i.before) (sym (past_keys c.args.due.now.rows c.loop-i.i (omega (arith, c.loop-i-test.false, c.len-i-end.ensures.size)))) ∙ c.loop-i.invariant
