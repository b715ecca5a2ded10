use Rattle.std.proofs.Common.{◌≡◌, ◌∙◌, List, Some, None, ap, sym, refl}
use Rattle.std.specs.Prelude.{slice_get}
use Rattle.std.proofs.lemmas.Option.{slice_get_read, slice_get_past}
use Rattle.tree_model.specs.declared.hops.End.{End}
use Rattle.tree_model.specs.Networks.{Net}
use Rattle.network_replay.proofs.report.capacity_of.Goals as goal

pub returns-in-Some : goal.returns-in-Some
returns-in-Some c = λ e there.
    let same = c.ends.ensures.ends ∙ ap (λ (n : Net). n.ends) c.routing.ensures.net in
    let here : slice_get c.ends.result.now c.args.end ≡ Some c.in-Some.end.now =
    slice_get_read c.ends.result.now _ c.args.end c.in-Some.end.now refl c.in-Some.ensures.lookup.3.0 c.in-Some.ensures.lookup.1 in
    let both : Some c.in-Some.end.now ≡ Some e = sym here ∙ ap (λ (es : List End). slice_get es c.args.end) same ∙ there in
    let one : c.in-Some.end.now ≡ e = cc in
    ap (λ (x : End). x.iface.capacity) one

pub returns-in-None : goal.returns-in-None
returns-in-None c = λ e there.
    let same = c.ends.ensures.ends ∙ ap (λ (n : Net). n.ends) c.routing.ensures.net in
    let none : None ≡ Some e = sym (slice_get_past c.ends.result.now c.args.end c.in-None.ensures.lookup.3) ∙ ap (λ (es : List End). slice_get es c.args.end) same ∙ there in
    absurd (cc)
