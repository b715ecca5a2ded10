use Rattle.std.proofs.Common.{◌≡◌, ◌+◌, ◌++◌, List, [], ◌∷◌, ap, sym, ◌∙◌, arith, length}
use Rattle.std.specs.Prelude.{slice_get}
use Rattle.std.specs.List.{filter_map}
use Rattle.std.proofs.lemmas.List.{length-append}
use Rattle.path_state.specs.declared.fact.PathFact.{PathFact}
use Rattle.router_core.specs.Adverts.{fact_advert}
use Rattle.router_core.proofs.BySession.{among_first, front_told, past_first}
use Rattle.router_core.proofs.adverts.advert_in.Goals as goal

pub loop-fact-init : goal.loop-fact-init
loop-fact-init c =
    let all = c.into_iter-fact-iterator.ensures.into_iter_gives ∙ c.of_session-fact-items.ensures.facts in
    record {
      at = ap (λ (fs : List PathFact). slice_get (filter_map (fact_advert c.args.iface) fs) c.args.k) all;
      count = ap (λ (fs : List PathFact). c.args.k + length (filter_map (fact_advert c.args.iface) fs)) all ∙ omega arith;
    }

pub loop-fact-preserved : goal.loop-fact-preserved
loop-fact-preserved c =
    let f = fact_advert c.args.iface in
    let x = c.in-Some.fact.now in
    let rest = filter_map f c.next.new.self in
    let front : filter_map f (x ∷ []) ++ rest ≡ filter_map f c.loop-fact.fact-iterator = sym (front_told f x c.next.new.self) ∙ ap (filter_map f) (sym c.in-Some.ensures.steps) in
    record {
      at = sym (past_first (filter_map f (x ∷ [])) rest c.loop-fact.before c.in-Err.left c.in-Err.ensures) ∙ ap (λ ys. slice_get ys c.loop-fact.before) front ∙ c.loop-fact.invariant.at;
      count = omega (arith, c.loop-fact.invariant.count, c.in-Err.ensures, length-append (filter_map f (x ∷ [])) rest, ap length front);
    }

pub returns-in-Ok : goal.returns-in-Ok
returns-in-Ok c =
    let f = fact_advert c.args.iface in
    let x = c.in-Some.fact.now in
    let rest = filter_map f c.next.new.self in
    let front : filter_map f (x ∷ []) ++ rest ≡ filter_map f c.loop-fact.fact-iterator = sym (front_told f x c.next.new.self) ∙ ap (filter_map f) (sym c.in-Some.ensures.steps) in
    sym c.loop-fact.invariant.at ∙ ap (λ ys. slice_get ys c.loop-fact.before) (sym front) ∙ among_first (filter_map f (x ∷ [])) rest c.loop-fact.before _ c.in-Ok.ensures

pub returns : goal.returns
returns c =
    let none = c.in-None.ensures.steps.0 in
    omega (arith, c.loop-fact.invariant.count, ap (λ (fs : List PathFact). length (filter_map (fact_advert c.args.iface) fs)) none)
