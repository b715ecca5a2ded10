use Rattle.std.proofs.Common.{◌≡◌, ◌++◌, ◌∙◌, [], true, List, ℕ, ap, subst}
use Rattle.std.specs.Prelude.{◌↔◌, ◌≢◌}
use Rattle.network_demand.specs.Asked.{locals_of}
use Rattle.network_demand.specs.Overhead.{overhead}
use Rattle.tree_model.specs.Goals.{DemandsFit}
use Rattle.script_demand.specs.Texts.{findings_text, room_text}
use Rattle.script_demand.proofs.Noted.{noted}
use Rattle.script_demand.proofs.whole_text.findings_text.Goals as goal

pub returns : goal.returns
returns c =
    let nodes = c.args.nodes.now in
    let names = c.args.names.now in
    let net = c.args.routing.now in
    let l = locals_of c.args.locals.now in
    let found = c.in_ok-found.found in
    let fits = c.is_none.result in
    let told : (fits ≡ true) ↔ DemandsFit net l = (λ t. c.in_ok-found.ensures.fits.0 (c.is_none.ensures.0 t), λ d. c.is_none.ensures.1 (c.in_ok-found.ensures.fits.1 d)) in
    let first : c.put_found.new.out.items ≡ findings_text nodes names net.ends l found = c.in_ok-put_found.ensures ∙ ap (λ (xs : List ℕ). xs ++ findings_text nodes names net.ends l found) c.new-text.ensures.items in
    let some : (c.is_something-some.result ≡ true) ↔ (findings_text nodes names net.ends l found ≢ []) =
    subst (λ (xs : List ℕ). (c.is_something-some.result ≡ true) ↔ (xs ≢ [])) (c.as_slice.ensures.value ∙ first) c.is_something-some.ensures in
    record {
      says = record {
        found = found;
        are = c.in_ok-found.ensures.found;
        none = c.in_ok-found.ensures.fits;
        fits = fits;
        told = told;
        text_is = c.in_ok-crowds.ensures.text ∙ ap (λ (xs : List ℕ). xs ++ room_text fits (overhead net l)) first;
      };
      noted = noted c.is_either-said.result c.is_something-some.result c.in_ok-crowds.crowds fits (overhead net l) c.is_either-said.ensures some c.in_ok-crowds.ensures.crowds told;
    }
