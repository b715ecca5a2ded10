use Rattle.std.proofs.Common.{◌≡◌, ◌≤◌, ◌∙◌, List, ℕ, None, Some, subst, sym, ap, refl, arith, length}
use Rattle.std.specs.Prelude.{slice_get, Ok}
use Rattle.std.proofs.lemmas.Option.{slice_get_read, slice_get_past}
use Rattle.tree_model.specs.Networks.{Net, iface_of}
use Rattle.std.specs.List.{flat_map}
use Rattle.router_rules.specs.Adverts.{adverts_of}
use Rattle.network_flight.specs.Runs.{adverts_report}
use Rattle.network_flight.specs.Texts.{advert_text}
use Rattle.network_replay.specs.Reporting.{Says}
use Rattle.network_replay.proofs.Offers.{offers_are}
use Rattle.network_replay.proofs.Reports.{no_end, no_name, no_node, says_none, some_node}
use Rattle.network_replay.proofs.adverts.put_offers.Goals as goal

pub returns-in_default : goal.returns-in_default
returns-in_default g c = λ q w net are.
    let o = c.args.out.now.items in
    let none = no_name q c.args.names.now adverts_report w c.args.end (slice_get_past c.args.names.now c.args.end c.in_default.ensures.lookup.3) in
    subst (λ (x : List ℕ). Says (Ok tt) o o x) (sym none) (says_none o)

pub returns-in_default-place_of : goal.returns-in_default-place_of
returns-in_default-place_of g c = λ q w net are.
    let o = c.args.out.now.items in
    let none = no_end q c.args.names.now adverts_report w c.args.end (subst (λ (n : Net). slice_get n.ends c.args.end ≡ None) (sym net) c.in_default-place_of.ensures) in
    subst (λ (x : List ℕ). Says (Ok tt) o o x) (sym none) (says_none o)

pub returns-in_default-get : goal.returns-in_default-get
returns-in_default-get g c = λ q w net are.
    let o = c.args.out.now.items in
    let (e, there, node, by) = c.in-Some-place_of.ensures in
    let at = subst (λ (n : Net). slice_get n.ends c.args.end ≡ Some e) (sym net) there in
    let past : length w.nodes ≤ e.node = omega (arith, node, are.many, c.in_default-get.ensures.lookup.3) in
    let none = no_node q c.args.names.now adverts_report w c.args.end e at (slice_get_past w.nodes e.node past) in
    subst (λ (x : List ℕ). Says (Ok tt) o o x) (sym none) (says_none o)

pub returns : goal.returns
returns g c = λ q w net are.
    let see = g.R.Router.seen in
    let o = c.args.out.now.items in
    let t = adverts_report in
    let (e, there, node, by) = c.in-Some-place_of.ensures in
    let r = c.in-Some-get.node.now in
    let name = c.in-Some.name.now in
    let iface = c.in-Some-place_of.iface in
    let at = subst (λ (n : Net). slice_get n.ends c.args.end ≡ Some e) (sym net) there in
    let named : slice_get c.args.names.now c.args.end ≡ Some name = slice_get_read c.args.names.now _ c.args.end name refl c.in-Some.ensures.lookup.3.0 c.in-Some.ensures.lookup.1 in
    let here : slice_get c.args.nodes.now c.in-Some-place_of.number ≡ Some r =
    slice_get_read c.args.nodes.now _ c.in-Some-place_of.number r refl c.in-Some-get.ensures.lookup.3.0 c.in-Some-get.ensures.lookup.1 in
    let is = are.all e.node r (subst (λ n. slice_get c.args.nodes.now n ≡ Some r) node here) in
    let text = some_node q c.args.names.now t w c.args.end see name e iface r named at (by ∙ ap (λ (n : Net). iface_of n.ends c.args.end) (sym net)) is in
    let said = offers_are (see.place r) name e iface (see.facts r w.clock) in
    let named_so = ap (λ (n : List ℕ). flat_map (advert_text n) (adverts_of (see.facts r w.clock) iface)) c.bytes.ensures.value in
    subst (λ (x : List ℕ). Says c.put_paths.result o c.put_paths.new.out.items x) (named_so ∙ said ∙ text) (c.put_paths.ensures w.clock)
