use Rattle.std.proofs.Common.{◌≡◌, ℕ, ◌-◌, List, [], ◌∷◌, sym, ap, subst, ◌∙◌}
use Rattle.std.specs.Prelude.{OnOk}
use Rattle.rsvp_base.specs.declared.addr.Addr.{Addr}
use Rattle.script_words.specs.Addresses.{of_bytes}
use Rattle.tree_model.specs.declared.hops.End.{End}
use Rattle.tree_model.specs.Networks.{Net}
use Rattle.tree_routing.specs.Answers.{TakesEnd, TakesLink, with_end, with_link}
use Rattle.grown_network.specs.Growing.{hung_up_to}
use Rattle.grown_network.specs.Nodes.{above, down_end, end_of, up_end}
use Rattle.grown_network.proofs.Hanging.{dk, hung_is, takes_down_end, takes_its_link, takes_up_end, uk}
use Rattle.grown_network.proofs.growing.hang.Goals as goal

-- the upper end, from the numbers that are computed
down_is : (k node : ℕ) (a : Addr) (d : End) → d ≡ end_of node a → node ≡ above k → a ≡ of_bytes 10 1 k 1 → d ≡ end_of (above k) (of_bytes 10 1 k 1)
down_is k node a d is n e = is ∙ ap (λ m. end_of m a) n ∙ ap (end_of (above k)) e

up_is : (k : ℕ) (a : Addr) (u : End) → u ≡ end_of k a → a ≡ of_bytes 10 1 k 2 → u ≡ end_of k (of_bytes 10 1 k 2)
up_is k a u is e = is ∙ ap (end_of k) e

-- the network with it, and with both
half_is : (k : ℕ) (before half : Net) (d : End) → before ≡ hung_up_to (k - 1) → half ≡ with_end before d → d ≡ end_of (above k) (of_bytes 10 1 k 1)
    → half ≡ with_end (hung_up_to (k - 1)) (end_of (above k) (of_bytes 10 1 k 1))
half_is k before half d is more e = more ∙ ap (λ (n : Net). with_end n d) is ∙ ap (with_end (hung_up_to (k - 1))) e

whole_is : (k : ℕ) (half whole : Net) (u : End) → half ≡ with_end (hung_up_to (k - 1)) (end_of (above k) (of_bytes 10 1 k 1)) → whole ≡ with_end half u → u ≡ end_of k (of_bytes 10 1 k 2)
    → whole ≡ with_end (with_end (hung_up_to (k - 1)) (end_of (above k) (of_bytes 10 1 k 1))) (end_of k (of_bytes 10 1 k 2))
whole_is k half whole u is more e = more ∙ ap (λ (n : Net). with_end n u) is ∙ ap (with_end (with_end (hung_up_to (k - 1)) (end_of (above k) (of_bytes 10 1 k 1)))) e

links_are : (k d u : ℕ) → d ≡ down_end k → u ≡ up_end k → ◌≡◌ {A = List ℕ} (d ∷ u ∷ []) (down_end k ∷ up_end k ∷ [])
links_are k d u a b = λ i. a i ∷ b i ∷ []

pub add_end-requires : goal.add_end-requires
add_end-requires c =
    let k = c.args.node in
    let d = down_is k c.above.result c.address.result c.end_of.result c.end_of.ensures c.above.ensures c.address.ensures in
    subst (λ (n : Net). TakesEnd n c.end_of.result) (sym c.requires.before) (subst (λ (e : End). TakesEnd (hung_up_to (k - 1)) e) (sym d) (takes_down_end k c.requires.range.0 c.requires.range.1))

pub add_end-requires-2 : goal.add_end-requires-2
add_end-requires-2 c =
    let k = c.args.node in
    let d = down_is k c.above.result c.address.result c.end_of.result c.end_of.ensures c.above.ensures c.address.ensures in
    let half = half_is k c.args.topology.now c.add_end.new.self c.end_of.result c.requires.before c.in_ok-add_end.ensures.ok d in
    let u = up_is k c.address-2.result c.end_of-2.result c.end_of-2.ensures c.address-2.ensures in
    subst (λ (n : Net). TakesEnd n c.end_of-2.result) (sym half) (subst (λ (e : End). TakesEnd (with_end (hung_up_to (k - 1)) (dk k c.requires.range.0 c.requires.range.1)) e) (sym u)
    (takes_up_end k c.requires.range.0 c.requires.range.1))

pub add_link-requires : goal.add_link-requires
add_link-requires c =
    let k = c.args.node in
    let d = down_is k c.above.result c.address.result c.end_of.result c.end_of.ensures c.above.ensures c.address.ensures in
    let half = half_is k c.args.topology.now c.add_end.new.self c.end_of.result c.requires.before c.in_ok-add_end.ensures.ok d in
    let u = up_is k c.address-2.result c.end_of-2.result c.end_of-2.ensures c.address-2.ensures in
    let whole = whole_is k c.add_end.new.self c.add_end-2.new.self c.end_of-2.result half c.in_ok-add_end-2.ensures.ok u in
    let links = links_are k c.down_end.result c.up_end.result c.down_end.ensures c.up_end.ensures in
    subst (λ (n : Net). TakesLink n (c.down_end.result ∷ c.up_end.result ∷ [])) (sym whole)
    (subst (λ (l : List ℕ). TakesLink (with_end (with_end (hung_up_to (k - 1)) (dk k c.requires.range.0 c.requires.range.1)) (uk k c.requires.range.0 c.requires.range.1)) l) (sym links)
    (takes_its_link k c.requires.range.0 c.requires.range.1))

pub returns : goal.returns
returns c =
    let k = c.args.node in
    let d = down_is k c.above.result c.address.result c.end_of.result c.end_of.ensures c.above.ensures c.address.ensures in
    let half = half_is k c.args.topology.now c.add_end.new.self c.end_of.result c.requires.before c.in_ok-add_end.ensures.ok d in
    let u = up_is k c.address-2.result c.end_of-2.result c.end_of-2.ensures c.address-2.ensures in
    let whole = whole_is k c.add_end.new.self c.add_end-2.new.self c.end_of-2.result half c.in_ok-add_end-2.ensures.ok u in
    let links = links_are k c.down_end.result c.up_end.result c.down_end.ensures c.up_end.ensures in
    let all = ap (λ (n : Net). with_link n (c.down_end.result ∷ c.up_end.result ∷ [])) whole
    ∙ ap (with_link (with_end (with_end (hung_up_to (k - 1)) (dk k c.requires.range.0 c.requires.range.1)) (uk k c.requires.range.0 c.requires.range.1))) links
    ∙ hung_is k c.requires.range.0 c.requires.range.1 in
    subst (λ (n : Net). OnOk c.add_link.result (c.add_link.new.self ≡ n)) all c.add_link.ensures.ok
