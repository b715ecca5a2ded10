-- A network that was opened agrees with the first world.
use Rattle.std.proofs.Common.{◌≡◌, ℕ, zero, suc, ◌*◌, ◌^◌, ◌<◌, ◌≤◌, List, [], ◌∷◌, true, false, Option, None, Some, length, refl, sym, ap, subst, ◌∙◌, arith}
use Rattle.std.specs.Prelude.{slice_get, map as each}
use Rattle.std.specs.List.{All, range_with_len}
use Rattle.std.proofs.lemmas.List.{length-map}
use Rattle.std.proofs.lemmas.List.Elements.{All-nil, All-cons}
use Rattle.router_rules.specs.Facts.{Facts}
use Rattle.router_rules.specs.NodeConfig.{NodeConfig}
use Rattle.tree_model.specs.declared.hops.End.{End}
use Rattle.tree_model.specs.Networks.{Net, ends_of}
use Rattle.tree_model.specs.Trees.{trees_of}
use Rattle.tree_model.specs.Valid.{IsValid}
use Rattle.tree_model.proofs.Ifaces.{interfaces_are_ends}
use Rattle.network_flight.specs.Runs.{Plan, first_facts, first_world}
use Rattle.network_flight.specs.Worlds.{with_iface, ifaces_at, config_of}
use Rattle.network_flight.proofs.MadeTables.{many, read_made, made_at}
use Rattle.network_replay.specs.Agreeing.{NetworkState, AreWired, IsSteady, AreNodes, Agrees}
use Rattle.network_replay.specs.Following.{Seen}
use Rattle.network_replay.specs.Opening.{ArePlaced, AreFirst, IsOpenedBy}
use Rattle.network_replay.specs.Routed.{AreRouted, trees_in}
use Rattle.network_replay.proofs.Moves.{trees_back}
use Rattle.network_replay.proofs.Nodes.{within}

some_at : {A : Type 0} (xs : List A) (n : ℕ) → n < length xs → (x : A) × (slice_get xs n ≡ Some x)
some_at [] n lt = absurd (omega arith)
some_at (x ∷ xs) zero lt = (x, refl)
some_at (x ∷ xs) (suc n) lt = some_at xs n (omega arith)

-- as many interfaces as ends
ifaces_length : (ends : List End) (es : List ℕ) → ((i e : ℕ) → slice_get es i ≡ Some e → e < length ends) → length (ifaces_at ends es) ≡ length es
ifaces_length ends [] inside = refl
ifaces_length ends (d ∷ es) inside =
    let x = some_at ends d (inside 0 d refl) in
    ap (λ (o : Option End). length (with_iface o (ifaces_at ends es))) x.1 ∙ ap suc (ifaces_length ends es (λ i e at. inside (suc i) e at))

pub wired : (q : ℕ) (net : Net) (places : List NodeConfig) → ArePlaced q net places → AreWired net places
wired q net places placed n p at =
    let trees = trees_of net.hops in
    let le : n < net.nodes = (let lt = within places n p at in omega (arith, lt, many (λ (x : NodeConfig). x) (config_of q net trees) places net.nodes (same_each places ∙ placed))) in
    let is : p ≡ config_of q net trees n = read_made (λ (x : NodeConfig). x) (config_of q net trees) places net.nodes (same_each places ∙ placed) n p at in
    ap (λ (x : NodeConfig). length x.ifaces) is ∙ ifaces_length net.ends (ends_of net.ends n) (λ i e here. ((interfaces_are_ends net).iface_of_end n i e here).0)
  where
    same_each : (xs : List NodeConfig) → each (λ x. x) xs ≡ xs
    same_each [] = refl
    same_each (x ∷ xs) = ap (λ ys. x ∷ ys) (same_each xs)

timed : (q : ℕ) (net : Net) (ns : List ℕ) → All (λ (p : NodeConfig). p.quarter ≡ q) (each (config_of q net (trees_of net.hops)) ns)
timed q net [] = All-nil (λ (p : NodeConfig). p.quarter ≡ q)
timed q net (n ∷ ns) = All-cons (λ (p : NodeConfig). p.quarter ≡ q) (config_of q net (trees_of net.hops) n) (each (config_of q net (trees_of net.hops)) ns) refl (timed q net ns)

routed : (q : ℕ) (net : Net) (ns : List ℕ) → AreRouted (trees_of net.hops) (each (config_of q net (trees_of net.hops)) ns)
routed q net [] = All-nil (λ (p : NodeConfig). trees_in p.routes ≡ trees_of net.hops)
routed q net (n ∷ ns) =
    All-cons (λ (p : NodeConfig). trees_in p.routes ≡ trees_of net.hops) (config_of q net (trees_of net.hops) n) (each (config_of q net (trees_of net.hops)) ns) (trees_back net n (trees_of net.hops))
    (routed q net ns)

pub steady : (q : ℕ) (net : Net) (places : List NodeConfig) → IsValid net → 1 ≤ q → 4 * q < 2 ^ 32 → ArePlaced q net places → IsSteady q net (trees_of net.hops) places
steady q net places valid long short placed = record {
  few = (let is = many (λ (n : ℕ). n) (λ n. n) (range_with_len 0 net.nodes) net.nodes refl in
      let same = ap (λ (ps : List NodeConfig). length ps) placed ∙ length-map (range_with_len 0 net.nodes) (config_of q net (trees_of net.hops)) in let le = valid.few_nodes in
      omega (arith, is, same, le));
  long = long;
  short = short;
  timed = subst (λ (ps : List NodeConfig). All (λ (p : NodeConfig). p.quarter ≡ q) ps) (sym placed) (timed q net (range_with_len 0 net.nodes));
  wired = wired q net places placed;
  routed = subst (λ (ps : List NodeConfig). AreRouted (trees_of net.hops) ps) (sym placed) (routed q net (range_with_len 0 net.nodes));
}

module _ {R : Type 0} (see : Seen R) (p : Plan) (rs : List R) (placed : ArePlaced p.quarter p.net (each see.place rs)) (first : AreFirst see p rs) where
  begun : AreNodes see p.quarter (first_world p) rs
  begun = record {
    many = many (λ r. see.facts r 0) (first_facts p) rs p.net.nodes first ∙ sym (length-map (range_with_len 0 p.net.nodes) (first_facts p)
        ∙ many (λ (n : ℕ). n) (λ n. n) (range_with_len 0 p.net.nodes) p.net.nodes refl);
    all = λ n r at.
        let lt : n < p.net.nodes = (let h = within rs n r at in omega (arith, h, many (λ r. see.facts r 0) (first_facts p) rs p.net.nodes first)) in
        record {
          place = read_made see.place (config_of p.quarter p.net (trees_of p.net.hops)) rs p.net.nodes placed n r at;
          facts = made_at (first_facts p) p.net.nodes n lt ∙ ap (λ (f : Facts). Some f) (sym (read_made (λ r. see.facts r 0) (first_facts p) rs p.net.nodes first n r at));
        };
  }

  pub opened : (v : NetworkState R)
      → v ≡ (record {
        quarter = p.quarter;
        post = record { net = p.net; from = 0; flight = []; full = false; in_range = true };
        names = p.names;
        nodes = rs;
        trees = trees_of p.net.hops;
        words =
            p.seed;
        delivered = 0;
        trace = false;
        refused = None;
      }) → Agrees see p.quarter v (first_world p)
  opened v is =
      subst (λ (u : NetworkState R). Agrees see p.quarter u (first_world p)) (sym is)
      (record { going = refl; roomy = refl; quarter = refl; trees = refl; net = refl; nodes = begun; flight = tt; room = omega arith; words = refl; delivered = refl; trace = refl })

-- as it is opened
abbrev pub begun_as : {R : Type 0} → ℕ → ℕ → Net → List (List ℕ) → List R → NetworkState R
begun_as quarter seed net names rs =
    record {
      quarter = quarter;
      post = record { net = net; from = 0; flight = []; full = false; in_range = true };
      names = names;
      nodes = rs;
      trees = trees_of net.hops;
      words = seed;
      delivered = 0;
      trace = false;
      refused = None;
    }

pub opened_of : {R : Type 0} (see : Seen R) (p : Plan) (rs : List R) (quarter seed : ℕ) (net : Net) (names : List (List ℕ)) → IsOpenedBy p quarter seed net names
    → ArePlaced quarter net (each see.place rs) → AreFirst see p rs
    → (v : NetworkState R) → v ≡ begun_as quarter seed net names rs → Agrees see quarter v (first_world p)
opened_of {R} see p rs quarter seed net names by placed first v is =
    let at : ArePlaced p.quarter p.net (each see.place rs) =
    subst (λ (n : Net). ArePlaced p.quarter n (each see.place rs)) (sym by.net_is) (subst (λ q. ArePlaced q net (each see.place rs)) (sym by.quarter_is) placed) in
    let state : v ≡ begun_as p.quarter p.seed p.net p.names rs =
    is ∙ ap (λ x. begun_as x seed net names rs) (sym by.quarter_is) ∙ ap (λ x. begun_as p.quarter x net names rs) (sym by.seed_is)
    ∙ ap (λ (x : Net). begun_as p.quarter p.seed x names rs) (sym by.net_is)
    ∙ ap (λ (x : List (List ℕ)). begun_as p.quarter p.seed p.net x rs) (sym by.names_is) in
    subst (λ x. Agrees see x v (first_world p)) by.quarter_is (opened see p rs at first v state)
