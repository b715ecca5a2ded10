-- How much a router within its limits keeps, offers and asks.
use Rattle.std.specs.Prelude.{◌≡◌, ℕ, ◌+◌, ◌*◌, ◌≤◌, true, false, List, [], ◌∷◌, ◌++◌, length, map as each, is_some, Option, None, Some, refl}
use Rattle.std.proofs.Common.{sym, ap, ◌∙◌, arith}
use Rattle.std.proofs.lemmas.List.{length-append, length-map}
use Rattle.std.proofs.lemmas.List.FromFn.{length-range_with_len}
use Rattle.std.specs.List.{filter, flat_map, range_with_len}
use Rattle.std.specs.Ordering.{eq_by_cmp}
use Rattle.rsvp_base.specs.Keys.{Keys, pairs}
use Rattle.rsvp_base.specs.Members.{In}
use Rattle.rsvp_base.specs.Orders.{sessions, senders, styles, units}
use Rattle.rsvp_base.specs.SessionLimits.{IsWithinSessionLimits}
use Rattle.rsvp_base.specs.Sets.{set_of}
use Rattle.rsvp_base.specs.Table.{Table, get, has, keys, size}
use Rattle.rsvp_base.specs.Under.{under}
use Rattle.rsvp_base.specs.declared.session.Session.{Session}
use Rattle.rsvp_base.specs.declared.session.Sender.{Sender}
use Rattle.rsvp_base.specs.declared.style.StyleKind.{StyleKind}
use Rattle.rsvp_base.specs.declared.style.Unit.{Unit as UnitOf}
use Rattle.rsvp_base.specs.declared.style.StyleKind.TheVariants.{Wild, Fixed, Shared}
use Rattle.rsvp_base.proofs.Counts.{found_in, in_set_of, size-set_of, size_below}
use Rattle.rsvp_base.proofs.Members.{to_each, to_filter}
use Rattle.rsvp_base.proofs.SessionCounts.{all_at_most}
use Rattle.rsvp_base.proofs.Tables.{tied_self}
use Rattle.style_rules.specs.Limits.{IsWithinLimits, line_keys_of, of_style}
use Rattle.style_rules.specs.Lines.{Line, LineKey, NextHop, line_key, line_keys, next_hops}
use Rattle.router_rules.specs.Bounds.{AreWithinLimits}
use Rattle.router_rules.specs.Books.{line_of, lines_of}
use Rattle.router_rules.specs.Facts.{Facts, PathState, ResvState, Resvs, SenderKey, resvs_in, resvs_of, sender_keys}
use Rattle.router_rules.specs.Known.{Lane, lane_keys, lanes, lanes_of}
use Rattle.router_rules.specs.NodeConfig.{NodeConfig, goes_out, outward}
use Rattle.router_rules.specs.Offers.{OfferKey, offer_at, offer_keys, offers, ways_of}
use Rattle.laws_bounds.proofs.Lengths.{few_pass, sixteen_each, table_at_most, three_each}

-- ---- senders and paths
pub few_senders : {X : Type 0} (m : Table sender_keys X) → IsWithinSessionLimits senders m → size m ≤ 512
few_senders m w = all_at_most senders 32 m w.all w.one

-- ---- offers: at most one of a sender and an interface
abbrev way_of : SenderKey → ℕ → OfferKey
way_of k i = record { session = k.0; sender = k.1; iface = i }

few_ways : (p : NodeConfig) (k : SenderKey) → length p.ifaces ≤ 16 → length (ways_of p k) ≤ 16
few_ways p k few =
    let named : length (ways_of p k) ≡ length (outward p k.0 k.1) = length-map (outward p k.0 k.1) (way_of k) in
    let some = few_pass (λ i. goes_out p k.0 i k.1) (range_with_len 0 (length p.ifaces)) in
    omega (arith, named, some, length-range_with_len 0 (length p.ifaces), few)

pub few_offers : (p : NodeConfig) (f : Facts) → length p.ifaces ≤ 16 → IsWithinSessionLimits senders f.senders → IsWithinSessionLimits senders f.paths → size (offers p f) ≤ 16384
few_offers p f few local far =
    let all = keys f.senders ++ keys f.paths in
    let known : length all ≡ size f.senders + size f.paths = length-append (keys f.senders) (keys f.paths) ∙ both in
    let ways = sixteen_each (ways_of p) all (λ k. few_ways p k few) in
    let rows = table_at_most offer_keys (offer_at f) (flat_map (ways_of p) all) in
    omega (arith, rows, ways, known, few_senders f.senders local, few_senders f.paths far)
  where
    both : length (keys f.senders) + length (keys f.paths) ≡ size f.senders + size f.paths
    both = omega (arith, length-map f.senders.rows (λ e. e.0), length-map f.paths.rows (λ e. e.0))

-- ---- lanes: three of a path
three_lanes : (e : SenderKey × PathState) → length (lanes_of e) ≤ 3
three_lanes e = omega arith

pub few_lanes : (f : Facts) → IsWithinSessionLimits senders f.paths → length (keys (lanes f)) ≤ 1536
few_lanes f far =
    let listed = three_each lanes_of f.paths.rows three_lanes in
    let set = size-set_of lane_keys (flat_map lanes_of f.paths.rows) in
    let named : length (keys (lanes f)) ≡ size (lanes f) = length-map (lanes f).rows (λ e. e.0) in
    omega (arith, listed, set, named, few_senders f.paths far)

-- ---- reservations of a style
few_lines : (st : StyleKind) (t : Resvs) → IsWithinLimits st (lines_of st t) → size t ≤ 1024
few_lines st t w =
    let ls = of_style st (lines_of st t) in
    let below : size t ≤ size (line_keys_of ls) = size_below line_keys t (line_keys_of ls) there in
    omega (arith, below, w.lines)
  where
    some_of : (k : LineKey) (o : Option ResvState) → get t k ≡ o → has t k ≡ true → (r : ResvState) × (get t k ≡ Some r)
    some_of k None e h = let z : false ≡ true = sym (ap is_some e) ∙ h in absurd (cc)
    some_of k (Some r) e h = (r, e)

    there : (k : LineKey) → has t k ≡ true → has (line_keys_of (of_style st (lines_of st t))) k ≡ true
    there k h =
        let r = some_of k (get t k) refl h in
        let row = found_in line_keys t k r.0 r.1 in
        let line = to_each (line_of st) (k, r.0) t.rows row in
        let kept = to_filter (λ (l : Line). eq_by_cmp styles.cmp st l.style) (line_of st (k, r.0)) (lines_of st t) line (tied_self styles st) in
        in_set_of line_keys (each line_key (of_style st (lines_of st t))) k (to_each line_key (line_of st (k, r.0)) (of_style st (lines_of st t)) kept)

abbrev behind_session : LineKey × ResvState → (NextHop × UnitOf) × ResvState
behind_session e = (e.0.1, e.1)

pub few_resvs : (f : Facts) → AreWithinLimits f → (st : StyleKind) (s : Session) → length (resvs_in st f s).rows ≤ 1024
few_resvs f w st s =
    let all = few_lines st (resvs_of st f) (w.resvs st) in
    let named = length-map (filter (λ (e : LineKey × ResvState). eq_by_cmp sessions.cmp s e.0.0) (resvs_of st f).rows) behind_session in
    let some = few_pass (λ (e : LineKey × ResvState). eq_by_cmp sessions.cmp s e.0.0) (resvs_of st f).rows in
    omega (arith, all, named, some)
