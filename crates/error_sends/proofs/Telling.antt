-- What goes on to next hops, said one after another.
use Rattle.std.specs.Prelude.{◌≡◌, ℕ, Bool, true, false, cond, not, ◌||◌, is_some, List, [], ◌∷◌, Option, Some, None, refl}
use Rattle.std.proofs.Common.{sym, ap, ◌∙◌}
use Rattle.std.specs.List.{cons_option, filter_map}
use Rattle.std.specs.Option.{option_map}
use Rattle.std.specs.Ordering.{eq_by_cmp}
use Rattle.rsvp_base.specs.Orders.{units}
use Rattle.rsvp_base.specs.Table.{Table}
use Rattle.rsvp_base.specs.declared.style.StyleKind.{StyleKind}
use Rattle.rsvp_messages.specs.declared.message.ResvConfMsg.{ResvConfMsg}
use Rattle.rsvp_messages.specs.declared.message.ResvErrMsg.{ResvErrMsg}
use Rattle.style_rules.specs.Lines.{NextHop, next_hops}
use Rattle.style_rules.specs.Ways.{WayTable}
use Rattle.resv_state.specs.Walks.{rests}
use Rattle.resv_state.specs.declared.fact.ResvFact.{ResvFact}
use Rattle.router_rules.specs.Asking.{Blamed, Nobody, Everyone, These}
use Rattle.router_rules.specs.Errors.{blamed, error_listing, error_to, is_for_blockaded}
use Rattle.router_rules.specs.Inputs.{Send}
use Rattle.router_rules.specs.NodeConfig.{NodeConfig}
use Rattle.router_rules.specs.Sends.{conf_send}
use Rattle.error_sends.specs.Passing.{is_confirmed}
use Rattle.error_sends.specs.Going.{are_some, as_send, conf_at, confs_told, error_at, errors_told, is_held_back}
use Rattle.error_sends.specs.Runs.{said_behind, said_from}
use Rattle.error_sends.proofs.Runs.{all_said, given_up}

own_hop : (hop : NextHop) (y e : NextHop × Send) → y.0 ≡ hop → Some y ≡ Some e → e.0 ≡ hop
own_hop hop y e h is = let same : y ≡ e = cc in sym (ap (λ (z : NextHop × Send). z.0) same) ∙ h

error_own : (p : NodeConfig) (m : ResvErrMsg) (hop : NextHop) (b : Bool) (w : Blamed) (e : NextHop × Send) → option_map as_send (cond b (error_to p m hop w) None) ≡ Some e → e.0 ≡ hop
error_own p m hop false w e is = absurd (cc)
error_own p m hop true Nobody e is = absurd (cc)
error_own p m hop true Everyone e is = own_hop hop (as_send (error_listing p m hop None)) e refl is
error_own p m hop true (These names) e is = own_hop hop (as_send (error_listing p m hop (Some names))) e refl is

conf_own : (m : ResvConfMsg) (hop : NextHop) (b : Bool) (e : NextHop × Send) → cond {A = Option (NextHop × Send)} b (Some (hop, conf_send (record { iface = hop.0; dst = hop.1; conf = m }))) None
    ≡ Some e → e.0 ≡ hop
conf_own m hop false e is = absurd (cc)
conf_own m hop true e is = own_hop hop (hop, conf_send (record { iface = hop.0; dst = hop.1; conf = m })) e refl is

pub errors_said : (p : NodeConfig) (up : WayTable) (m : ResvErrMsg) (st : StyleKind) (t : Table rests (ResvFact × ℕ))
    → errors_told p up m st t.rows ≡ said_from next_hops None (filter_map (error_at p up m st) t.rows)
errors_said p up m st t =
    all_said next_hops (filter_map (error_at p up m st) t.rows)
    (given_up next_hops units (error_at p up m st) (λ r e is. error_own p m r.0.0 (not (is_for_blockaded m) || is_held_back up r.0.0.0 r.1.0.part)
    (blamed st m.blame.senders r.1.0.part.senders) e is) t.rows t.sorted)

pub confs_said : (m : ResvConfMsg) (st : StyleKind) (t : Table rests (ResvFact × ℕ)) → confs_told m st t.rows ≡ said_from next_hops None (filter_map (conf_at m st) t.rows)
confs_said m st t =
    all_said next_hops (filter_map (conf_at m st) t.rows)
    (given_up next_hops units (conf_at m st) (λ r e is. conf_own m r.0.0 (is_confirmed r.1.0.part r.1.0.confirm st m.confirm m.ask) e is) t.rows t.sorted)

-- ---- whether there are some
some_behind : (l : NextHop × Send) (es : List (NextHop × Send)) → are_some (said_behind next_hops l es) ≡ true
some_behind l [] = refl
some_behind l (e ∷ es) = by (eq_by_cmp next_hops.cmp l.0 e.0) (some_behind e es)
  where
    by : (b : Bool) → are_some (said_behind next_hops e es) ≡ true → are_some (cond b (said_behind next_hops e es) (l.1 ∷ said_behind next_hops e es)) ≡ true
    by true h = h
    by false h = refl

some_said : (es : List (NextHop × Send)) → are_some (said_from next_hops None es) ≡ are_some es
some_said [] = refl
some_said (e ∷ es) = some_behind e es

pub confs_some : (m : ResvConfMsg) (st : StyleKind) (t : Table rests (ResvFact × ℕ)) → are_some (confs_told m st t.rows) ≡ are_some (filter_map (conf_at m st) t.rows)
confs_some m st t = ap are_some (confs_said m st t) ∙ some_said (filter_map (conf_at m st) t.rows)

-- one more, or none
pub some_more : {A : Type 0} (a : Bool) (w : Option A) (es : List A) → (a || are_some (cons_option w es)) ≡ ((a || is_some w) || are_some es)
some_more true w es = refl
some_more false None es = refl
some_more false (Some x) es = refl

pub mapped : {A B : Type 0} (f : A → B) (w : Option A) → is_some w ≡ is_some (option_map f w)
mapped f None = refl
mapped f (Some x) = refl

pub none_left : (b : Bool) → (b || false) ≡ b
none_left true = refl
none_left false = refl
