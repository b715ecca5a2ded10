-- How many errors and confirmations an input makes by itself.
use Rattle.std.specs.Prelude.{◌≡◌, ℕ, ◌+◌, ◌*◌, ◌≤◌, Bool, true, false, cond, ◌&&◌, List, [], ◌∷◌, ◌++◌, length, map as each, Option, None, Some, refl}
use Rattle.std.proofs.Common.{sym, ap, ◌∙◌, arith}
use Rattle.std.proofs.lemmas.List.{length-append, length-map}
use Rattle.std.specs.List.{filter_map}
use Rattle.rsvp_base.specs.declared.addr.Addr.{Addr}
use Rattle.rsvp_base.specs.declared.session.Sender.{Sender}
use Rattle.rsvp_base.specs.declared.style.StyleKind.{StyleKind}
use Rattle.rsvp_base.specs.declared.style.Unit.{Unit as UnitOf}
use Rattle.rsvp_base.specs.declared.part.Part.{Part}
use Rattle.rsvp_base.specs.Orders.{Names}
use Rattle.rsvp_base.specs.Sets.{is_none}
use Rattle.router_rules.specs.declared.answers.Heard.TheVariants as heard
use Rattle.router_rules.specs.declared.answers.Why.TheVariants as why
use Rattle.rsvp_base.specs.Table.{empty, get, has, values, with_rows}
use Rattle.rsvp_base.specs.TokenBucket.{TokenBucket}
use Rattle.admission_book.specs.declared.refused.Refused.{Refused}
use Rattle.rsvp_messages.specs.declared.fault.MsgErr.{MsgErr}
use Rattle.rsvp_messages.specs.declared.message.Message.{Message}
use Rattle.rsvp_messages.specs.declared.message.Message.TheVariants as message
use Rattle.rsvp_messages.specs.declared.message.PathErrMsg.{PathErrMsg}
use Rattle.rsvp_messages.specs.declared.message.ResvErrMsg.{ResvErrMsg}
use Rattle.rsvp_messages.specs.declared.message.ResvConfMsg.{ResvConfMsg}
use Rattle.rsvp_messages.specs.declared.message.ResvMsg.{ResvMsg}
use Rattle.rsvp_messages.specs.Units.{AskedUnit, ask_style, asked_units}
use Rattle.style_rules.specs.Lines.{NextHop, next_hops}
use Rattle.router_rules.specs.Act.{act, act_message, act_spelt, is_mine}
use Rattle.router_rules.specs.Asking.{Asker, Blamed, Nobody, Everyone, These, Taking, asker_of, losses, lost, matched, names_that_match, nothing_taken, put_tested, put_unit, book_refuses}
use Rattle.router_rules.specs.Asking.{has_entry, has_room, refusal, style_conflict, style_value, take_unit, take_units, taking_of, tell_lost, value_of}
use Rattle.router_rules.specs.Bounds.{AreWithinLimits}
use Rattle.router_rules.specs.Confirming.{conf_on, confs_heard, confs_on}
use Rattle.router_rules.specs.Errors.{ErrorsHeard, error_on, errors_on, lane_of, path_err, path_err_on, replied, reply_to}
use Rattle.router_rules.specs.Facts.{Facts, PathState, ResvState, resvs_in, resvs_of, with_resvs}
use Rattle.router_rules.specs.Inputs.{Arrival, Asked, Call, Came, Change, Clear, ConfSend, ErrSend, Input, Moved, Spelt, Unspelt, Wait}
use Rattle.router_rules.specs.Known.{Lane, known}
use Rattle.router_rules.specs.NodeConfig.{NodeConfig, goes_out, is_own}
use Rattle.style_rules.specs.Parts.{part_of}
use Rattle.laws_bounds.specs.CountLaws.{HasFewUnits, IsFewArrival, IsFewInput}
use Rattle.laws_bounds.proofs.Lengths.{few_given, rows_at_most}
use Rattle.laws_bounds.proofs.Sizes.{few_resvs}

pub record AreFew (k : Change) : Type 0 where
  pub errors : length k.errors ≤ 1024
  pub confs : length k.confs ≤ 1024

-- ---- one error at most
one_reply : (o : Option ErrSend) → length (replied o).0 ≤ 1
one_reply None = omega arith
one_reply (Some s) = omega arith

one_path_err_on : (m : PathErrMsg) (b : Bool) (o : Option PathState) → length (path_err_on m b o).0 ≤ 1
one_path_err_on m true o = omega arith
one_path_err_on m false None = omega arith
one_path_err_on m false (Some x) = omega arith

one_path_err : (p : NodeConfig) (iface : ℕ) (m : PathErrMsg) (o : Option Sender) (f : Facts) → length (path_err p iface m o f).0 ≤ 1
one_path_err p iface m None f = omega arith
one_path_err p iface m (Some x) f = by (goes_out p m.session iface x) (path_err_on m (has f.senders (m.session, x)) (get f.paths (m.session, x))) (one_path_err_on m _ _)
  where
    by : (b : Bool) (r : ErrorsHeard) → length r.0 ≤ 1 → length (cond b r ([], heard.Dropped why.NotOutward)).0 ≤ 1
    by true r few = few
    by false r few = omega arith

-- ---- a Resv: of each unit one for the senders that are not there, and one by the book
one_loss : (p : NodeConfig) (o : Asker) (flow : TokenBucket) (b : Blamed) → length (losses p o flow b) ≤ 1
one_loss p o flow Nobody = omega arith
one_loss p o flow Everyone = omega arith
one_loss p o flow (These names) = omega arith

one_put : (p : NodeConfig) (o : Asker) (f : Facts) (u : UnitOf) (part : Part) (room : Bool) (reason : Option Refused) (t : Taking)
    → length (put_tested p o f u part room reason t).errors ≤ length t.errors + 1
one_put p o f u part false reason t = omega arith
one_put p o f u part true (Some reason) t = omega (arith, length-append t.errors (refusal p o (has_entry o f u t.table) 1 (value_of reason) (Some part.senders) part.flow ∷ []))
one_put p o f u part true None t = omega arith

one_unit_put : (p : NodeConfig) (o : Asker) (f : Facts) (u : UnitOf) (part : Option Part) (t : Taking) → length (put_unit p o f u part t).errors ≤ length t.errors + 1
one_unit_put p o f u None t = omega arith
one_unit_put p o f u (Some part) t = one_put p o f u part (has_room o u part t.table) (book_refuses p o f u part t.table) t

two_a_unit : (p : NodeConfig) (o : Asker) (f : Facts) (all : Names) (t : Taking) (u : AskedUnit) → length (take_unit p o f all t u).errors ≤ length t.errors + 2
two_a_unit p o f all t u =
    let ls = losses p o u.flow (lost o.style u.names all) in
    let told = one_unit_put p o f u.unit (part_of (names_that_match u.names all) u.flow) (tell_lost p o u.flow (lost o.style u.names all) t) in
    omega (arith, told, length-append t.errors ls, one_loss p o u.flow (lost o.style u.names all))

two_each : (p : NodeConfig) (o : Asker) (f : Facts) (all : Names) (t : Taking) (us : List AskedUnit) → length (take_units p o f all t us).errors ≤ length t.errors + 2 * length us
two_each p o f all t [] = omega arith
two_each p o f all t (u ∷ us) = omega (arith, two_each p o f all (take_unit p o f all t u) us, two_a_unit p o f all t u)

few_taking : (p : NodeConfig) (o : Asker) (us : List AskedUnit) (f : Facts) (b : Bool) (other : Option StyleKind) → length (taking_of p o us f b other).errors ≤ 2 * length us
few_taking p o us f true other = omega (arith, length-map us (λ (u : AskedUnit). refusal p o false 3 0 u.names u.flow))
few_taking p o us f false (Some other) = omega (arith, length-map us (λ (u : AskedUnit). refusal p o false 5 (style_value other) u.names u.flow))
few_taking p o us f false None = omega (arith, two_each p o f (matched p f o) (nothing_taken (resvs_of o.style f) []) us)

-- ---- a ResvErr goes on to at most as many as there are reservations
few_errors_on : (p : NodeConfig) (f : Facts) (l : Lane) (m : ResvErrMsg) → length (resvs_in l.style f l.session).rows ≤ 1024 → length (errors_on p f l m) ≤ 1024
few_errors_on p f l m few =
    let es = filter_map (error_on p f l m) (resvs_in l.style f l.session).rows in
    let rows = rows_at_most {X = ErrSend} next_hops es empty in
    let named = length-map (with_rows (empty {o = next_hops}) es).rows (λ (e : NextHop × ErrSend). e.1) in
    omega (arith, rows, named, few_given (error_on p f l m) (resvs_in l.style f l.session).rows, few)

if_there : (b : Bool) (es : List ErrSend) → length es ≤ 1024 → length (cond b es []) ≤ 1024
if_there true es few = few
if_there false es few = omega arith

-- ---- and so does a ResvConf
few_confs_on : (m : ResvConfMsg) (f : Facts) → length (resvs_in (ask_style m.ask) f m.session).rows ≤ 1024 → length (confs_on m f) ≤ 1024
few_confs_on m f few =
    let es = filter_map (conf_on m) (resvs_in (ask_style m.ask) f m.session).rows in
    let rows = rows_at_most {X = ConfSend} next_hops es empty in
    let named = length-map (with_rows (empty {o = next_hops}) es).rows (λ (e : NextHop × ConfSend). e.1) in
    omega (arith, rows, named, few_given (conf_on m) (resvs_in (ask_style m.ask) f m.session).rows, few)

confs_stay : (b : Bool) (ss : List ConfSend) → length ss ≤ 1024 → length (confs_heard b ss).0 ≤ 1024
confs_stay true ss few = omega arith
confs_stay false [] few = omega arith
confs_stay false (s ∷ ss) few = few

-- ---- each input
none_made : {k : Change} → k.errors ≡ [] → k.confs ≡ [] → AreFew k
none_made e c = record { errors = omega (arith, ap length e); confs = omega (arith, ap length c) }

few_none : 0 ≤ 1024
few_none = omega arith

few_of_message : (p : NodeConfig) (c iface : ℕ) (m : Message) (f : Facts) → AreWithinLimits f → HasFewUnits m → AreFew (act_message p c iface m f)
few_of_message p c iface (message.Path m) f w few = none_made refl refl
few_of_message p c iface (message.Resv m) f w few =
    let units : length (asked_units m.ask) ≤ 16 = few in
    let made : length (act_message p c iface (message.Resv m) f).errors ≤ 2 * length (asked_units m.ask) =
    few_taking p (asker_of p c iface m) (asked_units m.ask) f (is_none (known f m.session)) (style_conflict f m.session (ask_style m.ask)) in
    record { errors = omega (arith, made, units); confs = few_none }
few_of_message p c iface (message.PathErr m) f w few =
    let made : length (act_message p c iface (message.PathErr m) f).errors ≤ 1 = one_path_err p iface m m.sender f in
    record { errors = omega (arith, made); confs = few_none }
few_of_message p c iface (message.ResvErr m) f w few =
    let k = act_message p c iface (message.ResvErr m) f in
    record { errors = if_there _ (errors_on p k.facts (lane_of iface m) m) (few_errors_on p k.facts (lane_of iface m) m (few_resvs f w m.blame.style m.session)); confs = few_none }
few_of_message p c iface (message.PathTear m) f w few = none_made refl refl
few_of_message p c iface (message.ResvTear m) f w few = none_made refl refl
few_of_message p c iface (message.ResvConf m) f w few =
    record { errors = few_none; confs = confs_stay (is_own p m.confirm) (confs_on m f) (few_confs_on m f (few_resvs f w (ask_style m.ask) m.session)) }

few_of_spelt : (p : NodeConfig) (c iface : ℕ) (m : Message) (b : Bool) (f : Facts) → AreWithinLimits f → HasFewUnits m → AreFew (act_spelt p c iface m b f)
few_of_spelt p c iface m false f w few = none_made refl refl
few_of_spelt p c iface m true f w few = few_of_message p c iface m f w few

few_of_arrival : (p : NodeConfig) (c iface : ℕ) (dst : Addr) (a : Arrival) (f : Facts) → AreWithinLimits f → IsFewArrival a → AreFew (act p c (Came iface dst a) f)
few_of_arrival p c iface dst (Spelt m) f w few = few_of_spelt p c iface m (is_mine p iface dst m) f w few
few_of_arrival p c iface dst (Unspelt m) f w few =
    let made : length (act p c (Came iface dst (Unspelt m)) f).errors ≤ 1 = one_reply (reply_to p iface dst m) in
    record { errors = omega (arith, made); confs = few_none }

pub few_made : (p : NodeConfig) (c : ℕ) (i : Input) (f : Facts) → AreWithinLimits f → IsFewInput i → AreFew (act p c i f)
few_made p c (Call l) f w few = none_made refl refl
few_made p c (Wait ms word) f w few = none_made refl refl
few_made p c Clear f w few = none_made refl refl
few_made p c (Came iface dst a) f w few = few_of_arrival p c iface dst a f w few
few_made p c Moved f w few = none_made refl refl
