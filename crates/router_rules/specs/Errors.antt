-- Errors: those of messages that are not spelt are answered, those that come are passed on (RFC 2205, 3.1.7, 3.1.8, 3.5,
-- 3.10 and appendix B; RFC 2209, 2: PATH ERROR MESSAGE ARRIVES, RESV ERROR MESSAGE ARRIVES).
use Rattle.std.specs.Prelude.{ℕ, ◌+◌, ◌*◌, ◌==◌, nat_le, Bool, true, false, cond, not, ◌&&◌, ◌||◌, is_some, List, [], ◌∷◌, map as each, Option, Some, None, option_and_then}
use Rattle.std.specs.List.{list_any, filter_map}
use Rattle.rsvp_base.specs.declared.addr.Addr.{Addr}
use Rattle.rsvp_base.specs.declared.err_spec.ErrSpec.{ErrSpec}
use Rattle.rsvp_base.specs.declared.hop.Hop.{Hop}
use Rattle.rsvp_base.specs.declared.part.Part.{Part}
use Rattle.rsvp_base.specs.declared.session.Sender.{Sender}
use Rattle.rsvp_base.specs.declared.session.Session.{Session}
use Rattle.rsvp_base.specs.declared.style.StyleKind.{StyleKind}
use Rattle.rsvp_base.specs.declared.style.StyleKind.TheVariants.{Wild, Fixed, Shared}
use Rattle.rsvp_base.specs.declared.style.Unit.{Unit as UnitOf}
use Rattle.rsvp_base.specs.Orders.{Names}
use Rattle.rsvp_base.specs.Sets.{cut, is_none}
use Rattle.rsvp_base.specs.Table.{empty, get, has, keys, size, values, with_rows}
use Rattle.rsvp_base.specs.TokenBucket.{TokenBucket}
use Rattle.rsvp_messages.specs.declared.fault.Fault.{Fault}
use Rattle.rsvp_messages.specs.declared.fault.Fault.TheVariants as fault
use Rattle.rsvp_messages.specs.declared.fault.Hint.{Hint}
use Rattle.rsvp_messages.specs.declared.fault.MsgErr.{MsgErr}
use Rattle.rsvp_messages.specs.declared.message.Kind.{Kind}
use Rattle.rsvp_messages.specs.declared.message.Kind.TheVariants as kind
use Rattle.rsvp_messages.specs.declared.message.PathErrMsg.{PathErrMsg}
use Rattle.rsvp_messages.specs.declared.message.ResvErrMsg.{ResvErrMsg}
use Rattle.rsvp_messages.specs.RsvpObjects.declared.obj_err.ObjErr.{ObjErr}
use Rattle.rsvp_messages.specs.RsvpObjects.declared.obj_err.ObjErr.TheVariants as obj
use Rattle.style_rules.specs.Lines.{NextHop, next_hops}
use Rattle.router_rules.specs.declared.answers.Heard.{Heard}
use Rattle.router_rules.specs.declared.answers.Heard.TheVariants as heard
use Rattle.router_rules.specs.declared.answers.Why.TheVariants as why
use Rattle.style_rules.specs.declared.target.Target.TheVariants as target
use Rattle.router_rules.specs.Asking.{answered, Blamed, Nobody, Everyone, These}
use Rattle.router_rules.specs.Facts.{Facts, PathState, ResvState, Blockade, Walls, paths_in, resvs_in}
use Rattle.style_rules.specs.Targets.{WallKey}
use Rattle.router_rules.specs.Inputs.{Change, only_heard, ErrSend, OfPath, OfResv}
use Rattle.router_rules.specs.Known.{Lane, came_by}
use Rattle.router_rules.specs.NodeConfig.{NodeConfig, goes_out, own, is_addr, wall_lifetime}
use Rattle.router_rules.specs.Requests.{is_blockaded, resv_part}

-- errors, and what was heard
abbrev pub ErrorsHeard : Type 0
ErrorsHeard = List ErrSend × Heard

abbrev pub with_errors : Facts → ErrorsHeard → Change
with_errors f r = record (only_heard r.1 f) { errors = r.0 }

-- ---- messages that are not spelt
-- code and value of a fault of a Path or a Resv: an unknown class (13) or C-Type (14), a traffic control error (21)
abbrev pub object_code : Kind → ObjErr → Option (ℕ × ℕ)
object_code kind.Path (obj.Class at class ctype) = Some (13, 256 * class + ctype)
object_code kind.Resv (obj.Class at class ctype) = Some (13, 256 * class + ctype)
object_code kind.Path (obj.CType at class ctype) = Some (14, 256 * class + ctype)
object_code kind.Resv (obj.CType at class ctype) = Some (14, 256 * class + ctype)
object_code kind.Path (obj.Tspec at) = Some (21, 4)
object_code kind.Resv (obj.Service at) = Some (21, 2)
object_code kind.Resv (obj.Flow at) = Some (21, 3)
object_code k o = None

abbrev pub fault_code : Kind → Fault → Option (ℕ × ℕ)
fault_code k (fault.Object o) = object_code k o
fault_code k f = None

-- whom a fault is told, by the hint: a Path's sender, or a Resv's style
pub data Addressee : Type 0 where
  PathFrom : Session → Hop → Option Sender → Addressee
  ResvFrom : Session → Hop → StyleKind → Addressee

abbrev pub addressee : Kind → Option Session → Option Hop → Option StyleKind → Option Sender → Option Addressee
addressee kind.Path (Some s) (Some h) st x = Some (PathFrom s h x)
addressee kind.Resv (Some s) (Some h) (Some st) x = Some (ResvFrom s h st)
addressee k s h st x = None

abbrev pub addressee_of : Kind → Hint → Option Addressee
addressee_of k h = addressee k h.session h.hop h.style h.sender

abbrev pub replied : Option ErrSend → ErrorsHeard
replied None = ([], heard.Dropped why.Unspelt)
replied (Some s) = (s ∷ [], answered s.error)

module _ (p : NodeConfig) (iface : ℕ) (dst : Addr) where
  -- the error that is answered, and to whom; it was to come to the group, or to the node
  abbrev pub reply : ℕ × ℕ → Addressee → Option ErrSend
  reply code (PathFrom s h x) =
      cond (is_addr dst s.group)
      (Some (record {
        iface = iface;
        dst = h.addr;
        error = OfPath
            (record { session = s; err = record { node = own p iface; in_place = false; not_guilty = false; code = code.0; value = code.1 }; sender = x });
      }))
      None
  reply code (ResvFrom s h st) =
      cond (is_addr dst (own p iface))
      (Some (record {
        iface = iface;
        dst = h.addr;
        error = OfResv (record {
          session = s;
          hop = record { addr = own p iface; handle = 0 };
          err = record { node = own p iface; in_place = false; not_guilty = false; code = code.0; value = code.1 };
          blame = record { style = st; senders = None; flow = None };
        });
      }))
      None

  -- where the fault has a code, and the hint what the answer needs
  abbrev pub reply_to : MsgErr → Option ErrSend
  reply_to m = option_and_then (λ k. option_and_then (λ a. option_and_then (λ code. reply code a) (fault_code k m.fault)) (addressee_of k m.hint)) m.kind

  abbrev pub act_unspelt : MsgErr → Facts → Change
  act_unspelt m f = with_errors f (replied (reply_to m))

-- ---- PathErr: to the hop from which the sender's path came, until it is local
abbrev pub path_err_on : PathErrMsg → Bool → Option PathState → ErrorsHeard
path_err_on m true x = ([], heard.Taken)
path_err_on m false None = ([], heard.Dropped why.NoState)
path_err_on m false (Some x) = ((record { iface = x.iface; dst = x.hop.addr; error = OfPath m }) ∷ [], heard.Taken)

module _ (p : NodeConfig) (iface : ℕ) (m : PathErrMsg) where
  abbrev pub path_err : Option Sender → Facts → ErrorsHeard
  path_err None f = ([], heard.Dropped why.NoSender)
  path_err (Some x) f = cond (goes_out p m.session iface x) (path_err_on m (has f.senders (m.session, x)) (get f.paths (m.session, x))) ([], heard.Dropped why.NotOutward)

  abbrev pub act_path_err : Facts → Change
  act_path_err f = with_errors f (path_err m.sender f)

-- ---- ResvErr sets blockades
-- what it blockades: a wildcard filter the hop from which it came, the others each sender that it names
abbrev pub blamed_senders : Option Names → List Sender
blamed_senders None = []
blamed_senders (Some names) = keys names

abbrev pub walled_by : ℕ → ResvErrMsg → StyleKind → List WallKey
walled_by e m Wild = (m.session, target.Hop e m.hop.addr) ∷ []
walled_by e m Fixed = each (λ x. (m.session, target.Sender x)) (blamed_senders m.blame.senders)
walled_by e m Shared = each (λ x. (m.session, target.Sender x)) (blamed_senders m.blame.senders)

-- admission control failure for the rate or the packet size
abbrev pub is_admission : ErrSpec → Bool
is_admission err = (err.code == 1) && ((err.value == 2) || (err.value == 3))

-- it sets blockades
abbrev pub sets_walls : ResvErrMsg → Bool
sets_walls m = is_admission m.err && is_some m.blame.flow

abbrev pub blockade_of : NodeConfig → ℕ → ResvErrMsg → TokenBucket → Blockade
blockade_of p c m flow = record { wall = record { flow = flow; sub = m.err.value }; dies = c + wall_lifetime p }

abbrev pub walls_with : NodeConfig → ℕ → ℕ → ResvErrMsg → Option TokenBucket → Walls → Walls
walls_with p c e m None w = w
walls_with p c e m (Some flow) w = cond (is_admission m.err) (with_rows w (each (λ k. (k, blockade_of p c m flow)) (walled_by e m m.blame.style))) w

-- ---- ResvErr goes on
-- the senders with which it goes on to a reservation, where it does: those of the reservation that it names. A wildcard
-- error without SCOPE speaks of all, and goes on with the reservation's names
abbrev pub blamed : StyleKind → Option Names → Names → Blamed
blamed st (Some names) all = cond (is_none (cut all names)) Nobody (These (cut all names))
blamed Wild None all = These all
blamed Fixed None all = Everyone
blamed Shared None all = Everyone

-- where a smaller reservation stands, only those are told that asked for too much
abbrev pub is_for_blockaded : ResvErrMsg → Bool
is_for_blockaded m = m.err.in_place && ((m.err.code == 1) && is_some m.blame.flow)

abbrev pub is_part_blockaded : Walls → Lane → Option Part → Bool
is_part_blockaded w l None = false
is_part_blockaded w l (Some part) = is_blockaded l.style w l part

abbrev pub error_listing : NodeConfig → ResvErrMsg → NextHop → Option Names → NextHop × ErrSend
error_listing p m hop names =
    (hop, record { iface = hop.0; dst = hop.1; error = OfResv (record m { hop = record { addr = own p hop.0; handle = 0 }; blame = record m.blame { senders = names } }) })

abbrev pub error_to : NodeConfig → ResvErrMsg → NextHop → Blamed → Option (NextHop × ErrSend)
error_to p m hop Nobody = None
error_to p m hop Everyone = Some (error_listing p m hop None)
error_to p m hop (These names) = Some (error_listing p m hop (Some names))

module _ (p : NodeConfig) (f : Facts) (l : Lane) (m : ResvErrMsg) where
  abbrev pub is_told : (NextHop × UnitOf) × ResvState → Bool
  is_told r = not (is_for_blockaded m) || is_part_blockaded f.walls l (resv_part p f l r)

  abbrev pub error_on : (NextHop × UnitOf) × ResvState → Option (NextHop × ErrSend)
  error_on r = cond (is_told r) (error_to p m r.0.0 (blamed l.style m.blame.senders r.1.part.senders)) None

  -- one for each next hop
  abbrev pub errors_on : List ErrSend
  errors_on = values (with_rows (empty {o = next_hops}) (filter_map error_on (resvs_in l.style f l.session).rows))

-- ---- ResvErr as a whole
-- the lane from which it came
abbrev pub lane_of : ℕ → ResvErrMsg → Lane
lane_of e m = record { session = m.session; style = m.blame.style; hop = (e, m.hop.addr) }

abbrev pub walls_after : Bool → Bool → Walls → Walls → Walls
walls_after true true new old = new
walls_after true false new old = old
walls_after false room new old = old

abbrev pub walls_heard : Bool → Bool → Heard
walls_heard true true = heard.Taken
walls_heard true false = heard.Dropped why.Full
walls_heard false room = heard.Dropped why.NoState

-- a previous hop of the session sent it, and the blockades have room; blockade is judged with those just set
abbrev pub act_resv_err : NodeConfig → ℕ → ℕ → ResvErrMsg → Facts → Change
act_resv_err p c e m f =
    let new : Walls = walls_with p c e m m.blame.flow f.walls in
    let from_hop : Bool = list_any (came_by (e, m.hop.addr)) (values (paths_in f m.session)) in
    let room : Bool = not (sets_walls m) || nat_le (size new) 512 in
    let after : Facts = record f { walls = walls_after from_hop room new f.walls } in
    record (only_heard (walls_heard from_hop room) after) { errors = cond (from_hop && room) (errors_on p after (lane_of e m) m) [] }
