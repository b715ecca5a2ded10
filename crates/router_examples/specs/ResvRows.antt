-- Worked rows of reservations, at the nodes of the line.
use Rattle.std.specs.Prelude.{◌≡◌, ℕ, true, false, [], ◌∷◌, map as each, Some, None}
use Rattle.std.specs.List.{range_with_len}
use Rattle.rsvp_base.specs.declared.session.Sender.{Sender}
use Rattle.rsvp_base.specs.declared.style.StyleKind.TheVariants.{Wild, Fixed, Shared}
use Rattle.rsvp_base.specs.declared.style.Unit.TheVariants.{One, Of}
use Rattle.rsvp_base.specs.Sets.{set_of}
use Rattle.rsvp_base.specs.Table.{empty, put_in, size, values}
use Rattle.rsvp_base.specs.TokenBucket.{TokenBucket}
use Rattle.router_rules.specs.RsvpMessages.declared.ask.Ask.{Ask}
use Rattle.router_rules.specs.RsvpMessages.declared.ask.Ask.TheVariants as ask
use Rattle.router_rules.specs.RsvpMessages.declared.ask.Tear.TheVariants as tear
use Rattle.router_rules.specs.RsvpMessages.declared.message.Message.{Message}
use Rattle.router_rules.specs.RsvpMessages.declared.message.Message.TheVariants as message
use Rattle.router_rules.specs.StyleRules.Lines.{held}
use Rattle.router_rules.specs.declared.answers.Heard.TheVariants as heard
use Rattle.router_rules.specs.declared.answers.LocalErr.TheVariants as local
use Rattle.router_rules.specs.declared.answers.StaleErr.TheVariants as stale
use Rattle.router_rules.specs.declared.answers.Why.TheVariants as why
use Rattle.router_rules.specs.StyleRules.declared.target.Target.TheVariants as target
use Rattle.router_rules.specs.Books.{book}
use Rattle.router_rules.specs.Calls.{act_stale, call_refusal, stale_refusal}
use Rattle.router_rules.specs.Facts.{Facts, no_facts, no_resvs}
use Rattle.router_rules.specs.Flags.{police_at}
use Rattle.router_rules.specs.Inputs.{SendAs, WantAs, QuitAll, Stale, StaleResv, StaleWall, Send, Clear, Moved}
use Rattle.router_examples.specs.ThreeRouters.{ip, s1, r1, r2, t1, r3, u1, group, session, first, second, scope, flow, usual, node, node_s, node_r, node_t, fork_r, iface, came, waited}
use Rattle.router_examples.specs.ThreeRouters.{called, path, path_tear, resv, wild, shared, resv_err, error, conf, sent}
use Rattle.router_examples.specs.PathRows.{sixteen, with_path}
use Rattle.router_rules.specs.Rule.{Outcome, rule}

-- ---- a reservation is made and goes on
abbrev with_resv : ℕ → Outcome
with_resv capacity = came (node_r capacity) 0 1 r2 (resv t1 None (wild usual)) with_path.facts

abbrev pub resv_again : Outcome
resv_again = came (node_r 1000) 0 1 r2 (resv t1 None (wild usual)) (with_resv 1000).facts

abbrev one_more : Outcome
one_more = came (node_r 1000) 5000 1 r2 (resv t1 None (wild (flow 1001 2000 64 1500))) (with_resv 1000).facts

pub record ResvGoesOn : Type 0 where
  pub taken : (with_resv 10000).heard ≡ heard.Taken
  pub on : (with_resv 10000).sent ≡ sent 0 s1 (resv r1 None (wild usual)) ∷ []
  pub holds : held (book (with_resv 10000).facts 1) ≡ 1000
  -- at full capacity too a refresh is taken, and nothing new goes on
  pub again : resv_again.heard ≡ heard.Taken
  pub quiet : resv_again.sent ≡ []

-- one byte per second too many: refused where the smaller one stands, which stays as it was
pub record RefusedRaiseKeepsTheOld : Type 0 where
  pub told : one_more.heard ≡ heard.Answered 1 2
  pub answer : one_more.sent ≡ sent 1 t1 (resv_err r2 (error r2 true 1 2) Wild (Some scope) (Some (flow 1001 2000 64 1500))) ∷ []
  pub kept : one_more.facts.resvs ≡ (with_resv 1000).facts.resvs
  pub holds : held (book one_more.facts 1) ≡ 1000
  -- larger packets than the link has
  pub mtu : (came (node_r 10000) 0 1 r2 (resv t1 None (wild (flow 1 2000 64 1501))) with_path.facts).heard ≡ heard.Answered 1 3
  -- what was refused at once has no smaller one in place
  pub at_once : (came (node_r 999) 0 1 r2 (resv t1 None (wild usual)) with_path.facts).sent ≡ sent 1 t1 (resv_err r2 (error r2 false 1 2) Wild (Some scope) (Some usual)) ∷ []

-- ---- no path, no reservation
abbrev halved : Outcome
halved = came (node_r 10000) 0 1 r2 (resv t1 None (shared (first ∷ second ∷ []) usual)) with_path.facts

abbrev cleared : Outcome
cleared = rule (node_r 10000) (node_r 10000) 0 Clear (with_resv 10000).facts

abbrev no_path : Outcome
no_path = came (node_r 10000) 0 1 r2 (resv t1 None (wild usual)) cleared.facts

pub record NoPathNoReservation : Type 0 where
  pub none : no_path.heard ≡ heard.Answered 3 0
  pub none_sent : no_path.sent ≡ sent 1 t1 (resv_err r2 (error r2 false 3 0) Wild (Some scope) (Some usual)) ∷ []
  -- of two senders one has a path: the other is told, and the one has its reservation
  pub half : halved.heard ≡ heard.Answered 4 0
  pub half_sent : halved.sent ≡ sent 1 t1 (resv_err r2 (error r2 false 4 0) Shared (Some (set_of (second ∷ []))) (Some usual)) ∷ sent 0 s1 (resv r1 None (shared (first ∷ []) usual)) ∷ []
  pub half_book : (book halved.facts 1).rows ≡ ((record { session = session; style = Shared; unit = One }), record { senders = set_of (first ∷ []); flow = usual }) ∷ []
  -- a wildcard filter for others alone
  pub others : (came (node_r 10000) 0 1 r2 (resv t1 None (ask.Wild (Some (set_of ((record { addr = t1; port = 0 }) ∷ []))) usual)) with_path.facts).heard ≡ heard.Answered 4 0
  -- and for all
  pub all : (came (node_r 10000) 0 1 r2 (resv t1 None (ask.Wild None usual)) with_path.facts).sent ≡ sent 0 s1 (resv r1 None (wild usual)) ∷ []

-- ---- room: sixteen names are reserved for t, and a seventeenth is asked for by another next hop
abbrev crowded : Facts
crowded = record sixteen {
  senders = put_in sixteen.senders (session, second) usual;
  resvs = record no_resvs {
    shared = put_in empty (session, ((1, t1), One)) (record {
      part = record {
        senders = set_of
            (each (λ port. record { addr = s1; port = port }) (range_with_len 1 16));
        flow = flow 1 1 1 1;
      };
      confirm = None;
      dies = 60000;
    });
  };
}

abbrev seventeenth : Outcome
seventeenth = came (node_r 10000) 0 1 r2 (resv (ip 10 0 2 3) None (shared (second ∷ []) (flow 1 1 1 1))) crowded

pub record LeftOut : Type 0 where
  pub told : seventeenth.heard ≡ heard.Dropped why.Full
  pub quiet : seventeenth.sent ≡ []
  pub kept : seventeenth.facts.resvs ≡ crowded.resvs
  -- one of the sixteen has room
  pub another : (came (node_r 10000) 0 1 r2 (resv (ip 10 0 2 3) None (shared ((record { addr = s1; port = 1 }) ∷ []) (flow 1 1 1 1))) crowded).heard ≡ heard.Taken

-- ---- styles
abbrev other_style : Stale
other_style = StaleResv Fixed (session, ((1, t1), Of first)) (record { part = record { senders = set_of (first ∷ []); flow = flow 50 50 64 1500 }; confirm = None; dies = 60000 })

abbrev pub two_paths : Outcome
two_paths = came fork_r 0 0 group (path true s1 second usual) (came fork_r 0 0 group (path true s1 first usual) no_facts).facts

abbrev pub fixed_for : Sender → TokenBucket → Ask
fixed_for x f = ask.Fixed (put_in empty x f)

abbrev two_fixed : Outcome
two_fixed = came fork_r 0 2 r3 (resv u1 None (fixed_for second (flow 500 500 64 1500))) (came fork_r 0 1 r2 (resv t1 None (fixed_for first (flow 300 300 64 1500))) two_paths.facts).facts

abbrev two_shared : Outcome
two_shared = came fork_r 0 2 r3 (resv u1 None (shared (second ∷ []) (flow 500 500 64 1500))) (came fork_r 0 1 r2 (resv t1 None (shared (first ∷ []) (flow 300 300 64 1500))) two_paths.facts).facts

pub record StylesMergeByTheirUnits : Type 0 where
  pub conflict : (came (node_r 10000) 0 1 r2 (resv t1 None (wild usual)) (act_stale (node_r 10000) other_style with_path.facts)).heard ≡ heard.Answered 5 10
  -- fixed filters of two senders stay apart, shared ones join
  pub apart : two_fixed.sent ≡ sent 0 s1 (resv r1 None (ask.Fixed (put_in (put_in empty first (flow 300 300 64 1500)) second (flow 500 500 64 1500)))) ∷ []
  pub joined : two_shared.sent ≡ sent 0 s1 (resv r1 None (shared (first ∷ second ∷ []) (flow 500 500 64 1500))) ∷ []

-- ---- two next hops of one interface: the book has their merge, and what goes on is from both
abbrev beside_r : Outcome
beside_r = came (node_s 10000) 0 0 s1 (resv (ip 10 0 1 3) None (wild (flow 500 400 128 1000)))
    (came (node_s 10000) 0 0 s1 (resv r1 None (wild (flow 300 600 64 1500))) (called (node_s 10000) 0 (SendAs session first usual) no_facts).facts).facts

pub record NextHopsMerge : Type 0 where
  pub taken : beside_r.heard ≡ heard.Taken
  pub two : size beside_r.facts.resvs.wild ≡ 2
  pub merged : (book beside_r.facts 0).rows ≡ ((record { session = session; style = Wild; unit = One }), record { senders = scope; flow = flow 500 600 64 1500 }) ∷ []
  pub holds : held (book beside_r.facts 0) ≡ 500

-- ---- tears
abbrev quit : Outcome
quit = came (node_r 10000) 0 1 r2 (message.ResvTear (record { session = session; hop = record { addr = t1; handle = 0 }; tear = tear.Wild (Some scope) })) (with_resv 10000).facts

abbrev sender_gone : Outcome
sender_gone = came (node_r 10000) 0 0 group (path_tear s1 first) (with_resv 10000).facts

pub record TearsGoOn : Type 0 where
  pub taken : quit.heard ≡ heard.Taken
  pub on : quit.sent ≡ sent 0 s1 (message.ResvTear (record { session = session; hop = record { addr = r1; handle = 0 }; tear = tear.Wild (Some scope) })) ∷ []
  pub gone : size quit.facts.resvs.wild ≡ 0
  pub no_state : (came (node_r 10000) 0 1 r2 (message.ResvTear (record { session = session; hop = record { addr = t1; handle = 0 }; tear = tear.Shared (set_of (first ∷ [])) }))
      (with_resv 10000).facts).heard
      ≡ heard.Dropped why.NoState
  -- a sender that is torn down leaves the reservations, and no ResvTear goes to a hop that has none
  pub forgotten : size sender_gone.facts.resvs.wild ≡ 0
  pub path_torn : sender_gone.sent ≡ sent 1 group (path_tear r2 first) ∷ []
  -- a tree that moves away takes its reservation with it
  pub moved : (rule (node_r 10000) (node (iface r1 10000 ∷ iface r2 10000 ∷ []) (Some 0) 0) 0 Moved (with_resv 10000).facts).sent
      ≡ sent 1 group (path_tear r2 first) ∷ sent 0 s1 (message.ResvTear (record { session = session; hop = record { addr = r1; handle = 0 }; tear = tear.Wild (Some scope) })) ∷ []

-- ---- blockades: 4 from t and 10 from u toward a link of 8
abbrev pub small : TokenBucket
small = flow 4 8 1 1500

abbrev pub greedy : TokenBucket
greedy = flow 10 8 1 1500

abbrev fork_path : Outcome
fork_path = came fork_r 0 0 group (path true s1 first usual) no_facts

abbrev from_t : Outcome
from_t = came fork_r 0 1 r2 (resv t1 None (wild small)) fork_path.facts

abbrev from_u : Outcome
from_u = came fork_r 0 2 r3 (resv u1 None (wild greedy)) from_t.facts

abbrev source : Outcome
source = called (node_s 8) 0 (SendAs session first usual) no_facts

abbrev source_small : Outcome
source_small = came (node_s 8) 0 0 s1 (resv r1 None (wild small)) source.facts

abbrev source_greedy : Outcome
source_greedy = came (node_s 8) 0 0 s1 (resv r1 None (wild greedy)) source_small.facts

abbrev too_much : Message
too_much = resv_err s1 (error s1 true 1 2) Wild (Some scope) (Some greedy)

abbrev refused : Outcome
refused = came fork_r 0 0 r1 too_much from_u.facts

abbrev after_it : Outcome
after_it = waited fork_r 120000 1 0 refused.facts

pub record GreedyIsBlockaded : Type 0 where
  pub sends_small : from_t.sent ≡ sent 0 s1 (resv r1 None (wild small)) ∷ []
  pub sends_greedy : from_u.sent ≡ sent 0 s1 (resv r1 None (wild greedy)) ∷ []
  pub taken : source_small.heard ≡ heard.Taken
  pub told : source_greedy.heard ≡ heard.Answered 1 2
  pub told_so : source_greedy.sent ≡ sent 0 r1 too_much ∷ []
  pub holds : held (book source_greedy.facts 0) ≡ 4
  -- u alone asked for too much, and hears of it; what t asked for goes on
  pub error_taken : refused.heard ≡ heard.Taken
  pub on : refused.sent ≡ sent 2 u1 (resv_err r3 (error s1 true 1 2) Wild (Some scope) (Some greedy)) ∷ sent 0 s1 (resv r1 None (wild small)) ∷ []
  pub reserved : refused.facts.resvs ≡ from_u.facts.resvs
  -- after four periods the blockade is over, and the larger request is tried again
  pub over : each (λ (s : Send). s.message) after_it.sent ≡ path false r2 first usual ∷ path false r3 first usual ∷ resv r1 None (wild greedy) ∷ []

-- all requests are blockaded: their meet goes on
abbrev raised : Outcome
raised = came (node_r 10000) 0 1 r2 (resv t1 None (wild (flow 1001 2000 64 1500))) (with_resv 10000).facts

abbrev raise_refused : Outcome
raise_refused = came (node_r 10000) 0 0 r1 (resv_err s1 (error s1 true 1 2) Wild (Some scope) (Some (flow 1001 2000 64 1500))) raised.facts

abbrev left_over_wall : Stale
left_over_wall = StaleWall (session, target.Hop 0 s1) (record { wall = record { flow = flow 100 100 1 1500; sub = 2 }; dies = 60000 })

abbrev under_wall : Outcome
under_wall = came (node_r 10000) 0 1 r2 (resv t1 None (wild usual)) (act_stale (node_r 10000) left_over_wall with_path.facts)

-- incomparable requests of 9 and 10, both under a wall of 1
abbrev low_wall : Stale
low_wall = StaleWall (session, target.Hop 0 s1) (record { wall = record { flow = flow 1 1 1 1500; sub = 2 }; dies = 60000 })

abbrev both_walled : Outcome
both_walled = came fork_r 0 2 r3 (resv u1 None (wild (flow 10 8 4 1000))) (came fork_r 0 1 r2 (resv t1 None (wild (flow 9 20 1 1500))) (act_stale fork_r low_wall fork_path.facts)).facts

-- and under a wall of 10, which lets 9 through
abbrev high_wall : Stale
high_wall = StaleWall (session, target.Hop 0 s1) (record { wall = record { flow = flow 10 1 1 1500; sub = 2 }; dies = 60000 })

abbrev pub one_walled : Outcome
one_walled = came fork_r 0 2 r3 (resv u1 None (wild (flow 10 8 4 1000))) (came fork_r 0 1 r2 (resv t1 None (wild (flow 9 20 1 1500))) (act_stale fork_r high_wall fork_path.facts)).facts

pub record BlockadedMerge : Type 0 where
  pub still : raise_refused.sent ≡ sent 1 t1 (resv_err r2 (error s1 true 1 2) Wild (Some scope) (Some (flow 1001 2000 64 1500))) ∷ []
  pub under : under_wall.sent ≡ sent 0 s1 (resv r1 None (wild usual)) ∷ []
  pub meet : both_walled.sent ≡ sent 0 s1 (resv r1 None (wild (flow 9 8 4 1000))) ∷ []
  pub let_through : one_walled.sent ≡ []

-- an error without SCOPE goes on with the names of the reservation; without senders, of another style, as it came
abbrev scopeless : Outcome
scopeless = came (node_r 10000) 0 0 r1 (resv_err s1 (error s1 false 1 2) Wild None (Some (flow 5000 1 1 1500))) (with_resv 10000).facts

abbrev nameless : Outcome
nameless = came (node_r 10000) 0 0 r1 (resv_err s1 (error s1 false 21 2) Shared None None) halved.facts

pub record ErrorsGoOn : Type 0 where
  pub names_all : scopeless.sent ≡ sent 1 t1 (resv_err r2 (error s1 false 1 2) Wild (Some scope) (Some (flow 5000 1 1 1500))) ∷ []
  pub walled : size scopeless.facts.walls ≡ 1
  pub without_names : nameless.sent ≡ sent 1 t1 (resv_err r2 (error s1 false 21 2) Shared None None) ∷ []
  pub no_wall : size nameless.facts.walls ≡ 0
  pub empty_scope : (came (node_r 10000) 0 0 r1 (resv_err s1 (error s1 false 1 2) Wild (Some empty) (Some usual)) (with_resv 10000).facts).sent ≡ []
  pub no_state : (came (node_r 10000) 0 0 r1 (resv_err t1 (error s1 false 1 2) Wild (Some scope) (Some usual)) (with_resv 10000).facts).heard ≡ heard.Dropped why.NoState

-- ---- confirmations
abbrev wish : Outcome
wish = came (node_r 10000) 0 1 r2 (resv t1 (Some t1) (wild usual)) with_path.facts

abbrev wish_at_source : Outcome
wish_at_source = came (node_s 10000) 0 0 s1 (resv r1 (Some t1) (wild usual)) (called (node_s 10000) 0 (SendAs session first usual) no_facts).facts

abbrev stands : Outcome
stands = came (node_r 10000) 0 0 r1 (conf s1 t1 (ask.Wild None usual)) wish.facts

abbrev t_path : Outcome
t_path = came node_t 0 0 group (path false r2 first usual) no_facts

abbrev t_want : Outcome
t_want = called node_t 0 (WantAs session Wild empty usual true) t_path.facts

pub record ConfirmationsComeBack : Type 0 where
  -- a marked want asks for itself, once
  pub asks : t_want.sent ≡ sent 0 r2 (resv t1 (Some t1) (wild usual)) ∷ []
  pub once : each (λ w. w.confirm) (values t_want.facts.wants) ≡ false ∷ []
  -- the wish goes on with the change that it made
  pub on : wish.sent ≡ sent 0 s1 (resv r1 (Some t1) (wild usual)) ∷ []
  -- where nothing new goes on it is granted
  pub granted : wish_at_source.sent ≡ sent 0 r1 (conf s1 t1 (ask.Wild None usual)) ∷ []
  pub known_already : (came (node_r 10000) 0 1 r2 (resv t1 (Some t1) (wild usual)) (with_resv 10000).facts).sent ≡ sent 1 t1 (conf r2 t1 (ask.Wild None usual)) ∷ []
  -- and goes back to who wanted to hear
  pub back : stands.sent ≡ sent 1 t1 (conf s1 t1 (ask.Wild None usual)) ∷ []
  pub arrived : (came node_t 0 0 t1 (conf s1 t1 (ask.Wild None usual)) t_want.facts).heard ≡ heard.Taken
  pub unwanted : (came (node_r 10000) 0 0 r1 (conf s1 t1 (ask.Wild None usual)) (with_resv 10000).facts).heard ≡ heard.Dropped why.NoState

-- a mark waits where a message has an address of its own: 500 wanted here, and 1,000 asked for with a wish
abbrev marked : Facts
marked = (called (node_r 10000) 0 (WantAs session Wild empty (flow 500 2000 64 1500) true) (with_resv 10000).facts).facts

abbrev walled_wish : Outcome
walled_wish = came (node_r 10000) 0 0 r1 (resv_err s1 (error s1 false 1 2) Wild (Some scope) (Some usual)) marked

pub record MarksWait : Type 0 where
  pub unused : each (λ w. w.confirm) (values marked.wants) ≡ true ∷ []
  pub used : walled_wish.sent ≡ sent 1 t1 (resv_err r2 (error s1 false 1 2) Wild (Some scope) (Some usual)) ∷ sent 0 s1 (resv r1 (Some r1) (wild (flow 500 2000 64 1500))) ∷ []
  pub cleared : each (λ w. w.confirm) (values walled_wish.facts.wants) ≡ false ∷ []
  pub waits : each (λ w. w.confirm) (values (came (node_r 10000) 0 1 r2 (resv t1 (Some t1) (wild (flow 2000 2000 64 1500))) marked).facts.wants) ≡ true ∷ []

-- ---- local wants, left-over reservations
pub record CallsAreRefused : Type 0 where
  pub style : call_refusal node_t (WantAs session Shared (set_of (first ∷ [])) usual false) t_want.facts ≡ Some local.Style
  pub absent : call_refusal node_t (QuitAll session) t_path.facts ≡ Some local.Absent
  pub quit : (called node_t 0 (QuitAll session) t_want.facts).sent
      ≡ sent 0 r2 (message.ResvTear (record { session = session; hop = record { addr = t1; handle = 0 }; tear = tear.Wild (Some scope) })) ∷ []
  pub over : stale_refusal (node_r 49) other_style with_path.facts ≡ Some stale.Over
  pub room : stale_refusal (node_r 50) other_style with_path.facts ≡ None

-- ---- policing: two incomparable requests of one sender that asked for policing
abbrev incomparable : Outcome
incomparable = came fork_r 0 2 r3 (resv u1 None (wild (flow 500 400 128 1000))) (came fork_r 0 1 r2 (resv t1 None (wild (flow 300 600 64 1500))) fork_path.facts).facts

pub record FlagsAreByPaths : Type 0 where
  pub merged : incomparable.sent ≡ sent 0 s1 (resv r1 None (wild (flow 500 600 64 1500))) ∷ []
  pub at_t : police_at fork_r incomparable.facts 1 (record { session = session; style = Wild; unit = One }) (record {
    senders = scope;
    flow = flow 300 600 64 1500;
  }) ≡ record { e = true; m = false; b = true }
  pub at_u : police_at fork_r incomparable.facts 2 (record { session = session; style = Wild; unit = One }) (record {
    senders = scope;
    flow = flow 500 400 128 1000;
  }) ≡ record { e = true; m = false; b = true }
  -- of two comparable ones the smaller is policed
  pub smaller : police_at fork_r from_u.facts 1 (record { session = session; style = Wild; unit = One }) (record { senders = scope; flow = small }) ≡ record { e = true; m = false; b = true }
  pub larger : police_at fork_r from_u.facts 2 (record { session = session; style = Wild; unit = One }) (record { senders = scope; flow = greedy }) ≡ record { e = true; m = false; b = false }
  -- two senders of one address are merged
  pub two : police_at fork_r two_paths.facts 1 (record { session = session; style = Wild; unit = One }) (record { senders = scope; flow = small }) ≡ record { e = true; m = true; b = false }
  -- local senders do not count
  pub at_s : police_at (node_s 10000) wish_at_source.facts 0 (record { session = session; style = Wild; unit = One }) (record {
    senders = scope;
    flow = usual;
  }) ≡ record { e = false; m = false; b = false }
