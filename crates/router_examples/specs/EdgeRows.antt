-- Worked rows at the edges of the rules: reservations that lose some names, blockades of senders, errors together, too many
-- names, styles of local wants, handles, and blockades that are full.
use Rattle.std.specs.Prelude.{◌≡◌, ℕ, true, false, [], ◌∷◌, map as each, Some, None}
use Rattle.std.specs.List.{range_with_len}
use Rattle.rsvp_base.specs.declared.session.Sender.{Sender}
use Rattle.rsvp_base.specs.declared.style.StyleKind.TheVariants.{Wild, Fixed, Shared}
use Rattle.rsvp_base.specs.Orders.{Names}
use Rattle.rsvp_base.specs.Sets.{set_of}
use Rattle.rsvp_base.specs.Table.{empty, keys, put_in, size, values, with_rows}
use Rattle.router_rules.specs.RsvpMessages.declared.ask.Ask.TheVariants as ask
use Rattle.router_rules.specs.RsvpMessages.declared.ask.Tear.TheVariants as tear
use Rattle.router_rules.specs.RsvpMessages.declared.message.Message.TheVariants as message
use Rattle.router_rules.specs.declared.answers.Heard.TheVariants as heard
use Rattle.router_rules.specs.declared.answers.Why.TheVariants as why
use Rattle.router_rules.specs.StyleRules.declared.target.Target.TheVariants as target
use Rattle.router_rules.specs.Facts.{Facts, no_facts}
use Rattle.router_rules.specs.Inputs.{WantAs}
use Rattle.router_rules.specs.Known.{Lane}
use Rattle.router_examples.specs.ThreeRouters.{called, came, error, first, flow, fork_r, group, iface, ip, node_r, node_t, path, path_tear, r1, r2, r3, resv, resv_err, s1, scope, second}
use Rattle.router_examples.specs.ThreeRouters.{sent, session, shared, t1, u1, usual, wild}
use Rattle.router_examples.specs.PathRows.{with_path}
use Rattle.router_rules.specs.NodeConfig.{NodeConfig}
use Rattle.router_rules.specs.Requests.{toward}
use Rattle.router_examples.specs.ResvRows.{fixed_for, greedy, one_walled, small, two_paths}
use Rattle.router_rules.specs.Rule.{Outcome}

-- ---- a sender goes, and the reservation keeps the other's name: what goes on is sent anew, and no unit is torn down
abbrev both_shared : Outcome
both_shared = came fork_r 0 1 r2 (resv t1 None (shared (first ∷ second ∷ []) usual)) two_paths.facts

abbrev one_gone : Outcome
one_gone = came fork_r 0 0 group (path_tear s1 first) both_shared.facts

-- and by a ResvTear of one name
abbrev one_torn : Outcome
one_torn = came fork_r 0 1 r2 (message.ResvTear (record { session = session; hop = record { addr = t1; handle = 0 }; tear = tear.Shared (set_of (first ∷ [])) })) both_shared.facts

pub record SomeNamesLeave : Type 0 where
  pub sends : both_shared.sent ≡ sent 0 s1 (resv r1 None (shared (first ∷ second ∷ []) usual)) ∷ []
  pub left : each (λ r. keys r.part.senders) (values one_gone.facts.resvs.shared) ≡ (second ∷ []) ∷ []
  pub on : one_gone.sent ≡ sent 1 group (path_tear r2 first) ∷ sent 2 group (path_tear r3 first) ∷ sent 0 s1 (resv r1 None (shared (second ∷ []) usual)) ∷ []
  pub torn : each (λ r. keys r.part.senders) (values one_torn.facts.resvs.shared) ≡ (second ∷ []) ∷ []
  pub torn_on : one_torn.sent ≡ sent 0 s1 (resv r1 None (shared (second ∷ []) usual)) ∷ []

-- ---- blockades of senders. FF: 4 from t and 10 from u of one sender; the error about 10 reaches u alone, and 4 goes on
abbrev fixed_both : Outcome
fixed_both = came fork_r 0 2 r3 (resv u1 None (fixed_for first greedy)) (came fork_r 0 1 r2 (resv t1 None (fixed_for first small)) two_paths.facts).facts

abbrev fixed_refused : Outcome
fixed_refused = came fork_r 0 0 r1 (resv_err s1 (error s1 true 1 2) Fixed (Some (set_of (first ∷ []))) (Some greedy)) fixed_both.facts

-- SE: t asks 4 for both senders, u 10 for the second. A blockade of the first at 4 holds back t, who has it among its senders,
-- and not u
abbrev shared_both : Outcome
shared_both = came fork_r 0 2 r3 (resv u1 None (shared (second ∷ []) greedy)) (came fork_r 0 1 r2 (resv t1 None (shared (first ∷ second ∷ []) small)) two_paths.facts).facts

abbrev first_refused : Outcome
first_refused = came fork_r 0 0 r1 (resv_err s1 (error s1 false 1 2) Shared (Some (set_of (first ∷ []))) (Some small)) shared_both.facts

pub record SendersAreBlockaded : Type 0 where
  pub sends : fixed_both.sent ≡ sent 0 s1 (resv r1 None (fixed_for first greedy)) ∷ []
  pub walled : keys fixed_refused.facts.walls ≡ (session, target.Sender first) ∷ []
  pub smaller : fixed_refused.sent ≡ sent 2 u1 (resv_err r3 (error s1 true 1 2) Fixed (Some (set_of (first ∷ []))) (Some greedy)) ∷ sent 0 s1 (resv r1 None (fixed_for first small)) ∷ []
  pub joined : shared_both.sent ≡ sent 0 s1 (resv r1 None (shared (first ∷ second ∷ []) greedy)) ∷ []
  pub any : first_refused.sent ≡ sent 1 t1 (resv_err r2 (error s1 false 1 2) Shared (Some (set_of (first ∷ []))) (Some small)) ∷ sent 0 s1 (resv r1 None (shared (second ∷ []) greedy)) ∷ []

-- ---- two errors of one Resv, by their first senders; the first of them is heard
abbrev third : Sender
third = record { addr = s1; port = 5008 }

abbrev three_fixed : Outcome
three_fixed = came (node_r 10000) 0 1 r2 (resv t1 None (ask.Fixed (put_in (put_in (put_in empty first (flow 100 100 1 1500)) second (flow 200 200 1 1500)) third
    (flow 300 300 1 1500)))) with_path.facts

-- the first sender's rate is too large, and the second is not known: the refusal of the first comes first
abbrev too_large : Outcome
too_large = came (node_r 10000) 0 1 r2 (resv t1 None (shared (first ∷ second ∷ []) (flow 10001 200 1 1500))) with_path.facts

pub record ErrorsTogether : Type 0 where
  pub told : three_fixed.heard ≡ heard.Answered 4 0
  pub both : three_fixed.sent
      ≡ sent 1 t1 (resv_err r2 (error r2 false 4 0) Fixed (Some (set_of (second ∷ []))) (Some (flow 200 200 1 1500)))
      ∷ sent 1 t1 (resv_err r2 (error r2 false 4 0) Fixed (Some (set_of (third ∷ []))) (Some (flow 300 300 1 1500)))
      ∷ sent 0 s1 (resv r1 None (fixed_for first (flow 100 100 1 1500)))
      ∷ []
  pub by_rate : too_large.heard ≡ heard.Answered 1 2
  pub in_order : too_large.sent
      ≡ sent 1 t1 (resv_err r2 (error r2 false 1 2) Shared (Some (set_of (first ∷ []))) (Some (flow 10001 200 1 1500)))
      ∷ sent 1 t1 (resv_err r2 (error r2 false 4 0) Shared (Some (set_of (second ∷ []))) (Some (flow 10001 200 1 1500)))
      ∷ []

-- ---- seventeen addresses match a WF Resv without SCOPE: sixteen by their paths, and the node's own sender. The Resv is left
-- out; with a SCOPE of sixteen it is taken
abbrev address : ℕ → Sender
address i = record { addr = ip 10 0 9 i; port = 0 }

abbrev sixteen_ways : NodeConfig
sixteen_ways = record {
  quarter = 7500;
  ifaces = iface r1 10000 ∷ iface r2 10000 ∷ [];
  routes = (record { group = group; source = r1; inward = None; outward = 2 }) ∷ each (λ i. record { group = group; source = ip 10 0 9 i; inward = Some 0; outward = 2 }) (range_with_len 1 16);
}

abbrev seventeen_known : Facts
seventeen_known = record no_facts {
  senders = put_in empty (session, record { addr = r1; port = 5004 }) usual;
  paths = with_rows empty (each
      (λ i. (
        (session, record { addr = ip 10 0 9 i; port = 5004 }),
        record { iface = 0; hop = record { addr = s1; handle = 0 }; tspec = usual; police = false; adspec = None; dies = 100000 },
      )) (range_with_len 1 16));
}

abbrev for_all : Outcome
for_all = came sixteen_ways 0 1 r2 (resv t1 None (ask.Wild None usual)) seventeen_known

abbrev sixteen_names : Names
sixteen_names = set_of (each address (range_with_len 1 16))

abbrev for_sixteen : Outcome
for_sixteen = came sixteen_ways 0 1 r2 (resv t1 None (ask.Wild (Some sixteen_names) usual)) seventeen_known

pub record TooManyNames : Type 0 where
  pub told : for_all.heard ≡ heard.Dropped why.Full
  pub quiet : for_all.sent ≡ []
  pub none_kept : size for_all.facts.resvs.wild ≡ 0
  pub taken : for_sixteen.heard ≡ heard.Taken
  pub on : for_sixteen.sent ≡ sent 0 s1 (resv r1 None (ask.Wild (Some sixteen_names) usual)) ∷ []

-- ---- a local want has a style, and a Resv of another one is refused
abbrev wanted_here : Facts
wanted_here = (called (node_r 10000) 0 (WantAs session Shared (set_of (first ∷ [])) usual false) with_path.facts).facts

abbrev against_want : Outcome
against_want = came (node_r 10000) 0 1 r2 (resv t1 None (wild usual)) wanted_here

pub record WantsConflict : Type 0 where
  pub told : against_want.heard ≡ heard.Answered 5 18
  pub answer : against_want.sent ≡ sent 1 t1 (resv_err r2 (error r2 false 5 18) Wild (Some scope) (Some usual)) ∷ []
  pub same_style : (came (node_r 10000) 0 1 r2 (resv t1 None (shared (first ∷ []) usual)) wanted_here).heard ≡ heard.Taken

-- ---- the handle of a previous hop goes back to it, in Resvs and ResvTears; errors have none
abbrev with_handle : Outcome
with_handle = came (node_r 1000) 0 0 group (message.Path (record {
  session = session;
  police = true;
  hop = record { addr = s1; handle = 7 };
  period = 30000;
  sender = Some
      (first, usual);
  adspec = None;
})) no_facts

abbrev with_handle_resv : Outcome
with_handle_resv = came (node_r 1000) 0 1 r2 (message.Resv (record { session = session; hop = record { addr = t1; handle = 9 }; period = 30000; confirm = None; ask = wild usual })) with_handle.facts

pub record HandlesGoBack : Type 0 where
  pub path_on : with_handle.sent ≡ sent 1 group (path false r2 first usual) ∷ []
  pub resv_on : with_handle_resv.sent ≡ sent 0 s1 (message.Resv (record { session = session; hop = record { addr = r1; handle = 7 }; period = 30000; confirm = None; ask = wild usual })) ∷ []
  pub tear_on : (came (node_r 1000) 0 1 r2 (message.ResvTear (record { session = session; hop = record { addr = t1; handle = 9 }; tear = tear.Wild None })) with_handle_resv.facts).sent
      ≡ sent 0 s1 (message.ResvTear (record { session = session; hop = record { addr = r1; handle = 7 }; tear = tear.Wild (Some scope) })) ∷ []
  pub error : (came (node_r 1000) 0 1 r2 (message.Resv (record {
    session = session;
    hop = record { addr = t1; handle = 9 };
    period = 30000;
    confirm = None;
    ask = wild
        (flow 1001 2000 64 1500);
  })) with_handle_resv.facts).sent
      ≡ sent 1 t1 (resv_err r2 (error r2 true 1 2) Wild (Some scope) (Some (flow 1001 2000 64 1500))) ∷ []

-- ---- a refused raise reaches the receiver, and changes nothing there: its want is all that there is
abbrev receiver : Facts
receiver = (called node_t 0 (WantAs session Wild empty (flow 1001 2000 64 1500) false) (came node_t 0 0 group (path false r2 first usual) no_facts).facts).facts

abbrev reached : Outcome
reached = came node_t 0 0 t1 (resv_err r2 (error s1 true 1 2) Wild (Some scope) (Some (flow 1001 2000 64 1500))) receiver

-- what goes toward s of two incomparable requests, one under its blockade
abbrev to_s : Lane
to_s = record { session = session; style = Wild; hop = (0, s1) }

pub record RefusalsArrive : Type 0 where
  pub taken : reached.heard ≡ heard.Taken
  pub quiet : reached.sent ≡ []
  pub walled : keys reached.facts.walls ≡ (session, target.Hop 0 r2) ∷ []
  pub goes : values (toward fork_r one_walled.facts to_s) ≡ (record { senders = scope; flow = flow 9 20 1 1500 }) ∷ []
