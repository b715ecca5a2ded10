-- Who sends behind the lines of a script, and what its events count.
use Rattle.std.proofs.Common.{◌≡◌, ◌≤◌, List, [], ◌∷◌, length, Bool, true, false, Some, inl, arith, refl, sym, ap, subst, ◌∙◌}
use Rattle.std.specs.Prelude.{◌++◌, map as each, if◌then◌else◌}
use Rattle.std.specs.List.{filter, list_any}
use Rattle.rsvp_base.specs.declared.session.Sender.{Sender}
use Rattle.rsvp_base.specs.declared.session.Session.{Session}
use Rattle.rsvp_base.specs.Members.{In}
use Rattle.rsvp_base.specs.Orders.{senders as by_sender, sessions as by_session}
use Rattle.rsvp_base.proofs.Counts.{set_below, size-set_of}
use Rattle.rsvp_base.proofs.Members.{any_in, in_any, in_each, in_filter, in_left, in_right, to_each, to_filter}
use Rattle.rsvp_base.proofs.Tables.{tied_same, tied_self}
use Rattle.tree_model.specs.declared.hops.TreeHop.{TreeHop}
use Rattle.tree_model.specs.declared.locals.LocalSender.{LocalSender}
use Rattle.tree_model.specs.declared.locals.LocalWant.{LocalWant}
use Rattle.tree_model.specs.Networks.{Net, owner}
use Rattle.tree_model.specs.Wants.{Locals, live, of_session}
use Rattle.network_model.specs.Events.{Event}
use Rattle.network_model.specs.Links.{is_group}
use Rattle.laws_network.specs.Runs.{AreFew, AreFewSenders, sending_then}
use Rattle.script_grammar.specs.Adds.{with_event}
use Rattle.script_grammar.specs.Draft.{Draft, same_session, with_session}

-- ---- events one after another
abbrev pub sending_after : List Event → List LocalSender → List LocalSender
sending_after [] ls = ls
sending_after (e ∷ es) ls = sending_after es (sending_then e ls)

pub after_push : (es : List Event) (e : Event) (ls : List LocalSender) → sending_after (es ++ e ∷ []) ls ≡ sending_then e (sending_after es ls)
after_push [] e ls = refl
after_push (x ∷ es) e ls = after_push es e (sending_then x ls)

few_push : (es : List Event) (e : Event) (ls : List LocalSender) → AreFewSenders ls es → AreFew (sending_then e (sending_after es ls)) → AreFewSenders ls (es ++ e ∷ [])
few_push [] e ls few more = (few, more)
few_push (x ∷ es) e ls few more = (few.0, few_push es e (sending_then x ls) few.1 more)

-- ---- the sessions that are named
pub session_there : (named : List Session) (s : Session) → list_any (same_session s) named ≡ true → In s named
session_there named s h =
    let r = in_any (same_session s) named h in
    let same : s ≡ r.0 = tied_same by_session s r.0 r.2 in
    subst (λ (z : Session). In z named) (sym same) r.1

pub session_found : (named : List Session) (s : Session) → In s named → list_any (same_session s) named ≡ true
session_found named s i = any_in (same_session s) s named i (tied_self by_session s)

pub in_with : (named : List Session) (s : Session) → In s (with_session named s)
in_with named s = by (list_any (same_session s) named) refl
  where
    by : (b : Bool) → list_any (same_session s) named ≡ b → In s (if b then named else named ++ s ∷ [])
    by true e = session_there named s e
    by false e = in_right s named (s ∷ []) (inl refl)

pub still_in : (named : List Session) (s t : Session) → In t named → In t (with_session named s)
still_in named s t i = by (list_any (same_session s) named)
  where
    by : (b : Bool) → In t (if b then named else named ++ s ∷ [])
    by true = i
    by false = in_left t named (s ∷ []) i

-- a session that was named is not named again
pub not_again : (named : List Session) (s : Session) → In s named → with_session named s ≡ named
not_again named s i = ap (λ (b : Bool). if b then named else named ++ s ∷ []) (session_found named s i)

-- ---- behind these lines
pub record Sending (d : Draft) : Type 0 where
  pub few : AreFewSenders [] d.events
  -- whom the events let send, the lines say to send
  pub those : (x : LocalSender) → In x (sending_after d.events []) → In x d.locals.senders
  pub placed : (x : LocalSender) → In x d.locals.senders → owner d.net.ends x.sender.addr ≡ Some x.node
  pub groups : (x : LocalSender) → In x d.locals.senders → is_group x.session.group ≡ true
  pub few_senders : (s : Session) → length (live d.locals s) ≤ 16
  pub named : (x : LocalSender) → In x d.locals.senders → In x.session d.sessions
  pub wanted : (w : LocalWant) → In w d.locals.wants → In w.session d.sessions
  pub few_sessions : length d.sessions ≤ 32
  pub none : d.events ≡ [] → d.locals.senders ≡ []

few_of : (ls : List LocalSender) (l : Locals) (named : List Session) → ((x : LocalSender) → In x ls → In x l.senders) → ((x : LocalSender) → In x l.senders → is_group x.session.group ≡ true)
    → ((s : Session) → length (live l s) ≤ 16)
    → ((x : LocalSender) → In x l.senders → In x.session named) → length named ≤ 32 → AreFew ls
few_of ls l named those groups few sessions_of most = record {
  groups = λ x i. groups x (those x i);
  few_senders = λ s.
      let below = set_below by_sender (live (record { senders = ls; wants = [] }) s) (live l s)
      (λ x i.
      let e = in_each (λ (z : LocalSender). z.sender) x (filter (of_session s) ls) i in
      let f = in_filter (of_session s) e.0 ls e.1 in
      subst (λ (z : Sender). In z (live l s)) (sym e.2) (to_each (λ (z : LocalSender). z.sender) e.0 (filter (of_session s) l.senders) (to_filter (of_session s) e.0 l.senders (those e.0 f.0) f.1))) in
      let size = size-set_of by_sender (live l s) in
      let all = few s in
      omega arith;
  few_sessions =
      let below = set_below by_session (each (λ (x : LocalSender). x.session) ls) named
      (λ s i. let e = in_each (λ (x : LocalSender). x.session) s ls i in subst (λ (z : Session). In z named) (sym e.2) (sessions_of e.0 (those e.0 e.1))) in
      let size = size-set_of by_session named in
      omega (arith, below, size, most);
}

-- ---- with one more event
pub record Happened (d : Draft) (e : Event) (l : Locals) (ss : List Session) : Type 0 where
  pub those : (x : LocalSender) → In x (sending_then e (sending_after d.events [])) → In x l.senders
  pub placed : (x : LocalSender) → In x l.senders → owner d.net.ends x.sender.addr ≡ Some x.node
  pub groups : (x : LocalSender) → In x l.senders → is_group x.session.group ≡ true
  pub few_senders : (s : Session) → length (live l s) ≤ 16
  pub named : (x : LocalSender) → In x l.senders → In x.session ss
  pub wanted : (w : LocalWant) → In w l.wants → In w.session ss
  pub few_sessions : length ss ≤ 32

pub not_empty : {A : Type 0} (xs : List A) (x : A) → xs ++ x ∷ [] ≡ [] → ⊥
not_empty [] x e = cc
not_empty (y ∷ ys) x e = cc

pub happened : (d : Draft) (e : Event) (l : Locals) (ss : List Session) (hops : List TreeHop) → Sending d → Happened d e l ss
    → Sending (record (with_event d e) { locals = l; sessions = ss; force = hops })
happened d e l ss hops h g = record {
  few = few_push d.events e [] h.few (few_of (sending_then e (sending_after d.events [])) l ss g.those g.groups g.few_senders g.named g.few_sessions);
  those = λ x i. g.those x (subst (λ (z : List LocalSender). In x z) (after_push d.events e []) i);
  placed = g.placed;
  groups = g.groups;
  few_senders = g.few_senders;
  named = g.named;
  wanted = g.wanted;
  few_sessions = g.few_sessions;
  none = λ empty. absurd (not_empty d.events e empty);
}

-- an event that lets nobody send, and names no session anew
pub passed : (d : Draft) (e : Event) (hops : List TreeHop) → ((ls : List LocalSender) → sending_then e ls ≡ ls) → Sending d → Sending (record (with_event d e) { force = hops })
passed d e hops same h =
    happened d e d.locals d.sessions hops h
    (record {
      those = λ x i. h.those x (subst (λ (z : List LocalSender). In x z) (same (sending_after d.events [])) i);
      placed = h.placed;
      groups = h.groups;
      few_senders = h.few_senders;
      named = h.named;
      wanted = h.wanted;
      few_sessions = h.few_sessions;
    })

-- ---- what is declared, before anything happens
pub declared : (d new : Draft) → Sending d → d.events ≡ [] → new.events ≡ d.events → new.locals ≡ d.locals → new.sessions ≡ d.sessions → Sending new
declared d new h none events locals sessions_same = record {
  few = subst (λ (z : List Event). AreFewSenders [] z) (sym events) h.few;
  those = λ x i. subst (λ (z : Locals). In x z.senders) (sym locals) (h.those x (subst (λ (z : List Event). In x (sending_after z [])) events i));
  placed = λ x i. absurd (subst (λ (z : List LocalSender). In x z) nobody i);
  groups = λ x i. absurd (subst (λ (z : List LocalSender). In x z) nobody i);
  few_senders = λ s. subst (λ (z : Locals). length (live z s) ≤ 16) (sym locals) (h.few_senders s);
  named = λ x i. absurd (subst (λ (z : List LocalSender). In x z) nobody i);
  wanted = λ w i. subst (λ (z : List Session). In w.session z) (sym sessions_same) (h.wanted w (subst (λ (z : Locals). In w z.wants) locals i));
  few_sessions = subst (λ (z : List Session). length z ≤ 32) (sym sessions_same) h.few_sessions;
  none = λ e. nobody;
}
  where
    nobody : new.locals.senders ≡ []
    nobody = ap (λ (z : Locals). z.senders) locals ∙ h.none none

-- what is left over names a session
pub left_over : (d new : Draft) (s : Session) → Sending d → length (with_session d.sessions s) ≤ 32 → new.events ≡ d.events → new.locals ≡ d.locals → new.net ≡ d.net
    → new.sessions ≡ with_session d.sessions s → Sending new
left_over d new s h few events locals net sessions_are = record {
  few = subst (λ (z : List Event). AreFewSenders [] z) (sym events) h.few;
  those = λ x i. subst (λ (z : Locals). In x z.senders) (sym locals) (h.those x (subst (λ (z : List Event). In x (sending_after z [])) events i));
  placed = λ x i. ap (λ (z : Net). owner z.ends x.sender.addr) net ∙ h.placed x (old x i);
  groups = λ x i. h.groups x (old x i);
  few_senders = λ t. subst (λ (z : Locals). length (live z t) ≤ 16) (sym locals) (h.few_senders t);
  named = λ x i. subst (λ (z : List Session). In x.session z) (sym sessions_are) (still_in d.sessions s x.session (h.named x (old x i)));
  wanted = λ w i. subst (λ (z : List Session). In w.session z) (sym sessions_are) (still_in d.sessions s w.session (h.wanted w (subst (λ (z : Locals). In w z.wants) locals i)));
  few_sessions = subst (λ (z : List Session). length z ≤ 32) (sym sessions_are) few;
  none = λ e. ap (λ (z : Locals). z.senders) locals ∙ h.none (sym events ∙ e);
}
  where
    old : (x : LocalSender) → In x new.locals.senders → In x d.locals.senders
    old x i = subst (λ (z : Locals). In x z.senders) locals i
