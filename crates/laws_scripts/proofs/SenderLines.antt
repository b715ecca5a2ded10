-- Each line of a script keeps what is said of who sends.
use Rattle.std.proofs.Common.{le-leb, ◌≡◌, ℕ, suc, ◌≤◌, ◌<◌, List, [], ◌∷◌, length, Bool, true, false, cond, Some, None, ◌⊎◌, inl, inr, ⊎_elim, arith, refl, sym, ap, subst, ◌∙◌}
use Rattle.std.specs.Prelude.{◌++◌, ◌==◌, nat_le, nat_lt, not, map as each, if◌then◌else◌}
use Rattle.std.specs.List.{filter}
use Rattle.std.proofs.lemmas.Bool.{lt-ltb}
use Rattle.std.specs.Ordering.{eq_by_cmp}
use Rattle.rsvp_base.specs.declared.addr.Addr.{Addr}
use Rattle.rsvp_base.specs.declared.session.Sender.{Sender}
use Rattle.rsvp_base.specs.declared.session.Session.{Session}
use Rattle.rsvp_base.specs.Members.{In}
use Rattle.rsvp_base.specs.Orders.{senders as by_sender, sessions as by_session}
use Rattle.rsvp_base.proofs.Members.{in_any, in_append, in_filter, in_left, in_right, to_filter}
use Rattle.rsvp_base.proofs.SetLaws.{and_both, and_made}
use Rattle.rsvp_base.proofs.Tables.{tied_same}
use Rattle.script_words.specs.Addresses.{IsGroup, addr_value}
use Rattle.script_words.specs.Flows.{flow_value}
use Rattle.script_words.specs.Lines.{text_lines}
use Rattle.script_words.specs.Sessions.{sender_value, session_value}
use Rattle.tree_model.specs.declared.locals.LocalSender.{LocalSender}
use Rattle.tree_model.specs.declared.locals.LocalWant.{LocalWant}
use Rattle.tree_model.specs.Networks.{owner}
use Rattle.tree_model.specs.Wants.{Locals, live, of_session}
use Rattle.tree_model.proofs.Following.{number_same, same_number}
use Rattle.network_model.specs.Events.{AtNode, ClearNode, CopyAt, DeliverAt, Injects, LoseAt, Pass, Reports, ReportsFlags, ReportsAdverts, Reroutes, Rounds, Traces, Waits}
use Rattle.network_model.specs.Links.{is_group}
use Rattle.laws_network.specs.Runs.{AreFitSenders, is_sender_at}
use Rattle.laws_network.proofs.Known.{of_some}
use Rattle.router_rules.specs.Inputs.{QuitAll}
use Rattle.script_grammar.specs.Adds.{Adds, is_sender, is_want_at, net_rerouted, sends, wants_value, with_local, with_sender, with_wants, without_sender, without_wants}
use Rattle.script_grammar.specs.declared.line.SenderLine.{SenderLine}
use Rattle.script_grammar.specs.declared.line.ScriptLine.{ScriptLine}
use Rattle.script_grammar.specs.declared.line.ScriptLine.TheVariants as line
use Rattle.script_grammar.specs.declared.line.QuitLine.{QuitLine}
use Rattle.script_grammar.specs.declared.line.SendLine.{SendLine}
use Rattle.script_grammar.specs.declared.line.WantLine.{WantLine}
use Rattle.script_grammar.specs.Draft.{Draft, end_number, node_number, nothing, same_session, with_session}
use Rattle.script_grammar.specs.Grammar.{Leads}
use Rattle.script_grammar.specs.Rules.{Keeps, KeepsAll}
use Rattle.script_grammar.specs.Values.{advert_value, drop_value, hop_values, send_value, senders_value, want_value}
use Rattle.laws_scripts.specs.Scripts.{EachScriptLetsFewSend, FirstLinesLetFewSend}
use Rattle.laws_scripts.proofs.Leading.{led}
use Rattle.laws_scripts.proofs.Wants.{new_want, of_line, wants_same}
use Rattle.laws_scripts.proofs.Senders.{Sending, declared, happened, in_with, left_over, not_again, passed, sending_after, still_in}

-- ---- lists
-- what a test lets through of one more element
filter_push : {A : Type 0} (test : A → Bool) (xs : List A) (y : A) → test y ≡ false → filter test (xs ++ y ∷ []) ≡ filter test xs
filter_push test [] y e = ap (λ (b : Bool). cond b (y ∷ []) []) e
filter_push {A} test (x ∷ xs) y e = ap (λ (zs : List A). cond (test x) (x ∷ zs) zs) (filter_push test xs y e)

filter_less : {A : Type 0} (test stays : A → Bool) (xs : List A) → length (filter test (filter stays xs)) ≤ length (filter test xs)
filter_less test stays [] = omega arith
filter_less test stays (x ∷ xs) = by (stays x) (test x) (filter_less test stays xs)
  where
    more : (a : Bool) → length (filter test (filter stays xs)) ≤ length (filter test xs) → length (cond a (x ∷ filter test (filter stays xs)) (filter test (filter stays xs))) ≤ length
        (cond a (x ∷ filter test xs) (filter test xs))
    more true le = omega (arith, le)
    more false le = le

    less : (a : Bool) → length (filter test (filter stays xs)) ≤ length (filter test xs) → length (filter test (filter stays xs)) ≤ length (cond a (x ∷ filter test xs) (filter test xs))
    less true le = omega (arith, le)
    less false le = le

    by : (b a : Bool) → length (filter test (filter stays xs)) ≤ length (filter test xs) → length (filter test (cond b (x ∷ filter stays xs) (filter stays xs))) ≤ length
        (cond (test x) (x ∷ filter test xs) (filter test xs))
    by true a le = more (test x) le
    by false a le = less (test x) le

length_each : {A B : Type 0} (f : A → B) (xs : List A) → length (each f xs) ≡ length xs
length_each f [] = refl
length_each f (x ∷ xs) = ap suc (length_each f xs)

-- ---- groups of words are groups of networks
group_is : (a : Addr) → IsGroup a → is_group a ≡ true
group_is a g = let from = g.from in let to = g.to in let lt : a.0 < 4026531840 = omega (arith, to) in
    and_made (nat_le 3758096384 a.0) (nat_lt a.0 4026531840) (le-leb 3758096384 a.0 from) (lt-ltb a.0 4026531840 lt)

-- ---- who sends
sender_told : (s : Session) (x : Sender) (l : LocalSender) → is_sender s x l ≡ true → (l.session ≡ s) × (l.sender ≡ x)
sender_told s x l e = let r = and_both (same_session s l.session) (eq_by_cmp by_sender.cmp x l.sender) e in (sym (tied_same by_session s l.session r.0), sym (tied_same by_sender x l.sender r.1))

module _ (d : Draft) (h : Sending d) where
  module _ (l : SendLine) (rules : KeepsAll (Keeps d (line.Send l))) where
    abbrev n : ℕ
    n = node_number d l.node

    abbrev s : Session
    s = session_value l.session

    abbrev x : Sender
    x = sender_value l.sender

    abbrev new : LocalSender
    new = record { node = n; session = s; sender = x }

    abbrev after : Locals
    after = with_sender d.locals n s x

    own : owner d.net.ends x.addr ≡ Some n
    own = rules.known.own

    -- it sends already, or is added
    new_in : In new after.senders
    new_in = by (sends d.locals.senders s x) refl
      where
        by : (b : Bool) → sends d.locals.senders s x ≡ b → In new (if b then d.locals else record d.locals { senders = d.locals.senders ++ new ∷ [] }).senders
        by true e =
            let r = in_any (is_sender s x) d.locals.senders e in
            let t = sender_told s x r.0 r.2 in
            let node : r.0.node ≡ n = of_some r.0.node n (sym (h.placed r.0 r.1) ∙ ap (λ (z : Sender). owner d.net.ends z.addr) t.1 ∙ own) in
            let same : r.0 ≡ new = (λ i. record { node = node i; session = t.0 i; sender = t.1 i }) in
            subst (λ (z : LocalSender). In z d.locals.senders) same r.1
        by false e = in_right new d.locals.senders (new ∷ []) (inl refl)

    old_in : (y : LocalSender) → In y d.locals.senders → In y after.senders
    old_in y i = by (sends d.locals.senders s x)
      where
        by : (b : Bool) → In y (if b then d.locals else record d.locals { senders = d.locals.senders ++ new ∷ [] }).senders
        by true = i
        by false = in_left y d.locals.senders (new ∷ []) i

    source : (y : LocalSender) → In y after.senders → In y d.locals.senders ⊎ (y ≡ new)
    source y i = by (sends d.locals.senders s x) i
      where
        by : (b : Bool) → In y (if b then d.locals else record d.locals { senders = d.locals.senders ++ new ∷ [] }).senders → In y d.locals.senders ⊎ (y ≡ new)
        by true j = inl j
        by false j = ⊎_elim (λ (k : In y d.locals.senders). inl k) (λ (k : In y (new ∷ [])). ⊎_elim (λ (e : y ≡ new). inr e) (λ (e : ⊥). absurd e) k) (in_append y d.locals.senders (new ∷ []) j)

    few_live : (t : Session) → length (live after t) ≤ 16
    few_live t = by (of_session t new) refl
      where
        other : of_session t new ≡ false → (b : Bool) → length (live (if b then d.locals else record d.locals { senders = d.locals.senders ++ new ∷ [] }) t) ≤ 16
        other e true = h.few_senders t
        other e false = subst (λ (zs : List LocalSender). length (each (λ (z : LocalSender). z.sender) zs) ≤ 16) (sym (filter_push (of_session t) d.locals.senders new e)) (h.few_senders t)

        by : (b : Bool) → of_session t new ≡ b → length (live after t) ≤ 16
        by true e = subst (λ (z : Session). length (live after z) ≤ 16) (sym (tied_same by_session t s e)) rules.within_limits.few_senders
        by false e = other e (sends d.locals.senders s x)

    pub sent : Sending (with_local d l.node s (send_value l) after)
    sent =
        happened d (AtNode n (send_value l)) after (with_session d.sessions s) d.force h
        (record {
          those = λ y i. ⊎_elim (λ (e : y ≡ new). subst (λ (z : LocalSender). In z after.senders) (sym e) new_in) (λ (j : In y (sending_after d.events [])). old_in y (h.those y j)) i;
          placed = λ y i. ⊎_elim (λ (j : In y d.locals.senders). h.placed y j) (λ (e : y ≡ new). subst (λ (z : LocalSender). owner d.net.ends z.sender.addr ≡ Some z.node) (sym e) own) (source y i);
          groups = λ y i. ⊎_elim (λ (j : In y d.locals.senders). h.groups y j) (λ (e : y ≡ new). subst (λ (z : LocalSender). is_group z.session.group ≡ true) (sym e)
              (group_is s.group rules.in_range.session.group)) (source y i);
          few_senders = few_live;
          named = λ y i. ⊎_elim (λ (j : In y d.locals.senders). still_in d.sessions s y.session (h.named y j))
              (λ (e : y ≡ new). subst (λ (z : LocalSender). In z.session (with_session d.sessions s)) (sym e) (in_with d.sessions s)) (source y i);
          wanted = λ w i. still_in d.sessions s w.session (h.wanted w (subst (λ (z : List LocalWant). In w z) (wants_same d.locals n s x) i));
          few_sessions = rules.within_limits.session;
        })

  module _ (l : SenderLine) (rules : KeepsAll (Keeps d (line.Drop l))) where
    abbrev m : ℕ
    m = node_number d l.node

    abbrev of : Session
    of = session_value l.session

    abbrev goes : Sender
    goes = sender_value l.sender

    there : (z : LocalSender) × In z d.locals.senders × (is_sender_at m of goes z ≡ true)
    there = in_any (is_sender_at m of goes) d.locals.senders rules.known.sends

    told : (there.0.node ≡ m) × (there.0.session ≡ of) × (there.0.sender ≡ goes)
    told =
        let r = and_both (there.0.node == m) (is_sender of goes there.0) there.2 in
        let t = sender_told of goes there.0 r.1 in
        (same_number there.0.node m r.0, t.0, t.1)

    own_node : owner d.net.ends goes.addr ≡ Some m
    own_node = ap (λ (z : Sender). owner d.net.ends z.addr) (sym told.2) ∙ h.placed there.0 there.1 ∙ ap Some told.0

    -- who is not dropped at the node is not dropped
    stays : (y : LocalSender) → In y d.locals.senders → not (is_sender_at m of goes y) ≡ true → not (is_sender of goes y) ≡ true
    stays y i e = by (is_sender of goes y) refl
      where
        by : (b : Bool) → is_sender of goes y ≡ b → not b ≡ true
        by false f = refl
        by true f =
            let t = sender_told of goes y f in
            let node : y.node ≡ m = of_some y.node m (sym (h.placed y i) ∙ ap (λ (z : Sender). owner d.net.ends z.addr) t.1 ∙ own_node) in
            let here : is_sender_at m of goes y ≡ true = and_made (y.node == m) (is_sender of goes y) (number_same y.node m node) f in
            ap not (sym here) ∙ e

    kept : (y : LocalSender) → In y (without_sender d.locals of goes).senders → In y d.locals.senders
    kept y i = (in_filter (λ e. not (is_sender of goes e)) y d.locals.senders i).0

    session_in : In of d.sessions
    session_in = subst (λ (z : Session). In z d.sessions) told.1 (h.named there.0 there.1)

    pub dropped : Sending (with_local d l.node of (drop_value l) (without_sender d.locals of goes))
    dropped =
        happened d (AtNode m (drop_value l)) (without_sender d.locals of goes) (with_session d.sessions of) d.force h
        (record {
          those = λ y i.
              let f = in_filter (λ z. not (is_sender_at m of goes z)) y (sending_after d.events []) i in
              let old = h.those y f.0 in
              to_filter (λ e. not (is_sender of goes e)) y d.locals.senders old (stays y old f.1);
          placed = λ y i. h.placed y (kept y i);
          groups = λ y i. h.groups y (kept y i);
          few_senders = λ t.
              let less = filter_less (of_session t) (λ e. not (is_sender of goes e)) d.locals.senders in
              let here = length_each (λ (z : LocalSender). z.sender) (filter (of_session t) (filter (λ e. not (is_sender of goes e)) d.locals.senders)) in
              let was = length_each (λ (z : LocalSender). z.sender) (filter (of_session t) d.locals.senders) in
              let most = h.few_senders t in
              omega arith;
          named = λ y i. still_in d.sessions of y.session (h.named y (kept y i));
          wanted = λ w i. still_in d.sessions of w.session (h.wanted w i);
          few_sessions = subst (λ (z : List Session). length z ≤ 32) (sym (not_again d.sessions of session_in)) h.few_sessions;
        })

  -- a sender that is advertised sends, so its session was named
  pub advertised : (l : SenderLine) → KeepsAll (Keeps d (line.Advert l)) → Sending (with_local d l.node (session_value l.session) (advert_value l) d.locals)
  advertised l rules =
      let s : Session = session_value l.session in
      let one = in_any (is_sender_at (node_number d l.node) s (sender_value l.sender)) d.locals.senders rules.known.sends in
      let r = and_both (one.0.node == node_number d l.node) (is_sender s (sender_value l.sender) one.0) one.2 in
      let told = sender_told s (sender_value l.sender) one.0 r.1 in
      let in_sessions : In s d.sessions = subst (λ (z : Session). In z d.sessions) told.0 (h.named one.0 one.1) in
      happened d (AtNode (node_number d l.node) (advert_value l)) d.locals (with_session d.sessions s) d.force h
      (record {
        those = h.those;
        placed = h.placed;
        groups = h.groups;
        few_senders = h.few_senders;
        named = λ y i. still_in d.sessions s y.session (h.named y i);
        wanted = λ w i. still_in d.sessions s w.session (h.wanted w i);
        few_sessions = subst (λ (z : List Session). length z ≤ 32) (sym (not_again d.sessions s in_sessions)) h.few_sessions;
      })

  -- ---- wants
  pub wanting : (l : WantLine) → KeepsAll (Keeps d (line.Want l)) → Sending (with_local d l.node (session_value l.session) (want_value l)
      (record d.locals { wants = with_wants d.locals.wants (wants_value d l) }))
  wanting l rules =
      happened d (AtNode (node_number d l.node) (want_value l)) (record d.locals { wants = with_wants d.locals.wants (wants_value d l) }) (with_session d.sessions (session_value l.session)) d.force h
      (record {
        those = h.those;
        placed = h.placed;
        groups = h.groups;
        few_senders = h.few_senders;
        named = λ y i. still_in d.sessions (session_value l.session) y.session (h.named y i);
        wanted = λ w i.
            ⊎_elim (λ (j : In w d.locals.wants). still_in d.sessions (session_value l.session) w.session (h.wanted w j))
            (λ (j : In w (wants_value d l)).
            subst (λ (z : Session). In z (with_session d.sessions (session_value l.session)))
            (sym (of_line (node_number d l.node) (session_value l.session) l.style (senders_value l.senders) (flow_value l.flow) w j).1) (in_with d.sessions (session_value l.session)))
            (new_want d.locals.wants (wants_value d l) w i);
        few_sessions = rules.within_limits.session;
      })

  some_want : (ws : List LocalWant) → (ws ≡ [] → ⊥) → (w : LocalWant) × In w ws
  some_want [] some = absurd (some refl)
  some_want (w ∷ ws) some = (w, inl refl)

  pub quitting : (l : QuitLine) → KeepsAll (Keeps d (line.Quit l)) → Sending (with_local d l.node (session_value l.session) (QuitAll (session_value l.session))
      (without_wants d.locals (node_number d l.node) (session_value l.session)))
  quitting l rules =
      let one = some_want (filter (is_want_at (node_number d l.node) (session_value l.session)) d.locals.wants) rules.known.wants in
      let f = in_filter (is_want_at (node_number d l.node) (session_value l.session)) one.0 d.locals.wants one.1 in
      let same : one.0.session ≡ session_value l.session = sym (tied_same by_session (session_value l.session) one.0.session
      (and_both (one.0.node == node_number d l.node) (same_session (session_value l.session) one.0.session) f.1).1) in
      let in_sessions : In (session_value l.session) d.sessions = subst (λ (z : Session). In z d.sessions) same (h.wanted one.0 f.0) in
      happened d (AtNode (node_number d l.node) (QuitAll (session_value l.session))) (without_wants d.locals (node_number d l.node) (session_value l.session))
      (with_session d.sessions (session_value l.session)) d.force h
      (record {
        those = h.those;
        placed = h.placed;
        groups = h.groups;
        few_senders = h.few_senders;
        named = λ y i. still_in d.sessions (session_value l.session) y.session (h.named y i);
        wanted = λ w i. still_in d.sessions (session_value l.session) w.session (h.wanted w
            (in_filter (λ z. not (is_want_at (node_number d l.node) (session_value l.session) z)) w d.locals.wants i).0);
        few_sessions = subst (λ (z : List Session). length z ≤ 32) (sym (not_again d.sessions (session_value l.session) in_sessions)) h.few_sessions;
      })

-- ---- each line
by_line : (d : Draft) (said : ScriptLine) (next : Draft) → Sending d → KeepsAll (Keeps d said) → Adds d said next → Sending next
by_line d line.Skipped next h rules adds = subst Sending (sym adds) h
by_line d (line.Period ms) next h rules adds = subst Sending (sym adds) (declared d (record d { period = Some ms }) h rules.in_time.no_event refl refl refl)
by_line d (line.Seed n) next h rules adds = subst Sending (sym adds) (declared d (record d { seed = Some n }) h rules.in_time.no_event refl refl refl)
by_line d (line.Node name) next h rules adds = declared d next h rules.in_time.no_event (ap (λ (z : Draft). z.events) adds) (ap (λ (z : Draft). z.locals) adds) (ap (λ (z : Draft). z.sessions) adds)
by_line d (line.End l) next h rules adds = declared d next h rules.in_time.no_event (ap (λ (z : Draft). z.events) adds) (ap (λ (z : Draft). z.locals) adds) (ap (λ (z : Draft). z.sessions) adds)
by_line d (line.Latency l) next h rules adds = declared d next h rules.in_time.no_event (ap (λ (z : Draft). z.events) adds) (ap (λ (z : Draft). z.locals) adds) (ap (λ (z : Draft). z.sessions) adds)
by_line d (line.Link names) next h rules adds = declared d next h rules.in_time.no_event (ap (λ (z : Draft). z.events) adds) (ap (λ (z : Draft). z.locals) adds) (ap (λ (z : Draft). z.sessions) adds)
by_line d (line.Hop l) next h rules adds = declared d next h rules.in_time.no_event (ap (λ (z : Draft). z.events) adds) (ap (λ (z : Draft). z.locals) adds) (ap (λ (z : Draft). z.sessions) adds)
by_line d (line.StalePath l) next h rules adds = left_over d next (session_value l.session) h rules.within_limits.session (ap (λ (z : Draft). z.events) adds) (ap (λ (z : Draft). z.locals) adds)
    (ap (λ (z : Draft). z.net) adds) (ap (λ (z : Draft). z.sessions) adds)
by_line d (line.StaleResv l) next h rules adds = left_over d next (session_value l.session) h rules.within_limits.session (ap (λ (z : Draft). z.events) adds) (ap (λ (z : Draft). z.locals) adds)
    (ap (λ (z : Draft). z.net) adds) (ap (λ (z : Draft). z.sessions) adds)
by_line d (line.StaleHopWall l) next h rules adds = left_over d next (session_value l.session) h rules.within_limits.session (ap (λ (z : Draft). z.events) adds) (ap (λ (z : Draft). z.locals) adds)
    (ap (λ (z : Draft). z.net) adds) (ap (λ (z : Draft). z.sessions) adds)
by_line d (line.StaleSenderWall l) next h rules adds = left_over d next (session_value l.session) h rules.within_limits.session (ap (λ (z : Draft). z.events) adds) (ap (λ (z : Draft). z.locals) adds)
    (ap (λ (z : Draft). z.net) adds) (ap (λ (z : Draft). z.sessions) adds)
by_line d (line.Send l) next h rules adds = subst Sending (sym adds) (sent d h l rules)
by_line d (line.Drop l) next h rules adds = subst Sending (sym adds) (dropped d h l rules)
by_line d (line.Advert l) next h rules adds = subst Sending (sym adds) (advertised d h l rules)
by_line d (line.Want l) next h rules adds = subst Sending (sym adds) (wanting d h l rules)
by_line d (line.Quit l) next h rules adds = subst Sending (sym adds) (quitting d h l rules)
by_line d (line.Wait ms) next h rules adds = subst Sending (sym adds) (passed d (Waits ms) d.force (λ ls. refl) h)
by_line d (line.Pass n) next h rules adds = subst Sending (sym adds) (passed d (Pass n) d.force (λ ls. refl) h)
by_line d (line.Deliver k) next h rules adds = subst Sending (sym adds) (passed d (DeliverAt k) d.force (λ ls. refl) h)
by_line d (line.Lose k) next h rules adds = subst Sending (sym adds) (passed d (LoseAt k) d.force (λ ls. refl) h)
by_line d (line.Copy k) next h rules adds = subst Sending (sym adds) (passed d (CopyAt k) d.force (λ ls. refl) h)
by_line d (line.Clear node) next h rules adds = subst Sending (sym adds) (passed d (ClearNode (node_number d node)) d.force (λ ls. refl) h)
by_line d (line.Rounds n) next h rules adds = subst Sending (sym adds) (passed d (Rounds n) d.force (λ ls. refl) h)
by_line d (line.Trace on) next h rules adds = subst Sending (sym adds) (passed d (Traces on) d.force (λ ls. refl) h)
by_line d line.Report next h rules adds = subst Sending (sym adds) (passed d (Reports None) d.force (λ ls. refl) h)
by_line d (line.ReportEnd end) next h rules adds = subst Sending (sym adds) (passed d (Reports (Some (end_number d end))) d.force (λ ls. refl) h)
by_line d line.Flags next h rules adds = subst Sending (sym adds) (passed d ReportsFlags d.force (λ ls. refl) h)
by_line d line.Adverts next h rules adds = subst Sending (sym adds) (passed d ReportsAdverts d.force (λ ls. refl) h)
by_line d (line.Inject l) next h rules adds = subst Sending (sym adds.2) (passed d (Injects (end_number d l.end) (addr_value l.dst) adds.0) d.force (λ ls. refl) h)
by_line d (line.Reroute l) next h rules adds = subst Sending (sym adds) (passed d (Reroutes (addr_value l.group) (addr_value l.source) (hop_values d l)) (net_rerouted d l).hops (λ ls. refl) h)

at_first : Sending nothing
at_first = record {
  few = record { groups = λ l i. absurd i; few_senders = λ s. omega arith; few_sessions = omega arith };
  those = λ x i. absurd i;
  placed = λ x i. absurd i;
  groups = λ x i. absurd i;
  few_senders = λ s. omega arith;
  named = λ x i. absurd i;
  wanted = λ w i. absurd i;
  few_sessions = omega arith;
  none = λ e. refl;
}

-- behind lines that may begin a script
pub sending_behind : (lines : List (List ℕ)) (d : Draft) → Leads nothing lines d → Sending d
sending_behind lines d leads = led Sending (λ d text new g f. by_line d f.said new g f.valid f.adds) lines nothing d at_first leads

pub first_lines_let_few_send : FirstLinesLetFewSend
first_lines_let_few_send lines d leads = (sending_behind lines d leads).few

pub each_script_lets_few_send : EachScriptLetsFewSend
each_script_lets_few_send bytes p is = subst AreFitSenders (sym is.says) (first_lines_let_few_send (text_lines bytes) is.lines is.leads)
