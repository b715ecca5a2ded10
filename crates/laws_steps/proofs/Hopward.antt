-- What a Resv says that is sent, and why a ResvTear is sent.
use Rattle.std.specs.Prelude.{◌≡◌, ℕ, Bool, true, false, cond, ◌||◌, nat_lt, Option, Some, None}
use Rattle.std.proofs.Common.{sym, ap, ◌∙◌, ⊎_elim}
use Rattle.rsvp_base.specs.declared.part.Part.{Part}
use Rattle.rsvp_base.specs.declared.style.StyleKind.{StyleKind}
use Rattle.rsvp_base.specs.declared.style.StyleKind.TheVariants.{Wild, Fixed, Shared}
use Rattle.rsvp_base.specs.declared.style.Unit.TheVariants.{One}
use Rattle.rsvp_base.specs.Members.{In}
use Rattle.rsvp_base.specs.Orders.{Names, senders}
use Rattle.rsvp_base.specs.Table.{get, has, size}
use Rattle.rsvp_base.specs.TokenBucket.{TokenBucket}
use Rattle.rsvp_base.proofs.SetLaws.{and_both, has-cut}
use Rattle.rsvp_messages.specs.declared.ask.Ask.{Ask}
use Rattle.rsvp_messages.specs.declared.ask.Ask.TheVariants as ask
use Rattle.rsvp_messages.specs.declared.message.Message.TheVariants as message
use Rattle.rsvp_messages.specs.declared.message.ResvMsg.{ResvMsg}
use Rattle.rsvp_messages.specs.declared.message.ResvTearMsg.{ResvTearMsg}
use Rattle.rsvp_messages.specs.Units.{ask_style}
use Rattle.style_rules.specs.Merge.{PartTable}
use Rattle.laws_bounds.specs.RouterRules.Act.{act}
use Rattle.laws_bounds.specs.RouterRules.Asking.{ask_of, ask_of_part, flows_by_sender}
use Rattle.laws_bounds.specs.RouterRules.Facts.{Facts}
use Rattle.laws_bounds.specs.RouterRules.Inputs.{ErrMsg, Input, OfPath, OfResv, Send}
use Rattle.laws_bounds.specs.RouterRules.Known.{Lane, names_via}
use Rattle.laws_bounds.specs.RouterRules.NodeConfig.{NodeConfig}
use Rattle.laws_bounds.specs.RouterRules.Requests.{toward}
use Rattle.laws_bounds.specs.RouterRules.Rule.{settled}
use Rattle.laws_bounds.specs.RouterRules.Sends.{error_message, gone_names, is_changed, torn_names}
use Rattle.laws_bounds.specs.SendLaws.{IsConf, IsError, IsPath, IsPathTear, IsResv, IsResvTear, IsSend}
use Rattle.laws_bounds.proofs.Asks.{gone_told, style_told}
use Rattle.laws_bounds.proofs.Knowing.{lanes_told}
use Rattle.laws_bounds.proofs.Ruling.{rule_in_parts}
use Rattle.laws_bounds.proofs.Sending.{not_told}
use Rattle.laws_bounds.proofs.Tests.{parts_tested}
use Rattle.laws_bounds.proofs.Lists.{one_name}
use Rattle.laws_bounds.specs.RouterRules.Steps.{facts_then, fired_then, sent_then, left_by}
use Rattle.laws_bounds.proofs.Stepping.{send_told}
use Rattle.laws_steps.specs.ReservationLaws.{IsOfGoneUnits, IsOfLane, WhatAResvSentSays, WhyAResvTearIsSent}

no_error : (w : ErrMsg) (m : ResvMsg) → error_message w ≡ message.Resv m → ⊥
no_error (OfPath x) m e = cc
no_error (OfResv x) m e = cc

no_error_tear : (w : ErrMsg) (m : ResvTearMsg) → error_message w ≡ message.ResvTear m → ⊥
no_error_tear (OfPath x) m e = cc
no_error_tear (OfResv x) m e = cc

resv_same : (m n : ResvMsg) → message.Resv m ≡ message.Resv n → m ≡ n
resv_same m n e = cc

tear_same : (m n : ResvTearMsg) → message.ResvTear m ≡ message.ResvTear n → m ≡ n
tear_same m n e = cc

-- a wildcard Resv of parts has their names
scope_of : (st : StyleKind) (ps : PartTable) (scope : Option Names) (flow : TokenBucket) → ask_of st ps ≡ Some (ask.Wild scope flow) → (names : Names) × (scope ≡ Some names)
scope_of Wild ps scope flow e = by (get ps One) e
  where
    by : (w : Option Part) → ask_of_part (λ part. ask.Wild (Some part.senders) part.flow) w ≡ Some (ask.Wild scope flow) → (names : Names) × (scope ≡ Some names)
    by None e = absurd (cc)
    by (Some part) e = let same : ◌≡◌ {A = Ask} (ask.Wild (Some part.senders) part.flow) (ask.Wild scope flow) = cc in let is : Some part.senders ≡ scope = cc in (part.senders, sym is)
scope_of Fixed ps scope flow e = by (nat_lt 0 (size (flows_by_sender ps))) e
  where
    by : (b : Bool) → cond b (Some (ask.Fixed (flows_by_sender ps))) None ≡ Some (ask.Wild scope flow) → (names : Names) × (scope ≡ Some names)
    by true e = let same : ◌≡◌ {A = Ask} (ask.Fixed (flows_by_sender ps)) (ask.Wild scope flow) = cc in absurd (cc)
    by false e = absurd (cc)
scope_of Shared ps scope flow e = by (get ps One) e
  where
    by : (w : Option Part) → ask_of_part ask.Shared w ≡ Some (ask.Wild scope flow) → (names : Names) × (scope ≡ Some names)
    by None e = absurd (cc)
    by (Some part) e = let same : ◌≡◌ {A = Ask} (ask.Shared part) (ask.Wild scope flow) = cc in absurd (cc)

module _ (old p : NodeConfig) (c : ℕ) (i : Input) (f : Facts) where
  abbrev after : Facts
  after = settled p c f (act p c i f).facts

  abbrev then_facts : Facts
  then_facts = facts_then old p c i f

  -- what goes toward a hop is the same before and after marks are used
  toward_then : (l : Lane) → toward p then_facts l ≡ toward p after l
  toward_then l = rule_in_parts.toward_same old p c i f l

  -- ---- Resvs
  resv_only : (s : Send) (m : ResvMsg) → s.message ≡ message.Resv m → IsSend old p f after (act p c i f) s → IsResv old p f after (act p c i f) s
  resv_only s m e k =
      ⊎_elim (λ (r : IsPathTear old p f after (act p c i f) s). let no = sym (ap (λ (z : Send). z.message) r.is) ∙ e in absurd (cc))
      (λ k.
      ⊎_elim (λ (r : IsResvTear old p f after (act p c i f) s). let no = sym (ap (λ (z : Send). z.message) r.is) ∙ e in absurd (cc))
      (λ k.
      ⊎_elim (λ (r : IsError old p f after (act p c i f) s). absurd (no_error r.error.error m (sym (ap (λ (z : Send). z.message) r.is) ∙ e)))
      (λ k.
      ⊎_elim (λ (r : IsConf old p f after (act p c i f) s). let no = sym (ap (λ (z : Send). z.message) r.is) ∙ e in absurd (cc))
      (λ k. ⊎_elim (λ (r : IsPath old p f after (act p c i f) s). let no = sym (ap (λ (z : Send). z.message) r.is) ∙ e in absurd (cc)) (λ (r : IsResv old p f after (act p c i f) s). r) k) k) k) k) k

  resv_sent : (s : Send) (m : ResvMsg) → In s (sent_then old p c i f) → s.message ≡ message.Resv m → IsResv old p f after (act p c i f) s
  resv_sent s m h e = resv_only s m e (send_told old p c i f s h)

  says : (s : Send) (m : ResvMsg) → In s (sent_then old p c i f) → s.message ≡ message.Resv m → IsOfLane p then_facts s m
  says s m h e =
      let r = resv_sent s m h e in
      let is = resv_same _ _ (sym e ∙ ap (λ (z : Send). z.message) r.is) in
      let asked : ask_of r.lane.style (toward p then_facts r.lane) ≡ Some m.ask = ap (ask_of r.lane.style) (toward_then r.lane) ∙ r.whole ∙ ap (λ (z : ResvMsg). Some z.ask) (sym is) in
      record {
        lane = r.lane;
        there = r.there;
        by = lanes_told then_facts r.lane r.there;
        asks = asked;
        style = style_told r.lane.style (toward p then_facts r.lane) m.ask asked;
        session = ap (λ (z : ResvMsg). z.session) is;
        hop = ap (λ (z : ResvMsg). z.hop) is;
        from = ap (λ (z : ResvMsg). z.hop.addr) is;
        period = ap (λ (z : ResvMsg). z.period) is;
        iface = ap (λ (z : Send). z.iface) r.is;
        dst = ap (λ (z : Send). z.dst) r.is;
      }

  refreshed : (s : Send) (m : ResvMsg) → In s (sent_then old p c i f) → s.message ≡ message.Resv m → s.refresh ≡ has (fired_then p c i f) m.session
  refreshed s m h e =
      let r = resv_sent s m h e in
      let is = resv_same _ _ (sym e ∙ ap (λ (z : Send). z.message) r.is) in ap (λ (z : Send). z.refresh) r.is ∙ ap (λ (z : ResvMsg). has (fired_then p c i f) z.session) (sym is)

  changed_why : (l : Lane) (b : Bool) → b ≡ false → (b || is_changed old p f after l) ≡ true → toward old f l ≡ toward p then_facts l → ⊥
  changed_why l true n w same = cc
  changed_why l false n w same = let z : true ≡ false = sym (parts_tested (toward old f l) (toward p after l) (same ∙ toward_then l)) ∙ not_told _ w in cc

  why : (s : Send) (m : ResvMsg) → In s (sent_then old p c i f) → s.message ≡ message.Resv m → s.refresh ≡ false
      → (l : Lane) × (s.iface ≡ l.hop.0) × (s.dst ≡ l.hop.1) × (m.session ≡ l.session) × (ask_style m.ask ≡ l.style) × (toward old f l ≡ toward p then_facts l → ⊥)
  unfolding resv_sent says
  why s m h e quiet =
      let r = resv_sent s m h e in
      let q = says s m h e in
      (r.lane, q.iface, q.dst, q.session, q.style, changed_why r.lane (has (act p c i f).fired r.lane.session) (sym (ap (λ (z : Send). z.refresh) r.is) ∙ quiet) r.why)

  -- ---- ResvTears
  tear_only : (s : Send) (m : ResvTearMsg) → s.message ≡ message.ResvTear m → IsSend old p f after (act p c i f) s → IsResvTear old p f after (act p c i f) s
  tear_only s m e k =
      ⊎_elim (λ (r : IsPathTear old p f after (act p c i f) s). let no = sym (ap (λ (z : Send). z.message) r.is) ∙ e in absurd (cc))
      (λ k.
      ⊎_elim (λ (r : IsResvTear old p f after (act p c i f) s). r)
      (λ k.
      ⊎_elim (λ (r : IsError old p f after (act p c i f) s). absurd (no_error_tear r.error.error m (sym (ap (λ (z : Send). z.message) r.is) ∙ e)))
      (λ k.
      ⊎_elim (λ (r : IsConf old p f after (act p c i f) s). let no = sym (ap (λ (z : Send). z.message) r.is) ∙ e in absurd (cc))
      (λ k.
      ⊎_elim (λ (r : IsPath old p f after (act p c i f) s). let no = sym (ap (λ (z : Send). z.message) r.is) ∙ e in absurd (cc))
      (λ (r : IsResv old p f after (act p c i f) s). let no = sym (ap (λ (z : Send). z.message) r.is) ∙ e in absurd (cc)) k) k) k) k) k

  tear_why : (s : Send) (m : ResvTearMsg) → In s (sent_then old p c i f) → s.message ≡ message.ResvTear m → IsOfGoneUnits old p f then_facts s m
  tear_why s m h e =
      let r = tear_only s m e (send_told old p c i f s h) in
      let is = tear_same _ _ (sym e ∙ ap (λ (z : Send). z.message) r.is) in
      let gone = gone_names (toward old f r.lane) (toward p after r.lane) in
      record {
        lane = r.lane;
        was = r.was;
        names = torn_names old p f after r.lane;
        some = one_name (torn_names old p f after r.lane) r.some;
        gone = λ x n.
            gone_told (toward old f r.lane) (toward p then_facts r.lane) x
            (ap (λ (z : PartTable). has (gone_names (toward old f r.lane) z) x) (toward_then r.lane) ∙ (and_both _ _ (sym (has-cut senders gone (names_via after r.lane) x) ∙ n)).0);
        via_hop = λ x n. (and_both _ _ (sym (has-cut senders gone (names_via after r.lane) x) ∙ n)).1;
        is = is;
        iface = ap (λ (z : Send). z.iface) r.is;
        dst = ap (λ (z : Send). z.dst) r.is;
        refresh = ap (λ (z : Send). z.refresh) r.is;
      }

pub what_a_resv_sent_says : WhatAResvSentSays
what_a_resv_sent_says =
    record {
      says = λ step within s m h e. says step.old step.now step.after step.input step.facts s m h e;
      scope = λ step within s m h e scope flow is. let q = says step.old step.now step.after step.input step.facts s m h e in
          scope_of q.lane.style (toward step.now (left_by step) q.lane) scope flow (q.asks ∙ ap Some is);
      refresh = λ step within s m h e. refreshed step.old step.now step.after step.input step.facts s m h e;
      why = λ step within s m h e quiet. why step.old step.now step.after step.input step.facts s m h e quiet;
    }

pub why_a_resv_tear_is_sent : WhyAResvTearIsSent
why_a_resv_tear_is_sent step within s m h e = tear_why step.old step.now step.after step.input step.facts s m h e
