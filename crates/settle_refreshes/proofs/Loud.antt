-- What a step does that is not quiet and injects nothing: a call, a node that is cleared, and routes that change. By none of these does a
-- node send an error or a confirmation, or get a wish to be confirmed that it had not; but by a call for one.
use Rattle.std.proofs.Common.{◌≡◌, ◌⊎◌, ℕ, ◌+◌, List, [], Bool, true, false, Option, None, Some, inl, inr, ⊎_elim, sym, refl, ap, subst, ◌∙◌}
use Rattle.std.specs.Prelude.{slice_get, map as each, not, ◌++◌}
use Rattle.rsvp_base.specs.declared.session.Session.{Session}
use Rattle.rsvp_base.specs.declared.style.StyleKind.{StyleKind}
use Rattle.rsvp_base.specs.declared.style.StyleKind.TheVariants.{Wild, Fixed, Shared}
use Rattle.rsvp_base.specs.Members.{In}
use Rattle.rsvp_base.specs.Orders.{Names}
use Rattle.rsvp_base.specs.Table.{get, kept, keys, with_rows}
use Rattle.rsvp_base.specs.TokenBucket.{TokenBucket}
use Rattle.rsvp_base.proofs.Members.{in_append, in_each}
use Rattle.rsvp_base.proofs.Tables.{got_kept}
use Rattle.rsvp_messages.specs.declared.message.Message.{Message}
use Rattle.rsvp_messages.specs.declared.message.Message.TheVariants as message
use Rattle.rsvp_messages.specs.declared.message.ResvConfMsg.{ResvConfMsg}
use Rattle.rsvp_messages.specs.declared.message.ResvErrMsg.{ResvErrMsg}
use Rattle.rsvp_messages.specs.declared.message.ResvMsg.{ResvMsg}
use Rattle.style_rules.specs.Lines.{LineKey}
use Rattle.router_rules.specs.declared.answers.LocalErr.{LocalErr}
use Rattle.router_rules.specs.Act.{act}
use Rattle.router_rules.specs.Calls.{call_refusal, unless, wanted}
use Rattle.router_rules.specs.Facts.{Facts, ResvState, Want, WantKey, Wants, resvs_of, want_keys}
use Rattle.router_rules.specs.Inputs.{Asked, Call, Came, Change, Clear, ConfSend, DropAs, AdvertAs, ErrSend, Input, Moved, QuitAll, Send, SendAs, Spelt, Wait, WantAs}
use Rattle.router_rules.specs.NodeConfig.{NodeConfig, is_session}
use Rattle.router_rules.specs.Rule.{Outcome, rule, settled}
use Rattle.router_rules.specs.Sends.{confirm_for, confirmed, is_changed}
use Rattle.router_rules.specs.Steps.{facts_then, is_calm, sent_then}
use Rattle.laws_bounds.specs.SendLaws.{IsSend}
use Rattle.laws_bounds.proofs.Framing.{act_wants, wants_then}
use Rattle.laws_bounds.proofs.Leaving.{forgetting_by_names, left_told}
use Rattle.laws_bounds.proofs.Lists.{got_with_rows}
use Rattle.laws_bounds.proofs.Stepping.{send_told}
use Rattle.network_model.specs.Steps.{Adverts, At, ClearAt, Copy, Deliver, Flags, Inject, Lose, Piece, Report, Reroute, Step, Trace}
use Rattle.network_model.specs.Steps.{input_at, is_quiet, ms_of, net_after, outcome, outcome_of, rest, sent, step, still}
use Rattle.network_model.specs.Worlds.{Item, World, config_of}
use Rattle.network_model.proofs.Changing.{what_is_sent_is_copied}
use Rattle.network_model.proofs.Quiet.{at_node_found}
use Rattle.network_model.proofs.Stepping.{facts_after_found}
use Rattle.settle_refreshes.specs.Plain.{IsPlainCall}
use Rattle.settle_refreshes.specs.Refreshes.{HasNoErrorForAll, IsBadResv, IsErrorForAll, NobodyWaits}
use Rattle.settle_refreshes.proofs.Sources.{conf_made, resv_err_made, resv_made}
use Rattle.settle_refreshes.proofs.Waiting.{cond_none, no_wish_for, said_same}

-- ---- steps that inject nothing
abbrev pub IsNoInjection : Step → Type 0
IsNoInjection (Inject e dst a) = ⊥
IsNoInjection _ = Unit {0}

-- nor does a call ask for a confirmation
abbrev pub IsPlainStep : Step → Type 0
IsPlainStep (Inject e dst a) = ⊥
IsPlainStep (At n l) = IsPlainCall l
IsPlainStep _ = Unit {0}

abbrev pub IsPlainInput : Input → Type 0
IsPlainInput (Call l) = IsPlainCall l
IsPlainInput _ = Unit {0}

pub no_injection : (s : Step) → IsPlainStep s → IsNoInjection s
no_injection (Piece ms) h = tt
no_injection (Deliver k) h = tt
no_injection (Lose k) h = tt
no_injection (Copy k) h = tt
no_injection (At n l) h = tt
no_injection (ClearAt n) h = tt
no_injection (Trace on) h = tt
no_injection (Report e) h = tt
no_injection Flags h = tt
no_injection Adverts h = tt
no_injection (Inject e dst a) h = h
no_injection (Reroute g s hops) h = tt

-- ---- at a node
module _ (p : NodeConfig) (c : ℕ) (f : Facts) where
  no_errors : (i : Input) → is_calm i ≡ false → (act p c i f).errors ≡ []
  no_errors (Call l) e = refl
  no_errors Clear e = refl
  no_errors Moved e = refl
  no_errors (Wait ms word) e = absurd (cc)
  no_errors (Came at dst a) e = absurd (cc)

  no_confs : (i : Input) → is_calm i ≡ false → (act p c i f).confs ≡ []
  no_confs (Call l) e = refl
  no_confs Clear e = refl
  no_confs Moved e = refl
  no_confs (Wait ms word) e = absurd (cc)
  no_confs (Came at dst a) e = absurd (cc)

  none_asked : (i : Input) → is_calm i ≡ false → (act p c i f).asked ≡ None
  none_asked (Call l) e = refl
  none_asked Clear e = refl
  none_asked Moved e = refl
  none_asked (Wait ms word) e = absurd (cc)
  none_asked (Came at dst a) e = absurd (cc)

  -- no reservation is made
  empty_holds_none : (st : StyleKind) (k : LineKey) (r : ResvState) → get (resvs_of st (act p c Clear f).facts) k ≡ Some r → get (resvs_of st f) k ≡ Some r
  empty_holds_none Wild k r e = absurd (cc)
  empty_holds_none Fixed k r e = absurd (cc)
  empty_holds_none Shared k r e = absurd (cc)

  resv_before : (i : Input) → is_calm i ≡ false → (st : StyleKind) (k : LineKey) (r : ResvState) → get (resvs_of st (act p c i f).facts) k ≡ Some r → get (resvs_of st f) k ≡ Some r
  resv_before (Call l) e st k r h = h
  resv_before Clear e st k r h = empty_holds_none st k r h
  resv_before Moved e st k r h = h
  resv_before (Wait ms word) e st k r h = absurd (cc)
  resv_before (Came at dst a) e st k r h = absurd (cc)

  wish_before : (old : NodeConfig) (i : Input) → is_calm i ≡ false → (st : StyleKind) (k : LineKey) (x : ResvState) → get (resvs_of st (facts_then old p c i f)) k ≡ Some x
      → (r : ResvState) × (get (resvs_of st f) k ≡ Some r) × (x.confirm ≡ r.confirm)
  wish_before old i loud st k x there =
      let g = forgetting_by_names.at f (act p c i f).facts st k x there in
      let left = left_told _ g.0 x g.2 in
      (g.0, resv_before i loud st k g.0 g.1, left.confirm)

  -- ---- wants
  module _ (unmarked : (k : WantKey) (x : Want) → get f.wants k ≡ Some x → x.confirm ≡ false) where
    marked_as : (s : Session) (st : StyleKind) (names : Names) (flow : TokenBucket) (mark : Bool) (e : WantKey × Want) → In e (wanted s st names flow mark) → e.1.confirm ≡ mark
    marked_as s Wild names flow mark e i = ⊎_elim (λ same. ap (λ (z : WantKey × Want). z.1.confirm) same) (λ (no : ⊥). absurd no) i
    marked_as s Fixed names flow mark e i = let r = in_each _ e (keys names) i in ap (λ (z : WantKey × Want). z.1.confirm) r.2
    marked_as s Shared names flow mark e i = ⊎_elim (λ same. ap (λ (z : WantKey × Want). z.1.confirm) same) (λ (no : ⊥). absurd no) i

    new_unmarked : (s : Session) (st : StyleKind) (names : Names) (flow : TokenBucket) (mark : Bool) → mark ≡ false → (o : Option LocalErr) (k : WantKey) (x : Want)
        → get (unless o (with_rows f.wants (wanted s st names flow mark)) f.wants) k ≡ Some x → x.confirm ≡ false
    new_unmarked s st names flow mark off (Some e) k x h = unmarked k x h
    new_unmarked s st names flow mark off None k x h =
        ⊎_elim (λ (old : get f.wants k ≡ Some x). unmarked k x old)
        (λ (new : In (k, x) (wanted s st names flow mark)). marked_as s st names flow mark (k, x) new ∙ off)
        (got_with_rows want_keys (wanted s st names flow mark) f.wants k x h)

    left_unmarked : (s : Session) (o : Option LocalErr) (k : WantKey) (x : Want) → get (unless o (kept (λ z. not (is_session z.0 s)) f.wants) f.wants) k ≡ Some x → x.confirm ≡ false
    left_unmarked s (Some e) k x h = unmarked k x h
    left_unmarked s None k x h = unmarked k x (got_kept want_keys (λ z. not (is_session z.0 s)) f.wants k x h).1

    as_before : (i : Input) (k : WantKey) (x : Want) → (act p c i f).facts.wants ≡ f.wants → get (act p c i f).facts.wants k ≡ Some x → x.confirm ≡ false
    as_before i k x same h = unmarked k x (ap (λ (z : Wants). get z k) (sym same) ∙ h)

    acted_unmarked : (i : Input) → is_calm i ≡ false → IsPlainInput i → (k : WantKey) (x : Want) → get (act p c i f).facts.wants k ≡ Some x → x.confirm ≡ false
    acted_unmarked (Call (SendAs s y tspec)) e plain k x h = as_before (Call (SendAs s y tspec)) k x (act_wants p c (Call (SendAs s y tspec)) f refl) h
    acted_unmarked (Call (DropAs s y)) e plain k x h = as_before (Call (DropAs s y)) k x (act_wants p c (Call (DropAs s y)) f refl) h
    acted_unmarked (Call (AdvertAs s y)) e plain k x h = as_before (Call (AdvertAs s y)) k x (act_wants p c (Call (AdvertAs s y)) f refl) h
    acted_unmarked (Call (WantAs s st names flow mark)) e plain k x h = new_unmarked s st names flow mark plain (call_refusal p (WantAs s st names flow mark) f) k x h
    acted_unmarked (Call (QuitAll s)) e plain k x h = left_unmarked s (call_refusal p (QuitAll s) f) k x h
    acted_unmarked Clear e plain k x h = unmarked k x h
    acted_unmarked Moved e plain k x h = unmarked k x h
    acted_unmarked (Wait ms word) e plain k x h = absurd (cc)
    acted_unmarked (Came at dst a) e plain k x h = absurd (cc)

    want_then : (old : NodeConfig) (i : Input) → is_calm i ≡ false → IsPlainInput i → (k : WantKey) (x : Want) → get (facts_then old p c i f).wants k ≡ Some x → x.confirm ≡ false
    want_then old i loud plain k x e = by x.confirm refl
      where
        by : (b : Bool) → x.confirm ≡ b → x.confirm ≡ false
        by false t = t
        by true t =
            let r = (wants_then old p c i f).source k x e in
            let no : true ≡ false = sym (r.3 t) ∙ acted_unmarked i loud plain k r.0 r.1 in
            absurd (cc)

  -- ---- what is sent
  module _ (old : NodeConfig) (i : Input) (loud : is_calm i ≡ false) (s : Send) (sent : In s (sent_then old p c i f)) where
    abbrev change : Change
    change = act p c i f

    abbrev after : Facts
    after = settled p c f change.facts

    kind : IsSend old p f after change s
    kind = send_told old p c i f s sent

    no_resv_err : (m : ResvErrMsg) → s.message ≡ message.ResvErr m → ⊥
    no_resv_err m says = let e = resv_err_made old p f after change s m says kind in subst (λ (z : List ErrSend). In e.0 z) (no_errors i loud) e.1

    no_conf : (m : ResvConfMsg) → s.message ≡ message.ResvConf m → ⊥
    no_conf m says =
        let k = conf_made old p f after change s m says kind in
        let none : change.confs ++ confirmed old p f after change.asked ≡ [] =
        ap (λ (z : Option Asked). change.confs ++ confirmed old p f after z) (none_asked i loud) ∙ ap (λ (z : List ConfSend). z ++ []) (no_confs i loud) in
        subst (λ (z : List ConfSend). In k.conf z) none k.made

    asks_not : ((k : WantKey) (x : Want) → get change.facts.wants k ≡ Some x → x.confirm ≡ false) → (m : ResvMsg) → s.message ≡ message.Resv m → m.confirm ≡ None
    asks_not unmarked m says =
        let k = resv_made old p f after change s m says kind in
        let none : confirm_for p after k.lane change.asked ≡ None = ap (confirm_for p after k.lane) (none_asked i loud) ∙ no_wish_for p after unmarked k.lane in
        let same = said_same _ m (sym (ap (λ (z : Send). z.message) k.is) ∙ says) in
        ap (λ (z : ResvMsg). z.confirm) (sym same) ∙ cond_none (is_changed old p f after k.lane) (confirm_for p after k.lane change.asked) none

-- ---- by a step
-- what comes to a node
loud_input : (s : Step) (w : World) (n : ℕ) (i : Input) → is_quiet s ≡ false → IsNoInjection s → input_at s w n ≡ Some i → is_calm i ≡ false
loud_input (At m l) w n i q h e = let r = at_node_found m n (Call l) i e in ap is_calm r.1
loud_input (ClearAt m) w n i q h e = let r = at_node_found m n Clear i e in ap is_calm r.1
loud_input (Reroute g s hops) w n i q h e = let same : Moved ≡ i = cc in ap is_calm (sym same)
loud_input (Inject t dst a) w n i q h e = absurd h
loud_input (Piece ms) w n i q h e = absurd (cc)
loud_input (Deliver k) w n i q h e = absurd (cc)
loud_input (Lose k) w n i q h e = absurd (cc)
loud_input (Copy k) w n i q h e = absurd (cc)
loud_input (Trace on) w n i q h e = absurd (cc)
loud_input (Report r) w n i q h e = absurd (cc)
loud_input Flags w n i q h e = absurd (cc)
loud_input Adverts w n i q h e = absurd (cc)

plain_input : (s : Step) (w : World) (n : ℕ) (i : Input) → is_quiet s ≡ false → IsPlainStep s → input_at s w n ≡ Some i → IsPlainInput i
plain_input (At m l) w n i q h e = let r = at_node_found m n (Call l) i e in subst IsPlainInput (sym r.1) h
plain_input (ClearAt m) w n i q h e = let r = at_node_found m n Clear i e in subst IsPlainInput (sym r.1) tt
plain_input (Reroute g s hops) w n i q h e = let same : Moved ≡ i = cc in subst IsPlainInput same tt
plain_input (Inject t dst a) w n i q h e = absurd h
plain_input (Piece ms) w n i q h e = absurd (cc)
plain_input (Deliver k) w n i q h e = absurd (cc)
plain_input (Lose k) w n i q h e = absurd (cc)
plain_input (Copy k) w n i q h e = absurd (cc)
plain_input (Trace on) w n i q h e = absurd (cc)
plain_input (Report r) w n i q h e = absurd (cc)
plain_input Flags w n i q h e = absurd (cc)
plain_input Adverts w n i q h e = absurd (cc)

-- what stays in flight
loud_rest : (s : Step) (w : World) → is_quiet s ≡ false → IsNoInjection s → rest s w ≡ w.flight
loud_rest (At m l) w q h = refl
loud_rest (ClearAt m) w q h = refl
loud_rest (Reroute g s hops) w q h = refl
loud_rest (Inject t dst a) w q h = absurd h
loud_rest (Piece ms) w q h = absurd (cc)
loud_rest (Deliver k) w q h = absurd (cc)
loud_rest (Lose k) w q h = absurd (cc)
loud_rest (Copy k) w q h = absurd (cc)
loud_rest (Trace on) w q h = absurd (cc)
loud_rest (Report r) w q h = absurd (cc)
loud_rest Flags w q h = absurd (cc)
loud_rest Adverts w q h = absurd (cc)

module _ (q : ℕ) (s : Step) (u : World) (loud : is_quiet s ≡ false) (clean : IsNoInjection s) where
  abbrev before_at : ℕ → NodeConfig
  before_at n = config_of q u.net u.trees n

  abbrev now_at : ℕ → NodeConfig
  now_at n = config_of q (net_after s u) u.trees n

  -- a node to which something comes follows its rule
  record IsRuled (n : ℕ) (f : Facts) : Type 0 where
    input : Input
    came : input_at s u n ≡ Some input
    calls : is_calm input ≡ false
    is : outcome q s u n f ≡ rule (before_at n) (now_at n) (u.clock + ms_of s) input f

  ruled : (n : ℕ) (f : Facts) → (outcome q s u n f ≡ still f) ⊎ IsRuled n f
  ruled n f = by (input_at s u n) refl
    where
      by : (o : Option Input) → input_at s u n ≡ o → (outcome q s u n f ≡ still f) ⊎ IsRuled n f
      by None e = inl (ap (λ (o : Option Input). outcome_of q o s u n f) e)
      by (Some i) e = inr (record { input = i; came = e; calls = loud_input s u n i loud clean e; is = ap (λ (o : Option Input). outcome_of q o s u n f) e })

  pub in_flight_then : (x : Item) → In x (step q s u).flight → In x u.flight ⊎ ((b : Bool) × In (x, b) (sent q s u))
  in_flight_then x i =
      ⊎_elim (λ (j : In x (rest s u)). inl (subst (λ (z : List Item). In x z) (loud_rest s u loud clean) j))
      (λ (j : In x (each (λ y. y.0) (sent q s u))).
      let r = in_each (λ (y : Item × Bool). y.0) x (sent q s u) j in
      inr (r.0.1, subst (λ (z : Item). In (z, r.0.1) (sent q s u)) (sym r.2) r.1))
      (in_append x (rest s u) (each (λ y. y.0) (sent q s u)) i)

  -- what is sent is sent by such a node
  record IsSentLoud (y : Item) : Type 0 where
    node : ℕ
    facts : Facts
    there : slice_get u.nodes node ≡ Some facts
    by : IsRuled node facts
    send : Send
    sent : In send (sent_then (before_at node) (now_at node) (u.clock + ms_of s) by.input facts)
    says : y.arrival ≡ Spelt send.message

  sent_loud : (y : Item) (b : Bool) → In (y, b) (sent q s u) → IsSentLoud y
  sent_loud y b i =
      let c = (what_is_sent_is_copied q s u (y, b)).0 i in
      ⊎_elim
      (λ (h : outcome q s u c.node c.facts ≡ still c.facts).
      absurd (subst (λ (z : List Send). In c.send z) (ap (λ (z : Outcome). z.sent) h) c.sent))
      (λ (h : IsRuled c.node c.facts).
      record {
        node = c.node;
        facts = c.facts;
        there = c.there;
        by = h;
        send = c.send;
        sent = subst (λ (z : Outcome). In c.send z.sent) h.is c.sent;
        says = ap (λ (z : Item × Bool). z.0.arrival) c.is;
      })
      (ruled c.node c.facts)

  module _ (y : Item) (b : Bool) (i : In (y, b) (sent q s u)) where
    message_is : (r : IsSentLoud y) (m : Message) → y.arrival ≡ Spelt m → r.send.message ≡ m
    message_is r m e = let same : Spelt r.send.message ≡ Spelt m = sym r.says ∙ e in cc

    pub no_resv_err_sent : (m : ResvErrMsg) → y.arrival ≡ Spelt (message.ResvErr m) → ⊥
    no_resv_err_sent m e =
        let r = sent_loud y b i in
        no_resv_err (now_at r.node) (u.clock + ms_of s) r.facts (before_at r.node) r.by.input r.by.calls r.send r.sent m (message_is r (message.ResvErr m) e)

    pub no_conf_sent_loud : (m : ResvConfMsg) → y.arrival ≡ Spelt (message.ResvConf m) → ⊥
    no_conf_sent_loud m e =
        let r = sent_loud y b i in
        no_conf (now_at r.node) (u.clock + ms_of s) r.facts (before_at r.node) r.by.input r.by.calls r.send r.sent m (message_is r (message.ResvConf m) e)

    resv_sent : IsPlainStep s → NobodyWaits u → (m : ResvMsg) → y.arrival ≡ Spelt (message.Resv m) → m.confirm ≡ None
    resv_sent plain waits m e =
        let r = sent_loud y b i in
        asks_not (now_at r.node) (u.clock + ms_of s) r.facts (before_at r.node) r.by.input r.by.calls r.send r.sent
        (acted_unmarked (now_at r.node) (u.clock + ms_of s) r.facts (λ k x. waits.wants r.node r.facts k x r.there) r.by.input r.by.calls (plain_input s u r.node r.by.input loud plain r.by.came))
        m (message_is r (message.Resv m) e)

  pub nobody_waits_loud : IsPlainStep s → NobodyWaits u → NobodyWaits (step q s u)
  nobody_waits_loud plain waits = record {
    resvs = λ n g st k x at kept.
        let f = facts_after_found q s u n g at in
        ⊎_elim
        (λ (z : outcome q s u n f.0 ≡ still f.0).
        waits.resvs n f.0 st k x f.1 (ap (λ (o : Outcome). get (resvs_of st o.facts) k) (sym z) ∙ ap (λ (v : Facts). get (resvs_of st v) k) (sym f.2) ∙ kept))
        (λ (r : IsRuled n f.0).
        let w = wish_before (now_at n) (u.clock + ms_of s) f.0 (before_at n) r.input r.calls st k x
        (ap (λ (o : Outcome). get (resvs_of st o.facts) k) (sym r.is) ∙ ap (λ (v : Facts). get (resvs_of st v) k) (sym f.2) ∙ kept) in
        w.2 ∙ waits.resvs n f.0 st k w.0 f.1 w.1)
        (ruled n f.0);
    wants = λ n g k x at kept.
        let f = facts_after_found q s u n g at in
        ⊎_elim
        (λ (z : outcome q s u n f.0 ≡ still f.0).
        waits.wants n f.0 k x f.1 (ap (λ (o : Outcome). get o.facts.wants k) (sym z) ∙ ap (λ (v : Facts). get v.wants k) (sym f.2) ∙ kept))
        (λ (r : IsRuled n f.0).
        want_then (now_at n) (u.clock + ms_of s) f.0 (λ k x. waits.wants n f.0 k x f.1) (before_at n) r.input r.calls (plain_input s u n r.input loud plain r.came) k x
        (ap (λ (o : Outcome). get o.facts.wants k) (sym r.is) ∙ ap (λ (v : Facts). get v.wants k) (sym f.2) ∙ kept))
        (ruled n f.0);
    items = λ y m i spelt.
        ⊎_elim (λ (old : In y u.flight). waits.items y m old spelt) (λ (new : (b : Bool) × In (y, b) (sent q s u)). resv_sent y new.0 new.1 plain waits m spelt) (in_flight_then y i);
  }

  -- what was in flight, or is no error
  pub no_error_for_all_loud : (which : Session) → HasNoErrorForAll u which → HasNoErrorForAll (step q s u) which
  no_error_for_all_loud which none y i =
      ⊎_elim (λ (old : In y u.flight). none y old)
      (λ (new : (b : Bool) × In (y, b) (sent q s u)). (
        λ (z : IsErrorForAll which y). no_resv_err_sent y new.0 new.1 z.0 z.1,
        λ (z : IsBadResv which y).
            let copied = (what_is_sent_is_copied q s u (y, new.0)).0 new.1 in
            let no = sym (ap (λ (v : Item × Bool). v.0.arrival) copied.is) ∙ z.1 in
            cc,
      ))
      (in_flight_then y i)
