-- Where nobody waits for a confirmation nobody does later, and none is sent; and where no error is for all none is later.
use Rattle.std.proofs.Common.{◌≡◌, ℕ, ◌+◌, List, [], ◌∷◌, Bool, true, false, cond, Option, None, Some, inl, ⊎_elim, sym, refl, ap, subst, ◌∙◌}
use Rattle.std.specs.Prelude.{slice_get, map as each}
use Rattle.std.specs.List.{filter}
use Rattle.rsvp_base.specs.declared.addr.Addr.{Addr}
use Rattle.rsvp_base.specs.declared.session.Session.{Session}
use Rattle.rsvp_base.specs.declared.style.StyleKind.{StyleKind}
use Rattle.rsvp_base.specs.declared.style.StyleKind.TheVariants.{Wild, Fixed, Shared}
use Rattle.rsvp_base.specs.declared.style.Unit.{Unit as UnitOf}
use Rattle.rsvp_base.specs.Members.{In}
use Rattle.rsvp_base.specs.Orders.{Names, sessions, units}
use Rattle.rsvp_base.specs.Sets.{cut, is_none}
use Rattle.rsvp_base.specs.Table.{get}
use Rattle.rsvp_base.specs.TokenBucket.{TokenBucket}
use Rattle.rsvp_base.proofs.Counts.{in_found}
use Rattle.rsvp_base.proofs.Members.{in_filter}
use Rattle.rsvp_base.proofs.SetLaws.{and_both}
use Rattle.rsvp_base.proofs.UnderLaws.{get-under}
use Rattle.rsvp_messages.specs.declared.message.Message.TheVariants as message
use Rattle.rsvp_messages.specs.declared.message.ResvConfMsg.{ResvConfMsg}
use Rattle.rsvp_messages.specs.declared.message.ResvErrMsg.{ResvErrMsg}
use Rattle.rsvp_messages.specs.declared.message.ResvMsg.{ResvMsg}
use Rattle.rsvp_messages.specs.Proper.{IsProperBlame, IsProperBlameOf}
use Rattle.rsvp_messages.specs.Units.{ask_style}
use Rattle.style_rules.specs.Lines.{LineKey}
use Rattle.router_rules.specs.Act.{act}
use Rattle.router_rules.specs.Asking.{Everyone, Nobody, These, as_listed}
use Rattle.router_rules.specs.Confirming.{is_wish}
use Rattle.router_rules.specs.Errors.{blamed, error_listing}
use Rattle.router_rules.specs.Facts.{Facts, ResvState, Want, WantKey, Wants, resvs_of, wants_in}
use Rattle.router_rules.specs.Inputs.{Call, Came, Change, Clear, ErrSend, Input, Moved, Send, Spelt, Unspelt, Wait}
use Rattle.router_rules.specs.Known.{Lane}
use Rattle.router_rules.specs.NodeConfig.{NodeConfig, own}
use Rattle.router_rules.specs.Rule.{Outcome, settled}
use Rattle.router_rules.specs.Sends.{confirm_for, is_changed, is_marked, marked_units, own_wish}
use Rattle.router_rules.specs.Steps.{facts_then, is_calm}
use Rattle.laws_bounds.specs.ErrorLaws.{IsPathReply, IsResvReply}
use Rattle.laws_bounds.specs.Frames.{on_wants}
use Rattle.laws_bounds.proofs.Answering.{faults_by_hint}
use Rattle.laws_bounds.proofs.Framing.{act_wants, wants_then}
use Rattle.laws_bounds.proofs.Stepping.{send_told}
use Rattle.network_model.specs.Bounds.{AreBounds, IsProperArrival}
use Rattle.network_model.specs.Steps.{Step, input_at, is_quiet, ms_of, outcome, sent, step, still}
use Rattle.network_model.specs.Worlds.{Item, World, config_of}
use Rattle.network_model.proofs.Changing.{what_is_sent_is_copied}
use Rattle.network_model.proofs.Machines.{in_flight_after}
use Rattle.network_model.proofs.Quiet.{FollowsRule, outcome_quiet}
use Rattle.network_model.proofs.Stepping.{facts_after_found}
use Rattle.settle_paths.proofs.Sends.{sent_by_rule}
use Rattle.settle_refreshes.specs.Refreshes.{HasNoErrorForAll, IsBadResv, IsErrorForAll, IsForAll, NobodyWaits}
use Rattle.settle_refreshes.proofs.Confirming.{AsksNothing, wish_source}
use Rattle.settle_refreshes.proofs.Going.{calm_input, came_item}
use Rattle.settle_refreshes.proofs.OneSender.{conf_has_come, nothing_asked}
use Rattle.settle_refreshes.proofs.Sources.{GoesAhead, GoesBack, IsRefused, IsReply, ahead_is, conf_made, error_source, listing_says, not_of_path, refusal_is, resv_err_made, resv_made, resv_same}

-- ---- at a node
calm_wants : (i : Input) → is_calm i ≡ true → on_wants i ≡ false
calm_wants (Call l) e = absurd (cc)
calm_wants (Wait ms word) e = refl
calm_wants Clear e = absurd (cc)
calm_wants (Came at dst a) e = refl
calm_wants Moved e = absurd (cc)

nothing : {A : Type 0} (xs : List A) → ((x : A) → In x xs → ⊥) → xs ≡ []
nothing [] none = refl
nothing (x ∷ xs) none = absurd (none x (inl refl))

pub said_same : (a b : ResvMsg) → message.Resv a ≡ message.Resv b → a ≡ b
said_same a b e = cc

pub cond_none : (b : Bool) (o : Option Addr) → o ≡ None → cond b o None ≡ None
cond_none true o e = e
cond_none false o e = refl

module _ (p : NodeConfig) (f : Facts) (unmarked : (k : WantKey) (x : Want) → get f.wants k ≡ Some x → x.confirm ≡ false) (l : Lane) where
  no_marks : marked_units p f l ≡ []
  no_marks =
      ap (λ (xs : List (UnitOf × Want)). each (λ (e : UnitOf × Want). e.0) xs)
      (nothing (filter (is_marked p f l) (wants_in f l.session).rows)
      (λ e i.
      let t = in_filter (is_marked p f l) e (wants_in f l.session).rows i in
      let there : get f.wants (l.session, e.0) ≡ Some e.1 = sym (get-under sessions units f.wants l.session e.0) ∙ in_found units (wants_in f l.session) e.0 e.1 t.0 in
      let bad : true ≡ false = sym (and_both _ _ t.1).0 ∙ unmarked (l.session, e.0) e.1 there in
      cc))

  pub no_wish_for : confirm_for p f l None ≡ None
  no_wish_for = ap (own_wish p l) no_marks

-- ---- by a quiet step
module _ (q : ℕ) (s : Step) (u : World) (quiet : is_quiet s ≡ true) (waits : NobodyWaits u) where
  module _ (n : ℕ) (f : Facts) (there : slice_get u.nodes n ≡ Some f) (i : Input) (came : input_at s u n ≡ Some i) where
    abbrev p : NodeConfig
    p = config_of q u.net u.trees n

    asks_none : AsksNothing i
    asks_none at dst m is = let t = came_item s u n i quiet came at dst (Spelt (message.Resv m)) is in waits.items t.item m t.flies t.says

    -- no reservation keeps a wish
    resv_then : (c : ℕ) (st : StyleKind) (k : LineKey) (x : ResvState) → get (resvs_of st (facts_then p p c i f)) k ≡ Some x → x.confirm ≡ None
    resv_then c st k x kept = by x.confirm refl
      where
        by : (o : Option Addr) → x.confirm ≡ o → x.confirm ≡ None
        by None e = e
        by (Some a) e =
            let r = wish_source p c f st k a p i (calm_input s u n i quiet came) asks_none x kept e in
            let no : ◌≡◌ {A = Option Addr} None (Some a) = sym (waits.resvs n f st k r.0 there r.1) ∙ r.2 in
            absurd (cc)

    acted_unmarked : (c : ℕ) (k : WantKey) (x : Want) → get (act p c i f).facts.wants k ≡ Some x → x.confirm ≡ false
    acted_unmarked c k x e = waits.wants n f k x there (ap (λ (z : Wants). get z k) (sym (act_wants p c i f (calm_wants i (calm_input s u n i quiet came)))) ∙ e)

    -- and no want has a mark
    want_then : (c : ℕ) (k : WantKey) (x : Want) → get (facts_then p p c i f).wants k ≡ Some x → x.confirm ≡ false
    want_then c k x e = by x.confirm refl
      where
        by : (b : Bool) → x.confirm ≡ b → x.confirm ≡ false
        by false t = t
        by true t =
            let r = (wants_then p p c i f).source k x e in
            let no : true ≡ false = sym (r.3 t) ∙ acted_unmarked c k r.0 r.1 in
            absurd (cc)

  -- no Resv that is sent asks, and no ResvConf is sent
  resv_sent : (y : Item) (b : Bool) (m : ResvMsg) → In (y, b) (sent q s u) → y.arrival ≡ Spelt (message.Resv m) → m.confirm ≡ None
  resv_sent y b m i spelt =
      let r = sent_by_rule q s u y b (message.Resv m) quiet i spelt in
      let p : NodeConfig = config_of q u.net u.trees r.node in
      let c : ℕ = u.clock + ms_of s in
      let change : Change = act p c r.by.input r.facts in
      let after : Facts = settled p c r.facts change.facts in
      let k = resv_made p p r.facts after change r.send m r.says (send_told p p c r.by.input r.facts r.send r.sent) in
      let none : confirm_for p after k.lane change.asked ≡ None =
      ap (confirm_for p after k.lane) (nothing_asked s u quiet waits.items p c r.node r.facts r.by.input r.by.came)
      ∙ no_wish_for p after (acted_unmarked r.node r.facts r.there r.by.input r.by.came c) k.lane in
      let same = said_same _ m (sym (ap (λ (z : Send). z.message) k.is) ∙ r.says) in
      ap (λ (z : ResvMsg). z.confirm) (sym same) ∙ cond_none (is_changed p p r.facts after k.lane) (confirm_for p after k.lane change.asked) none

  pub no_conf_sent : (y : Item) (b : Bool) (m : ResvConfMsg) → In (y, b) (sent q s u) → y.arrival ≡ Spelt (message.ResvConf m) → ⊥
  no_conf_sent y b m i spelt =
      let r = sent_by_rule q s u y b (message.ResvConf m) quiet i spelt in
      let p : NodeConfig = config_of q u.net u.trees r.node in
      let c : ℕ = u.clock + ms_of s in
      let change : Change = act p c r.by.input r.facts in
      let k = conf_made p p r.facts (settled p c r.facts change.facts) change r.send m r.says (send_told p p c r.by.input r.facts r.send r.sent) in
      let g = conf_has_come s u quiet waits.items p c r.node r.facts r.by.input r.by.came k.conf k.made in
      let no : true ≡ false = sym g.to.wanted ∙ ap (λ (z : Option Addr). is_wish z g.conf.confirm)
      (waits.resvs r.node r.facts (ask_style g.conf.ask) (g.conf.session, (g.to.hop, g.to.unit)) g.to.resv r.there g.to.there) in
      cc

  pub nobody_waits_then : NobodyWaits (step q s u)
  nobody_waits_then = record {
    resvs = λ n g st k x at kept.
        let f = facts_after_found q s u n g at in
        ⊎_elim
        (λ (z : (input_at s u n ≡ None) × (outcome q s u n f.0 ≡ still f.0)).
        waits.resvs n f.0 st k x f.1 (ap (λ (o : Outcome). get (resvs_of st o.facts) k) (sym z.1) ∙ ap (λ (v : Facts). get (resvs_of st v) k) (sym f.2) ∙ kept))
        (λ (r : FollowsRule q s u n f.0 (outcome q s u n f.0)).
        resv_then n f.0 f.1 r.input r.came (u.clock + ms_of s) st k x (ap (λ (o : Outcome). get (resvs_of st o.facts) k) (sym r.is) ∙ ap (λ (v : Facts). get (resvs_of st v) k) (sym f.2) ∙ kept))
        (outcome_quiet q s u n f.0 quiet);
    wants = λ n g k x at kept.
        let f = facts_after_found q s u n g at in
        ⊎_elim
        (λ (z : (input_at s u n ≡ None) × (outcome q s u n f.0 ≡ still f.0)).
        waits.wants n f.0 k x f.1 (ap (λ (o : Outcome). get o.facts.wants k) (sym z.1) ∙ ap (λ (v : Facts). get v.wants k) (sym f.2) ∙ kept))
        (λ (r : FollowsRule q s u n f.0 (outcome q s u n f.0)).
        want_then n f.0 f.1 r.input r.came (u.clock + ms_of s) k x (ap (λ (o : Outcome). get o.facts.wants k) (sym r.is) ∙ ap (λ (v : Facts). get v.wants k) (sym f.2) ∙ kept))
        (outcome_quiet q s u n f.0 quiet);
    items = λ y m i spelt.
        ⊎_elim (λ (old : In y u.flight). waits.items y m old spelt) (λ (new : (b : Bool) × In (y, b) (sent q s u)). resv_sent y new.0 m new.1 spelt) (in_flight_after q s u y quiet i);
  }

-- ---- an error that is for all was for all when it came
everyone_before : (st : StyleKind) (listed : Option Names) (all : Names) → blamed st listed all ≡ Everyone → listed ≡ None
everyone_before st None all e = refl
everyone_before st (Some names) all e = by (is_none (cut all names)) e
  where
    by : (b : Bool) → cond b Nobody (These (cut all names)) ≡ Everyone → ◌≡◌ {A = Option Names} (Some names) None
    by true h = let no : Nobody ≡ Everyone = h in absurd (cc)
    by false h = let no : These (cut all names) ≡ Everyone = h in absurd (cc)

-- a ResvErr with a flow that is proper is not for all
with_flow : (st : StyleKind) (listed : Option Names) (o : Option TokenBucket) (flow : TokenBucket) → IsProperBlameOf st listed o → o ≡ Some flow → listed ≡ None → st ≡ Wild
with_flow Wild listed o flow h e n = refl
with_flow Fixed None (Some x) flow h e n = absurd h
with_flow Fixed None None flow h e n = absurd (cc)
with_flow Fixed (Some names) o flow h e n = absurd (cc)
with_flow Shared None (Some x) flow h e n = absurd h
with_flow Shared None None flow h e n = absurd (cc)
with_flow Shared (Some names) o flow h e n = absurd (cc)

module _ (q : ℕ) (which : Session) (s : Step) (u : World) (quiet : is_quiet s ≡ true) (none : HasNoErrorForAll u which) where
  not_for_all : (y : Item) (b : Bool) → In (y, b) (sent q s u) → (m : ResvErrMsg) → IsProperBlame m.blame → y.arrival ≡ Spelt (message.ResvErr m) → m.session ≡ which → IsForAll m → ⊥
  not_for_all y b i m proper spelt session for_all =
      let r = sent_by_rule q s u y b (message.ResvErr m) quiet i spelt in
      let p : NodeConfig = config_of q u.net u.trees r.node in
      let c : ℕ = u.clock + ms_of s in
      let e = resv_err_made p p r.facts (settled p c r.facts (act p c r.by.input r.facts).facts) (act p c r.by.input r.facts) r.send m r.says (send_told p p c r.by.input r.facts r.send r.sent) in
      ⊎_elim
      (λ (x : IsRefused p c r.facts e.0 r.by.input).
      let w = refusal_is p c x.at x.resv r.facts e.0 x.made in
      let same = resv_same w.0 m (sym w.1 ∙ e.3) in
      for_all.1 (with_flow m.blame.style m.blame.senders m.blame.flow w.2.0 proper (ap (λ (z : ResvErrMsg). z.blame.flow) (sym same) ∙ w.2.1) for_all.0))
      (λ k.
      ⊎_elim (λ (x : GoesBack p c r.facts e.0 r.by.input). not_of_path x.error m (sym (ap (λ (z : ErrSend). z.error) x.is) ∙ e.3))
      (λ k.
      ⊎_elim
      (λ (x : GoesAhead p c r.facts e.0 r.by.input).
      let t = came_item s u r.node r.by.input quiet r.by.came x.at (own p x.at) (Spelt (message.ResvErr x.error)) x.came in
      let goes : e.0 ≡ (error_listing p x.error x.to.hop x.to.names).1 = ahead_is p c r.facts e.0 r.by.input x in
      let says = listing_says p x.error x.to.hop x.to.names m (ap (λ (z : ErrSend). z.error) (sym goes) ∙ e.3) in
      let out : x.to.names ≡ None = sym says.2 ∙ for_all.0 in
      let listed : x.error.blame.senders ≡ None = everyone_before x.error.blame.style x.error.blame.senders x.to.spoken.resv.part.senders (x.to.spoken.blames ∙ ap as_listed out) in
      (none t.item t.flies).0 (x.error, t.says, sym says.0 ∙ session, (listed, λ wild. for_all.1 (says.1 ∙ wild))))
      (λ (x : IsReply p c r.facts e.0 r.by.input).
      let t = came_item s u r.node r.by.input quiet r.by.came x.at x.dst (Unspelt x.fault) x.came in
      ⊎_elim (λ (z : IsPathReply p x.at x.dst x.fault e.0). not_of_path _ m (sym (ap (λ (v : ErrSend). v.error) z.is) ∙ e.3))
      (λ (z : IsResvReply p x.at x.dst x.fault e.0).
      let same = resv_same _ m (sym (ap (λ (v : ErrSend). v.error) z.is) ∙ e.3) in
      (none t.item t.flies).1 (
        x.fault,
        t.says,
        z.of ∙ ap Some (ap (λ (v : ResvErrMsg). v.session) same ∙ session),
        z.style,
        z.in_style,
        λ wild. for_all.1 (ap (λ (v : ResvErrMsg). v.blame.style) (sym same) ∙ wild),
      ))
      ((faults_by_hint.reply p x.at x.dst x.fault e.0).0 x.is)) k) k)
      (error_source p c r.facts e.0 r.by.input e.1)

  pub no_error_for_all_then : AreBounds q (step q s u) → HasNoErrorForAll (step q s u) which
  no_error_for_all_then bounds y i =
      ⊎_elim (λ (old : In y u.flight). none y old)
      (λ (new : (b : Bool) × In (y, b) (sent q s u)). (
        λ (z : IsErrorForAll which y). not_for_all y new.0 new.1 z.0 (subst IsProperArrival z.1 (bounds.flight y i).proper) z.1 z.2 z.3,
        λ (z : IsBadResv which y).
            let copied = (what_is_sent_is_copied q s u (y, new.0)).0 new.1 in
            let no : Spelt copied.send.message ≡ Unspelt z.0 = sym (ap (λ (v : Item × Bool). v.0.arrival) copied.is) ∙ z.1 in
            cc,
      ))
      (in_flight_after q s u y quiet i)
