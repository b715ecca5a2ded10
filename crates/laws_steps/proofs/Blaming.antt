-- Where an error with a flow comes from.
use Rattle.std.specs.Prelude.{◌≡◌, ◌⊎◌, ℕ, Bool, true, false, cond, is_some, List, [], ◌∷◌, Option, Some, None, refl}
use Rattle.std.proofs.Common.{sym, ap, subst, ◌∙◌, inl, inr, ⊎_elim}
use Rattle.rsvp_base.specs.declared.addr.Addr.{Addr}
use Rattle.rsvp_base.specs.declared.session.Sender.{Sender}
use Rattle.rsvp_base.specs.declared.style.StyleKind.{StyleKind}
use Rattle.rsvp_base.specs.declared.style.StyleKind.TheVariants.{Wild, Fixed, Shared}
use Rattle.rsvp_base.specs.Members.{In}
use Rattle.rsvp_base.specs.Orders.{Names, senders}
use Rattle.rsvp_base.specs.Sets.{cut, is_none}
use Rattle.rsvp_base.specs.Table.{get, has}
use Rattle.rsvp_base.specs.TokenBucket.{TokenBucket}
use Rattle.rsvp_base.proofs.Members.{in_each}
use Rattle.rsvp_base.proofs.SetLaws.{and_both, has-cut}
use Rattle.rsvp_messages.specs.declared.fault.MsgErr.{MsgErr}
use Rattle.rsvp_messages.specs.declared.message.Message.{Message}
use Rattle.rsvp_messages.specs.declared.message.Message.TheVariants as message
use Rattle.rsvp_messages.specs.declared.message.PathErrMsg.{PathErrMsg}
use Rattle.rsvp_messages.specs.declared.message.ResvErrMsg.{ResvErrMsg}
use Rattle.rsvp_messages.specs.declared.message.ResvMsg.{ResvMsg}
use Rattle.rsvp_messages.specs.Units.{AskedUnit, ask_style, asked_units}
use Rattle.style_rules.specs.Lines.{NextHop}
use Rattle.style_rules.specs.Parts.{has_name}
use Rattle.laws_bounds.specs.RouterRules.declared.answers.Heard.TheVariants as heard
use Rattle.laws_bounds.specs.RouterRules.declared.answers.Why.TheVariants as why
use Rattle.laws_bounds.specs.RouterRules.Act.{act, act_spelt, is_mine}
use Rattle.laws_bounds.specs.RouterRules.Asking.{Asker, answered, act_resv, asker_of, err_place, err_places, errors_in_order, has_entry, heard_of, matched, nothing_taken, refusal, style_conflict, style_value}
use Rattle.laws_bounds.specs.RouterRules.Asking.{taking, taking_of, value_of, Nobody, These, as_listed}
use Rattle.laws_bounds.specs.RouterRules.Confirming.{ConfsHeard, confs_heard, confs_on, with_confs}
use Rattle.laws_bounds.specs.RouterRules.Errors.{act_resv_err, blamed, lane_of, path_err, path_err_on, replied, reply_to}
use Rattle.laws_bounds.specs.RouterRules.Facts.{Facts, PathState, ResvState, resvs_of}
use Rattle.laws_bounds.specs.RouterRules.Inputs.{Call, Came, Change, Clear, ErrMsg, ErrSend, Input, Moved, OfPath, OfResv, Send, Spelt, Unspelt, Wait, only_heard}
use Rattle.laws_bounds.specs.RouterRules.Known.{known}
use Rattle.laws_bounds.specs.RouterRules.NodeConfig.{NodeConfig, goes_out, is_own, own}
use Rattle.laws_bounds.specs.RouterRules.Rule.{rule, settled}
use Rattle.laws_bounds.specs.RouterRules.Sends.{error_message, error_send}
use Rattle.laws_bounds.specs.FactLaws.{ComesBy}
use Rattle.laws_bounds.specs.SendLaws.{IsConf, IsError, IsPath, IsPathTear, IsResv, IsResvTear, IsSend}
use Rattle.laws_bounds.proofs.Lists.{some_same, to_ordered}
use Rattle.laws_bounds.proofs.Sending.{not_told}
use Rattle.laws_bounds.proofs.Tests.{addr_told}
use Rattle.laws_bounds.specs.ErrorLaws.{IsPathReply, IsResvReply, errors_with, walls_set}
use Rattle.laws_bounds.specs.AskLaws.{IsBookRefusal, IsLoss}
use Rattle.laws_bounds.proofs.Answering.{faults_by_hint}
use Rattle.laws_bounds.proofs.Wholes.{units_in_full}
use Rattle.laws_bounds.proofs.Erring.{errors_once_each, resv_errs_by_tests}
use Rattle.laws_bounds.specs.RouterRules.Steps.{sent_then}
use Rattle.laws_bounds.proofs.Stepping.{send_told}
use Rattle.laws_steps.specs.BlameLaws.{AreBlamed, IsPassedOn, IsRefusal, WhereAnErrorWithAFlowComesFrom}
use Rattle.laws_bounds.proofs.Blame.{never_nobody, sent_listing, these_are}

-- ---- sends that are ResvErrs
no_path_tear : (w : ErrMsg) (m : ResvErrMsg) → error_message w ≡ message.ResvErr m → w ≡ OfResv m
no_path_tear (OfPath x) m e = let z : message.PathErr x ≡ message.ResvErr m = e in absurd (cc)
no_path_tear (OfResv x) m e = let z : message.ResvErr x ≡ message.ResvErr m = e in let same : x ≡ m = cc in ap OfResv same

resv_err_same : (x m : ResvErrMsg) → OfResv x ≡ OfResv m → x ≡ m
resv_err_same x m e = cc

not_of_path : (x : PathErrMsg) (m : ResvErrMsg) → OfPath x ≡ OfResv m → ⊥
not_of_path x m e = cc

module _ (old p : NodeConfig) (c : ℕ) (i : Input) (f : Facts) where
  abbrev after : Facts
  after = settled p c f (act p c i f).facts

  error_only : (s : Send) (m : ResvErrMsg) → s.message ≡ message.ResvErr m → IsSend old p f after (act p c i f) s → IsError old p f after (act p c i f) s
  error_only s m e k =
      ⊎_elim (λ (r : IsPathTear old p f after (act p c i f) s). let no = sym (ap (λ (z : Send). z.message) r.is) ∙ e in absurd (cc))
      (λ k.
      ⊎_elim (λ (r : IsResvTear old p f after (act p c i f) s). let no = sym (ap (λ (z : Send). z.message) r.is) ∙ e in absurd (cc))
      (λ k.
      ⊎_elim (λ (r : IsError old p f after (act p c i f) s). r)
      (λ k.
      ⊎_elim (λ (r : IsConf old p f after (act p c i f) s). let no = sym (ap (λ (z : Send). z.message) r.is) ∙ e in absurd (cc))
      (λ k.
      ⊎_elim (λ (r : IsPath old p f after (act p c i f) s). let no = sym (ap (λ (z : Send). z.message) r.is) ∙ e in absurd (cc))
      (λ (r : IsResv old p f after (act p c i f) s). let no = sym (ap (λ (z : Send). z.message) r.is) ∙ e in absurd (cc)) k) k) k) k) k

  -- the error that was made
  pub error_sent : (s : Send) (m : ResvErrMsg) → In s (sent_then old p c i f) → s.message ≡ message.ResvErr m → (e : ErrSend) × In e (act p c i f).errors × (s ≡ error_send e) × (e.error ≡ OfResv m)
  error_sent s m h e = let r = error_only s m e (send_told old p c i f s h) in (r.error, r.made, r.is, no_path_tear r.error.error m (sym (ap (λ (z : Send). z.message) r.is) ∙ e))

-- ---- a Resv of which something was refused is not heard as taken
answer_not_taken : (m : ErrMsg) → answered m ≡ heard.Taken → ⊥
answer_not_taken (OfPath m) e = let z : heard.Answered m.err.code m.err.value ≡ heard.Taken = e in cc
answer_not_taken (OfResv m) e = let z : heard.Answered m.err.code m.err.value ≡ heard.Taken = e in cc

heard_not_taken : (es : List ErrSend) (e : ErrSend) (out : Bool) → In e es → heard_of (errors_in_order es) out ≡ heard.Taken → ⊥
heard_not_taken es e out i h = by (errors_in_order es) (to_ordered err_places err_place e es i) h
  where
    by : (zs : List ErrSend) → In e zs → heard_of zs out ≡ heard.Taken → ⊥
    by [] j h = j
    by (z ∷ zs) j h = answer_not_taken z.error h

-- ---- each refusal speaks of the session of its Resv
module _ (p : NodeConfig) (c at : ℕ) (m : ResvMsg) (f : Facts) (e : ErrSend) (w : ResvErrMsg) where
  abbrev asks : Asker
  asks = asker_of p c at m

  by_refusal : (in_place : Bool) (code value : ℕ) (names : Option Names) (flow : TokenBucket) → e ≡ refusal p asks in_place code value names flow → e.error ≡ OfResv w → w.session ≡ m.session
  by_refusal in_place code value names flow is of = sym (ap (λ (z : ResvErrMsg). z.session) (resv_err_same _ w (sym (ap (λ (z : ErrSend). z.error) is) ∙ of)))

  by_taking : (b : Bool) (v : Option StyleKind) → In e (taking_of p asks (asked_units m.ask) f b v).errors → e.error ≡ OfResv w → w.session ≡ m.session
  by_taking true v h of =
      let u = in_each (λ (u : AskedUnit). refusal p asks false 3 0 u.names u.flow) e (asked_units m.ask) h in by_refusal false 3 0 u.0.names u.0.flow u.2 of
  by_taking false (Some other) h of =
      let u = in_each (λ (u : AskedUnit). refusal p asks false 5 (style_value other) u.names u.flow) e (asked_units m.ask) h in
      by_refusal false 5 (style_value other) u.0.names u.0.flow u.2 of
  by_taking false None h of =
      ⊎_elim (λ (n : ⊥). absurd n)
      (λ k. ⊎_elim (λ (x : IsLoss p asks f (matched p f asks) (asked_units m.ask) e). by_refusal false 4 0 x.names x.unit.flow x.is of)
      (λ (x : IsBookRefusal p asks f (matched p f asks) (nothing_taken (resvs_of asks.style f) []) (asked_units m.ask) e).
      by_refusal (has_entry asks f x.unit.unit x.before.table) 1 (value_of x.why) (Some x.part.senders) x.part.flow x.is of) k)
      ((units_in_full.errors p asks f (matched p f asks) (nothing_taken (resvs_of asks.style f) []) (asked_units m.ask) e).0 h)

  pub refused_session : In e (taking p c at m f).errors → e.error ≡ OfResv w → w.session ≡ m.session
  refused_session h of = by_taking (is_none (known f m.session)) (style_conflict f m.session (ask_style m.ask)) h of

-- ---- which errors an input makes
module _ (old p : NodeConfig) (c : ℕ) (f : Facts) (w : ResvErrMsg) (flow : TokenBucket) (said : w.blame.flow ≡ Some flow) (s : Send) (e : ErrSend) (is : s ≡ error_send e)
    (of_resv : e.error ≡ OfResv w) where
  abbrev Source : Input → Type 0
  Source i = IsRefusal old p c i f s ⊎ IsPassedOn p i f s w

  -- a reply to what is not spelt has no flow
  no_reply : (i : Input) (at : ℕ) (dst : Addr) (m : MsgErr) (v : Option ErrSend) → reply_to p at dst m ≡ v → In e (replied v).0 → Source i
  no_reply i at dst m None g h = absurd h
  no_reply i at dst m (Some x) g h =
      let same : e ≡ x = ⊎_elim (λ (z : e ≡ x). z) (λ (n : ⊥). absurd n) h in
      ⊎_elim (λ (q : IsPathReply p at dst m x). absurd (not_of_path _ w (sym (ap (λ (z : ErrSend). z.error) (same ∙ q.is)) ∙ of_resv)))
      (λ (q : IsResvReply p at dst m x).
      let err = resv_err_same _ w (sym (ap (λ (z : ErrSend). z.error) (same ∙ q.is)) ∙ of_resv) in
      let z : ◌≡◌ {A = Option TokenBucket} None (Some flow) = ap (λ (z : ResvErrMsg). z.blame.flow) err ∙ said in
      absurd (cc))
      ((faults_by_hint.reply p at dst m x).0 g)

  -- a PathErr goes on as one
  no_path_err : (i : Input) (at : ℕ) (m : PathErrMsg) → In e (act_spelt p c at (message.PathErr m) true f).errors → Source i
  no_path_err i at m h = by_sender m.sender h
    where
      by_path : (b : Bool) (v : Option PathState) → In e (path_err_on m b v).0 → Source i
      by_path true v h = absurd h
      by_path false None h = absurd h
      by_path false (Some x) h =
          ⊎_elim (λ (z : e ≡ record { iface = x.iface; dst = x.hop.addr; error = OfPath m }). absurd (not_of_path m w (sym (ap (λ (z : ErrSend). z.error) z) ∙ of_resv))) (λ (n : ⊥). absurd n) h

      by_out : (x : Sender) (b : Bool) → In e (cond b (path_err_on m (has f.senders (m.session, x)) (get f.paths (m.session, x))) ([], heard.Dropped why.NotOutward)).0 → Source i
      by_out x true h = by_path (has f.senders (m.session, x)) (get f.paths (m.session, x)) h
      by_out x false h = absurd h

      by_sender : (x : Option Sender) → In e (path_err p at m x f).0 → Source i
      by_sender None h = absurd h
      by_sender (Some x) h = by_out x (goes_out p m.session at x) h

  -- a refusal of a unit
  says_it : (m : ResvErrMsg) → s.message ≡ message.ResvErr m → m ≡ w
  says_it m k = resv_err_same m w (sym (no_path_tear e.error m (sym (ap (λ (z : Send). z.message) is) ∙ k)) ∙ of_resv)

  refused : (i : Input) (at : ℕ) (m : ResvMsg) → i ≡ Came at (own p at) (Spelt (message.Resv m)) → (rule old p c i f).heard ≡ (act_resv p c at m f).heard → In e (act_resv p c at m f).errors → Source i
  refused i at m came same h =
      inl (record {
        at = at;
        resv = m;
        came = came;
        error = e;
        made = h;
        is = is;
        not_taken = λ t. heard_not_taken (taking p c at m f).errors e (taking p c at m f).left_out h (sym same ∙ t);
        session = λ x k. ap (λ (z : ResvErrMsg). z.session) (says_it x k) ∙ refused_session p c at m f e w h of_resv;
      })

  -- an error that goes on
  passed_on : (i : Input) (at : ℕ) (m : ResvErrMsg) → i ≡ Came at (own p at) (Spelt (message.ResvErr m)) → (x : Sender) × ComesBy f m.session (at, m.hop.addr) x → In e (errors_with p c at m f).errors
      → Source i
  passed_on i at m came from h =
      let q = (errors_once_each.exactly p (record f { walls = walls_set p c at m f }) (lane_of at m) m e).0 h in
      let sent = some_same _ _ (sym (sent_listing p m q.hop q.names) ∙ q.is) in
      let err = resv_err_same _ w (ap (λ (z : NextHop × ErrSend). z.1.error) sent ∙ of_resv) in
      inr (record {
        at = at;
        error = m;
        came = came;
        session = ap (λ (z : ResvErrMsg). z.session) (sym err);
        style = ap (λ (z : ResvErrMsg). z.blame.style) (sym err);
        flow = ap (λ (z : ResvErrMsg). z.blame.flow) (sym err);
        fault = ap (λ (z : ResvErrMsg). z.err) (sym err);
        from = from;
        hop = q.hop;
        unit = q.unit;
        resv = q.spoken.resv;
        there = q.spoken.there;
        blames = q.spoken.blames ∙ ap (λ (z : ResvErrMsg). as_listed z.blame.senders) err;
        iface = ap (λ (z : Send). z.iface) is ∙ ap (λ (z : NextHop × ErrSend). z.1.iface) (sym sent);
        dst = ap (λ (z : Send). z.dst) is ∙ ap (λ (z : NextHop × ErrSend). z.1.dst) (sym sent);
        here = ap (λ (z : ResvErrMsg). z.hop) (sym err);
      })

  by_resv_err : (i : Input) (at : ℕ) (m : ResvErrMsg) → i ≡ Came at (own p at) (Spelt (message.ResvErr m)) → In e (act_resv_err p c at m f).errors → Source i
  by_resv_err i at m came h =
      ⊎_elim (λ (q : act_resv_err p c at m f ≡ only_heard (heard.Dropped why.NoState) f). absurd (subst (λ (z : Change). In e z.errors) q h))
      (λ (q : ((x : Sender) × ComesBy f m.session (at, m.hop.addr) x) × ((act_resv_err p c at m f ≡ only_heard (heard.Dropped why.Full) f) ⊎ (act_resv_err p c at m f ≡ errors_with p c at m f))).
      ⊎_elim (λ (t : act_resv_err p c at m f ≡ only_heard (heard.Dropped why.Full) f). absurd (subst (λ (z : Change). In e z.errors) t h))
      (λ (t : act_resv_err p c at m f ≡ errors_with p c at m f). passed_on i at m came q.0 (subst (λ (z : Change). In e z.errors) t h)) q.1)
      (resv_errs_by_tests.one p c at m f)

  by_message : (at : ℕ) (dst : Addr) (m : Message) (mine : Bool) → is_mine p at dst m ≡ mine → (rule old p c (Came at dst (Spelt m)) f).heard ≡ (act_spelt p c at m mine f).heard
      → In e (act_spelt p c at m mine f).errors → Source (Came at dst (Spelt m))
  by_message at dst m false t g h = absurd h
  by_message at dst (message.Path m) true t g h = absurd h
  by_message at dst (message.PathTear m) true t g h = absurd h
  by_message at dst (message.ResvTear m) true t g h = absurd h
  by_message at dst (message.ResvConf m) true t g h = by (confs_heard (is_own p m.confirm) (confs_on m f)) h
    where
      by : (r : ConfsHeard) → In e (with_confs f r).errors → Source (Came at dst (Spelt (message.ResvConf m)))
      by r h = absurd h
  by_message at dst (message.PathErr m) true t g h = no_path_err (Came at dst (Spelt (message.PathErr m))) at m h
  by_message at dst (message.Resv m) true t g h = refused (Came at dst (Spelt (message.Resv m))) at m (ap (λ a. Came at a (Spelt (message.Resv m))) (addr_told dst (own p at) t)) g h
  by_message at dst (message.ResvErr m) true t g h = by_resv_err (Came at dst (Spelt (message.ResvErr m))) at m (ap (λ a. Came at a (Spelt (message.ResvErr m))) (addr_told dst (own p at) t)) h

  pub error_source : (i : Input) → In e (act p c i f).errors → Source i
  error_source (Call l) h = absurd h
  error_source (Wait ms word) h = absurd h
  error_source Clear h = absurd h
  error_source Moved h = absurd h
  error_source (Came at dst (Unspelt m)) h = no_reply (Came at dst (Unspelt m)) at dst m (reply_to p at dst m) refl h
  error_source (Came at dst (Spelt m)) h = by_message at dst m (is_mine p at dst m) refl refl h

-- names that an error and a reservation have
blamed_names : (st : StyleKind) (listed out : Option Names) (r : ResvState) → has_name r.part ≡ true → blamed st listed r.part.senders ≡ as_listed out → (is_some listed ≡ true) ⊎ (st ≡ Wild)
    → (names : Names) × (out ≡ Some names) × AreBlamed listed r names
blamed_names st (Some ns) out r named e which = by (is_none (cut r.part.senders ns)) refl e
  where
    by : (b : Bool) → is_none (cut r.part.senders ns) ≡ b → cond b Nobody (These (cut r.part.senders ns)) ≡ as_listed out → (names : Names) × (out ≡ Some names) × AreBlamed (Some ns) r names
    by true t e = never_nobody out e
    by false t e = (
      cut r.part.senders ns,
      these_are out (cut r.part.senders ns) e,
      record {
        some = t;
        in_error = λ x h. (and_both _ _ (sym (has-cut senders r.part.senders ns x) ∙ h)).1;
        in_resv = λ x h. (and_both _ _ (sym (has-cut senders r.part.senders ns x) ∙ h)).0;
      },
    )
blamed_names Wild None out r named e which = (r.part.senders, these_are out r.part.senders e, record { some = not_told _ named; in_error = λ x h. tt; in_resv = λ x h. h })
blamed_names Fixed None out r named e which = ⊎_elim (λ (h : is_some {T = Names} None ≡ true). absurd (cc)) (λ (h : Fixed ≡ Wild). absurd (cc)) which
blamed_names Shared None out r named e which = ⊎_elim (λ (h : is_some {T = Names} None ≡ true). absurd (cc)) (λ (h : Shared ≡ Wild). absurd (cc)) which

pub where_an_error_with_a_flow_comes_from : WhereAnErrorWithAFlowComesFrom
where_an_error_with_a_flow_comes_from =
    record {
      source = λ step within s w flow h e said. let r = error_sent step.old step.now step.after step.input step.facts s w h e in
          error_source step.old step.now step.after step.facts w flow said s r.0 r.2 r.3 step.input r.1;
      names = λ old b f within st k r listed out there e which. blamed_names st listed out r (within.shapes.resvs st k r there).style.named e which;
    }
