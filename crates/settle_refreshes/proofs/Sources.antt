-- Where the errors and the confirmations come from that a node sends: each is an answer, or goes on.
use Rattle.std.proofs.Common.{◌≡◌, ◌⊎◌, ℕ, [], Bool, true, false, cond, Option, None, Some, inl, inr, ⊎_elim, sym, refl, ap, subst, ◌∙◌}
use Rattle.rsvp_base.specs.declared.addr.Addr.{Addr}
use Rattle.rsvp_base.specs.declared.session.Sender.{Sender}
use Rattle.rsvp_base.specs.declared.style.StyleKind.{StyleKind}
use Rattle.rsvp_base.specs.Members.{In}
use Rattle.rsvp_base.specs.Orders.{Names}
use Rattle.rsvp_base.specs.Sets.{is_none}
use Rattle.rsvp_base.specs.Table.{get, has}
use Rattle.rsvp_base.specs.TokenBucket.{TokenBucket}
use Rattle.rsvp_base.proofs.Members.{in_each}
use Rattle.rsvp_messages.specs.declared.fault.MsgErr.{MsgErr}
use Rattle.rsvp_messages.specs.declared.message.Message.{Message}
use Rattle.rsvp_messages.specs.declared.message.Message.TheVariants as message
use Rattle.rsvp_messages.specs.declared.message.PathErrMsg.{PathErrMsg}
use Rattle.rsvp_messages.specs.declared.message.ResvConfMsg.{ResvConfMsg}
use Rattle.rsvp_messages.specs.declared.message.ResvErrMsg.{ResvErrMsg}
use Rattle.rsvp_messages.specs.declared.message.ResvMsg.{ResvMsg}
use Rattle.rsvp_messages.specs.Units.{AskedUnit, ask_style, asked_units}
use Rattle.style_rules.specs.Lines.{NextHop}
use Rattle.router_rules.specs.declared.answers.Heard.TheVariants as heard
use Rattle.router_rules.specs.declared.answers.Why.TheVariants as why
use Rattle.router_rules.specs.Act.{act, act_spelt, is_mine}
use Rattle.router_rules.specs.Asking.{Asker, asker_of, matched, nothing_taken, refusal, style_conflict, style_value, taking, taking_of}
use Rattle.router_rules.specs.Confirming.{ConfsHeard, confs_heard, confs_on, with_confs}
use Rattle.router_rules.specs.Errors.{act_resv_err, error_listing, lane_of, path_err, path_err_on, replied, reply_to}
use Rattle.router_rules.specs.Facts.{Facts, PathState, resvs_of}
use Rattle.router_rules.specs.Inputs.{Call, Came, Change, Clear, ErrMsg, ErrSend, Input, Moved, OfPath, OfResv, Send, Spelt, Unspelt, Wait, only_heard}
use Rattle.router_rules.specs.Known.{known}
use Rattle.router_rules.specs.NodeConfig.{NodeConfig, goes_out, is_own, own}
use Rattle.router_rules.specs.Sends.{error_message, error_send}
use Rattle.laws_bounds.specs.AskLaws.{IsBookRefusal, IsLoss}
use Rattle.laws_bounds.specs.ErrorLaws.{IsErrorTo, errors_with, walls_set}
use Rattle.laws_bounds.specs.FactLaws.{ComesBy}
use Rattle.laws_bounds.specs.SendLaws.{IsConf, IsError, IsPath, IsPathTear, IsResv, IsResvTear, IsSend}
use Rattle.laws_bounds.proofs.Blame.{sent_listing}
use Rattle.laws_bounds.proofs.Erring.{errors_once_each, resv_errs_by_tests}
use Rattle.laws_bounds.proofs.Lists.{some_same}
use Rattle.laws_bounds.proofs.Tests.{addr_told}
use Rattle.laws_bounds.proofs.Wholes.{units_in_full}

-- ---- an error that an input makes
module _ (p : NodeConfig) (c : ℕ) (f : Facts) (e : ErrSend) (i : Input) where
  -- a unit of a Resv that came is refused
  pub record IsRefused : Type 0 where
    pub at : ℕ
    pub resv : ResvMsg
    pub came : i ≡ Came at (own p at) (Spelt (message.Resv resv))
    pub made : In e (taking p c at resv f).errors

  -- a PathErr that came goes on to the previous hop of its sender
  pub record GoesBack : Type 0 where
    pub at : ℕ
    pub dst : Addr
    pub error : PathErrMsg
    pub came : i ≡ Came at dst (Spelt (message.PathErr error))
    pub sender : Sender
    pub names : error.sender ≡ Some sender
    pub path : PathState
    pub there : get f.paths (error.session, sender) ≡ Some path
    pub is : e ≡ record { iface = path.iface; dst = path.hop.addr; error = OfPath error }

  -- a ResvErr that came goes on to a next hop
  pub record GoesAhead : Type 0 where
    pub at : ℕ
    pub error : ResvErrMsg
    pub came : i ≡ Came at (own p at) (Spelt (message.ResvErr error))
    pub from : (x : Sender) × ComesBy f error.session (at, error.hop.addr) x
    pub to : IsErrorTo p (record f { walls = walls_set p c at error f }) (lane_of at error) error e

  -- bytes that spell no message are answered
  pub record IsReply : Type 0 where
    pub at : ℕ
    pub dst : Addr
    pub fault : MsgErr
    pub came : i ≡ Came at dst (Unspelt fault)
    pub is : reply_to p at dst fault ≡ Some e

  abbrev pub HasSource : Type 0
  HasSource = IsRefused ⊎ (GoesBack ⊎ (GoesAhead ⊎ IsReply))

module _ (p : NodeConfig) (c : ℕ) (f : Facts) (e : ErrSend) where
  by_reply : (at : ℕ) (dst : Addr) (m : MsgErr) (v : Option ErrSend) → reply_to p at dst m ≡ v → In e (replied v).0 → HasSource p c f e (Came at dst (Unspelt m))
  by_reply at dst m None g h = absurd h
  by_reply at dst m (Some x) g h =
      let same : x ≡ e = ⊎_elim (λ (z : e ≡ x). sym z) (λ (n : ⊥). absurd n) h in
      inr (inr (inr (record { at = at; dst = dst; fault = m; came = refl; is = g ∙ ap Some same })))

  by_path_err : (at : ℕ) (dst : Addr) (m : PathErrMsg) → In e (act_spelt p c at (message.PathErr m) true f).errors → HasSource p c f e (Came at dst (Spelt (message.PathErr m)))
  by_path_err at dst m h = by_sender m.sender refl h
    where
      by_path : (x : Sender) → m.sender ≡ Some x → (b : Bool) (v : Option PathState) → get f.paths (m.session, x) ≡ v → In e (path_err_on m b v).0
          → HasSource p c f e (Came at dst (Spelt (message.PathErr m)))
      by_path x s true v g h = absurd h
      by_path x s false None g h = absurd h
      by_path x s false (Some path) g h =
          let is = ⊎_elim (λ (z : e ≡ record { iface = path.iface; dst = path.hop.addr; error = OfPath m }). z) (λ (n : ⊥). absurd n) h in
          inr (inl (record { at = at; dst = dst; error = m; came = refl; sender = x; names = s; path = path; there = g; is = is }))

      by_out : (x : Sender) → m.sender ≡ Some x → (b : Bool) → In e (cond b (path_err_on m (has f.senders (m.session, x)) (get f.paths (m.session, x))) ([], heard.Dropped why.NotOutward)).0
          → HasSource p c f e (Came at dst (Spelt (message.PathErr m)))
      by_out x s true h = by_path x s (has f.senders (m.session, x)) (get f.paths (m.session, x)) refl h
      by_out x s false h = absurd h

      by_sender : (x : Option Sender) → m.sender ≡ x → In e (path_err p at m x f).0 → HasSource p c f e (Came at dst (Spelt (message.PathErr m)))
      by_sender None s h = absurd h
      by_sender (Some x) s h = by_out x s (goes_out p m.session at x) h

  by_resv_err : (at : ℕ) (m : ResvErrMsg) → In e (act_resv_err p c at m f).errors → HasSource p c f e (Came at (own p at) (Spelt (message.ResvErr m)))
  by_resv_err at m h =
      ⊎_elim (λ (q : act_resv_err p c at m f ≡ only_heard (heard.Dropped why.NoState) f). absurd (subst (λ (z : Change). In e z.errors) q h))
      (λ (q : ((x : Sender) × ComesBy f m.session (at, m.hop.addr) x) × ((act_resv_err p c at m f ≡ only_heard (heard.Dropped why.Full) f) ⊎ (act_resv_err p c at m f ≡ errors_with p c at m f))).
      ⊎_elim (λ (t : act_resv_err p c at m f ≡ only_heard (heard.Dropped why.Full) f). absurd (subst (λ (z : Change). In e z.errors) t h))
      (λ (t : act_resv_err p c at m f ≡ errors_with p c at m f).
      inr (inr (inl (record {
        at = at;
        error = m;
        came = refl;
        from = q.0;
        to = (errors_once_each.exactly p (record f { walls = walls_set p c at m f }) (lane_of at m) m e).0 (subst (λ (z : Change). In e z.errors) t h);
      })))) q.1)
      (resv_errs_by_tests.one p c at m f)

  by_message : (at : ℕ) (dst : Addr) (m : Message) (mine : Bool) → is_mine p at dst m ≡ mine → In e (act_spelt p c at m mine f).errors → HasSource p c f e (Came at dst (Spelt m))
  by_message at dst m false t h = absurd h
  by_message at dst (message.Path m) true t h = absurd h
  by_message at dst (message.PathTear m) true t h = absurd h
  by_message at dst (message.ResvTear m) true t h = absurd h
  by_message at dst (message.ResvConf m) true t h = by (confs_heard (is_own p m.confirm) (confs_on m f)) h
    where
      by : (r : ConfsHeard) → In e (with_confs f r).errors → HasSource p c f e (Came at dst (Spelt (message.ResvConf m)))
      by r h = absurd h
  by_message at dst (message.PathErr m) true t h = by_path_err at dst m h
  by_message at dst (message.Resv m) true t h = inl (record { at = at; resv = m; came = ap (λ a. Came at a (Spelt (message.Resv m))) (addr_told dst (own p at) t); made = h })
  by_message at dst (message.ResvErr m) true t h =
      subst (λ (a : Addr). HasSource p c f e (Came at a (Spelt (message.ResvErr m)))) (sym (addr_told dst (own p at) t)) (by_resv_err at m h)

  pub error_source : (i : Input) → In e (act p c i f).errors → HasSource p c f e i
  error_source (Call l) h = absurd h
  error_source (Wait ms word) h = absurd h
  error_source Clear h = absurd h
  error_source Moved h = absurd h
  error_source (Came at dst (Unspelt m)) h = by_reply at dst m (reply_to p at dst m) refl h
  error_source (Came at dst (Spelt m)) h = by_message at dst m (is_mine p at dst m) refl h

-- ---- a refusal is a ResvErr with a flow
pub not_of_path : (x : PathErrMsg) (w : ResvErrMsg) → OfPath x ≡ OfResv w → ⊥
not_of_path x w e = cc

pub path_same : (x w : PathErrMsg) → OfPath x ≡ OfPath w → x ≡ w
path_same x w e = cc

pub resv_same : (x w : ResvErrMsg) → OfResv x ≡ OfResv w → x ≡ w
resv_same x w e = cc

module _ (p : NodeConfig) (c at : ℕ) (m : ResvMsg) (f : Facts) (e : ErrSend) where
  abbrev asks : Asker
  asks = asker_of p c at m

  by_taking : (b : Bool) (v : Option StyleKind) → In e (taking_of p asks (asked_units m.ask) f b v).errors
      → (w : ResvErrMsg) × (e.error ≡ OfResv w) × ((flow : TokenBucket) × (w.blame.flow ≡ Some flow))
  by_taking true v h =
      let u = in_each (λ (u : AskedUnit). refusal p asks false 3 0 u.names u.flow) e (asked_units m.ask) h in (_, ap (λ (z : ErrSend). z.error) u.2, (u.0.flow, refl))
  by_taking false (Some other) h =
      let u = in_each (λ (u : AskedUnit). refusal p asks false 5 (style_value other) u.names u.flow) e (asked_units m.ask) h in (_, ap (λ (z : ErrSend). z.error) u.2, (u.0.flow, refl))
  by_taking false None h =
      ⊎_elim (λ (n : ⊥). absurd n)
      (λ k. ⊎_elim (λ (x : IsLoss p asks f (matched p f asks) (asked_units m.ask) e). (_, ap (λ (z : ErrSend). z.error) x.is, (x.unit.flow, refl)))
      (λ (x : IsBookRefusal p asks f (matched p f asks) (nothing_taken (resvs_of asks.style f) []) (asked_units m.ask) e).
      (_, ap (λ (z : ErrSend). z.error) x.is, (x.part.flow, refl))) k)
      ((units_in_full.errors p asks f (matched p f asks) (nothing_taken (resvs_of asks.style f) []) (asked_units m.ask) e).0 h)

  pub refusal_is : In e (taking p c at m f).errors → (w : ResvErrMsg) × (e.error ≡ OfResv w) × ((flow : TokenBucket) × (w.blame.flow ≡ Some flow))
  refusal_is h = by_taking (is_none (known f m.session)) (style_conflict f m.session (ask_style m.ask)) h

-- ---- a ResvErr that goes on
pub ahead_is : (p : NodeConfig) (c : ℕ) (f : Facts) (e : ErrSend) (i : Input) (x : GoesAhead p c f e i) → e ≡ (error_listing p x.error x.to.hop x.to.names).1
ahead_is p c f e i x = ap (λ (z : NextHop × ErrSend). z.1) (sym (some_same _ _ (sym (sent_listing p x.error x.to.hop x.to.names) ∙ x.to.is)))

-- it is of the same session and style, and lists those who are blamed
pub listing_says : (p : NodeConfig) (m : ResvErrMsg) (hop : NextHop) (names : Option Names) (w : ResvErrMsg) → (error_listing p m hop names).1.error ≡ OfResv w
    → (w.session ≡ m.session) × (w.blame.style ≡ m.blame.style) × (w.blame.senders ≡ names)
listing_says p m hop names w e =
    let same = resv_same _ w e in (ap (λ (z : ResvErrMsg). z.session) (sym same), ap (λ (z : ResvErrMsg). z.blame.style) (sym same), ap (λ (z : ResvErrMsg). z.blame.senders) (sym same))

-- ---- which sends are errors and confirmations
pub error_is : (e : ErrSend) → ((m : PathErrMsg) × (e.error ≡ OfPath m)) ⊎ ((m : ResvErrMsg) × (e.error ≡ OfResv m))
error_is e = by e.error refl
  where
    by : (x : ErrMsg) → e.error ≡ x → ((m : PathErrMsg) × (e.error ≡ OfPath m)) ⊎ ((m : ResvErrMsg) × (e.error ≡ OfResv m))
    by (OfPath m) is = inl (m, is)
    by (OfResv m) is = inr (m, is)

of_path_err : (w : ErrMsg) (m : PathErrMsg) → error_message w ≡ message.PathErr m → w ≡ OfPath m
of_path_err (OfPath x) m e = let z : message.PathErr x ≡ message.PathErr m = e in let same : x ≡ m = cc in ap OfPath same
of_path_err (OfResv x) m e = let z : message.ResvErr x ≡ message.PathErr m = e in absurd (cc)

of_resv_err : (w : ErrMsg) (m : ResvErrMsg) → error_message w ≡ message.ResvErr m → w ≡ OfResv m
of_resv_err (OfPath x) m e = let z : message.PathErr x ≡ message.ResvErr m = e in absurd (cc)
of_resv_err (OfResv x) m e = let z : message.ResvErr x ≡ message.ResvErr m = e in let same : x ≡ m = cc in ap OfResv same

not_conf : (w : ErrMsg) (m : ResvConfMsg) → error_message w ≡ message.ResvConf m → ⊥
not_conf (OfPath x) m e = cc
not_conf (OfResv x) m e = cc

not_resv : (w : ErrMsg) (m : ResvMsg) → error_message w ≡ message.Resv m → ⊥
not_resv (OfPath x) m e = cc
not_resv (OfResv x) m e = cc

module _ (old p : NodeConfig) (before after : Facts) (k : Change) (s : Send) where
  is_error : ((m : PathErrMsg) × (s.message ≡ message.PathErr m)) ⊎ ((m : ResvErrMsg) × (s.message ≡ message.ResvErr m)) → IsSend old p before after k s → IsError old p before after k s
  is_error e x =
      ⊎_elim (λ (r : IsPathTear old p before after k s). no (ap (λ (z : Send). z.message) r.is) (λ a b. cc) (λ a b. cc))
      (λ x.
      ⊎_elim (λ (r : IsResvTear old p before after k s). no (ap (λ (z : Send). z.message) r.is) (λ a b. cc) (λ a b. cc))
      (λ x.
      ⊎_elim (λ (r : IsError old p before after k s). r)
      (λ x.
      ⊎_elim (λ (r : IsConf old p before after k s). no (ap (λ (z : Send). z.message) r.is) (λ a b. cc) (λ a b. cc))
      (λ x.
      ⊎_elim (λ (r : IsPath old p before after k s). no (ap (λ (z : Send). z.message) r.is) (λ a b. cc) (λ a b. cc))
      (λ (r : IsResv old p before after k s). no (ap (λ (z : Send). z.message) r.is) (λ a b. cc) (λ a b. cc)) x) x) x) x) x
    where
      no : {m : Message} → s.message ≡ m → ((a : PathErrMsg) → m ≡ message.PathErr a → ⊥) → ((a : ResvErrMsg) → m ≡ message.ResvErr a → ⊥) → IsError old p before after k s
      no is a b =
          absurd (⊎_elim (λ (z : (m : PathErrMsg) × (s.message ≡ message.PathErr m)). a z.0 (sym is ∙ z.1))
          (λ (z : (m : ResvErrMsg) × (s.message ≡ message.ResvErr m)). b z.0 (sym is ∙ z.1)) e)

  pub path_err_made : (m : PathErrMsg) → s.message ≡ message.PathErr m → IsSend old p before after k s → (e : ErrSend) × In e k.errors × (s ≡ error_send e) × (e.error ≡ OfPath m)
  path_err_made m e x = let r = is_error (inl (m, e)) x in (r.error, r.made, r.is, of_path_err r.error.error m (sym (ap (λ (z : Send). z.message) r.is) ∙ e))

  pub resv_err_made : (m : ResvErrMsg) → s.message ≡ message.ResvErr m → IsSend old p before after k s → (e : ErrSend) × In e k.errors × (s ≡ error_send e) × (e.error ≡ OfResv m)
  resv_err_made m e x = let r = is_error (inr (m, e)) x in (r.error, r.made, r.is, of_resv_err r.error.error m (sym (ap (λ (z : Send). z.message) r.is) ∙ e))

  pub resv_made : (m : ResvMsg) → s.message ≡ message.Resv m → IsSend old p before after k s → IsResv old p before after k s
  resv_made m e x =
      ⊎_elim (λ (r : IsPathTear old p before after k s). let no = sym (ap (λ (z : Send). z.message) r.is) ∙ e in absurd (cc))
      (λ x.
      ⊎_elim (λ (r : IsResvTear old p before after k s). let no = sym (ap (λ (z : Send). z.message) r.is) ∙ e in absurd (cc))
      (λ x.
      ⊎_elim (λ (r : IsError old p before after k s). absurd (not_resv r.error.error m (sym (ap (λ (z : Send). z.message) r.is) ∙ e)))
      (λ x.
      ⊎_elim (λ (r : IsConf old p before after k s). let no = sym (ap (λ (z : Send). z.message) r.is) ∙ e in absurd (cc))
      (λ x.
      ⊎_elim (λ (r : IsPath old p before after k s). let no = sym (ap (λ (z : Send). z.message) r.is) ∙ e in absurd (cc))
      (λ (r : IsResv old p before after k s). r) x) x) x) x) x

  pub conf_made : (m : ResvConfMsg) → s.message ≡ message.ResvConf m → IsSend old p before after k s → IsConf old p before after k s
  conf_made m e x =
      ⊎_elim (λ (r : IsPathTear old p before after k s). let no = sym (ap (λ (z : Send). z.message) r.is) ∙ e in absurd (cc))
      (λ x.
      ⊎_elim (λ (r : IsResvTear old p before after k s). let no = sym (ap (λ (z : Send). z.message) r.is) ∙ e in absurd (cc))
      (λ x.
      ⊎_elim (λ (r : IsError old p before after k s). absurd (not_conf r.error.error m (sym (ap (λ (z : Send). z.message) r.is) ∙ e)))
      (λ x.
      ⊎_elim (λ (r : IsConf old p before after k s). r)
      (λ x.
      ⊎_elim (λ (r : IsPath old p before after k s). let no = sym (ap (λ (z : Send). z.message) r.is) ∙ e in absurd (cc))
      (λ (r : IsResv old p before after k s). let no = sym (ap (λ (z : Send). z.message) r.is) ∙ e in absurd (cc)) x) x) x) x) x
