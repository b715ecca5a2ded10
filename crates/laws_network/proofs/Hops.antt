-- The hop of what is sent is the end by which it leaves.
use Rattle.std.specs.Prelude.{◌≡◌, ◌⊎◌, ℕ, ◌+◌, Bool, true, false, cond, List, [], Option, Some, None, refl, slice_get}
use Rattle.std.proofs.Common.{sym, ap, subst, ◌∙◌, inl, inr, ⊎_elim}
use Rattle.rsvp_base.specs.declared.addr.Addr.{Addr}
use Rattle.rsvp_base.specs.declared.session.Sender.{Sender}
use Rattle.rsvp_base.specs.declared.style.StyleKind.{StyleKind}
use Rattle.rsvp_base.specs.Members.{In}
use Rattle.rsvp_base.specs.Sets.{is_none}
use Rattle.rsvp_base.specs.Table.{get, has}
use Rattle.rsvp_base.proofs.Members.{in_each}
use Rattle.rsvp_messages.specs.declared.fault.MsgErr.{MsgErr}
use Rattle.rsvp_messages.specs.declared.message.Message.{Message}
use Rattle.rsvp_messages.specs.declared.message.Message.TheVariants as message
use Rattle.rsvp_messages.specs.declared.message.PathErrMsg.{PathErrMsg}
use Rattle.rsvp_messages.specs.declared.message.ResvErrMsg.{ResvErrMsg}
use Rattle.rsvp_messages.specs.declared.message.ResvMsg.{ResvMsg}
use Rattle.rsvp_messages.specs.Units.{AskedUnit, ask_style, asked_units}
use Rattle.tree_model.specs.Lines.{NextHop}
use Rattle.network_model.specs.RouterRules.declared.answers.Heard.TheVariants as heard
use Rattle.network_model.specs.RouterRules.declared.answers.Why.TheVariants as why
use Rattle.network_model.specs.RouterRules.Act.{act, act_spelt, is_mine}
use Rattle.network_model.specs.RouterRules.Asking.{act_resv, asker_of, matched, nothing_taken, refusal, style_conflict, taking_of}
use Rattle.network_model.specs.RouterRules.Confirming.{ConfsHeard, confs_heard, confs_on, with_confs}
use Rattle.network_model.specs.RouterRules.Errors.{act_resv_err, lane_of, path_err, path_err_on, replied, reply_to}
use Rattle.network_model.specs.RouterRules.Facts.{Facts, PathState, resvs_of}
use Rattle.network_model.specs.RouterRules.Inputs.{Call, Came, Change, Clear, ErrMsg, ErrSend, Input, Moved, OfPath, OfResv, Send, Spelt, Unspelt, Wait, only_heard}
use Rattle.network_model.specs.RouterRules.Known.{known}
use Rattle.network_model.specs.RouterRules.NodeConfig.{NodeConfig, addr_of as own_of, goes_out, is_own, own}
use Rattle.network_model.specs.RouterRules.Rule.{settled}
use Rattle.network_model.specs.RouterRules.Sends.{error_message, error_send}
use Rattle.laws_steps.proofs.LawsBounds.Blame.{sent_listing}
use Rattle.laws_steps.specs.LawsBounds.FactLaws.{ComesBy}
use Rattle.laws_steps.specs.LawsBounds.SendLaws.{IsSend}
use Rattle.laws_steps.proofs.LawsBounds.Lists.{some_same}
use Rattle.laws_steps.specs.LawsBounds.AskLaws.{IsLoss, IsBookRefusal}
use Rattle.laws_steps.specs.LawsBounds.ErrorLaws.{IsPathReply, IsResvReply, errors_with, walls_set}
use Rattle.laws_steps.proofs.LawsBounds.Answering.{faults_by_hint}
use Rattle.laws_steps.proofs.LawsBounds.Erring.{errors_once_each, resv_errs_by_tests}
use Rattle.laws_steps.proofs.LawsBounds.Wholes.{units_in_full}
use Rattle.network_model.specs.RouterRules.Steps.{sent_then}
use Rattle.laws_steps.proofs.LawsBounds.Stepping.{send_told}
use Rattle.tree_model.specs.Goals.{addr_of}
use Rattle.tree_model.specs.declared.hops.End.{End}
use Rattle.tree_model.specs.Networks.{end_at, ends_of}
use Rattle.network_model.specs.Links.{goes_to}
use Rattle.network_model.specs.Steps.{Step, input_at, ms_of, net_after, outcome_of, sent}
use Rattle.network_model.specs.Worlds.{Item, World, ifaces_at, config_of}
use Rattle.network_model.proofs.Changing.{what_is_sent_is_copied}
use Rattle.laws_network.proofs.Keeping.{ends_same}
use Rattle.laws_network.proofs.Sends.{goes_to_end, goes_to_peers}
use Rattle.laws_network.proofs.Standing.{own_end}
use Rattle.laws_network.specs.Hops.{hop_of, LeavesBy}

-- ---- of errors: a ResvErr has the node's own address of the interface by which it goes
abbrev HasOwnHop : NodeConfig → ℕ → ErrMsg → Type 0
HasOwnHop p i (OfPath m) = Unit {0}
HasOwnHop p i (OfResv m) = m.hop.addr ≡ own p i

module _ (p : NodeConfig) (c : ℕ) (f : Facts) (e : ErrSend) where
  abbrev IsOwn : Type 0
  IsOwn = HasOwnHop p e.iface e.error

  own_as : (x : ErrSend) → e ≡ x → HasOwnHop p x.iface x.error → IsOwn
  own_as x is h = subst (λ (z : ErrSend). HasOwnHop p z.iface z.error) (sym is) h

  of_reply : (at : ℕ) (dst : Addr) (m : MsgErr) (v : Option ErrSend) → reply_to p at dst m ≡ v → In e (replied v).0 → IsOwn
  of_reply at dst m None g h = absurd h
  of_reply at dst m (Some x) g h =
      let same : e ≡ x = ⊎_elim (λ (z : e ≡ x). z) (λ (n : ⊥). absurd n) h in
      ⊎_elim (λ (q : IsPathReply p at dst m x). own_as _ (same ∙ q.is) tt) (λ (q : IsResvReply p at dst m x). own_as _ (same ∙ q.is) refl) ((faults_by_hint.reply p at dst m x).0 g)

  of_path_err : (at : ℕ) (m : PathErrMsg) → In e (act_spelt p c at (message.PathErr m) true f).errors → IsOwn
  of_path_err at m h = by_sender m.sender h
    where
      by_path : (b : Bool) (v : Option PathState) → In e (path_err_on m b v).0 → IsOwn
      by_path true v h = absurd h
      by_path false None h = absurd h
      by_path false (Some x) h = ⊎_elim (λ (z : e ≡ record { iface = x.iface; dst = x.hop.addr; error = OfPath m }). own_as _ z tt) (λ (n : ⊥). absurd n) h

      by_out : (x : Sender) (b : Bool) → In e (cond b (path_err_on m (has f.senders (m.session, x)) (get f.paths (m.session, x))) ([], heard.Dropped why.NotOutward)).0 → IsOwn
      by_out x true h = by_path (has f.senders (m.session, x)) (get f.paths (m.session, x)) h
      by_out x false h = absurd h

      by_sender : (x : Option Sender) → In e (path_err p at m x f).0 → IsOwn
      by_sender None h = absurd h
      by_sender (Some x) h = by_out x (goes_out p m.session at x) h

  -- a refusal of a unit
  of_resv : (at : ℕ) (m : ResvMsg) → In e (act_resv p c at m f).errors → IsOwn
  of_resv at m h = by (is_none (known f m.session)) (style_conflict f m.session (ask_style m.ask)) h
    where
      all : (code value : ℕ) → (u : AskedUnit) × In u (asked_units m.ask) × (e ≡ refusal p (asker_of p c at m) false code value u.names u.flow) → IsOwn
      all code value r = own_as _ r.2 refl

      by : (none : Bool) (other : Option StyleKind) → In e (taking_of p (asker_of p c at m) (asked_units m.ask) f none other).errors → IsOwn
      by true other h = all 3 0 (in_each (λ (u : AskedUnit). refusal p (asker_of p c at m) false 3 0 u.names u.flow) e (asked_units m.ask) h)
      by false (Some other) h = let r = in_each _ e (asked_units m.ask) h in own_as _ r.2 refl
      by false None h =
          ⊎_elim (λ (n : ⊥). absurd n)
          (λ t.
          ⊎_elim
          (λ (l : IsLoss p (asker_of p c at m) f (matched p f (asker_of p c at m)) (asked_units m.ask) e). own_as _ l.is refl)
          (λ (l : IsBookRefusal p (asker_of p c at m) f (matched p f (asker_of p c at m)) (nothing_taken (resvs_of (ask_style m.ask) f) []) (asked_units m.ask) e). own_as _ l.is refl) t)
          ((units_in_full.errors p (asker_of p c at m) f (matched p f (asker_of p c at m)) (nothing_taken (resvs_of (ask_style m.ask) f) []) (asked_units m.ask) e).0 h)

  -- an error that goes on
  of_resv_err : (at : ℕ) (m : ResvErrMsg) → In e (act_resv_err p c at m f).errors → IsOwn
  of_resv_err at m h =
      ⊎_elim (λ (q : act_resv_err p c at m f ≡ only_heard (heard.Dropped why.NoState) f). absurd (subst (λ (z : Change). In e z.errors) q h))
      (λ (q : ((x : Sender) × ComesBy f m.session (at, m.hop.addr) x) × ((act_resv_err p c at m f ≡ only_heard (heard.Dropped why.Full) f) ⊎ (act_resv_err p c at m f ≡ errors_with p c at m f))).
      ⊎_elim (λ (t : act_resv_err p c at m f ≡ only_heard (heard.Dropped why.Full) f). absurd (subst (λ (z : Change). In e z.errors) t h))
      (λ (t : act_resv_err p c at m f ≡ errors_with p c at m f).
      let r = (errors_once_each.exactly p (record f { walls = walls_set p c at m f }) (lane_of at m) m e).0 (subst (λ (z : Change). In e z.errors) t h) in
      own_as _ (sym (ap (λ (z : NextHop × ErrSend). z.1) (some_same _ _ (sym (sent_listing p m r.hop r.names) ∙ r.is)))) refl) q.1)
      (resv_errs_by_tests.one p c at m f)

  of_message : (at : ℕ) (m : Message) (mine : Bool) → In e (act_spelt p c at m mine f).errors → IsOwn
  of_message at m false h = absurd h
  of_message at (message.Path m) true h = absurd h
  of_message at (message.PathTear m) true h = absurd h
  of_message at (message.ResvTear m) true h = absurd h
  of_message at (message.ResvConf m) true h = by (confs_heard (is_own p m.confirm) (confs_on m f)) h
    where
      by : (r : ConfsHeard) → In e (with_confs f r).errors → IsOwn
      by r h = absurd h
  of_message at (message.PathErr m) true h = of_path_err at m h
  of_message at (message.Resv m) true h = of_resv at m h
  of_message at (message.ResvErr m) true h = of_resv_err at m h

  error_is_own : (i : Input) → In e (act p c i f).errors → IsOwn
  error_is_own (Call l) h = absurd h
  error_is_own (Wait ms word) h = absurd h
  error_is_own Clear h = absurd h
  error_is_own Moved h = absurd h
  error_is_own (Came at dst (Unspelt m)) h = of_reply at dst m (reply_to p at dst m) refl h
  error_is_own (Came at dst (Spelt m)) h = of_message at m (is_mine p at dst m) h

-- ---- of all that a node sends
module _ (old p : NodeConfig) (c : ℕ) (i : Input) (f : Facts) (s : Send) (a : Addr) where
  abbrev after : Facts
  after = settled p c f (act p c i f).facts

  as_sent : (t : Send) (b : Addr) → s ≡ t → hop_of s.message ≡ Some a → hop_of t.message ≡ Some b → b ≡ own p t.iface → a ≡ own p s.iface
  as_sent t b is e h own_is = some_same a b (sym e ∙ ap (λ (z : Send). hop_of z.message) is ∙ h) ∙ own_is ∙ ap (λ (z : Send). own p z.iface) (sym is)

  no_hop : (t : Send) → s ≡ t → hop_of s.message ≡ Some a → hop_of t.message ≡ None → ⊥
  no_hop t is e h = let z : None ≡ Some a = sym h ∙ ap (λ (z : Send). hop_of z.message) (sym is) ∙ e in absurd (cc)

  by_error : (x : ErrSend) (m : ErrMsg) → x.error ≡ m → HasOwnHop p x.iface m → s ≡ error_send x → hop_of s.message ≡ Some a → a ≡ own p s.iface
  by_error x (OfPath m) is h t e = absurd (no_hop (error_send x) t e (ap (λ (z : ErrMsg). hop_of (error_message z)) is))
  by_error x (OfResv m) is h t e = as_sent (error_send x) m.hop.addr t e (ap (λ (z : ErrMsg). hop_of (error_message z)) is) h

  pub hop_is_own : In s (sent_then old p c i f) → hop_of s.message ≡ Some a → a ≡ own p s.iface
  hop_is_own there e = by (send_told old p c i f s there)
    where
      by : IsSend old p f after (act p c i f) s → a ≡ own p s.iface
      by (inl r) = as_sent _ _ r.is e refl refl
      by (inr (inl r)) = as_sent _ _ r.is e refl refl
      by (inr (inr (inl r))) = by_error r.error r.error.error refl (error_is_own p c f r.error i r.made) r.is e
      by (inr (inr (inr (inl r)))) = absurd (no_hop _ r.is e refl)
      by (inr (inr (inr (inr (inl r))))) = as_sent _ _ r.is e refl refl
      by (inr (inr (inr (inr (inr r))))) = as_sent _ _ r.is e refl refl

-- ---- in a network
pub the_hop_of_what_is_sent : (q : ℕ) (s : Step) (w : World) (y : Item) (mark : Bool) (m : Message) (a : Addr) → In (y, mark) (sent q s w) → y.arrival ≡ Spelt m → hop_of m ≡ Some a
    → LeavesBy q s w (y, mark) a
the_hop_of_what_is_sent q s w y mark m a i spelt hop =
    let c = (what_is_sent_is_copied q s w (y, mark)).0 i in
    let copied : Spelt c.send.message ≡ Spelt m = sym (ap (λ (z : Item × Bool). z.0.arrival) c.is) ∙ spelt in
    let says : c.send.message ≡ m = cc in
    let to : In y.end (goes_to w.net (end_at w.net.ends c.node c.send.iface) c.send.dst) =
    subst (λ (z : ℕ). In z (goes_to w.net (end_at w.net.ends c.node c.send.iface) c.send.dst)) (sym (ap (λ (z : Item × Bool). z.0.end) c.is)) c.goes in
    let end = goes_to_end w.net (end_at w.net.ends c.node c.send.iface) c.send.dst y.end to in
    record {
      copy = c;
      end = end.0;
      at = end.1;
      addr = by (input_at s w c.node) c.node c.facts c.send end.0 end.1 c.sent (ap hop_of says ∙ hop);
      to = goes_to_peers w.net (end_at w.net.ends c.node c.send.iface) end.0 c.send.dst y.end end.1 to;
    }
  where
    by : (o : Option Input) (n : ℕ) (f : Facts) (x : Send) (e : ℕ) → end_at w.net.ends n x.iface ≡ Some e → In x (outcome_of q o s w n f).sent → hop_of x.message ≡ Some a → a ≡ addr_of w.net e
    by None n f x e at there h = absurd there
    by (Some i) n f x e at there h =
        hop_is_own (config_of q w.net w.trees n) (config_of q (net_after s w) w.trees n) (w.clock + ms_of s) i f x a there h
        ∙ ap (λ (es : List End). own_of (slice_get (ifaces_at es (ends_of es n)) x.iface)) (ends_same s w) ∙ own_end q w.net w.trees n x.iface e at
