-- An input of which errors and confirmations are told, and that changes no fact.
use Rattle.std.specs.Prelude.{◌≡◌, ℕ, false, List, [], ◌∷◌, ◌++◌, refl}
use Rattle.std.proofs.Common.{sym, ap, ◌∙◌}
use Rattle.rsvp_base.specs.declared.addr.Addr.{Addr}
use Rattle.rsvp_messages.specs.declared.fault.MsgErr.{MsgErr}
use Rattle.rsvp_messages.specs.declared.message.Message.TheVariants as message
use Rattle.rsvp_messages.specs.declared.message.PathErrMsg.{PathErrMsg}
use Rattle.rsvp_messages.specs.declared.message.ResvConfMsg.{ResvConfMsg}
use Rattle.router_rules.specs.Act.{act, act_spelt}
use Rattle.router_rules.specs.Confirming.{act_resv_conf, confs_heard, confs_on}
use Rattle.router_rules.specs.Errors.{act_path_err, act_unspelt, path_err, replied, reply_to}
use Rattle.router_rules.specs.Inputs.{Came, Change, ConfSend, ErrSend, Input, Send, Spelt, Unspelt}
use Rattle.router_rules.specs.NodeConfig.{is_own, own}
use Rattle.router_rules.specs.Rule.{facts_after, heard_after, is_silent, sent_after}
use Rattle.router_rules.specs.Sends.{conf_sends, error_sends}
use Rattle.router_rules.specs.declared.answers.Heard.{Heard}
use Rattle.laws_bounds.proofs.Tests.{addr_tested}
use Rattle.router_state.specs.State.{IsSettled, State, facts_at, facts_of}
use Rattle.error_sends.specs.Alone.{only_told}
use Rattle.error_sends.specs.PathErrs.{path_err_heard, path_err_sent}
use Rattle.error_sends.specs.ResvConfs.{resv_conf_heard, resv_conf_sent}
use Rattle.error_sends.proofs.Alone.{sent_alone}
use Rattle.router_arrivals.specs.Arriving.{to_node}
use Rattle.router_arrivals.proofs.Ruled.{facts_stay, told_alone}

module _ (n : State) (kept : IsSettled n) (c : ℕ) (i : Input) (loud : is_silent i ≡ false) (es : List ErrSend) (cs : List ConfSend) (h : Heard)
    (does : act n.place c i (facts_of c n) ≡ only_told es cs h (facts_of c n)) where
  alone_facts : facts_at c n ≡ facts_after n.place n.place c i (facts_at c n)
  alone_facts = facts_stay n kept c i loud (only_told es cs h (facts_of c n)) does refl refl

  alone_sent : error_sends es ++ conf_sends (cs ++ []) ≡ sent_after n.place n.place c i (facts_at c n)
  alone_sent = sym (sent_alone n.place (facts_of c n) es cs h) ∙ told_alone n kept c i loud (only_told es cs h (facts_of c n)) does refl refl

none_behind : (xs : List Send) → xs ≡ xs ++ []
none_behind [] = refl
none_behind (x ∷ xs) = ap (λ zs. x ∷ zs) (none_behind xs)

module _ (n : State) (kept : IsSettled n) (c e : ℕ) where
  -- ---- a PathErr
  module _ (m : PathErrMsg) where
    path_err_act : act n.place c (to_node n.place e (message.PathErr m)) (facts_of c n) ≡ act_path_err n.place e m (facts_of c n)
    path_err_act = ap (λ b. act_spelt n.place c e (message.PathErr m) b (facts_of c n)) (addr_tested (own n.place e) (own n.place e) refl)

    pub path_err_facts : facts_at c n ≡ facts_after n.place n.place c (to_node n.place e (message.PathErr m)) (facts_at c n)
    path_err_facts = let r = path_err n.place e m m.sender (facts_of c n) in alone_facts n kept c (to_node n.place e (message.PathErr m)) refl r.0 [] r.1 path_err_act

    pub path_err_is_heard : path_err_heard c n e m ≡ heard_after n.place c e (own n.place e) (Spelt (message.PathErr m)) (facts_at c n)
    unfolding path_err_heard heard_after facts_at
    path_err_is_heard = sym (ap (λ (k : Change). k.heard) path_err_act)

    pub path_err_is_sent : path_err_sent c n e m ≡ sent_after n.place n.place c (to_node n.place e (message.PathErr m)) (facts_at c n)
    unfolding path_err_sent
    path_err_is_sent =
        let r = path_err n.place e m m.sender (facts_of c n) in
        none_behind (error_sends r.0) ∙ alone_sent n kept c (to_node n.place e (message.PathErr m)) refl r.0 [] r.1 path_err_act

  -- ---- a ResvConf
  module _ (m : ResvConfMsg) where
    resv_conf_act : act n.place c (to_node n.place e (message.ResvConf m)) (facts_of c n) ≡ act_resv_conf n.place m (facts_of c n)
    resv_conf_act = ap (λ b. act_spelt n.place c e (message.ResvConf m) b (facts_of c n)) (addr_tested (own n.place e) (own n.place e) refl)

    pub resv_conf_facts : facts_at c n ≡ facts_after n.place n.place c (to_node n.place e (message.ResvConf m)) (facts_at c n)
    resv_conf_facts =
        let r = confs_heard (is_own n.place m.confirm) (confs_on m (facts_of c n)) in
        alone_facts n kept c (to_node n.place e (message.ResvConf m)) refl [] r.0 r.1 resv_conf_act

    pub resv_conf_is_heard : resv_conf_heard c n m ≡ heard_after n.place c e (own n.place e) (Spelt (message.ResvConf m)) (facts_at c n)
    unfolding resv_conf_heard heard_after facts_at
    resv_conf_is_heard = sym (ap (λ (k : Change). k.heard) resv_conf_act)

    pub resv_conf_is_sent : resv_conf_sent c n m ≡ sent_after n.place n.place c (to_node n.place e (message.ResvConf m)) (facts_at c n)
    unfolding resv_conf_sent
    resv_conf_is_sent =
        let r = confs_heard (is_own n.place m.confirm) (confs_on m (facts_of c n)) in
        alone_sent n kept c (to_node n.place e (message.ResvConf m)) refl [] r.0 r.1 resv_conf_act

  -- ---- what is not spelt
  module _ (dst : Addr) (m : MsgErr) where
    pub unspelt_facts : facts_at c n ≡ facts_after n.place n.place c (Came e dst (Unspelt m)) (facts_at c n)
    unspelt_facts = let r = replied (reply_to n.place e dst m) in alone_facts n kept c (Came e dst (Unspelt m)) refl r.0 [] r.1 refl

    pub unspelt_is_heard : (act_unspelt n.place e dst m (facts_of c n)).heard ≡ heard_after n.place c e dst (Unspelt m) (facts_at c n)
    unfolding heard_after facts_at
    unspelt_is_heard = refl

    pub unspelt_is_sent : error_sends (act_unspelt n.place e dst m (facts_of c n)).errors ≡ sent_after n.place n.place c (Came e dst (Unspelt m)) (facts_at c n)
    unspelt_is_sent =
        let r = replied (reply_to n.place e dst m) in
        none_behind (error_sends r.0) ∙ alone_sent n kept c (Came e dst (Unspelt m)) refl r.0 [] r.1 refl
