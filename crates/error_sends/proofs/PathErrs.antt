-- What a PathErr does, case by case.
use Rattle.std.specs.Prelude.{◌≡◌, ℕ, Bool, true, false, cond, [], ◌∷◌, Option, Some, None, refl}
use Rattle.std.proofs.Common.{sym, ap, ◌∙◌}
use Rattle.std.specs.Option.{option_map}
use Rattle.path_state.specs.Paths.{path_keys}
use Rattle.path_state.specs.declared.fact.PathFact.{PathFact}
use Rattle.rsvp_base.specs.Table.{get, has}
use Rattle.rsvp_base.specs.declared.session.Sender.{Sender}
use Rattle.rsvp_base.proofs.Tables.{get-changed, then_do}
use Rattle.rsvp_messages.specs.declared.message.PathErrMsg.{PathErrMsg}
use Rattle.rsvp_messages.specs.declared.message.Message.TheVariants as message
use Rattle.router_rules.specs.Errors.{ErrorsHeard, path_err, path_err_on}
use Rattle.router_rules.specs.Facts.{PathState}
use Rattle.router_rules.specs.NodeConfig.{goes_out}
use Rattle.router_rules.specs.Sends.{error_sends, once}
use Rattle.router_rules.specs.declared.answers.Heard.TheVariants as heard
use Rattle.router_rules.specs.declared.answers.Why.TheVariants as why
use Rattle.laws_sends.specs.State.{State, facts_of, path_at}
use Rattle.error_sends.specs.PathErrs.{path_err_heard, path_err_sent}

module _ (c : ℕ) (n : State) (e : ℕ) (m : PathErrMsg) where
  abbrev does : ErrorsHeard
  does = path_err n.place e m m.sender (facts_of c n)

  heard_of : (r : ErrorsHeard) → r ≡ does → r.1 ≡ path_err_heard c n e m
  unfolding path_err_heard
  heard_of r is = ap (λ (z : ErrorsHeard). z.1) is

  sent_of : (r : ErrorsHeard) → r ≡ does → error_sends r.0 ≡ path_err_sent c n e m
  unfolding path_err_sent
  sent_of r is = ap (λ (z : ErrorsHeard). error_sends z.0) is

  -- it names nobody
  module _ (none : m.sender ≡ None) where
    nobody : ◌≡◌ {A = ErrorsHeard} ([], heard.Dropped why.NoSender) does
    nobody = sym (ap (λ s. path_err n.place e m s (facts_of c n)) none)

    pub nobody_heard : heard.Dropped why.NoSender ≡ path_err_heard c n e m
    nobody_heard = heard_of ([], heard.Dropped why.NoSender) nobody

    pub nobody_sent : [] ≡ path_err_sent c n e m
    nobody_sent = sent_of ([], heard.Dropped why.NoSender) nobody

  module _ (x : Sender) (some : m.sender ≡ Some x) where
    abbrev by : Bool → Bool → Option PathState → ErrorsHeard
    by out own path = cond out (path_err_on m own path) ([], heard.Dropped why.NotOutward)

    is_by : by (goes_out n.place m.session e x) (has n.senders (m.session, x)) (get (facts_of c n).paths (m.session, x)) ≡ does
    is_by = sym (ap (λ s. path_err n.place e m s (facts_of c n)) some)

    -- it did not come by an interface of the sender's tree
    module _ (off : goes_out n.place m.session e x ≡ false) where
      outside : ◌≡◌ {A = ErrorsHeard} ([], heard.Dropped why.NotOutward) does
      outside = sym (ap (λ b. by b (has n.senders (m.session, x)) (get (facts_of c n).paths (m.session, x))) off) ∙ is_by

      pub outside_heard : heard.Dropped why.NotOutward ≡ path_err_heard c n e m
      outside_heard = heard_of ([], heard.Dropped why.NotOutward) outside

      pub outside_sent : [] ≡ path_err_sent c n e m
      outside_sent = sent_of ([], heard.Dropped why.NotOutward) outside

    module _ (on : goes_out n.place m.session e x ≡ true) where
      -- the sender is a local one
      module _ (own : has n.senders (m.session, x) ≡ true) where
        local : ◌≡◌ {A = ErrorsHeard} ([], heard.Taken) does
        local = sym (λ i. by (on i) (own i) (get (facts_of c n).paths (m.session, x))) ∙ is_by

        pub local_heard : heard.Taken ≡ path_err_heard c n e m
        local_heard = heard_of ([], heard.Taken) local

        pub local_sent : [] ≡ path_err_sent c n e m
        local_sent = sent_of ([], heard.Taken) local

      module _ (other : has n.senders (m.session, x) ≡ false) where
        path_is : (w : Option (PathFact × ℕ)) → get n.paths (m.session, x) ≡ w → by true false (then_do w (path_at c (m.session, x))) ≡ does
        path_is w is = sym (λ i. by (on i) (other i) (told i)) ∙ is_by
          where
            told : get (facts_of c n).paths (m.session, x) ≡ then_do w (path_at c (m.session, x))
            told = get-changed path_keys (path_at c) n.paths (m.session, x) ∙ ap (λ v. then_do v (path_at c (m.session, x))) is

        -- it has no path
        module _ (none : get n.paths (m.session, x) ≡ None) where
          pub unknown_heard : heard.Dropped why.NoState ≡ path_err_heard c n e m
          unknown_heard = heard_of ([], heard.Dropped why.NoState) (path_is None none)

          pub unknown_sent : [] ≡ path_err_sent c n e m
          unknown_sent = sent_of ([], heard.Dropped why.NoState) (path_is None none)

        -- it goes on to the hop that the path came from
        module _ (path : PathFact × ℕ) (there : get n.paths (m.session, x) ≡ Some path) where
          pub on_heard : heard.Taken ≡ path_err_heard c n e m
          on_heard = heard_of (by true false (then_do (Some path) (path_at c (m.session, x)))) (path_is (Some path) there)

          pub on_sent : once path.0.iface path.0.hop.addr (message.PathErr m) ∷ [] ≡ path_err_sent c n e m
          on_sent = sent_of (by true false (then_do (Some path) (path_at c (m.session, x)))) (path_is (Some path) there)

-- ---- what a table answers
pub found_path : {A : Type 0} (w : Option (PathFact × A)) (path : PathFact) → Some path ≡ option_map (λ e. e.0) w → (e : PathFact × A) × (w ≡ Some e) × (e.0 ≡ path)
found_path None path is = absurd (cc)
found_path (Some e) path is = let same : e.0 ≡ path = cc in (e, refl, same)

pub no_path : {A : Type 0} (w : Option (PathFact × A)) → None ≡ option_map (λ e. e.0) w → w ≡ None
no_path None is = refl
no_path (Some e) is = absurd (cc)
