-- What a ResvConf does, case by case.
use Rattle.std.specs.Prelude.{◌≡◌, ℕ, true, false, List, [], ◌∷◌, ◌++◌, refl}
use Rattle.std.proofs.Common.{sym, ap, ◌∙◌}
use Rattle.resv_state.specs.Resvs.{ResvFacts}
use Rattle.resv_state.specs.Walks.{rests}
use Rattle.rsvp_base.specs.Orders.{sessions}
use Rattle.rsvp_base.specs.Table.{changed}
use Rattle.rsvp_base.specs.Under.{under}
use Rattle.rsvp_base.specs.declared.style.StyleKind.{StyleKind}
use Rattle.rsvp_base.specs.declared.style.StyleKind.TheVariants.{Wild, Fixed, Shared}
use Rattle.rsvp_messages.specs.Units.{ask_style}
use Rattle.rsvp_messages.specs.declared.message.ResvConfMsg.{ResvConfMsg}
use Rattle.router_rules.specs.declared.answers.Heard.TheVariants as heard
use Rattle.router_rules.specs.declared.answers.Why.TheVariants as why
use Rattle.router_rules.specs.Confirming.{confs_heard, confs_on}
use Rattle.router_rules.specs.Facts.{resvs_of}
use Rattle.router_rules.specs.Inputs.{ConfSend, Send}
use Rattle.router_rules.specs.NodeConfig.{is_own}
use Rattle.router_rules.specs.Sends.{conf_sends}
use Rattle.laws_sends.specs.State.{State, facts_of, resv_at, table_in}
use Rattle.error_sends.specs.Going.{are_some, confs_told}
use Rattle.error_sends.specs.ResvConfs.{resv_conf_heard, resv_conf_sent}
use Rattle.error_sends.proofs.Going.{confs_are, some_are}

end : {A : Type 0} (xs : List A) → xs ++ [] ≡ xs
end [] = refl
end (x ∷ xs) = ap (λ ys. x ∷ ys) (end xs)

module _ (c : ℕ) (n : State) (m : ResvConfMsg) where
  abbrev list : List ConfSend
  list = confs_on m (facts_of c n)

  -- it has come to its end
  pub own_heard : is_own n.place m.confirm ≡ true → heard.Taken ≡ resv_conf_heard c n m
  unfolding resv_conf_heard
  own_heard on = sym (ap (λ b. (confs_heard b list).1) on)

  pub own_sent : is_own n.place m.confirm ≡ true → [] ≡ resv_conf_sent c n m
  unfolding resv_conf_sent
  own_sent on = sym (ap (λ b. conf_sends ((confs_heard b list).0 ++ [])) on)

  -- it goes on, or nobody wished it
  module _ (off : is_own n.place m.confirm ≡ false) (t : ResvFacts) (table : resvs_of (ask_style m.ask) (facts_of c n) ≡ changed (resv_at c) t) where
    abbrev pub rows_told : List Send
    rows_told = confs_told m (ask_style m.ask) (under sessions rests t m.session).rows

    as_told : conf_sends list ≡ rows_told
    as_told = confs_are (facts_of c n) m c t table

    some_is : are_some rows_told ≡ are_some list
    some_is = sym (ap are_some as_told) ∙ some_are (facts_of c n) m

    pub passed_sent : rows_told ≡ resv_conf_sent c n m
    unfolding resv_conf_sent
    passed_sent = sym as_told ∙ by list ∙ sym (ap (λ b. conf_sends ((confs_heard b list).0 ++ [])) off)
      where
        by : (ss : List ConfSend) → conf_sends ss ≡ conf_sends ((confs_heard false ss).0 ++ [])
        by [] = refl
        by (s ∷ ss) = ap conf_sends (sym (end (s ∷ ss)))

    pub passed_heard : are_some rows_told ≡ true → heard.Taken ≡ resv_conf_heard c n m
    unfolding resv_conf_heard
    passed_heard on = by list (sym some_is ∙ on) ∙ sym (ap (λ b. (confs_heard b list).1) off)
      where
        by : (ss : List ConfSend) → are_some ss ≡ true → heard.Taken ≡ (confs_heard false ss).1
        by [] h = absurd (cc)
        by (s ∷ ss) h = refl

    pub unwished_heard : are_some rows_told ≡ false → heard.Dropped why.NoState ≡ resv_conf_heard c n m
    unfolding resv_conf_heard
    unwished_heard none = by list (sym some_is ∙ none) ∙ sym (ap (λ b. (confs_heard b list).1) off)
      where
        by : (ss : List ConfSend) → are_some ss ≡ false → heard.Dropped why.NoState ≡ (confs_heard false ss).1
        by [] h = refl
        by (s ∷ ss) h = absurd (cc)

-- the reservations of a style, as its table has them
pub table_seen : (c : ℕ) (n : State) (st : StyleKind) → resvs_of st (facts_of c n) ≡ changed (resv_at c) (table_in st n)
table_seen c n Wild = refl
table_seen c n Fixed = refl
table_seen c n Shared = refl
