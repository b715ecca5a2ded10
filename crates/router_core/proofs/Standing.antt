-- What is sent of the confirmation of a Resv.
use Rattle.std.specs.Prelude.{◌≡◌, ℕ, Bool, true, false, cond, [], ◌∷◌, List, Option, Some, None, refl}
use Rattle.std.specs.List.{list_any}
use Rattle.std.proofs.Common.{sym, ap, ◌∙◌}
use Rattle.rsvp_base.specs.Sets.{Set}
use Rattle.rsvp_base.specs.Table.{keys}
use Rattle.rsvp_base.specs.declared.addr.Addr.{Addr}
use Rattle.rsvp_base.specs.declared.session.Sender.{Sender}
use Rattle.rsvp_messages.specs.declared.ask.Ask.{Ask}
use Rattle.rsvp_messages.specs.declared.message.ResvMsg.{ResvMsg}
use Rattle.style_rules.specs.Lines.{next_hops}
use Rattle.router_rules.specs.Asking.{asked_of, asker_of, Asker}
use Rattle.router_rules.specs.Facts.{Facts, SenderKey}
use Rattle.router_rules.specs.Inputs.{Asked, Send}
use Rattle.router_rules.specs.Known.{Lane}
use Rattle.router_rules.specs.Offers.{Offer}
use Rattle.router_rules.specs.Requests.{toward}
use Rattle.router_rules.specs.Sends.{conf_for, conf_send, conf_sends, confirmed, goes_on}
use Rattle.router_state.specs.State.{State, facts_of, said_at}
use Rattle.laws_sends.specs.Before.{IsBefore, lanes_by}
use Rattle.laws_sends.specs.SendsHere.{hops_in}
use Rattle.laws_sends.proofs.Apart.{changed_at}
use Rattle.laws_sends.proofs.Marks.{marks_of_one_session}
use Rattle.resv_sends.specs.Wishes.{new_by, new_seen}
use Rattle.router_core.specs.Confirming.{conf_of}

module _ (x : Sender) (n m : State) (offer : Option Offer) (near : Set next_hops) (c e : ℕ) (p : ResvMsg) where
  abbrev f : Facts
  f = facts_of c n

  abbrev g : Facts
  g = facts_of c m

  abbrev o : Asker
  o = asker_of n.place c e p

  abbrev sent : Option Ask → Option Addr → List Send
  sent taken wish = conf_sends (confirmed n.place n.place f g (asked_of o taken wish))

  -- the Resv does not wish for it, or nothing was taken
  pub unasked : (taken : Option Ask) → p.confirm ≡ None → [] ≡ sent taken p.confirm
  unasked taken is = sym (ap (sent taken) is)

  pub untaken : (taken : Option Ask) → taken ≡ None → [] ≡ sent taken p.confirm
  untaken taken is = by p.confirm ∙ sym (ap (λ w. sent w p.confirm) is)
    where
      none : (b : Bool) → [] ≡ conf_sends (cond b [] [])
      none true = refl
      none false = refl

      by : (w : Option Addr) → [] ≡ sent None w
      by None = refl
      by (Some a) = none (goes_on n.place n.place f g (record { session = p.session; confirm = a; iface = e; hop = p.hop.addr; taken = None }))

  -- it wishes for it, and something was taken
  module _ (b : IsBefore (p.session, x) n m offer near) (wish : Addr) (ask : Ask) (wishes : p.confirm ≡ Some wish) (taken : Option Ask) (is : taken ≡ Some ask) (hops : Set next_hops)
      (after : hops ≡ hops_in g p.session) where
    abbrev k : SenderKey
    k = (p.session, x)

    abbrev a : Asked
    a = record { session = p.session; confirm = wish; iface = e; hop = p.hop.addr; taken = Some ask }

    was : (l : Lane) → said_at m.said l ≡ toward m.place f l
    was l = ap (λ z. said_at z l) b.same ∙ b.said.at c l ∙ ap (λ q. toward q f l) b.change.place

    goes : goes_on n.place n.place f g a ≡ list_any (new_by c m m.said p.session) (lanes_by (keys hops))
    unfolding new_seen
    goes =
        ap (λ q. goes_on q q f g a) b.change.place ∙ marks_of_one_session.goes_on m.place k f g m.said (changed_at k n m b.change c m.place) was a refl
        ∙ sym (ap (λ (hs : Set next_hops). list_any (new_by c m m.said p.session) (lanes_by (keys hs))) after)

    sent_is : sent taken p.confirm ≡ conf_sends (cond (list_any (new_by c m m.said p.session) (lanes_by (keys hops))) [] (conf_for n.place a (Some ask)))
    sent_is = (λ i. sent (is i) (wishes i)) ∙ ap (λ t. conf_sends (cond t [] (conf_for n.place a (Some ask)))) goes

    pub going : list_any (new_by c m m.said p.session) (lanes_by (keys hops)) ≡ true → [] ≡ sent taken p.confirm
    going on = sym (sent_is ∙ ap (λ t. conf_sends (cond t [] (conf_for n.place a (Some ask)))) on)

    pub standing : list_any (new_by c m m.said p.session) (lanes_by (keys hops)) ≡ false → conf_send (record { iface = e; dst = p.hop.addr; conf = conf_of n.place e p wish ask }) ∷ []
        ≡ sent taken p.confirm
    standing off = sym (sent_is ∙ ap (λ t. conf_sends (cond t [] (conf_for n.place a (Some ask)))) off)
