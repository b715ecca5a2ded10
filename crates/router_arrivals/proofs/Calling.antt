-- What local senders do that come and go, by what the code tests.
use Rattle.std.specs.Prelude.{◌≡◌, ℕ, true, false, Option, Some, None}
use Rattle.std.proofs.Common.{ap, ◌∙◌}
use Rattle.rsvp_base.specs.Orders.{senders}
use Rattle.rsvp_base.specs.SessionLimits.{has_room_at}
use Rattle.rsvp_base.specs.Table.{has, put_in}
use Rattle.rsvp_base.specs.TokenBucket.{TokenBucket}
use Rattle.router_rules.specs.Act.{act}
use Rattle.router_rules.specs.Calls.{advertised_with, call_refusal, needs, senders_with, unless, wants_with}
use Rattle.router_rules.specs.Facts.{SenderKey}
use Rattle.router_rules.specs.Inputs.{AdvertAs, Call, DropAs, Local, SendAs, only_heard}
use Rattle.router_rules.specs.NodeConfig.{is_own}
use Rattle.router_rules.specs.Rule.{refusal_of_call}
use Rattle.router_rules.specs.declared.answers.Heard.TheVariants as heard
use Rattle.router_rules.specs.declared.answers.LocalErr.{LocalErr}
use Rattle.router_rules.specs.declared.answers.LocalErr.TheVariants as local
use Rattle.router_state.specs.Changes.{advertised_put, senders_put, senders_without}
use Rattle.router_state.specs.State.{State, facts_at, facts_of}

module _ (n : State) (c : ℕ) where
  by_refusal : (l : Local) (r : Option LocalErr) → call_refusal n.place l (facts_of c n) ≡ r
      → act n.place c (Call l) (facts_of c n) ≡ only_heard heard.Taken (record (facts_of c n) {
        senders = unless r (senders_with l n.senders) n.senders;
        advertised = unless r (advertised_with l n.advertised) n.advertised;
        wants = unless r
            (wants_with l n.wants) n.wants;
      })
  by_refusal l r e = ap (λ (w : Option LocalErr). only_heard heard.Taken (record (facts_of c n) {
    senders = unless w (senders_with l n.senders) n.senders;
    advertised = unless w (advertised_with l n.advertised) n.advertised;
    wants = unless w
        (wants_with l n.wants) n.wants;
  })) e

  -- a call that is refused
  pub refused_call : (l : Local) (why : LocalErr) → call_refusal n.place l (facts_of c n) ≡ Some why → act n.place c (Call l) (facts_of c n) ≡ only_heard heard.Taken (facts_of c n)
  refused_call l why e = by_refusal l (Some why) e

  pub refusal_is : (l : Local) (r : Option LocalErr) → call_refusal n.place l (facts_of c n) ≡ r → refusal_of_call n.place l (facts_at c n) ≡ r
  unfolding facts_at refusal_of_call
  refusal_is l r e = e

  module _ (k : SenderKey) (tspec : TokenBucket) where
    pub not_mine : is_own n.place k.1.addr ≡ false → call_refusal n.place (SendAs k.0 k.1 tspec) (facts_of c n) ≡ Some local.NotMine
    not_mine off = ap (λ b. needs b local.NotMine (needs (has_room_at senders (put_in n.senders k tspec) k.0) local.Full None)) off

    pub no_room : is_own n.place k.1.addr ≡ true → has_room_at senders (put_in n.senders k tspec) k.0 ≡ false → call_refusal n.place (SendAs k.0 k.1 tspec) (facts_of c n) ≡ Some local.Full
    no_room on off = ap (λ b. needs b local.NotMine (needs (has_room_at senders (put_in n.senders k tspec) k.0) local.Full None)) on ∙ ap (λ b. needs b local.Full None) off

    pub may_send : is_own n.place k.1.addr ≡ true → has_room_at senders (put_in n.senders k tspec) k.0 ≡ true → call_refusal n.place (SendAs k.0 k.1 tspec) (facts_of c n) ≡ None
    may_send on room = ap (λ b. needs b local.NotMine (needs (has_room_at senders (put_in n.senders k tspec) k.0) local.Full None)) on ∙ ap (λ b. needs b local.Full None) room

    pub sends_now : call_refusal n.place (SendAs k.0 k.1 tspec) (facts_of c n) ≡ None → act n.place c (Call (SendAs k.0 k.1 tspec)) (facts_of c n)
        ≡ only_heard heard.Taken (facts_of c (senders_put n k tspec))
    sends_now e = by_refusal (SendAs k.0 k.1 tspec) None e

  module _ (k : SenderKey) where
    pub is_absent : has n.senders k ≡ false → call_refusal n.place (DropAs k.0 k.1) (facts_of c n) ≡ Some local.Absent
    is_absent off = ap (λ b. needs b local.Absent None) off

    pub may_drop : has n.senders k ≡ true → call_refusal n.place (DropAs k.0 k.1) (facts_of c n) ≡ None
    may_drop on = ap (λ b. needs b local.Absent None) on

    pub drops_now : call_refusal n.place (DropAs k.0 k.1) (facts_of c n) ≡ None → act n.place c (Call (DropAs k.0 k.1)) (facts_of c n) ≡ only_heard heard.Taken (facts_of c (senders_without n k))
    drops_now e = by_refusal (DropAs k.0 k.1) None e

    -- what is told of a sender that is not there
    pub is_unheard : has n.senders k ≡ false → call_refusal n.place (AdvertAs k.0 k.1) (facts_of c n) ≡ Some local.Absent
    is_unheard off = ap (λ b. needs b local.Absent None) off

    pub may_advertise : has n.senders k ≡ true → call_refusal n.place (AdvertAs k.0 k.1) (facts_of c n) ≡ None
    may_advertise on = ap (λ b. needs b local.Absent None) on

    pub advertises_now : call_refusal n.place (AdvertAs k.0 k.1) (facts_of c n) ≡ None → act n.place c (Call (AdvertAs k.0 k.1)) (facts_of c n)
        ≡ only_heard heard.Taken (facts_of c (advertised_put n k))
    advertises_now e = by_refusal (AdvertAs k.0 k.1) None e
