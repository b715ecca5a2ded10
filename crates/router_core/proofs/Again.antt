-- A Path from the hop that the path of its sender came from: what goes toward each hop is what went there before.
use Rattle.std.specs.Prelude.{◌≡◌, ℕ, ◌+◌, Bool, true, fold, is_some, [], Option, Some, None, refl}
use Rattle.std.specs.Option.{option_map}
use Rattle.std.proofs.Common.{sym, ap, ◌∙◌}
use Rattle.std.proofs.lemmas.Bool.{eq-eqb}
use Rattle.path_state.specs.Paths.{path_keys}
use Rattle.path_state.specs.declared.fact.PathFact.{PathFact}
use Rattle.path_sends.proofs.Renewed.{is_no_news}
use Rattle.path_sends.specs.Offering.{passed_offer}
use Rattle.rsvp_base.specs.Table.{get, has, put_in}
use Rattle.rsvp_base.specs.Orders.{senders}
use Rattle.rsvp_base.specs.SessionLimits.{has_room_at}
use Rattle.rsvp_base.specs.TokenBucket.{TokenBucket}
use Rattle.rsvp_base.specs.declared.session.Sender.{Sender}
use Rattle.rsvp_base.proofs.SetLaws.{and_made}
use Rattle.rsvp_base.proofs.Tables.{get-changed, get-put_in_same, then_do}
use Rattle.rsvp_messages.specs.declared.message.Message.TheVariants as message
use Rattle.rsvp_messages.specs.declared.message.PathMsg.{PathMsg}
use Rattle.style_rules.specs.Lines.{NextHop}
use Rattle.style_rules.specs.Toward.{or_else}
use Rattle.router_rules.specs.Facts.{PathState, SenderKey}
use Rattle.router_rules.specs.Inputs.{Send, Spelt, only_heard}
use Rattle.router_rules.specs.Known.{Lane}
use Rattle.router_rules.specs.NodeConfig.{NodeConfig, comes_in, lifetime}
use Rattle.router_rules.specs.Offers.{Offer, own_offer, path_offer}
use Rattle.router_rules.specs.Paths.{is_path_by}
use Rattle.router_rules.specs.Requests.{toward}
use Rattle.router_rules.specs.Rule.{facts_after, heard_after, sent_after}
use Rattle.router_rules.specs.Sends.{sends}
use Rattle.router_rules.specs.declared.answers.Heard.{Heard}
use Rattle.router_rules.specs.declared.answers.Heard.TheVariants as heard
use Rattle.laws_bounds.proofs.Tests.{addr_tested, came_told, not_new}
use Rattle.router_state.specs.Changes.{path_came}
use Rattle.router_state.specs.State.{IsSaid, IsSettled, Said, State, facts_at, facts_of, path_at}
use Rattle.router_state.proofs.Settling.{has_changed}
use Rattle.laws_sends.specs.Changed.{IsChangedFor}
use Rattle.laws_sends.specs.Told.{offered, told_gone, told_new}
use Rattle.laws_sends.proofs.Apart.{changed_at}
use Rattle.laws_sends.proofs.Quiet.{toward_refreshed}
use Rattle.resv_sends.proofs.Sent.{own_seen, path_seen}
use Rattle.router_arrivals.specs.Coming.{fact_of, with_path}
use Rattle.router_arrivals.proofs.Doing.{path_comes}
use Rattle.router_arrivals.proofs.Keeping.{put_there}
use Rattle.router_arrivals.proofs.Offering.{path_by}
use Rattle.router_arrivals.proofs.Ruled.{IsPlain, heard_is, plain_facts, plain_sent, without_marks}
use Rattle.path_sends.specs.declared.renewal.Renewal.{Renewal}
use Rattle.path_sends.specs.Renewing.{AreNews, offer_by, own_of}
use Rattle.router_core.proofs.Quiet.{marks_wait, quiet_sends}

-- the path that came by the hop
stood : (c : ℕ) (k : SenderKey) (hop : NextHop) (w : Option (PathFact × ℕ)) → is_path_by hop (then_do w (path_at c k)) ≡ true
    → (old : PathFact × ℕ) × (w ≡ Some old) × ((old.0.iface ≡ hop.0) × (old.0.hop.addr ≡ hop.1))
stood c k hop None e = cc
stood c k hop (Some x) e = (x, refl, came_told hop (record { iface = x.0.iface; hop = x.0.hop; tspec = x.0.tspec; police = x.0.police; adspec = x.0.adspec; dies = c + x.1 }) e)

-- what a local sender announces, and whether it is advertised
abbrev pub own_at : State → SenderKey → Option (Bool × TokenBucket)
own_at n k = own_of (has n.advertised k) (get n.senders k)

pub own_there : (a : Bool) (t : Option TokenBucket) → is_some (own_of a t) ≡ is_some t
own_there a None = refl
own_there a (Some t) = refl

-- what is offered of a sender that has this path
pub offers : (c : ℕ) (n : State) (k : SenderKey) (own : Option (Bool × TokenBucket)) → own ≡ own_at n k → (f : PathFact) → option_map (λ e. e.0) (get n.paths k) ≡ Some f
    → Some (offer_by own f.tspec f.adspec) ≡ offered (facts_of c n) k
offers c n k (Some own) is f at = by (get n.senders k) refl is
  where
    by : (w : Option TokenBucket) → get n.senders k ≡ w → Some own ≡ own_of (has n.advertised k) w → Some (own_offer own.0 own.1) ≡ offered (facts_of c n) k
    by None e same = cc
    by (Some tspec) e same =
        let one : ◌≡◌ {A = Bool × TokenBucket} own (has n.advertised k, tspec) = cc in
        own_seen c n k own.1 own.0 (e ∙ ap (λ z. Some z.1) (sym one)) (ap (λ z. z.0) (sym one))
offers c n k None is f at = by (get n.senders k) refl is
  where
    by : (w : Option TokenBucket) → get n.senders k ≡ w → None ≡ own_of (has n.advertised k) w → Some (passed_offer f.tspec f.adspec) ≡ offered (facts_of c n) k
    by (Some tspec) e same = cc
    by None e same = path_seen c n k e (Some f) (sym at)

-- n is what there was, w what the tables have then
module _ (n w : State) (k : SenderKey) (fact : PathFact) (left : ℕ) (said : Said) (now : w ≡ record (with_path n k fact left) { said = said })
    (by : (c : ℕ) → is_path_by (fact.iface, fact.hop.addr) (get (facts_of c n).paths k) ≡ true) where
  -- what is offered then
  pub offers_again : (c : ℕ) (own : Option (Bool × TokenBucket)) → own ≡ own_at n k → Some (offer_by own fact.tspec fact.adspec) ≡ offered (facts_of c w) k
  offers_again c own is =
      offers c w k own (is ∙ ap (λ (z : State). own_at z k) (sym now)) fact (ap (λ (z : State). option_map (λ (e : PathFact × ℕ). e.0) (get z.paths k)) now
      ∙ ap (option_map (λ (e : PathFact × ℕ). e.0)) (get-put_in_same path_keys n.paths k (fact, left)))

  -- what was offered of its sender and what is offered then, of which the renewal tells
  pub renewal_told : (r : Option Renewal)
      → ((f : PathFact) → option_map (λ (e : PathFact × ℕ). e.0) (get n.paths k) ≡ Some f
      → AreNews r (offer_by (own_at n k) f.tspec f.adspec) (offer_by (own_at n k) fact.tspec fact.adspec))
      → (c : ℕ) → (old : Offer) × (new : Offer) × AreNews r old new × (Some old ≡ offered (facts_of c n) k) × (Some new ≡ offered (facts_of c w) k)
  renewal_told r news c =
      let there = stood c k (fact.iface, fact.hop.addr) (get n.paths k) (sym (ap (is_path_by (fact.iface, fact.hop.addr)) (get-changed path_keys (path_at c) n.paths k)) ∙ by c) in
      let was : PathFact = there.0.0 in
      let is : option_map (λ (e : PathFact × ℕ). e.0) (get n.paths k) ≡ Some was = ap (option_map (λ (e : PathFact × ℕ). e.0)) there.1 in (
        offer_by (own_at n k) was.tspec was.adspec,
        offer_by (own_at n k) fact.tspec fact.adspec,
        news was is,
        offers c n k (own_at n k) refl was is,
        offers_again c (own_at n k) refl,
      )

  pub toward_again : (c : ℕ) (p : NodeConfig) (l : Lane) → toward p (facts_of c n) l ≡ toward p (facts_of c w) l
  toward_again c p l =
      let old = stood c k (fact.iface, fact.hop.addr) (get n.paths k) (sym (ap (is_path_by (fact.iface, fact.hop.addr)) (get-changed path_keys (path_at c) n.paths k)) ∙ by c) in
      toward_refreshed n k old.0 old.1 fact left old.2.0 old.2.1 c p l ∙ ap (λ (z : State). toward p (facts_of c z) l) (sym now)

  pub said_again : n.place ≡ w.place → IsSaid said n → IsSaid said w
  said_again place told = record { at = λ c l. told.at c l ∙ toward_again c n.place l ∙ ap (λ p. toward p (facts_of c w) l) place; some = told.some }

  -- its sender is offered still
  still_offered : (c : ℕ) → told_gone n.place k (offered (facts_of c n) k) (offered (facts_of c w) k) ≡ []
  still_offered c =
      by_two (offered (facts_of c n) k) (has (facts_of c w).advertised k) (get (facts_of c w).senders k) (get (facts_of c w).paths k)
      (ap (λ (z : State). has (facts_of c z).paths k) now ∙ has_changed path_keys (path_at c) (λ j e. refl) (put_in n.paths k (fact, left)) k ∙ put_there path_keys n.paths k (fact, left))
    where
      by_two : (o : Option Offer) (advertised : Bool) (own : Option TokenBucket) (path : Option PathState) → is_some path ≡ true
          → told_gone n.place k o (or_else (option_map (own_offer advertised) own) (option_map path_offer path)) ≡ []
      by_two None advertised own path h = refl
      by_two (Some o) advertised (Some t) path h = refl
      by_two (Some o) advertised None (Some y) h = refl
      by_two (Some o) advertised None None h = cc

  -- so its Paths alone are sent, where an interface sends another flow or ADSPEC
  pub sent_again : IsChangedFor k n w → (c : ℕ) (h : Heard) → sends n.place n.place (facts_of c n) (facts_of c w) (only_heard h (facts_of c w))
      ≡ told_new n.place k (offered (facts_of c n) k) (offered (facts_of c w) k)
  sent_again ch c h =
      quiet_sends n.place (facts_of c n) (facts_of c w) (toward_again c n.place) k (changed_at k n w ch c n.place) (still_offered c) (only_heard h (facts_of c w)) refl

  pub marks_again : (c : ℕ) → facts_of c w ≡ without_marks n.place (facts_of c n) (facts_of c w) None
  marks_again c = sym (marks_wait n.place (facts_of c n) (facts_of c w) (toward_again c n.place) None)

-- a path that is what a Path says came by its hop
pub said_by_hop : (e : ℕ) (p : PathMsg) (x : Sender) (tspec : TokenBucket) (n : State) → option_map (λ (o : PathFact × ℕ). o.0) (get n.paths (p.session, x)) ≡ Some (fact_of e p x tspec) → (c : ℕ)
    → is_path_by (e, p.hop.addr) (get (facts_of c n).paths (p.session, x)) ≡ true
said_by_hop e p x tspec n same c =
    sym (path_by c n (p.session, x) (e, p.hop.addr) (Some (fact_of e p x tspec)) (sym same)) ∙ and_made _ _ (eq-eqb e e refl) (addr_tested p.hop.addr p.hop.addr refl)

-- where there is room for what it says it does as the rule
module _ (m : State) (said : Said) (kept : IsSettled (record m { said = said })) (told : IsSaid said (record m { said = said })) (e : ℕ) (p : PathMsg) (x : Sender) (tspec : TokenBucket)
    (is : p.sender ≡ Some (x, tspec)) (on : comes_in m.place p.session e x ≡ true)
    (by : (c : ℕ) → is_path_by (e, p.hop.addr) (get (facts_of c (record m { said = said })).paths (p.session, x)) ≡ true) where
  abbrev was : State
  was = record m { said = said }

  abbrev key : SenderKey
  key = (p.session, x)

  abbrev learnt : PathFact
  learnt = fact_of e p x tspec

  abbrev lives : ℕ
  lives = lifetime m.place p.period

  module _ (w : State) (room : has_room_at senders (put_in m.paths key (learnt, lives)) p.session ≡ true) (now : w ≡ record (with_path m key learnt lives) { said = said }) where
    comes : IsPlain key was (path_came e p) heard.Taken w
    comes = path_comes was kept e p x tspec is on room w said now

    -- it is settled then, and what was said is what goes there
    pub kept_again : IsSettled w × IsSaid said w
    kept_again = (comes.ruled.kept, said_again was w key learnt lives said now by comes.ruled.change.place told)

    -- the path that stood is the one that comes
    module _ (same : option_map (λ (o : PathFact × ℕ). o.0) (get m.paths key) ≡ Some learnt) where
      nothing_new : (c : ℕ) → told_new m.place key (offered (facts_of c was) key) (offered (facts_of c w) key) ≡ []
      nothing_new c =
          let own = own_at was key in
          let o = offer_by own learnt.tspec learnt.adspec in
          let before : Some o ≡ offered (facts_of c was) key = offers c was key own refl learnt same in
          let after : Some o ≡ offered (facts_of c w) key = offers_again was w key learnt lives said now by c own refl in
          (λ i. told_new m.place key (sym before i) (sym after i)) ∙ is_no_news None refl o o (λ q i. not_new q i o) m.place key

    -- as the node is seen
    module _ (self : State) (view : was ≡ self) (c : ℕ) where
      pub facts_again : facts_at c w ≡ facts_after self.place self.place c (path_came e p) (facts_at c self)
      facts_again = plain_facts was self view (λ z. path_came e p) refl heard.Taken c key w comes w (marks_again was w key learnt lives said now by c)

      pub heard_again : heard.Taken ≡ heard_after self.place c e p.session.group (Spelt (message.Path p)) (facts_at c self)
      heard_again =
          heard_is was c e p.session.group (Spelt (message.Path p)) _ heard.Taken (comes.does c)
          ∙ ap (λ (z : State). heard_after z.place c e p.session.group (Spelt (message.Path p)) (facts_at c z)) view

      pub told_again : {B : Type 0} (posted : B → Send → B) (last out : B) → last ≡ fold posted out (told_new m.place key (offered (facts_of c was) key) (offered (facts_of c w) key))
          → last ≡ fold posted out (sent_after self.place self.place c (path_came e p) (facts_at c self))
      told_again posted last out told =
          plain_sent was self view (λ z. path_came e p) refl heard.Taken c key w comes posted last out
          (told ∙ ap (fold posted out) (sym (sent_again was w key learnt lives said now by comes.ruled.change c heard.Taken)))

      pub none_told : {B : Type 0} (posted : B → Send → B) (out : B) → option_map (λ (o : PathFact × ℕ). o.0) (get m.paths key) ≡ Some learnt
          → out ≡ fold posted out (sent_after self.place self.place c (path_came e p) (facts_at c self))
      none_told posted out same = told_again posted out out (ap (fold posted out) (sym (nothing_new same c)))

      pub place_again : w.place ≡ self.place
      place_again = sym comes.ruled.change.place ∙ ap (λ (z : State). z.place) view
