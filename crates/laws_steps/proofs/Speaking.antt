-- What is sent for path state, and refreshes.
use Rattle.std.specs.Prelude.{◌≡◌, ℕ, ◌<◌, ◌⊎◌, ◌||◌, Bool, true, false, cond, length, is_some, List, Option, Some, None, refl}
use Rattle.std.proofs.Common.{sym, ap, subst, ◌∙◌, inl, inr, ⊎_elim}
use Rattle.std.proofs.lemmas.Bool.{lt-ltb}
use Rattle.rsvp_base.specs.declared.addr.Addr.{Addr}
use Rattle.rsvp_base.specs.declared.session.Sender.{Sender}
use Rattle.rsvp_base.specs.declared.session.Session.{Session}
use Rattle.rsvp_base.specs.declared.style.StyleKind.{StyleKind}
use Rattle.rsvp_base.specs.declared.style.StyleKind.TheVariants.{Wild, Fixed, Shared}
use Rattle.rsvp_base.specs.Members.{In}
use Rattle.rsvp_base.specs.Table.{empty, get, has}
use Rattle.rsvp_base.proofs.SetLaws.{and_made}
use Rattle.rsvp_base.proofs.Tables.{either}
use Rattle.rsvp_messages.specs.declared.ask.Ask.{Ask}
use Rattle.rsvp_messages.specs.declared.message.Message.TheVariants as message
use Rattle.rsvp_messages.specs.declared.message.PathMsg.{PathMsg}
use Rattle.rsvp_messages.specs.declared.message.PathTearMsg.{PathTearMsg}
use Rattle.laws_bounds.specs.RouterRules.Act.{act}
use Rattle.laws_bounds.specs.RouterRules.Asking.{ask_of}
use Rattle.laws_bounds.specs.RouterRules.Facts.{Facts}
use Rattle.laws_bounds.specs.RouterRules.Inputs.{ErrMsg, Input, OfPath, OfResv, Send, Wait}
use Rattle.laws_bounds.specs.RouterRules.Known.{Lane, known, lanes}
use Rattle.laws_bounds.specs.RouterRules.Offers.{Offer, OfferKey, offer_at, offers}
use Rattle.laws_bounds.specs.RouterRules.NodeConfig.{NodeConfig, goes_out, own, period}
use Rattle.laws_bounds.specs.RouterRules.Requests.{toward}
use Rattle.laws_bounds.specs.RouterRules.Rule.{is_silent, settled}
use Rattle.laws_bounds.specs.RouterRules.Sends.{confirm_for, error_message, is_changed, is_new_offer, path_send, resv_send, told_at}
use Rattle.laws_bounds.specs.FactLaws.{is_way}
use Rattle.laws_bounds.specs.SendLaws.{IsConf, IsError, IsPath, IsPathTear, IsResv, IsResvTear, IsSend}
use Rattle.laws_bounds.proofs.Lists.{some_is}
use Rattle.laws_bounds.proofs.Offering.{offers_by_way}
use Rattle.laws_bounds.proofs.Requesting.{requests_and_toward}
use Rattle.laws_bounds.proofs.Ruling.{rule_in_parts}
use Rattle.laws_bounds.proofs.Sending.{sends_are_of_six_kinds}
use Rattle.laws_steps.specs.SpeakingLaws.{IsOfGoneOffer, IsOfOffer, IsPathRefresh, IsResvRefresh, RefreshesAreMarked, WhatAPathSentSays, WhyAPathTearIsSent}
use Rattle.laws_steps.proofs.Counting.{reached}
use Rattle.laws_bounds.specs.RouterRules.Steps.{facts_then, sent_then, fired_then}
use Rattle.laws_bounds.proofs.Stepping.{offer_source, offered_is_known, offered, send_told}

not_offered : (p : NodeConfig) (f : Facts) (k : OfferKey) → has (offers p f) k ≡ false → (is_way p k ≡ false) ⊎ (has (known f k.session) k.sender ≡ false)
not_offered p f k e = by (is_way p k) refl (ap is_some (sym (offers_by_way p f k)) ∙ e)
  where
    by : (b : Bool) → is_way p k ≡ b → is_some (cond b (offer_at f k) None) ≡ false → (is_way p k ≡ false) ⊎ (has (known f k.session) k.sender ≡ false)
    by false is n = inl is
    by true is n = inr (sym (offered_is_known f k) ∙ n)

-- ---- sends
no_error : (w : ErrMsg) (m : PathMsg) → error_message w ≡ message.Path m → ⊥
no_error (OfPath x) m e = cc
no_error (OfResv x) m e = cc

no_error_tear : (w : ErrMsg) (m : PathTearMsg) → error_message w ≡ message.PathTear m → ⊥
no_error_tear (OfPath x) m e = cc
no_error_tear (OfResv x) m e = cc

module _ (old p : NodeConfig) (c : ℕ) (i : Input) (f : Facts) where
  abbrev after : Facts
  after = settled p c f (act p c i f).facts

  abbrev IsSendThen : Send → Type 0
  IsSendThen s = IsSend old p f after (act p c i f) s

  pub send_made : (s : Send) → is_silent i ≡ false → IsSendThen s → In s (sent_then old p c i f)
  send_made s loud k = subst (λ (xs : List Send). In s xs) (sym (rule_in_parts.loud old p c i f loud)) ((sends_are_of_six_kinds.each old p f after (act p c i f) s).1 k)

  -- ---- Paths
  path_only : (s : Send) (m : PathMsg) → s.message ≡ message.Path m → IsSendThen s → IsPath old p f after (act p c i f) s
  path_only s m e k =
      ⊎_elim
      (λ (r : IsPathTear old p f after (act p c i f) s). let no = sym (ap (λ (z : Send). z.message) r.is) ∙ e in absurd (cc))
      (λ k. ⊎_elim
      (λ (r : IsResvTear old p f after (act p c i f) s). let no = sym (ap (λ (z : Send). z.message) r.is) ∙ e in absurd (cc))
      (λ k. ⊎_elim
      (λ (r : IsError old p f after (act p c i f) s). absurd (no_error r.error.error m (sym (ap (λ (z : Send). z.message) r.is) ∙ e)))
      (λ k. ⊎_elim
      (λ (r : IsConf old p f after (act p c i f) s). let no = sym (ap (λ (z : Send). z.message) r.is) ∙ e in absurd (cc))
      (λ k. ⊎_elim
      (λ (r : IsPath old p f after (act p c i f) s). r)
      (λ (r : IsResv old p f after (act p c i f) s). let no = sym (ap (λ (z : Send). z.message) r.is) ∙ e in absurd (cc)) k) k) k) k) k

  path_is : (s : Send) (m : PathMsg) → s.message ≡ message.Path m → (r : IsPath old p f after (act p c i f) s)
      → m ≡ record {
        session = r.key.session;
        police = r.offer.local;
        hop = record { addr = own p r.key.iface; handle = 0 };
        period = period p;
        sender = Some
            (r.key.sender, r.offer.tspec);
        adspec = told_at p r.key.iface r.offer;
      }
  path_is s m e r = let same = sym e ∙ ap (λ (z : Send). z.message) r.is in cc

  path_says : (s : Send) (m : PathMsg) → s.message ≡ message.Path m → IsPath old p f after (act p c i f) s → IsOfOffer p (facts_then old p c i f) s m
  path_says s m e r =
      let o = offered p (facts_then old p c i f) r.key r.offer r.offered in
      record {
        key = r.key;
        offer = r.offer;
        known_then = o.known_one;
        there = o.there;
        way = o.out;
        offered = o.at;
        source = offer_source (facts_then old p c i f) r.key r.offer o.at;
        iface = ap (λ (z : Send). z.iface) r.is;
        dst = ap (λ (z : Send). z.dst) r.is;
        is = path_is s m e r;
      }

  path_refresh : (s : Send) (m : PathMsg) → s.message ≡ message.Path m → IsPath old p f after (act p c i f) s → s.refresh ≡ has (fired_then p c i f) m.session
  path_refresh s m e r = ap (λ (z : Send). z.refresh) r.is ∙ ap (λ (z : PathMsg). has (fired_then p c i f) z.session) (sym (path_is s m e r))

  path_why : (s : Send) → s.refresh ≡ false → IsPath old p f after (act p c i f) s
      → (key : OfferKey) × (offer : Offer) × (s ≡ path_send p false (key, offer)) × (get (offers p (facts_then old p c i f)) key ≡ Some offer)
      × (is_new_offer p key.iface offer (get (offers old f) key) ≡ true)
  path_why s n r =
      let quiet : has (fired_then p c i f) r.key.session ≡ false = sym (ap (λ (z : Send). z.refresh) r.is) ∙ n in (
        r.key,
        r.offer,
        r.is ∙ ap (λ b. path_send p b (r.key, r.offer)) quiet,
        r.offered,
        ap (λ b. b || is_new_offer p r.key.iface r.offer (get (offers old f) r.key)) (sym quiet) ∙ r.why,
      )

  -- ---- PathTears
  tear_only : (s : Send) (m : PathTearMsg) → s.message ≡ message.PathTear m → IsSendThen s → IsPathTear old p f after (act p c i f) s
  tear_only s m e k =
      ⊎_elim
      (λ (r : IsPathTear old p f after (act p c i f) s). r)
      (λ k. ⊎_elim
      (λ (r : IsResvTear old p f after (act p c i f) s). let no = sym (ap (λ (z : Send). z.message) r.is) ∙ e in absurd (cc))
      (λ k. ⊎_elim
      (λ (r : IsError old p f after (act p c i f) s). absurd (no_error_tear r.error.error m (sym (ap (λ (z : Send). z.message) r.is) ∙ e)))
      (λ k. ⊎_elim
      (λ (r : IsConf old p f after (act p c i f) s). let no = sym (ap (λ (z : Send). z.message) r.is) ∙ e in absurd (cc))
      (λ k. ⊎_elim
      (λ (r : IsPath old p f after (act p c i f) s). let no = sym (ap (λ (z : Send). z.message) r.is) ∙ e in absurd (cc))
      (λ (r : IsResv old p f after (act p c i f) s). let no = sym (ap (λ (z : Send). z.message) r.is) ∙ e in absurd (cc)) k) k) k) k) k

  tear_says : (s : Send) (m : PathTearMsg) → s.message ≡ message.PathTear m → IsPathTear old p f after (act p c i f) s → IsOfGoneOffer old p f (facts_then old p c i f) s m
  tear_says s m e r =
      let one = some_is (get (offers old f) r.key) r.was in
      let o = offered old f r.key one.0 one.1 in
      let same = sym e ∙ ap (λ (z : Send). z.message) r.is in
      record {
        key = r.key;
        was = r.was;
        known_before = o.known_one;
        there = o.there;
        way = o.out;
        gone = not_offered p (facts_then old p c i f) r.key r.gone;
        iface = ap (λ (z : Send). z.iface) r.is;
        dst = ap (λ (z : Send). z.dst) r.is;
        is = cc;
        refresh = ap (λ (z : Send). z.refresh) r.is;
      }

  -- ---- refreshes
  refresh_only : (s : Send) → s.refresh ≡ true → IsSendThen s → IsPathRefresh p c i f s ⊎ IsResvRefresh p c i f s
  refresh_only s e k =
      ⊎_elim
      (λ (r : IsPathTear old p f after (act p c i f) s). let no = sym (ap (λ (z : Send). z.refresh) r.is) ∙ e in absurd (cc))
      (λ k. ⊎_elim
      (λ (r : IsResvTear old p f after (act p c i f) s). let no = sym (ap (λ (z : Send). z.refresh) r.is) ∙ e in absurd (cc))
      (λ k. ⊎_elim
      (λ (r : IsError old p f after (act p c i f) s). let no = sym (ap (λ (z : Send). z.refresh) r.is) ∙ e in absurd (cc))
      (λ k. ⊎_elim
      (λ (r : IsConf old p f after (act p c i f) s). let no = sym (ap (λ (z : Send). z.refresh) r.is) ∙ e in absurd (cc))
      (λ k. ⊎_elim
      (λ (r : IsPath old p f after (act p c i f) s). inl (record { path = _; says = ap (λ (z : Send). z.message) r.is; fired = sym (ap (λ (z : Send). z.refresh) r.is) ∙ e }))
      (λ (r : IsResv old p f after (act p c i f) s). inr (record { resv = _; says = ap (λ (z : Send). z.message) r.is; fired = sym (ap (λ (z : Send). z.refresh) r.is) ∙ e })) k) k) k) k) k

  loud_where_due : (s : Session) → has (fired_then p c i f) s ≡ true → is_silent i ≡ false
  loud_where_due s e = let r = reached p c i f s e in ap is_silent r.waited

  offer_refreshed : (key : OfferKey) (offer : Offer) → has (fired_then p c i f) key.session ≡ true → get (offers p (facts_then old p c i f)) key ≡ Some offer
      → In (path_send p true (key, offer)) (sent_then old p c i f)
  offer_refreshed key offer due e =
      send_made (path_send p true (key, offer)) (loud_where_due key.session due)
      (inr (inr (inr (inr (inl (record {
        key = key;
        offer = offer;
        offered = e;
        why = ap (λ b. b || is_new_offer p key.iface offer (get (offers old f) key)) due;
        is = ap (λ b. path_send p b (key, offer))
            (sym due);
      }))))))

  known_refreshed : (s : Session) (x : Sender) (e : ℕ) → has (fired_then p c i f) s ≡ true → has (known (facts_then old p c i f) s) x ≡ true → e < length p.ifaces → goes_out p s e x ≡ true
      → (offer : Offer) × (offer_at (facts_then old p c i f) (record { session = s; sender = x; iface = e }) ≡ Some offer)
      × In (path_send p true (record { session = s; sender = x; iface = e }, offer)) (sent_then old p c i f)
  known_refreshed s x e due is less out =
      let k : OfferKey = record { session = s; sender = x; iface = e } in
      let o = some_is (offer_at (facts_then old p c i f) k) (offered_is_known (facts_then old p c i f) k ∙ is) in
      let way : is_way p k ≡ true = and_made _ _ (lt-ltb e (length p.ifaces) less) out in
      (o.0, o.1, offer_refreshed k o.0 due (offers_by_way p (facts_then old p c i f) k ∙ ap (λ b. cond b (offer_at (facts_then old p c i f) k) None) way ∙ o.1))

  -- something goes toward hops from which a path comes alone
  nothing_asked : (l : Lane) (ask : Ask) → ask_of l.style (toward p after l) ≡ Some ask → has (lanes after) l ≡ true
  nothing_asked l ask e = either (has (lanes after) l) (λ yes. yes) (λ no. absurd (none l.style (sym (ap (λ t. ask_of l.style t) (requests_and_toward.nowhere p after l no)) ∙ e)))
    where
      none : (st : StyleKind) → ask_of st empty ≡ Some ask → ⊥
      none Wild e = cc
      none Fixed e = cc
      none Shared e = cc

  resv_refreshed : (l : Lane) (ask : Ask) → has (fired_then p c i f) l.session ≡ true → ask_of l.style (toward p (facts_then old p c i f) l) ≡ Some ask
      → (confirm : Option Addr) × In (resv_send p (facts_then old p c i f) l confirm true ask) (sent_then old p c i f)
  resv_refreshed l ask due e =
      let whole : ask_of l.style (toward p after l) ≡ Some ask = ap (ask_of l.style) (sym (rule_in_parts.toward_same old p c i f l)) ∙ e in
      let confirm : Option Addr = cond (is_changed old p f after l) (confirm_for p after l (act p c i f).asked) None in (
        confirm,
        send_made (resv_send p (facts_then old p c i f) l confirm true ask) (loud_where_due l.session due)
            (inr (inr (inr (inr (inr (record {
              lane = l;
              there = nothing_asked l ask whole;
              ask = ask;
              whole = whole;
              why = ap (λ b. b || is_changed old p f after l) due;
              is = ap (λ b. resv_send p after l confirm b ask) (sym due);
            })))))),
      )

pub what_a_path_sent_says : WhatAPathSentSays
what_a_path_sent_says =
    record {
      says = λ step within s m h e. path_says step.old step.now step.after step.input step.facts s m e
          (path_only step.old step.now step.after step.input step.facts s m e (send_told step.old step.now step.after step.input step.facts s h));
      refresh = λ step within s m h e. path_refresh step.old step.now step.after step.input step.facts s m e
          (path_only step.old step.now step.after step.input step.facts s m e (send_told step.old step.now step.after step.input step.facts s h));
      why = λ step within s m h e n. path_why step.old step.now step.after step.input step.facts s n
          (path_only step.old step.now step.after step.input step.facts s m e (send_told step.old step.now step.after step.input step.facts s h));
    }

pub why_a_path_tear_is_sent : WhyAPathTearIsSent
why_a_path_tear_is_sent step within s m h e = tear_says step.old step.now step.after step.input step.facts s m e
    (tear_only step.old step.now step.after step.input step.facts s m e (send_told step.old step.now step.after step.input step.facts s h))

-- what has the mark is sent while time passes
while_waiting : (p : NodeConfig) (c : ℕ) (i : Input) (f : Facts) (s : Session) → has (fired_then p c i f) s ≡ true → (ms : ℕ) × (word : ℕ) × (i ≡ Wait ms word)
while_waiting p c i f s e = let r = reached p c i f s e in (r.ms, r.word, r.waited)

pub refreshes_are_marked : RefreshesAreMarked
refreshes_are_marked =
    record {
      offered = λ step within key offer due e. offer_refreshed step.old step.now step.after step.input step.facts key offer due e;
      known_ones = λ step within s x e due is less out. known_refreshed step.old step.now step.after step.input step.facts s x e due is less out;
      resvs = λ step within l ask due e. resv_refreshed step.old step.now step.after step.input step.facts l ask due e;
      only = λ step within s h e. refresh_only step.old step.now step.after step.input step.facts s e (send_told step.old step.now step.after step.input step.facts s h);
      waited = λ step within s h e.
          ⊎_elim (λ (r : IsPathRefresh step.now step.after step.input step.facts s). while_waiting step.now step.after step.input step.facts r.path.session r.fired)
          (λ (r : IsResvRefresh step.now step.after step.input step.facts s). while_waiting step.now step.after step.input step.facts r.resv.session r.fired)
          (refresh_only step.old step.now step.after step.input step.facts s e (send_told step.old step.now step.after step.input step.facts s h));
    }
