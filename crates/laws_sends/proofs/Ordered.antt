-- The lanes and the offers of sessions, session after session.
use Rattle.std.specs.Prelude.{◌≡◌, Bool, true, false, cond, List, [], ◌∷◌, map as each, refl}
use Rattle.std.specs.List.{filter, flat_map}
use Rattle.std.specs.Ordering.{eq_by_cmp, is_lt}
use Rattle.std.specs.FinMap.Entries.{where_key}
use Rattle.std.proofs.Common.{sym, ap, ◌∙◌}
use Rattle.rsvp_base.specs.Keys.{pairs}
use Rattle.rsvp_base.specs.Members.{In}
use Rattle.rsvp_base.specs.Orders.{sessions, senders}
use Rattle.rsvp_base.specs.Table.{keys}
use Rattle.rsvp_base.specs.Under.{rows_under}
use Rattle.rsvp_base.specs.declared.session.Session.{Session}
use Rattle.rsvp_base.proofs.Members.{in_each}
use Rattle.rsvp_base.proofs.Tables.{tied_same}
use Rattle.router_rules.specs.Facts.{Facts, SenderKey, sender_keys}
use Rattle.router_rules.specs.Known.{Lane, lane_keys, lanes}
use Rattle.router_rules.specs.Offers.{Offer}
use Rattle.laws_sends.proofs.Elsewhere.{is_at}
use Rattle.laws_sends.proofs.Lanes.{lanes_in_order}
use Rattle.laws_sends.specs.SendsHere.{hops_in, lanes_at}
use Rattle.laws_sends.specs.Several.{AreSessions, is_among, known_offers, lanes_for, offer_of, offers_for, offers_in}
use Rattle.laws_sends.specs.SeveralLaws.{InOrder}
use Rattle.laws_sends.proofs.Grouping.{Rises, begins_so, grouped, rows_rise}

flat_same : {A B : Type 0} (g h : A → List B) → ((x : A) → g x ≡ h x) → (xs : List A) → flat_map g xs ≡ flat_map h xs
flat_same g h same xs = λ i. flat_map (λ x. same x i) xs

-- ---- lanes
keys_each : (es : List (Lane × Unit {0})) → Rises (λ (e : Lane × Unit {0}). e.0.session) es → Rises (λ (l : Lane). l.session) (each (λ e. e.0) es)
keys_each [] h = tt
keys_each (e ∷ es) h = (λ y i. by y es h.0 i, keys_each es h.1)
  where
    by : (y : Lane) (fs : List (Lane × Unit {0})) → ((f : Lane × Unit {0}) → In f fs → is_lt (sessions.cmp f.0.session e.0.session) ≡ false) → In y (each (λ e. e.0) fs)
        → is_lt (sessions.cmp y.session e.0.session) ≡ false
    by y fs h i = let r = in_each (λ (e : Lane × Unit {0}). e.0) y fs i in ap (λ (z : Lane). is_lt (sessions.cmp z.session e.0.session)) r.2 ∙ h r.0 r.1

lanes_rise : (f : Facts) → Rises (λ (l : Lane). l.session) (keys (lanes f))
lanes_rise f = keys_each (lanes f).rows (rows_rise lane_keys (λ (l : Lane). l.session) (λ a b h. begins_so a.session b.session _ h) (lanes f).rows (lanes f).sorted)

pub lanes_grouped : (ss : List Session) → AreSessions ss → (f : Facts) → filter (λ l. is_among ss l.session) (keys (lanes f)) ≡ lanes_for ss f
lanes_grouped ss up f = grouped (λ (l : Lane). l.session) ss up (keys (lanes f)) (lanes_rise f)
    ∙ flat_same (λ s. filter (is_at s) (keys (lanes f))) (λ s. lanes_at s (keys (hops_in f s))) (λ s. lanes_in_order s f) ss

-- ---- offers
offers_rise : (f : Facts) → Rises (λ (e : SenderKey × Offer). e.0.0) (known_offers f).rows
offers_rise f = rows_rise sender_keys (λ (k : SenderKey). k.0) (λ a b h. begins_so a.0 b.0 _ h) (known_offers f).rows (known_offers f).sorted

of_session : (s : Session) (es : List (SenderKey × Offer)) → filter (λ e. eq_by_cmp sessions.cmp s e.0.0) es ≡ each (offer_of s) (rows_under sessions senders s es)
of_session s [] = refl
of_session s (e ∷ es) = by (eq_by_cmp sessions.cmp s e.0.0) refl (of_session s es)
  where
    by : (b : Bool) → eq_by_cmp sessions.cmp s e.0.0 ≡ b → filter (λ e. eq_by_cmp sessions.cmp s e.0.0) es ≡ each (offer_of s) (rows_under sessions senders s es)
        → cond b (e ∷ filter (λ e. eq_by_cmp sessions.cmp s e.0.0) es) (filter (λ e. eq_by_cmp sessions.cmp s e.0.0) es)
        ≡ each (offer_of s) (each (λ e. (e.0.1, e.1)) (cond b (e ∷ where_key (pairs sessions senders).cmp (λ k. eq_by_cmp sessions.cmp s k.0) es)
        (where_key (pairs sessions senders).cmp (λ k. eq_by_cmp sessions.cmp s k.0) es)))
    by true t rest = let same = tied_same sessions s e.0.0 t in λ i. ((sym same i, e.0.1), e.1) ∷ rest i
    by false t rest = rest

pub offers_grouped : (ss : List Session) → AreSessions ss → (f : Facts) → filter (λ e. is_among ss e.0.0) (known_offers f).rows ≡ offers_for ss f
offers_grouped ss up f =
    grouped (λ (e : SenderKey × Offer). e.0.0) ss up (known_offers f).rows (offers_rise f)
    ∙ flat_same (λ s. filter (λ e. eq_by_cmp sessions.cmp s e.0.0) (known_offers f).rows) (λ s. each (offer_of s) (offers_in f s).rows) (λ s. of_session s (known_offers f).rows) ss

pub in_order : InOrder
in_order = record { lanes = lanes_grouped; offers = offers_grouped }
