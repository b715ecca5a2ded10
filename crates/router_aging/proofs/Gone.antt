-- A sender that goes, and its names with it, is what the rule forgets.
use Rattle.std.specs.Prelude.{◌≡◌, ℕ, ◌+◌, Bool, true, false, cond, not, ◌&&◌, ◌||◌, is_some, [], ◌∷◌, Option, Some, None, refl}
use Rattle.std.specs.List.{cons_option, list_any}
use Rattle.std.specs.Option.{option_map}
use Rattle.std.specs.Ordering.{eq_by_cmp}
use Rattle.std.proofs.Common.{sym, ap, subst, ◌∙◌}
use Rattle.std.proofs.lemmas.Option.{same_Some}
use Rattle.rsvp_base.specs.Orders.{sessions}
use Rattle.rsvp_base.specs.Sets.{Set, set_of}
use Rattle.rsvp_base.specs.Table.{changed, empty, get, has, kept, put_in}
use Rattle.rsvp_base.specs.declared.part.Part.{Part}
use Rattle.rsvp_base.specs.declared.session.Sender.{Sender}
use Rattle.rsvp_base.specs.declared.session.Session.{Session}
use Rattle.rsvp_base.specs.declared.style.StyleKind.{StyleKind}
use Rattle.rsvp_base.specs.declared.style.StyleKind.TheVariants.{Wild, Fixed, Shared}
use Rattle.rsvp_base.specs.Styles.{name_of}
use Rattle.rsvp_base.proofs.Tables.{either, get-changed, get-put_in, got_changed, then_do, tied_same, tied_self}
use Rattle.resv_state.specs.Leaving.{forgotten, left_of as resv_left}
use Rattle.resv_state.specs.Resvs.{ResvFacts}
use Rattle.resv_state.specs.declared.fact.ResvFact.{ResvFact}
use Rattle.style_rules.specs.CutLaws.{made_named}
use Rattle.style_rules.specs.Lines.{LineKey, line_keys}
use Rattle.style_rules.specs.Parts.{has_name, part_kept}
use Rattle.router_rules.specs.Asking.{left_of, with_part}
use Rattle.router_rules.specs.Facts.{Facts, ResvState, Resvs, SenderKey, resvs_of, sender_keys}
use Rattle.router_rules.specs.Forgetting.{forget, is_lost, remembered}
use Rattle.router_rules.specs.Known.{known, named_as}
use Rattle.router_state.specs.Forgotten.{forgotten_all, is_gone}
use Rattle.router_state.specs.State.{AreNamed, State, facts_of, resv_at, table_in}
use Rattle.router_state.proofs.Leaving.{forgets}
use Rattle.laws_sends.specs.Changed.{IsChangedFor}
use Rattle.router_aging.specs.Losing.{lost_names}
use Rattle.router_aging.proofs.Names.{known_by, names_of_the_dead}
use Rattle.router_aging.proofs.Offers.{known_is}
use Rattle.router_aging.specs.Steps.{names_gone}

-- ---- each reservation that is left names someone
pub left_named : (test : Sender → Bool) (e r : ResvState) → left_of test e ≡ Some r → has_name r.part ≡ true
left_named test e r h = by (part_kept test e.part) refl h
  where
    by : (w : Option Part) → part_kept test e.part ≡ w → option_map (with_part e) w ≡ Some r → has_name r.part ≡ true
    by None is h = cc
    by (Some q) is h = let same : with_part e q ≡ r = same_Some (with_part e q) r h in ap (λ (z : ResvState). has_name z.part) (sym same) ∙ made_named (kept test e.part.senders) e.part.flow q is

pub forget_named : (f g : Facts) → AreNamed (forget f g)
forget_named f g st k r h = by st h
  where
    of : (st : StyleKind) (t : Resvs) → get (changed (remembered st f g) t) k ≡ Some r → has_name r.part ≡ true
    of st t e = let w = got_changed line_keys (remembered st f g) t k r e in left_named (λ x. not (is_lost st f g k.0 x)) w.0 r w.2

    by : (st : StyleKind) → get (resvs_of st (forget f g)) k ≡ Some r → has_name r.part ≡ true
    by Wild e = of Wild g.resvs.wild e
    by Fixed e = of Fixed g.resvs.fixed e
    by Shared e = of Shared g.resvs.shared e

-- ---- n is what there was, m without the sender, whose names are to go
module _ (n m : State) (k : SenderKey) (named : (c : ℕ) → AreNamed (facts_of c m)) (was : (has n.senders k || has n.paths k) ≡ true) (ch : IsChangedFor k n m) where
  abbrev gone : Set sender_keys
  gone = put_in empty k tt

  abbrev there_if : Bool → Option (Unit {0})
  there_if b = cond b (Some tt) None

  is_of : (j : SenderKey) → has gone j ≡ is_some (there_if (eq_by_cmp sender_keys.cmp j k))
  is_of j = ap is_some (get-put_in sender_keys empty k tt j)

  module _ (c : ℕ) where
    were : (j : SenderKey) → has gone j ≡ true → has (known (facts_of c n) j.0) j.1 ≡ true
    were j h =
        either (eq_by_cmp sender_keys.cmp j k) (λ t. let e = tied_same sender_keys j k t in known_by c n j.0 j.1 ∙ ap (λ (z : SenderKey). has n.senders z || has n.paths z) e ∙ was)
        (λ off. let z : true ≡ false = sym h ∙ is_of j ∙ ap (λ b. is_some (there_if b)) off in absurd (cc))

    all : (j : SenderKey) → has (known (facts_of c n) j.0) j.1 ≡ true → has (known (facts_of 0 m) j.0) j.1 ≡ false → has gone j ≡ true
    all j there left =
        either (eq_by_cmp sender_keys.cmp k j)
        (λ t. let e = tied_same sender_keys k j t in is_of j ∙ ap (λ b. is_some (there_if b)) (ap (λ z. eq_by_cmp sender_keys.cmp z k) (sym e) ∙ tied_self sender_keys k))
        (λ off. let z : true ≡ false = sym there ∙ known_by c n j.0 j.1 ∙ (λ i. is_some (ch.senders j off i) || is_some (ch.paths j off i)) ∙ sym (known_by 0 m j.0 j.1) ∙ left in absurd (cc))

    lost : (st : StyleKind) (s : Session) (x : Sender) → list_any (is_gone s x) (lost_names st (facts_of 0 m) (k ∷ [])) ≡ is_lost st (facts_of c n) (facts_of c m) s x
    lost st s x =
        names_of_the_dead st (facts_of c n) (facts_of 0 m) gone were all s x
        ∙ ap (λ names. has (named_as st (known (facts_of c n) s)) x && not (has (named_as st names) x)) (sym (known_is 0 m s) ∙ known_is c m s)

    seen : (t : ResvFacts) (q : LineKey) (e : ResvFact × ℕ) → get t q ≡ Some e → get (changed (resv_at 0) t) q ≡ Some (record { part = e.0.part; confirm = e.0.confirm; dies = 0 + e.1 })
    seen t q e h = get-changed line_keys (resv_at 0) t q ∙ ap (λ w. then_do w (resv_at 0 q)) h

    leaves : (st : StyleKind) (t : ResvFacts) → ((q : LineKey) (e : ResvFact × ℕ) → get t q ≡ Some e → has_name e.0.part ≡ true)
        → changed (resv_at c) (forgotten_all (lost_names st (facts_of 0 m) (k ∷ [])) t) ≡ changed (remembered st (facts_of c n) (facts_of c m)) (changed (resv_at c) t)
    leaves st t each = forgets st (facts_of c n) (facts_of c m) c (lost_names st (facts_of 0 m) (k ∷ [])) t each (lost st)

    pub gone_is_forgotten : facts_of c (names_gone k m) ≡ forget (facts_of c n) (facts_of c m)
    gone_is_forgotten =
        let wild = leaves Wild m.wild (λ q e h. named 0 Wild q _ (seen m.wild q e h)) in
        let fixed = leaves Fixed m.fixed (λ q e h. named 0 Fixed q _ (seen m.fixed q e h)) in
        let shared = leaves Shared m.shared (λ q e h. named 0 Shared q _ (seen m.shared q e h)) in
        λ i. record (facts_of c m) { resvs = record { wild = wild i; fixed = fixed i; shared = shared i } }

    pub gone_named : AreNamed (facts_of c (names_gone k m))
    gone_named = subst AreNamed (sym gone_is_forgotten) (forget_named (facts_of c n) (facts_of c m))

-- ---- reservations of other sessions are as they were
kept_away : (st : StyleKind) (m : State) (k : SenderKey) (t : ResvFacts) (q : LineKey) → eq_by_cmp sessions.cmp k.0 q.0 ≡ false
    → get t q ≡ get (forgotten_all (lost_names st (facts_of 0 m) (k ∷ [])) t) q
kept_away st m k t q off = by (has (named_as st (known (facts_of 0 m) k.0)) (name_of st k.1))
  where
    stays : (w : Option (ResvFact × ℕ)) → w ≡ then_do w (forgotten k.0 (name_of st k.1) q)
    stays None = refl
    stays (Some e) = sym (ap (λ b. cond b (resv_left (set_of (name_of st k.1 ∷ [])) e) (Some e)) off)

    by : (b : Bool) → get t q ≡ get (forgotten_all (cons_option (cond b None (Some (k.0, name_of st k.1))) []) t) q
    by true = refl
    by false = stays (get t q) ∙ sym (get-changed line_keys (forgotten k.0 (name_of st k.1)) t q)

pub gone_apart : (n m : State) (k : SenderKey) → IsChangedFor k n m → IsChangedFor k n (names_gone k m)
gone_apart n m k ch = record { place = ch.place; senders = ch.senders; advertised = ch.advertised; paths = ch.paths; wants = ch.wants; walls = ch.walls; resvs = same }
  where
    same : (st : StyleKind) (q : LineKey) → eq_by_cmp sessions.cmp k.0 q.0 ≡ false → get (table_in st n) q ≡ get (table_in st (names_gone k m)) q
    same Wild q off = ch.resvs Wild q off ∙ kept_away Wild m k m.wild q off
    same Fixed q off = ch.resvs Fixed q off ∙ kept_away Fixed m k m.fixed q off
    same Shared q off = ch.resvs Shared q off ∙ kept_away Shared m k m.shared q off
