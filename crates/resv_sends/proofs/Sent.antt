-- What is told of a sender, and of its session's lanes, is what the rule sends.
use Rattle.std.specs.Prelude.{◌≡◌, ℕ, ◌+◌, Bool, true, false, not, ◌&&◌, List, ◌++◌, map as each, fold, Option, Some, None, refl}
use Rattle.std.specs.List.{filter_map, flat_map}
use Rattle.std.specs.Option.{option_map}
use Rattle.std.proofs.Common.{sym, ap, subst, ◌∙◌, ⊎_elim}
use Rattle.std.proofs.lemmas.List.{append_assoc}
use Rattle.std.proofs.lemmas.List.Sums.{fold-append}
use Rattle.std.proofs.lemmas.Option.{same_Some}
use Rattle.path_state.specs.Paths.{hops_by, path_keys, hop_of as hop_of_fact}
use Rattle.path_state.specs.declared.fact.PathFact.{PathFact}
use Rattle.rsvp_base.specs.Members.{In}
use Rattle.rsvp_base.specs.Orders.{senders, sessions}
use Rattle.rsvp_base.specs.Sets.{Set}
use Rattle.rsvp_base.specs.Table.{changed, empty, get, has, keys}
use Rattle.rsvp_base.specs.TokenBucket.{TokenBucket}
use Rattle.rsvp_base.specs.Under.{under}
use Rattle.rsvp_base.specs.declared.session.Sender.{Sender}
use Rattle.rsvp_base.specs.declared.session.Session.{Session}
use Rattle.rsvp_base.proofs.Changed.{changed_same}
use Rattle.rsvp_base.proofs.Counts.{found_in, in_found, in_set_of, set_of_in}
use Rattle.rsvp_base.proofs.Members.{in_each, to_each}
use Rattle.rsvp_base.proofs.SetLaws.{same_set}
use Rattle.rsvp_base.proofs.Tables.{get-changed, got_changed, then_do}
use Rattle.rsvp_base.proofs.UnderLaws.{get-under}
use Rattle.style_rules.specs.Lines.{NextHop, next_hops}
use Rattle.style_rules.specs.Toward.{or_else}
use Rattle.laws_bounds.proofs.Tests.{came_tested, came_told}
use Rattle.router_rules.specs.Facts.{Facts, PathState, SenderKey, Wants, want_keys}
use Rattle.router_rules.specs.Inputs.{Asked, Change, Send, only_heard}
use Rattle.router_rules.specs.Known.{Lane, lanes}
use Rattle.router_rules.specs.Offers.{Offer, own_offer, path_offer}
use Rattle.router_rules.specs.Requests.{toward}
use Rattle.router_rules.specs.NodeConfig.{is_session}
use Rattle.router_rules.specs.Sends.{conf_sends, confirmed, error_sends, resv_send_to, resv_tear, sends, unmarked, used_marks}
use Rattle.router_rules.specs.declared.answers.Heard.{Heard}
use Rattle.laws_sends.specs.State.{Said, State, facts_of, path_at, said_at}
use Rattle.laws_sends.proofs.Routed.{same_test}
use Rattle.laws_sends.specs.Before.{IsBefore, lanes_by}
use Rattle.laws_sends.specs.Saying.{AreLanesOf, IsCleared, SessionLane, lane_by, told_seen, torn_seen}
use Rattle.laws_sends.specs.Marks.{unmarked_in, used_in}
use Rattle.laws_sends.specs.SendsHere.{hops_in, lanes_at}
use Rattle.laws_sends.specs.Told.{offered, told_gone}
use Rattle.laws_sends.proofs.Apart.{changed_at}
use Rattle.laws_sends.proofs.Changing.{one_session_is_told}
use Rattle.laws_sends.proofs.Lanes.{hops_made, hops_told}
use Rattle.laws_sends.proofs.Marks.{marks_of_one_session}
use Rattle.laws_sends.proofs.Telling.{are_lanes, lanes_are, sends_by_lane, tears_by_lane}
use Rattle.path_sends.specs.Offering.{fact_offer}
use Rattle.resv_sends.specs.Halves.{address_of, told_before, told_behind, used_where}
use Rattle.resv_sends.specs.Rounds.{told_by, torn_by}
use Rattle.resv_sends.proofs.Listed.{same_told}

-- ---- offers, as the tables have them
module _ (c : ℕ) (n : State) (k : SenderKey) where
  path_is : option_map path_offer (get (facts_of c n).paths k) ≡ option_map fact_offer (option_map (λ (e : PathFact × ℕ). e.0) (get n.paths k))
  path_is = ap (option_map path_offer) (get-changed path_keys (path_at c) n.paths k) ∙ by (get n.paths k)
    where
      by : (w : Option (PathFact × ℕ)) → option_map path_offer (then_do w (path_at c k)) ≡ option_map fact_offer (option_map (λ (e : PathFact × ℕ). e.0) w)
      by None = refl
      by (Some e) = refl

  pub own_seen : (tspec : TokenBucket) (advertised : Bool) → get n.senders k ≡ Some tspec → has n.advertised k ≡ advertised → Some (own_offer advertised tspec) ≡ offered (facts_of c n) k
  own_seen tspec advertised e f = sym (λ i. or_else (option_map (own_offer (f i)) (e i)) (option_map path_offer (get (facts_of c n).paths k)))

  pub path_seen : get n.senders k ≡ None → (w : Option PathFact) → w ≡ option_map (λ e. e.0) (get n.paths k) → option_map fact_offer w ≡ offered (facts_of c n) k
  path_seen none w e =
      ap (option_map fact_offer) e ∙ sym path_is
      ∙ sym (ap (λ v. or_else (option_map (own_offer (has n.advertised k)) v) (option_map path_offer (get (facts_of c n).paths k))) none)

-- ---- previous hops, as the table of paths has them
pub hops_are : (c : ℕ) (n : State) (s : Session) → hops_by (under sessions senders n.paths s).rows ≡ hops_in (facts_of c n) s
hops_are c n s = same_set next_hops _ _ (λ hop. same_test _ _ (to hop) (from hop))
  where
    rows : List (Sender × (PathFact × ℕ))
    rows = (under sessions senders n.paths s).rows

    to : (hop : NextHop) → has (hops_by rows) hop ≡ true → has (hops_in (facts_of c n) s) hop ≡ true
    to hop h =
        let a = in_each hop_of_fact hop rows (set_of_in next_hops (each hop_of_fact rows) hop h) in
        let there = sym (get-under sessions senders n.paths s a.0.0) ∙ in_found senders (under sessions senders n.paths s) a.0.0 a.0.1 a.1 in
        let path : PathState = record { iface = a.0.1.0.iface; hop = a.0.1.0.hop; tspec = a.0.1.0.tspec; police = a.0.1.0.police; adspec = a.0.1.0.adspec; dies = c + a.0.1.1 } in
        let fact : get (facts_of c n).paths (s, a.0.0) ≡ Some path = get-changed path_keys (path_at c) n.paths (s, a.0.0) ∙ ap (λ w. then_do w (path_at c (s, a.0.0))) there in
        hops_made (facts_of c n) s hop a.0.0 (record { path = path; there = fact; by = came_tested hop path (λ i. (sym a.2 i).0, λ i. (sym a.2 i).1) })

    from : (hop : NextHop) → has (hops_in (facts_of c n) s) hop ≡ true → has (hops_by rows) hop ≡ true
    from hop h =
        let t = hops_told (facts_of c n) s hop h in
        let came = came_told hop t.1.path t.1.by in
        let g = got_changed path_keys (path_at c) n.paths (s, t.0) t.1.path t.1.there in
        let is = same_Some _ _ g.2 in
        let row = found_in senders (under sessions senders n.paths s) t.0 g.0 (get-under sessions senders n.paths s t.0 ∙ g.1) in
        let same : ◌≡◌ {A = NextHop} (hop_of_fact (t.0, g.0)) hop = let a = ap (λ (y : PathState). y.iface) is ∙ came.0 in let b = ap (λ (y : PathState). y.hop.addr) is ∙ came.1 in λ i. (a i, b i) in
        ap (λ z. has (hops_by rows) z) (sym same) ∙ in_set_of next_hops (each hop_of_fact rows) (hop_of_fact (t.0, g.0)) (to_each hop_of_fact (t.0, g.0) rows row)

-- ---- two lists of sends, one after another
pub two_sent : {B : Type 0} (posted : B → Send → B) (start one two : B) (a b : List Send) → one ≡ fold posted start a → two ≡ fold posted one b → two ≡ fold posted start (a ++ b)
two_sent posted start one two a b e d = d ∙ ap (λ o. fold posted o b) e ∙ sym (fold-append posted start a b)

-- ---- what the rule sends
module _ (k : SenderKey) (n m : State) (before : Option Offer) (near : Set next_hops) (b : IsBefore k n m before near) (c : ℕ) where
  abbrev f : Facts
  f = facts_of c n

  abbrev g : Facts
  g = facts_of c m

  was : (l : Lane) → said_at m.said l ≡ toward m.place f l
  was l = ap (λ z. said_at z l) b.same ∙ b.said.at c l ∙ ap (λ p. toward p f l) b.change.place

  pub tears_are : flat_map (torn_by c m m.said k.0) (lanes_by (keys near)) ≡ flat_map (resv_tear m.place m.place f g) (lanes_at k.0 (keys (hops_in f k.0)))
  unfolding torn_seen
  tears_are =
      tears_by_lane m.place f g k.0 m.said was (lanes_by (keys near)) ∙ ap (flat_map (resv_tear m.place m.place f g)) (lanes_are k.0 (keys near))
      ∙ ap (λ (hs : Set next_hops). flat_map (resv_tear m.place m.place f g) (lanes_at k.0 (keys hs))) (b.hops c)

  by_lane : (asked : Option Asked) (es : List SessionLane) → flat_map (told_by c m (address_of asked) false m.said k.0) es
      ≡ filter_map (resv_send_to m.place m.place f g empty asked) (each (lane_by k.0) es)
  unfolding told_seen
  by_lane asked es = sends_by_lane m.place f g k.0 m.said was asked es

  pub resvs_are : (asked : Option Asked) (hops : Set next_hops) → hops ≡ hops_in g k.0 → (said : Said) → IsCleared m k.0 (lanes_by (keys near)) said
      → flat_map (told_by c m (address_of asked) false said k.0) (lanes_by (keys hops)) ≡ filter_map (resv_send_to m.place m.place f g empty asked) (lanes_at k.0 (keys (hops_in g k.0)))
  resvs_are asked hops is said cleared =
      ap (λ (hs : Set next_hops). flat_map (told_by c m (address_of asked) false said k.0) (lanes_by (keys hs))) is
      ∙ same_told c m (address_of asked) false m.said said k.0 (lanes_by (keys (hops_in g k.0))) same
      ∙ by_lane asked (lanes_by (keys (hops_in g k.0))) ∙ ap (filter_map (resv_send_to m.place m.place f g empty asked)) (lanes_are k.0 (keys (hops_in g k.0)))
    where
      same : (e : SessionLane) → In e (lanes_by (keys (hops_in g k.0))) → said_at said (lane_by k.0 e) ≡ said_at m.said (lane_by k.0 e)
      same e i =
          ⊎_elim (λ (s : said_at said (lane_by k.0 e) ≡ said_at m.said (lane_by k.0 e)). s)
          (λ (none : (said_at said (lane_by k.0 e) ≡ empty) × (has (lanes g) (lane_by k.0 e) ≡ false)). let z : true ≡ false = sym ((are_lanes k.0 g).only e i) ∙ none.1 in absurd (cc))
          (cleared.at c (lane_by k.0 e))

  -- the rule's sends, in two halves
  pub sends_with : (ch : Change) → ch.fired ≡ empty
      → sends n.place n.place f g ch ≡ told_before n.place k f g ++ (error_sends ch.errors ++ (conf_sends (ch.confs ++ confirmed n.place n.place f g ch.asked) ++ told_behind n.place k f g ch.asked))
  sends_with ch none =
      one_session_is_told n.place k f g ch (changed_at k n m b.change c n.place) none
      ∙ sym (append_assoc (told_gone n.place k (offered f k) (offered g k)) (flat_map (resv_tear n.place n.place f g) (lanes_at k.0 (keys (hops_in f k.0)))) _)

  pub sends_are : (h : Heard) → told_before n.place k f g ++ told_behind n.place k f g None ≡ sends n.place n.place f g (only_heard h g)
  sends_are h = sym (sends_with (only_heard h g) refl)

  -- marks that are used
  unmarked_none : (ws : Wants) → changed (unmarked_in k.0 empty) ws ≡ changed (unmarked empty) ws
  unmarked_none ws = changed_same want_keys (unmarked_in k.0 empty) (unmarked empty) (λ key w. λ i. Some (record w { confirm = w.confirm && not (none (is_session k.0 key.0) i) })) ws
    where
      none : (t : Bool) → (t && false) ≡ false
      none true = refl
      none false = refl

  pub marks_are : (asked : Option Asked) (hops : Set next_hops) → hops ≡ hops_in g k.0
      → changed (unmarked_in k.0 (used_where (address_of asked) (used_in m.place g k.0 m.said (lanes_by (keys hops))))) g.wants ≡ changed (unmarked (used_marks n.place n.place f g asked)) g.wants
  marks_are (Some a) hops is = unmarked_none g.wants
  marks_are None hops is =
      ap (λ (hs : Set next_hops). changed (unmarked_in k.0 (used_in m.place g k.0 m.said (lanes_by (keys hs)))) g.wants) is
      ∙ sym (marks_of_one_session.used m.place k f g m.said (changed_at k n m b.change c m.place) was)
      ∙ ap (λ p. changed (unmarked (used_marks p p f g None)) g.wants) (sym b.change.place)

-- the lanes toward a session's previous hops are its lanes
pub lanes_before : (n : State) (k : SenderKey) (near : Set next_hops) → ((c : ℕ) → near ≡ hops_in (facts_of c n) k.0) → (c : ℕ) → AreLanesOf (facts_of c n) k.0 (lanes_by (keys near))
lanes_before n k near hops c = subst (λ (hs : Set next_hops). AreLanesOf (facts_of c n) k.0 (lanes_by (keys hs))) (sym (hops c)) (are_lanes k.0 (facts_of c n))
