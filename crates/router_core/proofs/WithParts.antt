-- Where the same parts stand under the same keys, the same goes toward each hop.
use Rattle.std.specs.Prelude.{◌≡◌, ℕ, ◌++◌, List, Option, Some, refl}
use Rattle.std.specs.List.{filter_map}
use Rattle.std.proofs.Common.{sym, ap, ◌∙◌}
use Rattle.path_state.specs.Paths.{hops_by}
use Rattle.resv_state.specs.Resvs.{ResvFacts}
use Rattle.rsvp_base.specs.Keys.{pairs}
use Rattle.rsvp_base.specs.Orders.{senders, sessions, units}
use Rattle.rsvp_base.specs.Sets.{Set}
use Rattle.rsvp_base.specs.Table.{Table, changed, empty}
use Rattle.rsvp_base.specs.Under.{under}
use Rattle.rsvp_base.specs.declared.part.Part.{Part}
use Rattle.rsvp_base.specs.declared.session.Sender.{Sender}
use Rattle.rsvp_base.specs.declared.session.Session.{Session}
use Rattle.rsvp_base.specs.declared.style.StyleKind.{StyleKind}
use Rattle.rsvp_base.specs.declared.style.StyleKind.TheVariants.{Wild, Fixed, Shared}
use Rattle.rsvp_base.specs.declared.style.Unit.{Unit as UnitOf}
use Rattle.rsvp_base.proofs.Changed.{changed_twice, under_changed}
use Rattle.style_rules.specs.Lines.{LineKey, NextHop, line_keys, next_hops}
use Rattle.style_rules.specs.Parts.{part_cut}
use Rattle.style_rules.specs.Toward.{Request, toward as merged_toward}
use Rattle.router_rules.specs.Facts.{Facts, ResvState, ResvTables, Resvs, resvs_of, table_of, wants_in}
use Rattle.router_rules.specs.Known.{Lane, names_via_where}
use Rattle.router_rules.specs.NodeConfig.{NodeConfig, goes_out}
use Rattle.router_rules.specs.Offers.{Offer}
use Rattle.router_rules.specs.Requests.{request_of, resv_request, toward, want_request}
use Rattle.router_state.specs.State.{IsSaid, Said, State, facts_of, resv_at, table_in}
use Rattle.laws_sends.specs.Before.{IsBefore}
use Rattle.laws_sends.specs.Changed.{IsChangedFor}
use Rattle.laws_sends.specs.Told.{offered}
use Rattle.laws_sends.proofs.Apart.{resvs_at}
use Rattle.laws_sends.proofs.Towards.{then_filtered}
use Rattle.router_state.specs.Whole.{state_of}
use Rattle.router_state.specs.declared.tables.Tables.{Tables}
use Rattle.resv_admission.specs.Standing.{parts_in}
use Rattle.router_arrivals.specs.Taken.{AreSameParts}
use Rattle.resv_sends.proofs.Sent.{hops_are}
use Rattle.router_arrivals.proofs.Before.{is_before}

abbrev part_of_state : LineKey → ResvState → Option Part
part_of_state k r = Some r.part

-- the parts of reservations at a clock
parts_at : (c : ℕ) (m : ResvFacts) → changed part_of_state (changed (resv_at c) m) ≡ parts_in m
parts_at c m = changed_twice line_keys (resv_at c) part_of_state m

module _ (p : NodeConfig) (f : Facts) (rs : ResvTables) (l : Lane) (same : changed part_of_state (table_of l.style rs) ≡ changed part_of_state (resvs_of l.style f)) where
  -- what is left of a part toward the hop
  abbrev asked : (NextHop × UnitOf) × Part → Option Request
  asked e = request_of f.walls l (part_cut e.1 (names_via_where f l (goes_out p l.session e.0.0.0)))

  abbrev rows_in : Resvs → List ((NextHop × UnitOf) × ResvState)
  rows_in t = (under sessions (pairs next_hops units) t l.session).rows

  by_parts : (t : Resvs) → filter_map (resv_request p f l) (rows_in t) ≡ filter_map asked (under sessions (pairs next_hops units) (changed part_of_state t) l.session).rows
  by_parts t =
      sym
      (ap (λ (z : Table (pairs next_hops units) Part). filter_map asked z.rows) (under_changed sessions (pairs next_hops units) part_of_state t l.session)
      ∙ then_filtered (λ k (r : ResvState). Some r.part) asked (rows_in t))

  pub toward_with : toward p (record f { resvs = rs }) l ≡ toward p f l
  toward_with =
      let resvs : filter_map (resv_request p f l) (rows_in (table_of l.style rs)) ≡ filter_map (resv_request p f l) (rows_in (resvs_of l.style f)) =
      by_parts (table_of l.style rs) ∙ ap (λ (t : Table line_keys Part). filter_map asked (under sessions (pairs next_hops units) t l.session).rows) same ∙ sym (by_parts (resvs_of l.style f)) in
      λ i. merged_toward l.style (resvs i ++ filter_map (want_request f l) (wants_in f l.session).rows)

-- n and w are alike but for their reservations, whose parts are the same
pub toward_standing : (n w : State) → w ≡ record n { wild = w.wild; fixed = w.fixed; shared = w.shared } → ((st : StyleKind) → parts_in (table_in st w) ≡ parts_in (table_in st n))
    → (c : ℕ) (p : NodeConfig) (l : Lane) → toward p (facts_of c n) l ≡ toward p (facts_of c w) l
toward_standing n w rest same c p l =
    sym
    (ap (λ (z : State). toward p (facts_of c z) l) rest
    ∙ toward_with p (facts_of c n) (facts_of c w).resvs l
    (ap (changed part_of_state) (resvs_at l.style c w) ∙ parts_at c (table_in l.style w) ∙ same l.style ∙ sym (parts_at c (table_in l.style n))
    ∙ sym (ap (changed part_of_state) (resvs_at l.style c n))))

-- ---- tables with other reservations
pub any_sender : Sender
any_sender = record { addr = record { 0 = 0 }; port = 0 }

module _ (old new : Tables) (rest : new ≡ record old { wild = new.wild; fixed = new.fixed; shared = new.shared; book = new.book }) (said : Said) where
  pub standing_toward : AreSameParts (state_of old empty) (state_of new empty) → (c : ℕ) (p : NodeConfig) (l : Lane)
      → toward p (facts_of c (state_of old said)) l ≡ toward p (facts_of c (state_of new said)) l
  standing_toward same = toward_standing (state_of old said) (state_of new said) (ap (λ (t : Tables). state_of t said) rest) (λ st. by st (same st))
    where
      by : (st : StyleKind) → parts_in (table_in st (state_of new empty)) ≡ parts_in (table_in st (state_of old empty))
          → parts_in (table_in st (state_of new said)) ≡ parts_in (table_in st (state_of old said))
      by Wild e = e
      by Fixed e = e
      by Shared e = e

  -- what is offered of a sender, and the previous hops, are those from before
  module _ (x : Sender) (s : Session) (ch : IsChangedFor (s, x) (state_of old said) (state_of new said)) (told : IsSaid said (state_of old said)) where
    pub resv_before : (offer : Option Offer) → ((c : ℕ) → offer ≡ offered (facts_of c (state_of new said)) (s, x)) → (near : Set next_hops)
        → near ≡ hops_by (under sessions senders new.paths.facts s).rows → IsBefore (s, x) (state_of old said) (state_of new said) offer near
    resv_before offer offers near hops =
        is_before (s, x) (state_of old said) (state_of new said) ch refl told offer (λ c. offers c ∙ ap (λ (t : Tables). offered (facts_of c (state_of t said)) (s, x)) rest) near
        (λ c. hops ∙ ap (λ (t : Tables). hops_by (under sessions senders t.paths.facts s).rows) rest ∙ hops_are c (state_of old said) s)
